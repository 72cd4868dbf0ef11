-- What the calls' promises leave open: nothing. Two outcomes that meet a call's promise are equal. `proofs/Promises.antt` proves it.
-- Assumes nothing.
use Rattle.std.specs.Prelude.{◌≡◌, Bool, List, ℕ, Result}
use Rattle.refusal.specs.Numbers.{number_in}
use Rattle.refusal.specs.declared.Refusal.{Refusal}
use Rattle.payload.specs.declared.found.Found.{Found}
use Rattle.payload.specs.Promises.{One}
use Rattle.lsp.specs.Steps.{new_of, same, server_of, receive_of, out_of, close_of, write_row_of}
use Rattle.lsp.specs.Sound.{is_row, is_code, is_stood, is_availability, is_fdi, sound}
use Rattle.lsp.specs.declared.path.Fdi.{Fdi}
use Rattle.window.specs.declared.state.Defect.{Defect}
use Rattle.window.specs.declared.state.Availability.{Availability}
use Rattle.lsp.specs.InPlace.{close_here_of}
use Rattle.lsp.specs.declared.path.Lsp.{Lsp}
use Rattle.lsp.specs.declared.close.Out.{Out}
use Rattle.lsp.specs.Outcomes.{signalled_in, received_in, closed_in, here_in}
use Rattle.lsp.specs.declared.close.Closed.{Closed}

pub record OneOutcome : Type 0 where
  pub new : (kind : ℕ) (ttsi : List ℕ) (dl : ℕ) → One Lsp (λ r. r ≡ new_of kind ttsi dl)
  pub server : (l : Lsp) (v : ℕ) → One (Result Lsp Refusal) (λ r. signalled_in l r ≡ server_of l v)
  pub receive : (l : Lsp) (p : List ℕ) → One (Result (Found × Lsp) Refusal) (λ r. received_in l r ≡ receive_of l p)
  pub out : (l : Lsp) → One Out (λ r. r ≡ out_of l)
  pub close : (l : Lsp) → One (Result (Closed × Lsp) Refusal) (λ r. closed_in l r ≡ close_of l)
  -- the answer and the record afterwards
  pub close_in_place : (l : Lsp) → One (Result Closed Refusal × Lsp) (λ r. (here_in r.0, r.1) ≡ close_here_of l)
  -- the answer, by its number, and the lent octets afterwards
  pub write_fdi : (l : Lsp) (b : List ℕ) → One (Result (Unit {0}) Refusal × List ℕ) (λ r. (number_in r.0, r.1) ≡ write_row_of 0x02 l b)
  pub write_bdi : (l : Lsp) (b : List ℕ) → One (Result (Unit {0}) Refusal × List ℕ) (λ r. (number_in r.0, r.1) ≡ write_row_of 0x03 l b)
  pub expects : (l : Lsp) (t : List ℕ) → One Bool (λ r. r ≡ same t l.ttsi)
  pub is_sound : (l : Lsp) → One Bool (λ r. r ≡ sound l)
  pub row_holds : (cut closed : ℕ) (row : List ℕ) → One Bool (λ r. r ≡ is_row cut closed row)
  pub code_holds : (d : Defect) (stood : ℕ) → One Bool (λ r. r ≡ is_code d stood)
  pub stood_holds : (closed stood : ℕ) → One Bool (λ r. r ≡ is_stood closed stood)
  pub availability_holds : (kind closed stood : ℕ) (a : Availability) → One Bool (λ r. r ≡ is_availability kind closed stood a)
  pub fdi_holds : (kind : ℕ) (f : Fdi) → One Bool (λ r. r ≡ is_fdi kind f)
