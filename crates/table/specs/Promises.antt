-- What the calls' promises leave open: nothing. Two outcomes that meet a call's promise are equal. `proofs/Promises.antt` proves it.
-- Assumes nothing.
use Rattle.std.specs.Prelude.{◌≡◌, List, ℕ, Result}
use Rattle.refusal.specs.Numbers.{number_in}
use Rattle.refusal.specs.declared.Refusal.{Refusal}
use Rattle.payload.specs.Promises.{One}
use Rattle.table.specs.Steps.{empty, present, add_of, receive_of, close_of, server_of, write_row_of}
use Rattle.table.specs.declared.paths.Table.{Table}
use Rattle.table.specs.Outcomes.{added_in, received_in, closed_in, signalled_in}
use Rattle.lsp.specs.declared.close.Closed.{Closed}
use Rattle.payload.specs.declared.found.Found.{Found}

pub record OneOutcome : Type 0 where
  pub empty_table : One Table (λ r. r ≡ empty)
  pub present : (t : Table) → One ℕ (λ r. r ≡ present t)
  pub add : (t : Table) (kind : ℕ) (ttsi : List ℕ) (dl : ℕ) → One (Result (ℕ × Table) Refusal) (λ r. added_in t r ≡ add_of t kind ttsi dl)
  pub receive : (t : Table) (i : ℕ) (p : List ℕ) → One (Result (Found × Table) Refusal) (λ r. received_in t r ≡ receive_of t i p)
  pub close : (t : Table) (i : ℕ) → One (Result (Closed × Table) Refusal) (λ r. closed_in t r ≡ close_of t i)
  pub server : (t : Table) (i v : ℕ) → One (Result Table Refusal) (λ r. signalled_in t r ≡ server_of t i v)
  -- the answer, by its number, and the lent octets afterwards
  pub write_fdi : (t : Table) (i : ℕ) (b : List ℕ) → One (Result (Unit {0}) Refusal × List ℕ) (λ r. (number_in r.0, r.1) ≡ write_row_of 0x02 t i b)
  pub write_bdi : (t : Table) (i : ℕ) (b : List ℕ) → One (Result (Unit {0}) Refusal × List ℕ) (λ r. (number_in r.0, r.1) ≡ write_row_of 0x03 t i b)
