-- What the calls' promises leave open: nothing. `proofs/Promises.antt` proves it.
-- Assumes nothing.
use Rattle.std.specs.Prelude.{◌≡◌, Bool, List, ℕ, Result}
use Rattle.refusal.specs.Numbers.{number_in}
use Rattle.refusal.specs.declared.Refusal.{Refusal}
use Rattle.payload.specs.Promises.{One}
use Rattle.lsp.specs.declared.path.Lsp.{Lsp}
use Rattle.field.specs.Field.{write_of, path_of, is_field}

pub record OneOutcome : Type 0 where
  -- the answer, by its number, and the lent octets afterwards
  pub write : (l : Lsp) (b : List ℕ) → One (Result (Unit {0}) Refusal × List ℕ) (λ r. (number_in r.0, r.1) ≡ write_of l b)
  pub path_of : (s : List ℕ) → One Lsp (λ r. r ≡ path_of s)
  pub is_field : (s : List ℕ) → One Bool (λ r. r ≡ is_field s)
