-- What the calls' promises leave open: nothing. `proofs/Promises.antt` proves it.
-- Assumes nothing.
use Rattle.std.specs.Prelude.{◌≡◌, Bool, List, ℕ, Result}
use Rattle.refusal.specs.Numbers.{number_in}
use Rattle.refusal.specs.declared.Refusal.{Refusal}
use Rattle.payload.specs.Promises.{One}
use Rattle.lsp.specs.Steps.{same}
use Rattle.table.specs.declared.paths.Table.{Table}
use Rattle.image.specs.Image.{length_of, save_of, is_image, image_in, restore_of}
use Rattle.image.specs.Outcomes.{restored_in}

pub record OneOutcome : Type 0 where
  pub size : (t : Table) → One ℕ (λ r. r ≡ length_of t)
  -- the answer, by its number, and the lent octets afterwards
  pub save : (t : Table) (b : List ℕ) → One (Result (Unit {0}) Refusal × List ℕ) (λ r. (number_in r.0, r.1) ≡ save_of t b)
  pub begins : (s : List ℕ) → One Bool (λ r. r ≡ is_image (image_in s))
  pub restore : (im : List ℕ) → One (Result Table Refusal) (λ r. restored_in r ≡ restore_of im)
  pub same_octets : (a b : List ℕ) → One Bool (λ r. r ≡ same a b)
