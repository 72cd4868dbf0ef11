-- What the calls' promises leave open: nothing. `proofs/Promises.antt` proves it.
-- Assumes nothing.
use Rattle.std.specs.Prelude.{◌≡◌, List, ℕ, length}
use Rattle.payload.specs.Promises.{One}
use Rattle.octets.specs.Number.{octets, read_of, over}

pub record OneOutcome : Type 0 where
  pub number : (s : List ℕ) → One ℕ (λ r. r ≡ read_of s)
  -- the lent octets afterwards
  pub put_number : (s : List ℕ) (x : ℕ) → One (List ℕ) (λ r. r ≡ octets (length s) x)
  pub copy : (from to : List ℕ) → One (List ℕ) (λ r. r ≡ over from to)
