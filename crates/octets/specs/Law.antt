-- Numbers and their octets are inverse, at every width. `proofs/Laws.antt` proves it.
-- Assumes nothing.
use Rattle.std.specs.Prelude.{◌≡◌, List, ℕ, ◌^◌, ◌<◌, length}
use Rattle.payload.specs.Law.{Octets}
use Rattle.octets.specs.Number.{octets, number_of}

pub record Inverse : Type 0 where
  -- a number that w octets hold is read back
  pub number_back : (w x : ℕ) → x < 256 ^ w → number_of (octets w x) ≡ x
  -- octets are written back
  pub octets_back : (s : List ℕ) → Octets s → octets (length s) (number_of s) ≡ s
