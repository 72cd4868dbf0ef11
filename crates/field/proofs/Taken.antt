-- What the reader's parts stand for, over plain lists. Assumes nothing.
use mathlib.Core.Path.{◌≡◌, ◌∙◌}
use mathlib.Core.List.{List}
use Prim.Native.Nat.{ℕ, suc, ◌+◌, ◌-◌, ◌≤◌}
use native.Mathlib.Omega.{arith}
use lib.ListN.{length, get_or}
use Rattle.std.specs.Int.{byte_worth, sum_through}
use Rattle.octets.specs.Parts.{part, number_at}
use Rattle.octets.proofs.Laws.{number_be}
use Rattle.octets.proofs.Parts.{length_part}

-- the number of a part's big-endian octets
pub number_is : (s : List ℕ) (a k x : ℕ) {p : List ℕ} → length s ≡ 79 → a + suc k ≤ 79 → p ≡ part s a (suc k)
    → x ≡ sum_through (λ i. byte_worth (k - i) (get_or p i 0)) k → x ≡ number_at s a (suc k)
number_is s a k x n h e q =
    q ∙ (λ j. sum_through (λ i. byte_worth (k - i) (get_or (e j) i 0)) k) ∙ number_be (part s a (suc k)) k (length_part s a (suc k) (omega arith))
