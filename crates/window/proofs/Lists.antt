-- The machine's sum of a row is the library's. Assumes nothing.
use Rattle.std.proofs.Common.{◌≡◌, refl, ℕ, List, sum}
use Rattle.std.proofs.lemmas.List.Recursion.{is_sum_by}
use Rattle.rules.specs.Machine.{total}

pub total_is : (xs : List ℕ) → total xs ≡ sum xs
unfolding total
total_is = is_sum_by total (λ x. x) refl (λ x xs. refl)
