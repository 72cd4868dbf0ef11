-- The summing rule over the two rows. Assumes nothing.
use Rattle.std.specs.Prelude.{ℕ, List, [], get_or}
use Rattle.rules.specs.Machine.{last_of}
use Rattle.window.specs.declared.sums.Sums.{Sums}

-- the last k of each row, for any k
abbrev pub sums_of : List (List ℕ) → ℕ → Sums
sums_of rows k = record { e = last_of k (get_or rows 0 []); u = last_of k (get_or rows 1 []) }
