-- The tables of rates and kinds. Assumes nothing.
use mathlib.Core.Path.{◌≡◌, refl, sym}
use mathlib.Core.Bool.{Bool, true, false}
use mathlib.Core.List.{List, ◌∷◌}
use Prim.Native.Nat.{ℕ, zero, suc, ◌≤◌}
use native.Mathlib.Omega.{arith}
use borrow.Author.Tests.{ne_eqb, leb-true, leb-false}
use lib.Dec.{eqb, leb, lit≤}
use lib.ListN.{length, get_or, get_or-eq_default}
use Rattle.payload.specs.Test.{pick}
use Rattle.payload.specs.Rates.{intervals, lives, interval_of, rate_life_of, slot_of, life_of, ThreeSeconds}

pub three_seconds : ThreeSeconds
three_seconds zero h = refl
three_seconds (suc zero) h = refl
three_seconds (suc (suc zero)) h = refl
three_seconds (suc (suc (suc zero))) h = refl
three_seconds (suc (suc (suc (suc zero)))) h = refl
three_seconds (suc (suc (suc (suc (suc zero))))) h = refl
three_seconds (suc (suc (suc (suc (suc (suc zero)))))) h = refl
three_seconds (suc (suc (suc (suc (suc (suc (suc k))))))) h = absurd (omega arith)

rate_life_most : (r : ℕ) → rate_life_of r ≤ 300
rate_life_most zero = lit≤ tt
rate_life_most (suc zero) = lit≤ tt
rate_life_most (suc (suc zero)) = lit≤ tt
rate_life_most (suc (suc (suc zero))) = lit≤ tt
rate_life_most (suc (suc (suc (suc zero)))) = lit≤ tt
rate_life_most (suc (suc (suc (suc (suc zero))))) = lit≤ tt
rate_life_most (suc (suc (suc (suc (suc (suc zero)))))) = lit≤ tt
rate_life_most (suc (suc (suc (suc (suc (suc (suc r))))))) = lit≤ tt

pub life_most : (k : ℕ) → life_of k ≤ 300
life_most k = go (eqb k 0)
  where
    go : (b : Bool) → pick b 3 (rate_life_of k) ≤ 300
    go true = lit≤ tt
    go false = rate_life_most k
