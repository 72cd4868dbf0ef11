-- The machine's tests and records at one slot a second, with the paper's own numbers: what code on a CV path computes.
-- Assumes nothing.
use Prim.Native.Nat.{ℕ, ◌+◌, ◌-◌, min}
use mathlib.Core.Path.{◌≡◌, refl, ap}
use mathlib.Core.Bool.{◌&&◌}
use native.Mathlib.Omega.{arith}
use lib.Dec.{leb, eqb}
use Rattle.rules.specs.Rules.{Kind, U}
use Rattle.rules.specs.Machine.{stands, stood_after, long_enough, calm, unavailable, goes_on, declares, record_u}

pub stood_at_one : (d : Kind) (t : ℕ) → stood_after 1 (stands d) t ≡ min 11 (t + 1)
stood_at_one d t = refl

pub long_at_one : (t : ℕ) → long_enough 1 t ≡ eqb t 11
unfolding long_enough
long_at_one t = refl

pub calm_at_one : (e u : ℕ) → calm 1 e u ≡ leb 9 e && (leb e 11 && eqb u 0)
unfolding calm
calm_at_one e u = refl

pub declares_at_one : (n : ℕ) → declares 1 n ≡ goes_on (unavailable (n - 12))
declares_at_one n = ap (λ (i : ℕ). goes_on (unavailable i)) {x = n - 10 - 2} {y = n - 12} (omega arith)

pub record_at_one : (n from : ℕ) → record_u 1 n from ≡ U from (n - 9)
record_at_one n from = ap (U from) {x = n + 1 - 10} {y = n - 9} (omega arith)
