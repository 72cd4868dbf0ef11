-- How long the defect has stood, from one close to the next, and what 10k + 1 closes say. Assumes nothing.
use Prim.Native.Nat.{ℕ, suc, ◌+◌, ◌-◌, ◌*◌, ◌≤◌, ◌<◌, min}
use mathlib.Core.Path.{◌≡◌}
use native.Mathlib.Omega.{arith}
use native.Mathlib.Nat.{le_refl}
use Rattle.rules.specs.Counts.{Counts}
use Rattle.rules.specs.Rules.{Stands, StoodLong}
use Rattle.rules.specs.Machine.{Defect, none, stands, stood_after}
use Rattle.rules.specs.Claim.{GivesDefect}
use Rattle.rules.proofs.Latch.{up_to_next}
use Rattle.rules.proofs.Defect.{defect_fresh, stands_third}

-- b is the last close up to n without a defect; 0, the start, counts as one
pub record Quiet (c : Counts) (b n : ℕ) : Type 0 where
  pub up_to : b ≤ n
  pub quiet : Stands c b → ⊥
  pub then : (i : ℕ) → i ≤ n → b < i → Stands c i

module _ (k : ℕ) (c : Counts) where
  quiet_now : (n : ℕ) → (Stands c n → ⊥) → Quiet c n n
  quiet_now n h = record { up_to = le_refl n; quiet = h; then = λ i l m. absurd (omega arith) }

  quiet_next : (b n : ℕ) → Stands c (suc n) → Quiet c b n → Quiet c b (suc n)
  quiet_next b n s q =
      record {
        up_to = omega (arith, q.up_to);
        quiet = q.quiet;
        then = up_to_next (λ i. b < i → Stands c i) n q.then (λ l. s);
      }

  -- t is the closes that the defect has stood, cut at 10k + 1
  pub record StoodIs (n t : ℕ) : Type 0 where
    pub last : ℕ
    pub since : Quiet c last n
    pub closes : t ≡ min (10 * k + 1) (n - last)

  pub stood_fresh : StoodIs 0 0
  stood_fresh = record { last = 0; since = quiet_now 0 (defect_fresh c); closes = omega arith }

  pub stood_step : (n t : ℕ) (d : Defect) → GivesDefect c (suc n) d → StoodIs n t → StoodIs (suc n) (stood_after k d t)
  stood_step n t none h w = record { last = suc n; since = quiet_now (suc n) h; closes = omega arith }
  stood_step n t (stands x) h w =
      record {
        last = w.last;
        since = quiet_next w.last n h.0 w.since;
        closes = omega (arith, w.since.up_to, w.closes);
      }

  -- 10k + 1 closes and more, or fewer
  pub stood_enough : (b n : ℕ) → Quiet c b n → b + 10 * k < n → StoodLong k c n
  stood_enough b n q h = record { enough = omega arith; each = λ i l m. q.then i m (omega arith) }

  pub stood_few : (b n : ℕ) → Quiet c b n → n ≤ b + 10 * k → StoodLong k c n → ⊥
  stood_few b n q h s = q.quiet (s.each b h q.up_to)

  -- the 10k + 1 closes begin at slot 3 or later
  pub stood_late : (m : ℕ) → StoodLong k c m → 10 * k + 3 ≤ m
  stood_late m s =
      let first : 3 ≤ m - 10 * k = stands_third c (m - 10 * k) (s.each (m - 10 * k) (omega arith) (omega arith)) in
      omega arith

  -- at the last of them the defect stands
  pub stood_stands : (m : ℕ) → StoodLong k c m → Stands c m
  stood_stands m s = s.each m (omega arith) (le_refl m)
