-- Sums over the last k slots, for any k: the newest and the oldest slot, one slot at a time, and what cutting each count leaves
-- of a sum. Assumes nothing.
use Prim.Native.Nat.{ℕ, zero, suc, ◌+◌, ◌-◌, ◌≤◌, ◌<◌, min}
use mathlib.Core.Path.{◌≡◌, refl, ap, ◌∙◌}
use native.Mathlib.Omega.{arith}
use Rattle.rules.specs.Counts.{sum_last}
use Rattle.rules.specs.Claim.{Moves}

module _ (f : ℕ → ℕ) where
  -- the count of the slot that is i before n; 0 where there was none
  unfoldable pub ago : ℕ → ℕ → ℕ
  ago zero i = 0
  ago (suc n) zero = f (suc n)
  ago (suc n) (suc i) = ago n i

  ago_slot : (n i : ℕ) → i < n → ago n i ≡ f (n - i)
  unfolding ago
  ago_slot zero i l = absurd (omega arith)
  ago_slot (suc n) zero l = ap f {x = suc n} {y = suc n - 0} (omega arith)
  ago_slot (suc n) (suc i) l = ago_slot n i (omega arith) ∙ ap f {x = n - i} {y = suc n - suc i} (omega arith)

  pub ago_never : (n i : ℕ) → n ≤ i → ago n i ≡ 0
  unfolding ago
  ago_never zero i l = refl
  ago_never (suc n) zero l = absurd (omega arith)
  ago_never (suc n) (suc i) l = ago_never n i (omega arith)

  -- one slot more: the newest, or the oldest
  sum_newest : (k n : ℕ) → sum_last f (suc k) (suc n) ≡ f (suc n) + sum_last f k n
  unfolding sum_last
  sum_newest k n = refl

  sum_none : (k : ℕ) → sum_last f k zero ≡ 0
  unfolding sum_last
  sum_none zero = refl
  sum_none (suc k) = refl

  pub sum_oldest : (k n : ℕ) → sum_last f (suc k) n ≡ ago n k + sum_last f k n
  unfolding sum_last ago
  sum_oldest k zero = omega (arith, sum_none k)
  sum_oldest zero (suc n) = refl
  sum_oldest (suc k) (suc n) = omega (arith, sum_oldest k n)

  pub sum_moves : (k n : ℕ) → Moves f k n
  sum_moves k n =
      record {
        next = sum_newest k n;
        grows = λ l. omega (arith, sum_newest k n, sum_oldest k (suc n), ago_never (suc n) k (omega arith));
        moves = λ l. omega (arith, sum_newest k n, sum_oldest k (suc n), ago_slot (suc n) k (omega arith));
      }

-- counts cut at b have the same sum as the exact ones, where both are cut at b
pub sum_cut : (b : ℕ) (f : ℕ → ℕ) (k n : ℕ) → min b (sum_last (λ i. min b (f i)) k n) ≡ min b (sum_last f k n)
unfolding sum_last
sum_cut b f zero n = refl
sum_cut b f (suc k) zero = refl
sum_cut b f (suc k) (suc n) = omega (arith, sum_cut b f k n)
