-- Counts cut at 12 (E) and at 1 (U) decide every test on sums as the exact counts do. Assumes nothing.
use Prim.Native.Nat.{ℕ, min}
use mathlib.Core.Path.{◌≡◌, sym}
use native.Mathlib.Omega.{arith}
use Rattle.rules.specs.Counts.{Counts, sum_last}
use Rattle.rules.specs.Rules.{Kind, mismatch, mismerge, locv, excess, Enters, Leaves, Calm}
use Rattle.rules.specs.Claim.{cut, CutDecides}
use Rattle.rules.proofs.Sums.{sum_cut}

-- the sums are the same as far as the cuts go
pub record Alike (e e' u u' : ℕ) : Type 0 where
  pub expected : min 12 e ≡ min 12 e'
  pub unexpected : min 1 u ≡ min 1 u'

module _ (e e' u u' : ℕ) (a : Alike e e' u u') where
  pub alike_back : Alike e' e u' u
  alike_back = record { expected = sym a.expected; unexpected = sym a.unexpected }

  pub alike_enters : (d : Kind) → Enters d e u → Enters d e' u'
  alike_enters mismatch h = omega arith
  alike_enters mismerge h = omega arith
  alike_enters locv h = omega arith
  alike_enters excess h = omega arith

  pub alike_leaves : Leaves e u → Leaves e' u'
  alike_leaves h = omega arith

  pub alike_calm : Calm 1 e u → Calm 1 e' u'
  alike_calm h = omega arith

pub cut_decides : (c : Counts) (k n : ℕ) → CutDecides c k n
cut_decides c k n =
    record {
      enters = λ d. (alike_enters _ _ _ _ a d, alike_enters _ _ _ _ (alike_back _ _ _ _ a) d);
      leaves = (alike_leaves _ _ _ _ a, alike_leaves _ _ _ _ (alike_back _ _ _ _ a));
      calm = (alike_calm _ _ _ _ a, alike_calm _ _ _ _ (alike_back _ _ _ _ a));
    }
  where
    a : Alike (sum_last (cut c).expected k n) (sum_last c.expected k n) (sum_last (cut c).unexpected k n) (sum_last c.unexpected k n)
    a = record { expected = sum_cut 12 c.expected k n; unexpected = sum_cut 1 c.unexpected k n }
