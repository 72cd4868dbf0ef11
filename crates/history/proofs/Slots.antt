-- What the window rules say of a slot with packets, and of a close that clears. Assumes nothing.
use Prim.Native.Nat.{ℕ, suc, ◌≤◌, ◌<◌}
use mathlib.Core.Path.{◌≡◌, subst}
use mathlib.Core.Logic.{◌⊎◌, inl, inr, ⊎_elim}
use native.Mathlib.Omega.{arith}
use Rattle.std.proofs.Math.Nat.{eq-or-lt_of_le}
use Rattle.std.proofs.lemmas.Bool.{cases_lt}
use Rattle.rules.specs.Counts.{Counts, sum_last}
use Rattle.rules.specs.Rules.{Kind, mismerge, excess, Enters, Entry, Exit, AnyEntry, Stands, Latest, Clears, StoodLong, Unavailable}

-- the last slot is one of the three
pub of_three : (f : ℕ → ℕ) (n : ℕ) → f (suc n) ≤ sum_last f 3 (suc n)
unfolding sum_last
of_three f n = omega arith

module _ (c : Counts) (n : ℕ) where
  abbrev E : ℕ
  E = sum_last c.expected 3 n

  abbrev others : ℕ
  others = sum_last c.unexpected 3 n

  -- five or more enter a kind that says so, two or more enter or leave
  pub entered : 3 ≤ n → 5 ≤ E → Entry c excess n ⊎ Entry c mismerge n
  entered t h =
      ⊎_elim (λ e. inr (record { third = t; sums = (e, omega arith) })) (λ e. inl (record { third = t; sums = (omega arith, h) }))
      (cases_lt 0 others)

  judged : 3 ≤ n → 2 ≤ E → AnyEntry c n ⊎ Exit c n
  judged t h =
      ⊎_elim
      (λ e. inl (mismerge, record { third = t; sums = (e, omega arith) }))
      (λ e. ⊎_elim (λ f. inr (record { third = t; sums = (omega arith, h, omega arith) })) (λ f. inl (excess, record { third = t; sums = (omega arith, f) }))
      (cases_lt E 5))
      (cases_lt 0 others)

  pub latest_now : (k : Kind) → Entry c k n → Stands c n × Latest c k n
  latest_now k e = (
    record { start = n; up_to = omega arith; was = (k, e); after = λ j h m q. omega arith },
    record { start = n; up_to = omega arith; was = e; after = λ j h m q. omega arith },
  )

  -- a kind that is entered where E3 is 0 is not the latest
  pub not_latest : (k : Kind) → ((e u : ℕ) → Enters k e u → e ≡ 0) → 2 ≤ E → Stands c n → Latest c k n → ⊥
  not_latest k z h s l = ⊎_elim (λ e. omega (arith, z _ _ (subst (Entry c k) e l.was).sums)) since (eq-or-lt_of_le l.up_to)
    where
      since : l.start < n → ⊥
      since m =
          ⊎_elim (l.after n m (omega arith))
          (λ q. ⊎_elim (λ e. l.after n m (omega arith) (subst (AnyEntry c) e s.was)) (λ e. s.after n e (omega arith) q) (eq-or-lt_of_le s.up_to))
          (judged (omega (arith, l.was.third)) h)

  -- after a close that clears, a path is available
  pub cleared : (k : ℕ) → Clears k c n → Unavailable k c n → ⊥
  cleared k q u =
      ⊎_elim (λ e. q.quiet ((subst (StoodLong k c) e u.was).each n (omega arith) (omega arith))) (λ e. u.after n e (omega arith) q)
      (eq-or-lt_of_le u.up_to)

-- with one or more, such a kind is the latest only if it was before
module _ (c : Counts) (n : ℕ) (k : Kind) (z : (e u : ℕ) → Enters k e u → e ≡ 0) (h : 1 ≤ sum_last c.expected 3 (suc n)) (s : Stands c (suc n)) (l : Latest c k (suc n)) where
  earlier : l.start ≤ n
  earlier =
      ⊎_elim (λ e. absurd (omega (arith, z _ _ (subst (Entry c k) e l.was).sums))) (λ e. omega arith) (eq-or-lt_of_le l.up_to)

  stood : s.start ≤ n
  stood =
      ⊎_elim (λ e. absurd (l.after (suc n) (omega (arith, earlier)) (omega arith) (subst (AnyEntry c) e s.was))) (λ e. omega arith)
      (eq-or-lt_of_le s.up_to)

  pub was_latest : Stands c n × Latest c k n
  was_latest = (
    record { start = s.start; up_to = stood; was = s.was; after = λ j a b. s.after j a (omega arith) },
    record { start = l.start; up_to = earlier; was = l.was; after = λ j a b. l.after j a (omega arith) },
  )
