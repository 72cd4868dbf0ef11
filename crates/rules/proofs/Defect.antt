-- The defect and its kind, from one close to the next. Assumes nothing.
use Prim.Native.Nat.{ℕ, suc, ◌≤◌, ◌<◌}
use mathlib.Core.Path.{◌≡◌, refl, subst}
use mathlib.Core.Bool.{Bool, true, false, cond}
use native.Mathlib.Omega.{arith}
use borrow.Author.Tests.{leb-true, leb-false}
use Rattle.rules.specs.Counts.{Counts, sum_last}
use Rattle.rules.specs.Rules.{Kind, Entry, Exit, AnyEntry, Stands, Latest}
use Rattle.rules.specs.Machine.{Verdict, enters, leaves, stays, judge, judged, verdict, Defect, none, stands, defect_after}
use Rattle.rules.specs.Claim.{GivesDefect}
use Rattle.rules.proofs.Apart.{apart}
use Rattle.rules.proofs.Cuts.{Alike, alike_back, alike_enters, alike_leaves}
use Rattle.rules.proofs.Tests.{Says, judge_says, one_verdict}
use Rattle.rules.proofs.Latch.{since_now, since_next, since_back, since_ended}

module _ (c : Counts) where
  -- what a verdict at the close of n says of slot n
  abbrev pub Told : Verdict → ℕ → Type 0
  Told (enters d) n = Entry c d n
  Told leaves n = Exit c n
  Told stays n = (AnyEntry c n → ⊥) × (Exit c n → ⊥)

  -- e and u are E3 and U3 at n, as far as the cuts go
  abbrev pub Sums3 : ℕ → ℕ → ℕ → Type 0
  Sums3 n e u = Alike e (sum_last c.expected 3 n) u (sum_last c.unexpected 3 n)

  told_judged : (n e u : ℕ) → 3 ≤ n → Sums3 n e u → (v : Verdict) → Says v e u → Told v n
  told_judged n e u t a (enters d) h = record { third = t; sums = alike_enters _ _ _ _ a d h }
  told_judged n e u t a leaves h = record { third = t; sums = alike_leaves _ _ _ _ a h }
  told_judged n e u t a stays h = (
    λ w. apart (cc (one_verdict stays (enters w.0) e u h (alike_enters _ _ _ _ (alike_back _ _ _ _ a) w.0 w.1.sums))),
    λ x. apart (cc (one_verdict stays leaves e u h (alike_leaves _ _ _ _ (alike_back _ _ _ _ a) x.sums))),
  )

  pub told : (n e u : ℕ) → Sums3 n e u → Told (verdict n e u) n
  unfolding verdict
  told n e u a = go (judged n) refl
    where
      go : (b : Bool) → judged n ≡ b → Told (cond b (judge e u) stays) n
      go true h = told_judged n e u (omega (arith, leb-true _ n h)) a (judge e u) (judge_says e u)
      go false h = (λ w. omega (arith, leb-false _ n h, w.1.third), λ x. omega (arith, leb-false _ n h, x.third))

  -- an entry slot is no exit slot, and has one kind
  pub entry_not_exit : (n : ℕ) → AnyEntry c n → Exit c n → ⊥
  entry_not_exit n w x = apart (cc (one_verdict (enters w.0) leaves _ _ w.1.sums x.sums))

  entry_kind : (d d' : Kind) (n : ℕ) → Entry c d n → Entry c d' n → d ≡ d'
  entry_kind d d' n p q = cc (one_verdict (enters d) (enters d') _ _ p.sums q.sums)

  -- the latest entry slot has one kind
  pub latest_kind : (d d' : Kind) (n : ℕ) → Latest c d n → Latest c d' n → d ≡ d'
  latest_kind d d' n p q =
      let before : p.start < q.start → ⊥ = λ h. p.after q.start h q.up_to (d', q.was) in
      let behind : q.start < p.start → ⊥ = λ h. q.after p.start h p.up_to (d, p.was) in
      let same : q.start ≡ p.start = omega (arith, before, behind) in
      entry_kind d d' p.start p.was (subst (Entry c d') same q.was)

  -- before slot 3 closes nothing stands
  pub stands_third : (n : ℕ) → Stands c n → 3 ≤ n
  stands_third n s = omega (arith, s.up_to, s.was.1.third)

  pub defect_fresh : GivesDefect c 0 none
  defect_fresh s = omega (arith, stands_third 0 s)

  pub defect_step : (n : ℕ) (v : Verdict) (d : Defect) → Told v (suc n) → GivesDefect c n d → GivesDefect c (suc n) (defect_after v d)
  defect_step n (enters x) none t h = (since_now _ _ (suc n) (x, t), since_now _ _ (suc n) t)
  defect_step n (enters x) (stands y) t h = (since_now _ _ (suc n) (x, t), since_now _ _ (suc n) t)
  defect_step n leaves d t h = since_ended _ _ (suc n) (entry_not_exit (suc n)) t
  defect_step n stays none t h = λ s. h (since_back _ _ n t.0 s)
  defect_step n stays (stands x) t h = (since_next _ _ n t.1 h.0, since_next _ _ n t.0 h.1)
