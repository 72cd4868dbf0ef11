-- What a close hands out, by the rules alone: which record where, and never two. Assumes nothing.
use Prim.Native.Nat.{ℕ, suc, ◌+◌, ◌-◌, ◌*◌, ◌≤◌, ◌<◌, min}
use mathlib.Core.Path.{◌≡◌, refl, sym, subst}
use native.Mathlib.Omega.{arith}
use native.Mathlib.Nat.{le_refl}
use Rattle.rules.specs.Counts.{Counts}
use Rattle.rules.specs.Rules.{Stands, Clears, Unavailable, Declared, EndsB, Record, nothing, U, B, HandsOut}
use Rattle.rules.specs.Machine.{record_u, record_b}
use Rattle.rules.specs.Claim.{EndsOne, RecordRange}
use Rattle.rules.proofs.Latch.{up_to_next}
use Rattle.rules.proofs.Defect.{stands_third}
use Rattle.rules.proofs.Stood.{Quiet, stood_enough, stood_late}
use Rattle.rules.proofs.Availability.{Cleared, cleared_available, cleared_through, declared_unavailable, declared_not_cleared, declared_one}

before_next : (n : ℕ) → suc n - 1 ≡ n
before_next n = omega arith

module _ (k : ℕ) (c : Counts) where
  -- ---- which record where ----

  -- there is no close 0
  pub nothing_first : HandsOut k c 0 nothing
  nothing_first = (λ m w. omega (arith, w.declared.up_to, w.declared.stood.enough), λ e w. omega (arith, w.before))

  -- while unavailable and not cleared
  pub nothing_yet : (m n : ℕ) → (Clears k c (suc n) → ⊥) → Declared k c m n → HandsOut k c (suc n) nothing
  nothing_yet m n z d = (
    λ _ w. z w.clears,
    λ e w. w.throughout n (omega (arith, w.before)) (omega arith) (declared_unavailable k c m n d),
  )

  -- while a defect stands
  pub nothing_standing : (n : ℕ) → Stands c n → HandsOut k c n nothing
  nothing_standing n s = (λ _ w. w.clears.quiet s, λ _ w. w.left s)

  -- while available with no defect
  pub nothing_quiet : (n : ℕ) → Cleared k c n → (Stands c n → ⊥) → HandsOut k c (suc n) nothing
  nothing_quiet n o h = (
    λ m w. declared_not_cleared k c m n (subst (Declared k c m) (before_next n) w.declared) o,
    λ e w. h (w.stood n (omega (arith, w.before)) (le_refl (suc n))),
  )

  -- the end of an unavailability
  pub hands_U : (from n : ℕ) → Clears k c (suc n) → Declared k c (from + (10 * k + 2)) n → HandsOut k c (suc n) (record_u k (suc n) from)
  hands_U from n z d = (
    from + (10 * k + 2),
    record { declared = subst (Declared k c (from + (10 * k + 2))) (sym (before_next n)) d; clears = z },
    omega arith,
    omega arith,
  )

  -- the end of a short break, whose defect had stood t closes since b
  pub hands_B : (b t n : ℕ) → Cleared k c n → Cleared k c (suc n) → Stands c n → (Stands c (suc n) → ⊥) → Quiet c b n
      → t ≡ min (10 * k + 1) (n - b) → HandsOut k c (suc n) (record_b (suc n) t)
  hands_B b t n o o' s h q e =
      let few : b + 10 * k < n → ⊥ =
      λ g. let w : (j : ℕ) × (n < j) × (j ≤ n) × Clears k c j = o n (le_refl n) (stood_enough k c b n q g) in omega (arith, w.1, w.2) in
      let early : b ≡ n → ⊥ = λ g. q.quiet (subst (Stands c) (sym g) s) in (
        suc b,
        record {
          before = omega (arith, q.up_to, early);
          stood = λ i l g. q.then i (omega arith) l;
          entered = subst (λ (i : ℕ). Stands c i → ⊥) (sym (before_next b)) q.quiet;
          left = h;
          throughout =
              λ i l g.
              up_to_next (λ j. b < j → Unavailable k c j → ⊥) n (cleared_through k c b n o q) (λ _. cleared_available k c (suc n) o') i g l;
        },
        omega (arith, q.up_to, few),
        omega arith,
      )

  -- ---- never two ----

  b_not_before : (n d e : ℕ) → EndsB k c n d → EndsB k c n e → d < e → ⊥
  b_not_before n d e p q h = q.entered (p.stood (e - 1) (omega arith) (omega (arith, q.before)))

  pub ends_one : (n : ℕ) → EndsOne k c n
  ends_one n =
      record {
        -- a short break was available throughout, so it ends no unavailability
        not_both =
            λ m e p q.
            q.throughout (n - 1) (omega (arith, q.before)) (omega arith) (declared_unavailable k c m (n - 1) p.declared);
        one_u = λ l m p q. declared_one k c l m (n - 1) p.declared q.declared;
        one_b =
            λ d e p q.
            let below : d < e → ⊥ = b_not_before n d e p q in
            let above : e < d → ⊥ = b_not_before n e d q p in
            omega (arith, below, above);
      }

  pub one_record : (n : ℕ) (r s : Record) → HandsOut k c n r → HandsOut k c n s → r ≡ s
  one_record n nothing nothing p q = refl
  one_record n nothing (U f t) p q = absurd (p.0 q.0 q.1)
  one_record n nothing (B f t) p q = absurd (p.1 q.0 q.1)
  one_record n (U f t) nothing p q = absurd (q.0 p.0 p.1)
  one_record n (U f t) (U f' t') p q = cc (p.2, p.3, q.2, q.3, (ends_one n).one_u p.0 q.0 p.1 q.1)
  one_record n (U f t) (B f' t') p q = absurd ((ends_one n).not_both p.0 q.0 p.1 q.1)
  one_record n (B f t) nothing p q = absurd (q.1 p.0 p.1)
  one_record n (B f t) (U f' t') p q = absurd ((ends_one n).not_both q.0 p.0 q.1 p.1)
  one_record n (B f t) (B f' t') p q = cc (p.2, p.3, q.2, q.3, (ends_one n).one_b p.0 q.0 p.1 q.1)

  -- ---- never before slot 1, never empty ----

  pub record_range : (n : ℕ) → RecordRange k c n
  record_range n =
      record {
        u =
            λ f t w.
            let late : 10 * k + 3 ≤ w.0 = stood_late k c w.0 w.1.declared.stood in
            (omega (arith, w.2), omega (arith, w.2, w.3, w.1.declared.up_to), omega (arith, w.3));
        b =
            λ f t w.
            let late : 3 ≤ w.0 = stands_third c w.0 (w.1.stood w.0 (le_refl _) w.1.before) in
            (omega (arith, w.2), omega (arith, w.2, w.3, w.1.before), omega (arith, w.3));
      }
