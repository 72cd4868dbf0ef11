-- Availability, from one close to the next, by the rules alone. Assumes nothing.
use Prim.Native.Nat.{ℕ, suc, ◌+◌, ◌*◌, ◌≤◌, ◌<◌}
use mathlib.Core.Path.{◌≡◌}
use native.Mathlib.Omega.{arith}
use native.Mathlib.Nat.{le_refl}
use Rattle.rules.specs.Counts.{Counts}
use Rattle.rules.specs.Rules.{Clears, StoodLong, Unavailable, Declared}
use Rattle.rules.specs.Machine.{Availability, available, unavailable}
use Rattle.rules.proofs.Latch.{up_to_next, Over, over_not_since, over_ended, over_next}
use Rattle.rules.proofs.Stood.{Quiet, stood_stands}

module _ (k : ℕ) (c : Counts) where
  -- every time that the defect stood long was cleared: available, said with a witness
  abbrev pub Cleared : ℕ → Type 0
  Cleared n = Over (StoodLong k c) (Clears k c) n

  -- a is right after n
  abbrev pub AvailabilityIs : ℕ → Availability → Type 0
  AvailabilityIs n available = Cleared n
  AvailabilityIs n (unavailable from) = Declared k c (from + (10 * k + 2)) n

  pub availability_fresh : AvailabilityIs 0 available
  availability_fresh l h s = absurd (omega (arith, s.enough))

  -- ---- available ----

  pub cleared_available : (n : ℕ) → Cleared n → Unavailable k c n → ⊥
  cleared_available n o = over_not_since _ _ n o

  pub cleared_now : (n : ℕ) → Clears k c (suc n) → Cleared (suc n)
  cleared_now n z = over_ended _ _ n (λ s y. y.quiet (stood_stands k c (suc n) s)) z

  pub cleared_next : (n : ℕ) → (StoodLong k c (suc n) → ⊥) → Cleared n → Cleared (suc n)
  cleared_next n h o = over_next _ _ n h o

  -- available after n, and so after each close back to the last without a defect
  pub cleared_through : (b n : ℕ) → Cleared n → Quiet c b n → (i : ℕ) → i ≤ n → b < i → Unavailable k c i → ⊥
  cleared_through b n o q i h l s =
      let w : (j : ℕ) × (s.start < j) × (j ≤ n) × Clears k c j = o s.start (omega (arith, s.up_to)) s.was in
      let late : w.0 ≤ i → ⊥ = λ g. s.after w.0 w.1 g w.3 in
      w.3.quiet (q.then w.0 w.2 (omega (arith, late)))

  -- ---- unavailable ----

  pub declared_unavailable : (m n : ℕ) → Declared k c m n → Unavailable k c n
  declared_unavailable m n d = record { start = m; up_to = d.up_to; was = d.stood; after = d.uncleared }

  pub declared_not_cleared : (m n : ℕ) → Declared k c m n → Cleared n → ⊥
  declared_not_cleared m n d o = cleared_available n o (declared_unavailable m n d)

  declared_not_before : (l m n : ℕ) → Declared k c l n → Declared k c m n → l < m → ⊥
  declared_not_before l m n p q h =
      let w : (j : ℕ) × (l < j) × (j < m) × Clears k c j = q.first l h p.stood in
      p.uncleared w.0 w.1 (omega (arith, w.2, q.up_to)) w.3

  -- the rules name one close only
  pub declared_one : (l m n : ℕ) → Declared k c l n → Declared k c m n → l ≡ m
  declared_one l m n p q =
      let below : l < m → ⊥ = declared_not_before l m n p q in
      let above : m < l → ⊥ = declared_not_before m l n q p in
      omega (arith, below, above)

  -- the first close of 10k + 1 on a path that was available
  pub declared_now : (n : ℕ) → StoodLong k c (suc n) → Cleared n → Declared k c (suc n) (suc n)
  declared_now n s o =
      record {
        up_to = le_refl (suc n);
        stood = s;
        uncleared = λ j l h y. absurd (omega arith);
        first = λ l h p. let w : (j : ℕ) × (l < j) × (j ≤ n) × Clears k c j = o l (omega arith) p in (w.0, w.1, omega (arith, w.2), w.3);
      }

  -- an unavailability that is not cleared goes on
  pub declared_next : (m n : ℕ) → (Clears k c (suc n) → ⊥) → Declared k c m n → Declared k c m (suc n)
  declared_next m n z d =
      record {
        up_to = omega (arith, d.up_to);
        stood = d.stood;
        uncleared = λ j l h. up_to_next (λ i. m < i → Clears k c i → ⊥) n (λ i g l'. d.uncleared i l' g) (λ l'. z) j h l;
        first = d.first;
      }
