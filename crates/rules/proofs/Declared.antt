-- "The first such close since the start or the last clearing" is where the path was available at the close before.
-- Assumes nothing.
use Prim.Native.Nat.{ℕ, ◌-◌, ◌≤◌, ◌<◌}
use mathlib.Core.Logic.{◌⊎◌, inl, inr, ⊎_elim}
use native.Mathlib.Omega.{arith}
use Rattle.rules.specs.Counts.{Counts}
use Rattle.rules.specs.Rules.{Clears, Unavailable}
use Rattle.rules.specs.Machine.{Availability, available, unavailable}
use Rattle.rules.specs.Claim.{DeclaredWhere}
use Rattle.rules.proofs.Availability.{Cleared, AvailabilityIs, cleared_available, declared_unavailable}
use Rattle.rules.proofs.Found.{found}

module _ (k : ℕ) (c : Counts) where
  -- a path is available with a witness, or unavailable
  cleared_or_not : (n : ℕ) (a : Availability) → AvailabilityIs k c n a → Cleared k c n ⊎ Unavailable k c n
  cleared_or_not n available h = inl h
  cleared_or_not n (unavailable from) h = inr (declared_unavailable k c _ n h)

  pub declared_where : (m n : ℕ) → DeclaredWhere k c m n
  declared_where m n = (
    λ d. (
      d.up_to,
      d.stood,
      d.uncleared,
      cleared_available k c (m - 1)
          (λ l h s.
          let w : (j : ℕ) × (l < j) × (j < m) × Clears k c j = d.first l (omega (arith, d.stood.enough)) s in
          (w.0, w.1, omega (arith, w.2), w.3)),
    ),
    λ h.
        record {
          up_to = h.0;
          stood = h.1;
          uncleared = h.2;
          first =
              λ l g s.
              ⊎_elim
              (λ (o : Cleared k c (m - 1)).
              let w : (j : ℕ) × (l < j) × (j ≤ m - 1) × Clears k c j = o l (omega arith) s in
              (w.0, w.1, omega (arith, w.2, g), w.3))
              (λ (u : Unavailable k c (m - 1)). absurd (h.3 u))
              (cleared_or_not (m - 1) (found k c (m - 1)).availability (found k c (m - 1)).availability_is);
        },
  )
