-- What the invariant says of the state, read as the claim has it: each equivalence both ways. Assumes nothing.
use Prim.Native.Nat.{ℕ, suc, ◌+◌}
use mathlib.Core.Path.{◌≡◌, refl, ap, subst}
use mathlib.Core.Bool.{true, false}
use mathlib.Core.Logic.{◌↔◌}
use native.Mathlib.Omega.{arith}
use Rattle.rules.specs.Counts.{Counts}
use Rattle.rules.specs.Rules.{Kind, Stands, Latest, Unavailable, Declared, HandsOut}
use Rattle.rules.specs.Machine.{State, Defect, none, stands, Availability, available, unavailable, handed_out}
use Rattle.rules.specs.Claim.{GivesDefect, RightDefect, Right, RightAnswer, RightFfd}
use Rattle.rules.proofs.Apart.{apart}
use Rattle.rules.proofs.Defect.{latest_kind}
use Rattle.rules.proofs.Availability.{AvailabilityIs, cleared_available, declared_one, declared_unavailable}
use Rattle.rules.proofs.Records.{one_record}
use Rattle.rules.proofs.Holds.{Holds, Ready, close_turn_lem}

module _ (c : Counts) (n : ℕ) where
  defect_quiet : (d : Defect) → GivesDefect c n d → (d ≡ none) ↔ (Stands c n → ⊥)
  defect_quiet none h = (λ _. h, λ _. refl)
  defect_quiet (stands x) h = (λ e. apart (cc), λ q. absurd (q h.0))

  defect_kind : (d : Defect) → GivesDefect c n d → (k : Kind) → (d ≡ stands k) ↔ (Stands c n × Latest c k n)
  defect_kind none h k = (λ e. apart (cc), λ q. absurd (h q.0))
  defect_kind (stands x) h k = (
    λ e. let same : x ≡ k = cc in subst (λ (d : Kind). Stands c n × Latest c d n) same h,
    λ q. ap stands (latest_kind c x k n h.1 q.1),
  )

  right_defect : (d : Defect) → GivesDefect c n d → RightDefect c n d
  right_defect d h = record { quiet = defect_quiet d h; kind = defect_kind d h }

  in_service : (a : Availability) → AvailabilityIs 1 c n a → (a ≡ available) ↔ (Unavailable 1 c n → ⊥)
  in_service available h = (λ _. cleared_available 1 c n h, λ _. refl)
  in_service (unavailable from) h =
      (λ e. apart (cc), λ q. absurd (q (declared_unavailable 1 c _ n h)))

  out_since_lem : (a : Availability) → AvailabilityIs 1 c n a → (from : ℕ) → (a ≡ unavailable from) ↔ (Unavailable 1 c n × Declared 1 c (from + 12) n)
  out_since_lem available h from =
      (λ e. apart (cc), λ q. absurd (cleared_available 1 c n h q.0))
  out_since_lem (unavailable f) h from = (
    λ e.
        let same : f ≡ from = cc in
        subst (λ (i : ℕ). Unavailable 1 c n × Declared 1 c (i + 12) n) same (declared_unavailable 1 c _ n h, h),
    λ q. let same : f ≡ from = omega (arith, declared_one 1 c (f + 12) (from + 12) n h q.1) in ap unavailable same,
  )

  pub holds_right : (x y : ℕ) (s : State) → Holds true c n x y s → Right c n s
  holds_right x y s h =
      record {
        closed = h.closed;
        defect = right_defect s.defect h.defect;
        in_service = in_service s.availability h.availability;
        out_since = out_since_lem s.availability h.availability;
      }

  pub holds_answer : (s : State) → Ready true c n s → RightAnswer c n s
  holds_answer s h =
      let says : HandsOut 1 c (suc n) (handed_out true s) = (close_turn_lem c n s h).handed in
      record { hands = λ r. (λ e. subst (HandsOut 1 c (suc n)) e says, λ w. one_record 1 c (suc n) (handed_out true s) r says w) }

  pub holds_right_ffd : (x y : ℕ) (s : State) → Holds false c n x y s → RightFfd c n s
  holds_right_ffd x y s h = record { closed = h.closed; defect = right_defect s.defect h.defect; in_service = h.availability }
