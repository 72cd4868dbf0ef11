-- Of any counts and at any close, with any number of slots a second, each rule is decided and the rules leave exactly one answer.
-- Assumes nothing.
use Prim.Native.Nat.{ℕ, ◌+◌, ◌*◌}
use mathlib.Core.Path.{◌≡◌, refl, ap, subst}
use mathlib.Core.Logic.Dec
use mathlib.Core.Logic.{inl, inr}
use native.Mathlib.Omega.{arith}
use native.Mathlib.Decide.{ℕ_discrete}
use Rattle.rules.specs.Counts.{Counts}
use Rattle.rules.specs.Rules.{Record, nothing, U, B, HandsOut}
use Rattle.rules.specs.Machine.{Defect, none, stands, Availability, available, unavailable}
use Rattle.rules.specs.Claim.{Decided, EachDecided, GivesDefect, GivesAvailability, OneAnswer}
use Rattle.rules.proofs.Apart.{apart}
use Rattle.rules.proofs.Defect.{latest_kind}
use Rattle.rules.proofs.Availability.{declared_one}
use Rattle.rules.proofs.Records.{one_record}
use Rattle.rules.proofs.Decide.{entry_decided, any_entry_decided, exit_decided, stands_decided, latest_decided, clears_decided}
use Rattle.rules.proofs.Found.{found, gives_availability, stood_long_decided, unavailable_decided}

decided : {P : Type 0} → Dec P → Decided P
decided (yes p) = inl p
decided (no p) = inr p

same_record_decided : (r s : Record) → Dec (r ≡ s)
same_record_decided nothing nothing = yes refl
same_record_decided nothing (U f t) = no (λ e. apart (cc))
same_record_decided nothing (B f t) = no (λ e. apart (cc))
same_record_decided (U f t) nothing = no (λ e. apart (cc))
same_record_decided (U f t) (U f' t') = Dec.of_iff ((λ w. cc (w.0, w.1)), λ e. ((cc), (cc))) (Dec.and (ℕ_discrete f f') (ℕ_discrete t t'))
same_record_decided (U f t) (B f' t') = no (λ e. apart (cc))
same_record_decided (B f t) nothing = no (λ e. apart (cc))
same_record_decided (B f t) (U f' t') = no (λ e. apart (cc))
same_record_decided (B f t) (B f' t') = Dec.of_iff ((λ w. cc (w.0, w.1)), λ e. ((cc), (cc))) (Dec.and (ℕ_discrete f f') (ℕ_discrete t t'))

module _ (k : ℕ) (c : Counts) (n : ℕ) where
  one_defect : (d d' : Defect) → GivesDefect c n d → GivesDefect c n d' → d ≡ d'
  one_defect none none p q = refl
  one_defect none (stands y) p q = absurd (p q.0)
  one_defect (stands x) none p q = absurd (q p.0)
  one_defect (stands x) (stands y) p q = ap stands (latest_kind c x y n p.1 q.1)

  one_availability : (a a' : Availability) → GivesAvailability k c n a → GivesAvailability k c n a' → a ≡ a'
  one_availability available available p q = refl
  one_availability available (unavailable g) p q = absurd (p q.0)
  one_availability (unavailable f) available p q = absurd (q p.0)
  one_availability (unavailable f) (unavailable g) p q =
      let same : f ≡ g = omega (arith, declared_one k c (f + (10 * k + 2)) (g + (10 * k + 2)) n p.1 q.1) in
      ap unavailable same

  pub one_answer : OneAnswer k c n
  one_answer =
      let w = found k c n in
      let a : GivesAvailability k c n w.availability = gives_availability k c n w.availability w.availability_is in
      record {
        defect = record { one = w.defect; holds = w.defect_is; only = λ d h. one_defect d w.defect h w.defect_is };
        availability = record { one = w.availability; holds = a; only = λ x h. one_availability x w.availability h a };
        handed = record { one = w.handed; holds = w.handed_is; only = λ r h. one_record k c n r w.handed h w.handed_is };
      }

  -- a record is handed out when it is the one that was found
  hands_out_decided : (r : Record) → Dec (HandsOut k c n r)
  hands_out_decided r =
      Dec.of_iff
      (λ e. subst (HandsOut k c n) e (found k c n).handed_is, λ h. one_record k c n _ r (found k c n).handed_is h)
      (same_record_decided (found k c n).handed r)

  pub each_decided : EachDecided k c n
  each_decided =
      record {
        entry = λ d. decided (entry_decided c d n);
        any_entry = decided (any_entry_decided c n);
        exit = decided (exit_decided c n);
        stands = decided (stands_decided c n);
        latest = λ d. decided (latest_decided c d n);
        clears = decided (clears_decided c k n);
        stood_long = decided (stood_long_decided k c n);
        unavailable = decided (unavailable_decided k c n);
        hands_out = λ r. decided (hands_out_decided r);
      }
