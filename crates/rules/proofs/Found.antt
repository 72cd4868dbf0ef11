-- Of any counts and at any close the rules give an answer: it is found close by close from the exact sums, with k slots a second.
-- Assumes nothing.
use Prim.Native.Nat.{ℕ, zero, suc, ◌+◌, ◌*◌, ◌≤◌}
use mathlib.Core.Bool.{Bool, true, false}
use mathlib.Core.Logic.Dec
use native.Mathlib.Decide.{dec_lt}
use native.Mathlib.Omega.{arith}
use Rattle.rules.specs.Counts.{Counts}
use Rattle.rules.specs.Rules.{Clears, StoodLong, Unavailable, Record, nothing, HandsOut}
use Rattle.rules.specs.Machine.{Defect, none, Availability, available, unavailable, defect_after, stood_after, Turn, turn}
use Rattle.rules.specs.Claim.{GivesDefect, GivesAvailability}
use Rattle.rules.proofs.Defect.{defect_fresh, defect_step}
use Rattle.rules.proofs.Stood.{StoodIs, stood_fresh, stood_step, stood_enough, stood_few}
use Rattle.rules.proofs.Availability.{AvailabilityIs, availability_fresh, cleared_available, declared_unavailable}
use Rattle.rules.proofs.Records.{nothing_first}
use Rattle.rules.proofs.Turn.{TurnIs, ClearsIf, turn_step}
use Rattle.rules.proofs.Decide.{verdict_at, told_at, clears_decided, since_decided}

module _ (k : ℕ) (c : Counts) where
  pub record Found (n : ℕ) : Type 0 where
    pub defect : Defect
    pub defect_is : GivesDefect c n defect
    pub stood : ℕ
    pub stood_is : StoodIs k c n stood
    pub availability : Availability
    pub availability_is : AvailabilityIs k c n availability
    pub handed : Record
    pub handed_is : HandsOut k c n handed

  clears_test : (n : ℕ) → Dec (Clears k c n) → (b : Bool) × ClearsIf k c n b
  clears_test n (yes z) = (true, λ _. z)
  clears_test n (no z) = (false, z)

  found_next : (n : ℕ) → Found n → Found (suc n)
  found_next n w =
      let d : Defect = defect_after (verdict_at c (suc n)) w.defect in
      let t : ℕ = stood_after k d w.stood in
      let p : GivesDefect c (suc n) d = defect_step c n (verdict_at c (suc n)) w.defect (told_at c (suc n)) w.defect_is in
      let q : StoodIs k c (suc n) t = stood_step k c n w.stood d p w.stood_is in
      let z : (b : Bool) × ClearsIf k c (suc n) b = clears_test (suc n) (clears_decided c k (suc n)) in
      let y : Turn = turn k (suc n) w.availability w.defect w.stood d t z.0 in
      let r : TurnIs k c (suc n) y =
      turn_step k c n w.availability w.defect w.stood d t z.0 w.availability_is w.defect_is w.stood_is p q z.1 in
      record {
        defect = d;
        defect_is = p;
        stood = t;
        stood_is = q;
        availability = y.next;
        availability_is = r.next;
        handed = y.handed;
        handed_is = r.handed;
      }

  pub found : (n : ℕ) → Found n
  found zero =
      record {
        defect = none;
        defect_is = defect_fresh c;
        stood = 0;
        stood_is = stood_fresh k c;
        availability = available;
        availability_is = availability_fresh k c;
        handed = nothing;
        handed_is = nothing_first k c;
      }
  found (suc n) = found_next n (found n)

  pub gives_availability : (n : ℕ) (a : Availability) → AvailabilityIs k c n a → GivesAvailability k c n a
  gives_availability n available h = cleared_available k c n h
  gives_availability n (unavailable from) h = (declared_unavailable k c _ n h, h)

  pub stood_long_decided : (n : ℕ) → Dec (StoodLong k c n)
  stood_long_decided n =
      let w : StoodIs k c n (found n).stood = (found n).stood_is in
      Dec.of_iff (
        λ l. stood_enough k c w.last n w.since l,
        λ s. let few : n ≤ w.last + 10 * k → ⊥ = λ l. stood_few k c w.last n w.since l s in omega (arith, few),
      )
      (dec_lt (w.last + 10 * k) n)

  pub unavailable_decided : (n : ℕ) → Dec (Unavailable k c n)
  unavailable_decided n = since_decided _ _ stood_long_decided (clears_decided c k) n
