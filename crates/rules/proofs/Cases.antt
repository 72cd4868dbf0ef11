-- The paper's cases, as one table: the machine's answers are computed, and by the theorem the rules give the same.
-- Assumes nothing.
use Prim.Native.Nat.{ℕ, suc}
use mathlib.Core.Path.{◌≡◌, refl, ap}
use mathlib.Core.Bool.{true}
use mathlib.Core.List.{List, [], ◌∷◌, map}
use Rattle.rules.specs.Counts.{Counts}
use Rattle.rules.specs.Machine.{State, Defect, none, stands, Availability, available, unavailable}
use Rattle.rules.specs.Machine.{total, last_of, judge, verdict, calm, long_enough, turn}
use Rattle.rules.specs.History.{state_of, slots}
use Rattle.rules.specs.Claim.{RightDefect, Right, GivesDefect, GivesAvailability}
use Rattle.rules.specs.Cases.{Outcome, Case, counts, earlier, answered, Met, AllMet, table}
use Rattle.rules.proofs.Theorem.{slots_right, slots_answer}

defect_given : (c : Counts) (n : ℕ) (d e : Defect) → RightDefect c n d → d ≡ e → GivesDefect c n e
defect_given c n d none w h = w.quiet.0 h
defect_given c n d (stands k) w h = (w.kind k).0 h

availability_given : (c : Counts) (n : ℕ) (s : State) (a : Availability) → Right c n s → s.availability ≡ a → GivesAvailability 1 c n a
availability_given c n s available w h = w.in_service.0 h
availability_given c n s (unavailable from) w h = (w.out_since from).0 h

-- what the machine answers, the rules give
met : (x : Case) → answered x.e ≡ x.gives → Met x
unfolding answered state_of slots
met x h =
    let c : Counts = counts x.e in
    let n : ℕ = earlier x.e in
    let w : Right c (suc n) (state_of true (slots c (suc n))) = slots_right c (suc n) in
    record {
      machine = h;
      defect = defect_given c (suc n) _ x.gives.defect w.defect (ap (λ (o : Outcome). o.defect) h);
      availability = availability_given c (suc n) _ x.gives.availability w (ap (λ (o : Outcome). o.availability) h);
      handed = ((slots_answer c n).hands x.gives.handed).0 (ap (λ (o : Outcome). o.handed) h);
    }

all_met : (xs : List Case) → map (λ x. answered x.e) xs ≡ map (λ x. x.gives) xs → AllMet xs
all_met [] h = tt
all_met (x ∷ xs) h = (met x (cc), all_met xs (cc))

computed : map (λ x. answered x.e) table ≡ map (λ x. x.gives) table
unfolding answered state_of slots total last_of judge verdict calm long_enough turn
computed = refl

pub table_met : AllMet table
table_met = all_met table computed
