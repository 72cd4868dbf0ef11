-- The paper's cases (`specs/Cases.antt`): the answers are computed, and by the theorem the rules give them. Assumes nothing.
use Prim.Native.Nat.{ℕ, zero, suc, ◌<◌}
use mathlib.Core.Path.{◌≡◌, refl, ap}
use mathlib.Core.Bool.{Bool, true}
use mathlib.Core.List.{List, [], ◌∷◌, map}
use native.Mathlib.Omega.{arith}
use lib.Dec.{ltb}
use lib.ListN.{length, drop}
use borrow.Author.Tests.{ltb-true}
use mathlib.Core.Logic.{⊎_elim}
use Rattle.std.proofs.lemmas.Bool.{cases_lt}
use Rattle.std.specs.Prelude.{Option, Some, None}
use Rattle.payload.specs.Test.{both}
use Rattle.payload.specs.Layout.{run}
use Rattle.payload.specs.Reading.{read_of}
use Rattle.payload.specs.Law.{Octets}
use Rattle.payload.specs.Cases.{t₀}
use Rattle.payload.proofs.Tests.{both_left, both_right}
use Rattle.rules.specs.Counts.{Counts}
use Rattle.rules.specs.Rules as rules
use Rattle.rules.specs.Machine as machine
use Rattle.rules.specs.Machine.{total, last_of, judge, verdict, calm, long_enough, turn}
use Rattle.rules.specs.History.{count_in}
use Rattle.rules.specs.Claim.{RightDefect, Right, GivesDefect, GivesAvailability}
use Rattle.rules.specs.Cases as rule-cases
use Rattle.rules.specs.Cases.{Outcome}
use Rattle.window.specs.View.{record_in, record_out, view}
use Rattle.window.specs.declared.state.Record.{Record}
use Rattle.window.specs.declared.state.Record.TheVariants.{U, B}
use Rattle.lsp.specs.Steps as lsp
use Rattle.lsp.specs.Steps.{same}
use Rattle.lsp.specs.History.{History, received, closed, slots, limit}
use Rattle.lsp.specs.Theorem.{exact}
use Rattle.table.specs.Steps.{path_at, expected_in, add_of, receive_of, close_of}
use Rattle.history.specs.Calls.{Call, add, receive, close, Past, past_at, goes_on, Reach, empty, calling}
use Rattle.history.specs.Theorem.{Claim, RightClose}
use Rattle.history.specs.Cases.{path, packet, filled, before, world_after, world_of, Case, counts, answered, outcome, of_counts, table, Carried, AllCarried, Cases}
use Rattle.history.specs.Cases as cases
use Rattle.history.proofs.Reached.{reached_lawful}
use Rattle.history.proofs.Theorem.{claimed}
use Rattle.history.proofs.Events.{close_newest}
use Rattle.history.proofs.Corollaries.{right_after}

computed : map (λ (c : Case). answered c.input) table ≡ map (λ (c : Case). c.answer) table
unfolding run read_of total last_of judge verdict calm long_enough turn count_in lsp.receive_of lsp.close_of same received expected_in add_of receive_of close_of
computed = refl

-- ---- octets, by a test

abbrev small : List ℕ → Bool
small [] = true
small (x ∷ p) = both (ltb x 256) (small p)

pub octets_small : (p : List ℕ) → small p ≡ true → Octets p
octets_small [] e i = omega arith
octets_small (x ∷ p) e zero = ltb-true x 256 (both_left (ltb x 256) (small p) e)
octets_small (x ∷ p) e (suc i) = octets_small p (both_right (ltb x 256) (small p) e) i

-- ---- the calls reach a world with one path

record Run (cs : List Call) : Type 0 where
  pub reached : Reach cs (world_after cs)
  pub history : History
  pub single : (world_after cs).pasts ≡ record { added = path; history = history } ∷ []

added : Run (add path ∷ [])
unfolding add_of expected_in
added = record { reached = calling empty (add path) (octets_small t₀ refl, omega arith) tt; history = []; single = refl }

received_one : (cs : List Call) → Run cs → Run (receive 0 packet ∷ cs)
unfolding run
received_one cs r =
    record {
      reached = calling r.reached (receive 0 packet) (octets_small packet refl) tt;
      history = received path packet r.history;
      single = ap (goes_on 0 (λ a h. received a packet h)) r.single;
    }

closed_one : (cs : List Call) → Run cs → Run (close 0 ∷ cs)
closed_one cs r =
    record { reached = calling r.reached (close 0) tt tt; history = closed r.history; single = ap (goes_on 0 (λ a h. closed h)) r.single }

all_filled : (e : ℕ) (cs : List Call) → Run cs → Run (filled e cs)
all_filled zero cs r = r
all_filled (suc e) cs r = received_one (filled e cs) (all_filled e cs r)

runs : (es : List ℕ) (cs : List Call) → Run cs → Run (before cs es)
runs [] cs r = r
runs (e ∷ []) cs r = all_filled e cs r
runs (e ∷ f ∷ es) cs r = runs (f ∷ es) (close 0 ∷ filled e cs) (closed_one (filled e cs) (all_filled e cs r))

-- ---- what the definitions answer, the rules give

defect_given : (c : Counts) (n : ℕ) (d e : machine.Defect) → RightDefect c n d → d ≡ e → GivesDefect c n e
defect_given c n d machine.none w h = w.quiet.0 h
defect_given c n d (machine.stands k) w h = (w.kind k).0 h

availability_given : (c : Counts) (n : ℕ) (s : machine.State) (a : machine.Availability) → Right c n s → s.availability ≡ a → GivesAvailability 1 c n a
availability_given c n s machine.available w h = w.in_service.0 h
availability_given c n s (machine.unavailable from) w h = (w.out_since from).0 h

record_given : (r : Option Record) (q : rules.Record) → record_in r ≡ q → r ≡ record_out q
record_given None q e = ap record_out e
record_given (Some (U from until)) q e = ap record_out e
record_given (Some (B from until)) q e = ap record_out e

carry : (es ds : List ℕ) (o : Outcome) → answered (counts es) ≡ cases.closed 0 ds o → Carried es o
carry es ds o e =
    record {
      reached = r.reached;
      defect = defect_given _ _ _ o.defect right.defect (ap (λ (x : Outcome). x.defect) same_outcome);
      availability = availability_given _ _ _ o.availability after (ap (λ (x : Outcome). x.availability) same_outcome);
      handed = (right.cv kind o.handed).0 (record_given _ o.handed (ap (λ (x : Outcome). x.handed) same_outcome));
    }
  where
    r : Run (before (add path ∷ []) es)
    r = runs es (add path ∷ []) added

    w : Claim (world_of es)
    w = claimed _ (world_of es) r.reached

    same_outcome : outcome (world_of es) ≡ o
    same_outcome = cc

    number : (close_of (world_of es).table 0).number ≡ 0
    number = cc

    there : 0 < (world_of es).table.count
    there = omega (arith, w.count, ap length r.single)

    below : slots (past_at (world_of es).pasts 0).history < limit
    below =
        ⊎_elim (λ k. k) (λ k. absurd (omega (arith, number, ((w.close 0).full there k).number)))
        (cases_lt (slots (past_at (world_of es).pasts 0).history) limit)

    kind : (past_at (world_of es).pasts 0).added.kind ≡ 0
    kind = ap (λ (ps : List Past). (past_at ps 0).added.kind) r.single

    right : RightClose (past_at (world_of es).pasts 0) (close_of (world_of es).table 0)
    right = (w.close 0).done there below

    after : Right (exact (past_at (world_of es).pasts 0).history) (suc (slots (past_at (world_of es).pasts 0).history)) (view (path_at (close_of (world_of es).table 0).next 0).state)
    after =
        right_after (world_of es) w 0 (record { there = there; below = below }) (claimed _ _ (calling r.reached (close 0) tt tt))
        (close_newest (world_of es) (reached_lawful _ (world_of es) r.reached) w 0 number) kind

all_carried : (cs : List rule-cases.Case) → map (λ (c : Case). answered c.input) (of_counts cs) ≡ map (λ (c : Case). c.answer) (of_counts cs) → AllCarried cs
all_carried [] e = tt
all_carried (c ∷ cs) e = (carry c.e c.e c.gives (cc), all_carried cs (cc))

pub cases_hold : Cases
cases_hold = record { met = computed; carried = all_carried rule-cases.table (ap (drop 4) computed) }
