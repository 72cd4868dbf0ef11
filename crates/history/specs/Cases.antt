-- The paper's numbers to meet, P1 to P12, as one table under one claim (`met` of `Cases`): each case's input, what the definitions that the
-- contracts cite answer to it, and what the paper says. P1 to P4 are payload's list, P5 to P12 the first eight of rules', which also has the
-- flood and the program's path. A list of counts is made into calls on a table: T is added with kind 0, each slot gets so many CV with T, and is closed.
-- `carried` says that the window rules give the same answers from the history of those calls. `proofs/Cases.antt` proves both.
-- Assumes nothing.
use Rattle.std.specs.Prelude.{ℕ, zero, suc, ◌+◌, ◌*◌, ◌≡◌, List, [], ◌∷◌, ◌++◌, map, get_or, replicate}
use Rattle.payload.specs.Layout.{Fields, cv, octets_of}
use Rattle.payload.specs.Cases as payload
use Rattle.payload.specs.Cases.{t₀}
use Rattle.rules.specs.Rules.{HandsOut}
use Rattle.rules.specs.Claim.{GivesDefect, GivesAvailability}
use Rattle.rules.specs.Cases as rules
use Rattle.rules.specs.Cases.{Outcome}
use Rattle.window.specs.View.{defect_in, availability_in, record_in}
use Rattle.lsp.specs.History.{Added, History, slots}
use Rattle.lsp.specs.Theorem.{exact}
use Rattle.table.specs.Steps.{path_at, close_of}
use Rattle.history.specs.Calls.{Call, add, receive, close, past_at, World, start, next, Reach}

-- ---- the calls of a list of counts

abbrev pub path : Added
path = record { kind = 0; ttsi = t₀; dl = 0 }

-- P1
abbrev pub packet : List ℕ
packet = octets_of (cv t₀)

abbrev pub filled : ℕ → List Call → List Call
filled e cs = replicate e (receive 0 packet) ++ cs

-- all calls but the last close, the newest first
abbrev pub before : List Call → List ℕ → List Call
before cs [] = cs
before cs (e ∷ []) = filled e cs
before cs (e ∷ f ∷ es) = before (close 0 ∷ filled e cs) (f ∷ es)

-- the world that calls leave, none of them restoring
abbrev pub world_after : List Call → World
world_after [] = start
world_after (c ∷ cs) = next c (world_after cs)

abbrev pub world_of : List ℕ → World
world_of es = world_after (before (add path ∷ []) es)

abbrev pub history_of : World → History
history_of w = (past_at w.pasts 0).history

-- E of the first n slots, as a history has them
abbrev pub slots_of : ℕ → History → List ℕ
slots_of zero h = []
slots_of (suc n) h = slots_of n h ++ ((exact h).expected (suc n) ∷ [])

-- ---- the cases

pub data Input : Type 0 where
  fields : Fields → Input
  counts : List ℕ → Input

pub data Answer : Type 0 where
  bip16 : ℕ → Answer
  -- of the last close: its number, E of each slot up to it, and what it leaves and hands out
  closed : ℕ → List ℕ → Outcome → Answer

pub record Case : Type 0 where
  pub input : Input
  pub answer : Answer

-- what the table's close answers and leaves on path 0
abbrev pub outcome : World → Outcome
outcome w = record {
  defect = defect_in (close_of w.table 0).defect;
  availability = availability_in (path_at (close_of w.table 0).next 0).state.availability;
  handed = record_in (close_of w.table 0).handed;
}

abbrev pub answered : Input → Answer
answered (fields f) = bip16 (get_or (octets_of f) 42 0 * 256 + get_or (octets_of f) 43 0)
answered (counts es) = closed (close_of (world_of es).table 0).number (slots_of (suc (slots (history_of (world_of es)))) (history_of (world_of es))) (outcome (world_of es))

abbrev pub of_payloads : List payload.Case → List Case
of_payloads = map (λ (c : payload.Case). record { input = fields c.fields; answer = bip16 c.number })

abbrev pub of_counts : List rules.Case → List Case
of_counts = map (λ (c : rules.Case). record { input = counts c.e; answer = closed 0 c.e c.gives })

-- P1 to P4, then P5 to P12 and two more
abbrev pub table : List Case
table = of_payloads payload.cases ++ of_counts rules.table

-- the rules give o at the last close, from the history of the calls
pub record Carried (es : List ℕ) (o : Outcome) : Type 0 where
  pub reached : Reach (before (add path ∷ []) es) (world_of es)
  pub defect : GivesDefect (exact (history_of (world_of es))) (suc (slots (history_of (world_of es)))) o.defect
  pub availability : GivesAvailability 1 (exact (history_of (world_of es))) (suc (slots (history_of (world_of es)))) o.availability
  pub handed : HandsOut 1 (exact (history_of (world_of es))) (suc (slots (history_of (world_of es)))) o.handed

abbrev pub AllCarried : List rules.Case → Type 0
AllCarried [] = Unit {0}
AllCarried (c ∷ cs) = Carried c.e c.gives × AllCarried cs

pub record Cases : Type 0 where
  pub met : map (λ (c : Case). answered c.input) table ≡ map (λ (c : Case). c.answer) table
  pub carried : AllCarried rules.table
