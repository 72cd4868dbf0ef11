-- What the code answers, as the paper has it: a number, all else zero on a refusal, and what the call leaves; and which of these each answer of
-- the code is.
-- Assumes nothing.
use Rattle.std.specs.Prelude.{ℕ, Bool, true, false, List, Option, Some, None, Result, Ok, Err, replicate}
use Rattle.refusal.specs.declared.Refusal.{Refusal}
use Rattle.refusal.specs.Numbers.{number_in}
use Rattle.window.specs.declared.state.Record.{Record}
use Rattle.lsp.specs.declared.path.Lsp.{Lsp}
use Rattle.table.specs.declared.paths.Table.{Table}
use Rattle.events.specs.Field.{Field}
use Rattle.events.specs.Field as field
use Rattle.events.specs.Lines.{line_of}
use Rattle.events.specs.Event.{Told}
use Rattle.events.specs.declared.framing.Rest as code
use Rattle.events.specs.declared.framing.Rest.TheVariants as ends
use Rattle.events.specs.declared.reckoning.Reckoning.{Reckoning}
use Rattle.events.specs.declared.reckoning.Ran as ran

-- what stands where a run ends: perhaps an event more; nothing, or a field that more octets may complete; a bad field
pub data Rest : Type 0 where
  Going : Rest
  Cut : Rest
  Bad : Rest

pub record Ran : Type 0 where
  pub next : Reckoning
  pub taken : ℕ
  pub text : ℕ
  pub rest : Rest

-- a path's own packet; where there is none, its octets are zero
pub record Own : Type 0 where
  pub there : Bool
  pub octets : List ℕ

-- of an event on a path
pub record Stepped : Type 0 where
  pub number : ℕ
  pub handed : Option Record
  pub next : Lsp

-- ---- of the code's answers

abbrev pub field_in : Result ℕ code.Rest → Field
field_in (Ok n) = field.Whole n
field_in (Err ends.Cut) = field.Cut
field_in (Err ends.Bad) = field.Bad

abbrev pub rest_in : Option code.Rest → Rest
rest_in None = Going
rest_in (Some ends.Cut) = Cut
rest_in (Some ends.Bad) = Bad

abbrev pub ran_in : ran.Ran → Ran
ran_in r = record { next = r.next; taken = r.taken; text = r.text; rest = rest_in r.rest }

abbrev pub own_in : Option (List ℕ) → Own
own_in (Some octets) = record { there = true; octets = octets }
own_in None = record { there = false; octets = replicate 44 0 }

-- a refusal hands nothing out
abbrev pub handed_in : Result (Option Record) Refusal → Option Record
handed_in (Ok handed) = handed
handed_in (Err r) = None

abbrev pub stepped_in : Result (Option Record) Refusal → Lsp → Stepped
stepped_in a l = record { number = number_in a; handed = handed_in a; next = l }

abbrev pub told_in : Result (Option Record) Refusal → Table → Told
told_in a t = record { number = number_in a; handed = handed_in a; next = t }

-- the event's line
abbrev pub line_in : ℕ → ℕ → Result (Option Record) Refusal → List ℕ
line_in index lsp a = line_of index lsp (number_in a) (handed_in a)
