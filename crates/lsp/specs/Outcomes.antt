-- What a path's steps answer, as the paper has it: a number, all else zero on a refusal, and the path afterwards; and which of these records
-- each answer of the code is.
-- Assumes nothing.
use Rattle.std.specs.Prelude.{ℕ, false, Option, None, Result, Ok, Err}
use Rattle.refusal.specs.declared.Refusal.{Refusal}
use Rattle.refusal.specs.Numbers.{number_of}
use Rattle.payload.specs.Reading.{Answer, refusal, answer_of}
use Rattle.payload.specs.declared.found.Found.{Found}
use Rattle.window.specs.declared.state.Defect.{Defect}
use Rattle.window.specs.declared.state.Defect.TheVariants.{Clear}
use Rattle.window.specs.declared.state.Record.{Record}
use Rattle.window.specs.declared.state.State.{State}
use Rattle.lsp.specs.declared.path.Lsp.{Lsp}
use Rattle.lsp.specs.declared.close.Out.{Out}
use Rattle.lsp.specs.declared.close.Closed as code

pub record Signalled : Type 0 where
  pub number : ℕ
  pub next : Lsp

pub record Closed : Type 0 where
  pub number : ℕ
  pub defect : Defect
  pub out : Out
  pub handed : Option Record
  pub next : Lsp

-- of a close where the record stands
pub record ClosedHere : Type 0 where
  pub number : ℕ
  pub defect : Defect
  pub out : Out
  pub handed : Option Record

abbrev pub nothing_out : Out
nothing_out = record { dt = 0; dl = 0; alarm = false; suppression = false }

-- ---- of the code's answers: a refusal leaves the path that the step was called on

abbrev pub signalled_in : Lsp → Result Lsp Refusal → Signalled
signalled_in l (Ok next) = record { number = 0; next = next }
signalled_in l (Err r) = record { number = number_of r; next = l }

abbrev pub closed_in : Lsp → Result (code.Closed × Lsp) Refusal → Closed
closed_in l (Ok (c, next)) = record { number = 0; defect = c.defect; out = c.out; handed = c.handed; next = next }
closed_in l (Err r) = record { number = number_of r; defect = Clear; out = nothing_out; handed = None; next = l }

abbrev pub here_in : Result code.Closed Refusal → ClosedHere
here_in (Ok c) = record { number = 0; defect = c.defect; out = c.out; handed = c.handed }
here_in (Err r) = record { number = number_of r; defect = Clear; out = nothing_out; handed = None }

-- the path with the state that is answered
abbrev pub state_in : Lsp → Result State Refusal → Result Lsp Refusal
state_in l (Ok s) = Ok (record { kind = l.kind; ttsi = l.ttsi; dl = l.dl; state = s; server = l.server; fdi = l.fdi })
state_in l (Err r) = Err r

-- by what the reader answered
abbrev pub answered_in : Answer → Lsp → Result Lsp Refusal → Answer × Lsp
answered_in a l (Ok next) = (a, next)
answered_in a l (Err r) = (refusal (number_of r), l)

abbrev pub received_in : Lsp → Result (Found × Lsp) Refusal → Answer × Lsp
received_in l (Ok (found, next)) = (answer_of (Ok found), next)
received_in l (Err r) = (refusal (number_of r), l)
