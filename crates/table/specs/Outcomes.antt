-- What the calls on a table answer, as the paper has it: a number, all else zero on a refusal, and the table afterwards; and which of these
-- records each answer of the code is.
-- Assumes nothing.
use Rattle.std.specs.Prelude.{ℕ, Option, None, Result, Ok, Err}
use Rattle.refusal.specs.declared.Refusal.{Refusal}
use Rattle.refusal.specs.Numbers.{number_of}
use Rattle.payload.specs.Reading.{Answer, refusal, answer_of}
use Rattle.payload.specs.declared.found.Found.{Found}
use Rattle.window.specs.declared.state.Defect.{Defect}
use Rattle.window.specs.declared.state.Defect.TheVariants.{Clear}
use Rattle.window.specs.declared.state.Record.{Record}
use Rattle.lsp.specs.Outcomes.{nothing_out}
use Rattle.lsp.specs.declared.close.Out.{Out}
use Rattle.lsp.specs.declared.close.Closed as path
use Rattle.table.specs.declared.paths.Table.{Table}

pub record Added : Type 0 where
  pub number : ℕ
  pub lsp : ℕ
  pub next : Table

pub record Closed : Type 0 where
  pub number : ℕ
  pub defect : Defect
  pub out : Out
  pub handed : Option Record
  pub next : Table

pub record Signalled : Type 0 where
  pub number : ℕ
  pub next : Table

-- ---- of the code's answers: a refusal leaves the table that the call was on

abbrev pub added_in : Table → Result (ℕ × Table) Refusal → Added
added_in t (Ok (lsp, next)) = record { number = 0; lsp = lsp; next = next }
added_in t (Err r) = record { number = number_of r; lsp = 0; next = t }

abbrev pub received_in : Table → Result (Found × Table) Refusal → Answer × Table
received_in t (Ok (found, next)) = (answer_of (Ok found), next)
received_in t (Err r) = (refusal (number_of r), t)

abbrev pub closed_in : Table → Result (path.Closed × Table) Refusal → Closed
closed_in t (Ok (c, next)) = record { number = 0; defect = c.defect; out = c.out; handed = c.handed; next = next }
closed_in t (Err r) = record { number = number_of r; defect = Clear; out = nothing_out; handed = None; next = t }

abbrev pub signalled_in : Table → Result Table Refusal → Signalled
signalled_in t (Ok next) = record { number = 0; next = next }
signalled_in t (Err r) = record { number = number_of r; next = t }
