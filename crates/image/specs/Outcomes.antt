-- What restoring answers, as the paper has it: a number, and the table, an empty one on a refusal; and which of these records the code's
-- answer is.
-- Assumes nothing.
use Rattle.std.specs.Prelude.{ℕ, Result, Ok, Err}
use Rattle.refusal.specs.declared.Refusal.{Refusal}
use Rattle.refusal.specs.Numbers.{number_of}
use Rattle.table.specs.Steps.{empty}
use Rattle.table.specs.declared.paths.Table.{Table}

pub record Restored : Type 0 where
  pub number : ℕ
  pub table : Table

abbrev pub restored_in : Result Table Refusal → Restored
restored_in (Ok t) = record { number = 0; table = t }
restored_in (Err r) = record { number = number_of r; table = empty }
