-- The paper's numbers of the refusals. Assumes nothing.
use Rattle.std.specs.Prelude.{ℕ, Result, Ok, Err}
use Rattle.refusal.specs.declared.Refusal.{Refusal}
use Rattle.refusal.specs.declared.Refusal.TheVariants.{NoPath, Length, Bip16, Function, Row, OtherKind, Full, Taken, Limit, Broken, Short, Value, NoDefect}

abbrev pub number_of : Refusal → ℕ
number_of NoPath = 1
number_of Length = 2
number_of Bip16 = 3
number_of Function = 4
number_of Row = 5
number_of OtherKind = 6
number_of Full = 7
number_of Taken = 8
number_of Limit = 9
number_of Broken = 10
number_of Short = 11
number_of Value = 12
number_of NoDefect = 13

-- 0 is "done"
abbrev pub number_in : {A : Type 0} → Result A Refusal → ℕ
number_in (Ok a) = 0
number_in (Err r) = number_of r
