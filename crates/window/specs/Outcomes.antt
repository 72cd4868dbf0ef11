-- What a close answers, as one record: the paper's number, the state after it, and the record that it hands out.
-- Assumes nothing.
use Rattle.std.specs.Prelude.{ℕ, Option, None, Result, Ok, Err}
use Rattle.refusal.specs.declared.Refusal.{Refusal}
use Rattle.refusal.specs.Numbers.{number_of}
use Rattle.window.specs.declared.state.Record.{Record}
use Rattle.window.specs.declared.state.State.{State}

pub record Turned : Type 0 where
  pub number : ℕ
  pub state : State
  pub handed : Option Record

-- a refused close leaves the state that it was called on
abbrev pub turned_in : State → Result (State × Option Record) Refusal → Turned
turned_in s (Ok (next, handed)) = record { number = 0; state = next; handed = handed }
turned_in s (Err r) = record { number = number_of r; state = s; handed = None }
