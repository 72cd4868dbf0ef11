-- Which state of the machine of `rules` the code's struct stands for, and back; the steps of the code are the machine's.
-- Assumes nothing.
use Rattle.std.specs.Prelude.{ℕ, Bool, true, false, cond, leb, Option, Some, None}
use Rattle.rules.specs.Rules as rules
use Rattle.rules.specs.Machine as machine
use Rattle.window.specs.declared.state.Defect.{Defect}
use Rattle.window.specs.declared.state.Defect.TheVariants.{Clear, Mismatch, Mismerge, Locv, Excess}
use Rattle.window.specs.declared.state.Availability.{Availability}
use Rattle.window.specs.declared.state.Availability.TheVariants.{Available, Unavailable}
use Rattle.window.specs.declared.state.Record.{Record}
use Rattle.window.specs.declared.state.Record.TheVariants.{U, B}
use Rattle.window.specs.declared.state.State.{State}
use Rattle.window.specs.Outcomes.{Turned}

-- ---- each enum and its cases

abbrev pub defect_in : Defect → machine.Defect
defect_in Clear = machine.none
defect_in Mismatch = machine.stands rules.mismatch
defect_in Mismerge = machine.stands rules.mismerge
defect_in Locv = machine.stands rules.locv
defect_in Excess = machine.stands rules.excess

abbrev pub defect_out : machine.Defect → Defect
defect_out machine.none = Clear
defect_out (machine.stands rules.mismatch) = Mismatch
defect_out (machine.stands rules.mismerge) = Mismerge
defect_out (machine.stands rules.locv) = Locv
defect_out (machine.stands rules.excess) = Excess

abbrev pub standing : Defect → Bool
standing Clear = false
standing Mismatch = true
standing Mismerge = true
standing Locv = true
standing Excess = true

abbrev pub availability_in : Availability → machine.Availability
availability_in Available = machine.available
availability_in (Unavailable since) = machine.unavailable since

abbrev pub availability_out : machine.Availability → Availability
availability_out machine.available = Available
availability_out (machine.unavailable since) = Unavailable since

abbrev pub record_out : rules.Record → Option Record
record_out rules.nothing = None
record_out (rules.U from until) = Some (U from until)
record_out (rules.B from until) = Some (B from until)

abbrev pub record_in : Option Record → rules.Record
record_in None = rules.nothing
record_in (Some (U from until)) = rules.U from until
record_in (Some (B from until)) = rules.B from until

-- ---- the paper's number and values for each case

-- the kind's code, 0 where no defect stands
abbrev pub code_of : Defect → ℕ
code_of Clear = 0
code_of Locv = 0x0201
code_of Mismatch = 0x0202
code_of Mismerge = 0x0203
code_of Excess = 0x0204

-- unavailable 0 or 1, and the since-slot
abbrev pub unavailable_of : Availability → ℕ × ℕ
unavailable_of Available = (0, 0)
unavailable_of (Unavailable since) = (1, since)

-- record 0 none, 1 U, 2 B, and its from and until
abbrev pub record_of : Option Record → ℕ × (ℕ × ℕ)
record_of None = (0, (0, 0))
record_of (Some (U from until)) = (1, (from, until))
record_of (Some (B from until)) = (2, (from, until))

-- ---- the state, and what a close makes of it

abbrev pub view : State → machine.State
view s = record {
  closed = s.closed;
  e = s.e;
  u = s.u;
  defect = defect_in s.defect;
  stood = s.stood;
  availability = availability_in s.availability;
}

abbrev pub state_out : machine.State → State
state_out s = record {
  closed = s.closed;
  e = s.e;
  u = s.u;
  defect = defect_out s.defect;
  stood = s.stood;
  availability = availability_out s.availability;
}

abbrev pub turn_out : machine.Turn → Availability × Option Record
turn_out t = (availability_out t.next, record_out t.handed)

-- the machine's turn on a path whose availability is judged, and on one whose isn't
abbrev pub turn_for : Bool → ℕ → machine.State → machine.Defect → ℕ → Bool → machine.Turn
turn_for true n s d t b = machine.turn 1 n s.availability s.defect s.stood d t b
turn_for false n s d t b = machine.goes_on machine.available

abbrev pub packet_of : Bool → machine.Packet
packet_of true = machine.expected
packet_of false = machine.unexpected

-- 1,000,000,000,000 slots closed already
abbrev pub full : State → Bool
full s = leb 1000000000000 s.closed

abbrev pub turned_of : Bool → State → Turned
turned_of cv s =
    cond (full s) (record { number = 9; state = s; handed = None })
    (record { number = 0; state = state_out (machine.close cv (view s)); handed = record_out (machine.handed_out cv (view s)) })
