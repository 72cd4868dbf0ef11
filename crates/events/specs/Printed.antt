-- What the records program prints for an input: each event's line, then the last.
-- Assumes nothing.
use Rattle.std.specs.Prelude.{ℕ, zero, suc, ◌+◌, ◌-◌, ◌/◌, min, Bool, false, List, [], ◌++◌, eqb, leb, length, take, drop}
use Rattle.payload.specs.Test.{pick}
use Rattle.octets.specs.Parts.{laid}
use Rattle.table.specs.Steps.{empty}
use Rattle.events.specs.Framing.{frame_of}
use Rattle.events.specs.Lines.{line_of, last_line}
use Rattle.events.specs.Event.{lsp_in, told_of}
use Rattle.events.specs.Field.{Field}
use Rattle.events.specs.Field as field
use Rattle.events.specs.Outcomes.{Rest, Going, Cut, Bad, Ran}
use Rattle.events.specs.declared.reckoning.Reckoning.{Reckoning}

-- ---- one event

-- k more, or the largest number of 64 bits; no input is that long
abbrev pub more : ℕ → ℕ → ℕ
more n k = min (n + k) 0xFFFF_FFFF_FFFF_FFFF

-- after the event whose field is the first n octets of s
abbrev pub after : Reckoning → ℕ → List ℕ → Reckoning
after r n s =
    record { table = (told_of r.table (take n s)).next; events = more r.events 1; offset = more r.offset n }

-- the event's line, which may be none
abbrev pub line_at : Reckoning → ℕ → List ℕ → List ℕ
line_at r n s =
    line_of (more r.events 1) (lsp_in (take n s)) (told_of r.table (take n s)).number (told_of r.table (take n s)).handed

-- ---- so many events

-- where the program then is, the octets taken, the lines, and what follows
pub record Run : Type 0 where
  pub next : Reckoning
  pub taken : ℕ
  pub text : List ℕ
  pub rest : Rest

abbrev pub stopped : Reckoning → Rest → Run
stopped r x = record { next = r; taken = 0; text = []; rest = x }

abbrev pub further : ℕ → List ℕ → Run → Run
further n line x = record { next = x.next; taken = n + x.taken; text = line ++ x.text; rest = x.rest }

abbrev pub ran_by : Field → Reckoning → List ℕ → (ℕ → Run) → Run
ran_by field.Cut r s go = stopped r Cut
ran_by field.Bad r s go = stopped r Bad
ran_by (field.Whole n) r s go = further n (line_at r n s) (go n)

-- at most k events of s, from r on
unfoldable pub ran_of : ℕ → Reckoning → List ℕ → Run
ran_of zero r s = stopped r Going
ran_of (suc k) r s = ran_by (frame_of s) r s (λ n. ran_of k (after r n s) (drop n s))

-- ---- the whole input

abbrev pub begin : Reckoning
begin = record { table = empty; events = 0; offset = 0 }

-- whether the input ended with a whole field, by what follows and the octets left
abbrev pub is_whole : Rest → ℕ → Bool
is_whole Going left = false
is_whole Cut left = eqb left 0
is_whole Bad left = false

-- the lines of a run over s, and the last
abbrev pub all : Run → List ℕ → List ℕ
all x s = x.text ++ last_line (is_whole x.rest (length s - x.taken)) x.next.events x.next.offset

-- from r on. An event has at least four octets, so a run of more events than octets sees them all
unfoldable pub printed_from : Reckoning → List ℕ → List ℕ
printed_from r s = all (ran_of (suc (length s)) r s) s

abbrev pub printed : List ℕ → List ℕ
printed s = printed_from begin s

-- ---- what the calls promise

-- a line takes at most 65 octets of the lent buffer b
abbrev pub run_as : Run → List ℕ → Ran × List ℕ
run_as x b = (record { next = x.next; taken = x.taken; text = length x.text; rest = x.rest }, laid b 0 x.text)

unfoldable pub run_of : Reckoning → List ℕ → List ℕ → Ran × List ℕ
run_of r s b = run_as (ran_of (length b / 65) r s) b

unfoldable pub finish_of : Reckoning → Bool → List ℕ → ℕ × List ℕ
finish_of r whole b =
    pick (leb 65 (length b)) (length (last_line whole r.events r.offset), laid b 0 (last_line whole r.events r.offset)) (0, b)
