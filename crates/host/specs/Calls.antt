-- What each call of C answers and leaves: as restoring, the table's call, and saving.
-- Assumes nothing.
use Rattle.std.specs.Prelude.{Bool, true, false, Option, List, [], ◌∷◌, ◌++◌, ℕ, eqb, leb, ltb, length, drop}
use Rattle.payload.specs.Test.{both}
use Rattle.octets.specs.Number.{octets}
use Rattle.octets.specs.Parts.{joined}
use Rattle.window.specs.View.{code_of, record_of}
use Rattle.field.specs.Field.{server_of}
use Rattle.table.specs.Steps as table
use Rattle.table.specs.declared.paths.Table.{Table}
use Rattle.table.specs.Outcomes.{Closed}
use Rattle.window.specs.declared.state.Defect.{Defect}
use Rattle.window.specs.declared.state.Record.{Record}
use Rattle.lsp.specs.declared.close.Out.{Out}
use Rattle.image.specs.Image.{save_of, restore_of, image_in}
use Rattle.image.specs.Outcomes.{Restored}

-- ---- the buffer: 11 where it is under 5,061 octets, then 10 where it begins with no image

abbrev pub is_long : List ℕ → Bool
is_long s = leb 5061 (length s)

-- what restoring makes of the octets up to the last field that the header counts
abbrev pub held_in : List ℕ → Restored
held_in s = restore_of (image_in s)

abbrev pub is_held : List ℕ → Bool
is_held s = eqb (held_in s).number 0

abbrev pub table_in : List ℕ → Table
table_in s = (held_in s).table

-- the buffer after a table is saved into it
abbrev pub saved_in : Table → List ℕ → List ℕ
saved_in t s = (save_of t s).1

-- by the call's own number and table: the number, and the buffer afterwards
abbrev pub called_by : (long held : Bool) → ℕ × Table → List ℕ → ℕ × List ℕ
called_by false held r s = (11, s)
called_by true false r s = (10, s)
called_by true true r s = (r.0, saved_in r.1 s)

abbrev pub called : (Table → ℕ × Table) → List ℕ → ℕ × List ℕ
called f s = called_by (is_long s) (is_held s) (f (table_in s)) s

-- ---- a record by its number: 11, then 10, then 1

abbrev pub opened_by : (long held : Bool) → ℕ
opened_by false held = 11
opened_by true false = 10
opened_by true true = 0

abbrev pub opened_of : List ℕ → ℕ
opened_of s = opened_by (is_long s) (is_held s)

abbrev pub found_by : (long held there : Bool) → ℕ
found_by false held there = 11
found_by true false there = 10
found_by true true false = 1
found_by true true true = 0

abbrev pub found_of : List ℕ → ℕ → ℕ
found_of s i = found_by (is_long s) (is_held s) (ltb i (table.present (table_in s)))

-- ---- the calls

abbrev pub empty_by : (long : Bool) → List ℕ → ℕ × List ℕ
empty_by true s = save_of table.empty s
empty_by false s = (11, s)

unfoldable pub empty_of : List ℕ → ℕ × List ℕ
empty_of s = empty_by (is_long s) s

abbrev pub add_step : ℕ → List ℕ → ℕ → Table → ℕ × Table
add_step kind ttsi dl t = ((table.add_of t kind ttsi dl).number, (table.add_of t kind ttsi dl).next)

unfoldable pub add_of : List ℕ → ℕ → List ℕ → ℕ → ℕ × List ℕ
add_of s kind ttsi dl = called (add_step kind ttsi dl) s

abbrev pub receive_step : ℕ → List ℕ → Table → ℕ × Table
receive_step i p t = ((table.receive_of t i p).0.number, (table.receive_of t i p).1)

unfoldable pub receive_of : List ℕ → ℕ → List ℕ → ℕ × List ℕ
receive_of s i p = called (receive_step i p) s

abbrev pub server_step : ℕ → ℕ → Table → ℕ × Table
server_step i v t = ((table.server_of t i v).number, (table.server_of t i v).next)

unfoldable pub server_on : List ℕ → ℕ → ℕ → ℕ × List ℕ
server_on s i v = called (server_step i v) s

-- FDI (type 02) and BDI (type 03) from the state: the number, and the payload buffer afterwards
abbrev pub write_row_by : (long held : Bool) → ℕ × List ℕ → List ℕ → ℕ × List ℕ
write_row_by false held w b = (11, b)
write_row_by true false w b = (10, b)
write_row_by true true w b = w

unfoldable pub write_row_of : ℕ → List ℕ → ℕ → List ℕ → ℕ × List ℕ
write_row_of ty s i b = write_row_by (is_long s) (is_held s) (table.write_row_of ty (table_in s) i b) b

-- ---- the close, whose answer goes to a buffer of its own

-- DT, DL, alarm, suppression
abbrev pub out_parts : Out → List (List ℕ)
out_parts o = octets 2 o.dt ∷ octets 4 o.dl ∷ octets 1 (server_of o.alarm) ∷ octets 1 (server_of o.suppression) ∷ []

-- record 0 none, 1 U, 2 B; from; until
abbrev pub record_parts : Option Record → List (List ℕ)
record_parts r = octets 1 (record_of r).0 ∷ octets 8 (record_of r).1.0 ∷ octets 8 (record_of r).1.1 ∷ []

-- the kind's code first
abbrev pub answer_parts : Defect → Out → Option Record → List (List ℕ)
answer_parts d o r = (octets 2 (code_of d) ∷ []) ++ out_parts o ++ record_parts r

unfoldable pub answer_octets : Closed → List ℕ
answer_octets c = joined (answer_parts c.defect c.out c.handed)

-- a refusal writes no answer
abbrev pub answered_by : (done : Bool) → Closed → List ℕ → List ℕ
answered_by true c a = answer_octets c ++ drop 27 a
answered_by false c a = a

-- the number, the image's buffer and the answer's afterwards
abbrev pub close_by : (long held : Bool) → Closed → List ℕ → List ℕ → ℕ × List ℕ × List ℕ
close_by false held c s a = (11, s, a)
close_by true false c s a = (10, s, a)
close_by true true c s a = (c.number, saved_in c.next s, answered_by (eqb c.number 0) c a)

unfoldable pub close_of : List ℕ → ℕ → List ℕ → ℕ × List ℕ × List ℕ
close_of s i a = close_by (both (is_long s) (leb 27 (length a))) (is_held s) (table.close_of (table_in s) i) s a
