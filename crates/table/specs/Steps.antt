-- What each call on a table answers and leaves.
-- Assumes nothing.
use Rattle.std.specs.Prelude.{ℕ, ◌+◌, Bool, true, false, List, [], ◌∷◌, ◌≡◌, leb, ltb, get_or, set, take, replicate}
use Rattle.payload.specs.Test.{pick, both, either}
use Rattle.payload.specs.Rates.{is_kind}
use Rattle.payload.specs.Layout.{is_ttsi}
use Rattle.payload.specs.Reading.{Answer, refusal}
use Rattle.window.specs.declared.state.Defect.TheVariants.{Clear}
use Rattle.window.specs.declared.state.Availability.TheVariants.{Available}
use Rattle.std.specs.Prelude.{None}
use Rattle.lsp.specs.Steps as path
use Rattle.lsp.specs.Steps.{new_of, same, gone, out_is}
use Rattle.lsp.specs.declared.path.Lsp.{Lsp}
use Rattle.lsp.specs.Outcomes as answered
use Rattle.table.specs.declared.paths.Table.{Table}
use Rattle.table.specs.Outcomes.{Added}
use Rattle.table.specs.Outcomes.{Closed}
use Rattle.table.specs.Outcomes.{Signalled}

-- ---- the paths

-- what a place with no path holds in an empty table
abbrev pub blank : Lsp
blank = new_of 0 (replicate 20 0) 0

abbrev pub empty : Table
empty = record { count = 0; lsps = replicate 64 blank }

-- paths are numbered from 0; a count over 64, which no call makes, stands for 64 paths
abbrev pub present : Table → ℕ
present t = pick (ltb t.count 64) t.count 64

-- what is read at a place past the last; no call asks for it
abbrev pub nowhere : Lsp
nowhere = record {
  kind = 0;
  ttsi = [];
  dl = 0;
  state = record { closed = 0; e = []; u = []; defect = Clear; stood = 0; availability = Available };
  server = false;
  fdi = gone;
}

abbrev pub path_at : Table → ℕ → Lsp
path_at t i = get_or t.lsps i nowhere

-- the table with another path in the place of path i
abbrev pub put : Table → ℕ → Lsp → Table
put t i l = record { count = t.count; lsps = set t.lsps i l }

-- ---- adding: 12, 8, 7

unfoldable pub expected_in : List Lsp → List ℕ → Bool
expected_in [] ttsi = false
expected_in (l ∷ ls) ttsi = either (same ttsi l.ttsi) (expected_in ls ttsi)

abbrev pub any_expects : Table → List ℕ → Bool
any_expects t ttsi = expected_in (take (present t) t.lsps) ttsi

abbrev pub not_added : ℕ → Table → Added
not_added n t = record { number = n; lsp = 0; next = t }

abbrev pub add_by : (given expected full : Bool) → Table → Lsp → Added
add_by false expected full t l = not_added 12 t
add_by true true full t l = not_added 8 t
add_by true false true t l = not_added 7 t
add_by true false false t l =
    record { number = 0; lsp = t.count; next = record { count = t.count + 1; lsps = set t.lsps t.count l } }

unfoldable pub add_of : Table → ℕ → List ℕ → ℕ → Added
add_of t kind ttsi dl = add_by (both (is_kind kind) (is_ttsi ttsi)) (any_expects t ttsi) (leb 64 t.count) t (new_of kind ttsi dl)

-- whether a path has the number
abbrev pub IsThere : Table → ℕ → Type 0
IsThere t i = ltb i (present t) ≡ true

abbrev pub IsNot : Table → ℕ → Type 0
IsNot t i = ltb i (present t) ≡ false

-- ---- the calls on a path: 1, then as the path answers

abbrev pub receive_by : (there : Bool) → Table → ℕ → Answer × Lsp → Answer × Table
receive_by false t i r = (refusal 1, t)
receive_by true t i r = (r.0, put t i r.1)

unfoldable pub receive_of : Table → ℕ → List ℕ → Answer × Table
receive_of t i p = receive_by (ltb i (present t)) t i (path.receive_of (path_at t i) p)

abbrev pub close_by : (there : Bool) → Table → ℕ → answered.Closed → Closed
close_by false t i c = record { number = 1; defect = Clear; out = out_is 0 0 false false; handed = None; next = t }
close_by true t i c = record { number = c.number; defect = c.defect; out = c.out; handed = c.handed; next = put t i c.next }

unfoldable pub close_of : Table → ℕ → Closed
close_of t i = close_by (ltb i (present t)) t i (path.close_of (path_at t i))

abbrev pub server_by : (there : Bool) → Table → ℕ → answered.Signalled → Signalled
server_by false t i s = record { number = 1; next = t }
server_by true t i s = record { number = s.number; next = put t i s.next }

unfoldable pub server_of : Table → ℕ → ℕ → Signalled
server_of t i v = server_by (ltb i (present t)) t i (path.server_of (path_at t i) v)

-- FDI (type 02) and BDI (type 03): the number, and the lent octets b afterwards
abbrev pub write_row_by : (there : Bool) → List ℕ → ℕ × List ℕ → ℕ × List ℕ
write_row_by false b w = (1, b)
write_row_by true b w = w

unfoldable pub write_row_of : ℕ → Table → ℕ → List ℕ → ℕ × List ℕ
write_row_of ty t i b = write_row_by (ltb i (present t)) b (path.write_row_of ty (path_at t i) b)
