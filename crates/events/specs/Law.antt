-- Feeding the input in pieces gives the lines of the whole; and the paths are those that the theorem over any calls speaks of.
-- `proofs/Pieces.antt` and `proofs/Reached.antt` prove it.
-- Assumes nothing.
use Rattle.std.specs.Prelude.{ℕ, zero, suc, Bool, true, false, ◌≡◌, List, [], ◌∷◌, ◌++◌, eqb, take, drop}
use Rattle.payload.specs.Law.{Octets}
use Rattle.octets.specs.Parts.{part, number_at, octet_at}
use Rattle.history.specs.Calls.{Call, add, receive, close, server, World, Reach}
use Rattle.events.specs.Framing.{frame_of}
use Rattle.events.specs.Lines.{end_line, bad_line}
use Rattle.events.specs.Event.{tag_in, lsp_in}
use Rattle.events.specs.Printed.{ran_of, begin, printed_from, printed}
use Rattle.events.specs.Field.{Field}
use Rattle.events.specs.Field as field
use Rattle.events.specs.Outcomes.{Bad}
use Rattle.events.specs.declared.reckoning.Reckoning.{Reckoning}

-- ---- pieces

-- A way of feeding: the input so far, where the program is, the octets that it holds back, and the lines printed. A piece of any size goes
-- behind what is held back; a run over that takes any number of events
pub data Feeding : List ℕ → Reckoning → List ℕ → List ℕ → Type 0 where
  start : Feeding [] begin [] []
  piece : {i : List ℕ} {r : Reckoning} {h t : List ℕ} → Feeding i r h t → (p : List ℕ) → Feeding (i ++ p) r (h ++ p) t
  run : {i : List ℕ} {r : Reckoning} {h t : List ℕ} → Feeding i r h t → (k : ℕ)
      → Feeding i (ran_of k r h).next (drop (ran_of k r h).taken h) (t ++ (ran_of k r h).text)

pub record Pieces : Type 0 where
  -- what is printed of the input with any x behind it: the lines so far, then those of what is held back and x
  pub goes_on : {i : List ℕ} {r : Reckoning} {h t : List ℕ} → Feeding i r h t → (x : List ℕ) → printed (i ++ x) ≡ t ++ printed_from r (h ++ x)
  -- at the end of the input, where what is held back is no whole field: the lines so far and the last
  pub ends : {i : List ℕ} {r : Reckoning} {t : List ℕ} → Feeding i r [] t → printed i ≡ t ++ end_line r.events
  pub cut : {i : List ℕ} {r : Reckoning} {h t : List ℕ} → Feeding i r h t → frame_of h ≡ field.Cut → (h ≡ [] → ⊥)
      → printed i ≡ t ++ bad_line r.offset
  -- where a run meets a bad field, whatever follows: the lines so far, the run's, and the last
  pub bad : {i : List ℕ} {r : Reckoning} {h t : List ℕ} → Feeding i r h t → (k : ℕ) → (ran_of k r h).rest ≡ Bad → (x : List ℕ)
      → printed (i ++ x) ≡ t ++ ((ran_of k r h).text ++ bad_line (ran_of k r h).next.offset)

-- ---- the calls that the events are

abbrev pub call_by : (add packet close : Bool) → List ℕ → Call
call_by true packet shut f = add (record { kind = octet_at f 3; ttsi = part f 4 20; dl = number_at f 24 4 })
call_by false true shut f = receive (lsp_in f) (drop 4 f)
call_by false false true f = close (lsp_in f)
call_by false false false f = server (lsp_in f) (octet_at f 4)

-- of a whole field's octets
abbrev pub call_of : List ℕ → Call
call_of f = call_by (eqb (tag_in f) 0x11) (eqb (tag_in f) 0x12) (eqb (tag_in f) 0x13) f

abbrev pub calls_by : Field → List ℕ → List Call → (ℕ → List Call) → List Call
calls_by field.Cut s cs go = cs
calls_by field.Bad s cs go = cs
calls_by (field.Whole n) s cs go = go n

-- at most k events of s, the newest first, before them cs
unfoldable pub calls_of : ℕ → List ℕ → List Call → List Call
calls_of zero s cs = cs
calls_of (suc k) s cs = calls_by (frame_of s) s cs (λ n. calls_of k (drop n s) (call_of (take n s) ∷ cs))

-- after any events the table is that of a world that those very calls reach, so all that `history` claims of such a world holds of it
pub record Reached : Type 0 where
  pub world : (k : ℕ) (s : List ℕ) → Octets s → World
  pub reach : (k : ℕ) (s : List ℕ) (o : Octets s) → Reach (calls_of k s []) (world k s o)
  pub table : (k : ℕ) (s : List ℕ) (o : Octets s) → (world k s o).table ≡ (ran_of k begin s).next.table
