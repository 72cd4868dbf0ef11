-- A run, event by event: what the loop of the code keeps. Assumes nothing.
use mathlib.Core.Bool.{Bool, true, false}
use mathlib.Core.List.{List, [], ◌++◌, append_assoc, append-nil}
use mathlib.Core.Path.{◌≡◌, refl, sym, ap, subst, ◌∙◌}
use native.Mathlib.Nat.{zero-add, add-zero, add_assoc}
use native.Mathlib.Omega.{arith}
use Prim.Native.Nat.{ℕ, suc, ◌+◌, ◌-◌, ◌*◌, ◌/◌, ◌≤◌, ◌<◌}
use lib.Dec.{eqb}
use lib.ListN.{length, take, drop, length-append, length-drop, take-append-drop}
use lib.Seq.{drop-drop, length-take-le, take_all}
use Rattle.std.specs.Prelude.{Option, Some, None, Result, Ok, Err}
use Rattle.refusal.specs.declared.Refusal.{Refusal}
use Rattle.refusal.specs.Numbers.{number_in}
use Rattle.payload.specs.Test.{pick}
use Rattle.octets.specs.Parts.{laid}
use Rattle.octets.proofs.Parts.{length-laid, take-laid, drop-laid}
use Rattle.window.specs.declared.state.Record.{Record}
use Rattle.window.specs.declared.state.Record.TheVariants.{U, B}
use Rattle.table.specs.declared.paths.Table.{Table}
use Rattle.events.specs.Field.{Field}
use Rattle.events.specs.Field as field
use Rattle.events.specs.Framing.{frame_of, Enough}
use Rattle.events.specs.Lines.{record_line, handed_line, refused_line, line_of}
use Rattle.events.specs.Event.{lsp_in, told_of}
use Rattle.events.specs.Outcomes.{Rest, Going, field_in, rest_in, handed_in, told_in, line_in}
use Rattle.events.specs.Printed.{more, after, line_at, Run, further, ran_by, ran_of, run_as, run_of, stopped}
use Rattle.events.specs.declared.framing.Rest.{Rest as End}
use Rattle.events.specs.declared.framing.Rest.TheVariants as end
use Rattle.events.specs.declared.reckoning.Reckoning.{Reckoning}
use Rattle.events.proofs.Decimal.{decimal_law}
use Rattle.events.proofs.Frames.{is_whole, enough}

-- ---- the longest line

record_most : (lsp letter from until : ℕ) → length (record_line lsp letter from until) ≤ 65
record_most lsp letter from until = simp length-append (omega (arith, decimal_law.most lsp, decimal_law.most from, decimal_law.most until))

pub line_most : (index lsp number : ℕ) (handed : Option Record) → length (line_of index lsp number handed) ≤ 65
line_most index lsp number handed = go (eqb number 0) handed
  where
    go : (b : Bool) (h : Option Record) → length (pick b (handed_line lsp h) (refused_line index number)) ≤ 65
    go true None = omega arith
    go true (Some (U from until)) = record_most lsp 85 from until
    go true (Some (B from until)) = record_most lsp 66 from until
    go false h = simp length-append (omega (arith, decimal_law.most index, decimal_law.most number))

-- ---- the field that follows

module _ (s : List ℕ) (at : ℕ) where
  -- the octets from a place on, and the first n of them, as parts that are lent
  abbrev from : List ℕ
  from = take (length s - at) (drop at s)

  abbrev lent : ℕ → List ℕ
  lent n = take (at + n - at) (drop at s)

  framed : (r : Result ℕ End) → field_in r ≡ frame_of from → frame_of (drop at s) ≡ field_in r
  framed r e = sym (e ∙ ap frame_of (take_all (length s - at) (drop at s) (omega (arith, length-drop at s))))

  pub record IsField (n : ℕ) : Type 0 where
    pub whole : frame_of (drop at s) ≡ field.Whole n
    pub is : lent n ≡ take n (drop at s)
    pub within : at + n ≤ length s
    pub enough : Enough (lent n)

  pub is_field : (n : ℕ) → at ≤ length s → field_in (Ok n) ≡ frame_of from → IsField n
  is_field n h e =
      let whole = framed (Ok n) e in
      let w = is_whole (drop at s) n whole in
      let m : at + n - at ≡ n = omega arith in
      let is : lent n ≡ take n (drop at s) = ap (λ (k : ℕ). take k (drop at s)) m in
      record {
        whole = whole;
        is = is;
        within = omega (arith, w.within, length-drop at s, h);
        enough = subst Enough (sym is) (enough (drop at s) n whole);
      }

-- ---- what the loop keeps

-- After some events, of at most k over s from r on, into b: where the program is, and the lines so far. What is left to run gives the rest
pub record Kept (k : ℕ) (r : Reckoning) (s b out : List ℕ) (now : Reckoning) (turns at text : ℕ) : Type 0 where
  pub within : at ≤ length s
  pub room : text + 65 * turns ≤ length out
  pub long : length out ≡ length b
  pub behind : drop text out ≡ drop text b
  pub done : ran_of k r s ≡ further at (take text out) (ran_of turns now (drop at s))

from_nothing : (x : Run) → x ≡ further 0 [] x
from_nothing x = λ i. record { next = x.next; taken = sym (zero-add x.taken) i; text = x.text; rest = x.rest }

twice : (a n : ℕ) (u v : List ℕ) (x : Run) → further a u (further n v x) ≡ further (a + n) (u ++ v) x
twice a n u v x = λ i. record { next = x.next; taken = sym (add_assoc a n x.taken) i; text = sym (append_assoc u v x.text) i; rest = x.rest }

-- one event of a run
one_event : (m n : ℕ) (r : Reckoning) (x : List ℕ) → frame_of x ≡ field.Whole n → ran_of (suc m) r x ≡ further n (line_at r n x) (ran_of m (after r n x) (drop n x))
unfolding ran_of
one_event m n r x e = ap (λ (f : Field). ran_by f r x (λ q. ran_of m (after r q x) (drop q x))) e

-- at the start nothing is done
pub none_done : (r : Reckoning) (s b : List ℕ) (t : Table) (k : ℕ) → t ≡ r.table → k ≡ length b / 65
    → Kept (length b / 65) r s b b (record { table = t; events = r.events; offset = r.offset }) k 0 0
none_done r s b t k p e =
    record {
      within = omega arith;
      room = omega (arith, e);
      long = refl;
      behind = refl;
      done = from_nothing (ran_of (length b / 65) r s) ∙ λ i. further 0 [] (ran_of (sym e i) (record { table = sym p i; events = r.events; offset = r.offset }) s);
    }

module _ {k : ℕ} {r : Reckoning} {s b out : List ℕ} {now : Reckoning} {turns at text : ℕ}
    (j : Kept k r s b out now turns at text) where
  -- one event more
  pub goes_on : (n m : ℕ) → IsField s at n → m + 1 ≡ turns
      → (a : Result (Option Record) Refusal) (next : Reckoning) (out' : List ℕ) (text' : ℕ)
      → told_in a next.table ≡ told_of now.table (lent s at n)
      → next.events ≡ more now.events 1 → next.offset ≡ more now.offset n
      → text' ≡ text + length (line_in next.events (lsp_in (lent s at n)) a) → out' ≡ laid out text (line_in next.events (lsp_in (lent s at n)) a)
      → Kept k r s b out' next m (at + n) text'
  goes_on n m w some a next out' text' e ev of tx ot =
      let x = drop at s in
      let line = line_in next.events (lsp_in (lent s at n)) a in
      let most = line_most next.events (lsp_in (lent s at n)) (number_in a) (handed_in a) in
      let fits : text + length line ≤ length out = omega (arith, j.room, some, most) in
      let same : length out' ≡ length out = ap length ot ∙ length-laid out text line fits in
      let d : told_of now.table (take n x) ≡ told_in a next.table = sym (e ∙ ap (told_of now.table) w.is) in
      let said : line_at now n x ≡ line = λ i. line_of (sym ev i) (lsp_in (sym w.is i)) (d i).number (d i).handed in
      let stands : after now n x ≡ next = λ i. record { table = (d i).next; events = sym ev i; offset = sym of i } in
      let z : turns ≡ suc m = omega (arith, some) in
      let one : ran_of turns now x ≡ further n line (ran_of m next (drop (at + n) s)) = ap (λ (q : ℕ). ran_of q now x) z ∙ one_event m n now x w.whole ∙ λ i. further n (said i) (ran_of m (stands i) (drop-drop n at s i)) in
      let front : take text out ++ line ≡ take text' out' = sym (take-laid out text line fits) ∙ λ i. take (sym tx i) (sym ot i) in
      let back : drop (text + length line) (laid out text line) ≡ drop (text + length line) b = (rw add-zero at (drop-laid out text line 0 fits)) ∙ sym (drop-drop (length line) text out) ∙ ap (drop (length line)) j.behind ∙ drop-drop (length line) text b in
      record {
        within = w.within;
        room = omega (arith, same, tx, j.room, some, most);
        long = same ∙ j.long;
        behind = (λ i. drop (tx i) (ot i)) ∙ back ∙ λ i. drop (sym tx i) b;
        done = j.done ∙ ap (further at (take text out)) one ∙ twice at n (take text out) line (ran_of m next (drop (at + n) s)) ∙ ap (λ (u : List ℕ). further (at + n) u (ran_of m next (drop (at + n) s))) front;
      }

  -- nothing more to run
  ends : (x : Rest) → k ≡ length b / 65 → ran_of turns now (drop at s) ≡ stopped now x
      → (record { next = now; taken = at; text = text; rest = x }, out) ≡ run_of r s b
  unfolding run_of
  ends x m e =
      let n : length (take text out) ≡ text = length-take-le text out (omega (arith, j.room)) in
      let ran : ran_of (length b / 65) r s ≡ record { next = now; taken = at; text = take text out; rest = x } = ap (λ (q : ℕ). ran_of q r s) (sym m) ∙ j.done ∙ ap (further at (take text out)) e ∙ λ i. record { next = now; taken = add-zero at i; text = append-nil (take text out) i; rest = x } in
      let back : take text out ++ drop (0 + length (take text out)) b ≡ out = rw (n, zero-add, sym j.behind) (take-append-drop text out) in
      sym (ap (λ (y : Run). run_as y b) ran ∙ λ i. (record { next = now; taken = at; text = n i; rest = x }, back i))

  pub out_of_turns : k ≡ length b / 65 → turns ≡ 0 → (record { next = now; taken = at; text = text; rest = Going }, out) ≡ run_of r s b
  unfolding ran_of
  out_of_turns m z = ends Going m (ap (λ (q : ℕ). ran_of q now (drop at s)) z)

  pub no_field : (x : End) → k ≡ length b / 65 → 0 < turns → field_in (Err x) ≡ frame_of (from s at)
      → (record { next = now; taken = at; text = text; rest = rest_in (Some x) }, out) ≡ run_of r s b
  unfolding ran_of
  no_field x m some e =
      let z : turns ≡ suc (turns - 1) = omega (arith, some) in
      let go : Field → Run = λ g. ran_by g now (drop at s) (λ q. ran_of (turns - 1) (after now q (drop at s)) (drop q (drop at s))) in
      ends (rest_in (Some x)) m (ap (λ (q : ℕ). ran_of q now (drop at s)) z ∙ ap go (framed s at (Err x) e) ∙ stops x)
    where
      stops : (y : End) → ran_by (field_in (Err y)) now (drop at s) (λ q. ran_of (turns - 1) (after now q (drop at s)) (drop q (drop at s))) ≡ stopped now (rest_in (Some y))
      stops end.Cut = refl
      stops end.Bad = refl
