-- Demand 3 (`specs/Theorem.antt`): the theorem for one path, said of every path that follows its history. Assumes nothing.
use mathlib.Core.Path.{◌≡◌, refl, ap, ap₂, sym, subst, ◌∙◌}
use mathlib.Core.Bool.{Bool, true, false}
use mathlib.Core.List.{List, [], ◌∷◌, ◌++◌}
use Prim.Native.Nat.{ℕ, ◌≤◌, ◌<◌}
use native.Mathlib.Omega.{arith}
use lib.Dec.{eqb}
use lib.ListN.{length, get_or-append}
use lib.Seq.{get_or-set_other}
use Rattle.payload.specs.Test.{pick}
use Rattle.window.specs.declared.state.Defect.{Defect}
use Rattle.lsp.specs.Steps as path
use Rattle.lsp.specs.Steps.{out_by}
use Rattle.lsp.specs.History.{slots, server_in, limit}
use Rattle.lsp.specs.Theorem.{Closing, answer_to}
use Rattle.lsp.specs.declared.close.Out.{Out}
use Rattle.lsp.proofs.Follows.{slots_are, close_full}
use Rattle.lsp.proofs.Theorem.{right_path, right_closing, right_answer}
use Rattle.table.specs.Steps.{path_at, receive_by, receive_of, close_by, close_of, write_row_by, write_row_of}
use Rattle.table.specs.Lawful.{Lawful}
use Rattle.table.specs.declared.paths.Table.{Table}
use Rattle.table.specs.Outcomes.{Closed}
use Rattle.table.proofs.Laws.{apart}
use Rattle.history.specs.Calls.{Call, add, receive, close, server, write_fdi, write_bdi, size, save, restore, number}
use Rattle.history.specs.Calls.{Past, nobody, past_at, World, Reach, empty, calling, restoring}
use Rattle.history.specs.Theorem.{goes_out, RightClose, NoClose, row_by, Claim, Elsewhere, Apart, Demand3}
use Rattle.history.proofs.Kept.{Fits, Paired, all_there, is_there, is_not_there}
use Rattle.history.proofs.Reached.{stays, holds, reached_lawful, reached_table}

-- ---- a close of the table is the path's

right_close : (t : Table) (i : ℕ) (x : Past) (c : Closed) → c ≡ close_by true t i (path.close_of (path_at t i)) → Closing x.added (path_at t i) x.history → RightClose x c
right_close t i x c e k = subst (RightClose x) (sym e) (record { number = k.number; defect = k.defect; cv = k.cv; ffd = k.ffd; out = k.out })

module _ (t : Table) (ps : List Past) (w : Lawful t) (k : Paired t ps) (i : ℕ) where
  there : i < t.count → close_of t i ≡ close_by true t i (path.close_of (path_at t i))
  unfolding close_of
  there h = ap (λ (b : Bool). close_by b t i (path.close_of (path_at t i))) (is_there t w i h)

  not_there : t.count ≤ i → NoClose 1 (close_of t i)
  unfolding close_of
  not_there h =
      subst (λ (b : Bool). NoClose 1 (close_by b t i (path.close_of (path_at t i)))) (sym (is_not_there t w i h))
      (record { number = refl; defect = refl; handed = refl; out = refl })

  closed_right : i < t.count → slots (past_at ps i).history < limit → RightClose (past_at ps i) (close_of t i)
  closed_right h m = right_close t i (past_at ps i) (close_of t i) (there h) (right_closing _ _ _ (k.each i h) m)

  closed_full : i < t.count → limit ≤ slots (past_at ps i).history → NoClose 9 (close_of t i)
  closed_full h m =
      let e = close_full (path_at t i) (omega (arith, slots_are _ _ _ (k.each i h))) in
      subst (NoClose 9) (sym (there h ∙ ap (close_by true t i) e)) (record { number = refl; defect = refl; handed = refl; out = refl })

  received_right : (p : List ℕ) → i < t.count → (receive_of t i p).0 ≡ answer_to (past_at ps i).added p
  unfolding receive_of
  received_right p h =
      ap (λ (b : Bool). (receive_by b t i (path.receive_of (path_at t i) p)).0) (is_there t w i h) ∙ right_answer _ _ _ (k.each i h) p

  written_right : (ty : ℕ) (b : List ℕ) → i < t.count
      → write_row_of ty t i b ≡ row_by ty (path_at t i).state.defect (goes_out (past_at ps i) (slots (past_at ps i).history) (path_at t i).state.defect) b
  unfolding write_row_of
  written_right ty b h =
      let f : Fits (path_at t i) (past_at ps i) = k.each i h in
      ap (λ (x : Bool). write_row_by x b (path.write_row_of ty (path_at t i) b)) (is_there t w i h)
      ∙ ap (λ (o : Out). row_by ty d o b)
      (ap (λ (x : Bool). out_by d x (path_at t i).fdi (path_at t i).dl) f.server ∙ ap₂ (out_by d (server_in (past_at ps i).history)) f.fdi f.dl)
    where
      d : Defect
      d = (path_at t i).state.defect

-- ---- paths are kept apart

-- an add puts no past in the place of another
added_apart : (b : Bool) (ps : List Past) (x : Past) (j : ℕ) → j < length ps → past_at (pick b (ps ++ (x ∷ [])) ps) j ≡ past_at ps j
added_apart true ps x j h = get_or-append ps (x ∷ []) nobody j h
added_apart false ps x j h = refl

kept_apart : (w : World) → Lawful w.table → Paired w.table w.pasts → (c : Call) (j : ℕ) → Elsewhere c w j → Apart c w j
kept_apart w l k (add a) j e =
    record {
      path = apart.add w.table a.kind a.ttsi a.dl j (omega (arith, all_there w.table l));
      past = added_apart (eqb (number (add a) w.table) 0) w.pasts _ j (omega (arith, k.count));
    }
kept_apart w l k (receive i p) j e = record { path = (apart.receive w.table i p).others j e; past = get_or-set_other w.pasts i j _ nobody e }
kept_apart w l k (close i) j e = record { path = (apart.close w.table i).others j e; past = get_or-set_other w.pasts i j _ nobody e }
kept_apart w l k (server i v) j e = record { path = (apart.server w.table i v).others j e; past = get_or-set_other w.pasts i j _ nobody e }
kept_apart w l k (write_fdi i b) j e = record { path = refl; past = refl }
kept_apart w l k (write_bdi i b) j e = record { path = refl; past = refl }
kept_apart w l k size j e = record { path = refl; past = refl }
kept_apart w l k (save b) j e = record { path = refl; past = refl }
kept_apart w l k (restore im) j e = record { path = ap (λ (t : Table). path_at t j) (stays w.table im e); past = refl }

-- ---- the calls before a call reach a world too

before : (ds : List Call) (w : World) → Reach ds w → (c : Call) (cs : List Call) → ds ≡ c ∷ cs → (v : World) × Reach cs v
before ds w empty c cs e = absurd (cc)
before ds w (calling {cs = bs} {w = v} r d g p) c cs e = let q : bs ≡ cs = cc in (v, subst (λ (x : List Call). Reach x v) q r)
before ds w (restoring {cs = bs} {w = v} r s m) c cs e = let q : bs ≡ cs = cc in (v, subst (λ (x : List Call). Reach x v) q r)

pub earlier_reached : (later : List Call) (c : Call) (earlier : List Call) (w : World) → Reach (later ++ (c ∷ earlier)) w → (v : World) × Reach earlier v
earlier_reached [] c earlier w r = before _ w r c earlier refl
earlier_reached (d ∷ later) c earlier w r = let b = before _ w r d (later ++ (c ∷ earlier)) refl in earlier_reached later c earlier b.0 b.1

-- ---- the theorem

pub claimed : (cs : List Call) (w : World) → Reach cs w → Claim w
claimed cs w r =
    let k : Paired w.table w.pasts = (holds cs w r).good.paired in
    let l : Lawful w.table = reached_lawful cs w r in
    record {
      count = k.count;
      path = λ i h. right_path _ _ _ (k.each i h);
      close =
          λ i.
          record {
            none = not_there w.table w.pasts l k i;
            done = closed_right w.table w.pasts l k i;
            full = closed_full w.table w.pasts l k i;
          };
      receive = λ i p. received_right w.table w.pasts l k i p;
      write = λ ty i b. written_right w.table w.pasts l k i ty b;
    }

pub demand3 : Demand3
demand3 =
    record {
      claim = claimed;
      closes =
          λ later earlier i w r.
          let b = earlier_reached later (close i) earlier w r in
          record { before = b.0; reached = b.1; table = reached_table earlier b.0 b.1; answer = (claimed earlier b.0 b.1).close i };
      apart =
          λ cs w r c j e. kept_apart w (reached_lawful cs w r) (holds cs w r).good.paired c j e;
    }
