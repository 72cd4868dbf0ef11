-- Paths are kept apart, and a refusal changes nothing (`specs/Laws.antt`). Assumes nothing.
use mathlib.Core.Path.{◌≡◌, refl, ap, ◌∙◌}
use mathlib.Core.Bool.{Bool, true, false}
use mathlib.Core.List.{List}
use Prim.Native.Nat.{ℕ, ◌<◌}
use native.Mathlib.Omega.{arith}
use lib.Dec.{leb, ltb}
use lib.ListN.{set}
use lib.Seq.{get_or-set_other, set-get_or}
use borrow.Author.Tests.{lt-ltb, leb-false}
use Rattle.payload.specs.Test.{both}
use Rattle.payload.specs.Rates.{is_kind}
use Rattle.payload.specs.Layout.{is_ttsi}
use Rattle.payload.specs.Reading.{Answer}
use Rattle.lsp.specs.Steps as path
use Rattle.lsp.specs.Steps.{new_of}
use Rattle.lsp.specs.declared.path.Lsp.{Lsp}
use Rattle.lsp.specs.Outcomes as answered
use Rattle.lsp.proofs.Refused.{receive_refused, close_refused, server_refused}
use Rattle.table.specs.Steps.{nowhere, present, path_at, put, any_expects, add_by, add_of, receive_by, receive_of, close_by, close_of, server_by, server_of}
use Rattle.table.specs.Laws.{Kept, Apart, Refused}
use Rattle.table.specs.declared.paths.Table.{Table}

module _ (t : Table) (i : ℕ) where
  same_kept : Kept i t t
  same_kept = record { count = refl; others = λ j n. refl }

  put_kept : (l : Lsp) → Kept i t (put t i l)
  put_kept l = record { count = refl; others = λ j n. get_or-set_other t.lsps i j l nowhere n }

  put_back : (l : Lsp) → l ≡ path_at t i → put t i l ≡ t
  put_back l e = ap (λ (ls : List Lsp). record { count = t.count; lsps = ls }) (ap (set t.lsps i) e ∙ set-get_or t.lsps i nowhere)

  -- ---- receiving, closing, the server signal: by whether the path is there

  receive_kept : (b : Bool) (r : Answer × Lsp) → Kept i t (receive_by b t i r).1
  receive_kept true r = put_kept r.1
  receive_kept false r = same_kept

  receive_same : (b : Bool) (r : Answer × Lsp) → ((r.0.number ≡ 0 → ⊥) → r.1 ≡ path_at t i) → ((receive_by b t i r).0.number ≡ 0 → ⊥) → (receive_by b t i r).1 ≡ t
  receive_same true r h n = put_back r.1 (h n)
  receive_same false r h n = refl

  close_kept : (b : Bool) (c : answered.Closed) → Kept i t (close_by b t i c).next
  close_kept true c = put_kept c.next
  close_kept false c = same_kept

  close_same : (b : Bool) (c : answered.Closed) → ((c.number ≡ 0 → ⊥) → c.next ≡ path_at t i) → ((close_by b t i c).number ≡ 0 → ⊥) → (close_by b t i c).next ≡ t
  close_same true c h n = put_back c.next (h n)
  close_same false c h n = refl

  server_kept : (b : Bool) (s : answered.Signalled) → Kept i t (server_by b t i s).next
  server_kept true s = put_kept s.next
  server_kept false s = same_kept

  server_same : (b : Bool) (s : answered.Signalled) → ((s.number ≡ 0 → ⊥) → s.next ≡ path_at t i) → ((server_by b t i s).number ≡ 0 → ⊥) → (server_by b t i s).next ≡ t
  server_same true s h n = put_back s.next (h n)
  server_same false s h n = refl

-- ---- adding

module _ (t : Table) (l : Lsp) where
  add_kept : (g e f : Bool) (j : ℕ) → leb 64 t.count ≡ f → j < present t → path_at (add_by g e f t l).next j ≡ path_at t j
  add_kept false e f j q h = refl
  add_kept true true f j q h = refl
  add_kept true false true j q h = refl
  add_kept true false false j q h =
      let m : t.count < 64 = leb-false 64 t.count q in
      let k : j < t.count = rw (lt-ltb t.count 64 m) at h in
      get_or-set_other t.lsps t.count j l nowhere (λ e. omega arith)

  add_same : (g e f : Bool) → ((add_by g e f t l).number ≡ 0 → ⊥) → (add_by g e f t l).next ≡ t
  add_same false e f n = refl
  add_same true true f n = refl
  add_same true false true n = refl
  add_same true false false n = absurd (n refl)

pub apart : Apart
unfolding receive_of close_of server_of add_of
apart =
    record {
      receive = λ t i p. receive_kept t i (ltb i (present t)) (path.receive_of (path_at t i) p);
      close = λ t i. close_kept t i (ltb i (present t)) (path.close_of (path_at t i));
      server = λ t i v. server_kept t i (ltb i (present t)) (path.server_of (path_at t i) v);
      add =
          λ t kind ttsi dl j. add_kept t (new_of kind ttsi dl) (both (is_kind kind) (is_ttsi ttsi)) (any_expects t ttsi) (leb 64 t.count) j refl;
    }

pub refused : Refused
unfolding receive_of close_of server_of add_of
refused =
    record {
      receive = λ t i p. receive_same t i (ltb i (present t)) (path.receive_of (path_at t i) p) (receive_refused (path_at t i) p);
      close = λ t i. close_same t i (ltb i (present t)) (path.close_of (path_at t i)) (close_refused (path_at t i));
      server = λ t i v. server_same t i (ltb i (present t)) (path.server_of (path_at t i) v) (server_refused (path_at t i) v);
      add = λ t kind ttsi dl. add_same t (new_of kind ttsi dl) (both (is_kind kind) (is_ttsi ttsi)) (any_expects t ttsi) (leb 64 t.count);
    }
