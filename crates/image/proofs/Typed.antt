-- Every step of a path, and every call on a table, leaves numbers that the code's types hold. Assumes nothing.
use mathlib.Core.Path.{◌≡◌, refl, sym, subst}
use mathlib.Core.Bool.{Bool, true, false}
use mathlib.Core.List.{List}
use Prim.Native.Nat.{ℕ, ◌+◌, ◌-◌, ◌<◌}
use native.Mathlib.Omega.{arith}
use lib.Dec.{eqb, leb, ltb}
use lib.ListN.{length, get_or, take, drop, set}
use lib.Seq.{get_or-set_same, get_or-set_other}
use borrow.Author.Tests.{eqb-true, eqb-false, leb-false}
use Rattle.payload.specs.Test.{pick, both}
use Rattle.payload.specs.Rates.{is_kind}
use Rattle.payload.specs.Layout.{cv, ffd, fdi, bdi, is_type, is_ttsi, valid}
use Rattle.payload.specs.Law.{Octets}
use Rattle.payload.specs.Reading.{Answer, refusal, shown, word_at, long_at, fields_at, clear, bip_right, read_of, accepts, ttsi_at}
use Rattle.window.specs.View.{turned_of}
use Rattle.window.specs.Outcomes.{Turned}
use Rattle.lsp.specs.Steps as path
use Rattle.lsp.specs.Steps.{gone, new_of, same, counted_by, taken_by, faded_of, is_cv, closed_of}
use Rattle.lsp.specs.declared.path.Fdi.{Fdi}
use Rattle.lsp.specs.declared.path.Lsp.{Lsp}
use Rattle.field.specs.Law as field
use Rattle.table.specs.Steps.{nowhere, present, path_at, put, any_expects, add_by, add_of, receive_by, receive_of, close_by, close_of, server_by, server_of}
use Rattle.table.specs.Lawful.{Lawful}
use Rattle.table.specs.declared.paths.Table.{Table}
use Rattle.image.specs.Law.{Typed}

-- ---- the location that a payload tells

abbrev ttsi : List ℕ → List ℕ
ttsi p = take 20 (drop 4 p)

module _ (p : List ℕ) (o : Octets p) where
  long_few : long_at p < 0x1_0000_0000
  long_few = omega (arith, o 24, o 25, o 26, o 27)

  shown_few : (shown (fields_at p)).dl < 0x1_0000_0000
  shown_few = go (eqb (get_or p 0 0) 1) (eqb (get_or p 0 0) 7) (eqb (get_or p 0 0) 2)
    where
      go : (a b c : Bool)
          → (shown (pick a (cv (ttsi p)) (pick b (ffd (ttsi p) (get_or p 24 0)) (pick c (fdi (ttsi p) (word_at p) (long_at p)) (bdi (ttsi p) (word_at p) (long_at p)))))).dl
          < 0x1_0000_0000
      go true b c = omega arith
      go false true c = omega arith
      go false false true = long_few
      go false false false = long_few

  pub read_few : (read_of p).dl < 0x1_0000_0000
  unfolding read_of
  read_few = go (eqb (length p) 44) (bip_right p) (is_type (get_or p 0 0)) (both (clear (fields_at p) p) (valid (fields_at p)))
    where
      go : (a b c d : Bool) → (pick a (pick b (pick c (pick d (shown (fields_at p)) (refusal 5)) (refusal 4)) (refusal 3)) (refusal 2)).dl < 0x1_0000_0000
      go true true true true = shown_few
      go true true true false = omega arith
      go true true false d = omega arith
      go true false c d = omega arith
      go false b c d = omega arith

-- ---- one path

faded_few : (f : Fdi) → f.dl < 0x1_0000_0000 → (faded_of f).dl < 0x1_0000_0000
faded_few f h = go (leb f.left 1)
  where
    go : (b : Bool) → (pick b gone (record { left = f.left - 1; dt = f.dt; dl = f.dl })).dl < 0x1_0000_0000
    go true = omega arith
    go false = h

module _ (l : Lsp) (w : field.Typed l) where
  counted_typed : (r : Answer) (own rate : Bool) → field.Typed (counted_by own rate l r).1
  counted_typed r true true = record { ttsi = w.ttsi; dl = w.dl; fdi_dl = w.fdi_dl }
  counted_typed r true false = w
  counted_typed r false rate = record { ttsi = w.ttsi; dl = w.dl; fdi_dl = w.fdi_dl }

  taken_typed : (r : Answer) (t : List ℕ) (b c : Bool) → r.dl < 0x1_0000_0000 → field.Typed (taken_by b c l r t).1
  taken_typed r t true c h = record { ttsi = w.ttsi; dl = w.dl; fdi_dl = h }
  taken_typed r t false true h = w
  taken_typed r t false false h = counted_typed r (same t l.ttsi) (eqb r.rate l.kind)

  receive_typed : (p : List ℕ) → Octets p → field.Typed (path.receive_of l p).1
  unfolding path.receive_of
  receive_typed p o = go (accepts p)
    where
      go : (b : Bool) → field.Typed (path.receive_by b l (read_of p) (ttsi_at p)).1
      go true = taken_typed (read_of p) (ttsi_at p) (eqb (read_of p).type 0x02) (eqb (read_of p).type 0x03) (read_few p o)
      go false = w

  closed_typed : (t : Turned) → field.Typed (closed_of l t).next
  closed_typed t = go (eqb t.number 0) refl
    where
      go : (b : Bool) → eqb t.number 0 ≡ b → field.Typed (closed_of l t).next
      go true e = rw e (record { ttsi = w.ttsi; dl = w.dl; fdi_dl = faded_few l.fdi w.fdi_dl })
      go false e = rw e w

  close_typed : field.Typed (path.close_of l).next
  unfolding path.close_of
  close_typed = closed_typed (turned_of (is_cv l) l.state)

  server_typed : (v : ℕ) → field.Typed (path.server_of l v).next
  server_typed v = go (leb v 1) refl
    where
      go : (b : Bool) → leb v 1 ≡ b → field.Typed (path.server_of l v).next
      go true e = rw e (record { ttsi = w.ttsi; dl = w.dl; fdi_dl = w.fdi_dl })
      go false e = rw e w

-- ---- a table

module _ (t : Table) (w : Lawful t) (v : Typed t) where
  put_typed : (i : ℕ) (l : Lsp) → (field.Typed (path_at t i) → field.Typed l) → Typed (put t i l)
  put_typed i l f j h = go (eqb j i) refl
    where
      go : (b : Bool) → eqb j i ≡ b → field.Typed (path_at (put t i l) j)
      go true e =
          let q : j ≡ i = eqb-true j i e in
          let x : path_at (put t i l) i ≡ l = get_or-set_same t.lsps i l nowhere (omega (arith, w.few, w.places)) in
          subst (λ (k : ℕ). field.Typed (path_at (put t i l) k)) (sym q) (subst field.Typed (sym x) (f (v i (omega arith))))
      go false e = subst field.Typed (sym (get_or-set_other t.lsps i j l nowhere (eqb-false j i e))) (v j h)

  module _ (kind : ℕ) (ttsi : List ℕ) (dl : ℕ) (o : Octets ttsi) (few : dl < 0x1_0000_0000) where
    abbrev more : Table
    more = record { count = t.count + 1; lsps = set t.lsps t.count (new_of kind ttsi dl) }

    more_typed : t.count < 64 → Typed more
    more_typed m j h = go (eqb j t.count) refl
      where
        new : field.Typed (new_of kind ttsi dl)
        new = record { ttsi = o; dl = few; fdi_dl = omega arith }

        go : (b : Bool) → eqb j t.count ≡ b → field.Typed (path_at more j)
        go true e =
            let x : path_at more t.count ≡ new_of kind ttsi dl = get_or-set_same t.lsps t.count (new_of kind ttsi dl) nowhere (omega (arith, w.places)) in
            subst (λ (k : ℕ). field.Typed (path_at more k)) (sym (eqb-true j t.count e)) (subst field.Typed (sym x) new)
        go false e =
            let n : j ≡ t.count → ⊥ = eqb-false j t.count e in
            subst field.Typed (sym (get_or-set_other t.lsps t.count j (new_of kind ttsi dl) nowhere n)) (v j (omega arith))

    pub add_kept : Typed (add_of t kind ttsi dl).next
    unfolding add_of
    add_kept = go (both (is_kind kind) (is_ttsi ttsi)) (any_expects t ttsi) (leb 64 t.count) refl
      where
        go : (a b c : Bool) → leb 64 t.count ≡ c → Typed (add_by a b c t (new_of kind ttsi dl)).next
        go false b c e = v
        go true true c e = v
        go true false true e = v
        go true false false e = more_typed (leb-false 64 t.count e)

  module _ (i : ℕ) where
    pub receive_kept : (p : List ℕ) → Octets p → Typed (receive_of t i p).1
    unfolding receive_of
    receive_kept p o = go (ltb i (present t))
      where
        go : (b : Bool) → Typed (receive_by b t i (path.receive_of (path_at t i) p)).1
        go true = put_typed i (path.receive_of (path_at t i) p).1 (λ x. receive_typed (path_at t i) x p o)
        go false = v

    pub close_kept : Typed (close_of t i).next
    unfolding close_of
    close_kept = go (ltb i (present t))
      where
        go : (b : Bool) → Typed (close_by b t i (path.close_of (path_at t i))).next
        go true = put_typed i (path.close_of (path_at t i)).next (λ x. close_typed (path_at t i) x)
        go false = v

    pub server_kept : (value : ℕ) → Typed (server_of t i value).next
    unfolding server_of
    server_kept value = go (ltb i (present t))
      where
        go : (b : Bool) → Typed (server_by b t i (path.server_of (path_at t i) value)).next
        go true = put_typed i (path.server_of (path_at t i) value).next (λ x. server_typed (path_at t i) x value)
        go false = v
