-- A table made by any calls obeys its rules (`specs/Lawful.antt`). Assumes nothing.
use mathlib.Core.Path.{◌≡◌, refl, ap, sym, subst, ◌∙◌}
use mathlib.Core.Bool.{Bool, true, false}
use mathlib.Core.List.{List, [], ◌∷◌}
use Prim.Native.Nat.{ℕ, zero, suc, ◌+◌, ◌<◌}
use native.Mathlib.Omega.{arith}
use lib.Dec.{eqb, leb, ltb}
use lib.ListN.{length, get_or, set, take, length-set, get_or-replicate}
use lib.Seq.{get_or-set_same, get_or-set_other, length-take-le, get_or-take}
use borrow.Author.Tests.{eqb-true, eqb-false, ltb-true, ltb-false, lt-ltb, leb-true, leb-false}
use Rattle.payload.specs.Test.{pick, both, either}
use Rattle.payload.specs.Rates.{is_kind}
use Rattle.payload.specs.Layout.{is_ttsi}
use Rattle.payload.proofs.Tests.{never, both_left, both_right}
use Rattle.lsp.specs.Steps as path
use Rattle.lsp.specs.Steps.{new_of, same}
use Rattle.lsp.specs.Sound.{Sound}
use Rattle.lsp.specs.declared.path.Lsp.{Lsp}
use Rattle.lsp.proofs.Same.{same_self}
use Rattle.lsp.proofs.SoundKept.{sound_kept}
use Rattle.lsp.proofs.Refused.{receive_ttsi, close_ttsi, server_ttsi}
use Rattle.table.specs.Steps.{blank, nowhere, empty, present, path_at, put, expected_in, any_expects, add_by, add_of, receive_by, receive_of, close_by, close_of, server_by, server_of}
use Rattle.table.specs.Lawful.{Lawful, LawfulKept}
use Rattle.table.specs.declared.paths.Table.{Table}

pub empty_lawful : Lawful empty
empty_lawful =
    record {
      few = omega arith;
      places = refl;
      sound = λ i h. absurd (omega arith);
      differ = λ i j h k. absurd (omega arith);
      unused = λ i h k. get_or-replicate 64 i blank nowhere k;
    }

-- ---- another path with the same TTSI in the place of one

module _ (t : Table) (w : Lawful t) (i : ℕ) (there : ltb i (present t) ≡ true) (l : Lsp) (s : Sound (path_at t i) → Sound l) (e : l.ttsi ≡ (path_at t i).ttsi) where
  below : i < t.count
  below = go (ltb t.count 64) refl (ltb-true i (present t) there)
    where
      go : (b : Bool) → ltb t.count 64 ≡ b → i < pick b t.count 64 → i < t.count
      go true q h = h
      go false q h = omega (arith, w.few, ltb-false t.count 64 q)

  at : path_at (put t i l) i ≡ l
  at = get_or-set_same t.lsps i l nowhere (omega (arith, below, w.few, w.places))

  elsewhere : (j : ℕ) → (j ≡ i → ⊥) → path_at (put t i l) j ≡ path_at t j
  elsewhere j n = get_or-set_other t.lsps i j l nowhere n

  -- of any property of paths that the new one has and the others had
  each : (P : Lsp → Type 0) (j : ℕ) → P l → P (path_at t j) → P (path_at (put t i l) j)
  each P j p q = go (eqb j i) refl
    where
      go : (b : Bool) → eqb j i ≡ b → P (path_at (put t i l) j)
      go true z = subst (λ (k : ℕ). P (path_at (put t i l) k)) (sym (eqb-true j i z)) (subst P (sym at) p)
      go false z = subst P (sym (elsewhere j (eqb-false j i z))) q

  ttsis : (j : ℕ) → (path_at (put t i l) j).ttsi ≡ (path_at t j).ttsi
  ttsis j = go (eqb j i) refl
    where
      go : (b : Bool) → eqb j i ≡ b → (path_at (put t i l) j).ttsi ≡ (path_at t j).ttsi
      go true z = let q : j ≡ i = eqb-true j i z in ap (λ (k : ℕ). (path_at (put t i l) k).ttsi) q ∙ ap (λ (m : Lsp). m.ttsi) at ∙ e ∙ ap (λ (k : ℕ). (path_at t k).ttsi) (sym q)
      go false z = ap (λ (m : Lsp). m.ttsi) (elsewhere j (eqb-false j i z))

  pub put_lawful : Lawful (put t i l)
  put_lawful =
      record {
        few = w.few;
        places = length-set t.lsps i l ∙ w.places;
        sound = λ j h. each Sound j (s (w.sound i below)) (w.sound j h);
        differ = λ j k h m q. w.differ j k h m (sym (ttsis j) ∙ q ∙ ttsis k);
        unused = λ j h k. elsewhere j (λ q. omega (arith, below)) ∙ w.unused j h k;
      }

-- ---- a path more, where none expects its TTSI

either_left : (a b : Bool) → either a b ≡ false → a ≡ false
either_left true b h = h
either_left false b h = refl

either_right : (a b : Bool) → either a b ≡ false → b ≡ false
either_right true b h = absurd (never (sym h))
either_right false b h = h

-- no path of the list does
not_expected : (ls : List Lsp) (ttsi : List ℕ) (i : ℕ) → i < length ls → expected_in ls ttsi ≡ false → same ttsi (get_or ls i nowhere).ttsi ≡ false
unfolding expected_in
not_expected [] ttsi i h e = absurd (omega arith)
not_expected (l ∷ ls) ttsi zero h e = either_left (same ttsi l.ttsi) (expected_in ls ttsi) e
not_expected (l ∷ ls) ttsi (suc i) h e = not_expected ls ttsi i (omega arith) (either_right (same ttsi l.ttsi) (expected_in ls ttsi) e)

module _ (t : Table) (w : Lawful t) (kind : ℕ) (ttsi : List ℕ) (dl : ℕ) where
  abbrev l : Lsp
  l = new_of kind ttsi dl

  abbrev more : Table
  more = record { count = t.count + 1; lsps = set t.lsps t.count l }

  module _ (given : both (is_kind kind) (is_ttsi ttsi) ≡ true) (none : any_expects t ttsi ≡ false) (room : t.count < 64) where
    new_at : path_at more t.count ≡ l
    new_at = get_or-set_same t.lsps t.count l nowhere (omega (arith, w.places))

    old_at : (j : ℕ) → (j ≡ t.count → ⊥) → path_at more j ≡ path_at t j
    old_at j n = get_or-set_other t.lsps t.count j l nowhere n

    new_sound : Sound l
    new_sound =
        sound_kept.fresh kind ttsi dl (leb-true kind 6 (both_left (is_kind kind) (is_ttsi ttsi) given)) (both_right (is_kind kind) (is_ttsi ttsi) given)

    all_present : present t ≡ t.count
    all_present = rw (lt-ltb t.count 64 room)

    other_ttsi : (j : ℕ) → j < t.count → (path_at t j).ttsi ≡ ttsi → ⊥
    other_ttsi j h q =
        let n : length (take t.count t.lsps) ≡ t.count = length-take-le t.count t.lsps (omega (arith, w.places)) in
        let none' : expected_in (take t.count t.lsps) ttsi ≡ false = rw all_present at none in
        let f : same ttsi (get_or (take t.count t.lsps) j nowhere).ttsi ≡ false = not_expected (take t.count t.lsps) ttsi j (omega (arith, n)) none' in
        let g : same ttsi (path_at t j).ttsi ≡ false = ap (λ (m : Lsp). same ttsi m.ttsi) (sym (get_or-take t.count t.lsps j nowhere h)) ∙ f in
        never (sym g ∙ ap (same ttsi) q ∙ same_self ttsi)

    pub add_lawful : Lawful more
    add_lawful =
        record {
          few = omega arith;
          places = length-set t.lsps t.count l ∙ w.places;
          sound = λ j h. sound_at j h (eqb j t.count) refl;
          differ = λ j k h m. differ_at j k h m (eqb k t.count) refl;
          unused = λ j h k. old_at j (λ q. omega arith) ∙ w.unused j (omega arith) k;
        }
      where
        sound_at : (j : ℕ) → j < t.count + 1 → (b : Bool) → eqb j t.count ≡ b → Sound (path_at more j)
        sound_at j h true q = subst (λ (k : ℕ). Sound (path_at more k)) (sym (eqb-true j t.count q)) (subst Sound (sym new_at) new_sound)
        sound_at j h false q =
            let n : j ≡ t.count → ⊥ = eqb-false j t.count q in
            subst Sound (sym (old_at j n)) (w.sound j (omega arith))

        differ_at : (j k : ℕ) → j < k → k < t.count + 1 → (b : Bool) → eqb k t.count ≡ b → (path_at more j).ttsi ≡ (path_at more k).ttsi → ⊥
        differ_at j k h m true q e =
            let z : k ≡ t.count = eqb-true k t.count q in
            other_ttsi j (omega arith)
            (ap (λ (x : Lsp). x.ttsi) (sym (old_at j (λ y. omega arith))) ∙ e ∙ ap (λ (i : ℕ). (path_at more i).ttsi) z ∙ ap (λ (x : Lsp). x.ttsi) new_at)
        differ_at j k h m false q e =
            let n : k ≡ t.count → ⊥ = eqb-false k t.count q in
            w.differ j k h (omega arith)
            (ap (λ (x : Lsp). x.ttsi) (sym (old_at j (λ y. omega arith))) ∙ e ∙ ap (λ (x : Lsp). x.ttsi) (old_at k n))

  add_by_lem : (g e f : Bool) → both (is_kind kind) (is_ttsi ttsi) ≡ g → any_expects t ttsi ≡ e → leb 64 t.count ≡ f → Lawful (add_by g e f t l).next
  add_by_lem false e f p q r = w
  add_by_lem true true f p q r = w
  add_by_lem true false true p q r = w
  add_by_lem true false false p q r = add_lawful p q (leb-false 64 t.count r)

-- ---- each call, by whether the path is there

module _ (t : Table) (w : Lawful t) (i : ℕ) where
  receive_by_lem : (p : List ℕ) (b : Bool) → ltb i (present t) ≡ b → Lawful (receive_by b t i (path.receive_of (path_at t i) p)).1
  receive_by_lem p true h = put_lawful t w i h (path.receive_of (path_at t i) p).1 (sound_kept.receive (path_at t i) p) (receive_ttsi (path_at t i) p)
  receive_by_lem p false h = w

  close_by_lem : (b : Bool) → ltb i (present t) ≡ b → Lawful (close_by b t i (path.close_of (path_at t i))).next
  close_by_lem true h = put_lawful t w i h (path.close_of (path_at t i)).next (sound_kept.close (path_at t i)) (close_ttsi (path_at t i))
  close_by_lem false h = w

  server_by_lem : (v : ℕ) (b : Bool) → ltb i (present t) ≡ b → Lawful (server_by b t i (path.server_of (path_at t i) v)).next
  server_by_lem v true h = put_lawful t w i h (path.server_of (path_at t i) v).next (sound_kept.server (path_at t i) v) (server_ttsi (path_at t i) v)
  server_by_lem v false h = w

pub lawful_kept : LawfulKept
unfolding add_of receive_of close_of server_of
lawful_kept =
    record {
      fresh = empty_lawful;
      add = λ t kind ttsi dl w. add_by_lem t w kind ttsi dl (both (is_kind kind) (is_ttsi ttsi)) (any_expects t ttsi) (leb 64 t.count) refl refl refl;
      receive = λ t i p w. receive_by_lem t w i p (ltb i (present t)) refl;
      close = λ t i w. close_by_lem t w i (ltb i (present t)) refl;
      server = λ t i v w. server_by_lem t w i v (ltb i (present t)) refl;
    }
