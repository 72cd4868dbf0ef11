-- The rules of a table, by places, are those that the walk over its fields keeps. Assumes nothing.
use mathlib.Core.Path.{◌≡◌, refl, sym, ap, ◌∙◌}
use mathlib.Core.Bool.{Bool, true, false}
use mathlib.Core.List.{List, [], ◌∷◌, ◌++◌, map, append_assoc}
use Prim.Native.Nat.{ℕ, zero, suc, ◌+◌, ◌-◌, ◌≤◌, ◌<◌}
use native.Mathlib.Omega.{arith}
use lib.Dec.{leb}
use lib.ListN.{length, get_or, take, drop, replicate, length-append, length-drop, length-replicate, get_or-replicate, get_or-append, get_or-map}
use lib.Seq.{get_or-take, get_or-drop, get_or-append_seam, length-take-le, ext_get_or}
use borrow.Author.Tests.{leb-true, leb-false}
use Rattle.payload.specs.Test.{pick}
use Rattle.payload.proofs.Tests.{never}
use Rattle.lsp.specs.Sound.{Sound}
use Rattle.lsp.specs.Steps.{same}
use Rattle.lsp.specs.declared.path.Lsp.{Lsp}
use Rattle.lsp.proofs.Same.{same_equal, same_self}
use Rattle.field.specs.Law.{Typed}
use Rattle.table.specs.Steps.{blank, nowhere, path_at}
use Rattle.table.specs.Lawful.{Lawful}
use Rattle.table.specs.declared.paths.Table.{Table}
use Rattle.image.specs.Image.{absent}
use Rattle.image.specs.Law as image
use Rattle.image.proofs.Walk.{Good}

abbrev key : Lsp → List ℕ
key l = l.ttsi

-- ---- a TTSI that is none of those seen

other_one : (a b : Bool) → pick a false b ≡ true → (a ≡ false) × (b ≡ true)
other_one true b h = absurd (never h)
other_one false b h = (refl, h)

absent_apart : (k : List ℕ) (seen : List (List ℕ)) → absent k seen ≡ true → (i : ℕ) → i < length seen → get_or seen i [] ≡ k → ⊥
unfolding absent
absent_apart k [] e i h q = absurd (omega arith)
absent_apart k (x ∷ seen) e zero h q = never (sym (other_one (same k x) (absent k seen) e).0 ∙ ap (same k) q ∙ same_self k)
absent_apart k (x ∷ seen) e (suc i) h q = absent_apart k seen (other_one (same k x) (absent k seen) e).1 i (omega arith) q

pub apart_same : (k x : List ℕ) → (x ≡ k → ⊥) → same k x ≡ false
apart_same k x h = go (same k x) refl
  where
    go : (b : Bool) → same k x ≡ b → b ≡ false
    go true e = absurd (h (sym (same_equal k x e)))
    go false e = refl

pub apart_absent : (k : List ℕ) (seen : List (List ℕ)) → ((i : ℕ) → i < length seen → get_or seen i [] ≡ k → ⊥) → absent k seen ≡ true
unfolding absent
apart_absent k [] h = refl
apart_absent k (x ∷ seen) h = rw (apart_same k x (h 0 (omega arith))) (apart_absent k seen (λ i l. h (suc i) (omega arith)))

-- ---- the TTSIs of paths, after those seen, differ from all before them

abbrev Apart : List (List ℕ) → List Lsp → Type 0
Apart seen ls =
    (i j : ℕ) → i < j → length seen ≤ j → j < length seen + length ls → get_or (seen ++ map key ls) i [] ≡ get_or (seen ++ map key ls) j [] → ⊥

snoc_length : (seen : List (List ℕ)) (k : List ℕ) → length (seen ++ (k ∷ [])) ≡ length seen + 1
snoc_length seen k = length-append seen (k ∷ [])

good_apart : (ls : List Lsp) (seen : List (List ℕ)) → Good seen ls → Apart seen ls
good_apart [] seen g i j h l u = absurd (omega arith)
good_apart (x ∷ ls) seen g i j h l u = go (good_apart ls (seen ++ (key x ∷ [])) g.3) (leb (suc (length seen)) j) refl
  where
    go : Apart (seen ++ (key x ∷ [])) ls → (t : Bool) → leb (suc (length seen)) j ≡ t
        → get_or (seen ++ key x ∷ map key ls) i [] ≡ get_or (seen ++ key x ∷ map key ls) j [] → ⊥
    go ih true e q =
        let n = snoc_length seen (key x) in
        ih i j h (omega (arith, leb-true (suc (length seen)) j e)) (omega arith) (rw append_assoc q)
    go ih false e q =
        let n : j ≡ length seen = omega (arith, leb-false (suc (length seen)) j e) in
        absent_apart (key x) seen g.2 i (omega arith)
        (sym (get_or-append seen (key x ∷ map key ls) [] i (omega arith)) ∙ q
        ∙ ap (λ (m : ℕ). get_or (seen ++ key x ∷ map key ls) m []) n ∙ get_or-append_seam seen (key x) (map key ls) [])

apart_good : (ls : List Lsp) (seen : List (List ℕ)) → ((i : ℕ) → i < length ls → Sound (get_or ls i nowhere))
    → ((i : ℕ) → i < length ls → Typed (get_or ls i nowhere)) → Apart seen ls → Good seen ls
apart_good [] seen w v a = tt
apart_good (x ∷ ls) seen w v a =
    let n = snoc_length seen (key x) in (
      w 0 (omega arith),
      v 0 (omega arith),
      apart_absent (key x) seen (λ i l q. a i (length seen) l (omega arith) (omega arith)
          (get_or-append seen (key x ∷ map key ls) [] i l ∙ q ∙ sym (get_or-append_seam seen (key x) (map key ls) []))),
      apart_good ls (seen ++ (key x ∷ [])) (λ i l. w (suc i) (omega arith)) (λ i l. v (suc i) (omega arith))
          (λ i j l m u q. a i j l (omega arith) (omega arith) (rw append_assoc at q)),
    )

good_each : (ls : List Lsp) (seen : List (List ℕ)) → Good seen ls → (i : ℕ) → i < length ls → Sound (get_or ls i nowhere) × Typed (get_or ls i nowhere)
good_each [] seen g i l = absurd (omega arith)
good_each (x ∷ ls) seen g zero l = (g.0, g.1)
good_each (x ∷ ls) seen g (suc i) l = good_each ls (seen ++ (key x ∷ [])) g.3 i (omega arith)

-- ---- a table

module _ (t : Table) (few : t.count ≤ 64) (places : length t.lsps ≡ 64) where
  abbrev used : List Lsp
  used = take t.count t.lsps

  pub used_length : length used ≡ t.count
  used_length = length-take-le t.count t.lsps (omega arith)

  pub used_at : (i : ℕ) → i < t.count → get_or used i nowhere ≡ path_at t i
  used_at i l = get_or-take t.count t.lsps i nowhere l

  used_key : (i : ℕ) → i < t.count → get_or (map key used) i [] ≡ (path_at t i).ttsi
  used_key i l = get_or-map key used i nowhere ∙ ap key (used_at i l)

  pub lawful_good : Lawful t → image.Typed t → Good [] used
  lawful_good w v =
      let n = used_length in
      apart_good used []
      (λ i l. rw (used_at i (omega arith)) (w.sound i (omega arith)))
      (λ i l. rw (used_at i (omega arith)) (v i (omega arith)))
      (λ i j l m u q. w.differ i j l (omega arith) (sym (used_key i (omega arith)) ∙ q ∙ used_key j (omega arith)))

  -- the places with no path
  pub lawful_unused : Lawful t → drop t.count t.lsps ≡ replicate (64 - t.count) blank
  lawful_unused w =
      ext_get_or nowhere (drop t.count t.lsps) (replicate (64 - t.count) blank)
      (simp (length-drop, length-replicate) (omega arith))
      (λ i h.
      let k : i < 64 - t.count = omega (arith, length-drop t.count t.lsps) in
      get_or-drop t.count t.lsps i nowhere ∙ w.unused (t.count + i) (omega arith) (omega arith)
      ∙ sym (get_or-replicate (64 - t.count) i blank nowhere k))

  module _ (g : Good [] used) where
    pub good_typed : image.Typed t
    good_typed i l = rw (used_at i l) at (good_each used [] g i (omega (arith, used_length))).1

    pub good_lawful : drop t.count t.lsps ≡ replicate (64 - t.count) blank → Lawful t
    good_lawful u =
        let n = used_length in
        record {
          few = few;
          places = places;
          sound = λ i l. rw (used_at i l) at (good_each used [] g i (omega arith)).0;
          differ = λ i j l m q. good_apart used [] g i j l (omega arith) (omega arith) (used_key i (omega arith) ∙ q ∙ sym (used_key j m));
          unused = λ i l m.
              let e : t.count + (i - t.count) ≡ i = omega arith in
              ap (λ (k : ℕ). path_at t k) (sym e) ∙ sym (get_or-drop t.count t.lsps (i - t.count) nowhere)
              ∙ ap (λ (ls : List Lsp). get_or ls (i - t.count) nowhere) u ∙ get_or-replicate (64 - t.count) (i - t.count) blank nowhere (omega arith);
        }
