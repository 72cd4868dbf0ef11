-- The law of images (`specs/Law.antt`): restoring accepts octets with a table exactly where the table obeys the rules and the octets are its own.
-- Assumes nothing.
use mathlib.Core.Path.{◌≡◌, refl, sym, ap, ap₂, ◌∙◌, subst}
use mathlib.Core.Bool.{Bool, true, false}
use mathlib.Core.List.{List, [], ◌∷◌, ◌++◌}
use Prim.Native.Nat.{ℕ, ◌-◌, ◌≤◌}
use native.Mathlib.Omega.{arith}
use lib.Dec.{leb, ltb}
use lib.ListN.{length, take, drop, replicate, length-append, length-drop, length-replicate, take-append-drop}
use lib.Seq.{take_at, drop_at, drop-cons}
use borrow.Author.Tests.{eqb-true, leb-true, ltb-false, eq-eqb, le-leb}
use Rattle.payload.specs.Test.{pick}
use Rattle.payload.specs.Law.{Octets}
use Rattle.octets.specs.Parts.{octet_at}
use Rattle.octets.proofs.Parts.{drop-octets}
use Rattle.lsp.specs.declared.path.Lsp.{Lsp}
use Rattle.lsp.proofs.Answers.{Each, each, every}
use Rattle.table.specs.Steps.{blank, present}
use Rattle.table.specs.Lawful.{Lawful}
use Rattle.table.specs.declared.paths.Table.{Table}
use Rattle.image.specs.Outcomes.{Restored}
use Rattle.image.specs.Image.{fields_of, octets_of, image_length, length_of, save_by, save_of, are_fields, count_in, image_tests, is_image, paths_of, table_of, restored, restore_by, restore_of}
use Rattle.image.specs.Law.{Typed, ImageLaw}
use Rattle.image.proofs.Walk.{Good, length-paths, length_fields, fields_back, fields_forth}
use Rattle.image.proofs.Places.{used_length, used_at, lawful_good, lawful_unused, good_typed, good_lawful}

-- ---- a table of at most 64 paths counts all of them

pub all_present : (t : Table) → t.count ≤ 64 → present t ≡ t.count
all_present t h = go (ltb t.count 64) refl
  where
    go : (b : Bool) → ltb t.count 64 ≡ b → pick b t.count 64 ≡ t.count
    go true e = refl
    go false e = omega (arith, ltb-false t.count 64 e)

abbrev layout : ℕ → List Lsp → List ℕ
layout n ls = 0x01 ∷ 0 ∷ 2 ∷ 0x01 ∷ n ∷ fields_of (take n ls)

octets_are : (t : Table) → t.count ≤ 64 → octets_of t ≡ layout t.count t.lsps
unfolding octets_of
octets_are t h = ap (λ (n : ℕ). layout n t.lsps) (all_present t h)

-- ---- an image read back

module _ (im : List ℕ) (e : is_image im ≡ true) where
  tests : Each (image_tests im)
  unfolding is_image
  tests = each (image_tests im) e

  pub length-is : length im ≡ image_length (count_in im)
  length-is = eqb-true (length im) (image_length (count_in im)) tests.0

  pub count_few : count_in im ≤ 64
  count_few = leb-true (count_in im) 64 tests.1.1.1.1.1.0

  head : im ≡ 0x01 ∷ 0 ∷ 2 ∷ 0x01 ∷ count_in im ∷ drop 5 im
  head =
      let n = length-is in
      let a = eqb-true (octet_at im 0) 0x01 tests.1.0 in
      let b = eqb-true (octet_at im 1) 0 tests.1.1.0 in
      let c = eqb-true (octet_at im 2) 2 tests.1.1.1.0 in
      let d = eqb-true (octet_at im 3) 0x01 tests.1.1.1.1.0 in
      cc (drop-cons im 0 0 (omega arith), drop-cons im 1 0 (omega arith), drop-cons im 2 0 (omega arith), drop-cons im 3 0 (omega arith), drop-cons im 4 0 (omega arith))

  taken : take (count_in im) (table_of im).lsps ≡ paths_of (count_in im) (drop 5 im)
  taken = take_at (paths_of (count_in im) (drop 5 im)) (replicate (64 - count_in im) blank) (count_in im) (length-paths (count_in im) (drop 5 im))

  rest : drop (count_in im) (table_of im).lsps ≡ replicate (64 - count_in im) blank
  rest = drop_at (paths_of (count_in im) (drop 5 im)) (replicate (64 - count_in im) blank) (count_in im) (length-paths (count_in im) (drop 5 im))

  places : length (table_of im).lsps ≡ 64
  places = let n = count_few in simp (length-append, length-paths, length-replicate) (omega arith)

accepted : (b : Bool) (t u : Table) → restore_by b t ≡ restored u → (b ≡ true) × (t ≡ u)
accepted true t u e = (refl, ap (λ (r : Restored). r.table) e)
accepted false t u e = absurd (ten (ap (λ (r : Restored). r.number) e))
  where
    ten : ◌≡◌ {A = ℕ} 10 0 → ⊥
    ten q = omega arith

accepts : (b : Bool) (t u : Table) → b ≡ true → t ≡ u → restore_by b t ≡ restored u
accepts b t u e q = rw e (ap restored q)

-- what the number says of the test
pub number_yes : (b : Bool) (t : Table) → (restore_by b t).number ≡ 0 → b ≡ true
number_yes true t e = refl
number_yes false t e = absurd (omega arith)

save_is : (t : Table) (b : List ℕ) → length_of t ≤ length b → save_of t b ≡ (0, octets_of t ++ drop (length_of t) b)
save_is t b h = ap (λ (x : Bool). save_by x t b) (le-leb (length_of t) (length b) h)

saved_fits : (t : Table) (b : List ℕ) → (save_of t b).0 ≡ 0 → length_of t ≤ length b
saved_fits t b = go (leb (length_of t) (length b)) refl
  where
    go : (x : Bool) → leb (length_of t) (length b) ≡ x → (save_by x t b).0 ≡ 0 → length_of t ≤ length b
    go true e q = leb-true (length_of t) (length b) e
    go false e q = absurd (omega arith)

module _ (im : List ℕ) (o : Octets im) (e : is_image im ≡ true) where
  back : (fields_of (paths_of (count_in im) (drop 5 im)) ≡ drop 5 im) × Good [] (paths_of (count_in im) (drop 5 im))
  back =
      let n = length-is im e in
      fields_back (count_in im) [] (drop 5 im) (simp length-drop (omega arith)) (drop-octets im o 5) (tests im e).1.1.1.1.1.1.0

  image_back : octets_of (table_of im) ≡ im
  image_back = octets_are (table_of im) (count_few im e) ∙ rw (taken im e, back.0) (sym (head im e))

  good : Good [] (take (count_in im) (table_of im).lsps)
  good = rw (taken im e) back.1

  table_lawful : Lawful (table_of im)
  table_lawful = good_lawful (table_of im) (count_few im e) (places im e) good (rest im e)

  table_typed : Typed (table_of im)
  table_typed = good_typed (table_of im) (count_few im e) (places im e) good

-- ---- a table's image is accepted, and read as that table

module _ (t : Table) (w : Lawful t) where
  length-image : length (octets_of t) ≡ image_length t.count
  length-image =
      let n = used_length t w.few w.places in
      ap length (octets_are t w.few)
      ∙ omega (arith, length_fields (take t.count t.lsps) (λ i h. rw (used_at t w.few w.places i (omega arith)) (w.sound i (omega arith))))

  module _ (v : Typed t) where
    forth : (are_fields [] t.count (fields_of (take t.count t.lsps)) ≡ true)
        × (paths_of t.count (fields_of (take t.count t.lsps)) ≡ take t.count t.lsps)
    forth =
        let f = fields_forth (take t.count t.lsps) [] (lawful_good t w.few w.places w v) in
        let n = used_length t w.few w.places in (
          subst (λ (m : ℕ). are_fields [] m (fields_of (take t.count t.lsps)) ≡ true) n f.0,
          subst (λ (m : ℕ). paths_of m (fields_of (take t.count t.lsps)) ≡ take t.count t.lsps) n f.1,
        )

    image_forth : is_image (layout t.count t.lsps) ≡ true
    unfolding is_image
    image_forth =
        every (image_tests (layout t.count t.lsps))
        (eq-eqb _ _ (ap length (sym (octets_are t w.few)) ∙ length-image), (refl, (refl, (refl, (refl, (le-leb _ _ w.few, (forth.0, tt)))))))

    table_forth : table_of (layout t.count t.lsps) ≡ t
    table_forth =
        let r : paths_of t.count (fields_of (take t.count t.lsps)) ++ replicate (64 - t.count) blank ≡ t.lsps =
        rw (forth.1, ← lawful_unused t w.few w.places w) (take-append-drop t.count t.lsps) in
        ap (λ (ls : List Lsp). record { count = t.count; lsps = ls }) r

    pub comes_back : restore_of (octets_of t) ≡ restored t
    comes_back = rw (octets_are t w.few) (accepts _ _ t image_forth table_forth)

-- ---- the law

law_of : (im : List ℕ) (t : Table) → Octets im → restore_of im ≡ restored t → Lawful t × Typed t × (im ≡ octets_of t)
law_of im t o e =
    let a = accepted (is_image im) (table_of im) t e in (
      subst Lawful a.1 (table_lawful im o a.0),
      subst Typed a.1 (table_typed im o a.0),
      sym (image_back im o a.0) ∙ ap octets_of a.1,
    )

length-saved : (t : Table) → Lawful t → length (octets_of t) ≡ length_of t
length-saved t w = length-image t w ∙ ap image_length (sym (all_present t w.few))

restored_saved : (im b : List ℕ) → Octets im → (restore_of im).number ≡ 0 → length im ≤ length b
    → save_of (restore_of im).table b ≡ (0, im ++ drop (length im) b)
restored_saved im b o e h =
    let y = number_yes (is_image im) (table_of im) e in
    let u = image_back im o y in
    let n : length im ≡ length_of (table_of im) = ap length (sym u) ∙ length-saved (table_of im) (table_lawful im o y) in
    ap (λ (i : Bool). save_of (restore_by i (table_of im)).table b) y
    ∙ save_is (table_of im) b (omega arith)
    ∙ ap₂ (λ (x : List ℕ) (k : ℕ). (0, x ++ drop k b)) u (sym n)

saved_restored : (t : Table) (b : List ℕ) → Lawful t → Typed t → (save_of t b).0 ≡ 0
    → restore_of (take (length_of t) (save_of t b).1) ≡ restored t
saved_restored t b w v e =
    ap (λ (r : ℕ × List ℕ). restore_of (take (length_of t) r.1)) (save_is t b (saved_fits t b e))
    ∙ ap restore_of (take_at (octets_of t) (drop (length_of t) b) (length_of t) (length-saved t w))
    ∙ comes_back t w v

pub image_law : ImageLaw
image_law =
    record {
      law = λ im t o. (law_of im t o, λ h. ap restore_of h.2 ∙ comes_back t h.0 h.1);
      restored_then_saved = restored_saved;
      saved_then_restored = saved_restored;
      one_image = λ im jm t o p e f. (law_of im t o e).2 ∙ sym (law_of jm t p f).2;
      size = length-saved;
    }
