-- What the add of C answers and leaves, over plain values. Assumes nothing.
use mathlib.Core.Path.{◌≡◌, refl, sym, ap, ap₂, ◌∙◌}
use mathlib.Core.Bool.{Bool, true, false}
use mathlib.Core.List.{List, ◌∷◌, ◌++◌, append_assoc}
use Prim.Native.Nat.{ℕ, zero, suc, ◌+◌, ◌*◌, ◌/◌, ◌-◌, ◌≤◌, ◌<◌}
use native.Mathlib.Numerals.{add-one}
use native.Mathlib.Omega.{arith}
use lib.Dec.{leb}
use lib.ListN.{length, take, drop, set, length-take, length-drop}
use lib.Seq.{take-suc-set, take_at}
use borrow.Author.Tests.{le-leb, lt-leb, leb-true}
use borrow.Rule.Slice.PartMut.{mid_of, put_mid}
use Rattle.std.specs.Prelude.{◌||◌}
use Rattle.std.specs.List.{list_any}
use Rattle.std.specs.Simd.{first_chunks}
use Rattle.refusal.specs.Numbers.{number_of}
use Rattle.refusal.specs.declared.Refusal.{Refusal}
use Rattle.payload.specs.Law.{Octets}
use Rattle.payload.specs.Test.{both, either}
use Rattle.payload.specs.Rates.{is_kind}
use Rattle.payload.specs.Layout.{is_ttsi}
use Rattle.payload.proofs.Tests.{both_false}
use Rattle.octets.specs.Parts.{part, laid}
use Rattle.octets.proofs.Parts.{put_laid}
use Rattle.lsp.specs.Steps.{new_of, same}
use Rattle.lsp.specs.declared.path.Lsp.{Lsp}
use Rattle.field.specs.Field.{field_of, write_of}
use Rattle.table.specs.Steps as table
use Rattle.table.specs.Steps.{present, expected_in, any_expects, add_by, not_added}
use Rattle.table.specs.Outcomes.{Added}
use Rattle.table.specs.declared.paths.Table.{Table}
use Rattle.image.specs.Image.{fields_of, octets_of, image_length, length_of, save_by, image_in, count_in, paths_of, table_of}
use Rattle.image.proofs.Answers.{whole}
use Rattle.image.proofs.Law.{all_present}
use Rattle.image.proofs.Octets.{drop-take, ttsi_read}
use Rattle.image.proofs.Turns.{cell, fields_snoc}
use Rattle.image.proofs.Walk.{length-paths}
use Rattle.host.specs.Calls.{table_in, saved_in, add_step, add_of, opened_of}
use Rattle.host.proofs.Called.{Open, open_is, fits, not_open, goes_on, leaves}
use Rattle.host.proofs.InPlace.{table_is, present_in, count_in_lem, lawful}

-- ---- the search

either_is : (a b : Bool) → either a b ≡ (a || b)
either_is true b = refl
either_is false b = refl

pub records_expect : (n : ℕ) (s t : List ℕ) → 79 * n ≤ length s → list_any (λ f. same t (part f 4 20)) (first_chunks 79 n s) ≡ expected_in (paths_of n s) t
unfolding expected_in paths_of
records_expect zero s t h = refl
records_expect (suc n) s t h =
    let w : length (take 79 s) ≡ 79 = simp length-take (omega arith) in
    sym (either_is (same t (part (take 79 s) 4 20)) _)
    ∙ ap₂ either (ap (same t) (sym (ttsi_read (take 79 s) w))) (records_expect n (drop 79 s) t (simp length-drop (omega arith)))

-- ---- the call

abbrev grown_of : Table → Lsp → Table
grown_of t l = record { count = t.count + 1; lsps = set t.lsps t.count l }

module _ (s : List ℕ) (kind : ℕ) (ttsi : List ℕ) (dl : ℕ) where
  pub add_ends : (r : Refusal) → number_of r ≡ opened_of s → (number_of r, s) ≡ add_of s kind ttsi dl
  unfolding add_of
  add_ends = not_open s (add_step kind ttsi dl)

  module _ (z : 0 ≡ opened_of s) where
    w : Open s
    w = open_is s z

    abbrev t : Table
    t = table_in s

    add_by_lem : (given expected full : Bool) → both (is_kind kind) (is_ttsi ttsi) ≡ given → any_expects t ttsi ≡ expected → leb 64 t.count ≡ full
        → add_by given expected full t (new_of kind ttsi dl) ≡ table.add_of t kind ttsi dl
    unfolding table.add_of
    add_by_lem given expected full p q r =
        sym (ap₂ (λ (x y : Bool). add_by x y (leb 64 t.count) t (new_of kind ttsi dl)) p q ∙ ap (λ (z : Bool). add_by given expected z t (new_of kind ttsi dl)) r)

    refused : Octets s → (n : ℕ) → not_added n t ≡ table.add_of t kind ttsi dl → (n, s) ≡ add_of s kind ttsi dl
    unfolding add_of
    refused o n e = leaves s w (add_step kind ttsi dl) o n (ap (λ (a : Added). (a.number, a.next)) (sym e))

    pub bad_kind : Octets s → is_kind kind ≡ false → (12, s) ≡ add_of s kind ttsi dl
    bad_kind o e = refused o 12 (add_by_lem false _ _ (ap (λ (b : Bool). both b (is_ttsi ttsi)) e) refl refl)

    pub bad_ttsi : Octets s → is_ttsi ttsi ≡ false → (12, s) ≡ add_of s kind ttsi dl
    bad_ttsi o e = refused o 12 (add_by_lem false _ _ (ap (both (is_kind kind)) e ∙ both_false (is_kind kind)) refl refl)

    -- the paths that lie in the records
    used : take (present t) t.lsps ≡ paths_of (count_in s) (take (image_length (count_in s) - 5) (drop 5 s))
    used =
        let n = count_in s in
        let x = drop 5 (image_in s) in
        let c : (table_of (image_in s)).count ≡ n = sym (ap (λ (u : Table). u.count) (table_is s w.image)) ∙ count_in_lem s w.image in
        let d : x ≡ take (image_length n - 5) (drop 5 s) =
        drop-take 5 (79 * n) s ∙ ap (λ (k : ℕ). take k (drop 5 s)) (let z : 79 * n ≡ image_length n - 5 = omega arith in z) in
        ap₂ (λ (k : ℕ) (u : Table). take k u.lsps) (present_in s w.image ∙ sym c) (table_is s w.image)
        ∙ take_at (paths_of (table_of (image_in s)).count x) _ (table_of (image_in s)).count (length-paths (table_of (image_in s)).count x)
        ∙ ap₂ paths_of c d

    -- the table with one path more, saved where the records end
    grown : Octets s → (l : Lsp) → count_in s < 64 → length (field_of l) ≡ 79
        → set (laid s (image_length (count_in s)) (field_of l)) 4 (count_in s + 1) ≡ saved_in (grown_of t l) s
    unfolding octets_of
    grown o l k z =
        let c = count_in s in
        let a = image_length c in
        let f = field_of l in
        let law = lawful s w.image o in
        let here : table_of (image_in s) ≡ t = sym (table_is s w.image) in
        let n : t.count ≡ c = count_in_lem s w.image in
        let places : length t.lsps ≡ 64 = ap (λ (u : Table). length u.lsps) (sym here) ∙ law.0.places in
        let p : present (grown_of t l) ≡ c + 1 = all_present (grown_of t l) (omega arith) ∙ ap (λ (x : ℕ). x + 1) n in
        let fs : fields_of (take (c + 1) (set t.lsps t.count l)) ≡ fields_of (take c t.lsps) ++ f =
        ap (λ (x : ℕ). fields_of (take (c + 1) (set t.lsps x l))) n ∙ ap fields_of (rw add-one (take-suc-set t.lsps c l (omega arith))) ∙ fields_snoc (take c t.lsps) l in
        let image : image_in s ≡ 0x01 ∷ 0 ∷ 2 ∷ 0x01 ∷ c ∷ fields_of (take c t.lsps) =
        law.2 ∙ ap octets_of here ∙ ap (λ (x : ℕ). 0x01 ∷ 0 ∷ 2 ∷ 0x01 ∷ x ∷ fields_of (take x t.lsps)) (present_in s w.image) in
        let e : a + length f ≡ image_length (c + 1) = omega arith in
        let long : leb (length_of (grown_of t l)) (length s) ≡ true = le-leb (length_of (grown_of t l)) (length s) (omega (arith, p, leb-true 5061 (length s) w.long)) in
        ap (λ (x : List ℕ). set (x ++ (f ++ drop (a + length f) s)) 4 (c + 1)) image
        ∙ ap (λ (x : List ℕ). 0x01 ∷ 0 ∷ 2 ∷ 0x01 ∷ (c + 1) ∷ x)
        (sym (append_assoc (fields_of (take c t.lsps)) f (drop (a + length f) s))
        ∙ ap₂ (λ (x : List ℕ) (y : ℕ). x ++ drop y s) (sym fs) e)
        ∙ ap (λ (x : ℕ). 0x01 ∷ 0 ∷ 2 ∷ 0x01 ∷ x ∷ (fields_of (take x (set t.lsps t.count l)) ++ drop (image_length x) s)) (sym p)
        ∙ sym (ap (λ (b : Bool). (save_by b (grown_of t l) s).1) long)

    -- n is the count, and b what the search answers
    module _ (o : Octets s) (g : is_kind kind ≡ true) (h : is_ttsi ttsi ≡ true) (n : ℕ) (c : n ≡ count_in s) (b : Bool)
        (e : b ≡ (let records = take (5 + 79 * n - 5) (drop 5 s) in list_any (λ f. same ttsi (part f 4 20)) (first_chunks 79 (length records / 79) records))) where
      expects : any_expects t ttsi ≡ b
      expects =
          let m : length (take (image_length (count_in s) - 5) (drop 5 s)) / 79 ≡ count_in s = simp (length-take, length-drop) (omega (arith, (fits s w).0)) in
          ap (λ (ls : List Lsp). expected_in ls ttsi) used
          ∙ sym (records_expect (count_in s) (take (image_length (count_in s) - 5) (drop 5 s)) ttsi (simp (length-take, length-drop) (omega (arith, (fits s w).0))))
          ∙ ap (λ (k : ℕ). list_any (λ f. same ttsi (part f 4 20)) (first_chunks 79 k (take (image_length (count_in s) - 5) (drop 5 s)))) (sym m)
          ∙ sym (rw c at e)

      pub expected : b ≡ true → (8, s) ≡ add_of s kind ttsi dl
      expected y = refused o 8 (add_by_lem true true _ (ap₂ both g h) (expects ∙ y) refl)

      pub full : b ≡ false → 64 ≤ n → (7, s) ≡ add_of s kind ttsi dl
      full y k = refused o 7 (add_by_lem true false true (ap₂ both g h) (expects ∙ y) (le-leb 64 t.count (omega (arith, count_in_lem s w.image))))

      pub added : b ≡ false → n < 64 → (l : Lsp) (r : ℕ) (m : List ℕ) → l ≡ new_of kind ttsi dl
          → (r, m) ≡ write_of l (mid_of (image_length n) (image_length n + 79 - image_length n) s)
          → length m ≡ length (mid_of (image_length n) (image_length n + 79 - image_length n) s)
          → (0, set (put_mid (image_length n) (image_length n + 79 - image_length n) s m) 4 (n + 1)) ≡ add_of s kind ttsi dl
      unfolding add_of
      added y k l r m q p v =
          let a = image_length n in
          let j : length (mid_of a (a + 79 - a) s) ≡ 79 = simp (cell, length-take, length-drop) (omega (arith, leb-true 5061 (length s) w.long)) in
          let f : m ≡ field_of l = whole l (mid_of a (a + 79 - a) s) m r j p in
          let z : length (field_of l) ≡ 79 = ap length (sym f) ∙ v ∙ j in
          let step = add_by_lem true false false (ap₂ both g h) (expects ∙ y) (lt-leb 64 t.count (omega (arith, count_in_lem s w.image))) in
          ap (λ (x : List ℕ). (0, set (put_mid a (a + 79 - a) s x) 4 (n + 1))) f
          ∙ ap (λ (x : List ℕ). (0, set x 4 (n + 1))) (put_laid s (field_of l) a (a + 79 - a) (cell a ∙ sym z))
          ∙ ap (λ (k : ℕ). (0, set (laid s (image_length k) (field_of l)) 4 (k + 1))) c
          ∙ ap (λ (x : List ℕ). (0, x)) (grown o l (omega arith) z)
          ∙ ap (λ (x : Lsp). (0, saved_in (grown_of t x) s)) q
          ∙ ap (λ (x : Added). (x.number, saved_in x.next s)) step
          ∙ sym (goes_on s w (add_step kind ttsi dl))

pub ruleset add_refusals = (add_ends, bad_kind, bad_ttsi)
