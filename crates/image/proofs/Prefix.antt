-- The image that lent octets begin with, tested where it stands, and what a call that restores answers. Assumes nothing.
use mathlib.Core.Path.{◌≡◌, refl, sym, ap, ◌∙◌}
use mathlib.Core.Bool.{Bool, true, false}
use mathlib.Core.List.{List, [], ◌∷◌, ◌++◌, map}
use Prim.Native.Nat.{ℕ, zero, suc, ◌+◌, ◌*◌, ◌-◌, ◌/◌, ◌≤◌, ◌<◌}
use native.Mathlib.Nat.{sub-zero}
use native.Mathlib.Omega.{arith}
use lib.Dec.{leb, eqb}
use lib.ListN.{length, get_or, take, drop, replicate, length-take}
use lib.Seq.{get_or-take, take_all, take-take}
use borrow.Author.Tests.{eqb-true, eq-eqb, ne_eqb, leb-true, leb-false, le-leb, lt-leb}
use Rattle.std.specs.Prelude.{IsTrue, ◌↔◌}
use Rattle.std.specs.List.{slice_range}
use Rattle.std.specs.Simd.{first_chunks}
use Rattle.payload.proofs.Tests.{never}
use Rattle.octets.specs.Parts.{octet_at}
use Rattle.lsp.specs.Sound.{all}
use Rattle.lsp.specs.declared.path.Lsp.{Lsp}
use Rattle.lsp.proofs.Answers.{each, fails, decides}
use Rattle.field.specs.Field.{path_of}
use Rattle.table.specs.Steps.{blank}
use Rattle.image.specs.Image.{head_of, are_fields, all_fields, image_length, count_in, image_tests, is_image, placed, table_of, restored, refused, restore_by, restore_of, image_in}
use Rattle.image.proofs.Octets.{drop-take}
use Rattle.image.proofs.Chunks.{fields_cut, paths_cut}
use Rattle.image.proofs.Law.{length-is}

-- the tests of an image, over octets that may go on after it
abbrev pub prefix_tests : List ℕ → List Bool
prefix_tests s =
    leb (image_length (count_in s)) (length s)
    ∷ eqb (octet_at s 0) 0x01
    ∷ eqb (octet_at s 1) 0
    ∷ eqb (octet_at s 2) 2
    ∷ eqb (octet_at s 3) 0x01
    ∷ leb (count_in s) 64
    ∷ are_fields [] (count_in s) (take (79 * count_in s) (drop 5 s))
    ∷ []

long : (k : ℕ) (s : List ℕ) → eqb (length (take k s)) k ≡ leb k (length s)
long k s = go (leb k (length s)) refl
  where
    go : (t : Bool) → leb k (length s) ≡ t → eqb (length (take k s)) k ≡ t
    go true e = eq-eqb (length (take k s)) k (omega (arith, length-take k s, leb-true k (length s) e))
    go false e = ne_eqb (length (take k s)) k (omega (arith, length-take k s, leb-false k (length s) e))

pub prefix : (s : List ℕ) → is_image (image_in s) ≡ all (prefix_tests s)
unfolding is_image
prefix s =
    let k = image_length (count_in s) in
    let at : (j : ℕ) → j < 5 → octet_at (take k s) j ≡ octet_at s j = λ j h. get_or-take k s j 0 (omega arith) in
    rw (at 0 (omega arith), at 1 (omega arith), at 2 (omega arith), at 3 (omega arith), at 4 (omega arith), long k s, drop-take 5 (79 * count_in s) s)

-- octets that are as long as their header says are their own prefix
pub whole : (s : List ℕ) → length s ≡ image_length (count_in s) → image_in s ≡ s
whole s h = take_all (image_length (count_in s)) s (omega arith)

-- ---- what the code finds of octets

not_true : (b : Bool) → (b ≡ true → ⊥) → b ≡ false
not_true true h = absurd (h refl)
not_true false h = refl

five : (s : List ℕ) → 5 ≤ length s → take 5 s ≡ get_or s 0 0 ∷ get_or s 1 0 ∷ get_or s 2 0 ∷ get_or s 3 0 ∷ get_or s 4 0 ∷ []
five [] h = absurd (omega arith)
five (a ∷ []) h = absurd (omega arith)
five (a ∷ b ∷ []) h = absurd (omega arith)
five (a ∷ b ∷ c ∷ []) h = absurd (omega arith)
five (a ∷ b ∷ c ∷ d ∷ []) h = absurd (omega arith)
five (a ∷ b ∷ c ∷ d ∷ e ∷ s) h = refl

chunks_take : (n : ℕ) (s : List ℕ) → first_chunks 79 n (take (79 * n) s) ≡ first_chunks 79 n s
chunks_take zero s = refl
chunks_take (suc n) s =
    let m : 79 * suc n ≡ 79 + 79 * n = omega arith in
    rw (m, drop-take 79 (79 * n) s, chunks_take n (drop 79 s), take-take 79 (79 + 79 * n) s (omega arith)) refl

take_chunks : (n k : ℕ) (s : List ℕ) → n ≤ k → take n (first_chunks 79 k s) ≡ first_chunks 79 n s
take_chunks zero k s h = refl
take_chunks (suc n) zero s h = absurd (omega arith)
take_chunks (suc n) (suc k) s h = ap (λ (l : List (List ℕ)). take 79 s ∷ l) (take_chunks n k (drop 79 s) (omega arith))

length-chunks : (n : ℕ) (s : List ℕ) → length (first_chunks 79 n s) ≡ n
length-chunks zero s = refl
length-chunks (suc n) s = ap suc (length-chunks n (drop 79 s))

module _ (s : List ℕ) where
  test_fails : (i : ℕ) → get_or (prefix_tests s) i true ≡ false → is_image (image_in s) ≡ false
  test_fails i h = prefix s ∙ sym (fails i (prefix_tests s) h)

  pub too_short : length s < image_length (count_in s) → is_image (image_in s) ≡ false
  too_short h = test_fails 0 (lt-leb (image_length (count_in s)) (length s) h)

  module _ (long : 5 ≤ length s) where
    -- of an image, what the code compares with
    heads : is_image (image_in s) ≡ true → take 5 s ≡ head_of (get_or (take 5 s) 4 0)
    heads y =
        let t = each (prefix_tests s) (sym (prefix s) ∙ y) in
        let a = eqb-true (octet_at s 0) 0x01 t.1.0 in
        let b = eqb-true (octet_at s 1) 0 t.1.1.0 in
        let c = eqb-true (octet_at s 2) 2 t.1.1.1.0 in
        let d = eqb-true (octet_at s 3) 0x01 t.1.1.1.1.0 in
        let e : get_or (take 5 s) 4 0 ≡ octet_at s 4 = get_or-take 5 s 4 0 (omega arith) in
        five s long ∙ cc

    pub other_head : (first : List ℕ) (r : Bool) → first ≡ take 5 s → (IsTrue r ↔ (first ≡ head_of (octet_at first 4))) → r ≡ false → is_image (image_in s) ≡ false
    other_head first r q h e = not_true (is_image (image_in s)) (λ y. never (sym e ∙ h.1 (rw q (heads y))))

-- octets cut into a head and what is behind it, as many chunks of which are found as the head says
module _ (s first rest : List ℕ) (q : first ≡ take 5 s) (e : first ≡ head_of (octet_at first 4)) (p : rest ≡ drop 5 s) (long : length rest + 5 ≡ length s) where
  abbrev n : ℕ
  n = octet_at first 4

  at : (j : ℕ) → j < 5 → octet_at s j ≡ octet_at (head_of n) j
  at j h = sym (get_or-take 5 s j 0 h) ∙ ap (λ (l : List ℕ). get_or l j 0) (sym q ∙ e)

  count : count_in s ≡ n
  count = at 4 (omega arith)

  pub few_fields : length rest / 79 < n → is_image (image_in s) ≡ false
  few_fields h = too_short s (omega (arith, count))

  module _ (chunks fs : List (List ℕ)) (a : chunks ≡ first_chunks 79 (length rest / 79) rest) (m : n ≤ length rest / 79) (f : fs ≡ slice_range chunks 0 n) where
    cut : fs ≡ first_chunks 79 n (drop 5 s)
    cut = f ∙ ap (λ (j : ℕ). take j chunks) (sub-zero n) ∙ ap (take n) a ∙ take_chunks n (length rest / 79) rest m ∙ ap (first_chunks 79 n) p

    pub fields_are : (length fs ≡ count_in s) × (fs ≡ first_chunks 79 (count_in s) (drop 5 s))
    fields_are = rw count (ap length cut ∙ length-chunks n (drop 5 s), cut)

    pub too_many : 64 < length fs → is_image (image_in s) ≡ false
    too_many h = test_fails s 5 (lt-leb (count_in s) 64 (omega (arith, fields_are)))

    pub fields_decide : length fs ≤ 64 → all_fields [] fs ≡ is_image (image_in s)
    fields_decide few =
        let r = drop 5 s in
        let body : all_fields [] fs ≡ are_fields [] n (take (79 * n) r) = ap (all_fields []) (cut ∙ sym (chunks_take n r)) ∙ fields_cut [] n (take (79 * n) r) in
        decides 6 (prefix_tests s) (all_fields [] fs) refl (
          le-leb _ _ (omega (arith, count)),
          (
            eq-eqb _ _ (at 0 (omega arith)),
            (
              eq-eqb _ _ (at 1 (omega arith)),
              (
                eq-eqb _ _ (at 2 (omega arith)),
                (eq-eqb _ _ (at 3 (omega arith)), (le-leb _ _ (omega (arith, fields_are)), tt)),
              ),
            ),
          ),
        )
        (body ∙ ap (λ (k : ℕ). are_fields [] k (take (79 * k) r)) (sym count))
        ∙ sym (prefix s)

-- ---- what `restore` answers

module _ (s : List ℕ) where
  -- what an image tells of the octets that it stands in
  pub begun : is_image (image_in s) ≡ true → (image_length (count_in s) ≤ length s) × (count_in s ≤ 64)
  begun e =
      let h = each (prefix_tests s) (sym (prefix s) ∙ e) in
      (leb-true (image_length (count_in s)) (length s) h.0, leb-true (count_in s) 64 h.1.1.1.1.1.0)

  pub not_begun : is_image (image_in s) ≡ false → refused ≡ restore_of s
  not_begun e = rw (go (is_image s) refl)
    where
      go : (b : Bool) → is_image s ≡ b → is_image s ≡ false
      go true y = absurd (never (sym e ∙ ap is_image (whole s (length-is s y)) ∙ y))
      go false y = y

  pub wrong_length : (length s ≡ image_length (count_in s) → ⊥) → refused ≡ restore_of s
  unfolding is_image
  wrong_length h = ap (λ (b : Bool). restore_by b (table_of s)) (fails 0 (image_tests s) (ne_eqb (length s) (image_length (count_in s)) h))

  pub accepted : (n : ℕ) (fs : List (List ℕ)) (ls : List Lsp) → length s ≡ image_length (count_in s) → is_image (image_in s) ≡ true
      → n ≡ count_in s → fs ≡ first_chunks 79 (count_in s) (drop 5 s) → ls ≡ map path_of fs ++ replicate (64 - n) blank
      → restored (record { count = n; lsps = ls }) ≡ restore_of s
  accepted n fs ls m y k q e =
      let z : is_image s ≡ true = ap is_image (sym (whole s m)) ∙ y in
      let p : ls ≡ placed (count_in s) (drop 5 s) = e ∙ rw (k, q, paths_cut (count_in s) (drop 5 s)) refl in
      rw (z, k, p)
