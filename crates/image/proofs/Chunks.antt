-- Octets cut into fields, and one turn of the loop over the fields: what the fields come to is what the octets do. Assumes nothing.
use mathlib.Core.Path.{◌≡◌, refl, sym, ap, ◌∙◌}
use mathlib.Core.Bool.{Bool, true, false, not, ◌||◌}
use mathlib.Core.List.{List, [], ◌∷◌, ◌++◌, map, append_assoc, map-append}
use Prim.Native.Nat.{ℕ, zero, suc, ◌+◌, ◌-◌, ◌<◌, ◌≤◌}
use native.Mathlib.Numerals.{add-one}
use native.Mathlib.Omega.{arith}
use lib.ListN.{length, get_or, take, drop, set, replicate, drop_of_length-le, length-map}
use lib.Seq.{drop-cons, take-suc, length-take-le, set-append_seam}
use Rattle.std.specs.Simd.{first_chunks}
use Rattle.std.specs.List.{list_any}
use Rattle.payload.specs.Test.{both, pick}
use Rattle.payload.proofs.Tests.{both_false}
use Rattle.lsp.specs.Steps.{same}
use Rattle.lsp.specs.declared.path.Lsp.{Lsp}
use Rattle.field.specs.Field.{path_of, is_field, ttsi_in}
use Rattle.table.specs.Steps.{blank}
use Rattle.image.specs.Image.{absent, are_fields, paths_of, all_fields}
use Rattle.image.proofs.Octets.{ttsi_first}

pub fields_cut : (seen : List (List ℕ)) (n : ℕ) (s : List ℕ) → all_fields seen (first_chunks 79 n s) ≡ are_fields seen n s
unfolding all_fields are_fields
fields_cut seen zero s = refl
fields_cut seen (suc n) s = rw (ttsi_first s, fields_cut (seen ++ (ttsi_in s ∷ [])) n (drop 79 s))

pub paths_cut : (n : ℕ) (s : List ℕ) → map path_of (first_chunks 79 n s) ≡ paths_of n s
unfolding paths_of
paths_cut zero s = refl
paths_cut (suc n) s = ap (λ (ls : List Lsp). path_of (take 79 s) ∷ ls) (paths_cut n (drop 79 s))

-- ---- are they fields

absent_any : (t : List ℕ) (fs : List (List ℕ)) → absent t (map ttsi_in fs) ≡ not (list_any (λ f. same t (ttsi_in f)) fs)
unfolding absent
absent_any t [] = refl
absent_any t (f ∷ fs) = rw (absent_any t fs) (go (same t (ttsi_in f)))
  where
    go : (b : Bool) → pick b false (not (list_any (λ g. same t (ttsi_in g)) fs)) ≡ not (b || list_any (λ g. same t (ttsi_in g)) fs)
    go true = refl
    go false = refl

module _ (fs : List (List ℕ)) where
  -- the TTSIs of the fields before field i
  abbrev pub before : ℕ → List (List ℕ)
  before i = map ttsi_in (take i fs)

  module _ (i : ℕ) (h : i < length fs) where
    abbrev field : List ℕ
    field = get_or fs i []

    pub before_next : before (i + 1) ≡ before i ++ (ttsi_in field ∷ [])
    before_next = rw (add-one, take-suc fs i []) (map-append ttsi_in (take i fs) (field ∷ []))

    module _ (inv : all_fields (before i) (drop i fs) ≡ all_fields [] fs) where
      turn : both (is_field field) (both (absent (ttsi_in field) (before i)) (all_fields (before (i + 1)) (drop (i + 1) fs))) ≡ all_fields [] fs
      unfolding all_fields
      turn = rw (before_next, add-one) (rw (drop-cons fs i [] h) at inv)

      pub no_field : is_field field ≡ false → false ≡ all_fields [] fs
      no_field e = rw e at turn

      -- t is the TTSI of field i, as the code finds it
      pub seen_twice : (t : List ℕ) → t ≡ ttsi_in field → list_any (λ f. same t (ttsi_in f)) (take i fs) ≡ true → false ≡ all_fields [] fs
      seen_twice t q e = sym (both_false (is_field field)) ∙ (rw (← q, absent_any t (take i fs), e) at turn)

      pub goes_on : is_field field ≡ true → absent (ttsi_in field) (before i) ≡ true → all_fields (before (i + 1)) (drop (i + 1) fs) ≡ all_fields [] fs
      goes_on e a = rw (e, a) at turn

    pub not_seen : (t : List ℕ) → t ≡ ttsi_in field → list_any (λ f. same t (ttsi_in f)) (take i fs) ≡ false → absent (ttsi_in field) (before i) ≡ true
    not_seen t q e = rw (← q, absent_any t (take i fs), e)

  pub fields_end : (i : ℕ) → length fs ≤ i → all_fields (before i) (drop i fs) ≡ all_fields [] fs → true ≡ all_fields [] fs
  unfolding all_fields
  fields_end i h inv = rw (drop_of_length-le fs {i = i} h) at inv

-- ---- their paths, each in its place

module _ (fs : List (List ℕ)) where
  abbrev pub placed_to : ℕ → List Lsp
  placed_to i = map path_of (take i fs) ++ replicate (64 - i) blank

  pub placed_next : (i : ℕ) → i < length fs → length fs ≤ 64 → set (placed_to i) i (path_of (get_or fs i [])) ≡ placed_to (i + 1)
  placed_next i h m =
      let l = path_of (get_or fs i []) in
      let before = map path_of (take i fs) in
      let rest = replicate (64 - (i + 1)) blank in
      let n : 64 - i ≡ suc (64 - (i + 1)) = omega arith in
      let k : length before ≡ i = length-map (take i fs) path_of ∙ length-take-le i fs (omega arith) in
      let more : map path_of (take (i + 1) fs) ≡ before ++ (l ∷ []) = rw (add-one, take-suc fs i []) (map-append path_of (take i fs) (get_or fs i [] ∷ [])) in
      ap (λ (j : ℕ). set (before ++ replicate j blank) i l) n
      ∙ ap (λ (j : ℕ). set (before ++ (blank ∷ rest)) j l) (sym k)
      ∙ set-append_seam before blank rest l
      ∙ rw more (sym (append_assoc before (l ∷ []) rest))
