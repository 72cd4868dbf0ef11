-- Fields one after the other, and the paths that they are: read, they are written again, and written, they are read again. Assumes nothing.
use mathlib.Core.Path.{◌≡◌, refl, sym, ap, ap₂, ◌∙◌}
use mathlib.Core.Bool.{true}
use mathlib.Core.List.{List, [], ◌∷◌, ◌++◌}
use Prim.Native.Nat.{ℕ, zero, suc, ◌*◌, ◌<◌}
use native.Mathlib.Omega.{arith}
use lib.ListN.{length, get_or, take, drop, length-append, length-take, length-drop, take-append-drop}
use lib.Seq.{take_at, drop_at}
use Rattle.payload.specs.Law.{Octets}
use Rattle.payload.proofs.Tests.{both_left, both_right}
use Rattle.octets.proofs.Parts.{drop-octets, part_octets}
use Rattle.lsp.specs.Sound.{Sound}
use Rattle.lsp.specs.declared.path.Lsp.{Lsp}
use Rattle.field.specs.Field.{field_of, path_of, is_field, ttsi_in}
use Rattle.field.specs.Law.{Typed}
use Rattle.field.proofs.Law.{field_law}
use Rattle.table.specs.Steps.{nowhere}
use Rattle.image.specs.Image.{fields_of, absent, are_fields, paths_of}
use Rattle.image.proofs.Octets.{field_octets, ttsi_first, ttsi_read}

-- each path obeys its rules, its numbers are ones that the code's types hold, and its TTSI is none of those seen
abbrev pub Good : List (List ℕ) → List Lsp → Type 0
Good seen [] = Unit {0}
Good seen (l ∷ ls) = Sound l × Typed l × (absent l.ttsi seen ≡ true) × Good (seen ++ (l.ttsi ∷ [])) ls

pub length-paths : (n : ℕ) (s : List ℕ) → length (paths_of n s) ≡ n
unfolding paths_of
length-paths zero s = refl
length-paths (suc n) s = ap suc (length-paths n (drop 79 s))

nothing : (s : List ℕ) → length s ≡ 0 → [] ≡ s
nothing [] h = refl
nothing (x ∷ s) h = absurd (omega arith)

pub length_fields : (ls : List Lsp) → ((i : ℕ) → i < length ls → Sound (get_or ls i nowhere)) → length (fields_of ls) ≡ 79 * length ls
unfolding fields_of
length_fields [] h = refl
length_fields (l ∷ ls) h =
    length-append (field_of l) (fields_of ls)
    ∙ omega (arith, field_law.size l (h 0 (omega arith)), length_fields ls (λ i k. h (suc i) (omega arith)))

pub fields_back : (n : ℕ) (seen : List (List ℕ)) (s : List ℕ) → length s ≡ 79 * n → Octets s → are_fields seen n s ≡ true
    → (fields_of (paths_of n s) ≡ s) × Good seen (paths_of n s)
unfolding are_fields fields_of paths_of
fields_back zero seen s h o e = (nothing s (omega arith), tt)
fields_back (suc n) seen s h o e =
    let f = take 79 s in
    let a = both_left (is_field f) _ e in
    let b = both_right (is_field f) _ e in
    let w : length f ≡ 79 = simp length-take (omega arith) in
    let k : (path_of f).ttsi ≡ ttsi_in s = ttsi_read f w ∙ ttsi_first s in
    let l = (field_law.law f (path_of f) (part_octets s 0 79 o)).0 (a, refl) in
    let r = fields_back n (seen ++ (ttsi_in s ∷ [])) (drop 79 s) (simp length-drop (omega arith)) (drop-octets s o 79) (both_right (absent (ttsi_in s) seen) _ b) in (
      ap₂ (λ (x y : List ℕ). x ++ y) (sym l.2) r.0 ∙ take-append-drop 79 s,
      (l.0, l.1, rw k (both_left (absent (ttsi_in s) seen) _ b), rw k r.1),
    )

pub fields_forth : (ls : List Lsp) (seen : List (List ℕ)) → Good seen ls
    → (are_fields seen (length ls) (fields_of ls) ≡ true) × (paths_of (length ls) (fields_of ls) ≡ ls)
unfolding are_fields fields_of paths_of
fields_forth [] seen g = (refl, refl)
fields_forth (l ∷ ls) seen g =
    let n : length (field_of l) ≡ 79 = field_law.size l g.0 in
    let f = (field_law.law (field_of l) l (field_octets l g.0 g.1)).1 (g.0, g.1, refl) in
    let t : take 79 (field_of l ++ fields_of ls) ≡ field_of l = take_at (field_of l) (fields_of ls) 79 n in
    let d : drop 79 (field_of l ++ fields_of ls) ≡ fields_of ls = drop_at (field_of l) (fields_of ls) 79 n in
    let k : ttsi_in (field_of l ++ fields_of ls) ≡ l.ttsi =
    sym (ttsi_first (field_of l ++ fields_of ls)) ∙ ap ttsi_in t ∙ sym (ttsi_read (field_of l) n) ∙ ap (λ (m : Lsp). m.ttsi) f.1 in
    let ih = fields_forth ls (seen ++ (l.ttsi ∷ [])) g.3 in
    (rw (k, t, d, f.0, g.2) ih.0, rw (t, d, ih.1) (ap (λ (m : Lsp). m ∷ ls) f.1))
