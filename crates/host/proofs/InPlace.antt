-- An image changed where it stands is the image of the changed table. Assumes nothing.
use mathlib.Core.Path.{◌≡◌, refl, sym, ap, ◌∙◌}
use mathlib.Core.Bool.{Bool, true}
use mathlib.Core.List.{List, [], ◌∷◌, ◌++◌, append_assoc}
use Prim.Native.Nat.{ℕ, zero, suc, ◌+◌, ◌*◌, ◌-◌, ◌≤◌, ◌<◌}
use native.Mathlib.Nat.{add_assoc}
use native.Mathlib.Omega.{arith}
use lib.Dec.{leb}
use lib.ListN.{length, get_or, take, drop, set, replicate, length-take, length-drop, take-append-drop}
use lib.Seq.{take-append-le, drop-append-le, take-append-add, drop-append-add, drop_at, drop-drop, take-set-lt, length-take-le, get_or-take, take-take}
use borrow.Author.Tests.{le-leb}
use borrow.Rule.Slice.PartMut.{mid_of, put_mid}
use Rattle.payload.specs.Law.{Octets}
use Rattle.octets.specs.Parts.{laid}
use Rattle.octets.proofs.Parts.{put_laid, part_octets}
use Rattle.lsp.specs.declared.path.Lsp.{Lsp}
use Rattle.field.specs.Field.{field_of, path_of, write_of}
use Rattle.field.proofs.Law.{field_law}
use Rattle.table.specs.Steps.{nowhere, blank, present, path_at, put}
use Rattle.table.specs.Lawful.{Lawful}
use Rattle.table.specs.declared.paths.Table.{Table}
use Rattle.image.specs.Image.{fields_of, octets_of, image_length, length_of, save_by, is_image, image_in, count_in, paths_of, table_of, restored}
use Rattle.image.specs.Law.{Typed}
use Rattle.image.specs.Outcomes.{Restored}
use Rattle.image.proofs.Law.{image_law, all_present}
use Rattle.image.proofs.Octets.{drop-take}
use Rattle.image.proofs.Answers.{whole}
use Rattle.image.proofs.Prefix.{begun}
use Rattle.image.proofs.Turns.{cell}
use Rattle.host.specs.Calls.{held_in, table_in, saved_in}

-- ---- laid past a first part, and within one

laid_past : (p q m : List ℕ) (a : ℕ) → laid (p ++ q) (length p + a) m ≡ p ++ laid q a m
laid_past p q m a = rw (take-append-add p q a, add_assoc, drop-append-add p q (a + length m), append_assoc)

laid_within : (q r m : List ℕ) (a : ℕ) → a + length m ≤ length q → laid (q ++ r) a m ≡ laid q a m ++ r
laid_within q r m a h = rw (take-append-le a q r (omega arith), drop-append-le (a + length m) q r h, append_assoc, append_assoc)

-- ---- one field of many

Long : List Lsp → Type 0
Long ls = (j : ℕ) → j < length ls → length (field_of (get_or ls j nowhere)) ≡ 79

fields_set : (ls : List Lsp) (i : ℕ) (l : Lsp) → Long ls → i < length ls → length (field_of l) ≡ 79
    → fields_of (set ls i l) ≡ laid (fields_of ls) (79 * i) (field_of l)
unfolding fields_of Long
fields_set [] i l w h n = absurd (omega arith)
fields_set (x ∷ ls) zero l w h n = rw (n, drop_at (field_of x) (fields_of ls) 79 (w 0 (omega arith)))
fields_set (x ∷ ls) (suc i) l w h n =
    let e : 79 * suc i ≡ length (field_of x) + 79 * i = omega (arith, w 0 (omega arith)) in
    rw (e, laid_past (field_of x) (fields_of ls) (field_of l) (79 * i), fields_set ls i l (λ j k. w (suc j) (omega arith)) (omega arith) n)

path_at_lem : (n : ℕ) (s : List ℕ) (i : ℕ) (rest : List Lsp) → i < n → get_or (paths_of n s ++ rest) i nowhere ≡ path_of (take 79 (drop (79 * i) s))
unfolding paths_of
path_at_lem zero s i rest h = absurd (omega arith)
path_at_lem (suc n) s zero rest h = refl
path_at_lem (suc n) s (suc i) rest h =
    let e : 79 + 79 * i ≡ 79 * suc i = omega arith in
    path_at_lem n (drop 79 s) i rest (omega arith) ∙ ap (λ (l : List ℕ). path_of (take 79 l)) (drop-drop (79 * i) 79 s ∙ ap (λ (a : ℕ). drop a s) e)

part_of_prefix : (s : List ℕ) (a w k : ℕ) → a + w ≤ k → take w (drop a (take k s)) ≡ take w (drop a s)
part_of_prefix s a w k h =
    let e : a + (k - a) ≡ k = omega arith in
    ap (λ (m : ℕ). take w (drop a (take m s))) (sym e) ∙ ap (take w) (drop-take a (k - a) s) ∙ take-take w (k - a) (drop a s) (omega arith)

-- ---- an image in its buffer

module _ (s : List ℕ) (y : is_image (image_in s) ≡ true) where
  abbrev t : Table
  t = table_of (image_in s)

  pub held_is : held_in s ≡ restored t
  held_is = rw y

  pub table_is : table_in s ≡ t
  table_is = ap (λ (r : Restored). r.table) held_is

  fits : image_length (count_in s) ≤ length s
  fits = (begun s y).0

  count_is : t.count ≡ count_in s
  count_is = get_or-take (image_length (count_in s)) s 4 0 (omega arith)

  present_is : present t ≡ count_in s
  present_is = all_present t (omega (arith, count_is, (begun s y).1)) ∙ count_is

  pub present_in : present (table_in s) ≡ count_in s
  present_in = ap present table_is ∙ present_is

  pub count_in_lem : (table_in s).count ≡ count_in s
  count_in_lem = ap (λ (u : Table). u.count) table_is ∙ count_is

  image_long : length (image_in s) ≡ image_length (count_in s)
  image_long = length-take-le (image_length (count_in s)) s fits

  -- a table with as many paths, saved over it
  saved_over : (u : Table) → present u ≡ count_in s → saved_in u s ≡ octets_of u ++ drop (image_length (count_in s)) s
  saved_over u p =
      let e : length_of u ≡ image_length (count_in s) = ap image_length p in
      let f : leb (length_of u) (length s) ≡ true = le-leb (length_of u) (length s) (omega (arith, fits)) in
      ap (λ (b : Bool). (save_by b u s).1) f ∙ ap (λ (k : ℕ). octets_of u ++ drop k s) e

  -- the path that lies in field i
  pub path_in_place : (i : ℕ) → i < count_in s → path_of (take (5 + 79 * i + 79 - (5 + 79 * i)) (drop (5 + 79 * i) s)) ≡ path_at (table_in s) i
  path_in_place i h =
      let k = image_length (count_in s) in
      ap (λ (w : ℕ). path_of (take w (drop (5 + 79 * i) s))) (cell (5 + 79 * i))
      ∙ ap path_of (sym (part_of_prefix s (5 + 79 * i) 79 k (omega arith)))
      ∙ ap (λ (x : List ℕ). path_of (take 79 x)) (sym (drop-drop (79 * i) 5 (image_in s)))
      ∙ sym (path_at_lem t.count (drop 5 (image_in s)) i (replicate (64 - t.count) blank) (omega (arith, count_is)))
      ∙ ap (λ (u : Table). path_at u i) (sym table_is)

  module _ (o : Octets s) where
    pub lawful : Lawful t × Typed t × (image_in s ≡ octets_of t)
    lawful = (image_law.law (image_in s) t (part_octets s 0 (image_length (count_in s)) o)).0 (rw y)

    used_long : length (take (present t) t.lsps) ≡ count_in s
    used_long = length-take-le (present t) t.lsps (omega (arith, present_is, (begun s y).1, lawful.0.places)) ∙ present_is

    long : Long (take (present t) t.lsps)
    unfolding Long
    long j h =
        let k : j < present t = omega (arith, used_long, present_is) in
        ap (λ (l : Lsp). length (field_of l)) (get_or-take (present t) t.lsps j nowhere k)
        ∙ field_law.size (path_at t j) (lawful.0.sound j (omega (arith, present_is, count_is)))

    -- one field of the image changed
    changed : (i : ℕ) (l : Lsp) → i < count_in s → length (field_of l) ≡ 79 → laid (image_in s) (5 + 79 * i) (field_of l) ≡ octets_of (put t i l)
    unfolding octets_of
    changed i l h v =
        let hd : List ℕ = 0x01 ∷ 0 ∷ 2 ∷ 0x01 ∷ present t ∷ [] in
        ap (λ (x : List ℕ). laid x (5 + 79 * i) (field_of l)) lawful.2
        ∙ laid_past hd (fields_of (take (present t) t.lsps)) (field_of l) (79 * i)
        ∙ ap (λ (x : List ℕ). hd ++ x) (sym (fields_set (take (present t) t.lsps) i l long (omega (arith, used_long)) v)
        ∙ ap fields_of (sym (take-set-lt (present t) t.lsps i l (omega (arith, present_is)))))

    -- what a refusal leaves
    pub unchanged : saved_in (table_in s) s ≡ s
    unchanged =
        ap (λ (u : Table). saved_in u s) table_is ∙ saved_over t present_is
        ∙ ap (λ (x : List ℕ). x ++ drop (image_length (count_in s)) s) (sym lawful.2) ∙ take-append-drop (image_length (count_in s)) s

    pub put_in_place : (i r : ℕ) (l : Lsp) (m : List ℕ) → i < count_in s
        → (r, m) ≡ write_of l (mid_of (5 + 79 * i) (5 + 79 * i + 79 - (5 + 79 * i)) s)
        → length m ≡ length (mid_of (5 + 79 * i) (5 + 79 * i + 79 - (5 + 79 * i)) s)
        → put_mid (5 + 79 * i) (5 + 79 * i + 79 - (5 + 79 * i)) s m ≡ saved_in (put (table_in s) i l) s
    put_in_place i r l m h e n =
        let a = 5 + 79 * i in
        let k = image_length (count_in s) in
        let w : length (mid_of a (a + 79 - a) s) ≡ 79 = simp (cell, length-take, length-drop) (omega (arith, fits)) in
        let f : m ≡ field_of l = whole l (mid_of a (a + 79 - a) s) m r w e in
        let v : length (field_of l) ≡ 79 = ap length (sym f) ∙ n ∙ w in
        ap (λ (x : List ℕ). put_mid a (a + 79 - a) s x) f
        ∙ put_laid s (field_of l) a (a + 79 - a) (cell a ∙ sym v)
        ∙ ap (λ (x : List ℕ). laid x a (field_of l)) (sym (take-append-drop k s))
        ∙ laid_within (image_in s) (drop k s) (field_of l) a (omega (arith, image_long))
        ∙ ap (λ (x : List ℕ). x ++ drop k s) (changed i l h v)
        ∙ sym (saved_over (put t i l) present_is)
        ∙ ap (λ (u : Table). saved_in (put u i l) s) (sym table_is)
