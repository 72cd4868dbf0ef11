-- One turn of the loop that writes fields, its start and its end, over plain lists. Assumes nothing.
use mathlib.Core.Path.{◌≡◌, refl, ap, ◌∙◌}
use mathlib.Core.Bool.{Bool, true, false}
use mathlib.Core.List.{List, [], ◌∷◌, ◌++◌, append_assoc, append-nil}
use Prim.Native.Nat.{ℕ, ◌+◌, ◌-◌, ◌≤◌, ◌<◌}
use native.Mathlib.Numerals.{add-one}
use native.Mathlib.Omega.{arith}
use lib.Dec.{ltb}
use lib.ListN.{length, get_or, take, drop, length-append, length-drop, drop_of_length-le}
use lib.Seq.{drop-drop, take_all, length-take-le, take_at, drop_at, take-suc}
use borrow.Author.Tests.{le-leb, ltb-true}
use borrow.Rule.Slice.PartMut.{mid_of, put_mid}
use Rattle.payload.specs.Test.{pick}
use Rattle.octets.specs.Number.{over}
use Rattle.lsp.specs.declared.path.Lsp.{Lsp}
use Rattle.field.specs.Field.{field_of, write_of}
use Rattle.table.specs.Steps.{present}
use Rattle.table.specs.declared.paths.Table.{Table}
use Rattle.image.specs.Image.{head_of, fields_of, octets_of, image_length, length_of, save_of}

pub present_most : (t : Table) → present t ≤ 64
present_most t = go (ltb t.count 64) refl
  where
    go : (b : Bool) → ltb t.count 64 ≡ b → pick b t.count 64 ≤ 64
    go true e = omega (arith, ltb-true t.count 64 e)
    go false e = omega arith

-- what the code computes for a field's length
pub cell : (a : ℕ) → a + 79 - a ≡ 79
cell a = omega arith

pub fields_snoc : (ls : List Lsp) (l : Lsp) → fields_of (ls ++ (l ∷ [])) ≡ fields_of ls ++ field_of l
unfolding fields_of
fields_snoc [] l = append-nil (field_of l)
fields_snoc (x ∷ ls) l = rw (fields_snoc ls l, append_assoc)

-- the octets behind place a, lent and come back as m
put_tail : (x y m : List ℕ) (a k : ℕ) → length x ≡ a → length y ≤ k → put_mid a k (x ++ y) m ≡ x ++ m
put_tail x y m a k n h =
    let behind : drop k (drop a (x ++ y)) ≡ [] = rw (drop_at x y a n) (drop_of_length-le y {i = k} h) in
    rw (take_at x y a n, behind, append-nil) refl

-- b with a head over its first five octets, and behind it the fields of the first i paths
module _ (ls : List Lsp) (n : ℕ) (b : List ℕ) where
  abbrev before : ℕ → List ℕ
  before i = 0x01 ∷ 0 ∷ 2 ∷ 0x01 ∷ n ∷ fields_of (take i ls)

  abbrev pub written : ℕ → List ℕ
  written i = before i ++ drop (image_length i) b

  pub written_start : {s h : List ℕ} → h ≡ head_of n → 5 ≤ length b → s ≡ over h b → s ≡ written 0
  unfolding fields_of
  written_start {s = s} {h = h} e k q = q ∙ ap (λ (x : List ℕ). over x b) e ∙ ap (λ (x : List ℕ). x ++ drop 5 b) (take_all (length b) (0x01 ∷ 0 ∷ 2 ∷ 0x01 ∷ n ∷ []) k)

  module _ (i : ℕ) (h : image_length (i + 1) ≤ length b) {s : List ℕ} (same : length s ≡ length b) (inv : s ≡ written i) where
    abbrev a : ℕ
    a = image_length i

    rest : length (drop a b) ≡ length b - a
    rest = length-drop a b

    size : length (before i) ≡ a
    size = omega (arith, length-append (before i) (drop a b), rest, ap length inv)

    -- field i was lent, with what is behind it, and came back as m
    pub written_next : (d : Lsp) (m : List ℕ) → i < length ls → length m ≡ length (mid_of a (length s - a) s)
        → (0, m) ≡ write_of (get_or ls i d) (mid_of a (length s - a) s) → put_mid a (length s - a) s m ≡ written (i + 1)
    written_next d m k n e =
        let l = get_or ls i d in
        let y = drop a b in
        let z : drop (length (before i)) (written i) ≡ y = drop_at (before i) y (length (before i)) refl in
        let mid : mid_of a (length s - a) s ≡ y =
        ap (λ (x : List ℕ). take (length s - a) (drop a x)) inv ∙ ap (take (length s - a)) (drop_at (before i) y a size) ∙ take_all (length s - a) y (omega (arith, rest)) in
        let fits : write_of l y ≡ (0, field_of l ++ drop 79 y) = rw (le-leb 79 (length y) (omega (arith, rest))) in
        let f : m ≡ field_of l ++ drop 79 y = ap (λ (p : ℕ × List ℕ). p.1) (e ∙ ap (write_of l) mid ∙ fits) in
        let more : fields_of (take (i + 1) ls) ≡ fields_of (take i ls) ++ field_of l = rw (add-one, take-suc ls i d) (fields_snoc (take i ls) l) in
        let behind : drop 79 y ≡ drop (image_length (i + 1)) b = drop-drop 79 a b ∙ ap (λ (j : ℕ). drop j b) (omega arith) in
        ap (λ (x : List ℕ). put_mid a (length s - a) x m) inv
        ∙ put_tail (before i) y m a (length s - a) size (omega (arith, rest))
        ∙ ap (λ (x : List ℕ). before i ++ x) f
        ∙ rw (more, append_assoc, behind)

-- all fields written
pub written_end : (t : Table) (b m : List ℕ) (n i : ℕ) → n ≡ present t → length t.lsps ≡ 64 → length_of t ≤ length b → i ≡ length (take n t.lsps)
    → m ≡ written (take n t.lsps) n b i → (0, m) ≡ save_of t b
unfolding octets_of
written_end t b m n i p few h e q =
    let k : i ≡ n = e ∙ length-take-le n t.lsps (omega (arith, present_most t)) in
    let all : take i (take n t.lsps) ≡ take n t.lsps = take_all i (take n t.lsps) (omega arith) in
    rw (le-leb (length_of t) (length b) h, q, all, k, p)
