-- Parts that are laid one after the other, and cut again. Assumes nothing.
use mathlib.Core.Path.{◌≡◌, refl, sym, ap, ◌∙◌}
use mathlib.Core.List.{List, [], ◌∷◌, ◌++◌, map, append_assoc, append-nil}
use Prim.Native.Nat.{ℕ, suc, ◌+◌, ◌≤◌, ◌<◌, ◌^◌}
use native.Mathlib.Omega.{arith}
use native.Mathlib.Nat.{add-zero}
use mathlib.Core.Bool.{Bool, true, false}
use lib.Dec.{leb}
use lib.ListN.{length, get_or, take, drop, length-append, length-take, length-drop, take-append-drop, drop_of_length-le, get_or-eq_default}
use lib.Seq.{take_at, drop_at, drop-drop, drop-append-add, get_or-take, get_or-drop}
use borrow.Author.Tests.{leb-true, leb-false}
use borrow.Rule.Slice.PartMut.{mid_of, put_mid}
use Rattle.payload.specs.Law.{Octets}
use Rattle.octets.specs.Number.{octets, read_of}
use Rattle.octets.specs.Parts.{joined, part, number_at, octet_at, cut_from, total, laid}
use Rattle.octets.proofs.Laws.{length-octets, octets_number, number_lt, read_few}

cut : List ℕ → List ℕ → List (List ℕ)
cut [] s = []
cut (w ∷ ws) s = take w s ∷ cut ws (drop w s)

cut_from_lem : (ws s : List ℕ) (a : ℕ) → cut ws (drop a s) ≡ cut_from a ws s
unfolding cut
cut_from_lem [] s a = refl
cut_from_lem (w ∷ ws) s a = ap (λ (l : List (List ℕ)). take w (drop a s) ∷ l) (ap (cut ws) (drop-drop w a s) ∙ cut_from_lem ws s (a + w))

joined_cut : (ws s : List ℕ) → length s ≡ total ws → joined (cut ws s) ≡ s
unfolding cut
joined_cut [] [] h = refl
joined_cut [] (x ∷ s) h = absurd (omega arith)
joined_cut (w ∷ ws) s h = rw (joined_cut ws (drop w s) (simp length-drop (omega arith))) (take-append-drop w s)

cut_joined : (ps : List (List ℕ)) → cut (map length ps) (joined ps) ≡ ps
unfolding cut
cut_joined [] = refl
cut_joined (p ∷ ps) = rw (take_at p (joined ps) (length p) refl, drop_at p (joined ps) (length p) refl, cut_joined ps)

-- octets are their parts, and parts are cut as they were joined
pub joined_parts : (ws s : List ℕ) → length s ≡ total ws → joined (cut_from 0 ws s) ≡ s
joined_parts ws s h = ap joined (sym (cut_from_lem ws s 0)) ∙ joined_cut ws s h

pub parts_joined : (ps : List (List ℕ)) → cut_from 0 (map length ps) (joined ps) ≡ ps
parts_joined ps = sym (cut_from_lem (map length ps) (joined ps) 0) ∙ cut_joined ps

pub length-joined : (ps : List (List ℕ)) → length (joined ps) ≡ total (map length ps)
length-joined [] = refl
length-joined (p ∷ ps) = length-append p (joined ps) ∙ ap (λ (n : ℕ). length p + n) (length-joined ps)

-- ---- laying

-- t is s with parts laid one after the other from place a on
pub data Lays : List ℕ → ℕ → List (List ℕ) → List ℕ → Type 0 where
  done : {s : List ℕ} {a : ℕ} → Lays s a [] s
  next : {s s' t : List ℕ} {ps : List (List ℕ)} (a b : ℕ) (p : List ℕ) → s' ≡ laid s a p → b ≡ a + length p → Lays s' b ps t → Lays s a (p ∷ ps) t

pub length-laid : (s : List ℕ) (a : ℕ) (p : List ℕ) → a + length p ≤ length s → length (laid s a p) ≡ length s
length-laid s a p h = simp (length-append, length-take, length-drop) (omega arith)

pub take-laid : (s : List ℕ) (a : ℕ) (p : List ℕ) → a + length p ≤ length s → take (a + length p) (laid s a p) ≡ take a s ++ p
take-laid s a p h =
    rw (← append_assoc)
    (take_at (take a s ++ p) (drop (a + length p) s) (a + length p) (simp (length-append, length-take) (omega arith)))

pub drop-laid : (s : List ℕ) (a : ℕ) (p : List ℕ) (k : ℕ) → a + length p ≤ length s → drop (a + length p + k) (laid s a p) ≡ drop (a + length p + k) s
drop-laid s a p k h =
    let n : length (take a s ++ p) ≡ a + length p = simp (length-append, length-take) (omega arith) in
    ap (drop (a + length p + k)) (sym (append_assoc (take a s) p (drop (a + length p) s)))
    ∙ ap (λ (m : ℕ). drop (m + k) ((take a s ++ p) ++ drop (a + length p) s)) (sym n)
    ∙ drop-append-add (take a s ++ p) (drop (a + length p) s) k
    ∙ drop-drop k (a + length p) s

-- the parts one after the other, and the octets before and behind them as they were
pub lays_over : {s t : List ℕ} {a : ℕ} {ps : List (List ℕ)} → Lays s a ps t → a + total (map length ps) ≤ length s
    → t ≡ take a s ++ (joined ps ++ drop (a + total (map length ps)) s)
lays_over (done {s = s} {a = a}) h = rw add-zero (sym (take-append-drop a s))
lays_over (next {s = s} {ps = ps} a b p e q r) h =
    let n : a + length p ≤ length s = omega arith in
    let k = total (map length ps) in
    let m : a + (length p + k) ≡ a + length p + k = omega arith in
    lays_over r (rw (e, q, length-laid s a p n) (omega arith)) ∙ rw (e, q, take-laid s a p n, drop-laid s a p k n, m, append_assoc, append_assoc)

pub lays_all : {s t : List ℕ} {a : ℕ} {ps : List (List ℕ)} → Lays s a ps t → length s ≡ a + total (map length ps) → t ≡ take a s ++ joined ps
lays_all {s = s} {a = a} {ps = ps} l h =
    lays_over l (omega arith) ∙ ap (λ (x : List ℕ). take a s ++ (joined ps ++ x)) (drop_of_length-le s {i = a + total (map length ps)} (omega arith))
    ∙ ap (λ (x : List ℕ). take a s ++ x) (append-nil (joined ps))

-- a part that was lent and came back as m
pub put_laid : (s m : List ℕ) (a k : ℕ) → k ≡ length m → put_mid a k s m ≡ laid s a m
put_laid s m a k e = rw (e, drop-drop)

-- ---- one part by its place

module _ (s : List ℕ) (a w : ℕ) where
  pub length_part : a + w ≤ length s → length (part s a w) ≡ w
  length_part h = simp (length-take, length-drop) (omega arith)

  pub part_octets : Octets s → Octets (part s a w)
  part_octets o i = go (leb (suc i) w) refl
    where
      go : (t : Bool) → leb (suc i) w ≡ t → get_or (part s a w) i 0 < 256
      go true e = rw (get_or-take w (drop a s) i 0 (leb-true (suc i) w e), get_or-drop) (o (a + i))
      go false e =
          let h : length (part s a w) ≤ i = omega (arith, leb-false (suc i) w e, length-take w (drop a s)) in
          rw (get_or-eq_default (part s a w) 0 h) (omega arith)

  pub number_part_lt : a + w ≤ length s → Octets s → number_at s a w < 256 ^ w
  number_part_lt h o = rw (length_part h) at (number_lt (part s a w) (part_octets o))

  pub number_part : a + w ≤ length s → Octets s → octets w (number_at s a w) ≡ part s a w
  number_part h o = ap (λ (m : ℕ). octets m (number_at s a w)) (sym (length_part h)) ∙ octets_number (part s a w) (part_octets o)

pub drop-octets : (s : List ℕ) → Octets s → (a : ℕ) → Octets (drop a s)
drop-octets s o a i = rw get_or-drop (o (a + i))

pub one_octet : (s : List ℕ) (a : ℕ) → get_or (part s a 1) 0 0 ≡ octet_at s a
one_octet s a = rw (get_or-take 1 (drop a s) 0 0 (omega arith), get_or-drop, add-zero)

-- one octet is a part of one
pub octet_part : (s : List ℕ) (a : ℕ) → a + 1 ≤ length s → octet_at s a ∷ [] ≡ part s a 1
octet_part s a h = go (part s a 1) (length_part s a 1 h) (sym (one_octet s a))
  where
    go : (l : List ℕ) → length l ≡ 1 → octet_at s a ≡ get_or l 0 0 → octet_at s a ∷ [] ≡ l
    go [] n e = absurd (omega arith)
    go (x ∷ []) n e = ap (λ (y : ℕ). y ∷ []) e
    go (x ∷ y ∷ l) n e = absurd (omega arith)
