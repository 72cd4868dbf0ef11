-- What a whole field is, and that octets behind a field that is not cut change nothing of it. Assumes nothing.
use mathlib.Core.Path.{◌≡◌, refl, sym, ap, ◌∙◌}
use mathlib.Core.Bool.{Bool, true, false}
use mathlib.Core.List.{List, [], ◌∷◌, ◌++◌}
use Prim.Native.Nat.{ℕ, ◌+◌, ◌*◌, ◌≤◌}
use native.Mathlib.Omega.{arith}
use lib.Dec.{eqb, leb}
use lib.ListN.{length, get_or, take, drop, length-take, length-append, length-drop, get_or-append}
use lib.Seq.{take-append-le, drop-append-le, get_or-take}
use borrow.Author.Tests.{leb-true, le-leb, eqb-true}
use Rattle.payload.specs.Test.{pick, both}
use Rattle.payload.proofs.Tests.{never, both_left, both_right}
use Rattle.octets.specs.Number.{number_from}
use Rattle.octets.specs.Parts.{part, number_at, octet_at}
use Rattle.events.specs.Framing.{fits, size_in, signal_fits, frame_by, frame_of, Enough}
use Rattle.events.specs.Field.{Cut, Bad, Whole}

-- ---- tags and lengths

-- a field's length, of its two octets
pub two_octets : (s : List ℕ) → 3 ≤ length s → number_at s 1 2 ≡ get_or s 1 0 * 256 + get_or s 2 0
unfolding number_from
two_octets (a ∷ b ∷ c ∷ s) h = omega arith
two_octets (a ∷ b ∷ []) h = absurd (omega (arith, h))
two_octets (a ∷ []) h = absurd (omega (arith, h))
two_octets [] h = absurd (omega (arith, h))

pub data Fits : ℕ → ℕ → Type 0 where
  add : Fits 0x11 25
  packet : {n : ℕ} → 1 ≤ n → n ≤ 1024 → Fits 0x12 n
  close : Fits 0x13 1
  server : Fits 0x14 2

pub fits_which : (tag n : ℕ) → fits tag n ≡ true → Fits tag n
fits_which tag n = go (eqb tag 0x11) (eqb tag 0x12) (eqb tag 0x13) (eqb tag 0x14) refl refl refl refl
  where
    go : (a b c d : Bool) → eqb tag 0x11 ≡ a → eqb tag 0x12 ≡ b → eqb tag 0x13 ≡ c → eqb tag 0x14 ≡ d
        → pick a (eqb n 25) (pick b (both (leb 1 n) (leb n 1024)) (pick c (eqb n 1) (pick d (eqb n 2) false))) ≡ true → Fits tag n
    go true b c d p q r s e = rw (eqb-true tag 0x11 p, eqb-true n 25 e) add
    go false true c d p q r s e =
        rw (eqb-true tag 0x12 q)
        (packet (leb-true 1 n (both_left (leb 1 n) (leb n 1024) e)) (leb-true n 1024 (both_right (leb 1 n) (leb n 1024) e)))
    go false false true d p q r s e = rw (eqb-true tag 0x13 r, eqb-true n 1 e) close
    go false false false true p q r s e = rw (eqb-true tag 0x14 s, eqb-true n 2 e) server
    go false false false false p q r s e = absurd (never (cc))

pub fits_least : {tag n : ℕ} → Fits tag n → 1 ≤ n
fits_least add = omega arith
fits_least (packet l m) = l
fits_least close = omega arith
fits_least server = omega arith

-- ---- a whole field

pub record IsWhole (s : List ℕ) (n : ℕ) : Type 0 where
  pub fitting : fits (octet_at s 0) (number_at s 1 2) ≡ true
  pub signal : signal_fits s ≡ true
  pub size : n ≡ size_in s
  pub within : n ≤ length s
  pub least : 4 ≤ n

pub is_whole : (s : List ℕ) (n : ℕ) → frame_of s ≡ Whole n → IsWhole s n
unfolding frame_of
is_whole s n = go (leb 3 (length s)) (fits (octet_at s 0) (number_at s 1 2)) (leb (size_in s) (length s)) (signal_fits s) refl refl refl
  where
    go : (h f w g : Bool) → fits (octet_at s 0) (number_at s 1 2) ≡ f → leb (size_in s) (length s) ≡ w → signal_fits s ≡ g
        → frame_by h f w g (size_in s) ≡ Whole n → IsWhole s n
    go false f w g p q r e = absurd (never (cc))
    go true false w g p q r e = absurd (never (cc))
    go true true false g p q r e = absurd (never (cc))
    go true true true false p q r e = absurd (never (cc))
    go true true true true p q r e =
        let m : n ≡ size_in s = cc in
        let l : 1 ≤ number_at s 1 2 = fits_least (fits_which (octet_at s 0) (number_at s 1 2) p) in
        record { fitting = p; signal = r; size = m; within = omega (arith, leb-true (size_in s) (length s) q); least = omega arith }

-- ---- octets behind

pub part_append : (s x : List ℕ) (a w : ℕ) → a + w ≤ length s → part (s ++ x) a w ≡ part s a w
part_append s x a w h =
    let l : a ≤ length s = omega arith in
    let m : w ≤ length (drop a s) = simp length-drop (omega arith) in
    rw (drop-append-le a s x l) (take-append-le w (drop a s) x m)

signal_append : (s x : List ℕ) → 3 ≤ length s → fits (octet_at s 0) (number_at s 1 2) ≡ true → size_in s ≤ length s
    → signal_fits (s ++ x) ≡ signal_fits s
signal_append s x h f l = go (eqb (octet_at s 0) 0x14) refl
  where
    go : (b : Bool) → eqb (octet_at s 0) 0x14 ≡ b → signal_fits (s ++ x) ≡ signal_fits s
    go true e =
        let m : number_at s 1 2 ≡ 2 = eqb-true (number_at s 1 2) 2 (rw (eqb-true (octet_at s 0) 0x14 e) at f) in
        rw (get_or-append s x 0 0 (omega arith), get_or-append s x 0 4 (omega arith))
    go false e = rw (get_or-append s x 0 0 (omega arith), e)

fits_append : (s x : List ℕ) → 3 ≤ length s → fits (octet_at (s ++ x) 0) (number_at (s ++ x) 1 2) ≡ fits (octet_at s 0) (number_at s 1 2)
fits_append s x h = rw (get_or-append s x 0 0 (omega arith), part_append s x 1 2 h)

size_append : (s x : List ℕ) → 3 ≤ length s → size_in (s ++ x) ≡ size_in s
size_append s x h = rw (part_append s x 1 2 h)

within_append : (s x : List ℕ) (n : ℕ) → n ≤ length s → leb n (length (s ++ x)) ≡ true
within_append s x n h = le-leb n (length (s ++ x)) (omega (arith, length-append s x))

-- a field that is whole or bad stays so
pub frame_append : (s x : List ℕ) → (frame_of s ≡ Cut → ⊥) → frame_of (s ++ x) ≡ frame_of s
unfolding frame_of
frame_append s x = go (leb 3 (length s)) (fits (octet_at s 0) (number_at s 1 2)) (leb (size_in s) (length s)) refl refl refl
  where
    go : (h f w : Bool) → leb 3 (length s) ≡ h → fits (octet_at s 0) (number_at s 1 2) ≡ f → leb (size_in s) (length s) ≡ w
        → (frame_by h f w (signal_fits s) (size_in s) ≡ Cut → ⊥) → frame_of (s ++ x) ≡ frame_by h f w (signal_fits s) (size_in s)
    go false f w p q r c = absurd (c refl)
    go true false w p q r c =
        let h : 3 ≤ length s = leb-true 3 (length s) p in
        let a = within_append s x 3 h in
        let b = fits_append s x h ∙ q in
        λ i. frame_by (a i) (b i) (leb (size_in (s ++ x)) (length (s ++ x))) (signal_fits (s ++ x)) (size_in (s ++ x))
    go true true false p q r c = absurd (c refl)
    go true true true p q r c =
        let h : 3 ≤ length s = leb-true 3 (length s) p in
        let l : size_in s ≤ length s = leb-true (size_in s) (length s) r in
        let a = within_append s x 3 h in
        let b = fits_append s x h ∙ q in
        let z = size_append s x h in
        let d = ap (λ (n : ℕ). leb n (length (s ++ x))) z ∙ within_append s x (size_in s) l in
        let g = signal_append s x h q l in
        λ i. frame_by (a i) (b i) (d i) (g i) (z i)

pub whole_append : (s x : List ℕ) (n : ℕ) → frame_of s ≡ Whole n → frame_of (s ++ x) ≡ Whole n
whole_append s x n e = frame_append s x (λ c. never (cc)) ∙ e

pub bad_append : (s x : List ℕ) → frame_of s ≡ Bad → frame_of (s ++ x) ≡ Bad
bad_append s x e = frame_append s x (λ c. never (cc)) ∙ e

-- ---- sizes by the tag

size_by : (tag k : ℕ) → Fits tag k → (tag ≡ 0x11 → k ≡ 25) × ((tag ≡ 0x11 → ⊥) → (tag ≡ 0x12 → ⊥) → (tag ≡ 0x13 → ⊥) → k ≡ 2)
size_by _ _ add = (λ e. refl, λ a b c. absurd (a refl))
size_by _ k (packet h l) = (λ (e : ◌≡◌ {A = ℕ} 0x12 0x11). absurd (omega (arith, e)), λ a b c. absurd (b refl))
size_by _ _ close = (λ (e : ◌≡◌ {A = ℕ} 0x13 0x11). absurd (omega (arith, e)), λ a b c. absurd (c refl))
size_by _ _ server = (λ (e : ◌≡◌ {A = ℕ} 0x14 0x11). absurd (omega (arith, e)), λ a b c. refl)

-- the octets that the code reads of a whole field
pub enough : (s : List ℕ) (n : ℕ) → frame_of s ≡ Whole n → Enough (take n s)
enough s n e =
    let w = is_whole s n e in
    let long : length (take n s) ≡ n = simp length-take (omega (arith, w.within)) in
    let tag : octet_at (take n s) 0 ≡ octet_at s 0 = get_or-take n s 0 0 (omega (arith, w.least)) in
    let by = size_by (octet_at s 0) (number_at s 1 2) (fits_which (octet_at s 0) (number_at s 1 2) w.fitting) in
    record {
      least = omega (arith, long, w.least);
      add = λ t. omega (arith, long, w.size, by.0 (sym tag ∙ t));
      server = λ a b c. omega (arith, long, w.size, by.1 (λ t. a (tag ∙ t)) (λ t. b (tag ∙ t)) (λ t. c (tag ∙ t)));
    }
