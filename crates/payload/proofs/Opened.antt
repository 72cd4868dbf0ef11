-- What an accepted payload has passed, and what passing it gives; which octets then stand where.
-- Assumes nothing.
use mathlib.Core.Path.{◌≡◌, refl, ap, ap₂, sym, ◌∙◌}
use mathlib.Core.Bool.{Bool, true, false}
use mathlib.Core.List.{List, [], ◌∷◌, ◌++◌}
use Prim.Native.Nat.{ℕ, suc, ◌+◌, ◌/◌, ◌%◌, ◌<◌}
use native.Mathlib.Numerals.{add-one, add-two, add-three, add-four}
use native.Mathlib.Omega.{arith}
use lib.Dec.{eqb}
use lib.ListN.{length, get_or, take, drop, replicate, take-append-drop, drop_of_length-le, length-drop}
use lib.Seq.{drop-cons, take-add, drop-drop, length-take-le}
use borrow.Author.Tests.{eqb-true}
use Rattle.payload.specs.Test.{pick, both, all_zero}
use Rattle.payload.specs.Layout.{Fields, body_of, bip, run, octets_of, long, is_type, valid}
use Rattle.payload.specs.Writing.{fields_of}
use Rattle.payload.specs.Reading.{Answer, refusal, shown, fields_at, word_at, long_at, clear, clear_from, bip_right, row_of, read_of, accepts}
use Rattle.payload.specs.Law.{Octets}
use Rattle.payload.proofs.Tests.{never, both_left, both_right}
use Rattle.payload.proofs.Rows.{by_type}
use Rattle.payload.proofs.Answers.{read_row}

-- the five tests
pub record Passed (p : List ℕ) : Type 0 where
  pub long : length p ≡ 44
  pub bip : bip_right p ≡ true
  pub type : is_type (get_or p 0 0) ≡ true
  pub clear : clear (fields_at p) p ≡ true
  pub valid : valid (fields_at p) ≡ true

module _ (p : List ℕ) where
  abbrev answer : Bool → Bool → Bool → Bool → Bool → Answer
  answer l b i k v = pick l (pick b (pick i (pick (both k v) (shown (fields_at p)) (refusal 5)) (refusal 4)) (refusal 3)) (refusal 2)

  pub passed : accepts p ≡ true → Passed p
  unfolding read_of
  passed h = go (eqb (length p) 44) (bip_right p) (is_type (get_or p 0 0)) (clear (fields_at p) p) (valid (fields_at p)) refl refl refl refl refl h
    where
      go : (l b i k v : Bool) → eqb (length p) 44 ≡ l → bip_right p ≡ b → is_type (get_or p 0 0) ≡ i → clear (fields_at p) p ≡ k → valid (fields_at p) ≡ v
          → eqb (answer l b i k v).number 0 ≡ true → Passed p
      go true true true true true e₁ e₂ e₃ e₄ e₅ t = record { long = eqb-true (length p) 44 e₁; bip = e₂; type = e₃; clear = e₄; valid = e₅ }
      go true true true true false e₁ e₂ e₃ e₄ e₅ t = absurd (never t)
      go true true true false v e₁ e₂ e₃ e₄ e₅ t = absurd (never t)
      go true true false k v e₁ e₂ e₃ e₄ e₅ t = absurd (never t)
      go true false i k v e₁ e₂ e₃ e₄ e₅ t = absurd (never t)
      go false b i k v e₁ e₂ e₃ e₄ e₅ t = absurd (never t)

  pub shown_by : Passed p → read_of p ≡ shown (fields_at p)
  shown_by q = sym (read_row p q.long q.bip) ∙ row
    where
      row : row_of p ≡ shown (fields_at p)
      row = rw (q.type, q.clear, q.valid)

-- ---- octets where they stand

pub zeros_are : (l : List ℕ) → all_zero l ≡ true → l ≡ replicate (length l) 0
zeros_are [] h = refl
zeros_are (x ∷ l) h =
    ap₂ (λ (y : ℕ) (m : List ℕ). y ∷ m) (eqb-true x 0 (both_left (eqb x 0) (all_zero l) h)) (zeros_are l (both_right (eqb x 0) (all_zero l) h))

joined : (ty a b c x y z : ℕ) (t u v : List ℕ) → a ≡ x → b ≡ y → c ≡ z → u ≡ v
    → (ty ∷ a ∷ b ∷ c ∷ []) ++ (t ++ u) ≡ (ty ∷ x ∷ y ∷ z ∷ []) ++ (t ++ v)
joined ty a b c x y z t u v e f g h = cc

module _ (p : List ℕ) (h : length p ≡ 44) where
  four_at : (i : ℕ) → i + 3 < 44 → drop i p ≡ get_or p i 0 ∷ get_or p (i + 1) 0 ∷ get_or p (i + 2) 0 ∷ get_or p (i + 3) 0 ∷ drop (i + 4) p
  four_at i k =
      rw (add-one, add-two, add-three, add-four)
      (drop-cons p i 0 (omega arith)
      ∙ ap (λ (l : List ℕ). get_or p i 0 ∷ l) (drop-cons p (suc i) 0 (omega arith)
      ∙ ap (λ (l : List ℕ). get_or p (suc i) 0 ∷ l) (drop-cons p (suc (suc i)) 0 (omega arith)
      ∙ ap (λ (l : List ℕ). get_or p (suc (suc i)) 0 ∷ l) (drop-cons p (suc (suc (suc i))) 0 (omega arith)))))

  -- the first 42, with what is taken for the type in front
  abbrev front : ℕ → List ℕ
  front ty = (ty ∷ get_or p 1 0 ∷ get_or p 2 0 ∷ get_or p 3 0 ∷ []) ++ (take 20 (drop 4 p) ++ take 18 (drop 24 p))

  front_is : take 42 p ≡ front (get_or p 0 0)
  front_is =
      take-add 4 38 p
      ∙ ap₂ ◌++◌ (ap (take 4) (four_at 0 (omega arith)))
      (take-add 20 18 (drop 4 p) ∙ ap (λ (l : List ℕ). take 20 (drop 4 p) ++ take 18 l) (drop-drop 20 4 p))

  last_is : bip_right p ≡ true → drop 42 p ≡ bip (take 42 p)
  last_is b =
      drop-cons p 42 0 (omega arith)
      ∙ ap₂ (λ (x : ℕ) (l : List ℕ). x ∷ l) (eqb-true _ _ (both_left (eqb (get_or p 42 0) (run 0 (take 42 p))) (eqb (get_or p 43 0) (run 0 (drop 1 (take 42 p)))) b))
      (drop-cons p 43 0 (omega arith)
      ∙ ap₂ (λ (x : ℕ) (l : List ℕ). x ∷ l) (eqb-true _ _ (both_right (eqb (get_or p 42 0) (run 0 (take 42 p))) (eqb (get_or p 43 0) (run 0 (drop 1 (take 42 p)))) b))
      (drop_of_length-le p {i = 44} (omega arith)))

  zeros_from : (n i : ℕ) → n + i ≡ 42 → all_zero (take n (drop i p)) ≡ true → take n (drop i p) ≡ replicate n 0
  zeros_from n i e z =
      zeros_are (take n (drop i p)) z ∙ ap (λ (k : ℕ). replicate k 0) (length-take-le n (drop i p) (simp length-drop (omega arith)))

  -- where the row's reserved octets are zero, the first 42 octets are the row of the fields found in them
  module _ (o : Octets p) where
    abbrev found : ℕ → Fields
    found ty = fields_of ty (take 20 (drop 4 p)) (get_or p 24 0) (word_at p) (long_at p)

    abbrev Row : ℕ → Type 0
    Row ty = clear (found ty) p ≡ true → front ty ≡ body_of (found ty)

    blank : (ty n i : ℕ) (u : List ℕ) → n + i ≡ 42 → both (eqb (word_at p) 0) (both (eqb (get_or p 1 0) 0) (all_zero (take n (drop i p)))) ≡ true
        → (take n (drop i p) ≡ replicate n 0 → take 18 (drop 24 p) ≡ u) → front ty ≡ (ty ∷ 0 ∷ 0 ∷ 0 ∷ []) ++ (take 20 (drop 4 p) ++ u)
    blank ty n i u e k g =
        let w : word_at p ≡ 0 = eqb-true _ _ (both_left (eqb (word_at p) 0) (both (eqb (get_or p 1 0) 0) (all_zero (take n (drop i p)))) k) in
        let c : both (eqb (get_or p 1 0) 0) (all_zero (take n (drop i p))) ≡ true = both_right (eqb (word_at p) 0) _ k in
        joined ty _ _ _ _ _ _ (take 20 (drop 4 p)) (take 18 (drop 24 p)) u (eqb-true _ _ (both_left (eqb (get_or p 1 0) 0) (all_zero (take n (drop i p))) c)) (omega arith) (omega arith)
        (g (zeros_from n i e (both_right (eqb (get_or p 1 0) 0) (all_zero (take n (drop i p))) c)))

    placed : (ty : ℕ) → clear_from p 28 ≡ true
        → front ty ≡ (ty ∷ 0 ∷ word_at p / 256 ∷ word_at p % 256 ∷ []) ++ (take 20 (drop 4 p) ++ (long (long_at p) ++ replicate 14 0))
    placed ty k =
        let a : get_or p 3 0 < 256 = o 3 in
        let b : get_or p 25 0 < 256 = o 25 in
        let c : get_or p 26 0 < 256 = o 26 in
        let d : get_or p 27 0 < 256 = o 27 in
        let e₀ : get_or p 24 0 ≡ long_at p / 16777216 = omega arith in
        let e₁ : get_or p 25 0 ≡ long_at p / 65536 % 256 = omega arith in
        let e₂ : get_or p 26 0 ≡ long_at p / 256 % 256 = omega arith in
        let e₃ : get_or p 27 0 ≡ long_at p % 256 = omega arith in
        let z : take 14 (drop 28 p) ≡ replicate 14 0 = zeros_from 14 28 refl (both_right (eqb (get_or p 1 0) 0) (all_zero (take 14 (drop 28 p))) k) in
        joined ty _ _ _ _ _ _ (take 20 (drop 4 p)) (take 18 (drop 24 p)) (long (long_at p) ++ replicate 14 0) (eqb-true _ _ (both_left (eqb (get_or p 1 0) 0) (all_zero (take 14 (drop 28 p))) k)) (omega arith) (omega arith)
        (ap (take 18) (four_at 24 (omega arith)) ∙ cc)

    rows : (ty : ℕ) → is_type ty ≡ true → Row ty
    rows =
        by_type Row (λ k. blank 1 18 24 (replicate 18 0) refl k (λ z. z)) (placed 2) (placed 3)
        (λ k. blank 7 17 25 (get_or p 24 0 ∷ replicate 17 0) refl k
        (λ z. ap (take 18) (drop-cons p 24 0 (omega arith)) ∙ ap (λ (l : List ℕ). get_or p 24 0 ∷ l) z))

    pub octets_are : Passed p → p ≡ octets_of (fields_at p)
    octets_are q =
        let b : take 42 p ≡ body_of (fields_at p) = front_is ∙ rows (get_or p 0 0) q.type q.clear in
        sym (take-append-drop 42 p) ∙ ap₂ ◌++◌ b (last_is q.bip ∙ ap bip b)
