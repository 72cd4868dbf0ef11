-- Rows of counts and octets: what the chains that test them come to, and that the test says what the rule says. Assumes nothing.
use mathlib.Core.Path.{◌≡◌, refl, ap, sym, ◌∙◌}
use mathlib.Core.Bool.{Bool, true, false}
use mathlib.Core.List.{List, [], ◌∷◌}
use Prim.Native.Nat.{ℕ, zero, suc, ◌≤◌, ◌<◌}
use native.Mathlib.Omega.{arith}
use lib.Dec.{eqb, leb}
use lib.ListN.{length, get_or, take}
use borrow.Author.Tests.{eq-eqb, eqb-true, le-leb, leb-true}
use Rattle.std.specs.Prelude.{◌&&◌}
use lib.Pointwise.{pointwise}
use Rattle.std.specs.List.{list_all}
use Rattle.payload.specs.Test.{both, all_zero}
use Rattle.payload.proofs.Tests.{both_left, both_right}
use Rattle.rules.specs.Claim.{Row}
use Rattle.lsp.specs.Steps.{same}
use Rattle.lsp.specs.Sound.{within, never_were, is_row}

and_is : (a b : Bool) → both a b ≡ (a && b)
and_is true b = refl
and_is false b = refl

-- ---- the chains over a row's counts

pub within_all : (cut : ℕ) (row : List ℕ) → within cut row ≡ list_all (λ x. leb x cut) row
unfolding within
within_all cut [] = refl
within_all cut (x ∷ row) = ap (both (leb x cut)) (within_all cut row) ∙ and_is (leb x cut) (list_all (λ y. leb y cut) row)

pub zeros_all : (row : List ℕ) → all_zero row ≡ list_all (λ x. eqb x 0) row
zeros_all [] = refl
zeros_all (x ∷ row) = ap (both (eqb x 0)) (zeros_all row) ∙ and_is (eqb x 0) (list_all (λ y. eqb y 0) row)

-- ---- octets compared

pub same_is : (a b : List ℕ) → pointwise eqb a b ≡ same a b
unfolding same
same_is [] [] = refl
same_is [] (y ∷ ys) = refl
same_is (x ∷ xs) [] = refl
same_is (x ∷ xs) (y ∷ ys) = sym (and_is (eqb x y) (pointwise eqb xs ys)) ∙ ap (both (eqb x y)) (same_is xs ys)

-- ---- the tests say what the rule says

within_most : (cut : ℕ) (row : List ℕ) → within cut row ≡ true → (i : ℕ) → get_or row i 0 ≤ cut
unfolding within
within_most cut [] h i = omega arith
within_most cut (x ∷ row) h zero = leb-true x cut (both_left (leb x cut) (within cut row) h)
within_most cut (x ∷ row) h (suc i) = within_most cut row (both_right (leb x cut) (within cut row) h) i

most_within : (cut : ℕ) (row : List ℕ) → ((i : ℕ) → get_or row i 0 ≤ cut) → within cut row ≡ true
unfolding within
most_within cut [] h = refl
most_within cut (x ∷ row) h = rw (le-leb x cut (h 0)) (most_within cut row (λ i. h (suc i)))

zeros_first : (n : ℕ) (row : List ℕ) → all_zero (take n row) ≡ true → (i : ℕ) → i < n → get_or row i 0 ≡ 0
zeros_first zero row h i l = absurd (omega arith)
zeros_first (suc n) [] h i l = refl
zeros_first (suc n) (x ∷ row) h zero l = eqb-true x 0 (both_left (eqb x 0) (all_zero (take n row)) h)
zeros_first (suc n) (x ∷ row) h (suc i) l = zeros_first n row (both_right (eqb x 0) (all_zero (take n row)) h) i (omega arith)

first_zeros : (n : ℕ) (row : List ℕ) → ((i : ℕ) → i < n → get_or row i 0 ≡ 0) → all_zero (take n row) ≡ true
first_zeros zero row h = refl
first_zeros (suc n) [] h = refl
first_zeros (suc n) (x ∷ row) h = rw (eq-eqb x 0 (h 0 (omega arith))) (first_zeros n row (λ i l. h (suc i) (omega arith)))

-- a lower cut will do
pub test_row : (low cut closed : ℕ) (row : List ℕ) → is_row low closed row ≡ true → low ≤ cut → Row cut closed row
test_row low cut closed row h l =
    let m : both (within low row) (all_zero (take (never_were closed) row)) ≡ true = both_right (eqb (length row) 11) _ h in
    record {
      long = eqb-true (length row) _ (both_left (eqb (length row) 11) _ h);
      most = λ i. omega (arith, within_most low row (both_left (within low row) _ m) i);
      never = λ i k. zeros_first (never_were closed) row (both_right (within low row) _ m) i (omega arith);
    }

pub row_test : (low cut closed : ℕ) (row : List ℕ) → Row low closed row → low ≤ cut → is_row cut closed row ≡ true
row_test low cut closed row r l =
    simp (
      eq-eqb (length row) 11 r.long,
      most_within cut row (λ i. omega (arith, r.most i)),
      first_zeros (never_were closed) row (λ i k. r.never i (omega arith)),
    )

-- ---- what the function that tests a row answers

module _ (cut closed : ℕ) (row : List ℕ) where
  abbrev empty : Bool
  empty = all_zero (take (never_were closed) row)
