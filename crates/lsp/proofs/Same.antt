-- Two runs of octets are the same: one turn of the loop that compares them, and that the test says so. Assumes nothing.
use mathlib.Core.Path.{◌≡◌, refl, ap, ap₂, sym, ◌∙◌}
use mathlib.Core.Bool.{Bool, true, false}
use mathlib.Core.List.{List, [], ◌∷◌}
use Prim.Native.Nat.{ℕ, suc, ◌+◌, ◌-◌, ◌≤◌, ◌<◌}
use native.Mathlib.Numerals.{add-one}
use native.Mathlib.Omega.{arith}
use lib.Dec.{eqb}
use lib.ListN.{length, get_or, drop, drop_of_length-le}
use lib.Seq.{drop-cons}
use borrow.Author.Tests.{eq-eqb, eqb-true}
use Rattle.payload.specs.Test.{both}
use Rattle.payload.proofs.Tests.{both_left, both_right, both_false}
use Rattle.lsp.specs.Steps.{same}

pub other_length : (a b : List ℕ) → (length a ≡ length b → ⊥) → same a b ≡ false
unfolding same
other_length [] [] n = absurd (n refl)
other_length [] (y ∷ b) n = refl
other_length (x ∷ a) [] n = refl
other_length (x ∷ a) (y ∷ b) n = ap (both (eqb x y)) (other_length a b (λ h. n (ap suc h))) ∙ both_false (eqb x y)

pub same_equal : (a b : List ℕ) → same a b ≡ true → a ≡ b
unfolding same
same_equal [] [] h = refl
same_equal [] (y ∷ b) h = let z : false ≡ true = h in cc
same_equal (x ∷ a) [] h = let z : false ≡ true = h in cc
same_equal (x ∷ a) (y ∷ b) h =
    ap₂ (λ (z : ℕ) (l : List ℕ). z ∷ l) (eqb-true x y (both_left (eqb x y) (same a b) h)) (same_equal a b (both_right (eqb x y) (same a b) h))

pub same_self : (a : List ℕ) → same a a ≡ true
unfolding same
same_self [] = refl
same_self (x ∷ a) = rw (eq-eqb x x refl) (same_self a)
