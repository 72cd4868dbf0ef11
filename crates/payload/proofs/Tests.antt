-- Laws of the computing tests of `specs/Test.antt`. A need of a function's proof cites one: over plain values `simp` is cheap, over a
-- place's record it is not.
-- Assumes nothing.
use mathlib.Core.Path.{◌≡◌, refl, ap, sym, ◌∙◌}
use mathlib.Core.Bool.{Bool, true, false}
use mathlib.Core.List.{List, [], ◌∷◌}
use Prim.Native.Nat.{ℕ, zero, suc}
use native.Mathlib.Omega.{arith}
use lib.Dec.{T, eqb}
use lib.ListN.{length, get_or, take}
use borrow.Author.Tests.{ne_eqb}
use Rattle.payload.specs.Test.{both, either, member}

pub never : false ≡ true → ⊥
never h = let z : ◌≡◌ {A = ℕ} 0 1 = cc in omega arith

pub T_true : (b : Bool) → T b → b ≡ true
T_true true h = refl
T_true false h = absurd h

pub both_true : (b : Bool) → both b true ≡ b
both_true true = refl
both_true false = refl

pub both_false : (b : Bool) → both b false ≡ false
both_false true = refl
both_false false = refl

-- a conjunction that fails at its first part, and one that goes on to its second
pub both_no : (a b : Bool) → a ≡ false → false ≡ both a b
both_no a b h = rw h

pub both_yes : (a b x : Bool) → a ≡ true → x ≡ b → x ≡ both a b
both_yes a b x h e = rw h e

pub both_left : (a b : Bool) → both a b ≡ true → a ≡ true
both_left true b h = refl
both_left false b h = h

pub both_right : (a b : Bool) → both a b ≡ true → b ≡ true
both_right true b h = h
both_right false b h = cc
