-- The numbers tell the refusals apart, and none is 0, which is "done".
-- Assumes nothing.
use mathlib.Core.Path.{◌≡◌, refl, ap, ap₂, sym, ◌∙◌}
use Prim.Native.Nat.{ℕ}
use native.Mathlib.Omega.{arith}
use lib.Dec.{eqb}
use Rattle.std.specs.Prelude.{cond, Result, Ok, Err}
use Rattle.refusal.specs.Numbers.{number_of, number_in}
use Rattle.refusal.specs.Promises.{ByNumber, OneOutcome}
use Rattle.refusal.specs.declared.Refusal.{Refusal}
use Rattle.refusal.specs.declared.Refusal.TheVariants.{NoPath, Length, Bip16, Function, Row, OtherKind, Full, Taken, Limit, Broken, Short, Value, NoDefect}

pub refuses : (r : Refusal) → number_of r ≡ 0 → ⊥
refuses NoPath h = omega arith
refuses Length h = omega arith
refuses Bip16 h = omega arith
refuses Function h = omega arith
refuses Row h = omega arith
refuses OtherKind h = omega arith
refuses Full h = omega arith
refuses Taken h = omega arith
refuses Limit h = omega arith
refuses Broken h = omega arith
refuses Short h = omega arith
refuses Value h = omega arith
refuses NoDefect h = omega arith

-- the refusal of a number
at : ℕ → Refusal
at n =
    cond (eqb n 1) NoPath (cond (eqb n 2) Length (cond (eqb n 3) Bip16
    (cond (eqb n 4) Function (cond (eqb n 5) Row (cond (eqb n 6) OtherKind
    (cond (eqb n 7) Full (cond (eqb n 8) Taken (cond (eqb n 9) Limit
    (cond (eqb n 10) Broken (cond (eqb n 11) Short (cond (eqb n 12) Value NoDefect)))))))))))

back : (r : Refusal) → at (number_of r) ≡ r
unfolding at
back NoPath = refl
back Length = refl
back Bip16 = refl
back Function = refl
back Row = refl
back OtherKind = refl
back Full = refl
back Taken = refl
back Limit = refl
back Broken = refl
back Short = refl
back Value = refl
back NoDefect = refl

pub same_refusal : (x y : Refusal) → number_of x ≡ number_of y → x ≡ y
same_refusal x y e = sym (back x) ∙ ap at e ∙ back y

pub same_number : {A : Type 0} → ((a b : A) → a ≡ b) → (x y : Result A Refusal) → number_in x ≡ number_in y → x ≡ y
same_number u (Ok a) (Ok b) e = ap Ok (u a b)
same_number u (Ok a) (Err s) e = absurd (refuses s (sym e))
same_number u (Err r) (Ok b) e = absurd (refuses r e)
same_number u (Err r) (Err s) e = ap Err (same_refusal r s e)

-- an answer and what it leaves
pub same_written : {B : Type 0} → (x y : Result (Unit {0}) Refusal × B) → ◌≡◌ {A = ℕ × B} (number_in x.0, x.1) (number_in y.0, y.1) → x ≡ y
same_written x y e = ap₂ (λ r b. (r, b)) (same_number (λ a b. refl) x.0 y.0 (ap (λ p. p.0) e)) (ap (λ p. p.1) e)

pub by_number : ByNumber
by_number = record { refusal = same_refusal; refuses = refuses }

pub one_outcome : OneOutcome
one_outcome = record { from = λ r x y p q. p ∙ sym q; number = λ a x y p q. p ∙ sym q }
