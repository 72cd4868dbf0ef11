-- What the digits of a line mean: the number, with no zero before it.
-- `proofs/Decimal.antt` proves it.
-- Assumes nothing.
use Rattle.std.specs.Prelude.{ℕ, ◌+◌, ◌-◌, ◌*◌, ◌^◌, ◌≤◌, ◌<◌, ◌≡◌, List, [], ◌∷◌, length, get_or}
use Rattle.events.specs.Lines.{decimal}

-- the number that ASCII digits stand for, after digits that stand for a
unfoldable pub value_from : ℕ → List ℕ → ℕ
value_from a [] = a
value_from a (d ∷ s) = value_from (a * 10 + (d - 48)) s

abbrev pub value_of : List ℕ → ℕ
value_of s = value_from 0 s

-- s is n in decimal digits, and no zero stands before another digit
pub record Digits (n : ℕ) (s : List ℕ) : Type 0 where
  pub value : value_of s ≡ n
  pub digits : (i : ℕ) → i < length s → (48 ≤ get_or s i 0) × (get_or s i 0 ≤ 57)
  pub first : 1 ≤ n → 49 ≤ get_or s 0 0
  pub some : 1 ≤ length s
  pub one : n < 10 → length s ≡ 1

pub record DecimalLaw : Type 0 where
  pub means : (n : ℕ) → n < 10 ^ 20 → Digits n (decimal n)
  pub most : (n : ℕ) → length (decimal n) ≤ 20
