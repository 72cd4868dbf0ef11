-- The digits mean the number (`specs/Decimal.antt`). Assumes nothing.
use mathlib.Core.Path.{◌≡◌, refl, ◌∙◌}
use mathlib.Core.Bool.{Bool, true, false}
use mathlib.Core.List.{List, [], ◌∷◌, ◌++◌}
use Prim.Native.Nat.{ℕ, zero, suc, ◌+◌, ◌-◌, ◌*◌, ◌/◌, ◌%◌, ◌^◌, ◌≤◌, ◌<◌}
use native.Mathlib.Nat.{pow-suc}
use native.Mathlib.Omega.{arith}
use lib.Dec.{ltb}
use lib.ListN.{length, get_or, length-append, get_or-append}
use borrow.Author.Tests.{ltb-true, ltb-false, lt-ltb, le-ltb}
use Rattle.payload.specs.Test.{pick}
use Rattle.events.specs.Lines.{spelt}
use Rattle.events.specs.Decimal.{value_from, Digits, DecimalLaw}

-- ---- the two cases

pub few : (k n : ℕ) → n < 10 → spelt (suc k) n ≡ (48 + n) ∷ []
unfolding spelt
few k n h = rw (lt-ltb n 10 h)

pub many : (k n : ℕ) → 10 ≤ n → spelt (suc k) n ≡ spelt k (n / 10) ++ ((48 + n % 10) ∷ [])
unfolding spelt
many k n h = rw (le-ltb n 10 h)

-- a fact of digits, from one digit and from one more
by_digits : (P : ℕ → List ℕ → Type 0) → ((n : ℕ) → n < 10 → P n ((48 + n) ∷ []))
    → ((n : ℕ) → 10 ≤ n → (s : List ℕ) → P (n / 10) s → P n (s ++ ((48 + n % 10) ∷ []))) → (k n : ℕ) → n < 10 ^ suc k → P n (spelt (suc k) n)
by_digits P one more zero n h = rw (few 0 n (omega arith)) (one n (omega arith))
by_digits P one more (suc k) n h = go (ltb n 10) refl (by_digits P one more k (n / 10) (omega (arith, pow-suc 10 (suc k))))
  where
    go : (b : Bool) → ltb n 10 ≡ b → P (n / 10) (spelt (suc k) (n / 10)) → P n (spelt (suc (suc k)) n)
    go true e ih = let l = ltb-true n 10 e in rw (few (suc k) n l) (one n l)
    go false e ih = let l = ltb-false n 10 e in rw (many (suc k) n l) (more n l (spelt (suc k) (n / 10)) ih)

-- ---- what they mean

value_snoc : (s : List ℕ) (a d : ℕ) → value_from a (s ++ (d ∷ [])) ≡ value_from a s * 10 + (d - 48)
unfolding value_from
value_snoc [] a d = refl
value_snoc (x ∷ s) a d = value_snoc s (a * 10 + (x - 48)) d

single : (n : ℕ) → n < 10 → Digits n ((48 + n) ∷ [])
unfolding value_from
single n h = record { value = omega arith; digits = digits; first = omega arith; some = omega arith; one = λ l. refl }
  where
    digits : (i : ℕ) → i < 1 → (48 ≤ get_or ((48 + n) ∷ []) i 0) × (get_or ((48 + n) ∷ []) i 0 ≤ 57)
    digits zero l = omega arith
    digits (suc i) l = absurd (omega arith)

digit_snoc : (s : List ℕ) (d : ℕ) → d < 10 → ((i : ℕ) → i < length s → (48 ≤ get_or s i 0) × (get_or s i 0 ≤ 57)) → (i : ℕ) → i < length (s ++ ((48 + d) ∷ []))
    → (48 ≤ get_or (s ++ ((48 + d) ∷ [])) i 0) × (get_or (s ++ ((48 + d) ∷ [])) i 0 ≤ 57)
digit_snoc [] d h o zero l = omega arith
digit_snoc [] d h o (suc i) l = absurd (omega arith)
digit_snoc (x ∷ s) d h o zero l = o 0 (omega arith)
digit_snoc (x ∷ s) d h o (suc i) l = digit_snoc s d h (λ j m. o (suc j) (omega arith)) i (omega arith)

one_more : (n : ℕ) → 10 ≤ n → (s : List ℕ) → Digits (n / 10) s → Digits n (s ++ ((48 + n % 10) ∷ []))
one_more n h s x =
    let d = 48 + n % 10 in
    record {
      value = value_snoc s 0 d ∙ rw x.value (omega arith);
      digits = digit_snoc s (n % 10) (omega arith) x.digits;
      first = λ l. rw (get_or-append s (d ∷ []) 0 0 x.some) (x.first (omega arith));
      some = simp length-append (omega arith);
      one = λ l. absurd (omega arith);
    }

most : (k n : ℕ) → length (spelt k n) ≤ k
unfolding spelt
most zero n = omega arith
most (suc k) n = go (ltb n 10) (most k (n / 10))
  where
    go : (b : Bool) → length (spelt k (n / 10)) ≤ k → length (pick b ((48 + n) ∷ []) (spelt k (n / 10) ++ ((48 + n % 10) ∷ []))) ≤ suc k
    go true ih = omega arith
    go false ih = simp length-append (omega arith)

pub decimal_law : DecimalLaw
decimal_law = record { means = by_digits Digits single one_more 19; most = most 20 }
