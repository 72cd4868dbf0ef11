-- Octets and numbers are inverse, at every width. Assumes nothing.
use mathlib.Core.Path.{◌≡◌, refl, sym, ap, ap₂, ◌∙◌}
use mathlib.Core.List.{List, [], ◌∷◌, ◌++◌, append_assoc, append-nil}
use Prim.Native.Nat.{ℕ, zero, suc, ◌+◌, ◌-◌, ◌*◌, ◌/◌, ◌%◌, ◌^◌, ◌≤◌, ◌<◌}
use native.Mathlib.Nat.{pow-suc, mul_comm, div-div-eq-div-mul, zero-add, add-zero, add-suc, suc-add}
use native.Mathlib.Numerals.{add-one}
use native.Mathlib.Omega.{arith}
use lib.ListN.{length, get_or, length-append}
use Rattle.std.specs.Int.{byte_at, byte_worth, bytes_high_first, sum_through}
use borrow.Author.Tests.{le-leb}
use Rattle.payload.specs.Law.{Octets}
use Rattle.octets.specs.Number.{octets, number_from, number_of, read_of}
use Rattle.octets.specs.Law.{Inverse}

pub length-octets : (w x : ℕ) → length (octets w x) ≡ w
unfolding octets
length-octets zero x = refl
length-octets (suc w) x = length-append (octets w (x / 256)) (x % 256 ∷ []) ∙ ap (λ (n : ℕ). n + 1) (length-octets w (x / 256)) ∙ add-one w

number_snoc : (s : List ℕ) (a b : ℕ) → number_from a (s ++ (b ∷ [])) ≡ number_from a s * 256 + b
unfolding number_from
number_snoc [] a b = refl
number_snoc (x ∷ s) a b = number_snoc s (a * 256 + x) b

-- a number that w octets hold is read back
pub number_octets : (w x : ℕ) → x < 256 ^ w → number_of (octets w x) ≡ x
unfolding octets number_from
number_octets zero x h = omega arith
number_octets (suc w) x h =
    let ih : number_of (octets w (x / 256)) ≡ x / 256 = number_octets w (x / 256) (omega (arith, pow-suc 256 w)) in
    number_snoc (octets w (x / 256)) 0 (x % 256) ∙ omega (arith, ih)

octets_from : (s : List ℕ) (k a : ℕ) → Octets s → octets (k + length s) (number_from a s) ≡ octets k a ++ s
unfolding octets number_from
octets_from [] k a h = rw (add-zero, append-nil)
octets_from (b ∷ s) k a h =
    let q : (a * 256 + b) / 256 ≡ a = omega (arith, h 0) in
    let r : (a * 256 + b) % 256 ≡ b = omega (arith, h 0) in
    ap (λ (n : ℕ). octets n (number_from (a * 256 + b) s)) (add-suc k (length s) ∙ sym (suc-add k (length s)))
    ∙ octets_from s (suc k) (a * 256 + b) (λ i. h (suc i)) ∙ rw (q, r, append_assoc)

-- octets are written back
pub octets_number : (s : List ℕ) → Octets s → octets (length s) (number_of s) ≡ s
unfolding octets
octets_number s h = rw zero-add at (octets_from s 0 0 h)

number_from_lt : (s : List ℕ) (k a : ℕ) → a < 256 ^ k → Octets s → number_from a s < 256 ^ (k + length s)
unfolding number_from
number_from_lt [] k a l h = rw add-zero l
number_from_lt (b ∷ s) k a l h =
    rw (add-suc, ← suc-add) (number_from_lt s (suc k) (a * 256 + b) (omega (arith, h 0, pow-suc 256 k)) (λ i. h (suc i)))

pub number_lt : (s : List ℕ) → Octets s → number_of s < 256 ^ length s
number_lt s h = rw zero-add at (number_from_lt s 0 0 (omega arith) h)

pub read_few : (s : List ℕ) → length s ≤ 8 → read_of s ≡ number_of s
read_few s h = rw (le-leb (length s) 8 h)

-- ---- the library's big-endian octets of a number, and the number of such octets

pub octets_be : (w x : ℕ) → bytes_high_first w x ≡ octets w x
unfolding octets
octets_be zero x = refl
octets_be (suc w) x = last w x ∙ ap (λ (s : List ℕ). s ++ (x % 256 ∷ [])) (octets_be w (x / 256))
  where
    higher : (k x : ℕ) → byte_at (suc k) x ≡ byte_at k (x / 256)
    higher zero x = omega arith
    higher (suc k) x = ap (λ (y : ℕ). y % 256) (ap (λ (m : ℕ). x / m) (pow-suc 256 (suc k) ∙ mul_comm (256 ^ suc k) 256) ∙ sym (div-div-eq-div-mul x 256 (256 ^ suc k)))

    last : (k x : ℕ) → bytes_high_first (suc k) x ≡ bytes_high_first k (x / 256) ++ (x % 256 ∷ [])
    last zero x = refl
    last (suc k) x = λ i. higher k x i ∷ last k x i

number_from_front : (s : List ℕ) (a : ℕ) → number_from a s ≡ a * 256 ^ length s + number_of s
unfolding number_from
number_from_front [] a = omega arith
number_from_front (b ∷ s) a =
    rw pow-suc (step a b (256 ^ length s) _ _ (number_of s) (number_from_front s (a * 256 + b)) (number_from_front s (0 * 256 + b)))
  where
    step : (a b p x y z : ℕ) → x ≡ (a * 256 + b) * p + z → y ≡ (0 * 256 + b) * p + z → x ≡ a * (p * 256) + y
    step a b p x y z e f = grind (arith, e, f)

sum_front : (f : ℕ → ℕ) (k : ℕ) → sum_through f (suc k) ≡ f 0 + sum_through (λ i. f (suc i)) k
sum_front f zero = refl
sum_front f (suc k) = omega (arith, sum_front f k)

worth : (k b : ℕ) → byte_worth k b ≡ b * 256 ^ k
worth zero b = omega arith
worth (suc k) b = refl

pub number_be : (s : List ℕ) (k : ℕ) → length s ≡ suc k → sum_through (λ i. byte_worth (k - i) (get_or s i 0)) k ≡ number_of s
unfolding number_from
number_be [] k h = absurd (omega arith)
number_be (b ∷ []) zero h = sym (zero-add b)
number_be (b ∷ []) (suc k) h = absurd (omega arith)
number_be (b ∷ c ∷ s) zero h = absurd (omega arith)
number_be (b ∷ c ∷ s) (suc k) h =
    let n : suc k ≡ length (c ∷ s) = omega arith in
    let none : suc k - 0 ≡ suc k = omega arith in
    let one : (i : ℕ) → suc k - suc i ≡ k - i = λ i. omega arith in
    let lead : b ≡ 0 * 256 + b = omega arith in
    sum_front (λ i. byte_worth (suc k - i) (get_or (b ∷ c ∷ s) i 0)) k
    ∙ (λ j. byte_worth (none j) b + sum_through (λ i. byte_worth (one i j) (get_or (c ∷ s) i 0)) k)
    ∙ ap₂ ◌+◌ (worth (suc k) b ∙ λ j. lead j * 256 ^ n j) (number_be (c ∷ s) k (omega arith))
    ∙ sym (number_from_front (c ∷ s) (0 * 256 + b))

pub inverse : Inverse
inverse = record { number_back = number_octets; octets_back = octets_number }
