-- The 44 octets of a payload, said once: from the fields to the octets, by the row of the type; and the rules of the fields.
-- Assumes nothing.
use Rattle.std.specs.Prelude.{ℕ, ◌/◌, ◌%◌, Bool, List, [], ◌∷◌, ◌++◌, T, eqb, length, get_or, drop, replicate}
use Rattle.std.specs.Int.Bits.{bit_xor}
use Rattle.payload.specs.Test.{both, member}
use Rattle.payload.specs.Rates.{is_rate}

-- each type with the fields that its row names: the TTSI, then the rate, or the defect type and location
pub data Fields : Type 0 where
  cv : List ℕ → Fields
  ffd : List ℕ → ℕ → Fields
  fdi bdi : List ℕ → ℕ → ℕ → Fields

-- ---- the paper's table, a column each; zeros are its reserved and padding octets

-- offsets 0, 1, 2 and 3
abbrev pub head_of : Fields → List ℕ
head_of (cv t) = 0x01 ∷ 0 ∷ 0 ∷ 0 ∷ []
head_of (ffd t r) = 0x07 ∷ 0 ∷ 0 ∷ 0 ∷ []
head_of (fdi t dt dl) = 0x02 ∷ 0 ∷ dt / 256 ∷ dt % 256 ∷ []
head_of (bdi t dt dl) = 0x03 ∷ 0 ∷ dt / 256 ∷ dt % 256 ∷ []

-- offsets 4 to 23
abbrev pub ttsi_of : Fields → List ℕ
ttsi_of (cv t) = t
ttsi_of (ffd t r) = t
ttsi_of (fdi t dt dl) = t
ttsi_of (bdi t dt dl) = t

abbrev pub long : ℕ → List ℕ
long n = n / 16777216 ∷ n / 65536 % 256 ∷ n / 256 % 256 ∷ n % 256 ∷ []

-- offsets 24 to 41
abbrev pub tail_of : Fields → List ℕ
tail_of (cv t) = replicate 18 0
tail_of (ffd t r) = r ∷ replicate 17 0
tail_of (fdi t dt dl) = long dl ++ replicate 14 0
tail_of (bdi t dt dl) = long dl ++ replicate 14 0

abbrev pub body_of : Fields → List ℕ
body_of f = head_of f ++ (ttsi_of f ++ tail_of f)

-- the running exclusive-or a, gone on over every second octet
unfoldable pub run : ℕ → List ℕ → ℕ
run a [] = a
run a (x ∷ []) = bit_xor a x
run a (x ∷ y ∷ s) = run (bit_xor a x) s

-- BIP16, offsets 42 and 43: the exclusive-or at the even offsets, then that at the odd ones
abbrev pub bip : List ℕ → List ℕ
bip b = run 0 b ∷ run 0 (drop 1 b) ∷ []

abbrev pub octets_of : Fields → List ℕ
octets_of f = body_of f ++ bip (body_of f)

-- ---- the rules of the fields

-- CV, FDI, BDI, FFD
abbrev pub types : List ℕ
types = 0x01 ∷ 0x02 ∷ 0x03 ∷ 0x07 ∷ []

abbrev pub is_type : ℕ → Bool
is_type ty = member ty types

-- dServer, dPeerME, dLOCV, dTTSI_Mismatch, dTTSI_Mismerge, dExcess, dUnknown
abbrev pub defects : List ℕ
defects = 0x0101 ∷ 0x0102 ∷ 0x0201 ∷ 0x0202 ∷ 0x0203 ∷ 0x0204 ∷ 0x02FF ∷ []

abbrev pub is_defect : ℕ → Bool
is_defect dt = member dt defects

-- 16 octets of address and 4 of tunnel number, whose first two are zero
abbrev pub is_ttsi : List ℕ → Bool
is_ttsi t = both (eqb (length t) 20) (both (eqb (get_or t 16 0) 0) (eqb (get_or t 17 0) 0))

-- a defect location is any number
abbrev pub valid : Fields → Bool
valid (cv t) = is_ttsi t
valid (ffd t r) = both (is_ttsi t) (is_rate r)
valid (fdi t dt dl) = both (is_ttsi t) (is_defect dt)
valid (bdi t dt dl) = both (is_ttsi t) (is_defect dt)

abbrev pub Valid : Fields → Type 0
Valid f = T (valid f)
