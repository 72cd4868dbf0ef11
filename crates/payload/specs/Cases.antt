-- The paper's P1 to P4 as one claim: the octets of four payloads end with these numbers, and are read as the fields that they were made of.
-- Beside them P1 damaged, one octet string for each refusal. `proofs/Cases.antt` has the checker compute it.
-- Assumes nothing.
use Rattle.std.specs.Prelude.{◌≡◌, List, [], ◌∷◌, ◌++◌, ℕ, ◌*◌, ◌+◌, get_or, set, take, replicate}
use Rattle.payload.specs.Layout.{Fields, cv, ffd, fdi, bdi, octets_of}
use Rattle.payload.specs.Reading.{read_of, refusal}
use Rattle.payload.specs.Law.{Reads}

-- ten 00, FF FF, C0 00 02 01, 00 00 00 07
abbrev pub t₀ : List ℕ
t₀ = replicate 10 0 ++ (0xFF ∷ 0xFF ∷ 0xC0 ∷ 0x00 ∷ 0x02 ∷ 0x01 ∷ 0x00 ∷ 0x00 ∷ 0x00 ∷ 0x07 ∷ [])

pub record Case : Type 0 where
  pub fields : Fields
  pub number : ℕ

abbrev pub cases : List Case
cases =
    record { fields = cv t₀; number = 0x3CF9 }
    ∷ record { fields = ffd t₀ 3; number = 0x39F9 }
    ∷ record { fields = fdi (replicate 20 0) 0x0201 0x0000FDE8; number = 0xFDE9 }
    ∷ record { fields = bdi (replicate 20 0) 0x0201 0x0000FDE8; number = 0xFCE9 }
    ∷ []

abbrev pub Ends : List ℕ → ℕ → Type 0
Ends p n = get_or p 42 0 * 256 + get_or p 43 0 ≡ n

abbrev pub All : List Case → Type 0
All [] = Unit {0}
All (c ∷ cs) = (Ends (octets_of c.fields) c.number × Reads (octets_of c.fields) c.fields) × All cs

abbrev p₁ : List ℕ
p₁ = octets_of (cv t₀)

-- P1 with octet i at x, and BIP16's first octet at y
abbrev changed : ℕ → ℕ → ℕ → List ℕ
changed i x y = set (set p₁ i x) 42 y

-- what is cut, what has a wrong BIP16, an unknown type, a padding octet that is not zero, a tunnel number too large
pub record Refusals : Type 0 where
  pub empty : read_of [] ≡ refusal 2
  pub short : read_of (take 43 p₁) ≡ refusal 2
  pub long : read_of (p₁ ++ (0 ∷ [])) ≡ refusal 2
  pub bip : read_of (set p₁ 43 0xF8) ≡ refusal 3
  pub type : read_of (changed 0 0x04 0x39) ≡ refusal 4
  pub padding : read_of (changed 24 0x01 0x3D) ≡ refusal 5
  pub tunnel : read_of (changed 20 0x01 0x3D) ≡ refusal 5
