-- A path's field of the image: its 79 octets, the path that octets read as, and which octets are a field.
-- Assumes nothing.
use Rattle.std.specs.Prelude.{Bool, true, false, List, [], ◌∷◌, ◌++◌, ℕ, eqb, leb, length, drop, replicate}
use Rattle.payload.specs.Test.{pick, both, either}
use Rattle.octets.specs.Number.{octets}
use Rattle.octets.specs.Parts.{joined, part, number_at, octet_at}
use Rattle.window.specs.View.{code_of, unavailable_of}
use Rattle.window.specs.declared.state.Defect.{Defect}
use Rattle.window.specs.declared.state.Defect.TheVariants.{Clear, Mismatch, Mismerge, Locv, Excess}
use Rattle.window.specs.declared.state.Availability.{Availability}
use Rattle.window.specs.declared.state.Availability.TheVariants.{Available, Unavailable}
use Rattle.window.specs.declared.state.State.{State}
use Rattle.lsp.specs.Sound.{all, sound}
use Rattle.lsp.specs.Steps.{new_of}
use Rattle.lsp.specs.declared.path.Fdi.{Fdi}
use Rattle.lsp.specs.declared.path.Lsp.{Lsp}

-- ---- the octets of a path, part by part

abbrev pub server_of : Bool → ℕ
server_of false = 0
server_of true = 1

-- tag and length; kind; TTSI; DL; closed slots
abbrev pub head_parts : ℕ → List ℕ → ℕ → ℕ → List (List ℕ)
head_parts kind ttsi dl closed = (0x02 ∷ 0 ∷ 76 ∷ []) ∷ (kind ∷ []) ∷ ttsi ∷ octets 4 dl ∷ octets 8 closed ∷ []

-- E, then U, of the last ten slots and the open one
abbrev pub row_parts : List ℕ → List ℕ → List (List ℕ)
row_parts e u = e ∷ u ∷ []

-- the kind's code; closes stood; unavailable; since-slot
abbrev pub state_parts : Defect → ℕ → Availability → List (List ℕ)
state_parts d stood a = octets 2 (code_of d) ∷ (stood ∷ []) ∷ ((unavailable_of a).0 ∷ []) ∷ octets 8 (unavailable_of a).1 ∷ []

-- server signal; the FDI's closes left, DT and DL
abbrev pub signal_parts : Bool → Fdi → List (List ℕ)
signal_parts server f = (server_of server ∷ []) ∷ octets 2 f.left ∷ octets 2 f.dt ∷ octets 4 f.dl ∷ []

abbrev pub parts_of : Lsp → List (List ℕ)
parts_of l =
    head_parts l.kind l.ttsi l.dl l.state.closed
    ++ row_parts l.state.e l.state.u
    ++ state_parts l.state.defect l.state.stood l.state.availability
    ++ signal_parts l.server l.fdi

unfoldable pub field_of : Lsp → List ℕ
field_of l = joined (parts_of l)

-- ---- writing: 11 where fewer than 79 octets are lent

abbrev pub write_by : (fits : Bool) → Lsp → List ℕ → ℕ × List ℕ
write_by true l b = (0, field_of l ++ drop 79 b)
write_by false l b = (11, b)

abbrev pub write_of : Lsp → List ℕ → ℕ × List ℕ
write_of l b = write_by (leb 79 (length b)) l b

-- ---- reading, part by place; what octets that are no field read as is decided too

abbrev pub defect_of : ℕ → Defect
defect_of code =
    pick (eqb code 0x0201) Locv (pick (eqb code 0x0202) Mismatch (pick (eqb code 0x0203) Mismerge (pick (eqb code 0x0204) Excess Clear)))

abbrev pub availability_of : ℕ → ℕ → Availability
availability_of unavailable since = pick (eqb unavailable 0) Available (Unavailable since)

abbrev pub state_in : List ℕ → State
state_in s =
    record {
      closed = number_at s 28 8;
      e = part s 36 11;
      u = part s 47 11;
      defect = defect_of (number_at s 58 2);
      stood = octet_at s 60;
      availability = availability_of (octet_at s 61) (number_at s 62 8);
    }

abbrev pub fdi_in : List ℕ → Fdi
fdi_in s = record { left = number_at s 71 2; dt = number_at s 73 2; dl = number_at s 75 4 }

unfoldable pub path_in : List ℕ → Lsp
path_in s =
    record {
      kind = octet_at s 3;
      ttsi = part s 4 20;
      dl = number_at s 24 4;
      state = state_in s;
      server = eqb (octet_at s 70) 1;
      fdi = fdi_in s;
    }

-- 79 octets as they stand; of more or fewer, a new path of kind 0 with zeros for its TTSI and DL
abbrev pub path_of : List ℕ → Lsp
path_of s = pick (eqb (length s) 79) (path_in s) (new_of 0 (replicate 20 0) 0)

-- ---- which octets are a field

-- the code is that of the defect which it reads as: 0 or 0201 to 0204
abbrev pub is_plain_code : ℕ → Bool
is_plain_code code = eqb code (code_of (defect_of code))

-- unavailable is 0 or 1, and the since-slot is 0 where it is 0
abbrev pub is_plain_availability : ℕ → ℕ → Bool
is_plain_availability unavailable since = either (eqb unavailable 1) (both (eqb unavailable 0) (eqb since 0))

abbrev pub field_tests : List ℕ → List Bool
field_tests s =
    eqb (length s) 79
    ∷ eqb (octet_at s 0) 0x02
    ∷ eqb (octet_at s 1) 0
    ∷ eqb (octet_at s 2) 76
    ∷ is_plain_code (number_at s 58 2)
    ∷ is_plain_availability (octet_at s 61) (number_at s 62 8)
    ∷ leb (octet_at s 70) 1
    ∷ sound (path_in s)
    ∷ []

unfoldable pub is_field : List ℕ → Bool
is_field s = all (field_tests s)

-- the TTSI of a field, where it lies
abbrev pub ttsi_in : List ℕ → List ℕ
ttsi_in s = part s 4 20
