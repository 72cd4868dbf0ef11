-- Which octets are an event: tag, length, content, as the image's fields are framed.
-- Assumes nothing.
use Rattle.std.specs.Prelude.{◌≡◌, ◌≤◌, ℕ, ◌+◌, Bool, true, false, List, eqb, leb, length}
use Rattle.payload.specs.Test.{pick, both}
use Rattle.octets.specs.Parts.{number_at, octet_at}
use Rattle.events.specs.Field.{Field, Cut, Bad, Whole}

-- whether a field of the tag may have n octets of content: 11 add, 12 packet, 13 close, 14 server
abbrev pub fits : ℕ → ℕ → Bool
fits tag n =
    pick (eqb tag 0x11) (eqb n 25)
    (pick (eqb tag 0x12) (both (leb 1 n) (leb n 1024)) (pick (eqb tag 0x13) (eqb n 1) (pick (eqb tag 0x14) (eqb n 2) false)))

-- the octets of the field that s begins with, by its own length
abbrev pub size_in : List ℕ → ℕ
size_in s = 3 + number_at s 1 2

-- a server signal is 0 or 1
abbrev pub signal_fits : List ℕ → Bool
signal_fits s = pick (eqb (octet_at s 0) 0x14) (leb (octet_at s 4) 1) true

abbrev pub frame_by : (head fits whole signal : Bool) → ℕ → Field
frame_by false fits whole signal n = Cut
frame_by true false whole signal n = Bad
frame_by true true false signal n = Cut
frame_by true true true false n = Bad
frame_by true true true true n = Whole n

-- the field that s begins with
unfoldable pub frame_of : List ℕ → Field
frame_of s = frame_by (leb 3 (length s)) (fits (octet_at s 0) (number_at s 1 2)) (leb (size_in s) (length s)) (signal_fits s) (size_in s)

-- ---- what the code reads of a field

-- the octets that it takes from a whole field f, by its tag
pub record Enough (f : List ℕ) : Type 0 where
  pub least : 4 ≤ length f
  pub add : octet_at f 0 ≡ 0x11 → 28 ≤ length f
  pub server : (octet_at f 0 ≡ 0x11 → ⊥) → (octet_at f 0 ≡ 0x12 → ⊥) → (octet_at f 0 ≡ 0x13 → ⊥) → 5 ≤ length f
