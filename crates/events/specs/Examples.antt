-- Inputs and what is printed for them. `proofs/Examples.antt` has the checker compute it.
-- Assumes nothing.
use Rattle.std.specs.Prelude.{ℕ, ◌≡◌, List, [], ◌∷◌, ◌++◌, length, replicate}
use Prim.Native.String.{String}
use Prim.Native.Char.{code}
use Rattle.payload.specs.Layout.{cv, octets_of}
use Rattle.payload.specs.Cases.{t₀}
use Rattle.octets.specs.Number.{octets}
use Rattle.octets.specs.Parts.{joined}
use Rattle.events.specs.Printed.{printed}

abbrev pub text : String → List ℕ
text String.[] = []
text (String.◌∷◌ c s) = code c ∷ text s

abbrev pub event : ℕ → List ℕ → List ℕ
event tag content = tag ∷ (octets 2 (length content) ++ content)

-- a path of the kind, with t₀ and DL 0
abbrev pub adds : ℕ → List ℕ
adds kind = event 0x11 (kind ∷ (t₀ ++ (0 ∷ 0 ∷ 0 ∷ 0 ∷ [])))

-- on path 0
abbrev pub packet : List ℕ → List ℕ
packet payload = event 0x12 (0 ∷ payload)

abbrev pub closing : List ℕ
closing = event 0x13 (0 ∷ [])

abbrev pub server : ℕ → List ℕ
server signal = event 0x14 (0 ∷ signal ∷ [])

-- so many slots with a packet each
abbrev pub heard : ℕ → List ℕ
heard n = joined (replicate n (packet (octets_of (cv t₀)) ++ closing))

abbrev pub silent : ℕ → List ℕ
silent n = joined (replicate n closing)

pub record Examples : Type 0 where
  pub nothing : printed [] ≡ text "end 0\n"
  pub closes : printed (0x13 ∷ 0x00 ∷ 0x01 ∷ 0x00 ∷ []) ≡ text "r 1 1\nend 1\n"
  -- no field: cut, a tag that is none, lengths that no field of the tag has, a signal that is none
  pub cut : printed (0x13 ∷ []) ≡ text "bad 0\n"
  pub tag : printed (event 0x10 (0 ∷ [])) ≡ text "bad 0\n"
  pub long_close : printed (event 0x13 (0 ∷ 0 ∷ [])) ≡ text "bad 0\n"
  pub short_packet : printed (event 0x12 []) ≡ text "bad 0\n"
  pub long_packet : printed (event 0x12 (replicate 1025 0)) ≡ text "bad 0\n"
  pub signal : printed (server 2) ≡ text "bad 0\n"
  -- refused
  pub empty_packet : printed (adds 0 ++ packet []) ≡ text "r 2 2\nend 2\n"
  pub again : printed (adds 0 ++ adds 0) ≡ text "r 2 8\nend 2\n"
  pub kind : printed (adds 7) ≡ text "r 1 12\nend 1\n"
  -- the paper's program: three slots heard, 17 silent, nine heard
  pub program : printed (adds 0 ++ (heard 3 ++ (silent 17 ++ heard 9))) ≡ text "0 U 4 20\nend 42\n"
