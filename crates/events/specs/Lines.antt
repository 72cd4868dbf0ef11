-- The lines, as octets of ASCII.
-- Assumes nothing.
use Rattle.std.specs.Prelude.{ℕ, zero, suc, ◌+◌, ◌/◌, ◌%◌, Bool, true, false, List, [], ◌∷◌, ◌++◌, Option, Some, None, eqb, ltb}
use Rattle.payload.specs.Test.{pick}
use Rattle.window.specs.declared.state.Record.{Record}
use Rattle.window.specs.declared.state.Record.TheVariants.{U, B}

-- a number of at most so many decimal digits, with no zero before it
unfoldable pub spelt : ℕ → ℕ → List ℕ
spelt zero n = []
spelt (suc k) n = pick (ltb n 10) ((48 + n) ∷ []) (spelt k (n / 10) ++ ((48 + n % 10) ∷ []))

-- every number of 64 bits has at most twenty digits
abbrev pub decimal : ℕ → List ℕ
decimal n = spelt 20 n

abbrev pub space : ℕ
space = 32

abbrev pub line_end : List ℕ
line_end = 10 ∷ []

-- LSP, letter, from, until
abbrev pub record_line : ℕ → ℕ → ℕ → ℕ → List ℕ
record_line lsp letter from until = decimal lsp ++ (space ∷ letter ∷ space ∷ (decimal from ++ (space ∷ (decimal until ++ line_end))))

-- U or B; no record has no line
abbrev pub handed_line : ℕ → Option Record → List ℕ
handed_line lsp None = []
handed_line lsp (Some (U from until)) = record_line lsp 85 from until
handed_line lsp (Some (B from until)) = record_line lsp 66 from until

-- r, the event's index and the number of its refusal
abbrev pub refused_line : ℕ → ℕ → List ℕ
refused_line index number = 114 ∷ space ∷ (decimal index ++ (space ∷ (decimal number ++ line_end)))

-- the line of an event with the index, on the LSP, that was answered the number and handed out the record
abbrev pub line_of : ℕ → ℕ → ℕ → Option Record → List ℕ
line_of index lsp number handed = pick (eqb number 0) (handed_line lsp handed) (refused_line index number)

-- end, and the number of events; bad, and the field's offset
abbrev pub end_line : ℕ → List ℕ
end_line events = 101 ∷ 110 ∷ 100 ∷ space ∷ (decimal events ++ line_end)

abbrev pub bad_line : ℕ → List ℕ
bad_line offset = 98 ∷ 97 ∷ 100 ∷ space ∷ (decimal offset ++ line_end)

abbrev pub last_line : Bool → ℕ → ℕ → List ℕ
last_line true events offset = end_line events
last_line false events offset = bad_line offset
