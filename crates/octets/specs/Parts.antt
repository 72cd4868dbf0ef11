-- Octets as parts one after the other, and a part by its place.
-- Assumes nothing.
use Rattle.std.specs.Prelude.{ℕ, ◌+◌, List, [], ◌∷◌, ◌++◌, length, get_or, take, drop}
use Rattle.octets.specs.Number.{number_of}

abbrev pub joined : List (List ℕ) → List ℕ
joined [] = []
joined (p ∷ ps) = p ++ joined ps

-- of s from place a: w octets, the number that they stand for, and one octet
abbrev pub part : List ℕ → ℕ → ℕ → List ℕ
part s a w = take w (drop a s)

abbrev pub number_at : List ℕ → ℕ → ℕ → ℕ
number_at s a w = number_of (part s a w)

abbrev pub octet_at : List ℕ → ℕ → ℕ
octet_at s a = get_or s a 0

-- s from place a on, cut by widths
abbrev pub cut_from : ℕ → List ℕ → List ℕ → List (List ℕ)
cut_from a [] s = []
cut_from a (w ∷ ws) s = part s a w ∷ cut_from (a + w) ws s

abbrev pub total : List ℕ → ℕ
total [] = 0
total (w ∷ ws) = w + total ws

-- s with m at place a, its other octets as they were
abbrev pub laid : List ℕ → ℕ → List ℕ → List ℕ
laid s a m = take a s ++ (m ++ drop (a + length m) s)
