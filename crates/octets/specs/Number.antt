-- The octets of a number, the most significant first, and the number that octets stand for.
-- Assumes nothing.
use Rattle.std.specs.Prelude.{ℕ, zero, suc, ◌+◌, ◌*◌, ◌/◌, ◌%◌, List, [], ◌∷◌, ◌++◌, leb, length, take, drop}
use Rattle.payload.specs.Test.{pick}

-- the w low octets of x
unfoldable pub octets : ℕ → ℕ → List ℕ
octets zero x = []
octets (suc w) x = octets w (x / 256) ++ (x % 256 ∷ [])

-- the number that octets stand for, after octets that stand for a
unfoldable pub number_from : ℕ → List ℕ → ℕ
number_from a [] = a
number_from a (b ∷ s) = number_from (a * 256 + b) s

abbrev pub number_of : List ℕ → ℕ
number_of s = number_from 0 s

-- what the reader answers: 0 where there are more octets than its number has
abbrev pub read_of : List ℕ → ℕ
read_of s = pick (leb (length s) 8) (number_of s) 0

-- s laid over the first octets of t, whose length stays
abbrev pub over : List ℕ → List ℕ → List ℕ
over s t = take (length t) s ++ drop (length s) t
