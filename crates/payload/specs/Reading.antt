-- Reading: the answer in the paper's numbers, and the part of the lent octets that is the TTSI.
-- Assumes nothing.
use Rattle.std.specs.Prelude.{ℕ, ◌+◌, ◌*◌, ◌-◌, Bool, List, [], Result, Ok, Err, eqb, length, get_or, take, drop}
use Rattle.refusal.specs.Numbers.{number_of}
use Rattle.refusal.specs.declared.Refusal.{Refusal}
use Rattle.payload.specs.Test.{pick, both, all_zero}
use Rattle.payload.specs.Layout.{Fields, cv, ffd, fdi, bdi, run, is_type, valid}
use Rattle.payload.specs.Writing.{fields_of}
use Rattle.payload.specs.Numbers.{dt_of}
use Rattle.payload.specs.declared.layout.FunctionType.{FunctionType}
use Rattle.payload.specs.declared.layout.FunctionType.TheVariants as type
use Rattle.payload.specs.declared.found.Found.{Found}
use Rattle.payload.specs.declared.found.Found.TheVariants.{Cv, Ffd, Fdi, Bdi}

-- what the reader answers: its number and, on 0, the fields but the TTSI; those that there are not are zero
pub record Answer : Type 0 where
  pub number : ℕ
  pub type : ℕ
  pub rate : ℕ
  pub dt : ℕ
  pub dl : ℕ

abbrev pub refusal : ℕ → Answer
refusal n = record { number = n; type = 0; rate = 0; dt = 0; dl = 0 }

-- of each case of the code's answer
abbrev pub answer_of : Result Found Refusal → Answer
answer_of (Ok Cv) = record { number = 0; type = 1; rate = 0; dt = 0; dl = 0 }
answer_of (Ok (Ffd r)) = record { number = 0; type = 7; rate = r; dt = 0; dl = 0 }
answer_of (Ok (Fdi dt dl)) = record { number = 0; type = 2; rate = 0; dt = dt_of dt; dl = dl }
answer_of (Ok (Bdi dt dl)) = record { number = 0; type = 3; rate = 0; dt = dt_of dt; dl = dl }
answer_of (Err r) = refusal (number_of r)

-- of fields
abbrev pub shown : Fields → Answer
shown (cv t) = record { number = 0; type = 1; rate = 0; dt = 0; dl = 0 }
shown (ffd t r) = record { number = 0; type = 7; rate = r; dt = 0; dl = 0 }
shown (fdi t dt dl) = record { number = 0; type = 2; rate = 0; dt = dt; dl = dl }
shown (bdi t dt dl) = record { number = 0; type = 3; rate = 0; dt = dt; dl = dl }

-- ---- what stands where the type's row has its fields

abbrev pub word_at : List ℕ → ℕ
word_at p = get_or p 2 0 * 256 + get_or p 3 0

abbrev pub long_at : List ℕ → ℕ
long_at p = get_or p 24 0 * 16777216 + get_or p 25 0 * 65536 + get_or p 26 0 * 256 + get_or p 27 0

abbrev pub fields_at : List ℕ → Fields
fields_at p = fields_of (get_or p 0 0) (take 20 (drop 4 p)) (get_or p 24 0) (word_at p) (long_at p)

-- ---- the tests

abbrev pub bip_right : List ℕ → Bool
bip_right p = both (eqb (get_or p 42 0) (run 0 (take 42 p))) (eqb (get_or p 43 0) (run 0 (drop 1 (take 42 p))))

-- octet 1, and the octets from an offset to 41, are zero
abbrev pub clear_from : List ℕ → ℕ → Bool
clear_from p from = both (eqb (get_or p 1 0) 0) (all_zero (take (42 - from) (drop from p)))

-- and so are octets 2 and 3
abbrev pub blank_from : List ℕ → ℕ → Bool
blank_from p from = both (eqb (word_at p) 0) (clear_from p from)

-- the octets that the row reserves or pads with are zero
abbrev pub clear : Fields → List ℕ → Bool
clear (cv t) p = blank_from p 24
clear (ffd t r) p = blank_from p 25
clear (fdi t dt dl) p = clear_from p 28
clear (bdi t dt dl) p = clear_from p 28

-- by the type
abbrev pub clear_in : FunctionType → List ℕ → Bool
clear_in type.Cv p = blank_from p 24
clear_in type.Ffd p = blank_from p 25
clear_in type.Fdi p = clear_from p 28
clear_in type.Bdi p = clear_from p 28

-- ---- the answers

-- of 44 octets whose BIP16 is right
abbrev pub row_of : List ℕ → Answer
row_of p =
    pick (is_type (get_or p 0 0)) (pick (both (clear (fields_at p) p) (valid (fields_at p))) (shown (fields_at p)) (refusal 5)) (refusal 4)

unfoldable pub read_of : List ℕ → Answer
read_of p = pick (eqb (length p) 44) (pick (bip_right p) (row_of p) (refusal 3)) (refusal 2)

abbrev pub accepts : List ℕ → Bool
accepts p = eqb (read_of p).number 0

abbrev pub ttsi_at : List ℕ → List ℕ
ttsi_at p = pick (accepts p) (take 20 (drop 4 p)) []

-- where the answered slice begins, as block and offset, beside its octets: four octets into the lent payload, so no copy
abbrev pub ttsi_part : ℕ × ℕ → List ℕ → (ℕ × ℕ) × List ℕ
ttsi_part at p = ((at.0, pick (accepts p) (4 + at.1) at.1), ttsi_at p)

-- the place of the TTSI in 44 octets, read or not
abbrev pub place_at : List ℕ → List ℕ
place_at p = pick (eqb (length p) 44) (take 20 (drop 4 p)) []

abbrev pub ttsi_place : ℕ × ℕ → List ℕ → (ℕ × ℕ) × List ℕ
ttsi_place at p = ((at.0, pick (eqb (length p) 44) (4 + at.1) at.1), place_at p)
