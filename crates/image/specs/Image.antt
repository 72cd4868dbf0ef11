-- A table's image, what saving leaves, and the table that an image restores.
-- Assumes nothing.
use Rattle.std.specs.Prelude.{Bool, true, false, List, [], ◌∷◌, ◌++◌, ℕ, zero, suc, ◌+◌, ◌*◌, ◌-◌, ◌%◌, eqb, leb, length, take, drop, replicate}
use Rattle.payload.specs.Test.{pick, both}
use Rattle.octets.specs.Parts.{number_at, octet_at}
use Rattle.lsp.specs.Sound.{all}
use Rattle.lsp.specs.Steps.{same}
use Rattle.lsp.specs.declared.path.Lsp.{Lsp}
use Rattle.field.specs.Field.{field_of, path_of, is_field, ttsi_in}
use Rattle.table.specs.Steps.{blank, empty, present}
use Rattle.table.specs.declared.paths.Table.{Table}
use Rattle.image.specs.Outcomes.{Restored}

-- ---- the octets of a table

unfoldable pub fields_of : List Lsp → List ℕ
fields_of [] = []
fields_of (l ∷ ls) = field_of l ++ fields_of ls

-- tag 01, length 2: version 01 and the number of paths; then each path's field
unfoldable pub octets_of : Table → List ℕ
octets_of t = 0x01 ∷ 0 ∷ 2 ∷ 0x01 ∷ present t ∷ fields_of (take (present t) t.lsps)

-- the length of the image of n paths
abbrev pub image_length : ℕ → ℕ
image_length n = 5 + 79 * n

abbrev pub length_of : Table → ℕ
length_of t = image_length (present t)

-- ---- saving: 11 where the image doesn't fit. The number, and the lent octets b afterwards

abbrev pub save_by : (fits : Bool) → Table → List ℕ → ℕ × List ℕ
save_by true t b = (0, octets_of t ++ drop (length_of t) b)
save_by false t b = (11, b)

abbrev pub save_of : Table → List ℕ → ℕ × List ℕ
save_of t b = save_by (leb (length_of t) (length b)) t b

-- ---- which octets are an image

-- a TTSI is none of those seen
unfoldable pub absent : List ℕ → List (List ℕ) → Bool
absent t [] = true
absent t (x ∷ seen) = pick (same t x) false (absent t seen)

-- s begins with n fields, whose TTSIs differ from each other and from those seen
unfoldable pub are_fields : List (List ℕ) → ℕ → List ℕ → Bool
are_fields seen zero s = true
are_fields seen (suc n) s =
    both (is_field (take 79 s)) (both (absent (ttsi_in s) seen) (are_fields (seen ++ (ttsi_in s ∷ [])) n (drop 79 s)))

abbrev pub count_in : List ℕ → ℕ
count_in im = octet_at im 4

abbrev pub image_tests : List ℕ → List Bool
image_tests im =
    eqb (length im) (image_length (count_in im))
    ∷ eqb (octet_at im 0) 0x01
    ∷ eqb (octet_at im 1) 0
    ∷ eqb (octet_at im 2) 2
    ∷ eqb (octet_at im 3) 0x01
    ∷ leb (count_in im) 64
    ∷ are_fields [] (count_in im) (drop 5 im)
    ∷ []

unfoldable pub is_image : List ℕ → Bool
is_image im = all (image_tests im)

-- ---- restoring: 10 where the octets are no image

unfoldable pub paths_of : ℕ → List ℕ → List Lsp
paths_of zero s = []
paths_of (suc n) s = path_of (take 79 s) ∷ paths_of n (drop 79 s)

-- n paths, each in its place, and the other places as in an empty table
abbrev pub placed : ℕ → List ℕ → List Lsp
placed n s = paths_of n s ++ replicate (64 - n) blank

abbrev pub table_of : List ℕ → Table
table_of im = record { count = count_in im; lsps = placed (count_in im) (drop 5 im) }

abbrev pub restored : Table → Restored
restored t = record { number = 0; table = t }

abbrev pub refused : Restored
refused = record { number = 10; table = empty }

abbrev pub restore_by : (image : Bool) → Table → Restored
restore_by true t = restored t
restore_by false t = refused

abbrev pub restore_of : List ℕ → Restored
restore_of im = restore_by (is_image im) (table_of im)

-- the image that octets begin with: it ends with the last field that its header counts
abbrev pub image_in : List ℕ → List ℕ
image_in s = take (image_length (count_in s)) s

-- ---- how the code tests heads and fields, and tells TTSIs apart

-- the head of n paths
abbrev pub head_of : ℕ → List ℕ
head_of n = 0x01 ∷ 0 ∷ 2 ∷ 0x01 ∷ n ∷ []

-- fields whose TTSIs differ from each other and from those seen
unfoldable pub all_fields : List (List ℕ) → List (List ℕ) → Bool
all_fields seen [] = true
all_fields seen (f ∷ fs) = both (is_field f) (both (absent (ttsi_in f) seen) (all_fields (seen ++ (ttsi_in f ∷ [])) fs))

-- equal TTSIs have the same mark
abbrev pub mark_of : List ℕ → ℕ
mark_of t = number_at t 4 8 % 251 + number_at t 12 8 % 251
