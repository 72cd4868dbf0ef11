-- Writing from fields: what the call answers, and what it leaves in the octets lent to it.
-- Assumes nothing.
use Rattle.std.specs.Prelude.{ℕ, Bool, true, false, List, ◌++◌, eqb, leb, length, drop}
use Rattle.payload.specs.Test.{pick, both}
use Rattle.payload.specs.Layout.{Fields, cv, ffd, fdi, bdi, octets_of, is_type, valid}

-- the fields that the type's row names, out of all that are given; a number that is no type stands here with the last row
abbrev pub fields_of : ℕ → List ℕ → ℕ → ℕ → ℕ → Fields
fields_of ty t r dt dl = pick (eqb ty 1) (cv t) (pick (eqb ty 7) (ffd t r) (pick (eqb ty 2) (fdi t dt dl) (bdi t dt dl)))

abbrev pub may_write : ℕ → Fields → Bool
may_write ty f = both (is_type ty) (valid f)

-- what stands at offsets 2 and 3
abbrev pub word_of : ℕ → ℕ → ℕ
word_of ty dt = pick (eqb ty 1) 0 (pick (eqb ty 7) 0 dt)

-- the number, and the lent octets b afterwards: may says that the fields may be written, fits that 44 octets are lent
abbrev pub outcome : (may fits : Bool) → Fields → List ℕ → ℕ × List ℕ
outcome false fits f b = (12, b)
outcome true false f b = (11, b)
outcome true true f b = (0, octets_of f ++ drop 44 b)

abbrev pub written : ℕ → Fields → List ℕ → ℕ × List ℕ
written ty f b = outcome (may_write ty f) (leb 44 (length b)) f b

abbrev pub write_of : ℕ → List ℕ → ℕ → ℕ → ℕ → List ℕ → ℕ × List ℕ
write_of ty t r dt dl b = written ty (fields_of ty t r dt dl) b
