-- Demand 2: what reading and writing are to each other. `proofs/Law.antt` proves the claim.
-- Assumes nothing.
use Rattle.std.specs.Prelude.{◌≡◌, true, ◌↔◌, List, ◌++◌, ℕ, ◌<◌, ◌≤◌, length, get_or, take, drop}
use Rattle.payload.specs.Layout.{Fields, ttsi_of, octets_of, is_type, Valid}
use Rattle.payload.specs.Writing.{fields_of, write_of}
use Rattle.payload.specs.Reading.{read_of, ttsi_at, shown}

-- as a slice of octets has it
abbrev pub Octets : List ℕ → Type 0
Octets p = (i : ℕ) → get_or p i 0 < 256

-- the reader and the TTSI call together answer the fields f
abbrev pub Reads : List ℕ → Fields → Type 0
Reads p f = (read_of p ≡ shown f) × (ttsi_at p ≡ ttsi_of f)

-- given by numbers, as the writer has them, the fields f
abbrev pub Gives : ℕ → List ℕ → ℕ → ℕ → ℕ → Fields → Type 0
Gives ty t r dt dl f = (is_type ty ≡ true) × (fields_of ty t r dt dl ≡ f)

pub record Demand2 : Type 0 where
  -- octets are read as f exactly when f obeys its rules and they are f's layout
  pub law : (p : List ℕ) (f : Fields) → Octets p → Reads p f ↔ (Valid f × (p ≡ octets_of f))
  -- what a write that answers 0 left is read as the fields given
  pub written_then_read : (ty : ℕ) (t : List ℕ) (r dt dl : ℕ) (b : List ℕ)
      → (write_of ty t r dt dl b).0 ≡ 0 → Reads (take 44 (write_of ty t r dt dl b).1) (fields_of ty t r dt dl)
  -- what was read is written again, octet for octet, whatever the buffer held
  pub read_then_written : (p : List ℕ) (f : Fields) (ty : ℕ) (t : List ℕ) (r dt dl : ℕ) (b : List ℕ)
      → Octets p → Reads p f → Gives ty t r dt dl f → 44 ≤ length b → write_of ty t r dt dl b ≡ (0, p ++ drop 44 b)
  -- no second octet string has the same fields
  pub one_layout : (p q : List ℕ) (f : Fields) → Octets p → Octets q → Reads p f → Reads q f → p ≡ q
