-- What octets begin with: a field that more octets may complete, one that is bad whatever follows, or a whole one of so many octets.
-- Assumes nothing.
use Rattle.std.specs.Prelude.{ℕ}

pub data Field : Type 0 where
  Cut : Field
  Bad : Field
  Whole : ℕ → Field
