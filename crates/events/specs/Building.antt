-- What a line holds while it is built.
-- Assumes nothing.
use Rattle.std.specs.Prelude.{ℕ, List, drop}
use Rattle.events.specs.declared.lines.Line.{Line}

abbrev pub text_of : Line → List ℕ
text_of l = drop l.from l.octets
