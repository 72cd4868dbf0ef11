-- A path's own packet: CV, or FFD of its rate, with the TTSI that it expects.
-- Assumes nothing.
use Rattle.std.specs.Prelude.{ℕ, Bool, List, eqb, replicate}
use Rattle.payload.specs.Test.{pick, both}
use Rattle.payload.specs.Writing.{write_of}
use Rattle.lsp.specs.Steps.{same}
use Rattle.lsp.specs.declared.path.Lsp.{Lsp}
use Rattle.events.specs.Outcomes.{Own}

abbrev pub written_own : ℕ → List ℕ → ℕ × List ℕ
written_own kind ttsi = write_of (pick (eqb kind 0) 0x01 0x07) ttsi kind 0 0 (replicate 44 0)

abbrev pub own_for : ℕ → List ℕ → Own
own_for kind ttsi = record { there = eqb (written_own kind ttsi).0 0; octets = (written_own kind ttsi).1 }

unfoldable pub own_of : Lsp → Own
own_of l = own_for l.kind l.ttsi

abbrev pub is_own : Own → List ℕ → Bool
is_own o p = both o.there (same p o.octets)
