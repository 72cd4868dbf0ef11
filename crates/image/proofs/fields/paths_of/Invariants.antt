use mathlib.Core.Path.{◌≡◌}
use Rattle.image.proofs.Chunks.{placed_to}
use Rattle.image.proofs.fields.paths_of.Given as goal

abbrev pub invariant-loop-i : goal.invariant-loop-i
invariant-loop-i l = l.lsps ≡ placed_to l.fields l.i
