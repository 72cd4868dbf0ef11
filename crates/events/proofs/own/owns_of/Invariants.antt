-- `events::own::owns_of` meets its contract: the first i paths have theirs. Assumes nothing.
use mathlib.Core.Path.{◌≡◌}
use lib.ListN.{length}
use Rattle.events.proofs.Owns.{Owned}
use Rattle.events.proofs.own.owns_of.Given as goal

abbrev pub invariant-loop-i : goal.invariant-loop-i
invariant-loop-i l = (length l.owns ≡ 64) × Owned l.owns l.lsps l.i
