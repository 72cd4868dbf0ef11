-- `octets::put_number` meets its contract: what is written and the octets of what is left are the octets of x. Assumes nothing.
use mathlib.Core.Path.{◌≡◌}
use mathlib.Core.List.{◌++◌}
use lib.ListN.{length, drop}
use Rattle.octets.specs.Number.{octets}
use Rattle.octets.proofs.put_number.Given as goal

abbrev pub invariant-loop-i : goal.invariant-loop-i
invariant-loop-i l = (length l.s ≡ length l.initial.s) × (octets l.i l.rest ++ drop l.i l.s ≡ octets (length l.initial.s) l.x)
