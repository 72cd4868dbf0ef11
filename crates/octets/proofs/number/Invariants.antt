-- `octets::number` meets its contract: what is read and what is left stand for the whole. Assumes nothing.
use mathlib.Core.Path.{◌≡◌}
use Prim.Native.Nat.{◌^◌, ◌<◌}
use lib.ListN.{drop}
use Rattle.octets.specs.Number.{number_from, number_of}
use Rattle.octets.proofs.number.Given as goal

abbrev pub invariant-loop-b : goal.invariant-loop-b
invariant-loop-b l = (l.x < 256 ^ l.b-index) × (number_from l.x (drop l.b-index l.s) ≡ number_of l.s)
