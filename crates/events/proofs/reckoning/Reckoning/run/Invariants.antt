-- `events::reckoning::Reckoning::run` meets its contract: after some events, what is left to run gives the rest. Assumes nothing.
use mathlib.Core.Path.{◌≡◌}
use Prim.Native.Nat.{◌-◌, ◌/◌}
use lib.ListN.{length}
use Rattle.std.specs.Prelude.{None}
use Rattle.events.proofs.Runs.{Kept}
use Rattle.events.proofs.reckoning.Reckoning.run.Given as goal

abbrev pub invariant-loop : goal.invariant-loop
invariant-loop l =
    record {
      going : l.rest ≡ None;
      kept : Kept (length l.initial.out / 65) l.fn.self l.s l.initial.out l.out (record { table = l.paths.table; events = l.events; offset = l.offset })
          (l.end - l.counter) l.taken l.text;
    }
