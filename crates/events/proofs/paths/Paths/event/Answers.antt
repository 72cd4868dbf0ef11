-- `events::paths::Paths::event` meets its contract: a step leaves the path's own packet. Assumes nothing.
use Rattle.events.proofs.Told.{still_owned}
use Rattle.events.proofs.paths.Paths.event.Goals as goal

pub invariant_of-self : goal.invariant_of-self
invariant_of-self c =
    let paths = c.args.self.now in
    record { owned = still_owned paths.table c.args.field.now c.from-i.result c.step.result _ c.step.ensures paths.owns paths.owned }
