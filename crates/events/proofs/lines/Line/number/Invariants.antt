-- `events::lines::Line::number` meets its contract. Assumes nothing.
use Rattle.events.proofs.Built.{Spelling}
use Rattle.events.proofs.lines.Line.number.Given as goal

abbrev pub invariant-loop-rest : goal.invariant-loop-rest
invariant-loop-rest l = Spelling l.n l.initial.next l.next l.rest

abbrev pub decreases-loop-rest : goal.decreases-loop-rest
decreases-loop-rest l = l.rest
