-- `events::lines::Line::number` meets its contract. Assumes nothing.
use native.Mathlib.Omega.{arith}
use Rattle.events.proofs.Built.{spelling, digit, last_digit}
use Rattle.events.proofs.lines.Line.number.Goals as goal

pub loop-rest-init : goal.loop-rest-init
loop-rest-init c = spelling _ _ (omega (arith, c.ranges.n))

pub loop-rest-preserved : goal.loop-rest-preserved
loop-rest-preserved c = digit c.before-next.result c.loop-rest.invariant c.before-next.ensures.1 c.loop-rest-test.true c.before-next.ensures.0

pub returns : goal.returns
returns c =
    let p = c.loop-rest.invariant in
    (last_digit c.before-2.result p c.before-2.ensures.1 c.loop-rest-test.false c.before-2.ensures.0, omega (arith, p.place, p.some, p.few, c.before-2.ensures.1))
