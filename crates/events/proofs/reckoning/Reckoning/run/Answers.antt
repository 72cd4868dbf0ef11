-- `events::reckoning::Reckoning::run` meets its contract: after some events, what is left to run gives the rest. Assumes nothing.
use borrow.Author.Rules.{rules}
use mathlib.Core.Path.{refl}
use native.Mathlib.Omega.{arith}
use Rattle.events.proofs.Runs.{is_field, none_done, goes_on, out_of_turns, no_field}
use Rattle.events.proofs.reckoning.Reckoning.run.Goals as goal
use Rattle.events.proofs.reckoning.Reckoning.run.Goals.{else-loop-test, then-loop-test+in-Err}

pub loop-init : goal.loop-init
loop-init c = record { going = refl; kept = none_done c.args.self c.args.s.now c.args.out.now c.of-paths.result.table _ c.of-paths.ensures (omega arith) }

pub overflow_add-field : goal.overflow_add-field
overflow_add-field c = let w = is_field c.args.s.now c.loop.taken c.in-Ok.size c.loop.invariant.kept.within c.in-Ok.ensures in search (rules, w.within)

pub slice_bounds-field-end : goal.slice_bounds-field-end
slice_bounds-field-end c = let w = is_field c.args.s.now c.loop.taken c.in-Ok.size c.loop.invariant.kept.within c.in-Ok.ensures in omega (arith, w.within)

pub event-answer-requires : goal.event-answer-requires
event-answer-requires c = (is_field c.args.s.now c.loop.taken c.in-Ok.size c.loop.invariant.kept.within c.in-Ok.ensures).enough

pub bounds-field-3 : goal.bounds-field-3
bounds-field-3 c = let w = is_field c.args.s.now c.loop.taken c.in-Ok.size c.loop.invariant.kept.within c.in-Ok.ensures in omega (arith, w.enough.least)

pub loop-preserved : goal.loop-preserved
loop-preserved c =
    let w = is_field c.args.s.now c.loop.taken c.in-Ok.size c.loop.invariant.kept.within c.in-Ok.ensures in
    record {
      going = c.loop.invariant.going;
      kept =
          goes_on c.loop.invariant.kept c.in-Ok.size _ w (omega (arith, c.loop-test.true)) c.event-answer.result _ c.say-text.new.out c.say-text.result
          c.event-answer.ensures c.saturating_add-events.ensures c.saturating_add-offset.ensures c.say-text.ensures.0 c.say-text.ensures.1;
    }

pub returns : goal.returns
returns c =
    elim c.loop-test.branch [
      | else-loop-test w ↦ rw (w.rest-is, c.loop.invariant.going) (out_of_turns c.loop.invariant.kept refl (omega (arith, w.loop-test.false)))
      | then-loop-test+in-Err w ↦ rw w.rest-is (no_field c.loop.invariant.kept w.in-Err.end refl (omega (arith, w.loop-test.true)) w.in-Err.ensures)
    ]
