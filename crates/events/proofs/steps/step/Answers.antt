-- `events::steps::step` meets its contract: a path's own packet is counted. Assumes nothing.
use mathlib.Core.Bool.{true}
use mathlib.Core.Path.{◌≡◌, sym, ap, ◌∙◌}
use native.Mathlib.Omega.{arith}
use Prim.Native.Nat.{◌-◌}
use lib.ListN.{length, take, drop, length-drop}
use lib.Seq.{take_all}
use Rattle.events.specs.Own.{own_of, is_own}
use Rattle.events.specs.Outcomes.{Own}
use Rattle.events.proofs.Told.{counts_step}
use Rattle.events.proofs.steps.step.Goals as goal

pub returns-in-18 : goal.returns-in-18
returns-in-18 c =
    let l = c.args.l.now in
    let f = c.args.field.now in
    let behind : take (length f - 4) (drop 4 f) ≡ drop 4 f = take_all (length f - 4) (drop 4 f) (simp length-drop (omega arith)) in
    let own : is_own (own_of l) (drop 4 f) ≡ true = ap (λ (o : Own). is_own o (drop 4 f)) (sym c.requires.owned) ∙ (rw behind at (sym c.is_own.ensures)) ∙ c.if-is_own.true in
    rw c.receive-l.ensures (sym (counts_step l f c.in-18.is own))
