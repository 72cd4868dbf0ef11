use mathlib.Core.Bool.{true}
use mathlib.Core.List.{[]}
use mathlib.Core.Path.{◌≡◌, sym, ◌∙◌}
use lib.ListN.{get_or, length-set}
use Rattle.field.specs.Field.{ttsi_in}
use Rattle.image.specs.Image.{absent}
use Rattle.image.proofs.Chunks.{before, before_next, seen_twice, not_seen, goes_on}
use Rattle.image.proofs.Marked.{unmarked, marked}
use Rattle.image.proofs.fields.are_fields.Goals as goal
use Rattle.image.proofs.fields.are_fields.Goals.{else-marks-m-via-then-marks-m+else-is_seen, else-marks-m-via-else-marks-m}

pub returns-then-is_seen : goal.returns-then-is_seen
returns-then-is_seen c =
    seen_twice c.args.fields.now c.loop-i.i c.loop-i-test.true c.loop-i.invariant.2 _ c.ttsi.ensures (sym c.is_seen.ensures ∙ c.if-is_seen.true)

pub loop-i-preserved : goal.loop-i-preserved
loop-i-preserved c =
    let fs = c.args.fields.now in
    let loop = c.loop-i in
    let h = c.loop-i-test.true in
    let t = ttsi_in (get_or fs loop.i []) in
    let new : absent t (before fs loop.i) ≡ true =
    elim c.else-marks-m.branch [
      | else-marks-m-via-then-marks-m+else-is_seen w ↦ not_seen fs loop.i h _ w.ttsi.ensures (sym w.is_seen.ensures ∙ w.if-is_seen.false)
      | else-marks-m-via-else-marks-m w ↦ unmarked loop.marks t (before fs loop.i) loop.invariant.1 (rw c.mark-m.ensures at w.if-marks-m.false)
    ] in (
      length-set loop.marks _ _ ∙ loop.invariant.0,
      rw (c.mark-m.ensures, before_next fs loop.i h) (marked loop.marks loop.invariant.0 t (before fs loop.i) loop.invariant.1),
      goes_on fs loop.i h loop.invariant.2 (sym c.is_field.ensures ∙ c.if-not-is_field.false) new,
    )
