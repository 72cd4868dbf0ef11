-- `payload::reading::ttsi` meets its contract: what the reader answered decides which part is handed back.
-- Assumes nothing.
use mathlib.Core.Path.{sym, ◌∙◌}
use native.Mathlib.Omega.{arith}
use Rattle.payload.proofs.Answers.{accepted_long, accepted_by, refused_by, part_is, none_is}
use Rattle.payload.proofs.reading.ttsi.Goals as goal

pub slice_bounds-result-end : goal.slice_bounds-result-end
slice_bounds-result-end c =
    omega (arith, accepted_long c.args.p.now (accepted_by c.args.p.now c.read-answer.result c.read-answer.ensures (sym c.is_ok.ensures.value ∙ c.if-is_ok.true)))

pub returns-then-is_ok : goal.returns-then-is_ok
returns-then-is_ok c =
    let p = c.args.p in
    part_is p.now p.ref_ptr.0 p.ref_ptr.1 (accepted_by p.now c.read-answer.result c.read-answer.ensures (sym c.is_ok.ensures.value ∙ c.if-is_ok.true))

pub returns-else-is_ok : goal.returns-else-is_ok
returns-else-is_ok c =
    let p = c.args.p in
    none_is p.now p.ref_ptr.0 p.ref_ptr.1 (refused_by p.now c.read-answer.result c.read-answer.ensures (sym c.is_ok.ensures.value ∙ c.if-is_ok.false))
