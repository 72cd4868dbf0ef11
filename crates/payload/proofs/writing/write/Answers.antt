-- `payload::writing::write` meets its contract: the parts are lent one behind the other, and `Stores` says what they make together.
-- Assumes nothing.
use mathlib.Core.Path.{sym, ap, ◌∙◌}
use native.Mathlib.Omega.{arith}
use lib.ListN.{length-take}
use Rattle.payload.specs.Writing.{write_of}
use Rattle.payload.proofs.Rows.{type_is}
use Rattle.payload.proofs.Stores.{stored}
use Rattle.payload.proofs.writing.write.Goals as goal

pub slice_bounds-seal-end-2 : goal.slice_bounds-seal-end-2
slice_bounds-seal-end-2 c = simp length-take (omega arith)

pub seal-requires : goal.seal-requires
seal-requires c = simp length-take (omega arith)

pub returns : goal.returns
returns c =
    let a = c.args in
    stored c.in-Ok.ty a.ttsi.now a.rate a.dt a.dl a.buf.now c.in-Some.found (sym c.row.ensures ∙ c.in-Some.is) c.if-buf-lt-LENGTH.false _ _ _ _
    (c.copy_from_slice.ensures.after ∙ c.head.ensures) c.copy_from_slice-2.ensures.after c.tail.ensures c.seal.ensures
    ∙ ap (λ ty. write_of ty a.ttsi.now a.rate a.dt a.dl a.buf.now) (sym (type_is a.ty c.in-Ok.ty (sym c.try_from.ensures ∙ c.in-Ok.is)))
