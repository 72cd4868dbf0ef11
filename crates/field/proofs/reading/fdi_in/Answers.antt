-- `field::reading::fdi_in` meets its contract. Assumes nothing.
use borrow.Author.Rules.{rules}
use mathlib.Core.Path.{◌≡◌}
use native.Mathlib.Omega.{arith}
use lib.ListN.{length}
use Rattle.field.proofs.Taken.{number_is}
use Rattle.field.proofs.reading.fdi_in.Goals as goal

pub returns : goal.returns
returns c =
    let s = c.args.s.now in
    let n : length s ≡ 79 = search rules in
    let left = number_is s 71 1 _ n (omega arith) c.part.ensures c.from_be_bytes.ensures in
    let dt = number_is s 73 1 _ n (omega arith) c.part-2.ensures c.from_be_bytes-2.ensures in
    let dl = number_is s 75 3 _ n (omega arith) c.part-3.ensures c.from_be_bytes-3.ensures in
    λ i. record { left = left i; dt = dt i; dl = dl i }
