-- `field::reading::path_in` meets its contract. Assumes nothing.
use borrow.Author.Rules.{rules}
use mathlib.Core.Path.{◌≡◌, ap, ◌∙◌}
use native.Mathlib.Omega.{arith}
use lib.Dec.{eqb}
use lib.ListN.{length}
use Rattle.octets.specs.Parts.{octet_at}
use Rattle.field.specs.Field.{defect_of, availability_of, path_in}
use Rattle.field.proofs.Taken.{number_is}
use Rattle.field.proofs.reading.path_in.Goals as goal

pub returns : goal.returns
unfolding path_in
returns c =
    let s = c.args.s.now in
    let n : length s ≡ 79 = search rules in
    let dl = number_is s 24 3 _ n (omega arith) c.part-2.ensures c.from_be_bytes.ensures in
    let closed = number_is s 28 7 _ n (omega arith) c.part-3.ensures c.from_be_bytes-2.ensures in
    let code = number_is s 58 1 _ n (omega arith) c.part-6.ensures c.from_be_bytes-3.ensures in
    let since = number_is s 62 7 _ n (omega arith) c.part-7.ensures c.from_be_bytes-4.ensures in
    let defect = c.defect_of.ensures ∙ ap defect_of code in
    let availability = c.availability_of.ensures ∙ ap (availability_of (octet_at s 61)) since in
    λ i. record {
      kind = octet_at s 3;
      ttsi = c.part.ensures i;
      dl = dl i;
      state = record {
        closed = closed i;
        e = c.part-4.ensures i;
        u = c.part-5.ensures i;
        defect = defect i;
        stood = octet_at s 60;
        availability = availability i;
      };
      server = eqb (octet_at s 70) 1;
      fdi = c.fdi_in.ensures i;
    }
