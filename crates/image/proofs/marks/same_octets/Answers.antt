use Rattle.image.proofs.Compared.{lasts_differ}
use Rattle.image.proofs.marks.same_octets.Goals as goal

pub returns-else-eq : goal.returns-else-eq
returns-else-eq c =
    lasts_differ c.last.result c.last-2.result c.args.a.now c.args.b.now c.eq.result c.last.ensures.value c.last-2.ensures.value c.eq.ensures c.if-eq.false
