-- `host::record::put` meets its contract. Assumes nothing.
use borrow.Author.Rules.{rules}
use mathlib.Core.Path.{refl, sym}
use Rattle.host.proofs.Called.{Found, found}
use Rattle.host.proofs.InPlace.{put_in_place}
use Rattle.host.specs.Records.{with_path}
use Rattle.host.proofs.record.put.Goals as goal

pub returns : goal.returns
unfolding with_path
returns c =
    let s = c.args.image.now in
    let w : Found s c.args.lsp = found s c.args.lsp 0 (sym c.requires) refl in
    put_in_place s w.opens.image (λ i. search rules) c.args.lsp _ c.args.l _ w.less c.write.ensures c.write.auto.s
