-- `host::record::find` meets its contract. Assumes nothing.
use native.Mathlib.Omega.{arith}
use Rattle.host.proofs.Called.{a_path}
use Rattle.host.proofs.record.find.Goals as goal

pub returns-clause-number : goal.returns-clause-number
returns-clause-number c = a_path c.args.image.now c.args.lsp c.in_ok-opened.ensures.number (omega (arith, c.in_ok-opened.ensures.count))
