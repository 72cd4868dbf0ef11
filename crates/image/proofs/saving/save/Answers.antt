use native.Mathlib.Omega.{arith}
use lib.ListN.{take}
use Rattle.image.proofs.Turns.{written_start}
use Rattle.image.proofs.saving.save.Goals as goal

pub loop-i-init : goal.loop-i-init
loop-i-init c =
    written_start (take c.present-n.result c.args.t.lsps) c.present-n.result c.args.buf.now c.head.ensures (omega arith) c.copy.ensures
