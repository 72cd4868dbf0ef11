use mathlib.Core.Path.{◌≡◌}
use Rattle.image.proofs.Turns.{written}
use Rattle.image.proofs.saving.save.Given as goal

abbrev pub invariant-loop-i : goal.invariant-loop-i
invariant-loop-i l = l.buf ≡ written l.l-items l.n l.fn.buf l.i
