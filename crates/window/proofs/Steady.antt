-- The law that the close of a steady state only moves the rows on. Assumes nothing.
use Rattle.std.proofs.Common.{◌≡◌, Bool, true, arith, None}
use Rattle.std.proofs.lemmas.Grind.{common_steps}
use Rattle.std.proofs.lemmas.Bool.Decides.{nat_tests}
use Rattle.rules.specs.Machine.{verdict, judge, turn}
use Rattle.window.specs.View.{turned_of}
use Rattle.window.specs.Steady.{is_steady, moved_on, Steady}
use Rattle.window.specs.declared.state.State.{State}

still : (cv : Bool) (s : State) → is_steady s ≡ true → turned_of cv s ≡ record { number = 0; state = moved_on s; handed = None }
unfolding verdict judge turn
still cv s h = grind (arith, common_steps, nat_tests)

pub steady : Steady
steady = record { close = still }
