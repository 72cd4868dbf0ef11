-- The struct and the machine's state are the same thing seen from two sides. Assumes nothing.
use Rattle.std.proofs.Common.{◌≡◌, arith}
use Rattle.std.proofs.lemmas.Grind.{common_steps}
use Rattle.rules.specs.Rules.{Record}
use Rattle.rules.specs.Machine as machine
use Rattle.window.specs.View.{defect_in, defect_out, availability_in, availability_out, record_out, view, state_out}
use Rattle.window.specs.declared.state.Defect.{Defect}
use Rattle.window.specs.declared.state.Availability.{Availability}

pub out_in : (d : Defect) → d ≡ defect_out (defect_in d)
out_in d = grind (arith, common_steps)

pub in_out : (d : machine.Defect) → defect_in (defect_out d) ≡ d
in_out d = grind (arith, common_steps)

pub available_out_in : (a : Availability) → a ≡ availability_out (availability_in a)
available_out_in a = grind (arith, common_steps)

pub view_out : (s : machine.State) → view (state_out s) ≡ s
view_out s = grind (arith, common_steps)

pub record_out_one : (r q : Record) → record_out r ≡ record_out q → r ≡ q
record_out_one r q e = grind (arith, common_steps)
