-- Two outcomes that meet a promise are equal. Assumes nothing.
use Rattle.std.proofs.Common.{◌≡◌, sym, ◌∙◌, arith, ℕ, List, Result}
use Rattle.std.proofs.lemmas.Grind.{common_steps}
use Rattle.payload.proofs.Promises.{one}
use Rattle.events.specs.Outcomes.{Ran as Said, field_in, ran_in}
use Rattle.events.specs.Promises.{OneOutcome}
use Rattle.events.specs.declared.framing.Rest.{Rest}
use Rattle.events.specs.declared.reckoning.Ran.{Ran}

one_frame : (x y : Result ℕ Rest) → field_in x ≡ field_in y → x ≡ y
one_frame x y e = grind (arith, common_steps)

one_run : (x y : Ran × List ℕ) → ◌≡◌ {A = Said × List ℕ} (ran_in x.0, x.1) (ran_in y.0, y.1) → x ≡ y
one_run x y e = grind (arith, common_steps)

pub one_outcome : OneOutcome
one_outcome =
    record {
      frame = λ s x y p q. one_frame x y (p ∙ sym q);
      start = one _;
      run = λ r s b x y p q. one_run x y (p ∙ sym q);
      finish = λ r whole b. one _;
    }
