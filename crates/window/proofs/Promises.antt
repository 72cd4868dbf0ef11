-- Two outcomes that meet a promise are equal, and the paper's numbers tell cases apart. Assumes nothing.
use Rattle.std.proofs.Common.{◌≡◌, sym, ◌∙◌, arith, Option, Result}
use Rattle.std.proofs.lemmas.Grind.{common_steps}
use Rattle.refusal.specs.Numbers.{number_of}
use Rattle.refusal.specs.declared.Refusal.{Refusal}
use Rattle.window.specs.View.{code_of, unavailable_of, record_of}
use Rattle.window.specs.Outcomes.{turned_in}
use Rattle.window.specs.Promises.{One, OneOutcome, ByNumber}
use Rattle.window.specs.declared.state.Defect.{Defect}
use Rattle.window.specs.declared.state.Availability.{Availability}
use Rattle.window.specs.declared.state.Record.{Record}
use Rattle.window.specs.declared.state.State.{State}

one_defect : (x y : Defect) → code_of x ≡ code_of y → x ≡ y
one_defect x y e = grind (arith, common_steps)

one_availability : (x y : Availability) → unavailable_of x ≡ unavailable_of y → x ≡ y
one_availability x y e = grind (arith, common_steps)

one_record : (x y : Option Record) → record_of x ≡ record_of y → x ≡ y
one_record x y e = grind (arith, common_steps)

one_number : (r q : Refusal) → number_of r ≡ number_of q → r ≡ q
one_number r q e = grind (arith, common_steps)

one_turned : (s : State) (x y : Result (State × Option Record) Refusal) → turned_in s x ≡ turned_in s y → x ≡ y
one_turned s x y e = grind (arith, common_steps, one_number)

one : {X : Type 0} (d : X) → One X (λ r. r ≡ d)
one d x y p q = p ∙ sym q

pub one_outcome : OneOutcome
one_outcome =
    record {
      sum_last = λ rows k. one _;
      stands = λ d. one _;
      code = λ d. one _;
      fresh_state = one _;
      receive = λ s b. one _;
      close = λ cv s x y p q. one_turned s x y (p ∙ sym q);
      is_steady = λ s. one _;
      moved_on = λ s. one _;
    }

pub by_number : ByNumber
by_number = record { code = one_defect; unavailable = one_availability; handed = one_record }
