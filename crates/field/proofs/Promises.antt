-- Two outcomes that meet a promise are equal. Assumes nothing.
use mathlib.Core.Path.{sym, ◌∙◌}
use Rattle.refusal.proofs.Numbers.{same_written}
use Rattle.payload.proofs.Promises.{one}
use Rattle.field.specs.Promises.{OneOutcome}

pub one_outcome : OneOutcome
one_outcome = record { write = λ l b x y p q. same_written x y (p ∙ sym q); path_of = λ s. one _; is_field = λ s. one _ }
