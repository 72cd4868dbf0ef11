-- Two outcomes that meet a promise are equal. Assumes nothing.
use Rattle.payload.proofs.Promises.{one}
use Rattle.octets.specs.Promises.{OneOutcome}

pub one_outcome : OneOutcome
one_outcome = record { number = λ s. one _; put_number = λ s x. one _; copy = λ from to. one _ }
