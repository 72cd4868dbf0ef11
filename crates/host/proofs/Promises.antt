-- Two outcomes that meet a promise are equal. Assumes nothing.
use Rattle.payload.proofs.Promises.{one}
use Rattle.host.specs.Promises.{OneOutcome}

pub one_outcome : OneOutcome
one_outcome =
    record {
      empty = λ s. one _;
      add = λ s kind ttsi dl. one _;
      receive = λ s i p. one _;
      server = λ s i v. one _;
      close = λ s i a. one _;
      write_fdi = λ s i b. one _;
      write_bdi = λ s i b. one _;
      write = λ ty t r dt dl b. one _;
      number = λ r. one _;
      number_read = λ r. one _;
    }
