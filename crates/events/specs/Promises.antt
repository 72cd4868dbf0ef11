-- What the calls' promises leave open: nothing. `proofs/Promises.antt` proves it.
-- Assumes nothing.
use Rattle.std.specs.Prelude.{◌≡◌, Bool, List, ℕ, Result}
use Rattle.payload.specs.Promises.{One}
use Rattle.events.specs.Framing.{frame_of}
use Rattle.events.specs.Printed.{begin, run_of, finish_of}
use Rattle.events.specs.Outcomes.{field_in, ran_in}
use Rattle.events.specs.declared.framing.Rest.{Rest}
use Rattle.events.specs.declared.reckoning.Reckoning.{Reckoning}
use Rattle.events.specs.declared.reckoning.Ran.{Ran}

pub record OneOutcome : Type 0 where
  pub frame : (s : List ℕ) → One (Result ℕ Rest) (λ r. field_in r ≡ frame_of s)
  pub start : One Reckoning (λ r. r ≡ begin)
  -- the answer and the lent octets afterwards
  pub run : (r : Reckoning) (s b : List ℕ) → One (Ran × List ℕ) (λ x. (ran_in x.0, x.1) ≡ run_of r s b)
  pub finish : (r : Reckoning) (whole : Bool) (b : List ℕ) → One (ℕ × List ℕ) (λ x. x ≡ finish_of r whole b)
