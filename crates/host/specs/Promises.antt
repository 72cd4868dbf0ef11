-- What the calls' promises leave open: nothing. `proofs/Promises.antt` proves it.
-- Assumes nothing.
use Rattle.std.specs.Prelude.{◌≡◌, List, ℕ, Result}
use Rattle.refusal.specs.Numbers.{number_in}
use Rattle.refusal.specs.declared.Refusal.{Refusal}
use Rattle.payload.specs.Reading.{answer_of}
use Rattle.payload.specs.declared.found.Found.{Found}
use Rattle.payload.specs.Promises.{One}
use Rattle.payload.specs.Writing.{write_of}
use Rattle.host.specs.Calls.{empty_of, add_of, receive_of, server_on, close_of, write_row_of}

-- the number and every lent buffer afterwards
pub record OneOutcome : Type 0 where
  pub empty : (s : List ℕ) → One (ℕ × List ℕ) (λ r. r ≡ empty_of s)
  pub add : (s : List ℕ) (kind : ℕ) (ttsi : List ℕ) (dl : ℕ) → One (ℕ × List ℕ) (λ r. r ≡ add_of s kind ttsi dl)
  pub receive : (s : List ℕ) (i : ℕ) (p : List ℕ) → One (ℕ × List ℕ) (λ r. r ≡ receive_of s i p)
  pub server : (s : List ℕ) (i v : ℕ) → One (ℕ × List ℕ) (λ r. r ≡ server_on s i v)
  pub close : (s : List ℕ) (i : ℕ) (a : List ℕ) → One (ℕ × List ℕ × List ℕ) (λ r. r ≡ close_of s i a)
  pub write_fdi : (s : List ℕ) (i : ℕ) (b : List ℕ) → One (ℕ × List ℕ) (λ r. r ≡ write_row_of 0x02 s i b)
  pub write_bdi : (s : List ℕ) (i : ℕ) (b : List ℕ) → One (ℕ × List ℕ) (λ r. r ≡ write_row_of 0x03 s i b)
  pub write : (ty : ℕ) (t : List ℕ) (r dt dl : ℕ) (b : List ℕ) → One (ℕ × List ℕ) (λ x. x ≡ write_of ty t r dt dl b)
  -- the number of an answer, by which these calls hand it on; of what the reader answers it is the paper's
  pub number : (r : Result (Unit {0}) Refusal) → One ℕ (λ n. n ≡ number_in r)
  pub number_read : (r : Result Found Refusal) → One ℕ (λ n. n ≡ (answer_of r).number)
