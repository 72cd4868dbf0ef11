-- What the calls' promises leave open: nothing. Two outcomes that meet a call's promise are equal. `proofs/Promises.antt` proves it.
-- Assumes nothing.
use Rattle.std.specs.Prelude.{◌≡◌, Bool, List, ℕ, Option, Result}
use Rattle.rules.specs.Machine.{fresh, receive}
use Rattle.refusal.specs.declared.Refusal.{Refusal}
use Rattle.window.specs.Sums.{sums_of}
use Rattle.window.specs.View.{standing, code_of, unavailable_of, record_of, view, state_out, packet_of, turned_of}
use Rattle.window.specs.Outcomes.{turned_in}
use Rattle.window.specs.Steady.{is_steady, moved_on}
use Rattle.window.specs.declared.sums.Sums.{Sums}
use Rattle.window.specs.declared.state.Defect.{Defect}
use Rattle.window.specs.declared.state.Availability.{Availability}
use Rattle.window.specs.declared.state.Record.{Record}
use Rattle.window.specs.declared.state.State.{State}

-- a promise over outcomes X has room for one at most
abbrev pub One : (X : Type 0) → (X → Type 0) → Type 0
One X P = (x y : X) → P x → P y → x ≡ y

pub record OneOutcome : Type 0 where
  pub sum_last : (rows : List (List ℕ)) (k : ℕ) → One Sums (λ r. r ≡ sums_of rows k)
  pub stands : (d : Defect) → One Bool (λ r. r ≡ standing d)
  pub code : (d : Defect) → One ℕ (λ r. r ≡ code_of d)
  pub fresh_state : One State (λ r. r ≡ state_out fresh)
  pub receive : (s : State) (b : Bool) → One State (λ r. r ≡ state_out (receive (packet_of b) (view s)))
  pub close : (cv : Bool) (s : State) → One (Result (State × Option Record) Refusal) (λ r. turned_in s r ≡ turned_of cv s)
  pub is_steady : (s : State) → One Bool (λ r. r ≡ is_steady s)
  pub moved_on : (s : State) → One State (λ r. r ≡ moved_on s)

-- the paper's numbers tell the cases of each enum apart
pub record ByNumber : Type 0 where
  pub code : (x y : Defect) → code_of x ≡ code_of y → x ≡ y
  pub unavailable : (x y : Availability) → unavailable_of x ≡ unavailable_of y → x ≡ y
  pub handed : (x y : Option Record) → record_of x ≡ record_of y → x ≡ y
