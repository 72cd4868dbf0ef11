-- What the calls' promises leave open: nothing. Two outcomes that meet a call's promise are equal; the number by which an answer is
-- handed on is the paper's; a writer's answer hangs on no field that its row doesn't name. `proofs/Promises.antt` proves all three.
-- Assumes nothing.
use Rattle.std.specs.Prelude.{◌≡◌, Bool, List, ℕ, Result}
use Rattle.refusal.specs.Numbers.{number_in}
use Rattle.refusal.specs.declared.Refusal.{Refusal}
use Rattle.payload.specs.Rates.{is_rate, interval_of, rate_life_of, is_kind, slot_of, life_of}
use Rattle.payload.specs.Layout.{is_defect, is_ttsi}
use Rattle.payload.specs.Numbers.{type_in, defect_in}
use Rattle.payload.specs.Writing.{write_of}
use Rattle.payload.specs.Reading.{answer_of, read_of, ttsi_part, ttsi_place}
use Rattle.payload.specs.declared.found.Found.{Found}
use Rattle.payload.specs.declared.layout.DefectType.{DefectType}
use Rattle.payload.specs.declared.layout.FunctionType.{FunctionType}
use Rattle.payload.specs.declared.layout.Unknown.{Unknown}

-- a promise over outcomes X has room for one at most
abbrev pub One : (X : Type 0) → (X → Type 0) → Type 0
One X P = (x y : X) → P x → P y → x ≡ y

-- where a call is an equation `outcome ≡ definition`, its outcome is all that it answers and leaves
pub record OneOutcome : Type 0 where
  pub read : (p : List ℕ) → One (Result Found Refusal) (λ r. answer_of r ≡ read_of p)
  pub number : (r : Result Found Refusal) → One ℕ (λ n. n ≡ (answer_of r).number)
  -- of a slice, where it begins and its octets; its ghost name is no outcome
  pub ttsi : (at : ℕ × ℕ) (p : List ℕ) → One ((ℕ × ℕ) × List ℕ) (λ r. r ≡ ttsi_part at p)
  pub ttsi_place : (at : ℕ × ℕ) (p : List ℕ) → One ((ℕ × ℕ) × List ℕ) (λ r. r ≡ ttsi_place at p)
  -- the answer, by its number, and the lent octets afterwards
  pub write : (ty : ℕ) (t : List ℕ) (r dt dl : ℕ) (b : List ℕ)
      → One (Result (Unit {0}) Refusal × List ℕ) (λ x. (number_in x.0, x.1) ≡ write_of ty t r dt dl b)
  pub is_ttsi : (t : List ℕ) → One Bool (λ r. r ≡ is_ttsi t)
  pub function_type : (ty : ℕ) → One (Result FunctionType (Unknown ℕ)) (λ r. r ≡ type_in ty)
  pub defect_type : (dt : ℕ) → One (Result DefectType (Unknown ℕ)) (λ r. r ≡ defect_in dt)
  pub is_defect : (dt : ℕ) → One Bool (λ r. r ≡ is_defect dt)
  pub is_rate : (code : ℕ) → One Bool (λ r. r ≡ is_rate code)
  pub interval : (code : ℕ) → One ℕ (λ r. r ≡ interval_of code)
  pub rate_life : (code : ℕ) → One ℕ (λ r. r ≡ rate_life_of code)
  pub is_kind : (kind : ℕ) → One Bool (λ r. r ≡ is_kind kind)
  pub slot : (kind : ℕ) → One ℕ (λ r. r ≡ slot_of kind)
  pub kind_life : (kind : ℕ) → One ℕ (λ r. r ≡ life_of kind)

-- the call of crate `refusal` that hands on the number of an answer, done or refused, hands on the paper's
pub record NumberRead : Type 0 where
  pub number : (r : Result Found Refusal) → number_in r ≡ (answer_of r).number

-- CV looks at the TTSI alone, FFD at the rate too, FDI and BDI at DT and DL
pub record Named (t b : List ℕ) (r r' dt dt' dl dl' : ℕ) : Type 0 where
  pub cv : write_of 0x01 t r dt dl b ≡ write_of 0x01 t r' dt' dl' b
  pub ffd : write_of 0x07 t r dt dl b ≡ write_of 0x07 t r dt' dl' b
  pub fdi : write_of 0x02 t r dt dl b ≡ write_of 0x02 t r' dt dl b
  pub bdi : write_of 0x03 t r dt dl b ≡ write_of 0x03 t r' dt dl b
