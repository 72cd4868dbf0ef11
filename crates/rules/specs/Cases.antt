-- The paper's numbers to meet that count packets, as one table: E of each slot from the first, none unexpected, and what the
-- last close leaves and hands out. The claim is of a CV path: the rules give it, and the machine answers it.
use Rattle.std.specs.Prelude.{ℕ, suc, ◌-◌, ◌≡◌, true, List, [], ◌∷◌, ◌++◌, length, get_or, replicate}
use Rattle.rules.specs.Counts.{Counts}
use Rattle.rules.specs.Rules.{locv, excess, Record, nothing, U, B, HandsOut}
use Rattle.rules.specs.Machine.{State, Defect, none, stands, Availability, available, unavailable, close, handed_out}
use Rattle.rules.specs.History.{state_of, filled, slots}
use Rattle.rules.specs.Claim.{GivesDefect, GivesAvailability}

-- what a close leaves and hands out
pub record Outcome : Type 0 where
  pub defect : Defect
  pub availability : Availability
  pub handed : Record

pub record Case : Type 0 where
  pub e : List ℕ
  pub gives : Outcome

abbrev pub counts : List ℕ → Counts
counts es = record { expected = λ i. get_or es (i - 1) 0; unexpected = λ i. 0 }

-- the slots before the last
abbrev pub earlier : List ℕ → ℕ
earlier [] = 0
earlier (x ∷ xs) = length xs

-- what the machine answers at the close of the last slot
unfoldable pub answered : List ℕ → Outcome
answered es =
    let s : State = state_of true (filled (counts es) (suc (earlier es)) (slots (counts es) (earlier es))) in
    record { defect = (close true s).defect; availability = (close true s).availability; handed = handed_out true s }

pub record Met (x : Case) : Type 0 where
  pub machine : answered x.e ≡ x.gives
  pub defect : GivesDefect (counts x.e) (suc (earlier x.e)) x.gives.defect
  pub availability : GivesAvailability 1 (counts x.e) (suc (earlier x.e)) x.gives.availability
  pub handed : HandsOut 1 (counts x.e) (suc (earlier x.e)) x.gives.handed

abbrev pub AllMet : List Case → Type 0
AllMet [] = Unit {0}
AllMet (x ∷ xs) = Met x × AllMet xs

abbrev pub case : List ℕ → Defect → Availability → Record → Case
case es d a r = record { e = es; gives = record { defect = d; availability = a; handed = r } }

abbrev pub table : List Case
table =
    case (0 ∷ 0 ∷ []) none available nothing  -- P5
    ∷ case (0 ∷ 0 ∷ 0 ∷ []) (stands locv) available nothing  -- P6
    ∷ case (0 ∷ 0 ∷ 0 ∷ 1 ∷ []) (stands locv) available nothing  -- P7
    ∷ case (0 ∷ 0 ∷ 0 ∷ 1 ∷ 1 ∷ []) none available (B 1 3)  -- P8
    ∷ case (1 ∷ 1 ∷ 2 ∷ []) none available nothing  -- P9
    ∷ case (1 ∷ 2 ∷ 2 ∷ []) (stands excess) available nothing  -- P10
    ∷ case (replicate 3 1 ++ (replicate 11 0 ++ replicate 2 1)) none available (B 4 14)  -- P11
    ∷ case (replicate 3 1 ++ (replicate 12 0 ++ replicate 1 1)) (stands locv) (unavailable 4) nothing  -- P12
    ∷ case (0 ∷ 0 ∷ 256 ∷ []) (stands excess) available nothing  -- a flood
    ∷ case (replicate 3 1 ++ (replicate 17 0 ++ replicate 9 1)) none available (U 4 20)  -- the program's path
    ∷ []
