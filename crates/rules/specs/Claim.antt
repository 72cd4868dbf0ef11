-- What is claimed: the machine's state and answers are what the rules give, and nothing else; and the rules by themselves
-- leave no gap and no choice.
use Rattle.std.specs.Prelude.{ℕ, suc, ◌+◌, ◌-◌, ◌*◌, ◌≤◌, ◌<◌, min, ◌≡◌, Bool, true, false, List, ◌↔◌, ◌⊎◌, length, get_or}
use Rattle.rules.specs.Counts.{Counts, sum_last}
use Rattle.rules.specs.Rules.{Kind, Enters, Leaves, Calm, Entry, Exit, AnyEntry, Stands, Latest, Clears, StoodLong, Unavailable, Declared}
use Rattle.rules.specs.Rules.{EndsU, EndsB, Record, nothing, U, B, HandsOut}
use Rattle.rules.specs.Machine.{State, Defect, none, stands, Availability, available, unavailable, handed_out}

-- ---- the machine ----

-- d is the rules' defect after n
pub record RightDefect (c : Counts) (n : ℕ) (d : Defect) : Type 0 where
  pub quiet : (d ≡ none) ↔ (Stands c n → ⊥)
  pub kind : (k : Kind) → (d ≡ stands k) ↔ (Stands c n × Latest c k n)

-- s is right after n closes of a CV path that had these counts
pub record Right (c : Counts) (n : ℕ) (s : State) : Type 0 where
  pub closed : s.closed ≡ n
  pub defect : RightDefect c n s.defect
  pub in_service : (s.availability ≡ available) ↔ (Unavailable 1 c n → ⊥)
  pub out_since : (from : ℕ) → (s.availability ≡ unavailable from) ↔ (Unavailable 1 c n × Declared 1 c (from + 12) n)

-- what s hands out at its next close, the one after n, is the rules' record
pub record RightAnswer (c : Counts) (n : ℕ) (s : State) : Type 0 where
  pub hands : (r : Record) → (handed_out true s ≡ r) ↔ HandsOut 1 c (suc n) r

-- s is right after n closes of an FFD path that had these counts: availability is not judged
pub record RightFfd (c : Counts) (n : ℕ) (s : State) : Type 0 where
  pub closed : s.closed ≡ n
  pub defect : RightDefect c n s.defect
  pub in_service : s.availability ≡ available

-- and its next close hands out nothing
pub record RightFfdAnswer (s : State) : Type 0 where
  pub hands : handed_out false s ≡ nothing

-- eleven counts after n closes, none above the cut, and 0 for a slot that never was
pub record Row (cut n : ℕ) (row : List ℕ) : Type 0 where
  pub long : length row ≡ 11
  pub most : (i : ℕ) → get_or row i 0 ≤ cut
  pub never : (i : ℕ) → i + n < 10 → get_or row i 0 ≡ 0

-- what the image asks of a path's own fields: the ranges that every state reached by n closes keeps
pub record Sound (cv : Bool) (n : ℕ) (s : State) : Type 0 where
  pub e : Row 12 n s.e
  pub u : Row 1 n s.u
  pub together : (s.defect ≡ none) ↔ (s.stood ≡ 0)
  pub stood : s.stood ≤ 11
  pub closes_stood : s.stood ≤ n - 2
  pub not_yet : cv ≡ true → s.availability ≡ available → s.stood ≤ 10
  pub since_slot : (from : ℕ) → s.availability ≡ unavailable from → (cv ≡ true) × (1 ≤ from) × (from ≤ n - 12)

-- ---- the rules alone ----

abbrev pub Decided : Type 0 → Type 0
Decided P = P ⊎ (P → ⊥)

-- at n each rule holds, or it does not
pub record EachDecided (k : ℕ) (c : Counts) (n : ℕ) : Type 0 where
  pub entry : (d : Kind) → Decided (Entry c d n)
  pub any_entry : Decided (AnyEntry c n)
  pub exit : Decided (Exit c n)
  pub stands : Decided (Stands c n)
  pub latest : (d : Kind) → Decided (Latest c d n)
  pub clears : Decided (Clears k c n)
  pub stood_long : Decided (StoodLong k c n)
  pub unavailable : Decided (Unavailable k c n)
  pub hands_out : (r : Record) → Decided (HandsOut k c n r)

-- what the rules give after n, of defect and kind, and of unavailability and since
abbrev pub GivesDefect : Counts → ℕ → Defect → Type 0
GivesDefect c n none = Stands c n → ⊥
GivesDefect c n (stands d) = Stands c n × Latest c d n

abbrev pub GivesAvailability : ℕ → Counts → ℕ → Availability → Type 0
GivesAvailability k c n available = Unavailable k c n → ⊥
GivesAvailability k c n (unavailable from) = Unavailable k c n × Declared k c (from + (10 * k + 2)) n

pub record ExactlyOne {A : Type 0} (P : A → Type 0) : Type 0 where
  pub one : A
  pub holds : P one
  pub only : (x : A) → P x → x ≡ one

pub record OneAnswer (k : ℕ) (c : Counts) (n : ℕ) : Type 0 where
  pub defect : ExactlyOne (GivesDefect c n)
  pub availability : ExactlyOne (GivesAvailability k c n)
  pub handed : ExactlyOne (HandsOut k c n)

-- the close of n ends at most one unavailability or short break
pub record EndsOne (k : ℕ) (c : Counts) (n : ℕ) : Type 0 where
  pub not_both : (m e : ℕ) → EndsU k c n m → EndsB k c n e → ⊥
  pub one_u : (l m : ℕ) → EndsU k c n l → EndsU k c n m → l ≡ m
  pub one_b : (d e : ℕ) → EndsB k c n d → EndsB k c n e → d ≡ e

-- a record that the close of n hands out begins at slot 1 or later, is not empty and has no slot after n
pub record RecordRange (k : ℕ) (c : Counts) (n : ℕ) : Type 0 where
  pub u : (from until : ℕ) → HandsOut k c n (U from until) → (1 ≤ from) × (from < until) × (until ≤ n + 1)
  pub b : (from until : ℕ) → HandsOut k c n (B from until) → (1 ≤ from) × (from < until) × (until ≤ n + 1)

-- "the first such close since the start or the last clearing", said by the close before it: the path was available there
abbrev pub DeclaredWhere : ℕ → Counts → ℕ → ℕ → Type 0
DeclaredWhere k c m n =
    Declared k c m n ↔ ((m ≤ n) × StoodLong k c m × ((j : ℕ) → m < j → j ≤ n → Clears k c j → ⊥) × (Unavailable k c (m - 1) → ⊥))

-- ---- sums ----

-- a sum over the last k slots, for any k, as slot n + 1 comes in and the oldest goes out
pub record Moves (f : ℕ → ℕ) (k n : ℕ) : Type 0 where
  pub next : sum_last f (suc k) (suc n) ≡ f (suc n) + sum_last f k n
  pub grows : n < k → sum_last f k (suc n) ≡ sum_last f k n + f (suc n)
  pub moves : k ≤ n → sum_last f k (suc n) + f (suc n - k) ≡ sum_last f k n + f (suc n)

-- the counts as the machine keeps them
abbrev pub cut : Counts → Counts
cut c = record { expected = λ i. min 12 (c.expected i); unexpected = λ i. min 1 (c.unexpected i) }

-- P says of the cut counts' sums over k slots what it says of the exact ones
abbrev pub SameOfCut : (ℕ → ℕ → Type 0) → Counts → ℕ → ℕ → Type 0
SameOfCut P c k n =
    P (sum_last (cut c).expected k n) (sum_last (cut c).unexpected k n) ↔ P (sum_last c.expected k n) (sum_last c.unexpected k n)

-- so the cut counts decide every test as the exact ones do
pub record CutDecides (c : Counts) (k n : ℕ) : Type 0 where
  pub enters : (d : Kind) → SameOfCut (Enters d) c k n
  pub leaves : SameOfCut Leaves c k n
  pub calm : SameOfCut (Calm 1) c k n
