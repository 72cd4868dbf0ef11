-- One path's machine: what a packet and a close leave and answer. It keeps eleven small counts a row and no history.
-- `cv` says whether availability is judged: a CV path has one slot a second, k = 1; an FFD path has defect and kind only.
use Rattle.std.specs.Prelude.{ℕ, suc, ◌+◌, ◌-◌, ◌*◌, min, Bool, true, false, ◌&&◌, cond, List, [], ◌∷◌, ◌++◌, leb, eqb, length, get_or, drop, set, replicate}
use Rattle.rules.specs.Rules.{Kind, mismatch, mismerge, locv, excess, Record, nothing, U, B}

pub data Defect : Type 0 where
  none : Defect
  stands : Kind → Defect

-- unavailable has the since-slot
pub data Availability : Type 0 where
  available : Availability
  unavailable : ℕ → Availability

pub record State : Type 0 where
  pub closed : ℕ  -- slots closed
  pub e : List ℕ  -- eleven counts, oldest first, the open slot's last; each cut at 12
  pub u : List ℕ  -- likewise, each cut at 1
  pub defect : Defect
  pub stood : ℕ  -- closes that the defect has stood, cut at 11
  pub availability : Availability

abbrev pub fresh : State
fresh = record { closed = 0; e = replicate 11 0; u = replicate 11 0; defect = none; stood = 0; availability = available }

-- ---- packets ----

pub data Packet : Type 0 where
  expected unexpected : Packet

-- one more packet in the open slot of a row, cut at c
abbrev pub count_up : ℕ → List ℕ → List ℕ
count_up c row = set row 10 (min c (get_or row 10 0 + 1))

abbrev pub receive : Packet → State → State
receive expected s = record {
  closed = s.closed;
  e = count_up 12 s.e;
  u = s.u;
  defect = s.defect;
  stood = s.stood;
  availability = s.availability;
}
receive unexpected s = record {
  closed = s.closed;
  e = s.e;
  u = count_up 1 s.u;
  defect = s.defect;
  stood = s.stood;
  availability = s.availability;
}

-- ---- rows at a close ----

unfoldable pub total : List ℕ → ℕ
total [] = 0
total (x ∷ xs) = x + total xs

-- the summing rule: the last k of a row
unfoldable pub last_of : ℕ → List ℕ → ℕ
last_of k row = total (drop (length row - k) row)

abbrev pub shift : List ℕ → List ℕ
shift row = drop 1 row ++ (0 ∷ [])

-- ---- the defect at a close ----

pub data Verdict : Type 0 where
  enters : Kind → Verdict
  leaves stays : Verdict

-- what E3 and U3 say
unfoldable pub judge : ℕ → ℕ → Verdict
judge e u =
    cond (leb 1 u) (cond (leb 1 e) (enters mismerge) (enters mismatch))
    (cond (leb 5 e) (enters excess) (cond (leb 2 e) leaves (cond (leb 1 e) stays (enters locv))))

-- before slot 3 closes nothing is judged
abbrev pub judged : ℕ → Bool
judged n = leb 3 n

unfoldable pub verdict : ℕ → ℕ → ℕ → Verdict
verdict n e u = cond (judged n) (judge e u) stays

abbrev pub defect_after : Verdict → Defect → Defect
-- the latest entry names the kind
defect_after (enters d) before = stands d
defect_after leaves before = none
defect_after stays before = before

-- ---- availability and record at a close, with k slots a second ----

-- closes that the defect has stood, cut at 10k + 1
abbrev pub stood_after : ℕ → Defect → ℕ → ℕ
stood_after k none t = 0
stood_after k (stands d) t = min (10 * k + 1) (t + 1)

unfoldable pub long_enough : ℕ → ℕ → Bool
long_enough k t = eqb t (10 * k + 1)

-- the clearing's test on the sums of ten seconds
unfoldable pub calm : ℕ → ℕ → ℕ → Bool
calm k e u = leb (9 * k) e && (leb e (11 * k) && eqb u 0)

pub record Turn : Type 0 where
  pub next : Availability
  pub handed : Record

abbrev pub goes_on : Availability → Turn
goes_on a = record { next = a; handed = nothing }

-- unavailable at the close of n, when the defect has stood long enough
abbrev pub declares : ℕ → ℕ → Turn
declares k n = goes_on (unavailable (n - 10 * k - 2))

-- the records that the close of n ends: an unavailability since a slot, and a defect that had stood t closes
abbrev pub record_u : ℕ → ℕ → ℕ → Record
record_u k n from = U from (n + 1 - 10 * k)

abbrev pub record_b : ℕ → ℕ → Record
record_b n t = B (n - t - 2) (n - 2)

-- at the close of n: the defect before it with the closes it had stood, then the defect after it with the closes it has
-- stood, and whether the last ten seconds are calm at a whole second
unfoldable pub turn : ℕ → ℕ → Availability → Defect → ℕ → Defect → ℕ → Bool → Turn
turn k n (unavailable from) d t none t' true = record { next = available; handed = record_u k n from }
turn k n (unavailable from) d t none t' false = goes_on (unavailable from)
turn k n (unavailable from) d t (stands x) t' b = goes_on (unavailable from)
turn k n available none t none t' b = goes_on available
turn k n available (stands x) t none t' b = record { next = available; handed = record_b n t }
turn k n available d t (stands x) t' b = cond (long_enough k t') (declares k n) (goes_on available)

-- ---- the close ----

abbrev pub close_verdict : State → Verdict
close_verdict s = verdict (suc s.closed) (last_of 3 s.e) (last_of 3 s.u)

abbrev pub close_defect : State → Defect
close_defect s = defect_after (close_verdict s) s.defect

abbrev pub close_stood : State → ℕ
close_stood s = stood_after 1 (close_defect s) s.stood

abbrev pub close_calm : State → Bool
close_calm s = calm 1 (last_of 10 s.e) (last_of 10 s.u)

abbrev pub close_turn : Bool → State → Turn
close_turn true s = turn 1 (suc s.closed) s.availability s.defect s.stood (close_defect s) (close_stood s) (close_calm s)
close_turn false s = goes_on available

abbrev pub close : Bool → State → State
close cv s = record {
  closed = suc s.closed;
  e = shift s.e;
  u = shift s.u;
  defect = close_defect s;
  stood = close_stood s;
  availability = (close_turn cv s).next;
}

-- what that close hands out
abbrev pub handed_out : Bool → State → Record
handed_out cv s = (close_turn cv s).handed
