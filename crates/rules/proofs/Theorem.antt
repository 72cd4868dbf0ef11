-- The theorem. For any history of a path, however many packets a slot has: its state is what the rules give from the exact
-- counts, and its next close hands out exactly the rules' record; an FFD path has the rules' defect, stays available and hands
-- out nothing. Then the same for any counts, slot by slot. Assumes nothing.
use Prim.Native.Nat.{ℕ, suc}
use mathlib.Core.Path.{refl}
use mathlib.Core.Bool.{true, false}
use Rattle.rules.specs.Counts.{Counts}
use Rattle.rules.specs.Machine.{State}
use Rattle.rules.specs.History.{History, closed, counts_of, state_of, filled, slots}
use Rattle.rules.specs.Claim.{Right, RightAnswer, RightFfd, RightFfdAnswer}
use Rattle.rules.proofs.Readings.{holds_right, holds_answer, holds_right_ffd}
use Rattle.rules.proofs.Histories.{holds_history, holds_slots, holds_filled}

-- ---- any history ----

pub state_right : (h : History) → Right (counts_of h) (closed h) (state_of true h)
state_right h = holds_right (counts_of h) (closed h) _ _ (state_of true h) (holds_history true h)

pub answer_right : (h : History) → RightAnswer (counts_of h) (closed h) (state_of true h)
answer_right h = holds_answer (counts_of h) (closed h) (state_of true h) (holds_history true h)

pub state_right_ffd : (h : History) → RightFfd (counts_of h) (closed h) (state_of false h)
state_right_ffd h = holds_right_ffd (counts_of h) (closed h) _ _ (state_of false h) (holds_history false h)

-- from any state
pub answer_right_ffd : (s : State) → RightFfdAnswer s
answer_right_ffd s = record { hands = refl }

-- ---- any counts ----

-- after the close of slot n
pub slots_right : (c : Counts) (n : ℕ) → Right c n (state_of true (slots c n))
slots_right c n = holds_right c n 0 0 (state_of true (slots c n)) (holds_slots true c n)

pub slots_right_ffd : (c : Counts) (n : ℕ) → RightFfd c n (state_of false (slots c n))
slots_right_ffd c n = holds_right_ffd c n 0 0 (state_of false (slots c n)) (holds_slots false c n)

-- what the close of slot n + 1 hands out
pub slots_answer : (c : Counts) (n : ℕ) → RightAnswer c n (state_of true (filled c (suc n) (slots c n)))
slots_answer c n = holds_answer c n _ (holds_filled true c n)
