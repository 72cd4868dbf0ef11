-- A path's history, the counts that it gives each slot, and the state that the machine reaches on it.
use Rattle.std.specs.Prelude.{ℕ, zero, suc, Bool, true, false, ◌&&◌, cond, List, [], ◌∷◌, ◌++◌, eqb, replicate}
use Rattle.rules.specs.Counts.{Counts}
use Rattle.rules.specs.Machine.{State, fresh, Packet, expected, unexpected, receive, close}

pub data Event : Type 0 where
  arrives : Packet → Event
  closes : Event

-- all that happened to a path, the newest event first
abbrev pub History : Type 0
History = List Event

-- slots closed; the slot then open is the next
abbrev pub closed : History → ℕ
closed [] = 0
closed (arrives p ∷ h) = closed h
closed (closes ∷ h) = suc (closed h)

abbrev pub same : Packet → Packet → Bool
same expected expected = true
same expected unexpected = false
same unexpected expected = false
same unexpected unexpected = true

-- the packets of one sort in slot i: a packet belongs to the slot that was open when it came
unfoldable pub count_in : Packet → History → ℕ → ℕ
count_in p [] i = 0
count_in p (arrives q ∷ h) i = cond (eqb i (suc (closed h)) && same p q) (suc (count_in p h i)) (count_in p h i)
count_in p (closes ∷ h) i = count_in p h i

abbrev pub counts_of : History → Counts
counts_of h = record { expected = count_in expected h; unexpected = count_in unexpected h }

-- cv: whether availability is judged
unfoldable pub state_of : Bool → History → State
state_of cv [] = fresh
state_of cv (arrives p ∷ h) = receive p (state_of cv h)
state_of cv (closes ∷ h) = close cv (state_of cv h)

-- the packets of slot n, one at a time, in the open slot
abbrev pub filled : Counts → ℕ → History → History
filled c n h = replicate (c.unexpected n) (arrives unexpected) ++ (replicate (c.expected n) (arrives expected) ++ h)

-- the first n slots of any counts, each filled and closed
unfoldable pub slots : Counts → ℕ → History
slots c zero = []
slots c (suc n) = closes ∷ filled c (suc n) (slots c n)
