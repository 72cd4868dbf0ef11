-- What the close of a record where it stands answers and leaves, and what is claimed of it. `proofs/InPlace.antt` proves it.
-- Assumes nothing.
use Rattle.std.specs.Prelude.{◌≡◌, Bool, true, false, ℕ, ◌≤◌}
use Rattle.window.specs.declared.state.Defect.TheVariants.{Clear}
use Rattle.std.specs.Prelude.{None}
use Rattle.lsp.specs.Steps.{out_is, close_of}
use Rattle.lsp.specs.Sound.{Sound, sound}
use Rattle.lsp.specs.declared.path.Lsp.{Lsp}
use Rattle.lsp.specs.Outcomes.{Closed}
use Rattle.lsp.specs.Outcomes.{ClosedHere}

-- a refusal carries its number, all else zero
abbrev pub refused_here : ℕ → ClosedHere
refused_here n = record { number = n; defect = Clear; out = out_is 0 0 false false; handed = None }

-- of what the close by value answers and leaves
abbrev pub answer_here : Closed → ClosedHere
answer_here c = record { number = c.number; defect = c.defect; out = c.out; handed = c.handed }

-- by whether the record obeys its rules: the answer, and the record afterwards
abbrev pub close_here_by : (sound : Bool) → Lsp → Closed → ClosedHere × Lsp
close_here_by true l c = (answer_here c, c.next)
close_here_by false l c = (refused_here 10, l)

unfoldable pub close_here_of : Lsp → ClosedHere × Lsp
close_here_of l = close_here_by (sound l) l (close_of l)

-- ---- what is claimed

-- a record that obeys its rules is closed as by value, and obeys them still
pub record ClosedInPlace (l : Lsp) : Type 0 where
  pub number : (close_here_of l).0.number ≡ (close_of l).number
  pub defect : (close_here_of l).0.defect ≡ (close_of l).defect
  pub out : (close_here_of l).0.out ≡ (close_of l).out
  pub handed : (close_here_of l).0.handed ≡ (close_of l).handed
  pub next : (close_here_of l).1 ≡ (close_of l).next
  pub sound : Sound (close_here_of l).1

pub record CloseInPlace : Type 0 where
  pub closed : (l : Lsp) → Sound l → ClosedInPlace l
  -- 10 goes first, whatever else would be refused, and all stays as it was
  pub broken : (l : Lsp) → (Sound l → ⊥) → close_here_of l ≡ (refused_here 10, l)
  -- then 9, at the limit
  pub limit : (l : Lsp) → Sound l → 1000000000000 ≤ l.state.closed → close_here_of l ≡ (refused_here 9, l)
