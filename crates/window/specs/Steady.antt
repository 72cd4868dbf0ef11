-- A close that only moves the rows on. `proofs/Steady.antt` proves the law.
-- Assumes nothing.
use Rattle.std.specs.Prelude.{ℕ, suc, Bool, true, false, ◌&&◌, not, cond, ◌≡◌, eqb, leb, None}
use Rattle.rules.specs.Machine.{last_of, shift}
use Rattle.window.specs.View.{full, standing, turned_of}
use Rattle.window.specs.declared.state.Availability.{Availability}
use Rattle.window.specs.declared.state.Availability.TheVariants.{Available, Unavailable}
use Rattle.window.specs.declared.state.State.{State}

abbrev pub is_available : Availability → Bool
is_available Available = true
is_available (Unavailable since) = false

-- the exit, by the sums over three slots
abbrev pub meets_exit : ℕ → ℕ → Bool
meets_exit e u = eqb u 0 && (leb 2 e && leb e 4)

-- slot 3 or a later one is open, below the limit; the last three slots meet the exit; no defect stands, and the path is available
abbrev pub is_steady : State → Bool
is_steady s =
    leb 2 s.closed && (not (full s) && (meets_exit (last_of 3 s.e) (last_of 3 s.u) && (eqb s.stood 0 && (not (standing s.defect) && is_available s.availability))))

abbrev pub slot_on : State → State
slot_on s = record {
  closed = suc s.closed;
  e = shift s.e;
  u = shift s.u;
  defect = s.defect;
  stood = s.stood;
  availability = s.availability;
}

abbrev pub moved_on : State → State
moved_on s = cond (full s) s (slot_on s)

-- such a close moves the rows on, on any path, and hands nothing out
pub record Steady : Type 0 where
  pub close : (cv : Bool) (s : State) → is_steady s ≡ true → turned_of cv s ≡ record { number = 0; state = moved_on s; handed = None }
