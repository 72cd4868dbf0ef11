-- A path's own rules, line by line as the paper's image has them, the test that the code runs, and what is claimed of both.
-- `proofs/Soundness.antt` shows that the test is the rules, `proofs/SoundKept.antt` that a new path obeys them and every step keeps them.
-- The struct's types leave no room for a since-slot on an available path, for a server value that is neither 0 nor 1, or for a code
-- that is no kind's: no rule here names these. That a row has eleven counts its type says too; here, where a list has any length, a rule
-- does. That the TTSIs of two paths differ is the table's rule.
-- Assumes nothing.
use Rattle.std.specs.Prelude.{◌≡◌, Bool, true, ◌↔◌, List, [], ◌∷◌, ℕ, ◌+◌, ◌-◌, ◌≤◌, ◌<◌, eqb, leb, length, take}
use Rattle.payload.specs.Test.{pick, both, either, all_zero}
use Rattle.payload.specs.Rates.{is_kind, life_of}
use Rattle.payload.specs.Layout.{is_ttsi, is_defect}
use Rattle.rules.specs.Claim.{Row}
use Rattle.window.specs.View.{standing}
use Rattle.window.specs.declared.state.Defect.{Defect}
use Rattle.window.specs.declared.state.Defect.TheVariants.{Clear}
use Rattle.window.specs.declared.state.Availability.{Availability}
use Rattle.window.specs.declared.state.Availability.TheVariants.{Available, Unavailable}
use Rattle.lsp.specs.declared.path.Fdi.{Fdi}
use Rattle.lsp.specs.declared.path.Lsp.{Lsp}
use Rattle.lsp.specs.Steps.{new_of, receive_of, close_of, server_of}

-- ---- the rules

-- the FDI that stands on a path of this kind: closes left at most life+1, DT and DL zero if it is 0, else DT valid
pub record SoundFdi (kind : ℕ) (f : Fdi) : Type 0 where
  pub left : f.left ≤ life_of kind + 1
  pub gone : f.left ≡ 0 → (f.dt ≡ 0) × (f.dl ≡ 0)
  pub told : 1 ≤ f.left → is_defect f.dt ≡ true

pub record Sound (l : Lsp) : Type 0 where
  -- kind, TTSI and limit hold
  pub kind : l.kind ≤ 6
  pub ttsi : is_ttsi l.ttsi ≡ true
  pub limit : l.state.closed ≤ 1000000000000
  -- eleven counts of E, each at most 12, and of U, each 0 or 1; counts of slots that never were are 0
  pub e : Row 12 l.state.closed l.state.e
  pub u : Row 1 l.state.closed l.state.u
  -- the code is zero exactly when closes stood is 0
  pub code : (l.state.defect ≡ Clear) ↔ (l.state.stood ≡ 0)
  -- closes stood is at most 11
  pub stood : l.state.stood ≤ 11
  -- 0 below 3 closed slots, else at most closed-2
  pub early : l.state.closed < 3 → l.state.stood ≡ 0
  pub late : 3 ≤ l.state.closed → l.state.stood ≤ l.state.closed - 2
  -- and at most 10 on an available CV path
  pub available : l.kind ≡ 0 → l.state.availability ≡ Available → l.state.stood ≤ 10
  -- an FFD path is never unavailable; since is 1 to closed-12
  pub unavailable : (since : ℕ) → l.state.availability ≡ Unavailable since
      → (l.kind ≡ 0) × (1 ≤ since) × (since ≤ l.state.closed - 12)
  pub fdi : SoundFdi l.kind l.fdi

-- ---- the test

-- every count of a row is at most the cut
unfoldable pub within : ℕ → List ℕ → Bool
within cut [] = true
within cut (x ∷ row) = both (leb x cut) (within cut row)

-- with fewer than ten slots closed, the oldest counts are of slots that never were
abbrev pub never_were : ℕ → ℕ
never_were closed = 10 - closed

abbrev pub is_row : ℕ → ℕ → List ℕ → Bool
is_row cut closed row = both (eqb (length row) 11) (both (within cut row) (all_zero (take (never_were closed) row)))

abbrev pub is_code : Defect → ℕ → Bool
is_code d stood = pick (standing d) (leb 1 stood) (eqb stood 0)

-- closes at which a defect can have stood; a difference is 0 where there is none, so there are 0 below 3 closed slots
abbrev pub closes_judged : ℕ → ℕ
closes_judged closed = closed - 2

abbrev pub is_stood : ℕ → ℕ → Bool
is_stood closed stood = both (leb stood 11) (leb stood (closes_judged closed))

-- the last since-slot that there can be
abbrev pub last_since : ℕ → ℕ
last_since closed = closed - 12

abbrev pub is_availability : ℕ → ℕ → ℕ → Availability → Bool
is_availability kind closed stood Available = either (leb 1 kind) (leb stood 10)
is_availability kind closed stood (Unavailable since) = both (eqb kind 0) (both (leb 1 since) (leb since (last_since closed)))

-- as an FDI received in the open slot has them
abbrev pub most_left : ℕ → ℕ
most_left kind = life_of kind + 1

abbrev pub is_fdi : ℕ → Fdi → Bool
is_fdi kind f =
    both (leb f.left (most_left kind))
    (pick (eqb f.left 0) (both (eqb f.dt 0) (eqb f.dl 0)) (is_defect f.dt))

abbrev pub tests : Lsp → List Bool
tests l =
    is_kind l.kind
    ∷ is_ttsi l.ttsi
    ∷ leb l.state.closed 1000000000000
    ∷ is_row 12 l.state.closed l.state.e
    ∷ is_row 1 l.state.closed l.state.u
    ∷ is_code l.state.defect l.state.stood
    ∷ is_stood l.state.closed l.state.stood
    ∷ is_availability l.kind l.state.closed l.state.stood l.state.availability
    ∷ is_fdi l.kind l.fdi
    ∷ []

abbrev pub all : List Bool → Bool
all [] = true
all (t ∷ ts) = both t (all ts)

unfoldable pub sound : Lsp → Bool
sound l = all (tests l)

-- ---- what is claimed

-- the test passes exactly where the rules hold
abbrev pub SoundTested : Type 0
SoundTested = (l : Lsp) → (sound l ≡ true) ↔ Sound l

-- a new path obeys the rules, and every step keeps them, whatever it is given
pub record SoundKept : Type 0 where
  pub fresh : (kind : ℕ) (ttsi : List ℕ) (dl : ℕ) → kind ≤ 6 → is_ttsi ttsi ≡ true → Sound (new_of kind ttsi dl)
  pub receive : (l : Lsp) (p : List ℕ) → Sound l → Sound (receive_of l p).1
  pub close : (l : Lsp) → Sound l → Sound (close_of l).next
  pub server : (l : Lsp) (value : ℕ) → Sound l → Sound (server_of l value).next
