-- The six FFD rates and the kinds of a path: intervals and slots in ms, an FDI's life in slots. What is no rate, or no kind, has 0.
-- Assumes nothing.
use Rattle.std.specs.Prelude.{ℕ, ◌*◌, ◌≤◌, ◌≡◌, Bool, List, [], ◌∷◌, eqb, leb, get_or}
use Rattle.payload.specs.Test.{pick, both}

abbrev pub is_rate : ℕ → Bool
is_rate r = both (leb 1 r) (leb r 6)

-- of codes 1 to 6
abbrev pub intervals : List ℕ
intervals = 10 ∷ 20 ∷ 50 ∷ 100 ∷ 200 ∷ 500 ∷ []

abbrev pub lives : List ℕ
lives = 300 ∷ 150 ∷ 60 ∷ 30 ∷ 15 ∷ 6 ∷ []

abbrev pub interval_of : ℕ → ℕ
interval_of r = get_or (0 ∷ intervals) r 0

abbrev pub rate_life_of : ℕ → ℕ
rate_life_of r = get_or (0 ∷ lives) r 0

-- 0, or a rate code
abbrev pub is_kind : ℕ → Bool
is_kind k = leb k 6

abbrev pub slot_of : ℕ → ℕ
slot_of k = pick (eqb k 0) 1000 (interval_of k)

abbrev pub life_of : ℕ → ℕ
life_of k = pick (eqb k 0) 3 (rate_life_of k)

-- every kind's FDI lives three seconds: a second reckoning of both tables
abbrev pub ThreeSeconds : Type 0
ThreeSeconds = (k : ℕ) → k ≤ 6 → slot_of k * life_of k ≡ 3000
