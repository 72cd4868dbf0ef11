-- What the demand allows, and that reaching leaves nothing of it out. `proofs/Allowed.antt` proves it.
-- Assumes nothing.
use Rattle.std.specs.Prelude.{ℕ, ◌≡◌, ◌⊎◌}
use mathlib.Core.List.{List, ◌∷◌, Memᴰ}
use Rattle.image.specs.Image.{restore_of}
use Rattle.history.specs.Calls.{Call, restore, Given, Plain, table_after, Saving, World, Reach}
use Rattle.history.specs.Theorem.{table_left}

-- any call with any arguments; of a restore, that it is refused or that an earlier saving wrote the image
abbrev pub Allowed : Call → World → Type 0
Allowed c w = Plain c ⊎ ((s : Saving) × Memᴰ s w.savings × (restore s.octets ≡ c))

pub record NothingLeftOut : Type 0 where
  -- every allowed call goes on, to the table that its definition leaves
  pub goes_on : (cs : List Call) (w : World) → Reach cs w → (c : Call) → Given c → Allowed c w → (v : World) × Reach (c ∷ cs) v × (v.table ≡ table_after c w.table)
  pub table : (cs : List Call) (w : World) → Reach cs w → w.table ≡ table_left cs
  -- what isn't allowed is to restore an image that is accepted and that no saving wrote
  pub restoring : (im : List ℕ) → ((restore_of im).number ≡ 10) ⊎ ((restore_of im).number ≡ 0)
