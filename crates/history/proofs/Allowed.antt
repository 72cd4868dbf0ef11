-- Reaching leaves out nothing that the demand allows (`specs/Allowed.antt`). Assumes nothing.
use mathlib.Core.Path.{◌≡◌, refl, subst}
use mathlib.Core.Bool.{Bool, true, false}
use mathlib.Core.Logic.{◌⊎◌, inl, inr}
use mathlib.Core.List.{List, ◌∷◌}
use Prim.Native.Nat.{ℕ}
use Rattle.image.specs.Image.{is_image, table_of, restore_by, restore_of}
use Rattle.history.specs.Calls.{Call, Given, table_after, World, Reach, calling, restoring}
use Rattle.history.specs.Allowed.{Allowed, NothingLeftOut}
use Rattle.history.proofs.Reached.{reached_table}

abbrev Next : List Call → World → Call → Type 0
Next cs w c = (v : World) × Reach (c ∷ cs) v × (v.table ≡ table_after c w.table)

module _ (cs : List Call) (w : World) (r : Reach cs w) where
  goes_on : (c : Call) → Given c → Allowed c w → Next cs w c
  goes_on c g (inl p) = (_, calling r c g p, refl)
  goes_on c g (inr k) = subst (Next cs w) k.2 (_, restoring r k.0 k.1, refl)

refused_or_done : (im : List ℕ) → ((restore_of im).number ≡ 10) ⊎ ((restore_of im).number ≡ 0)
refused_or_done im = go (is_image im)
  where
    go : (b : Bool) → ((restore_by b (table_of im)).number ≡ 10) ⊎ ((restore_by b (table_of im)).number ≡ 0)
    go true = inr refl
    go false = inl refl

pub nothing_left_out : NothingLeftOut
nothing_left_out = record { goes_on = goes_on; table = reached_table; restoring = refused_or_done }
