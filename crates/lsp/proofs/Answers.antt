-- What each function that tests a part of a path answers, over plain values. Assumes nothing.
use mathlib.Core.Path.{◌≡◌, refl, ap, sym, ◌∙◌}
use mathlib.Core.Bool.{Bool, true, false}
use mathlib.Core.List.{List, [], ◌∷◌}
use Prim.Native.Nat.{ℕ, zero, suc}
use native.Mathlib.Omega.{arith}
use lib.ListN.{length, get_or, take}
use Rattle.payload.specs.Test.{both}
use Rattle.payload.proofs.Tests.{never, both_true, both_false, both_left, both_right, both_yes}
use Rattle.lsp.specs.Sound.{all}

-- ---- a list of tests

abbrev pub Each : List Bool → Type 0
Each [] = Unit {0}
Each (t ∷ ts) = (t ≡ true) × Each ts

pub each : (ts : List Bool) → all ts ≡ true → Each ts
each [] h = tt
each (t ∷ ts) h = (both_left t (all ts) h, each ts (both_right t (all ts) h))

pub every : (ts : List Bool) → Each ts → all ts ≡ true
every [] h = refl
every (t ∷ ts) h = rw h.0 (every ts h.1)

-- where one fails, they do not all pass
pub fails : (i : ℕ) (ts : List Bool) → get_or ts i true ≡ false → false ≡ all ts
fails i [] h = absurd (never (sym h))
fails zero (t ∷ ts) h = rw h
fails (suc i) (t ∷ ts) h = sym (ap (both t) (sym (fails i ts h)) ∙ both_false t)

-- where those before it pass, the last one decides
pub decides : (i : ℕ) (ts : List Bool) (b : Bool) → length ts ≡ suc i → Each (take i ts) → b ≡ get_or ts i true → b ≡ all ts
decides i [] b n h e = absurd (omega arith)
decides zero (t ∷ []) b n h e = e ∙ sym (both_true t)
decides zero (t ∷ s ∷ ts) b n h e = absurd (omega arith)
decides (suc i) (t ∷ ts) b n h e = both_yes t (all ts) b h.0 (decides i ts b (omega arith) h.1 e)
