-- Tests that are run one after the other, and the list of them. Assumes nothing.
use mathlib.Core.Path.{◌≡◌, refl, sym, ap, ◌∙◌}
use mathlib.Core.Bool.{Bool, true, false}
use mathlib.Core.List.{List, [], ◌∷◌}
use Rattle.payload.specs.Test.{both}
use Rattle.payload.proofs.Tests.{both_true, both_no, both_yes}
use Rattle.lsp.specs.Sound.{all}

-- v is what a && b is
pub record And (a b v : Bool) : Type 0 where
  pub value : v ≡ both a b

pub passed : {a b v : Bool} → a ≡ true → v ≡ b → And a b v
passed h e = record { value = both_yes _ _ _ h e }

pub failed : {a b v : Bool} → a ≡ false → v ≡ a → And a b v
failed {a = a} {b = b} h e = record { value = e ∙ h ∙ both_no a b h }

-- r is whether all of a and ts hold
pub record Run (a : Bool) (ts : List Bool) (r : Bool) : Type 0 where
  pub value : r ≡ both a (all ts)

pub last : {a b r : Bool} → And a b r → Run a (b ∷ []) r
last {a = a} {b = b} e = record { value = e.value ∙ ap (both a) (sym (both_true b)) }

pub more : {a b v r : Bool} {ts : List Bool} → And a b v → Run v ts r → Run a (b ∷ ts) r
more {a = a} {b = b} {ts = ts} e h = record { value = h.value ∙ ap (λ (x : Bool). both x (all ts)) e.value ∙ regroup a }
  where
    regroup : (x : Bool) → both (both x b) (all ts) ≡ both x (both b (all ts))
    regroup true = refl
    regroup false = refl
