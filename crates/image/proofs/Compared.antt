-- Octets compared, the last ones first. Assumes nothing.
use mathlib.Core.Path.{◌≡◌, refl, sym, ap, ◌∙◌}
use mathlib.Core.Bool.{Bool, true, false}
use mathlib.Core.List.{List}
use Prim.Native.Nat.{ℕ, ◌-◌}
use denote.Bor.{Bor}
use lib.Dec.{eqb}
use lib.ListN.{length}
use borrow.Author.Tests.{eq-eqb}
use Rattle.std.specs.List.{slice_get}
use Rattle.std.specs.Option.{option_copied, option_eq}
use Rattle.std.specs.Prelude.{Option, Some, None}
use Rattle.payload.proofs.Tests.{never}
use Rattle.lsp.specs.Steps.{same}
use Rattle.lsp.proofs.Same.{same_equal}

other_lasts : (x y : Option (Bor ℕ)) → option_copied x ≡ option_copied y → option_eq (λ x y. eqb x.now y.now) x y ≡ false → ⊥
other_lasts None None q e = never (sym e)
other_lasts (Some x) None q e = cc
other_lasts None (Some y) q e = cc
other_lasts (Some x) (Some y) q e = let k : x.now ≡ y.now = cc in never (sym e ∙ eq-eqb x.now y.now k)

-- where the last octets differ
pub lasts_differ : (x y : Option (Bor ℕ)) (a b : List ℕ) (r : Bool) → option_copied x ≡ slice_get a (length a - 1) → option_copied y ≡ slice_get b (length b - 1)
    → r ≡ option_eq (λ x y. eqb x.now y.now) x y → r ≡ false → r ≡ same a b
lasts_differ x y a b r p q k e = e ∙ go (same a b) refl
  where
    go : (t : Bool) → same a b ≡ t → false ≡ t
    go true h = absurd (other_lasts x y (p ∙ ap (λ (l : List ℕ). slice_get l (length l - 1)) (same_equal a b h) ∙ sym q) (sym k ∙ e))
    go false h = refl
