-- Marks: a TTSI whose mark isn't set is none of those seen. Assumes nothing.
use mathlib.Core.Path.{◌≡◌, refl, sym, ap, ◌∙◌}
use mathlib.Core.Bool.{Bool, true, false}
use mathlib.Core.List.{List, [], ◌∷◌, ◌++◌}
use Prim.Native.Nat.{ℕ, ◌<◌}
use native.Mathlib.Omega.{arith}
use lib.Dec.{eqb}
use lib.ListN.{length, get_or, set}
use lib.Seq.{get_or-set_same, get_or-set_other}
use borrow.Author.Tests.{eqb-true, eqb-false}
use Rattle.payload.proofs.Tests.{never}
use Rattle.image.specs.Image.{absent, mark_of}
use Rattle.image.proofs.Places.{apart_same}

abbrev pub Marked : List Bool → List (List ℕ) → Type 0
Marked marks [] = Unit {0}
Marked marks (t ∷ seen) = (get_or marks (mark_of t) false ≡ true) × Marked marks seen

pub mark_lt : (t : List ℕ) → mark_of t < 512
mark_lt t = omega arith

pub unmarked : (marks : List Bool) (t : List ℕ) (seen : List (List ℕ)) → Marked marks seen → get_or marks (mark_of t) false ≡ false → absent t seen ≡ true
unfolding absent
unmarked marks t [] m e = refl
unmarked marks t (x ∷ seen) m e =
    rw (apart_same t x (λ q. never (sym e ∙ ap (λ (k : List ℕ). get_or marks (mark_of k) false) (sym q) ∙ m.0)))
    (unmarked marks t seen m.1 e)

module _ (marks : List Bool) (n : length marks ≡ 512) (t : List ℕ) where
  abbrev next : List Bool
  next = set marks (mark_of t) true

  new : get_or next (mark_of t) false ≡ true
  new = get_or-set_same marks (mark_of t) true false (omega (arith, mark_lt t))

  kept : (k : ℕ) → get_or marks k false ≡ true → get_or next k false ≡ true
  kept k h = go (eqb k (mark_of t)) refl
    where
      go : (b : Bool) → eqb k (mark_of t) ≡ b → get_or next k false ≡ true
      go true e = ap (λ (j : ℕ). get_or next j false) (eqb-true k (mark_of t) e) ∙ new
      go false e = get_or-set_other marks (mark_of t) k true false (eqb-false k (mark_of t) e) ∙ h

  pub marked : (seen : List (List ℕ)) → Marked marks seen → Marked next (seen ++ (t ∷ []))
  marked [] m = (new, tt)
  marked (x ∷ seen) m = (kept (mark_of x) m.0, marked seen m.1)
