-- What is left of an empty table's image, over plain values. Assumes nothing.
use mathlib.Core.Path.{◌≡◌, sym, ap, ◌∙◌}
use mathlib.Core.Bool.{Bool}
use mathlib.Core.List.{List, [], ◌∷◌, ◌++◌}
use Prim.Native.Nat.{ℕ, ◌≤◌, ◌<◌}
use native.Mathlib.Omega.{arith}
use lib.ListN.{length, drop}
use borrow.Author.Tests.{le-leb, lt-leb}
use Rattle.table.specs.Steps.{empty}
use Rattle.image.specs.Image.{fields_of, octets_of, save_by}
use Rattle.host.specs.Calls.{empty_by, empty_of}

pub empty_short : (s : List ℕ) → length s < 5061 → (11, s) ≡ empty_of s
unfolding empty_of
empty_short s h = ap (λ (b : Bool). empty_by b s) (sym (lt-leb 5061 (length s) h))

pub empty_saved : (s : List ℕ) → 5061 ≤ length s → (0, (1 ∷ 0 ∷ 2 ∷ 1 ∷ 0 ∷ []) ++ drop 5 s) ≡ empty_of s
unfolding empty_of octets_of fields_of
empty_saved s h =
    ap (λ (b : Bool). save_by b empty s) (sym (le-leb 5 (length s) (omega arith)))
    ∙ ap (λ (b : Bool). empty_by b s) (sym (le-leb 5061 (length s) h))

pub ruleset empty_steps = (empty_short, empty_saved)
