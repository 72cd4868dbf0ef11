-- Each path's own packet, made path by path. Assumes nothing.
use mathlib.Core.List.{List, [], ◌∷◌, map, map-append}
use mathlib.Core.Path.{◌≡◌, sym, ap, ◌∙◌}
use native.Mathlib.Omega.{arith}
use Prim.Native.Nat.{ℕ, suc, ◌+◌, ◌≤◌, ◌<◌}
use lib.ListN.{length, get_or, set, take}
use lib.Seq.{take-suc, take-suc-set, take_all}
use Rattle.std.specs.Prelude.{Option}
use Rattle.lsp.specs.declared.path.Lsp.{Lsp}
use Rattle.events.specs.Own.{own_of}
use Rattle.events.specs.Outcomes.{own_in}

-- the first i paths have theirs
abbrev pub Owned : List (Option (List ℕ)) → List Lsp → ℕ → Type 0
Owned owns ls i = map own_in (take i owns) ≡ map own_of (take i ls)

module _ (owns : List (Option (List ℕ))) (ls : List Lsp) (i : ℕ) where
  pub owned_next : (o : Option (List ℕ)) (d : Lsp) → i < length owns → i < length ls → own_in o ≡ own_of (get_or ls i d) → Owned owns ls i
      → Owned (set owns i o) ls (i + 1)
  owned_next o d h k e w =
      let n : i + 1 ≡ suc i = omega arith in
      rw (n, take-suc-set owns i o h, take-suc ls i d k, map-append own_in (take i owns) (o ∷ []), map-append own_of (take i ls) (get_or ls i d ∷ []), w, e)

  pub owned_all : length owns ≤ i → length ls ≤ i → Owned owns ls i → map own_in owns ≡ map own_of ls
  owned_all h k w = ap (map own_in) (sym (take_all i owns h)) ∙ w ∙ ap (map own_of) (take_all i ls k)
