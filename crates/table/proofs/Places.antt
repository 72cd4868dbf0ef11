-- Which paths are there, whether one expects a TTSI, and a path put back in its place. Assumes nothing.
use mathlib.Core.Path.{◌≡◌, refl, ap, ◌∙◌}
use mathlib.Core.Bool.{Bool, true, false}
use mathlib.Core.List.{List, [], ◌∷◌}
use Rattle.std.specs.Prelude.{◌||◌}
use Rattle.std.specs.List.{list_any}
use Prim.Native.Nat.{ℕ}
use lib.Seq.{set-get_or}
use Rattle.payload.specs.Test.{either}
use Rattle.lsp.specs.Steps.{same}
use Rattle.lsp.specs.declared.path.Lsp.{Lsp}
use Rattle.table.specs.Steps.{nowhere, path_at, put, expected_in}
use Rattle.table.specs.declared.paths.Table.{Table}

-- ---- a TTSI that is expected already

either_is : (a b : Bool) → either a b ≡ (a || b)
either_is true b = refl
either_is false b = refl

pub expected_any : (ls : List Lsp) (ttsi : List ℕ) → expected_in ls ttsi ≡ list_any (λ l. same ttsi l.ttsi) ls
unfolding expected_in
expected_any [] ttsi = refl
expected_any (l ∷ ls) ttsi = ap (either (same ttsi l.ttsi)) (expected_any ls ttsi) ∙ either_is (same ttsi l.ttsi) (list_any (λ m. same ttsi m.ttsi) ls)

-- ---- a path put back in its place

pub put_back : (t : Table) (i : ℕ) → put t i (path_at t i) ≡ t
put_back t i = ap (λ (ls : List Lsp). record { count = t.count; lsps = ls }) (set-get_or t.lsps i nowhere)
