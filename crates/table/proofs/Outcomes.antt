-- Each call's outcome where the path is there and where it isn't, and each of adding's. Assumes nothing.
use mathlib.Core.Path.{◌≡◌, ap, sym, ◌∙◌}
use mathlib.Core.Bool.{Bool, true, false}
use mathlib.Core.List.{List}
use Prim.Native.Nat.{ℕ, ◌≤◌, ◌<◌}
use lib.Dec.{ltb, leb}
use borrow.Author.Tests.{le-leb, lt-leb}
use Rattle.payload.specs.Test.{both}
use Rattle.payload.specs.Rates.{is_kind}
use Rattle.payload.specs.Layout.{is_ttsi}
use Rattle.lsp.specs.Steps as path
use Rattle.lsp.specs.Steps.{new_of, out_is}
use Rattle.lsp.specs.declared.path.Lsp.{Lsp}
use Rattle.lsp.specs.Outcomes as answered
use Rattle.table.specs.Steps.{present, path_at, any_expects, not_added, add_by, add_of, close_by, close_of}
use Rattle.table.specs.declared.paths.Table.{Table}

-- ---- the calls on a path

module _ (t : Table) (i : ℕ) where
  module _ (h : ltb i (present t) ≡ true) where
    pub closes : (c : answered.Closed) → c ≡ path.close_of (path_at t i) → close_by true t i c ≡ close_of t i
    unfolding close_of
    closes c e = ap (close_by true t i) e ∙ ap (λ (b : Bool). close_by b t i (path.close_of (path_at t i))) (sym h)

-- ---- adding

module _ (t : Table) (kind : ℕ) (ttsi : List ℕ) (dl : ℕ) where
  add_by_lem : (given expected full : Bool) → both (is_kind kind) (is_ttsi ttsi) ≡ given → any_expects t ttsi ≡ expected → leb 64 t.count ≡ full
      → add_by given expected full t (new_of kind ttsi dl) ≡ add_of t kind ttsi dl
  unfolding add_of
  add_by_lem g e f p q r = rw (p, q, r)

  module _ (k : is_kind kind ≡ true) (s : is_ttsi ttsi ≡ true) where
    given : both (is_kind kind) (is_ttsi ttsi) ≡ true
    given = rw (k, s)

    pub full : any_expects t ttsi ≡ false → 64 ≤ t.count → not_added 7 t ≡ add_of t kind ttsi dl
    full h m = add_by_lem true false true given h (le-leb 64 t.count m)

    pub adds : (l : Lsp) → any_expects t ttsi ≡ false → t.count < 64 → l ≡ new_of kind ttsi dl → add_by true false false t l ≡ add_of t kind ttsi dl
    adds l h m e = ap (add_by true false false t) e ∙ add_by_lem true false false given h (lt-leb 64 t.count m)
