-- What a field lent comes back as, over plain values. Assumes nothing.
use mathlib.Core.Path.{◌≡◌, ap, ◌∙◌}
use mathlib.Core.List.{List, ◌++◌, append-nil}
use Prim.Native.Nat.{ℕ}
use native.Mathlib.Omega.{arith}
use lib.ListN.{length, drop, drop_of_length-le}
use borrow.Author.Tests.{le-leb}
use Rattle.lsp.specs.declared.path.Lsp.{Lsp}
use Rattle.field.specs.Field.{field_of, write_of}

-- a field lent as its 79 octets comes back as the path's
pub whole : (l : Lsp) (b m : List ℕ) (r : ℕ) → length b ≡ 79 → (r, m) ≡ write_of l b → m ≡ field_of l
whole l b m r n e =
    let w : write_of l b ≡ (0, field_of l ++ drop 79 b) = rw (le-leb 79 (length b) (omega arith)) in
    ap (λ (p : ℕ × List ℕ). p.1) (e ∙ w) ∙ ap (λ (x : List ℕ). field_of l ++ x) (drop_of_length-le b {i = 79} (omega arith)) ∙ append-nil (field_of l)
