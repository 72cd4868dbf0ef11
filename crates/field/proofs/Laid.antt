-- What the writer leaves, over plain lists. Assumes nothing.
use mathlib.Core.Path.{◌≡◌, refl, sym, ap, ◌∙◌}
use mathlib.Core.Bool.{Bool, true, false}
use mathlib.Core.List.{List, ◌++◌, map}
use Prim.Native.Nat.{ℕ, ◌+◌, ◌≤◌}
use lib.ListN.{length, drop}
use borrow.Author.Tests.{le-leb}
use Rattle.std.specs.Int.{from_bool}
use Rattle.octets.specs.Parts.{joined, total}
use Rattle.octets.proofs.Parts.{Lays, lays_all}
use Rattle.lsp.specs.declared.path.Lsp.{Lsp}
use Rattle.field.specs.Field.{server_of, parts_of, field_of, write_of}

pub on_is : (b : Bool) → from_bool b ≡ server_of b
on_is true = refl
on_is false = refl

module _ (l : Lsp) (b : List ℕ) where
  pub written : {s t : List ℕ} {ps : List (List ℕ)} → 79 ≤ length b → length s ≡ 79 → 0 + total (map length ps) ≡ 79 → Lays s 0 ps t → ps ≡ parts_of l
      → (0, t ++ drop 79 b) ≡ write_of l b
  unfolding field_of
  written h n k all e = rw (le-leb 79 (length b) h) (ap (λ (x : List ℕ). (0, x ++ drop 79 b)) (lays_all all (n ∙ sym k) ∙ ap joined e))
