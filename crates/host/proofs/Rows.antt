-- FDI and BDI written from an image, over plain values. Assumes nothing.
use mathlib.Core.Path.{◌≡◌, refl, sym, ap, ap₂, ◌∙◌}
use mathlib.Core.Bool.{Bool, true, false}
use mathlib.Core.List.{List}
use Prim.Native.Nat.{ℕ}
use lib.Dec.{ltb}
use Rattle.refusal.specs.Numbers.{number_of}
use Rattle.refusal.specs.declared.Refusal.{Refusal}
use Rattle.refusal.proofs.Numbers.{refuses}
use Rattle.lsp.specs.Steps as path
use Rattle.table.specs.Steps as table
use Rattle.table.specs.Steps.{present, path_at}
use Rattle.host.specs.Calls.{is_long, is_held, table_in, found_of, write_row_by, write_row_of}
use Rattle.host.specs.Records.{path_in}
use Rattle.host.proofs.Called.{Found, Missing, short, broken, no_path, found, missing}

module _ (ty : ℕ) (s : List ℕ) (i : ℕ) (b : List ℕ) where
  row_by : (long held there : Bool) → is_long s ≡ long → is_held s ≡ held → ltb i (present (table_in s)) ≡ there
      → write_row_by long held (table.write_row_by there b (path.write_row_of ty (path_at (table_in s) i) b)) b ≡ write_row_of ty s i b
  unfolding write_row_of table.write_row_of
  row_by long held there p q r =
      sym (ap₂ (λ (x y : Bool). write_row_by x y (table.write_row_by (ltb i (present (table_in s))) b (path.write_row_of ty (path_at (table_in s) i) b)) b) p q
      ∙ ap (λ (z : Bool). write_row_by long held (table.write_row_by z b (path.write_row_of ty (path_at (table_in s) i) b)) b) r)

  pub row_absent : (r : Refusal) → number_of r ≡ found_of s i → (number_of r, b) ≡ write_row_of ty s i b
  row_absent r e = go (number_of r) (missing s i (number_of r) e (refuses r))
    where
      go : (n : ℕ) → Missing s i n → (n, b) ≡ write_row_of ty s i b
      go n (short p q) = ap (λ (k : ℕ). (k, b)) q ∙ row_by false _ _ p refl refl
      go n (broken p h q) = ap (λ (k : ℕ). (k, b)) q ∙ row_by true false _ p h refl
      go n (no_path w h q) = ap (λ (k : ℕ). (k, b)) q ∙ row_by true true false w.long w.held h

  pub row_done : 0 ≡ found_of s i → write_row_of ty s i b ≡ path.write_row_of ty (path_in s i) b
  unfolding path_in
  row_done z = let w : Found s i = found s i 0 z refl in sym (row_by true true true w.opens.long w.opens.held w.there)

pub ruleset row_steps = (row_absent, row_done)
