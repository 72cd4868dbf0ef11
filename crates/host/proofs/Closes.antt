-- What the close of C answers and leaves, over plain values. Assumes nothing.
use mathlib.Core.Path.{◌≡◌, refl, sym, ap, ap₂, ◌∙◌}
use mathlib.Core.Bool.{Bool, true, false}
use mathlib.Core.List.{List, ◌++◌}
use Prim.Native.Nat.{ℕ, ◌≤◌, ◌<◌}
use lib.Dec.{leb, ltb}
use lib.ListN.{length, drop}
use borrow.Author.Tests.{le-leb, lt-leb, ne_eqb}
use Rattle.std.specs.Prelude.{Result, Ok, Err}
use Rattle.refusal.specs.Numbers.{number_of}
use Rattle.refusal.specs.declared.Refusal.{Refusal}
use Rattle.refusal.proofs.Numbers.{refuses}
use Rattle.payload.specs.Law.{Octets}
use Rattle.payload.specs.Test.{both}
use Rattle.payload.proofs.Tests.{both_false}
use Rattle.octets.specs.Parts.{joined}
use Rattle.lsp.specs.Steps as path
use Rattle.lsp.specs.Outcomes as path_answers
use Rattle.lsp.specs.declared.path.Lsp.{Lsp}
use Rattle.lsp.specs.declared.close.Closed as code
use Rattle.table.proofs.Places.{put_back}
use Rattle.table.specs.Outcomes.{Closed}
use Rattle.table.specs.Steps as table
use Rattle.table.specs.Steps.{present, path_at, put}
use Rattle.table.specs.declared.paths.Table.{Table}
use Rattle.host.specs.Calls.{is_long, is_held, table_in, saved_in, found_of, answer_parts, answer_octets, answered_by, close_by, close_of}
use Rattle.host.specs.Records.{path_in, with_path}
use Rattle.host.proofs.Called.{Found, Missing, short, broken, no_path, found, missing}
use Rattle.host.proofs.InPlace.{unchanged}

module _ (s : List ℕ) (i : ℕ) (a : List ℕ) where
  close_by_lem : (long held : Bool) → both (is_long s) (leb 27 (length a)) ≡ long → is_held s ≡ held
      → close_by long held (table.close_of (table_in s) i) s a ≡ close_of s i a
  unfolding close_of
  close_by_lem long held p q = sym (ap₂ (λ (x y : Bool). close_by x y (table.close_of (table_in s) i) s a) p q)

  pub short_answer : length a < 27 → (11, s, a) ≡ close_of s i a
  short_answer h = close_by_lem false (is_held s) (ap (both (is_long s)) (lt-leb 27 (length a) h) ∙ both_false (is_long s)) refl

  module _ (n : 27 ≤ length a) where
    long_by : (long : Bool) → is_long s ≡ long → both (is_long s) (leb 27 (length a)) ≡ long
    long_by true p = ap₂ both p (le-leb 27 (length a) n)
    long_by false p = ap₂ both p (le-leb 27 (length a) n)

    there_by : (there : Bool) → ltb i (present (table_in s)) ≡ there
        → table.close_by there (table_in s) i (path.close_of (path_at (table_in s) i)) ≡ table.close_of (table_in s) i
    unfolding table.close_of
    there_by there r = sym (ap (λ (b : Bool). table.close_by b (table_in s) i (path.close_of (path_at (table_in s) i))) r)

    -- 11, 10 or 1
    pub close_absent : (r : Refusal) → number_of r ≡ found_of s i → Octets s → (number_of r, s, a) ≡ close_of s i a
    close_absent r e o = go (number_of r) (missing s i (number_of r) e (refuses r))
      where
        go : (k : ℕ) → Missing s i k → (k, s, a) ≡ close_of s i a
        go k (short p q) = ap (λ (m : ℕ). (m, s, a)) q ∙ close_by_lem false (is_held s) (long_by false p) refl
        go k (broken p h q) = ap (λ (m : ℕ). (m, s, a)) q ∙ close_by_lem true false (long_by true p) h
        go k (no_path w h q) =
            ap (λ (m : ℕ). (m, s, a)) q
            ∙ ap (λ (x : List ℕ). (1, x, a)) (sym (unchanged s w.image o))
            ∙ ap (λ (c : Closed). close_by true true c s a) (there_by false h)
            ∙ close_by_lem true true (long_by true w.long) w.held

    module _ (z : 0 ≡ found_of s i) where
      w : Found s i
      w = found s i 0 z refl

      -- by what the path answers
      closes : (c : path_answers.Closed) → c ≡ path.close_of (path_in s i) → close_by true true (table.close_by true (table_in s) i c) s a ≡ close_of s i a
      unfolding path_in
      closes c e =
          ap (λ (x : path_answers.Closed). close_by true true (table.close_by true (table_in s) i x) s a) e
          ∙ ap (λ (x : Closed). close_by true true x s a) (there_by true w.there)
          ∙ close_by_lem true true (long_by true w.opens.long) w.opens.held

      -- 9: the path, and so the image, is what it was
      pub close_refused : (r : Refusal) → path_answers.closed_in (path_in s i) (Err r) ≡ path.close_of (path_in s i) → Octets s → (number_of r, s, a) ≡ close_of s i a
      unfolding path_in
      close_refused r e o =
          ap (λ (x : List ℕ). (number_of r, x, a)) (sym (ap (λ (t : Table). saved_in t s) (put_back (table_in s) i) ∙ unchanged s w.opens.image o))
          ∙ ap (λ (b : Bool). (number_of r, saved_in (put (table_in s) i (path_at (table_in s) i)) s, answered_by b (table.close_by true (table_in s) i (path_answers.closed_in (path_at (table_in s) i) (Err r))) a))
          (sym (ne_eqb (number_of r) 0 (refuses r)))
          ∙ closes (path_answers.closed_in (path_at (table_in s) i) (Err r)) e

      pub close_done : (x : Result (code.Closed × Lsp) Refusal) (c : code.Closed) (next : Lsp) → x ≡ Ok (c, next)
          → path_answers.closed_in (path_in s i) x ≡ path.close_of (path_in s i)
          → (0, with_path s i next, joined (answer_parts c.defect c.out c.handed) ++ drop 27 a) ≡ close_of s i a
      unfolding answer_octets with_path
      close_done x c next h e = closes (path_answers.closed_in (path_in s i) (Ok (c, next))) (ap (path_answers.closed_in (path_in s i)) (sym h) ∙ e)

pub ruleset close_steps = (short_answer, close_absent, close_refused, close_done)
