-- Each path follows its history, and every call keeps that. Assumes nothing.
use mathlib.Core.Path.{◌≡◌, refl, ap, sym, subst, subst₂, ◌∙◌}
use mathlib.Core.Bool.{Bool, true, false}
use mathlib.Core.List.{List, [], ◌∷◌, ◌++◌}
use Prim.Native.Nat.{ℕ, ◌+◌, ◌≤◌, ◌<◌}
use native.Mathlib.Omega.{arith}
use lib.Dec.{eqb, leb, ltb}
use lib.ListN.{length, get_or, set, length-set, length-append, get_or-append}
use lib.Seq.{get_or-set_same, get_or-set_other, set_out, get_or_at}
use borrow.Author.Tests.{eqb-true, eqb-false, ltb-true, ltb-false, lt-ltb, le-ltb, leb-false}
use Rattle.payload.specs.Test.{pick, both}
use Rattle.payload.specs.Rates.{is_kind}
use Rattle.payload.specs.Layout.{is_ttsi}
use Rattle.lsp.specs.Steps as path
use Rattle.lsp.specs.Steps.{new_of}
use Rattle.lsp.specs.History.{Added, received, closed, signalled_as}
use Rattle.lsp.specs.declared.path.Lsp.{Lsp}
use Rattle.lsp.proofs.Follows.{Follows, at_first, receives, signals, closes_one}
use Rattle.table.specs.Steps.{nowhere, present, path_at, put, any_expects, add_by, add_of, receive_by, receive_of, close_by, close_of, server_by, server_of}
use Rattle.table.specs.Lawful.{Lawful}
use Rattle.table.specs.declared.paths.Table.{Table}
use Rattle.image.proofs.Law.{all_present}
use Rattle.history.specs.Calls.{Past, nobody, past_at, goes_on}

abbrev pub Fits : Lsp → Past → Type 0
Fits l x = Follows x.added l x.history

pub record Paired (t : Table) (ps : List Past) : Type 0 where
  pub count : length ps ≡ t.count
  pub each : (i : ℕ) → i < t.count → Fits (path_at t i) (past_at ps i)

-- ---- which paths are there

module _ (t : Table) (w : Lawful t) where
  pub all_there : present t ≡ t.count
  all_there = all_present t w.few

  pub is_there : (i : ℕ) → i < t.count → ltb i (present t) ≡ true
  is_there i h = lt-ltb i (present t) (omega (arith, all_there))

  pub is_not_there : (i : ℕ) → t.count ≤ i → ltb i (present t) ≡ false
  is_not_there i h = le-ltb i (present t) (omega (arith, all_there))

-- ---- a call on path i

module _ (t : Table) (ps : List Past) (w : Lawful t) (k : Paired t ps) (i : ℕ) where
  -- another path and its past in the place of path i and its own
  here : ltb i (present t) ≡ true → (l : Lsp) (x : Past) → Fits l x → Paired (put t i l) (set ps i x)
  here h l x f = record { count = length-set ps i x ∙ k.count; each = λ j m. at j m (eqb j i) refl }
    where
      below : i < t.count
      below = omega (arith, ltb-true i (present t) h, all_there t w)

      at : (j : ℕ) → j < t.count → (b : Bool) → eqb j i ≡ b → Fits (path_at (put t i l) j) (past_at (set ps i x) j)
      at j m true e =
          let q : j ≡ i = eqb-true j i e in
          subst (λ (n : ℕ). Fits (path_at (put t i l) n) (past_at (set ps i x) n)) (sym q)
          (subst₂ Fits (sym (get_or-set_same t.lsps i l nowhere (omega (arith, below, w.few, w.places)))) (sym (get_or-set_same ps i x nobody (omega (arith, below, k.count)))) f)
      at j m false e =
          let n : j ≡ i → ⊥ = eqb-false j i e in
          subst₂ Fits (sym (get_or-set_other t.lsps i j l nowhere n)) (sym (get_or-set_other ps i j x nobody n)) (k.each j m)

  pub no_path : ltb i (present t) ≡ false → (x : Past) → set ps i x ≡ ps
  no_path h x = set_out ps i x (omega (arith, ltb-false i (present t) h, all_there t w, k.count))

  nowhere_changed : ltb i (present t) ≡ false → (x : Past) → Paired t (set ps i x)
  nowhere_changed h x = subst (Paired t) (sym (no_path h x)) k

  was : ltb i (present t) ≡ true → Fits (path_at t i) (past_at ps i)
  was h = k.each i (omega (arith, ltb-true i (present t) h, all_there t w))

  pub receive_paired : (p : List ℕ) → Paired (receive_of t i p).1 (goes_on i (λ a h. received a p h) ps)
  unfolding receive_of
  receive_paired p = go (ltb i (present t)) refl
    where
      go : (b : Bool) → ltb i (present t) ≡ b → Paired (receive_by b t i (path.receive_of (path_at t i) p)).1 (goes_on i (λ a h. received a p h) ps)
      go true h = here h _ _ (receives _ _ _ (was h) p)
      go false h = nowhere_changed h _

  pub close_paired : Paired (close_of t i).next (goes_on i (λ a h. closed h) ps)
  unfolding close_of
  close_paired = go (ltb i (present t)) refl
    where
      go : (b : Bool) → ltb i (present t) ≡ b → Paired (close_by b t i (path.close_of (path_at t i))).next (goes_on i (λ a h. closed h) ps)
      go true h = here h _ _ (closes_one _ _ _ (was h))
      go false h = nowhere_changed h _

  pub server_paired : (v : ℕ) → Paired (server_of t i v).next (goes_on i (λ a h. signalled_as v h) ps)
  unfolding server_of
  server_paired v = go (ltb i (present t)) refl
    where
      go : (b : Bool) → ltb i (present t) ≡ b → Paired (server_by b t i (path.server_of (path_at t i) v)).next (goes_on i (λ a h. signalled_as v h) ps)
      go true h = here h _ _ (signals _ _ _ (was h) v)
      go false h = nowhere_changed h _

-- ---- adding

module _ (t : Table) (ps : List Past) (w : Lawful t) (k : Paired t ps) (a : Added) where
  abbrev new : Past
  new = record { added = a; history = [] }

  abbrev l : Lsp
  l = new_of a.kind a.ttsi a.dl

  one_more : t.count < 64 → Paired (record { count = t.count + 1; lsps = set t.lsps t.count l }) (ps ++ (new ∷ []))
  one_more room =
      record {
        count = length-append ps (new ∷ []) ∙ ap (λ (n : ℕ). n + 1) k.count;
        each = λ j m. at j m (eqb j t.count) refl;
      }
    where
      at : (j : ℕ) → j < t.count + 1 → (b : Bool) → eqb j t.count ≡ b → Fits (get_or (set t.lsps t.count l) j nowhere) (past_at (ps ++ (new ∷ [])) j)
      at j m true e =
          let q : j ≡ t.count = eqb-true j t.count e in
          subst (λ (n : ℕ). Fits (get_or (set t.lsps t.count l) n nowhere) (past_at (ps ++ (new ∷ [])) n)) (sym q)
          (subst₂ Fits (sym (get_or-set_same t.lsps t.count l nowhere (omega (arith, w.places)))) (sym (get_or_at ps new [] nobody t.count k.count)) (at_first a))
      at j m false e =
          let n : j ≡ t.count → ⊥ = eqb-false j t.count e in
          subst₂ Fits (sym (get_or-set_other t.lsps t.count j l nowhere n)) (sym (get_or-append ps (new ∷ []) nobody j (omega (arith, k.count))))
          (k.each j (omega arith))

  by : (g e f : Bool) → leb 64 t.count ≡ f → Paired (add_by g e f t l).next (pick (eqb (add_by g e f t l).number 0) (ps ++ (new ∷ [])) ps)
  by false e f q = k
  by true true f q = k
  by true false true q = k
  by true false false q = one_more (leb-false 64 t.count q)

  pub add_paired : Paired (add_of t a.kind a.ttsi a.dl).next (pick (eqb (add_of t a.kind a.ttsi a.dl).number 0) (ps ++ (new ∷ [])) ps)
  unfolding add_of
  add_paired = by (both (is_kind a.kind) (is_ttsi a.ttsi)) (any_expects t a.ttsi) (leb 64 t.count) refl
