-- The theorem for one path (`specs/Theorem.antt`): what it keeps beside its history follows every step, and `rules` says what that means.
-- Assumes nothing.
use mathlib.Core.Path.{◌≡◌, refl, ap, ap₂, sym, subst, ◌∙◌}
use mathlib.Core.Bool.{Bool, true, false, not}
use mathlib.Core.Logic.{◌↔◌}
use mathlib.Core.List.{List, [], ◌∷◌}
use Prim.Native.Nat.{ℕ, suc, ◌≤◌, ◌<◌}
use native.Mathlib.Omega.{arith}
use lib.Dec.{eqb}
use borrow.Author.Tests.{eq-eqb, ne_eqb}
use Rattle.payload.specs.Test.{pick, both}
use Rattle.payload.specs.Layout.{Fields, cv, ffd, fdi, bdi}
use Rattle.payload.specs.Rates.{life_of}
use Rattle.payload.specs.Reading.{Answer, refusal, shown, fields_at, read_of, accepts, ttsi_at}
use Rattle.payload.proofs.Opened.{passed, shown_by}
use Rattle.rules.specs.Rules.{Record, HandsOut}
use Rattle.rules.specs.Machine as machine
use Rattle.rules.specs.History.{state_of, count_in}
use Rattle.rules.specs.Claim.{Right, RightFfd, RightDefect}
use Rattle.rules.proofs.Theorem.{state_right, state_right_ffd, answer_right}
use Rattle.window.specs.View.{view, defect_in, record_out}
use Rattle.std.specs.Prelude.{None}
use Rattle.window.proofs.Views.{record_out_one}
use Rattle.lsp.specs.Steps.{same, counted_by, counted_of, taken_of, receive_by, receive_of, out_by, close_of}
use Rattle.lsp.specs.History.{Added, History, counted, slots, server_in, last_fdi, fdi_after, closes, limit}
use Rattle.lsp.specs.Theorem.{Step, receive, close, server, after, history_of, added, exact, Path, Closing, AtLimit, strange, answer_to, Theorem}
use Rattle.lsp.specs.declared.path.Fdi.{Fdi}
use Rattle.lsp.specs.declared.path.Lsp.{Lsp}
use Rattle.lsp.specs.Outcomes.{Closed}
use Rattle.lsp.proofs.Follows.{cv_in, Follows, at_first, receives, signals, slots_are, closed_well, close_well, close_full, next_state_lem, one_more, closes_one}

pub follows : (a : Added) (s : List Step) → Follows a (after (added a) s) (history_of a s)
follows a [] = at_first a
follows a (receive p ∷ s) = receives a _ _ (follows a s) p
follows a (close ∷ s) = closes_one a _ _ (follows a s)
follows a (server v ∷ s) = signals a _ _ (follows a s) v

module _ (a : Added) (l : Lsp) (h : History) (f : Follows a l h) where
  is_cv_lem : a.kind ≡ 0 → cv_in a ≡ true
  is_cv_lem e = eq-eqb a.kind 0 e

  is_ffd : (a.kind ≡ 0 → ⊥) → cv_in a ≡ false
  is_ffd n = ne_eqb a.kind 0 n

  on_cv : a.kind ≡ 0 → view l.state ≡ state_of true (counted h)
  on_cv e = f.state ∙ ap (λ (b : Bool). state_of b (counted h)) (is_cv_lem e)

  on_ffd : (a.kind ≡ 0 → ⊥) → view l.state ≡ state_of false (counted h)
  on_ffd n = f.state ∙ ap (λ (b : Bool). state_of b (counted h)) (is_ffd n)

  pub right_path : Path a l h
  right_path =
      record {
        kind = f.kind;
        ttsi = f.ttsi;
        dl = f.dl;
        cv = λ e. subst (Right (exact h) (slots h)) (sym (on_cv e)) (state_right (counted h));
        ffd = λ n. subst (RightFfd (exact h) (slots h)) (sym (on_ffd n)) (state_right_ffd (counted h));
        server = f.server;
        fdi = f.fdi;
      }

  -- ---- the close

  module _ (below : slots h < limit) where
    well : close_of l ≡ closed_well l
    well = close_well l (omega (arith, slots_are a l h f))

    -- of either kind of path
    next_defect : RightDefect (exact h) (suc (slots h)) (state_of (cv_in a) (counted (closes ∷ h))).defect
    unfolding count_in
    next_defect = go (cv_in a)
      where
        go : (b : Bool) → RightDefect (exact h) (suc (slots h)) (state_of b (counted (closes ∷ h))).defect
        go true = (state_right (counted (closes ∷ h))).defect
        go false = (state_right_ffd (counted (closes ∷ h))).defect

    answered : defect_in (close_of l).defect ≡ (state_of (cv_in a) (counted (closes ∷ h))).defect
    answered = ap (λ (c : Closed). defect_in c.defect) well ∙ ap (λ (s : machine.State). s.defect) (next_state_lem a l h f)

    handed_cv : a.kind ≡ 0 → (close_of l).handed ≡ record_out (machine.handed_out true (state_of true (counted h)))
    handed_cv e =
        ap (λ (c : Closed). c.handed) well
        ∙ ap (λ (b : Bool). record_out (machine.handed_out b (view l.state))) (ap (λ (k : ℕ). eqb k 0) f.kind ∙ is_cv_lem e)
        ∙ ap (λ (s : machine.State). record_out (machine.handed_out true s)) (on_cv e)

    right_record : a.kind ≡ 0 → (r : Record) → ((close_of l).handed ≡ record_out r) ↔ HandsOut 1 (exact h) (suc (slots h)) r
    right_record e r =
        let w = (answer_right (counted h)).hands r in
        (λ q. w.0 (record_out_one _ r (sym (handed_cv e) ∙ q)), λ q. handed_cv e ∙ ap record_out (w.1 q))

    no_record : (a.kind ≡ 0 → ⊥) → (close_of l).handed ≡ None
    no_record n =
        ap (λ (c : Closed). c.handed) well
        ∙ ap (λ (b : Bool). record_out (machine.handed_out b (view l.state))) (ap (λ (k : ℕ). eqb k 0) f.kind ∙ is_ffd n)

    right_out : (close_of l).out ≡ out_by (close_of l).defect (server_in h) (fdi_after (life_of a.kind) (suc (slots h)) (last_fdi h)) a.dl
    right_out =
        let g : Follows a (closed_well l).next (closes ∷ h) = one_more a l h f in
        ap (λ (c : Closed). c.out) well
        ∙ ap (λ (b : Bool). out_by (closed_well l).defect b (closed_well l).next.fdi l.dl) g.server
        ∙ ap₂ (λ (x : Fdi) (k : ℕ). out_by (closed_well l).defect (server_in h) x k) g.fdi g.dl
        ∙ ap (λ (c : Closed). out_by c.defect (server_in h) (fdi_after (life_of a.kind) (suc (slots h)) (last_fdi h)) a.dl) (sym well)

    pub right_closing : Closing a l h
    right_closing =
        record {
          number = ap (λ (c : Closed). c.number) well;
          defect = subst (RightDefect (exact h) (suc (slots h))) (sym answered) next_defect;
          cv = right_record;
          ffd = no_record;
          out = right_out;
        }

  pub at_limit_lem : limit ≤ slots h → AtLimit l
  at_limit_lem k =
      let e = close_full l (omega (arith, slots_are a l h f)) in
      record { number = ap (λ (c : Closed). c.number) e; unchanged = ap (λ (c : Closed). c.next) e }

  -- ---- receiving

  by_count : (r : Answer) (own rate : Bool) → (counted_by own rate l r).0 ≡ pick (both own (not rate)) (refusal 6) r
  by_count r true true = refl
  by_count r true false = refl
  by_count r false rate = refl

  counted_answer : (r : Answer) (t : List ℕ) → (counted_of l r t).0 ≡ pick (both (same t a.ttsi) (not (eqb r.rate a.kind))) (refusal 6) r
  counted_answer r t =
      by_count r (same t l.ttsi) (eqb r.rate l.kind)
      ∙ ap₂ (λ (x : List ℕ) (k : ℕ). pick (both (same t x) (not (eqb r.rate k))) (refusal 6) r) f.ttsi f.kind

  by_fields : (g : Fields) (t : List ℕ) → (taken_of l (shown g) t).0 ≡ pick (strange a (shown g) t) (refusal 6) (shown g)
  by_fields (cv u) t = counted_answer (shown (cv u)) t
  by_fields (ffd u r) t = counted_answer (shown (ffd u r)) t
  by_fields (fdi u dt dl) t = refl
  by_fields (bdi u dt dl) t = refl

  pub right_answer : (p : List ℕ) → (receive_of l p).0 ≡ answer_to a p
  unfolding receive_of
  right_answer p = go (accepts p) refl
    where
      go : (b : Bool) → accepts p ≡ b → (receive_by b l (read_of p) (ttsi_at p)).0 ≡ pick (both b (strange a (read_of p) (ttsi_at p))) (refusal 6) (read_of p)
      go true e =
          subst (λ (r : Answer). (taken_of l r (ttsi_at p)).0 ≡ pick (strange a r (ttsi_at p)) (refusal 6) r) (sym (shown_by p (passed p e)))
          (by_fields (fields_at p) (ttsi_at p))
      go false e = refl

pub theorem : (a : Added) (s : List Step) → Theorem a s
theorem a s =
    record {
      path = right_path a _ _ (follows a s);
      closing = right_closing a _ _ (follows a s);
      at_limit = at_limit_lem a _ _ (follows a s);
      receiving = right_answer a _ _ (follows a s);
    }
