-- A call on a path that answers 0 puts one event into its history, and one that is refused puts none. Assumes nothing.
use mathlib.Core.Path.{◌≡◌, refl, ap, sym, subst, ◌∙◌}
use mathlib.Core.Bool.{Bool, true, false, not}
use mathlib.Core.List.{List, ◌∷◌}
use Prim.Native.Nat.{ℕ, ◌≤◌, ◌<◌}
use native.Mathlib.Omega.{arith}
use lib.Dec.{eqb}
use lib.ListN.{length, set}
use lib.Seq.{get_or-set_same, set-get_or}
use borrow.Author.Tests.{eqb-false, lt-leb, le-leb}
use Rattle.payload.specs.Test.{pick, both}
use Rattle.payload.specs.Layout.{Fields, cv, ffd, fdi, bdi}
use Rattle.payload.specs.Reading.{Answer, refusal, shown, fields_at, read_of, accepts, ttsi_at}
use Rattle.payload.proofs.Opened.{passed, shown_by}
use Rattle.rules.specs.Machine.{expected, unexpected}
use Rattle.lsp.specs.Steps.{same}
use Rattle.lsp.specs.History.{Event, arrives, told, reported, closes, History, Added, counted_as, heard_as, received_by, received, slots, limit, closed}
use Rattle.lsp.specs.Theorem.{strange, answer_to}
use Rattle.history.specs.Calls.{Past, nobody, past_at, goes_on}
use Rattle.history.specs.Corollaries.{Newest}

-- of the number answered, and the history after and before
pub record Marks (n : ℕ) (after before : History) : Type 0 where
  pub done : n ≡ 0 → (e : Event) × (after ≡ e ∷ before)
  pub refused : (n ≡ 0 → ⊥) → after ≡ before

marked : (e : Event) (h : History) → Marks 0 (e ∷ h) h
marked e h = record { done = λ z. (e, refl); refused = λ n. absurd (n refl) }

unmarked : {n : ℕ} (h : History) → (n ≡ 0 → ⊥) → Marks n h h
unmarked h k = record { done = λ z. absurd (k z); refused = λ n. refl }

module _ (a : Added) (h : History) where
  by_count : (own rate : Bool) (r : Answer) → r.number ≡ 0 → Marks (pick (both own (not rate)) (refusal 6) r).number (counted_as own rate h) h
  by_count true true r z = subst (λ (n : ℕ). Marks n (arrives expected ∷ h) h) (sym z) (marked (arrives expected) h)
  by_count true false r z = unmarked h (λ e. omega arith)
  by_count false rate r z = subst (λ (n : ℕ). Marks n (arrives unexpected ∷ h) h) (sym z) (marked (arrives unexpected) h)

  by_fields : (f : Fields) (t : List ℕ) → Marks (pick (strange a (shown f) t) (refusal 6) (shown f)).number (heard_as a (shown f) t h) h
  by_fields (cv u) t = by_count (same t a.ttsi) (eqb 0 a.kind) (shown (cv u)) refl
  by_fields (ffd u r) t = by_count (same t a.ttsi) (eqb r a.kind) (shown (ffd u r)) refl
  by_fields (fdi u dt dl) t = marked (told dt dl) h
  by_fields (bdi u dt dl) t = marked reported h

  pub receive_marks : (p : List ℕ) → Marks (answer_to a p).number (received a p h) h
  unfolding received
  receive_marks p = go (accepts p) refl
    where
      go : (b : Bool) → accepts p ≡ b
          → Marks (pick (both b (strange a (read_of p) (ttsi_at p))) (refusal 6) (read_of p)).number (received_by b a (read_of p) (ttsi_at p) h) h
      go true e =
          subst (λ (r : Answer). Marks (pick (strange a r (ttsi_at p)) (refusal 6) r).number (heard_as a r (ttsi_at p) h) h) (sym (shown_by p (passed p e)))
          (by_fields (fields_at p) (ttsi_at p))
      go false e = unmarked h (eqb-false (read_of p).number 0 e)

-- ---- closes and signals

pub close_mark : (h : History) → slots h < limit → closed h ≡ closes ∷ h
close_mark h k = rw (lt-leb limit (slots h) k)

pub no_close_mark : (h : History) → limit ≤ slots h → closed h ≡ h
no_close_mark h k = rw (le-leb limit (slots h) k)

-- ---- in the pasts of a table

module _ (ps : List Past) (i : ℕ) (f : Added → History → History) where
  pub unchanged : f (past_at ps i).added (past_at ps i).history ≡ (past_at ps i).history → goes_on i f ps ≡ ps
  unchanged e = ap (λ (h : History). set ps i (record { added = (past_at ps i).added; history = h })) e ∙ set-get_or ps i nobody

  pub newest : (e : Event) → i < length ps → f (past_at ps i).added (past_at ps i).history ≡ e ∷ (past_at ps i).history → Newest e i ps (goes_on i f ps)
  newest e b q = get_or-set_same ps i _ nobody b ∙ ap (λ (h : History). record { added = (past_at ps i).added; history = h }) q
