-- Which event a call on a path puts into its history, by whether the path is there: one where the call is done, none where it is refused.
-- Assumes nothing.
use mathlib.Core.Path.{◌≡◌, refl, ap, sym, subst, ◌∙◌}
use mathlib.Core.Bool.{Bool, true, false}
use mathlib.Core.List.{List, ◌∷◌}
use Prim.Native.Nat.{ℕ, ◌≤◌, ◌<◌}
use native.Mathlib.Omega.{arith}
use lib.Dec.{eqb, leb}
use lib.Seq.{set_out}
use mathlib.Core.Logic.{⊎_elim}
use Rattle.std.proofs.lemmas.Bool.{cases_lt}
use Rattle.payload.specs.Reading.{Answer}
use Rattle.lsp.specs.Steps as path
use Rattle.lsp.specs.History.{Event, signalled, closes, History, Added, received, slots, limit, closed, signalled_as}
use Rattle.table.specs.Steps.{path_at, receive_by, receive_of, server_by, server_of}
use Rattle.table.specs.Lawful.{Lawful}
use Rattle.history.specs.Calls.{receive, close, server, number, past_at, goes_on, World}
use Rattle.history.specs.Theorem.{Claim}
use Rattle.history.specs.Corollaries.{Newest}
use Rattle.history.proofs.Kept.{is_there, is_not_there}
use Rattle.history.proofs.Marks.{Marks, receive_marks, close_mark, no_close_mark, unchanged, newest}

module _ (w : World) (l : Lawful w.table) (c : Claim w) (i : ℕ) where
  abbrev a : Added
  a = (past_at w.pasts i).added

  abbrev h : History
  h = (past_at w.pasts i).history

  placed : {A : Type 0} → (i < w.table.count → A) → (w.table.count ≤ i → A) → A
  placed y n = ⊎_elim y n (cases_lt i w.table.count)

  absent : (f : Added → History → History) → w.table.count ≤ i → goes_on i f w.pasts ≡ w.pasts
  absent f m = set_out w.pasts i _ (omega (arith, c.count))

  pub receive_none : (p : List ℕ) → w.table.count ≤ i → number (receive i p) w.table ≡ 1
  unfolding receive_of
  receive_none p m = ap (λ (b : Bool). (receive_by b w.table i (path.receive_of (path_at w.table i) p)).0.number) (is_not_there w.table l i m)

  receive_marked : (p : List ℕ) → i < w.table.count → Marks (number (receive i p) w.table) (received a p h) h
  receive_marked p m = subst (λ (r : Answer). Marks r.number (received a p h) h) (sym (c.receive i p m)) (receive_marks a h p)

  pub receive_kept : (p : List ℕ) → (number (receive i p) w.table ≡ 0 → ⊥) → goes_on i (λ a h. received a p h) w.pasts ≡ w.pasts
  receive_kept p n = placed (λ m. unchanged w.pasts i (λ a h. received a p h) ((receive_marked p m).refused n)) (absent (λ a h. received a p h))

  pub receive_newest : (p : List ℕ) → number (receive i p) w.table ≡ 0 → (e : Event) × Newest e i w.pasts (goes_on i (λ a h. received a p h) w.pasts)
  receive_newest p z =
      placed
      (λ m. let d = (receive_marked p m).done z in (d.0, newest w.pasts i (λ a h. received a p h) d.0 (omega (arith, c.count)) d.1))
      (λ m. absurd (omega (arith, receive_none p m)))

  pub close_kept : (number (close i) w.table ≡ 0 → ⊥) → goes_on i (λ a h. closed h) w.pasts ≡ w.pasts
  close_kept n = placed (λ m. unchanged w.pasts i (λ a h. closed h) (no_close_mark h (at_limit_lem m))) (absent (λ a h. closed h))
    where
      at_limit_lem : i < w.table.count → limit ≤ slots h
      at_limit_lem m = ⊎_elim (λ k. absurd (n ((c.close i).done m k).number)) (λ k. k) (cases_lt (slots h) limit)

  pub close_newest : number (close i) w.table ≡ 0 → Newest closes i w.pasts (goes_on i (λ a h. closed h) w.pasts)
  close_newest z =
      placed
      (λ m. newest w.pasts i (λ a h. closed h) closes (omega (arith, c.count)) (close_mark h (below m)))
      (λ m. absurd (omega (arith, ((c.close i).none m).number)))
    where
      below : i < w.table.count → slots h < limit
      below m = ⊎_elim (λ k. k) (λ k. absurd (omega (arith, ((c.close i).full m k).number))) (cases_lt (slots h) limit)

  server_none : (v : ℕ) → w.table.count ≤ i → number (server i v) w.table ≡ 1
  unfolding server_of
  server_none v m = ap (λ (b : Bool). (server_by b w.table i (path.server_of (path_at w.table i) v)).number) (is_not_there w.table l i m)

  server_there : (v : ℕ) → i < w.table.count → number (server i v) w.table ≡ (path.server_of (path_at w.table i) v).number
  unfolding server_of
  server_there v m = ap (λ (b : Bool). (server_by b w.table i (path.server_of (path_at w.table i) v)).number) (is_there w.table l i m)

  signal_mark : (v : ℕ) (b : Bool) → leb v 1 ≡ b → ((path.server_of (path_at w.table i) v).number ≡ 0 → signalled_as v h ≡ signalled (eqb v 1) ∷ h)
      × (((path.server_of (path_at w.table i) v).number ≡ 0 → ⊥) → signalled_as v h ≡ h)
  signal_mark v true e = (λ z. rw e, λ n. absurd (n (rw e)))
  signal_mark v false e = (λ z. absurd (let y : ◌≡◌ {A = ℕ} 12 0 = rw e at z in omega arith), λ n. rw e)

  pub server_kept : (v : ℕ) → (number (server i v) w.table ≡ 0 → ⊥) → goes_on i (λ a h. signalled_as v h) w.pasts ≡ w.pasts
  server_kept v n =
      placed
      (λ m. unchanged w.pasts i (λ a h. signalled_as v h) ((signal_mark v (leb v 1) refl).1 (λ z. n (server_there v m ∙ z))))
      (absent (λ a h. signalled_as v h))

  pub server_newest : (v : ℕ) → number (server i v) w.table ≡ 0 → Newest (signalled (eqb v 1)) i w.pasts (goes_on i (λ a h. signalled_as v h) w.pasts)
  server_newest v z =
      placed
      (λ m. newest w.pasts i (λ a h. signalled_as v h) (signalled (eqb v 1)) (omega (arith, c.count)) ((signal_mark v (leb v 1) refl).0 (sym (server_there v m) ∙ z)))
      (λ m. absurd (omega (arith, server_none v m)))
