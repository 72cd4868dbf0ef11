-- What the theorem means to those who run the node (`specs/Corollaries.antt`). Assumes nothing.
use mathlib.Core.Path.{◌≡◌, refl, ap, sym, subst, ◌∙◌}
use mathlib.Core.Logic.{◌⊎◌, inl, inr, ⊎_elim}
use mathlib.Core.List.{List}
use Prim.Native.Nat.{ℕ, ◌≤◌, ◌<◌}
use native.Mathlib.Omega.{arith}
use lib.Dec.{eqb}
use borrow.Author.Tests.{ne_eqb}
use Rattle.std.proofs.lemmas.Bool.{cases_eq}
use Rattle.std.specs.Prelude.{Some}
use Rattle.payload.specs.Test.{pick}
use Rattle.rules.specs.Counts.{Counts, sum_last}
use Rattle.rules.specs.Rules as rules
use Rattle.rules.specs.Rules.{Kind, Enters, Stands, Latest, HandsOut, Entry}
use Rattle.rules.specs.History.{count_in}
use Rattle.rules.specs.Machine.{stands, available}
use Rattle.rules.specs.Claim.{Right, RightDefect}
use Rattle.rules.proofs.Records.{record_range}
use Rattle.window.specs.View.{defect_in, defect_out, availability_in, availability_out, view}
use Rattle.window.specs.declared.state.Defect.{Defect}
use Rattle.window.specs.declared.state.Defect.TheVariants.{Mismatch, Mismerge, Locv, Excess}
use Rattle.window.specs.declared.state.Availability.{Availability}
use Rattle.window.specs.declared.state.Availability.TheVariants.{Available}
use Rattle.window.specs.declared.state.Record.TheVariants.{U}
use Rattle.window.proofs.Views.{out_in, available_out_in}
use Rattle.lsp.specs.History.{closes, slots}
use Rattle.lsp.specs.Theorem.{exact}
use Rattle.table.specs.Steps.{path_at, close_of}
use Rattle.table.specs.Lawful.{Lawful}
use Rattle.table.specs.declared.paths.Table.{Table}
use Rattle.table.proofs.Laws as tables
use Rattle.history.specs.Calls.{Call, add, receive, close, server, write_fdi, write_bdi, size, save, restore, number, Past, past_at, Saving, World, next, calling}
use Rattle.history.specs.Theorem.{RightClose, Claim}
use Rattle.history.specs.Corollaries.{Open, slot, arrived, InService, Newest, Corollaries}
use Rattle.history.proofs.Reached.{reached_lawful}
use Rattle.history.proofs.Theorem.{claimed}
use Rattle.history.proofs.Slots.{of_three, entered, latest_now, not_latest, was_latest, cleared}
use Rattle.history.proofs.Events.{receive_kept, receive_newest, close_kept, close_newest, server_kept, server_newest}
use Rattle.history.proofs.Restart.{restores_all, restarts, restarts_later}

-- ---- the code's kinds are the rules'

same_kind : (d e : Defect) → defect_in d ≡ defect_in e → d ≡ e
same_kind d e h = out_in d ∙ ap defect_out h ∙ sym (out_in e)

is_available_lem : (a : Availability) → availability_in a ≡ available → a ≡ Available
is_available_lem a h = available_out_in a ∙ ap availability_out h

-- ---- a close, of one path

module _ (w : World) (c : Claim w) (i : ℕ) (o : Open w i) where
  abbrev counts : Counts
  counts = exact (past_at w.pasts i).history

  right : RightClose (past_at w.pasts i) (close_of w.table i)
  right = (c.close i).done o.there o.below

  three : arrived w i ≤ sum_last counts.expected 3 (slot w i)
  three = of_three counts.expected (slots (past_at w.pasts i).history)

  -- a kind of silence is entered where E3 is 0
  abbrev Silence : Kind → Type 0
  Silence k = (e u : ℕ) → Enters k e u → e ≡ 0

  stands_after : (d : Defect) (k : Kind) → defect_in d ≡ stands k → (close_of w.table i).defect ≡ d → Stands counts (slot w i) × Latest counts k (slot w i)
  stands_after d k q e = (right.defect.kind k).0 (ap defect_in e ∙ q)

  silent : (d : Defect) (k : Kind) → defect_in d ≡ stands k → Silence k → 2 ≤ arrived w i → (close_of w.table i).defect ≡ d → ⊥
  silent d k q z m e =
      let s = stands_after d k q e in
      not_latest counts (slot w i) k z (omega (arith, three)) s.0 s.1

  pub never_silence : 2 ≤ arrived w i → ((close_of w.table i).defect ≡ Locv → ⊥) × ((close_of w.table i).defect ≡ Mismatch → ⊥)
  never_silence m = (silent Locv rules.locv refl (λ e u q. q.1) m, silent Mismatch rules.mismatch refl (λ e u q. q.1) m)

  before : RightDefect counts (slots (past_at w.pasts i).history) (defect_in (path_at w.table i).state.defect)
  before =
      ⊎_elim (λ q. ((c.path i o.there).cv q).defect) (λ q. ((c.path i o.there).ffd q).defect)
      (cases_eq (past_at w.pasts i).added.kind 0)

  stood : (d : Defect) (k : Kind) → defect_in d ≡ stands k → Silence k → 1 ≤ arrived w i → (close_of w.table i).defect ≡ d → (path_at w.table i).state.defect ≡ d
  stood d k q z m e =
      let s = stands_after d k q e in
      same_kind _ d ((before.kind k).1 (was_latest counts _ k z (omega (arith, three)) s.0 s.1) ∙ sym q)

  pub no_new : 1 ≤ arrived w i
      → ((close_of w.table i).defect ≡ Locv → (path_at w.table i).state.defect ≡ Locv)
      × ((close_of w.table i).defect ≡ Mismatch → (path_at w.table i).state.defect ≡ Mismatch)
  no_new m = (stood Locv rules.locv refl (λ e u q. q.1) m, stood Mismatch rules.mismatch refl (λ e u q. q.1) m)

  reported : (k : Kind) → Entry counts k (slot w i) → defect_in (close_of w.table i).defect ≡ stands k
  reported k e = (right.defect.kind k).1 (latest_now counts (slot w i) k e)

  pub always_flood : 5 ≤ arrived w i → 3 ≤ slot w i → ((close_of w.table i).defect ≡ Excess) ⊎ ((close_of w.table i).defect ≡ Mismerge)
  always_flood m t =
      ⊎_elim
      (λ (e : Entry counts rules.excess (slot w i)). inl (same_kind _ Excess (reported rules.excess e)))
      (λ (e : Entry counts rules.mismerge (slot w i)). inr (same_kind _ Mismerge (reported rules.mismerge e)))
      (entered counts (slot w i) t (omega (arith, three)))

  -- ---- back in service

  -- what the close leaves on a CV path, by the claim of the world after it
  pub right_after : Claim (next (close i) w) → Newest closes i w.pasts (next (close i) w).pasts → (past_at w.pasts i).added.kind ≡ 0
      → Right counts (slot w i) (view (path_at (close_of w.table i).next i).state)
  unfolding count_in
  right_after v q z =
      subst (λ (x : Past). Right (exact x.history) (slots x.history) (view (path_at (close_of w.table i).next i).state)) q
      ((v.path i there).cv (ap (λ (x : Past). x.added.kind) q ∙ z))
    where
      there : i < (close_of w.table i).next.count
      there = subst (λ (n : ℕ). i < n) (sym ((tables.apart).close w.table i).count) o.there

  module _ (from until : ℕ) (e : (close_of w.table i).handed ≡ Some (U from until)) where
    is_cv_lem : (past_at w.pasts i).added.kind ≡ 0
    is_cv_lem = ⊎_elim (λ q. q) (λ q. let n = right.ffd q in absurd (cc)) (cases_eq (past_at w.pasts i).added.kind 0)

    hands : HandsOut 1 counts (slot w i) (rules.U from until)
    hands = (right.cv is_cv_lem (rules.U from until)).0 e

    pub back_in_service : Claim (next (close i) w) → Newest closes i w.pasts (next (close i) w).pasts → InService w i from until
    back_in_service v q =
        record {
          available = is_available_lem _ ((right_after v q is_cv_lem).in_service.1 (cleared counts (slot w i) 1 hands.1.clears));
          first = omega (arith, hands.3);
          order = let r = (record_range 1 counts (slot w i)).u from until hands in (r.0, r.1);
        }

-- ---- a refused call

same_world : (w : World) {t : Table} {ps : List Past} {ss : List Saving} → t ≡ w.table → ps ≡ w.pasts → ss ≡ w.savings
    → record { table = t; pasts = ps; savings = ss } ≡ w
same_world w {ps = ps} {ss = ss} e q s =
    ap (λ (x : Table). record { table = x; pasts = ps; savings = ss }) e
    ∙ ap (λ (x : List Past). record { table = w.table; pasts = x; savings = ss }) q
    ∙ ap (λ (x : List Saving). record { table = w.table; pasts = w.pasts; savings = x }) s

not_zero : {A : Type 0} (n : ℕ) (x y : A) → (n ≡ 0 → ⊥) → pick (eqb n 0) x y ≡ y
not_zero n x y k = rw (ne_eqb n 0 k)

leaves : (w : World) → Lawful w.table → Claim w → (c : Call) → (number c w.table ≡ 0 → ⊥) → next c w ≡ w
leaves w l k (add a) n = same_world w ((tables.refused).add w.table a.kind a.ttsi a.dl n) (not_zero _ _ _ n) refl
leaves w l k (receive i p) n = same_world w ((tables.refused).receive w.table i p n) (receive_kept w l k i p n) refl
leaves w l k (close i) n = same_world w ((tables.refused).close w.table i n) (close_kept w l k i n) refl
leaves w l k (server i v) n = same_world w ((tables.refused).server w.table i v n) (server_kept w l k i v n) refl
leaves w l k (write_fdi i b) n = refl
leaves w l k (write_bdi i b) n = refl
leaves w l k size n = refl
leaves w l k (save b) n = same_world w refl refl (not_zero _ _ _ n)
leaves w l k (restore im) n = same_world w (not_zero _ _ _ n) refl refl

-- ---- all

pub corollaries : Corollaries
corollaries =
    record {
      restores = restores_all;
      restart = restarts;
      restart_later = restarts_later;
      no_new_silence = λ cs w i r. no_new w (claimed cs w r) i;
      not_silence = λ cs w i r. never_silence w (claimed cs w r) i;
      flood = λ cs w i r. always_flood w (claimed cs w r) i;
      in_service =
          λ cs w i r o from until e.
          let k = claimed cs w r in
          back_in_service w k i o from until e (claimed _ _ (calling r (close i) tt tt))
          (close_newest w (reached_lawful cs w r) k i ((k.close i).done o.there o.below).number);
      refused = λ cs w r. leaves w (reached_lawful cs w r) (claimed cs w r);
      receive = λ cs w r i. receive_newest w (reached_lawful cs w r) (claimed cs w r) i;
      close = λ cs w r i. close_newest w (reached_lawful cs w r) (claimed cs w r) i;
      server = λ cs w r i. server_newest w (reached_lawful cs w r) (claimed cs w r) i;
    }
