-- What a path keeps beside its history, and that each step keeps it: the state is the machine's on the counted history, the server signal
-- is the latest, the FDI stands as long as its life. Assumes nothing.
use mathlib.Core.Path.{◌≡◌, refl, ap, ap₂, sym, subst, ◌∙◌}
use mathlib.Core.Bool.{Bool, true, false}
use mathlib.Core.List.{List, [], ◌∷◌}
use Prim.Native.Nat.{ℕ, suc, ◌+◌, ◌-◌, ◌≤◌, ◌<◌}
use native.Mathlib.Omega.{arith}
use lib.Dec.{eqb, leb}
use borrow.Author.Tests.{le-leb, lt-leb, leb-true, leb-false}
use Rattle.payload.specs.Test.{pick}
use Rattle.payload.specs.Rates.{life_of}
use Rattle.payload.specs.Reading.{Answer, read_of, accepts, ttsi_at}
use Rattle.payload.proofs.Tests.{never}
use Rattle.rules.specs.Machine as machine
use Rattle.rules.specs.Machine.{expected, unexpected}
use Rattle.rules.specs.History.{state_of}
use Rattle.rules.proofs.Theorem.{state_right, state_right_ffd}
use Rattle.window.specs.View.{view, state_out, record_out}
use Rattle.window.specs.declared.state.Defect.TheVariants.{Clear}
use Rattle.std.specs.Prelude.{None}
use Rattle.window.proofs.Views.{view_out}
use Rattle.lsp.specs.Steps.{same, gone, is_cv, counts, counted_by, counted_of, told_of, taken_by, receive_by, receive_of, faded_of, out_is, out_of, after_close, close_of, with_server, server_of}
use Rattle.lsp.specs.History.{Added, History, arrives, told, reported, signalled, closes, counted, slots, server_in, Last, none, heard, last_fdi, end, fdi_after}
use Rattle.lsp.specs.History.{counted_as, heard_by, received_by, received, limit, closed, signalled_as}
use Rattle.lsp.specs.Theorem.{added}
use Rattle.lsp.specs.declared.path.Lsp.{Lsp}
use Rattle.lsp.specs.Outcomes.{Signalled}
use Rattle.lsp.specs.Outcomes.{Closed}

abbrev pub cv_in : Added → Bool
cv_in a = eqb a.kind 0

pub record Follows (a : Added) (l : Lsp) (h : History) : Type 0 where
  pub kind : l.kind ≡ a.kind
  pub ttsi : l.ttsi ≡ a.ttsi
  pub dl : l.dl ≡ a.dl
  pub state : view l.state ≡ state_of (cv_in a) (counted h)
  pub server : l.server ≡ server_in h
  pub fdi : l.fdi ≡ fdi_after (life_of a.kind) (slots h) (last_fdi h)

pub at_first : (a : Added) → Follows a (added a) []
unfolding state_of
at_first a = record { kind = refl; ttsi = refl; dl = refl; state = view_out machine.fresh; server = refl; fdi = refl }

-- ---- an FDI's life

heard_now : (life n dt dl : ℕ) → record { left = life + 1; dt = dt; dl = dl } ≡ fdi_after life n (heard (suc n) dt dl)
heard_now life n dt dl =
    let q : life + 1 ≡ end life (suc n) - n = omega arith in
    rw (lt-leb (end life (suc n)) n (omega arith), q)

fades : (life n : ℕ) (x : Last) → faded_of (fdi_after life n x) ≡ fdi_after life (suc n) x
fades life n none = refl
fades life n (heard r dt dl) = go (leb (end life r) n) (leb (end life r) (suc n)) refl refl
  where
    go : (b b' : Bool) → leb (end life r) n ≡ b → leb (end life r) (suc n) ≡ b'
        → faded_of (pick b gone (record { left = end life r - n; dt = dt; dl = dl })) ≡ pick b' gone (record { left = end life r - suc n; dt = dt; dl = dl })
    go true true e e' = refl
    go true false e e' = absurd (omega (arith, leb-true (end life r) n e, leb-false (end life r) (suc n) e'))
    go false true e e' = rw (le-leb (end life r - n) 1 (omega (arith, leb-true (end life r) (suc n) e')))
    go false false e e' =
        let q : end life r - n - 1 ≡ end life r - suc n = omega arith in
        rw (lt-leb (end life r - n) 1 (omega (arith, leb-false (end life r) (suc n) e')), q)

-- ---- a packet

module _ (a : Added) (l : Lsp) (h : History) (f : Follows a l h) where
  counts_one : (b : Bool) (p : machine.Packet) → (b ≡ true → p ≡ expected) → (b ≡ false → p ≡ unexpected) → Follows a (counts l b) (arrives p ∷ h)
  unfolding state_of
  counts_one true p e u =
      record {
        kind = f.kind;
        ttsi = f.ttsi;
        dl = f.dl;
        state = view_out _ ∙ ap (machine.receive expected) f.state ∙ ap (λ (q : machine.Packet). machine.receive q (state_of (cv_in a) (counted h))) (sym (e refl));
        server = f.server;
        fdi = f.fdi;
      }
  counts_one false p e u =
      record {
        kind = f.kind;
        ttsi = f.ttsi;
        dl = f.dl;
        state = view_out _ ∙ ap (machine.receive unexpected) f.state ∙ ap (λ (q : machine.Packet). machine.receive q (state_of (cv_in a) (counted h))) (sym (u refl));
        server = f.server;
        fdi = f.fdi;
      }

  told_one : (dt dl : ℕ) → Follows a (told_of l dt dl) (told dt dl ∷ h)
  told_one dt dl =
      record {
        kind = f.kind;
        ttsi = f.ttsi;
        dl = f.dl;
        state = f.state;
        server = f.server;
        fdi = ap (λ (k : ℕ). record { left = life_of k + 1; dt = dt; dl = dl }) f.kind ∙ heard_now (life_of a.kind) (slots h) dt dl;
      }

  reported_one : Follows a l (reported ∷ h)
  reported_one = record { kind = f.kind; ttsi = f.ttsi; dl = f.dl; state = f.state; server = f.server; fdi = f.fdi }

  -- by the tests of what was read: the expected TTSI and the path's own rate, then FDI and BDI
  by_count : (r : Answer) (own rate : Bool) → Follows a (counted_by own rate l r).1 (counted_as own rate h)
  by_count r true true = counts_one true expected (λ e. refl) (λ e. absurd (never (sym e)))
  by_count r true false = f
  by_count r false rate = counts_one false unexpected (λ e. absurd (never e)) (λ e. refl)

  by_type : (r : Answer) (t : List ℕ) (fdi bdi : Bool) → Follows a (taken_by fdi bdi l r t).1 (heard_by fdi bdi a r t h)
  by_type r t true bdi = told_one r.dt r.dl
  by_type r t false true = reported_one
  by_type r t false false =
      subst (Follows a (counted_of l r t).1) (ap₂ (λ (x : List ℕ) (k : ℕ). counted_as (same t x) (eqb r.rate k) h) f.ttsi f.kind)
      (by_count r (same t l.ttsi) (eqb r.rate l.kind))

  by_answer : (r : Answer) (t : List ℕ) (accepted : Bool) → Follows a (receive_by accepted l r t).1 (received_by accepted a r t h)
  by_answer r t true = by_type r t (eqb r.type 0x02) (eqb r.type 0x03)
  by_answer r t false = f

  pub receives : (p : List ℕ) → Follows a (receive_of l p).1 (received a p h)
  unfolding receive_of received
  receives p = by_answer (read_of p) (ttsi_at p) (accepts p)

  -- ---- the server signal

  pub signals : (v : ℕ) → Follows a (server_of l v).next (signalled_as v h)
  signals v = go (leb v 1) (eqb v 1)
    where
      go : (b on : Bool)
          → Follows a (pick {A = Signalled} b (record { number = 0; next = with_server l on }) (record { number = 12; next = l })).next (pick b (signalled on ∷ h) h)
      go true on = record { kind = f.kind; ttsi = f.ttsi; dl = f.dl; state = f.state; server = refl; fdi = f.fdi }
      go false on = f

  -- ---- the close

  pub slots_are : l.state.closed ≡ slots h
  slots_are = ap (λ (s : machine.State). s.closed) f.state ∙ go (cv_in a)
    where
      go : (b : Bool) → (state_of b (counted h)).closed ≡ slots h
      go true = (state_right (counted h)).closed
      go false = (state_right_ffd (counted h)).closed

  same_kind : is_cv l ≡ cv_in a
  same_kind = ap (λ (k : ℕ). eqb k 0) f.kind

-- what a close leaves and answers below the limit, and at it
abbrev pub next_state : Lsp → machine.State
next_state l = machine.close (is_cv l) (view l.state)

abbrev pub closed_well : Lsp → Closed
closed_well l = record {
  number = 0;
  defect = (state_out (next_state l)).defect;
  out = out_of (after_close l (state_out (next_state l)));
  handed = record_out (machine.handed_out (is_cv l) (view l.state));
  next = after_close l (state_out (next_state l));
}

pub close_well : (l : Lsp) → l.state.closed < limit → close_of l ≡ closed_well l
unfolding close_of
close_well l h = rw (lt-leb limit l.state.closed h)

pub close_full : (l : Lsp) → limit ≤ l.state.closed
    → close_of l ≡ record { number = 9; defect = Clear; out = out_is 0 0 false false; handed = None; next = l }
unfolding close_of
close_full l h = rw (le-leb limit l.state.closed h)

module _ (a : Added) (l : Lsp) (h : History) (f : Follows a l h) where
  pub next_state_lem : view (closed_well l).next.state ≡ state_of (cv_in a) (counted (closes ∷ h))
  unfolding state_of
  next_state_lem = view_out (next_state l) ∙ ap₂ machine.close (same_kind a l h f) f.state

  pub one_more : Follows a (closed_well l).next (closes ∷ h)
  one_more =
      record {
        kind = f.kind;
        ttsi = f.ttsi;
        dl = f.dl;
        state = next_state_lem;
        server = f.server;
        fdi = ap faded_of f.fdi ∙ fades (life_of a.kind) (slots h) (last_fdi h);
      }

  pub closes_one : Follows a (close_of l).next (closed h)
  closes_one = go (leb limit (slots h)) refl
    where
      go : (b : Bool) → leb limit (slots h) ≡ b → Follows a (close_of l).next (pick b h (closes ∷ h))
      go true e =
          subst (λ (m : Lsp). Follows a m h)
          (ap (λ (c : Closed). c.next) (sym (close_full l (omega (arith, slots_are a l h f, leb-true limit (slots h) e))))) f
      go false e =
          subst (λ (m : Lsp). Follows a m (closes ∷ h))
          (ap (λ (c : Closed). c.next) (sym (close_well l (omega (arith, slots_are a l h f, leb-false limit (slots h) e))))) one_more
