-- A path's rules seen from the machine: the state's are the ranges that `rules` names, so a path with another state in these ranges obeys them.
-- Assumes nothing.
use mathlib.Core.Path.{◌≡◌, refl, ap}
use mathlib.Core.Bool.{Bool, true, false}
use mathlib.Core.Logic.{◌↔◌}
use Prim.Native.Nat.{ℕ, ◌-◌, ◌≤◌}
use native.Mathlib.Omega.{arith}
use lib.Dec.{leb}
use borrow.Author.Tests.{eq-eqb, eqb-true, leb-true, leb-false}
use Rattle.rules.specs.Rules as rules
use Rattle.rules.specs.Machine as machine
use Rattle.rules.specs.Claim as ranges
use Rattle.rules.proofs.Apart.{apart}
use Rattle.window.specs.View.{defect_in, defect_out, availability_in, availability_out, view, state_out}
use Rattle.window.specs.declared.state.Defect.{Defect}
use Rattle.window.specs.declared.state.Defect.TheVariants.{Clear, Mismatch, Mismerge, Locv, Excess}
use Rattle.window.specs.declared.state.Availability.{Availability}
use Rattle.window.specs.declared.state.Availability.TheVariants.{Available, Unavailable}
use Rattle.lsp.specs.Steps.{with_state, with_fdi, with_server, is_cv}
use Rattle.lsp.specs.Sound.{SoundFdi, Sound}
use Rattle.lsp.specs.declared.path.Fdi.{Fdi}
use Rattle.lsp.specs.declared.path.Lsp.{Lsp}

-- ---- each enum

seen_clear : (d : Defect) → (defect_in d ≡ machine.none) ↔ (d ≡ Clear)
seen_clear Clear = (λ e. refl, λ e. refl)
seen_clear Mismatch = (λ e. apart (cc), λ e. apart (cc))
seen_clear Mismerge = (λ e. apart (cc), λ e. apart (cc))
seen_clear Locv = (λ e. apart (cc), λ e. apart (cc))
seen_clear Excess = (λ e. apart (cc), λ e. apart (cc))

shown_clear : (d : machine.Defect) → (defect_out d ≡ Clear) ↔ (d ≡ machine.none)
shown_clear machine.none = (λ e. refl, λ e. refl)
shown_clear (machine.stands rules.mismatch) = (λ e. apart (cc), λ e. apart (cc))
shown_clear (machine.stands rules.mismerge) = (λ e. apart (cc), λ e. apart (cc))
shown_clear (machine.stands rules.locv) = (λ e. apart (cc), λ e. apart (cc))
shown_clear (machine.stands rules.excess) = (λ e. apart (cc), λ e. apart (cc))

seen_available : (a : Availability) → availability_in a ≡ machine.available → a ≡ Available
seen_available Available e = refl
seen_available (Unavailable f) e = apart (cc)

seen_since : (a : Availability) (from : ℕ) → availability_in a ≡ machine.unavailable from → a ≡ Unavailable from
seen_since Available from e = apart (cc)
seen_since (Unavailable f) from e = let q : f ≡ from = cc in ap Unavailable q

shown_available : (a : machine.Availability) → availability_out a ≡ Available → a ≡ machine.available
shown_available machine.available e = refl
shown_available (machine.unavailable f) e = apart (cc)

shown_since : (a : machine.Availability) (from : ℕ) → availability_out a ≡ Unavailable from → a ≡ machine.unavailable from
shown_since machine.available from e = apart (cc)
shown_since (machine.unavailable f) from e = let q : f ≡ from = cc in ap machine.unavailable q

module _ (l : Lsp) (w : Sound l) where
  few : l.state.stood ≤ l.state.closed - 2
  few = go (leb 3 l.state.closed) refl
    where
      go : (b : Bool) → leb 3 l.state.closed ≡ b → l.state.stood ≤ l.state.closed - 2
      go true q = w.late (leb-true 3 _ q)
      go false q = omega (arith, w.early (leb-false 3 l.state.closed q))

  pub seen : ranges.Sound (is_cv l) l.state.closed (view l.state)
  seen =
      record {
        e = w.e;
        u = w.u;
        together = (λ e. w.code.0 ((seen_clear l.state.defect).0 e), λ e. (seen_clear l.state.defect).1 (w.code.1 e));
        stood = w.stood;
        closes_stood = few;
        not_yet = λ i e. w.available (eqb-true _ 0 i) (seen_available _ e);
        since_slot = λ from e. let o = w.unavailable from (seen_since _ from e) in (eq-eqb _ 0 o.0, o.1, o.2);
      }

  -- the path with another state and FDI, and with another FDI and server signal
  pub with_parts : (m : machine.State) (f : Fdi) → m.closed ≤ 1000000000000 → ranges.Sound (is_cv l) m.closed m → SoundFdi l.kind f
      → Sound (with_fdi (with_state l (state_out m)) f)
  with_parts m f n r g =
      record {
        kind = w.kind;
        ttsi = w.ttsi;
        limit = n;
        e = r.e;
        u = r.u;
        code = (λ e. r.together.0 ((shown_clear m.defect).0 e), λ e. (shown_clear m.defect).1 (r.together.1 e));
        stood = r.stood;
        early = λ c. omega (arith, r.closes_stood);
        late = λ c. r.closes_stood;
        available = λ k e. r.not_yet (eq-eqb _ 0 k) (shown_available _ e);
        unavailable = λ since e. let o = r.since_slot since (shown_since _ since e) in (eqb-true _ 0 o.0, o.1, o.2);
        fdi = g;
      }

  pub with_signals : (f : Fdi) (b : Bool) → SoundFdi l.kind f → Sound (with_server (with_fdi l f) b)
  with_signals f b g =
      record {
        kind = w.kind;
        ttsi = w.ttsi;
        limit = w.limit;
        e = w.e;
        u = w.u;
        code = w.code;
        stood = w.stood;
        early = w.early;
        late = w.late;
        available = w.available;
        unavailable = w.unavailable;
        fdi = g;
      }
