-- The close of a record where it stands (`specs/InPlace.antt`), and the parts of the step that it calls.
-- Assumes nothing.
use mathlib.Core.Path.{◌≡◌, refl, ap, sym, subst, ◌∙◌}
use mathlib.Core.Bool.{Bool, true, false}
use Prim.Native.Nat.{◌≤◌}
use Rattle.lsp.specs.Steps.{close_of}
use Rattle.lsp.specs.Sound.{Sound, sound}
use Rattle.lsp.specs.InPlace.{refused_here, answer_here, close_here_by, close_here_of, ClosedInPlace, CloseInPlace}
use Rattle.lsp.specs.declared.path.Lsp.{Lsp}
use Rattle.lsp.specs.Outcomes.{Closed}
use Rattle.lsp.specs.Outcomes.{ClosedHere}
use Rattle.lsp.proofs.Follows.{close_full}
use Rattle.lsp.proofs.Soundness.{sound_tested}
use Rattle.lsp.proofs.SoundKept.{sound_kept}

module _ (l : Lsp) where
  by_test : (b : Bool) → sound l ≡ b → close_here_of l ≡ close_here_by b l (close_of l)
  unfolding close_here_of
  by_test b e = ap (λ (t : Bool). close_here_by t l (close_of l)) e

  -- ---- the law

  closes_sound : Sound l → close_here_of l ≡ (answer_here (close_of l), (close_of l).next)
  closes_sound w = by_test true ((sound_tested l).1 w)

  -- the answer, and the record afterwards
  abbrev Outcome : Type 0
  Outcome = ClosedHere × Lsp

  closed : Sound l → ClosedInPlace l
  closed w =
      let e = closes_sound w in
      record {
        number = ap (λ (x : Outcome). x.0.number) e;
        defect = ap (λ (x : Outcome). x.0.defect) e;
        out = ap (λ (x : Outcome). x.0.out) e;
        handed = ap (λ (x : Outcome). x.0.handed) e;
        next = ap (λ (x : Outcome). x.1) e;
        sound = subst Sound (sym (ap (λ (x : Outcome). x.1) e)) (sound_kept.close l w);
      }

  broken : (Sound l → ⊥) → close_here_of l ≡ (refused_here 10, l)
  broken n = go (sound l) refl
    where
      go : (b : Bool) → sound l ≡ b → close_here_of l ≡ (refused_here 10, l)
      go true e = absurd (n ((sound_tested l).0 e))
      go false e = by_test false e

  at_limit_lem : Sound l → 1000000000000 ≤ l.state.closed → close_here_of l ≡ (refused_here 9, l)
  at_limit_lem w h = closes_sound w ∙ ap (λ (c : Closed). (answer_here c, c.next)) (close_full l h)

pub close_in_place : CloseInPlace
close_in_place = record { closed = closed; broken = broken; limit = at_limit_lem }
