-- The ranges of every state that a history reaches. Assumes nothing.
use Prim.Native.Nat.{ℕ, suc, ◌+◌, ◌-◌, ◌≤◌, ◌<◌}
use mathlib.Core.Path.{◌≡◌, refl, sym, subst}
use mathlib.Core.Bool.{Bool, true, false}
use mathlib.Core.Logic.{◌↔◌, ⊎_elim}
use native.Mathlib.Omega.{arith}
use native.Mathlib.Nat.{le_refl, eq-or-lt_of_le}
use Rattle.rules.specs.Counts.{Counts}
use Rattle.rules.specs.Rules.{Stands}
use Rattle.rules.specs.Machine.{State, Defect, none, stands, Availability, available, unavailable}
use Rattle.rules.specs.History.{History, closed, counts_of, state_of}
use Rattle.rules.specs.Claim.{GivesDefect, Sound}
use Rattle.rules.proofs.Apart.{apart}
use Rattle.rules.proofs.Rows.{row_range}
use Rattle.rules.proofs.Defect.{stands_third}
use Rattle.rules.proofs.Stood.{StoodIs, stood_enough, stood_late}
use Rattle.rules.proofs.Holds.{ServiceIs, Holds}
use Rattle.rules.proofs.Histories.{holds_history}

module _ (c : Counts) (n : ℕ) where
  -- closes stood is 0 exactly when there is no defect, and at most all closes but two
  stood_together : (d : Defect) (t : ℕ) → GivesDefect c n d → StoodIs 1 c n t → (d ≡ none) ↔ (t ≡ 0)
  stood_together none t h w =
      let same : w.last < n → ⊥ = λ l. h (w.since.then n (le_refl n) l) in
      (λ _. omega (arith, w.since.up_to, w.closes, same), λ _. refl)
  stood_together (stands x) t h w =
      let later : w.last ≡ n → ⊥ = λ e. w.since.quiet (subst (Stands c) (sym e) h.0) in (
        λ e. apart (cc),
        λ e. absurd (omega (arith, w.since.up_to, w.closes, later)),
      )

  stood_most : (t : ℕ) → StoodIs 1 c n t → t ≤ n - 2
  stood_most t w =
      ⊎_elim
      (λ (e : w.last ≡ n). omega (arith, w.closes))
      (λ (l : w.last < n).
      let late : 3 ≤ suc w.last = stands_third c (suc w.last) (w.since.then (suc w.last) l (le_refl _)) in
      omega (arith, w.closes))
      (eq-or-lt_of_le w.since.up_to)

  -- an available CV path is not yet at eleven
  not_yet : (cv : Bool) (a : Availability) (t : ℕ) → ServiceIs cv c n a → StoodIs 1 c n t → cv ≡ true → a ≡ available → t ≤ 10
  not_yet true available t o w i e =
      let few : w.last + 10 < n → ⊥ =
      λ l. let j = o n (le_refl n) (stood_enough 1 c w.last n w.since l) in omega (arith, j.1, j.2) in
      omega (arith, w.since.up_to, w.closes, few)
  not_yet true (unavailable f) t d w i e = apart (cc)
  not_yet false a t o w i e = apart (cc)

  since_slot_lem : (cv : Bool) (a : Availability) → ServiceIs cv c n a → (from : ℕ) → a ≡ unavailable from → (cv ≡ true) × (1 ≤ from) × (from ≤ n - 12)
  since_slot_lem true available o from e = apart (cc)
  since_slot_lem true (unavailable f) d from e =
      let same : f ≡ from = cc in
      (refl, omega (arith, stood_late 1 c (f + 12) d.stood), omega (arith, d.up_to))
  since_slot_lem false a o from e = apart (cc)

  holds_sound : (cv : Bool) (x y : ℕ) (s : State) → Holds cv c n x y s → Sound cv n s
  holds_sound cv x y s h =
      record {
        e = rw h.e (row_range 12 _ _ _);
        u = rw h.u (row_range 1 _ _ _);
        together = stood_together s.defect s.stood h.defect h.stood;
        stood = omega (arith, h.stood.closes);
        closes_stood = stood_most s.stood h.stood;
        not_yet = not_yet cv s.availability s.stood h.availability h.stood;
        since_slot = since_slot_lem cv s.availability h.availability;
      }

pub state_sound : (cv : Bool) (h : History) → Sound cv (closed h) (state_of cv h)
state_sound cv h = holds_sound (counts_of h) (closed h) cv _ _ (state_of cv h) (holds_history cv h)
