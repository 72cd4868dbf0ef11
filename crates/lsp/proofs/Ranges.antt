-- The ranges of a path's state, as `rules` names them, are kept by the machine's own steps: by a packet, and by a close. No history is needed.
-- Assumes nothing.
use mathlib.Core.Path.{◌≡◌, refl, sym, ◌∙◌}
use mathlib.Core.Bool.{Bool, true, false, cond}
use mathlib.Core.Logic.{◌↔◌}
use mathlib.Core.List.{List, [], ◌∷◌, ◌++◌}
use Prim.Native.Nat.{ℕ, zero, suc, ◌+◌, ◌-◌, ◌≤◌, ◌<◌, min}
use native.Mathlib.Omega.{arith}
use lib.Dec.{eqb, leb}
use lib.ListN.{get_or, length-set, length-append}
use lib.Seq.{get_or-set_same, get_or-set_other}
use borrow.Author.Tests.{eqb-true, eqb-false, leb-true, leb-false, lt-leb}
use Rattle.rules.specs.Rules.{Kind}
use Rattle.rules.specs.Machine.{State, Defect, none, stands, Availability, available, unavailable, Packet, expected, unexpected, count_up, receive}
use Rattle.rules.specs.Machine.{shift, verdict, defect_after, stood_after, long_enough, declares, goes_on, turn}
use Rattle.rules.specs.Machine.{close_defect, close_stood, close_calm, close_turn, close}
use Rattle.rules.specs.Claim.{Row, Sound}
use Rattle.rules.proofs.Apart.{apart}

-- ---- rows

module _ (cut n : ℕ) where
  pub row_counts : (row : List ℕ) → Row cut n row → Row cut n (count_up cut row)
  row_counts row r =
      record {
        long = length-set row 10 _ ∙ r.long;
        most = λ i. most i (eqb i 10) refl;
        never = λ i l. get_or-set_other row 10 i _ 0 (λ e. omega arith) ∙ r.never i l;
      }
    where
      most : (i : ℕ) (b : Bool) → eqb i 10 ≡ b → get_or (count_up cut row) i 0 ≤ cut
      most i true q =
          let k : i ≡ 10 = eqb-true i 10 q in
          rw (k, get_or-set_same row 10 (min cut (get_or row 10 0 + 1)) 0 (omega (arith, r.long))) (omega arith)
      most i false q = rw (get_or-set_other row 10 i (min cut (get_or row 10 0 + 1)) 0 (eqb-false i 10 q)) (r.most i)

  -- behind a row stand zeros
  behind : (row : List ℕ) (i : ℕ) → get_or (row ++ (0 ∷ [])) i 0 ≡ get_or row i 0
  behind [] zero = refl
  behind [] (suc i) = refl
  behind (x ∷ row) zero = refl
  behind (x ∷ row) (suc i) = behind row i

  pub row_shifts : (row : List ℕ) → Row cut n row → Row cut (suc n) (shift row)
  row_shifts [] r = absurd (omega (arith, r.long))
  row_shifts (x ∷ row) r =
      record {
        long = omega (arith, length-append row (0 ∷ []), r.long);
        most = λ i. rw (behind row i) (r.most (suc i));
        never = λ i l. behind row i ∙ r.never (suc i) (omega arith);
      }

-- ---- the defect and the closes it has stood

together : (d : Defect) (t : ℕ) → (d ≡ none) ↔ (stood_after 1 d t ≡ 0)
together none t = (λ e. refl, λ e. refl)
together (stands x) t = (λ e. apart (cc), λ e. absurd (omega arith))

most_stood : (d : Defect) (t : ℕ) → (stood_after 1 d t ≤ 11) × (stood_after 1 d t ≤ t + 1)
most_stood none t = (omega arith, omega arith)
most_stood (stands x) t = (omega arith, omega arith)

-- before slot 3 closes nothing is judged
not_judged : (n e u : ℕ) (d : Defect) → n < 3 → defect_after (verdict n e u) d ≡ d
unfolding verdict
not_judged n e u d h = rw (lt-leb 3 n h)

-- so at most all closes but two
stood_late : (n e u : ℕ) (d : Defect) (t : ℕ) → (d ≡ none) ↔ (t ≡ 0) → t ≤ n - 2 → stood_after 1 (defect_after (verdict (suc n) e u) d) t ≤ suc n - 2
stood_late n e u d t w m = go (leb 3 (suc n)) refl
  where
    go : (b : Bool) → leb 3 (suc n) ≡ b → stood_after 1 (defect_after (verdict (suc n) e u) d) t ≤ suc n - 2
    go true q = omega (arith, leb-true 3 (suc n) q, (most_stood (defect_after (verdict (suc n) e u) d) t).1)
    go false q =
        let few : suc n < 3 = leb-false 3 (suc n) q in
        let quiet : d ≡ none = w.1 (omega arith) in
        rw (not_judged (suc n) e u d few, quiet) (omega arith)

-- ---- the turn of availability

module _ (n : ℕ) (d : Defect) (t s : ℕ) (b : Bool) where
  -- the turn with a defect after the close, on an available path
  abbrev Waits : ℕ → Availability
  Waits t' = (cond (long_enough 1 t') (declares 1 n) (goes_on available)).next

  waits : (d : Defect) (x : Kind) (t' : ℕ) → (turn 1 n available d t (stands x) t' b).next ≡ Waits t'
  unfolding turn
  waits none x t' = refl
  waits (stands y) x t' = refl

  waits_few : (t' : ℕ) → t' ≤ 11 → Waits t' ≡ available → t' ≤ 10
  unfolding long_enough
  waits_few t' m = go (eqb t' 11) refl
    where
      go : (b : Bool) → eqb t' 11 ≡ b → (cond b (declares 1 n) (goes_on available)).next ≡ available → t' ≤ 10
      go true q e = apart (cc)
      go false q e = omega (arith, eqb-false t' 11 q)

  waits_since : (t' from : ℕ) → t' ≤ n - 2 → Waits t' ≡ unavailable from → (1 ≤ from) × (from ≤ n - 12)
  unfolding long_enough
  waits_since t' from m = go (eqb t' 11) refl
    where
      go : (b : Bool) → eqb t' 11 ≡ b → (cond b (declares 1 n) (goes_on available)).next ≡ unavailable from → (1 ≤ from) × (from ≤ n - 12)
      go true q e = let f : n - 10 - 2 ≡ from = cc in (omega (arith, eqb-true t' 11 q), omega arith)
      go false q e = apart (cc)

  -- not yet at eleven where the path is available afterwards
  turn_few : (a : Availability) (d' : Defect) → (turn 1 n a d t d' (stood_after 1 d' s) b).next ≡ available → stood_after 1 d' s ≤ 10
  unfolding turn
  turn_few a none e = omega arith
  turn_few available (stands x) e = waits_few _ (omega arith) (sym (waits d x _) ∙ e)
  turn_few (unavailable f) (stands x) e = apart (cc)

  -- unavailable since the slot it was, or since twelve before this one
  turn_since : (a : Availability) (d' : Defect) (from : ℕ) → stood_after 1 d' s ≤ n - 2 → ((f : ℕ) → a ≡ unavailable f → (1 ≤ f) × (f ≤ n - 12))
      → (turn 1 n a d t d' (stood_after 1 d' s) b).next ≡ unavailable from → (1 ≤ from) × (from ≤ n - 12)
  unfolding turn
  turn_since available none from m w e = quiet d e
    where
      quiet : (d : Defect) → (turn 1 n available d t none 0 b).next ≡ unavailable from → (1 ≤ from) × (from ≤ n - 12)
      quiet none e = apart (cc)
      quiet (stands y) e = apart (cc)
  turn_since available (stands x) from m w e = waits_since _ from m (sym (waits d x _) ∙ e)
  turn_since (unavailable f) none from m w e = ended b e
    where
      ended : (b : Bool) → (turn 1 n (unavailable f) d t none 0 b).next ≡ unavailable from → (1 ≤ from) × (from ≤ n - 12)
      ended true e = apart (cc)
      ended false e = w from e
  turn_since (unavailable f) (stands x) from m w e = w from e

-- ---- the steps

pub receive_ranges : (cv : Bool) (n : ℕ) (p : Packet) (s : State) → Sound cv n s → Sound cv n (receive p s)
receive_ranges cv n expected s w =
    record { e = row_counts 12 n s.e w.e; u = w.u; together = w.together; stood = w.stood; closes_stood = w.closes_stood; not_yet = w.not_yet; since_slot = w.since_slot }
receive_ranges cv n unexpected s w =
    record { e = w.e; u = row_counts 1 n s.u w.u; together = w.together; stood = w.stood; closes_stood = w.closes_stood; not_yet = w.not_yet; since_slot = w.since_slot }

module _ (s : State) where
  abbrev N : ℕ
  N = s.closed

  late : (cv : Bool) → Sound cv N s → close_stood s ≤ suc N - 2
  late cv w = stood_late N _ _ s.defect s.stood w.together w.closes_stood

  not_yet : (cv : Bool) → cv ≡ true → (close_turn cv s).next ≡ available → close_stood s ≤ 10
  not_yet true i e = turn_few (suc N) s.defect s.stood s.stood (close_calm s) s.availability (close_defect s) e
  not_yet false i e = apart (cc)

  since_slot_lem : (cv : Bool) → Sound cv N s → (from : ℕ) → (close_turn cv s).next ≡ unavailable from → (cv ≡ true) × (1 ≤ from) × (from ≤ suc N - 12)
  since_slot_lem true w from e =
      let r = turn_since (suc N) s.defect s.stood s.stood (close_calm s) s.availability (close_defect s) from (late true w)
      (λ f q. let o = w.since_slot f q in (o.1, omega (arith, o.2))) e in
      (refl, r.0, r.1)
  since_slot_lem false w from e = apart (cc)

  pub close_ranges : (cv : Bool) → Sound cv N s → Sound cv (suc N) (close cv s)
  close_ranges cv w =
      record {
        e = row_shifts 12 N s.e w.e;
        u = row_shifts 1 N s.u w.u;
        together = together (close_defect s) s.stood;
        stood = (most_stood (close_defect s) s.stood).0;
        closes_stood = late cv w;
        not_yet = not_yet cv;
        since_slot = since_slot_lem cv w;
      }
