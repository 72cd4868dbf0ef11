-- The invariant over any history, and over any counts slot by slot. Assumes nothing.
use Prim.Native.Nat.{ℕ, zero, suc, ◌≤◌, ◌<◌}
use mathlib.Core.Path.{◌≡◌, refl, sym, subst₂, ◌∙◌}
use mathlib.Core.Bool.{Bool, cond}
use mathlib.Core.List.{[], ◌∷◌, ◌++◌}
use native.Mathlib.Omega.{arith}
use lib.ListN.{replicate}
use borrow.Author.Tests.{ne_eqb, eq-eqb}
use Rattle.rules.specs.Counts.{Counts}
use Rattle.rules.specs.Machine.{Packet, expected, unexpected, receive, close}
use Rattle.rules.specs.History.{arrives, closes, History, closed, same, count_in, counts_of, state_of, filled, slots}
use Rattle.rules.proofs.Holds.{Holds, Ready, holds_fresh, holds_expected, holds_unexpected, close_holds}

-- ---- counts of a history ----

-- a packet counts in the open slot only
elsewhere : (p q : Packet) (h : History) (i : ℕ) → (i ≡ suc (closed h) → ⊥) → count_in p (arrives q ∷ h) i ≡ count_in p h i
unfolding count_in
elsewhere p q h i k = rw (ne_eqb i (suc (closed h)) k)

here : (p q : Packet) (h : History)
    → count_in p (arrives q ∷ h) (suc (closed h)) ≡ cond (same p q) (suc (count_in p h (suc (closed h)))) (count_in p h (suc (closed h)))
unfolding count_in
here p q h = rw (eq-eqb (suc (closed h)) (suc (closed h)) refl)

-- slots behind the open one have no packets yet
later : (p : Packet) (h : History) (i : ℕ) → suc (closed h) < i → count_in p h i ≡ 0
unfolding count_in
later p [] i l = refl
later p (arrives q ∷ h) i l = elsewhere p q h i (λ e. omega arith) ∙ later p h i l
later p (closes ∷ h) i l = later p h i (omega arith)

-- the counts are the history's in every closed slot
abbrev Agree : Counts → History → Type 0
Agree c h =
    (i : ℕ) → i ≤ closed h → (c.expected i ≡ count_in expected h i) × (c.unexpected i ≡ count_in unexpected h i)

agree_packet : (c : Counts) (q : Packet) (h : History) → Agree c (arrives q ∷ h) → Agree c h
agree_packet c q h a i l =
    ((a i l).0 ∙ elsewhere expected q h i (λ e. omega arith), (a i l).1 ∙ elsewhere unexpected q h i (λ e. omega arith))

module _ (cv : Bool) where
  -- ---- any history ----

  -- after the closed slots of h, with its packets in the open one
  abbrev pub HoldsOpen : Counts → History → Type 0
  HoldsOpen c h = Holds cv c (closed h) (count_in expected h (suc (closed h))) (count_in unexpected h (suc (closed h))) (state_of cv h)

  holds : (c : Counts) (h : History) → Agree c h → HoldsOpen c h
  unfolding state_of count_in
  holds c [] a = holds_fresh cv c
  holds c (arrives expected ∷ h) a =
      subst₂ (λ (x y : ℕ). Holds cv c (closed h) x y (receive expected (state_of cv h)))
      (sym (here expected expected h))
      (sym (here unexpected expected h))
      (holds_expected cv c (closed h) _ _ (state_of cv h) (holds c h (agree_packet c expected h a)))
  holds c (arrives unexpected ∷ h) a =
      subst₂ (λ (x y : ℕ). Holds cv c (closed h) x y (receive unexpected (state_of cv h)))
      (sym (here expected unexpected h))
      (sym (here unexpected unexpected h))
      (holds_unexpected cv c (closed h) _ _ (state_of cv h) (holds c h (agree_packet c unexpected h a)))
  holds c (closes ∷ h) a =
      subst₂ (λ (x y : ℕ). Holds cv c (suc (closed h)) x y (close cv (state_of cv h)))
      (sym (later expected h (suc (suc (closed h))) (omega arith)))
      (sym (later unexpected h (suc (suc (closed h))) (omega arith)))
      (close_holds c (closed h) cv (state_of cv h)
      (subst₂ (λ (x y : ℕ). Holds cv c (closed h) x y (state_of cv h))
      (sym (a (suc (closed h)) (omega arith)).0)
      (sym (a (suc (closed h)) (omega arith)).1)
      (holds c h (λ i l. a i (omega arith)))))

  pub holds_history : (h : History) → HoldsOpen (counts_of h) h
  holds_history h = holds (counts_of h) h (λ i l. (refl, refl))

  -- ---- any counts, slot by slot ----

  fill_expected : (c : Counts) (n : ℕ) (h : History) → Holds cv c n 0 0 (state_of cv h) → (x : ℕ)
      → Holds cv c n x 0 (state_of cv (replicate x (arrives expected) ++ h))
  unfolding state_of
  fill_expected c n h w zero = w
  fill_expected c n h w (suc x) = holds_expected cv c n x 0 _ (fill_expected c n h w x)

  fill_unexpected : (c : Counts) (n x : ℕ) (h : History) → Holds cv c n x 0 (state_of cv h) → (y : ℕ)
      → Holds cv c n x y (state_of cv (replicate y (arrives unexpected) ++ h))
  unfolding state_of
  fill_unexpected c n x h w zero = w
  fill_unexpected c n x h w (suc y) = holds_unexpected cv c n x y _ (fill_unexpected c n x h w y)

  holds_filled_by : (c : Counts) (n : ℕ) (h : History) → Holds cv c n 0 0 (state_of cv h)
      → Ready cv c n (state_of cv (filled c (suc n) h))
  holds_filled_by c n h w =
      fill_unexpected c n (c.expected (suc n)) (replicate (c.expected (suc n)) (arrives expected) ++ h)
      (fill_expected c n h w (c.expected (suc n)))
      (c.unexpected (suc n))

  pub holds_slots : (c : Counts) (n : ℕ) → Holds cv c n 0 0 (state_of cv (slots c n))
  unfolding state_of slots
  holds_slots c zero = holds_fresh cv c
  holds_slots c (suc n) = close_holds c n cv _ (holds_filled_by c n (slots c n) (holds_slots c n))

  pub holds_filled : (c : Counts) (n : ℕ) → Ready cv c n (state_of cv (filled c (suc n) (slots c n)))
  holds_filled c n = holds_filled_by c n (slots c n) (holds_slots c n)
