-- Feeding the input in pieces gives the lines of the whole (`specs/Law.antt`). Assumes nothing.
use mathlib.Core.Path.{◌≡◌, refl, ap, ◌∙◌}
use mathlib.Core.List.{List, [], ◌∷◌, ◌++◌, append_assoc, append-nil}
use Prim.Native.Nat.{ℕ, zero, suc, ◌+◌, ◌-◌, ◌<◌}
use native.Mathlib.Omega.{arith}
use lib.ListN.{length, drop, length-drop}
use lib.Seq.{take-append-le, drop-append-le, drop-drop}
use borrow.Author.Tests.{ne_eqb}
use Rattle.events.specs.Framing.{frame_of}
use Rattle.events.specs.Lines.{end_line, bad_line}
use Rattle.events.specs.Printed.{after, line_at, Run, further, ran_by, ran_of, all, printed_from, printed}
use Rattle.events.specs.Law.{Feeding, start, piece, run, Pieces}
use Rattle.events.specs.Field.{Field}
use Rattle.events.specs.Field as field
use Rattle.events.specs.declared.reckoning.Reckoning.{Reckoning}
use Rattle.events.specs.Outcomes.{Rest, Going, Cut, Bad}
use Rattle.events.proofs.Frames.{is_whole, whole_append, bad_append}

-- ---- one field

-- a run of more events than octets sees them all, so more of them change nothing
enough : (k m : ℕ) (r : Reckoning) (s : List ℕ) → length s < k → length s < m → ran_of k r s ≡ ran_of m r s
unfolding ran_of
enough zero m r s h l = absurd (omega arith)
enough (suc k) zero r s h l = absurd (omega arith)
enough (suc k) (suc m) r s h l = go (frame_of s) refl (λ n. enough k m (after r n s) (drop n s))
  where
    go : (f : Field) → frame_of s ≡ f
        → ((n : ℕ) → length (drop n s) < k → length (drop n s) < m → ran_of k (after r n s) (drop n s) ≡ ran_of m (after r n s) (drop n s))
        → ran_by f r s (λ n. ran_of k (after r n s) (drop n s)) ≡ ran_by f r s (λ n. ran_of m (after r n s) (drop n s))
    go field.Cut e ih = refl
    go field.Bad e ih = refl
    go (field.Whole n) e ih =
        let w = is_whole s n e in
        ap (further n (line_at r n s)) (ih n (omega (arith, length-drop n s)) (omega (arith, length-drop n s)))

further_all : (n : ℕ) (line s : List ℕ) (y : Run) → all (further n line y) s ≡ line ++ all y (drop n s)
further_all n line s y =
    let m : length s - (n + y.taken) ≡ length (drop n s) - y.taken = simp length-drop (omega arith) in
    rw (m, append_assoc)

-- the lines of octets that begin with a whole field
step : (r : Reckoning) (s : List ℕ) (n : ℕ) → frame_of s ≡ field.Whole n → printed_from r s ≡ line_at r n s ++ printed_from (after r n s) (drop n s)
unfolding printed_from ran_of
step r s n e =
    let w = is_whole s n e in
    ap (λ (f : Field). all (ran_by f r s (λ m. ran_of (length s) (after r m s) (drop m s))) s) e
    ∙ ap (λ (y : Run). all (further n (line_at r n s) y) s)
    (enough (length s) (suc (length (drop n s))) (after r n s) (drop n s) (omega (arith, length-drop n s)) (omega arith))
    ∙ further_all n (line_at r n s) s (ran_of (suc (length (drop n s))) (after r n s) (drop n s))

bad_only : (r : Reckoning) (s : List ℕ) → frame_of s ≡ field.Bad → printed_from r s ≡ bad_line r.offset
unfolding printed_from ran_of
bad_only r s e = rw e

nothing_left : (r : Reckoning) → printed_from r [] ≡ end_line r.events
unfolding printed_from ran_of frame_of
nothing_left r = refl

cut_only : (r : Reckoning) (s : List ℕ) → frame_of s ≡ field.Cut → (s ≡ [] → ⊥) → printed_from r s ≡ bad_line r.offset
unfolding printed_from ran_of
cut_only r [] e l = absurd (l refl)
cut_only r (a ∷ s) e l = rw (e, ne_eqb (suc (length s) - 0) 0 (omega arith))

-- ---- a run

-- the lines of the run y over s, then those of what it left and of anything behind
abbrev GoesOn : Reckoning → List ℕ → List ℕ → Run → Type 0
GoesOn r s x y = printed_from r (s ++ x) ≡ y.text ++ printed_from y.next (drop y.taken s ++ x)

run_on : (k : ℕ) (r : Reckoning) (s x : List ℕ) → GoesOn r s x (ran_of k r s)
unfolding ran_of
run_on zero r s x = refl
run_on (suc k) r s x = go (frame_of s) refl (λ n. run_on k (after r n s) (drop n s) x)
  where
    go : (f : Field) → frame_of s ≡ f → ((n : ℕ) → GoesOn (after r n s) (drop n s) x (ran_of k (after r n s) (drop n s)))
        → GoesOn r s x (ran_by f r s (λ n. ran_of k (after r n s) (drop n s)))
    go field.Cut e ih = refl
    go field.Bad e ih = refl
    go (field.Whole n) e ih =
        let h = (is_whole s n e).within in
        (rw (take-append-le n s x h, drop-append-le n s x h) at (step r (s ++ x) n (whole_append s x n e))) ∙ rw (ih n, append_assoc, drop-drop)

-- what follows a run is what the octets that it left begin with
abbrev pub Follows : Rest → Field → Type 0
Follows Going f = Unit {0}
Follows Cut f = f ≡ field.Cut
Follows Bad f = f ≡ field.Bad

pub follows : (k : ℕ) (r : Reckoning) (s : List ℕ) → Follows (ran_of k r s).rest (frame_of (drop (ran_of k r s).taken s))
unfolding ran_of
follows zero r s = tt
follows (suc k) r s = go (frame_of s) refl (λ n. follows k (after r n s) (drop n s))
  where
    go : (f : Field) → frame_of s ≡ f
        → ((n : ℕ) → Follows (ran_of k (after r n s) (drop n s)).rest (frame_of (drop (ran_of k (after r n s) (drop n s)).taken (drop n s))))
        → Follows (ran_by f r s (λ n. ran_of k (after r n s) (drop n s))).rest (frame_of (drop (ran_by f r s (λ n. ran_of k (after r n s) (drop n s))).taken s))
    go field.Cut e ih = e
    go field.Bad e ih = e
    go (field.Whole n) e ih = rw drop-drop at (ih n)

ends_bad : (k : ℕ) (r : Reckoning) (s : List ℕ) → (ran_of k r s).rest ≡ Bad → (x : List ℕ)
    → printed_from r (s ++ x) ≡ (ran_of k r s).text ++ bad_line (ran_of k r s).next.offset
ends_bad k r s b x =
    let y = ran_of k r s in
    let left = drop y.taken s in
    let e : frame_of left ≡ field.Bad = rw b at (follows k r s) in
    run_on k r s x ∙ ap (◌++◌ y.text) (bad_only y.next (left ++ x) (bad_append left x e))

-- ---- pieces

goes_on : {i : List ℕ} {r : Reckoning} {h t : List ℕ} → Feeding i r h t → (x : List ℕ) → printed (i ++ x) ≡ t ++ printed_from r (h ++ x)
goes_on start x = refl
goes_on (piece {i = i} {h = h} f p) x = rw (append_assoc i p x, append_assoc h p x) (goes_on f (p ++ x))
goes_on (run {r = r} {h = h} {t = t} f k) x = goes_on f x ∙ rw (run_on k r h x, append_assoc)

at_end : {i : List ℕ} {r : Reckoning} {h t : List ℕ} → Feeding i r h t → printed i ≡ t ++ printed_from r h
at_end {i = i} {h = h} f = rw (append-nil i, append-nil h) at (goes_on f [])

pub pieces : Pieces
pieces =
    record {
      goes_on = goes_on;
      ends = λ {i} {r} {t} f. at_end f ∙ ap (◌++◌ t) (nothing_left r);
      cut = λ {i} {r} {h} {t} f e l. at_end f ∙ ap (◌++◌ t) (cut_only r h e l);
      bad = λ {i} {r} {h} {t} f k b x. goes_on f x ∙ ap (◌++◌ t) (ends_bad k r h b x);
    }
