-- An event on the table is the path's own step, or a refusal; and the short ways come to the same. Assumes nothing.
use borrow.Author.Tests.{eq-eqb, ne_eqb, eqb-true, ltb-true, lt-ltb, le-ltb, le-leb}
use mathlib.Core.Bool.{Bool, true, false}
use mathlib.Core.List.{List, [], ◌∷◌, ◌++◌, map, append-nil}
use mathlib.Core.Path.{◌≡◌, refl, sym, ap, subst, ◌∙◌}
use native.Mathlib.Omega.{arith}
use Prim.Native.Nat.{ℕ, ◌+◌, ◌-◌, ◌*◌, ◌≤◌, ◌<◌}
use lib.Dec.{T, eqb, ltb, leb}
use lib.ListN.{length, get_or, set, take, drop, replicate, length-drop}
use lib.Seq.{map-set_same}
use Rattle.std.specs.Prelude.{Option, None, Result}
use Rattle.refusal.specs.declared.Refusal.{Refusal}
use Rattle.std.proofs.lemmas.List.{get_or-map, get_or-drop}
use Rattle.payload.specs.Test.{pick}
use Rattle.payload.specs.Reading.{Answer, read_of, accepts, ttsi_at, shown}
use Rattle.payload.specs.Layout.{Fields, octets_of, is_type, valid}
use Rattle.payload.specs.Writing.{fields_of, may_write, outcome}
use Rattle.payload.specs.Law.{Reads}
use Rattle.payload.proofs.Law.{octets_read}
use Rattle.payload.proofs.Tests.{both_left, both_right}
use Rattle.octets.specs.Number.{number_from, number_of}
use Rattle.octets.specs.Parts.{number_at, octet_at}
use Rattle.window.specs.Steady.{moved_on}
use Rattle.window.proofs.Steady.{steady}
use Rattle.window.specs.View.{turned_of}
use Rattle.window.specs.declared.state.Record.{Record}
use Rattle.lsp.specs.Steps as path
use Rattle.lsp.specs.Steps.{same, counts, counted_by, counted_of, gone, is_cv, with_state, with_fdi, faded_of, closed_of}
use Rattle.lsp.specs.declared.path.Fdi.{Fdi}
use Rattle.lsp.specs.Outcomes.{Signalled, Closed}
use Rattle.window.specs.Outcomes.{Turned}
use Rattle.lsp.proofs.Same.{same_equal, same_self}
use Rattle.lsp.specs.declared.path.Lsp.{Lsp}
use Rattle.table.specs.Steps.{present, nowhere, path_at, put, receive_of, close_of, server_of, receive_by, close_by, server_by}
use Rattle.table.specs.declared.paths.Table.{Table}
use Rattle.events.specs.Event.{Told, tag_in, lsp_in, add_told, told_by, told_of}
use Rattle.events.specs.Own.{written_own, own_of, is_own}
use Rattle.events.specs.Paths.{step_by, step_of, quiet, moved}
use Rattle.events.specs.Outcomes.{Own, Stepped, own_in, stepped_in, told_in}

abbrev pub told : ℕ → Option Record → Table → Told
told n h t = record { number = n; handed = h; next = t }

-- ---- an add, an LSP that isn't there, a path's step

-- an add's local DL, of its four octets
pub four_octets : (s : List ℕ) → 28 ≤ length s
    → number_at s 24 4 ≡ get_or s 24 0 * 16777216 + get_or s 25 0 * 65536 + get_or s 26 0 * 256 + get_or s 27 0
unfolding number_from
four_octets s h =
    go (drop 24 s) (simp length-drop (omega (arith, h)))
    ∙ rw (get_or-drop 24 s 0 0, get_or-drop 24 s 1 0, get_or-drop 24 s 2 0, get_or-drop 24 s 3 0)
  where
    go : (x : List ℕ) → 4 ≤ length x → number_of (take 4 x) ≡ get_or x 0 0 * 16777216 + get_or x 1 0 * 65536 + get_or x 2 0 * 256 + get_or x 3 0
    go (a ∷ b ∷ c ∷ d ∷ x) l = omega arith
    go (a ∷ b ∷ c ∷ []) l = absurd (omega (arith, l))
    go (a ∷ b ∷ []) l = absurd (omega (arith, l))
    go (a ∷ []) l = absurd (omega (arith, l))
    go [] l = absurd (omega (arith, l))

module _ (t : Table) (f : List ℕ) where
  pub told_add : tag_in f ≡ 0x11 → told_of t f ≡ add_told t f
  unfolding told_of
  told_add e = ap (λ (b : Bool). told_by b (eqb (tag_in f) 0x12) (eqb (tag_in f) 0x13) t f) (eq-eqb (tag_in f) 0x11 e)

  by_path : (tag_in f ≡ 0x11 → ⊥) → told_of t f ≡ told_by false (eqb (tag_in f) 0x12) (eqb (tag_in f) 0x13) t f
  unfolding told_of
  by_path e = ap (λ (b : Bool). told_by b (eqb (tag_in f) 0x12) (eqb (tag_in f) 0x13) t f) (ne_eqb (tag_in f) 0x11 e)

  -- each of the three calls, by whether the path is there
  from_path : Bool → Stepped → Told
  from_path true s = told s.number s.handed (put t (lsp_in f) s.next)
  from_path false s = told 1 None t

  received : (b : Bool) → Told
  received b = told (receive_by b t (lsp_in f) (path.receive_of (path_at t (lsp_in f)) (drop 4 f))).0.number None (receive_by b t (lsp_in f) (path.receive_of (path_at t (lsp_in f)) (drop 4 f))).1

  closed : (b : Bool) → Told
  closed b = let c = close_by b t (lsp_in f) (path.close_of (path_at t (lsp_in f))) in told c.number c.handed c.next

  signalled : (b : Bool) → Told
  signalled b = let s = server_by b t (lsp_in f) (path.server_of (path_at t (lsp_in f)) (octet_at f 4)) in told s.number None s.next

  there_or_not : (p c b : Bool) → ltb (lsp_in f) (present t) ≡ b → told_by false p c t f ≡ from_path b (step_by p c (path_at t (lsp_in f)) f)
  unfolding receive_of close_of server_of from_path received closed signalled
  there_or_not true c true e = ap received e
  there_or_not true c false e = ap received e
  there_or_not false true true e = ap closed e
  there_or_not false true false e = ap closed e
  there_or_not false false true e = ap signalled e
  there_or_not false false false e = ap signalled e

  pub absent : (tag_in f ≡ 0x11 → ⊥) → present t ≤ lsp_in f → told_of t f ≡ told 1 None t
  unfolding from_path
  absent e h = by_path e ∙ there_or_not (eqb (tag_in f) 0x12) (eqb (tag_in f) 0x13) false (le-ltb (lsp_in f) (present t) h)

  pub told_step : (tag_in f ≡ 0x11 → ⊥) → lsp_in f < present t
      → told_of t f ≡ told (step_of (path_at t (lsp_in f)) f).number (step_of (path_at t (lsp_in f)) f).handed (put t (lsp_in f) (step_of (path_at t (lsp_in f)) f).next)
  unfolding from_path step_of
  told_step e h = by_path e ∙ there_or_not (eqb (tag_in f) 0x12) (eqb (tag_in f) 0x13) true (lt-ltb (lsp_in f) (present t) h)

-- ---- the path's own packet

-- what a write that answers 0 has written
written : (ty : ℕ) (g : Fields) (b : List ℕ) (may fits : Bool) → may_write ty g ≡ may → (outcome may fits g b).0 ≡ 0
    → (valid g ≡ true) × ((outcome may fits g b).1 ≡ octets_of g ++ drop 44 b)
written ty g b false fits e h = absurd (omega (arith, h))
written ty g b true false e h = absurd (omega (arith, h))
written ty g b true true e h = (both_right (is_type ty) (valid g) e, refl)

counted_own : (l : Lsp) (a : Answer) (t : List ℕ) → t ≡ l.ttsi → a.rate ≡ l.kind → counted_of l a t ≡ (a, counts l true)
counted_own l a t e r =
    λ i. counted_by ((ap (λ (x : List ℕ). same x l.ttsi) e ∙ same_self l.ttsi) i) (eq-eqb a.rate l.kind r i) l a

-- by the row of its kind: CV, or FFD of its rate
taken_own : (l : Lsp) (b : Bool) → eqb l.kind 0 ≡ b → (p : List ℕ) → Reads p (fields_of (pick b 0x01 0x07) l.ttsi l.kind 0 0)
    → path.receive_of l p ≡ (shown (fields_of (pick b 0x01 0x07) l.ttsi l.kind 0 0), counts l true)
unfolding path.receive_of
taken_own l true k p r = (λ i. path.receive_by (eqb (r.0 i).number 0) l (r.0 i) (r.1 i)) ∙ counted_own l _ l.ttsi refl (sym (eqb-true l.kind 0 k))
taken_own l false k p r = (λ i. path.receive_by (eqb (r.0 i).number 0) l (r.0 i) (r.1 i)) ∙ counted_own l _ l.ttsi refl refl

own_fields : Lsp → Fields
own_fields l = fields_of (pick (eqb l.kind 0) 0x01 0x07) l.ttsi l.kind 0 0

own_number : (l : Lsp) → (shown (own_fields l)).number ≡ 0
unfolding own_fields
own_number l = go (eqb l.kind 0)
  where
    go : (b : Bool) → (shown (fields_of (pick b 0x01 0x07) l.ttsi l.kind 0 0)).number ≡ 0
    go true = refl
    go false = refl

own_received : (l : Lsp) (p : List ℕ) → is_own (own_of l) p ≡ true → path.receive_of l p ≡ (shown (own_fields l), counts l true)
unfolding own_of own_fields
own_received l p h =
    let ty : ℕ = pick (eqb l.kind 0) 0x01 0x07 in
    let g = own_fields l in
    let w = written ty g (replicate 44 0) (may_write ty g) true refl (eqb-true (written_own l.kind l.ttsi).0 0 (both_left (own_of l).there (same p (own_of l).octets) h)) in
    let e : p ≡ octets_of g = same_equal p (own_of l).octets (both_right (own_of l).there (same p (own_of l).octets) h) ∙ w.1 ∙ append-nil (octets_of g) in
    taken_own l (eqb l.kind 0) refl p (subst (λ (x : List ℕ). Reads x g) (sym e) (octets_read g (subst T (sym w.0) tt)))

-- ---- a close that only moves the rows on

faded_none : (f : Fdi) → f.left ≡ 0 → f.dt ≡ 0 → f.dl ≡ 0 → faded_of f ≡ f
faded_none f a b d =
    ap (λ (t : Bool). pick t gone (record { left = f.left - 1; dt = f.dt; dl = f.dl })) (le-leb f.left 1 (omega (arith, a)))
    ∙ λ i. record { left = sym a i; dt = sym b i; dl = sym d i }

quiet_closed : (l : Lsp) → quiet l ≡ true → ((path.close_of l).number ≡ 0) × ((path.close_of l).handed ≡ None) × ((path.close_of l).next ≡ moved l)
unfolding path.close_of
quiet_closed l h =
    let a = eqb-true l.fdi.left 0 (both_left _ _ h) in
    let h₁ = both_right (eqb l.fdi.left 0) _ h in
    let b = eqb-true l.fdi.dt 0 (both_left _ _ h₁) in
    let h₂ = both_right (eqb l.fdi.dt 0) _ h₁ in
    let d = eqb-true l.fdi.dl 0 (both_left _ _ h₂) in
    let e = ap (λ (t : Turned). closed_of l t) (steady.close (is_cv l) l.state (both_right (eqb l.fdi.dl 0) _ h₂)) in
    (ap (λ (c : Closed). c.number) e, ap (λ (c : Closed). c.handed) e, ap (λ (c : Closed). c.next) e ∙ ap (λ (f : Fdi). with_fdi (with_state l (moved_on l.state)) f) (faded_none l.fdi a b d))

-- ---- the short ways

module _ (l : Lsp) (f : List ℕ) where
  pub counts_step : tag_in f ≡ 0x12 → is_own (own_of l) (drop 4 f) ≡ true → step_of l f ≡ record { number = 0; handed = None; next = counts l true }
  unfolding step_of own_fields
  counts_step e w =
      let r = own_received l (drop 4 f) w in
      (λ i. step_by (eq-eqb (tag_in f) 0x12 e i) (eqb (tag_in f) 0x13) l f) ∙ (λ i. record { number = (r i).0.number; handed = None; next = (r i).1 }) ∙ λ i. record { number = own_number l i; handed = None; next = counts l true }

  pub moves_step : tag_in f ≡ 0x13 → quiet l ≡ true → step_of l f ≡ record { number = 0; handed = None; next = moved l }
  unfolding step_of
  moves_step e q =
      let c = quiet_closed l q in
      let p : eqb (tag_in f) 0x12 ≡ false = rw e in
      (λ i. step_by (p i) (eq-eqb (tag_in f) 0x13 e i) l f) ∙ λ i. record { number = c.0 i; handed = c.1 i; next = c.2 i }

-- ---- no step changes what a path expects

kept_counted : (l : Lsp) (a : Answer) (own rate : Bool) → own_of (counted_by own rate l a).1 ≡ own_of l
unfolding own_of
kept_counted l a true true = refl
kept_counted l a true false = refl
kept_counted l a false rate = refl

kept_taken : (l : Lsp) (a : Answer) (t : List ℕ) (fdi bdi : Bool) → own_of (path.taken_by fdi bdi l a t).1 ≡ own_of l
unfolding own_of
kept_taken l a t true bdi = refl
kept_taken l a t false true = refl
kept_taken l a t false false = kept_counted l a (same t l.ttsi) (eqb a.rate l.kind)

kept_received : (l : Lsp) (a : Answer) (t : List ℕ) (accepted : Bool) → own_of (path.receive_by accepted l a t).1 ≡ own_of l
kept_received l a t true = kept_taken l a t (eqb a.type 0x02) (eqb a.type 0x03)
kept_received l a t false = refl

-- whichever is picked
picked : {A : Type 0} (f : A → Own) (o : Own) (b : Bool) (x y : A) → f x ≡ o → f y ≡ o → f (pick b x y) ≡ o
picked f o true x y p q = p
picked f o false x y p q = q

pub kept : (l : Lsp) (f : List ℕ) → own_of (step_of l f).next ≡ own_of l
unfolding step_of path.receive_of path.close_of own_of
kept l f = go (eqb (tag_in f) 0x12) (eqb (tag_in f) 0x13)
  where
    go : (p c : Bool) → own_of (step_by p c l f).next ≡ own_of l
    go true c = kept_received l (read_of (drop 4 f)) (ttsi_at (drop 4 f)) (accepts (drop 4 f))
    go false true = picked (λ (c : Closed). own_of c.next) (own_of l) (eqb (turned_of (is_cv l) l.state).number 0) _ _ refl refl
    go false false = picked (λ (s : Signalled). own_of s.next) (own_of l) (leb (octet_at f 4) 1) _ _ refl refl

-- ---- one path stepped, in its place

few : (t : Table) (i : ℕ) → i < present t → i < 64
few t i h = go (ltb t.count 64) refl h
  where
    go : (b : Bool) → ltb t.count 64 ≡ b → i < pick b t.count 64 → i < 64
    go true e k = omega (arith, ltb-true t.count 64 e, k)
    go false e k = k

pub own_at : (t : Table) (owns : List (Option (List ℕ))) (i : ℕ) → map own_in owns ≡ map own_of t.lsps → i < present t → length owns ≡ 64 → length t.lsps ≡ 64
    → own_in (get_or owns i None) ≡ own_of (path_at t i)
own_at t owns i o h m n =
    let k = few t i h in
    let a : i < length owns = omega (arith, m, k) in
    let b : i < length t.lsps = omega (arith, n, k) in
    sym (get_or-map own_in owns i None (own_in None) a) ∙ ap (λ (x : List Own). get_or x i (own_in None)) o ∙ get_or-map own_of t.lsps i nowhere (own_in None) b

module _ (t : Table) (f : List ℕ) (i : ℕ) (a : Result (Option Record) Refusal) (l : Lsp) (q : stepped_in a l ≡ step_of (path_at t i) f) where
  pub stepped_told : i ≡ lsp_in f → (tag_in f ≡ 0x11 → ⊥) → i < present t → told_in a (put t i l) ≡ told_of t f
  stepped_told e n h =
      let s : step_of (path_at t (lsp_in f)) f ≡ stepped_in a l = ap (λ k. step_of (path_at t k) f) (sym e) ∙ sym q in
      let w = told_step t f n (rw e at h) in
      sym (w ∙ λ j. told (s j).number (s j).handed (put t (sym e j) (s j).next))

  -- the octets of its packet were read where they lie
  pub still_owned : (owns : List (Option (List ℕ))) → map own_in owns ≡ map own_of t.lsps
      → map own_in (set owns i (get_or owns i None)) ≡ map own_of (set t.lsps i l)
  still_owned owns o =
      map-set_same own_in owns i (get_or owns i None) None refl ∙ o
      ∙ sym (map-set_same own_of t.lsps i l nowhere (ap (λ (y : Stepped). own_of y.next) q ∙ kept (path_at t i) f))
