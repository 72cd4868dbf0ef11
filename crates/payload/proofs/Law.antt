-- The law of the codec: a payload is read as the fields f exactly when f is valid and the payload is f's octets.
-- So what is written is read back, and what was read is written again.
-- Assumes nothing.
use mathlib.Core.Path.{◌≡◌, refl, ap, ap₂, sym, subst, ◌∙◌}
use mathlib.Core.Bool.{Bool, true, false}
use mathlib.Core.Logic.{◌↔◌}
use mathlib.Core.List.{List, ◌++◌, append_assoc}
use Prim.Native.Nat.{ℕ, ◌+◌, ◌*◌, ◌/◌, ◌%◌, ◌≤◌}
use native.Mathlib.Nat.{div-add-mod'}
use native.Mathlib.Omega.{arith}
use lib.Dec.{T, leb}
use lib.ListN.{length, get_or, take, drop, length-append}
use lib.Seq.{take_at, drop_at, drop-drop, get_or-drop}
use borrow.Author.Tests.{eq-eqb, leb-true}
use Rattle.payload.specs.Test.{all_zero}
use Rattle.payload.specs.Layout.{Fields, cv, ffd, fdi, bdi, head_of, ttsi_of, tail_of, body_of, bip, run, octets_of, is_type, is_ttsi, valid, Valid}
use Rattle.payload.specs.Writing.{fields_of, may_write, outcome, write_of}
use Rattle.payload.specs.Reading.{Answer, shown, fields_at, word_at, long_at, clear, bip_right, read_of, accepts, ttsi_at}
use Rattle.payload.specs.Law.{Octets, Reads, Gives, Demand2}
use Rattle.payload.proofs.Tests.{T_true, both_left, both_right, both_yes}
use Rattle.payload.proofs.Rows.{ttsi_long, head_long, tail_long, ttsi_is}
use Rattle.payload.proofs.Stores.{done}
use Rattle.payload.proofs.Opened.{Passed, passed, shown_by, octets_are}

-- ---- fields are what the two calls answer

shown_accepted : (f : Fields) → (shown f).number ≡ 0
shown_accepted (cv t) = refl
shown_accepted (ffd t r) = refl
shown_accepted (fdi t dt dl) = refl
shown_accepted (bdi t dt dl) = refl

back : (f : Fields) → fields_of (shown f).type (ttsi_of f) (shown f).rate (shown f).dt (shown f).dl ≡ f
back (cv t) = refl
back (ffd t r) = refl
back (fdi t dt dl) = refl
back (bdi t dt dl) = refl

same_fields : (f g : Fields) → shown f ≡ shown g → ttsi_of f ≡ ttsi_of g → f ≡ g
same_fields f g s t =
    sym (back f) ∙ ap₂ (λ (a : Answer) (l : List ℕ). fields_of a.type l a.rate a.dt a.dl) s t ∙ back g

taken : (p : List ℕ) → accepts p ≡ true → take 20 (drop 4 p) ≡ ttsi_at p
taken p h = rw h

-- ---- octets that are read are the octets of the fields

module _ (p : List ℕ) (f : Fields) (o : Octets p) (r : Reads p f) where
  acc : accepts p ≡ true
  acc = eq-eqb _ _ (ap (λ (a : Answer). a.number) r.0 ∙ shown_accepted f)

  same : fields_at p ≡ f
  same =
      same_fields (fields_at p) f (sym (shown_by p (passed p acc)) ∙ r.0)
      (ttsi_is (take 20 (drop 4 p)) (get_or p 24 0) (word_at p) (long_at p) (get_or p 0 0) ∙ taken p acc ∙ r.1)

  pub read_octets : Valid f × (p ≡ octets_of f)
  read_octets =
      let q : Passed p = passed p acc in
      (subst (λ (b : Bool). T b) (sym (ap valid (sym same) ∙ q.valid)) tt, octets_are p q.long o q ∙ ap octets_of same)

-- ---- the octets of valid fields are read

valid_ttsi : (f : Fields) → valid f ≡ true → is_ttsi (ttsi_of f) ≡ true
valid_ttsi (cv t) h = h
valid_ttsi (ffd t r) h = both_left (is_ttsi t) _ h
valid_ttsi (fdi t dt dl) h = both_left (is_ttsi t) _ h
valid_ttsi (bdi t dt dl) h = both_left (is_ttsi t) _ h

valid_long : (f : Fields) → Valid f → length (ttsi_of f) ≡ 20
valid_long f v = ttsi_long (ttsi_of f) (valid_ttsi f (T_true (valid f) v))

module _ (f : Fields) (lt : length (ttsi_of f) ≡ 20) where
  body_long : length (body_of f) ≡ 42
  body_long =
      omega (arith, length-append (head_of f) (ttsi_of f ++ tail_of f), length-append (ttsi_of f) (tail_of f), head_long f, tail_long f)

  pub octets_long : length (octets_of f) ≡ 44
  octets_long = omega (arith, length-append (body_of f) (bip (body_of f)), body_long)

  from_42 : drop 42 (octets_of f) ≡ bip (body_of f)
  from_42 = drop_at (body_of f) (bip (body_of f)) 42 body_long

  octet_42 : (k : ℕ) → get_or (octets_of f) (42 + k) 0 ≡ get_or (bip (body_of f)) k 0
  octet_42 k = sym (get_or-drop 42 (octets_of f) k 0) ∙ ap (λ (l : List ℕ). get_or l k 0) from_42

  bip_is : bip_right (octets_of f) ≡ true
  bip_is =
      let b : take 42 (octets_of f) ≡ body_of f = take_at (body_of f) (bip (body_of f)) 42 body_long in
      sym (both_yes _ _ true (eq-eqb _ _ (octet_42 0 ∙ ap (run 0) (sym b))) (sym (eq-eqb _ _ (octet_42 1 ∙ ap (λ (l : List ℕ). run 0 (drop 1 l)) (sym b)))))

  from_4 : drop 4 (octets_of f) ≡ ttsi_of f ++ (tail_of f ++ bip (body_of f))
  from_4 =
      ap (drop 4) (append_assoc (head_of f) (ttsi_of f ++ tail_of f) (bip (body_of f))) ∙ drop_at (head_of f) _ 4 (head_long f)
      ∙ append_assoc (ttsi_of f) (tail_of f) (bip (body_of f))

  ttsi_at_lem : take 20 (drop 4 (octets_of f)) ≡ ttsi_of f
  ttsi_at_lem = ap (take 20) from_4 ∙ take_at (ttsi_of f) _ 20 lt

  from_24 : drop 24 (octets_of f) ≡ tail_of f ++ bip (body_of f)
  from_24 = sym (drop-drop 20 4 (octets_of f)) ∙ ap (drop 20) from_4 ∙ drop_at (ttsi_of f) _ 20 lt

  octet_24 : (k : ℕ) → get_or (octets_of f) (24 + k) 0 ≡ get_or (tail_of f ++ bip (body_of f)) k 0
  octet_24 k = sym (get_or-drop 24 (octets_of f) k 0) ∙ ap (λ (l : List ℕ). get_or l k 0) from_24

  zeros_at : (n k : ℕ) → all_zero (take n (drop (24 + k) (octets_of f))) ≡ all_zero (take n (drop k (tail_of f ++ bip (body_of f))))
  zeros_at n k = ap (λ (l : List ℕ). all_zero (take n l)) (sym (drop-drop k 24 (octets_of f)) ∙ ap (drop k) from_24)

-- the four octets of a number, put together again
long_is : (n a b c d : ℕ) → a ≡ n / 16777216 → b ≡ n / 65536 % 256 → c ≡ n / 256 % 256 → d ≡ n % 256 → a * 16777216 + b * 65536 + c * 256 + d ≡ n
long_is n a b c d p q r s = omega arith

found : (f : Fields) → length (ttsi_of f) ≡ 20 → fields_at (octets_of f) ≡ f
found (cv t) l = ap cv (ttsi_at_lem (cv t) l)
found (ffd t r) l = ap₂ ffd (ttsi_at_lem (ffd t r) l) (octet_24 (ffd t r) l 0)
found (fdi t dt dl) l =
    same-fdi (ttsi_at_lem (fdi t dt dl) l) (div-add-mod' dt 256) (long_is dl _ _ _ _ (octet_24 (fdi t dt dl) l 0) (octet_24 (fdi t dt dl) l 1) (octet_24 (fdi t dt dl) l 2) (octet_24 (fdi t dt dl) l 3))
  where
    same-fdi : {a b : List ℕ} {c d e g : ℕ} → a ≡ b → c ≡ d → e ≡ g → fdi a c e ≡ fdi b d g
    same-fdi x y z = cc
found (bdi t dt dl) l =
    same-bdi (ttsi_at_lem (bdi t dt dl) l) (div-add-mod' dt 256) (long_is dl _ _ _ _ (octet_24 (bdi t dt dl) l 0) (octet_24 (bdi t dt dl) l 1) (octet_24 (bdi t dt dl) l 2) (octet_24 (bdi t dt dl) l 3))
  where
    same-bdi : {a b : List ℕ} {c d e g : ℕ} → a ≡ b → c ≡ d → e ≡ g → bdi a c e ≡ bdi b d g
    same-bdi x y z = cc

clear_is : (f : Fields) → length (ttsi_of f) ≡ 20 → clear f (octets_of f) ≡ true
clear_is (cv t) l = zeros_at (cv t) l 18 0
clear_is (ffd t r) l = zeros_at (ffd t r) l 17 1
clear_is (fdi t dt dl) l = zeros_at (fdi t dt dl) l 14 4
clear_is (bdi t dt dl) l = zeros_at (bdi t dt dl) l 14 4

type_is : (f : Fields) → is_type (get_or (octets_of f) 0 0) ≡ true
type_is (cv t) = refl
type_is (ffd t r) = refl
type_is (fdi t dt dl) = refl
type_is (bdi t dt dl) = refl

octets_passed : (f : Fields) → Valid f → Passed (octets_of f)
octets_passed f v =
    let l : length (ttsi_of f) ≡ 20 = valid_long f v in
    record {
      long = octets_long f l;
      bip = bip_is f l;
      type = type_is f;
      clear = ap (λ (g : Fields). clear g (octets_of f)) (found f l) ∙ clear_is f l;
      valid = ap valid (found f l) ∙ T_true (valid f) v;
    }

pub octets_read : (f : Fields) → Valid f → Reads (octets_of f) f
octets_read f v =
    let l : length (ttsi_of f) ≡ 20 = valid_long f v in
    let s : read_of (octets_of f) ≡ shown f = shown_by (octets_of f) (octets_passed f v) ∙ ap shown (found f l) in
    (s, sym (taken (octets_of f) (eq-eqb _ _ (ap (λ (a : Answer). a.number) s ∙ shown_accepted f))) ∙ ttsi_at_lem f l)

-- ---- the law, and what it gives

law : (p : List ℕ) (f : Fields) → Octets p → Reads p f ↔ (Valid f × (p ≡ octets_of f))
law p f o = (λ r. read_octets p f o r, λ w. subst (λ (q : List ℕ). Reads q f) (sym w.1) (octets_read f w.0))

module _ (ty : ℕ) (t : List ℕ) (r dt dl : ℕ) (b : List ℕ) where
  abbrev given : Fields
  given = fields_of ty t r dt dl

  -- a write that answers 0 passed both its tests
  passed_both : (write_of ty t r dt dl b).0 ≡ 0 → (may_write ty given ≡ true) × (leb 44 (length b) ≡ true)
  passed_both h = go (may_write ty given) (leb 44 (length b)) h
    where
      go : (may fits : Bool) → (outcome may fits given b).0 ≡ 0 → (may ≡ true) × (fits ≡ true)
      go true true e = (refl, refl)
      go true false e = absurd (omega arith)
      go false fits e = absurd (omega arith)

  written_then_read : (write_of ty t r dt dl b).0 ≡ 0 → Reads (take 44 (write_of ty t r dt dl b).1) (fields_of ty t r dt dl)
  written_then_read h =
      let m : may_write ty given ≡ true = (passed_both h).0 in
      let k : 44 ≤ length b = leb-true 44 (length b) (passed_both h).1 in
      let v : Valid given = subst T (sym (both_right (is_type ty) (valid given) m)) tt in
      let e : take 44 (write_of ty t r dt dl b).1 ≡ octets_of given =
      ap (λ (w : ℕ × List ℕ). take 44 w.1) (sym (done ty t r dt dl b m k)) ∙ take_at (octets_of given) (drop 44 b) 44 (octets_long given (valid_long given v)) in
      subst (λ (q : List ℕ). Reads q given) (sym e) (octets_read given v)

  read_then_written : (p : List ℕ) (f : Fields) → Octets p → Reads p f → Gives ty t r dt dl f → 44 ≤ length b
      → write_of ty t r dt dl b ≡ (0, p ++ drop 44 b)
  read_then_written p f o q g k =
      let w : Valid f × (p ≡ octets_of f) = read_octets p f o q in
      let v : valid given ≡ true = ap valid g.1 ∙ T_true (valid f) w.0 in
      sym (done ty t r dt dl b (sym (both_yes (is_type ty) (valid given) true g.0 (sym v))) k)
      ∙ ap (λ (l : List ℕ). (0, l ++ drop 44 b)) (ap octets_of g.1 ∙ sym w.1)

pub demand_2 : Demand2
demand_2 =
    record {
      law = law;
      written_then_read = written_then_read;
      read_then_written = λ p f ty t r dt dl b. read_then_written ty t r dt dl b p f;
      one_layout = λ p q f o u a b. (read_octets p f o a).1 ∙ sym (read_octets q f u b).1;
    }
