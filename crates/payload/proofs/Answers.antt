-- What the reader's tests say of `read_of`, over plain values. Assumes nothing.
use mathlib.Core.Path.{◌≡◌, refl, ap, ap₂, sym, ◌∙◌}
use mathlib.Core.Bool.{Bool, true, false}
use mathlib.Core.List.{List, [], ◌∷◌}
use Prim.Native.Nat.{ℕ, ◌+◌, ◌*◌}
use native.Mathlib.Omega.{arith}
use lib.Dec.{eqb}
use lib.ListN.{length, get_or, take, drop}
use borrow.Author.Tests.{eq-eqb, ne_eqb, eqb-true}
use Rattle.std.specs.Prelude.{Option, Some, None, Result, Ok, Err}
use Rattle.std.specs.Int.{w16, w32, from_be_bytes}
use Rattle.std.specs.Option.{ok_or}
use Rattle.std.specs.Result.{is_ok}
use Rattle.refusal.specs.declared.Refusal.{Refusal}
use Rattle.refusal.specs.declared.Refusal.TheVariants.{Row}
use Rattle.refusal.proofs.Numbers.{refuses}
use Rattle.payload.specs.Test.{pick, both}
use Rattle.payload.specs.Layout.{is_type, valid}
use Rattle.payload.specs.Numbers.{type_of, type_in, row_in}
use Rattle.payload.specs.Writing.{fields_of}
use Rattle.payload.specs.Reading.{Answer, refusal, answer_of, shown, word_at, long_at, fields_at, clear, clear_in, bip_right, row_of, read_of, accepts, ttsi_part, ttsi_at, place_at, ttsi_place}
use Rattle.payload.specs.declared.layout.Unknown.{Unknown}
use Rattle.payload.specs.declared.layout.FunctionType.{FunctionType}
use Rattle.payload.specs.declared.found.Found.{Found}
use Rattle.payload.specs.declared.found.Found.TheVariants as found
use Rattle.payload.proofs.Tests.{never}
use Rattle.payload.proofs.Rows.{type_is, no_type, type_holds, Ruled, none, some, ruled, clear_is, shown_is}

-- ---- big-endian numbers

pub word_is : (a b : ℕ) → from_be_bytes w16 (a ∷ b ∷ []) ≡ a * 256 + b
word_is a b = omega arith

pub long_is : (a b c d : ℕ) → from_be_bytes w32 (a ∷ b ∷ c ∷ d ∷ []) ≡ a * 16777216 + b * 65536 + c * 256 + d
long_is a b c d = omega arith

-- ---- the row: i says that the type is one, k that what is reserved is clear, v that the fields are valid

abbrev row_by : Bool → Bool → Bool → Answer → Answer
row_by i k v s = pick i (pick (both k v) s (refusal 5)) (refusal 4)

module _ (p : List ℕ) where
  row_says : (i k v : Bool) → is_type (get_or p 0 0) ≡ i → clear (fields_at p) p ≡ k → valid (fields_at p) ≡ v → row_by i k v (shown (fields_at p)) ≡ row_of p
  row_says i k v e f g = rw (e, f, g) refl

-- ---- the whole: l says that there are 44 octets, b that BIP16 is right

abbrev read_by : Bool → Bool → Answer → Answer
read_by l b a = pick l (pick b a (refusal 3)) (refusal 2)

module _ (p : List ℕ) where
  read_by_lem : (l b : Bool) → eqb (length p) 44 ≡ l → bip_right p ≡ b → read_by l b (row_of p) ≡ read_of p
  unfolding read_of
  read_by_lem l b h k = ap (λ (x : Bool). read_by x b (row_of p)) (sym h) ∙ ap (λ (x : Bool). read_by (eqb (length p) 44) x (row_of p)) (sym k)

  pub read_length : (length p ≡ 44 → ⊥) → refusal 2 ≡ read_of p
  read_length n = read_by_lem false (bip_right p) (ne_eqb _ _ n) refl

  pub read_bip : length p ≡ 44 → bip_right p ≡ false → refusal 3 ≡ read_of p
  read_bip h n = read_by_lem true false (eq-eqb _ _ h) n

  pub read_row : length p ≡ 44 → bip_right p ≡ true → row_of p ≡ read_of p
  read_row h n = read_by_lem true true (eq-eqb _ _ h) n

  module _ (h : length p ≡ 44) (b : bip_right p ≡ true) where
    pub read_type : (e : Unknown ℕ) → type_in (get_or p 0 0) ≡ Err e → refusal 4 ≡ read_of p
    read_type e t = row_says p false _ _ (no_type (get_or p 0 0) e t) refl refl ∙ read_row h b

    module _ (ty : FunctionType) (t : type_in (get_or p 0 0) ≡ Ok ty) where
      is : get_or p 0 0 ≡ type_of ty
      is = type_is (get_or p 0 0) ty t

      typed : is_type (get_or p 0 0) ≡ true
      typed = ap is_type is ∙ type_holds ty

      cleared : clear (fields_at p) p ≡ clear_in ty p
      cleared = ap (λ (n : ℕ). clear (fields_of n (take 20 (drop 4 p)) (get_or p 24 0) (word_at p) (long_at p)) p) is ∙ clear_is ty p _ _ _ _

      pub read_clear : clear_in ty p ≡ false → refusal 5 ≡ read_of p
      read_clear n = row_says p true false _ typed (cleared ∙ n) refl ∙ read_row h b

      pub read_done : clear_in ty p ≡ true → (dt dl : ℕ) → dt ≡ word_at p → dl ≡ long_at p
          → answer_of (ok_or (row_in ty (take 20 (drop 4 p)) (get_or p 24 0) dt dl) Row) ≡ read_of p
      read_done k dt dl w l =
          ap₂ (λ (x y : ℕ). answer_of (ok_or (row_in ty (take 20 (drop 4 p)) (get_or p 24 0) x y) Row)) w l
          ∙ go (row_in ty (take 20 (drop 4 p)) (get_or p 24 0) (word_at p) (long_at p)) (ruled _ _ _ _ ty)
        where
          same : fields_of (type_of ty) (take 20 (drop 4 p)) (get_or p 24 0) (word_at p) (long_at p) ≡ fields_at p
          same = ap (λ (n : ℕ). fields_of n (take 20 (drop 4 p)) (get_or p 24 0) (word_at p) (long_at p)) (sym is)

          go : (o : Option Found)
              → Ruled (take 20 (drop 4 p)) (fields_of (type_of ty) (take 20 (drop 4 p)) (get_or p 24 0) (word_at p) (long_at p)) o
              → answer_of (ok_or o Row) ≡ read_of p
          go None (none v) = row_says p true true false typed (cleared ∙ k) (ap valid (sym same) ∙ v) ∙ read_row h b
          go (Some f) (some g v i e) =
              shown_is f (take 20 (drop 4 p)) ∙ ap shown (e ∙ same)
              ∙ row_says p true true true typed (cleared ∙ k) (ap valid (sym same) ∙ v) ∙ read_row h b

  pub accepted_long : accepts p ≡ true → length p ≡ 44
  unfolding read_of
  accepted_long h = go (eqb (length p) 44) refl h
    where
      go : (l : Bool) → eqb (length p) 44 ≡ l → eqb (read_by l (bip_right p) (row_of p)).number 0 ≡ true → length p ≡ 44
      go true e k = eqb-true (length p) 44 e
      go false e k = absurd (never k)

  -- a is the reader's answer
  pub accepted_by : (r : Result Found Refusal) → answer_of r ≡ read_of p → is_ok r ≡ true → accepts p ≡ true
  accepted_by (Ok found.Cv) e o = eq-eqb _ _ (ap (λ (x : Answer). x.number) (sym e))
  accepted_by (Ok (found.Ffd r)) e o = eq-eqb _ _ (ap (λ (x : Answer). x.number) (sym e))
  accepted_by (Ok (found.Fdi d l)) e o = eq-eqb _ _ (ap (λ (x : Answer). x.number) (sym e))
  accepted_by (Ok (found.Bdi d l)) e o = eq-eqb _ _ (ap (λ (x : Answer). x.number) (sym e))
  accepted_by (Err r) e o = absurd (never o)

  pub refused_by : (r : Result Found Refusal) → answer_of r ≡ read_of p → is_ok r ≡ false → accepts p ≡ false
  refused_by (Ok f) e o = absurd (never (sym o))
  refused_by (Err r) e o = ne_eqb _ _ (λ h. refuses r (ap (λ (x : Answer). x.number) e ∙ h))

  -- of a payload that was read, the TTSI's place holds its TTSI
  pub place_holds : (a : Answer) → a ≡ read_of p → a.number ≡ 0 → place_at p ≡ ttsi_at p
  place_holds a r z =
      let y : accepts p ≡ true = eq-eqb _ _ (ap (λ (x : Answer). x.number) (sym r) ∙ z) in
      rw (eq-eqb (length p) 44 (accepted_long y), y)

  -- the part that the TTSI call answers; a and o are the block and the offset of the payload
  pub part_is : (a o : ℕ) → accepts p ≡ true → ((a, 4 + o), take 20 (drop 4 p)) ≡ ttsi_part (a, o) p
  part_is a o h = rw h

  pub none_is : (a o : ℕ) → accepts p ≡ false → ((a, o), []) ≡ ttsi_part (a, o) p
  none_is a o h = rw h
