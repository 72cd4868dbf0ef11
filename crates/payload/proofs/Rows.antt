-- What hangs on the type's row alone: the cases of numbers, the rules of a row's fields, its reserved octets, what it shows, its head and its tail.
-- Assumes nothing.
use mathlib.Core.Path.{◌≡◌, refl, ap, sym, subst, ◌∙◌}
use mathlib.Core.Bool.{Bool, true, false}
use mathlib.Core.List.{List, []}
use Prim.Native.Nat.{ℕ}
use lib.Dec.{eqb}
use lib.ListN.{length, get_or}
use borrow.Author.Tests.{eq-eqb, eqb-true}
use Rattle.std.specs.Prelude.{Option, Some, None, Result, Ok, Err}
use Rattle.payload.specs.Test.{pick, both, either}
use Rattle.payload.specs.Rates.{is_rate}
use Rattle.payload.specs.Layout.{Fields, cv, ffd, fdi, bdi, head_of, ttsi_of, tail_of, is_type, is_defect, is_ttsi, valid}
use Rattle.payload.specs.Numbers.{type_of, dt_of, type_in, defect_in, with_defect, row_in, fields_in, head_in, tail_in, unknown}
use Rattle.payload.specs.Writing.{fields_of}
use Rattle.payload.specs.Reading.{answer_of, shown, clear, clear_in}
use Rattle.payload.specs.declared.layout.Unknown.{Unknown}
use Rattle.payload.specs.declared.layout.FunctionType.{FunctionType}
use Rattle.payload.specs.declared.layout.FunctionType.TheVariants.{Cv, Ffd, Fdi, Bdi}
use Rattle.payload.specs.declared.layout.DefectType.{DefectType}
use Rattle.payload.specs.declared.layout.DefectType.TheVariants.{Server, PeerMe, Locv, Mismatch, Mismerge, Excess, Unknown as Other}
use Rattle.payload.specs.declared.found.Found.{Found}
use Rattle.payload.specs.declared.found.Found.TheVariants as found
use Rattle.payload.proofs.Tests.{never, both_left}

-- what holds at each type holds of a number that is one
pub by_type : (P : ℕ → Type 0) → P 1 → P 2 → P 3 → P 7 → (ty : ℕ) → is_type ty ≡ true → P ty
by_type P a b c d ty h = go (eqb ty 1) (eqb ty 2) (eqb ty 3) (eqb ty 7) refl refl refl refl h
  where
    at : (k : ℕ) → P k → eqb ty k ≡ true → P ty
    at k x e = subst P (sym (eqb-true ty k e)) x

    go : (i j k l : Bool) → eqb ty 1 ≡ i → eqb ty 2 ≡ j → eqb ty 3 ≡ k → eqb ty 7 ≡ l → either i (either j (either k (either l false))) ≡ true → P ty
    go true j k l e₁ e₂ e₃ e₇ t = at 1 a e₁
    go false true k l e₁ e₂ e₃ e₇ t = at 2 b e₂
    go false false true l e₁ e₂ e₃ e₇ t = at 3 c e₃
    go false false false true e₁ e₂ e₃ e₇ t = at 7 d e₇
    go false false false false e₁ e₂ e₃ e₇ t = absurd (never t)

-- ---- the rules of the fields

pub ttsi_long : (t : List ℕ) → is_ttsi t ≡ true → length t ≡ 20
ttsi_long t h = eqb-true (length t) 20 (both_left (eqb (length t) 20) (both (eqb (get_or t 16 0) 0) (eqb (get_or t 17 0) 0)) h)

-- ---- numbers and their cases

-- what holds of each type and its number, and of a number that is none, holds of the case that a number has
pub by_case : (P : Result FunctionType (Unknown ℕ) → ℕ → Type 0) → ((ty : FunctionType) → P (Ok ty) (type_of ty))
    → (n : ℕ) → (is_type n ≡ false → P (Err (unknown n)) n) → P (type_in n) n
by_case P k n z = go (eqb n 1) (eqb n 2) (eqb n 3) (eqb n 7) refl refl refl refl
  where
    at : (ty : FunctionType) → eqb n (type_of ty) ≡ true → P (Ok ty) n
    at ty e = subst (P (Ok ty)) (sym (eqb-true n (type_of ty) e)) (k ty)

    go : (a b c d : Bool) → eqb n 1 ≡ a → eqb n 2 ≡ b → eqb n 3 ≡ c → eqb n 7 ≡ d
        → P (pick a (Ok Cv) (pick b (Ok Fdi) (pick c (Ok Bdi) (pick d (Ok Ffd) (Err (unknown n)))))) n
    go true b c d e f g h = at Cv e
    go false true c d e f g h = at Fdi f
    go false false true d e f g h = at Bdi g
    go false false false true e f g h = at Ffd h
    go false false false false e f g h = z (rw (e, f, g, h) refl)

pub by_defect : (P : Result DefectType (Unknown ℕ) → ℕ → Type 0) → ((d : DefectType) → P (Ok d) (dt_of d))
    → (n : ℕ) → (is_defect n ≡ false → P (Err (unknown n)) n) → P (defect_in n) n
by_defect P k n z =
    go (eqb n 0x0101) (eqb n 0x0102) (eqb n 0x0201) (eqb n 0x0202) (eqb n 0x0203) (eqb n 0x0204) (eqb n 0x02FF) refl refl refl refl refl refl refl
  where
    at : (d : DefectType) → eqb n (dt_of d) ≡ true → P (Ok d) n
    at d e = subst (P (Ok d)) (sym (eqb-true n (dt_of d) e)) (k d)

    go : (a b c d e f g : Bool) → eqb n 0x0101 ≡ a → eqb n 0x0102 ≡ b → eqb n 0x0201 ≡ c → eqb n 0x0202 ≡ d → eqb n 0x0203 ≡ e
        → eqb n 0x0204 ≡ f → eqb n 0x02FF ≡ g
        → P (pick a (Ok Server) (pick b (Ok PeerMe) (pick c (Ok Locv) (pick d (Ok Mismatch) (pick e (Ok Mismerge) (pick f (Ok Excess)
        (pick g (Ok Other) (Err (unknown n))))))))) n
    go true b c d e f g p q r s t u v = at Server p
    go false true c d e f g p q r s t u v = at PeerMe q
    go false false true d e f g p q r s t u v = at Locv r
    go false false false true e f g p q r s t u v = at Mismatch s
    go false false false false true f g p q r s t u v = at Mismerge t
    go false false false false false true g p q r s t u v = at Excess u
    go false false false false false false true p q r s t u v = at Other v
    go false false false false false false false p q r s t u v = z (rw (p, q, r, s, t, u, v) refl)

pub defect_is : (d : DefectType) → is_defect (dt_of d) ≡ true
defect_is Server = refl
defect_is PeerMe = refl
defect_is Locv = refl
defect_is Mismatch = refl
defect_is Mismerge = refl
defect_is Excess = refl
defect_is Other = refl

type_number : Result FunctionType (Unknown ℕ) → ℕ
type_number (Ok ty) = type_of ty
type_number (Err e) = 0

pub type_is : (n : ℕ) (ty : FunctionType) → type_in n ≡ Ok ty → n ≡ type_of ty
unfolding type_number
type_is n ty = by_case (λ x m. x ≡ Ok ty → m ≡ type_of ty) (λ k h. ap type_number h) n (λ z h. cc)

pub no_type : (n : ℕ) (e : Unknown ℕ) → type_in n ≡ Err e → is_type n ≡ false
no_type n e = by_case (λ x m. x ≡ Err e → is_type m ≡ false) (λ k h. cc) n (λ z h. z)

pub type_holds : (ty : FunctionType) → is_type (type_of ty) ≡ true
type_holds Cv = refl
type_holds Fdi = refl
type_holds Bdi = refl
type_holds Ffd = refl

-- ---- the rules of the fields

-- the row of the fields, if they obey their rules
pub data Ruled (t : List ℕ) (f : Fields) : Option Found → Type 0 where
  none : valid f ≡ false → Ruled t f None
  some : (found : Found) → valid f ≡ true → is_ttsi t ≡ true → fields_in found t ≡ f → Ruled t f (Some found)

pub record Follows (t : List ℕ) (f : Fields) (found : Found) : Type 0 where
  pub valid : valid f ≡ true
  pub ttsi : is_ttsi t ≡ true
  pub fields : fields_in found t ≡ f

module _ (t : List ℕ) (r dt dl : ℕ) where
  told : (k : Bool) → is_ttsi t ≡ k → (make : DefectType → Found) (fields : ℕ → Fields)
      → ((d : DefectType) → fields_in (make d) t ≡ fields (dt_of d)) → ((n : ℕ) → valid (fields n) ≡ both (is_ttsi t) (is_defect n))
      → Ruled t (fields dt) (pick k (with_defect make (defect_in dt)) None)
  told false e make fields same rule = none (rule dt ∙ rw e refl)
  told true e make fields same rule =
      by_defect (λ x n. Ruled t (fields n) (with_defect make x))
      (λ d. some (make d) (rule (dt_of d) ∙ rw (e, defect_is d) refl) e (same d)) dt
      (λ z. none (rule dt ∙ rw (e, z) refl))

  pub ruled : (ty : FunctionType) → Ruled t (fields_of (type_of ty) t r dt dl) (row_in ty t r dt dl)
  ruled Cv = go (is_ttsi t) refl
    where
      go : (k : Bool) → is_ttsi t ≡ k → Ruled t (cv t) (pick k (Some found.Cv) None)
      go true e = some found.Cv e e refl
      go false e = none e
  ruled Ffd = go (is_ttsi t) (is_rate r) refl refl
    where
      go : (k m : Bool) → is_ttsi t ≡ k → is_rate r ≡ m → Ruled t (ffd t r) (pick k (pick m (Some (found.Ffd r)) None) None)
      go true true e g = some (found.Ffd r) (rw (e, g) refl) e refl
      go true false e g = none (rw (e, g) refl)
      go false m e g = none (rw e refl)
  ruled Fdi = told (is_ttsi t) refl (λ d. found.Fdi d dl) (λ n. fdi t n dl) (λ d. refl) (λ n. refl)
  ruled Bdi = told (is_ttsi t) refl (λ d. found.Bdi d dl) (λ n. bdi t n dl) (λ d. refl) (λ n. refl)

  at_some : {f : Fields} {found : Found} → Ruled t f (Some found) → Follows t f found
  at_some (some found v i e) = record { valid = v; ttsi = i; fields = e }

  pub follows : (ty : FunctionType) (found : Found) → row_in ty t r dt dl ≡ Some found → Follows t (fields_of (type_of ty) t r dt dl) found
  follows ty found e = at_some (subst (Ruled t (fields_of (type_of ty) t r dt dl)) e (ruled ty))

-- ---- reserved octets, and what is shown

pub clear_is : (ty : FunctionType) (p t : List ℕ) (r dt dl : ℕ) → clear (fields_of (type_of ty) t r dt dl) p ≡ clear_in ty p
clear_is Cv p t r dt dl = refl
clear_is Ffd p t r dt dl = refl
clear_is Fdi p t r dt dl = refl
clear_is Bdi p t r dt dl = refl

pub shown_is : (f : Found) (t : List ℕ) → answer_of (Ok f) ≡ shown (fields_in f t)
shown_is found.Cv t = refl
shown_is (found.Ffd r) t = refl
shown_is (found.Fdi d dl) t = refl
shown_is (found.Bdi d dl) t = refl

-- ---- head, TTSI and tail

pub ttsi_is : (t : List ℕ) (r dt dl ty : ℕ) → ttsi_of (fields_of ty t r dt dl) ≡ t
ttsi_is t r dt dl ty = go (eqb ty 1) (eqb ty 7) (eqb ty 2)
  where
    go : (a b c : Bool) → ttsi_of (pick a (cv t) (pick b (ffd t r) (pick c (fdi t dt dl) (bdi t dt dl)))) ≡ t
    go true b c = refl
    go false true c = refl
    go false false true = refl
    go false false false = refl

pub head_is : (f : Found) (t : List ℕ) → head_in f ≡ head_of (fields_in f t)
head_is found.Cv t = refl
head_is (found.Ffd r) t = refl
head_is (found.Fdi d dl) t = refl
head_is (found.Bdi d dl) t = refl

pub tail_is : (f : Found) (t : List ℕ) → tail_in f ≡ tail_of (fields_in f t)
tail_is found.Cv t = refl
tail_is (found.Ffd r) t = refl
tail_is (found.Fdi d dl) t = refl
tail_is (found.Bdi d dl) t = refl

pub head_long : (f : Fields) → length (head_of f) ≡ 4
head_long (cv t) = refl
head_long (ffd t r) = refl
head_long (fdi t dt dl) = refl
head_long (bdi t dt dl) = refl

pub tail_long : (f : Fields) → length (tail_of f) ≡ 18
tail_long (cv t) = refl
tail_long (ffd t r) = refl
tail_long (fdi t dt dl) = refl
tail_long (bdi t dt dl) = refl
