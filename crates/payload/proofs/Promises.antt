-- Two outcomes that meet a promise are equal, and a writer looks at no field that its row doesn't name.
-- Assumes nothing.
use mathlib.Core.Path.{◌≡◌, refl, ap, sym, ◌∙◌}
use mathlib.Core.List.{List}
use Prim.Native.Nat.{ℕ}
use Rattle.std.specs.Prelude.{Option, Some, None, Result, Ok, Err}
use Rattle.refusal.specs.declared.Refusal.{Refusal}
use Rattle.refusal.proofs.Numbers.{refuses, same_refusal, same_written}
use Rattle.payload.specs.Numbers.{dt_of, defect_in, with_defect}
use Rattle.payload.specs.Reading.{Answer, answer_of}
use Rattle.refusal.specs.Numbers.{number_in}
use Rattle.payload.specs.Promises.{One, OneOutcome, NumberRead, Named}
use Rattle.payload.specs.declared.layout.DefectType.{DefectType}
use Rattle.payload.specs.declared.layout.DefectType.TheVariants.{Server, PeerMe, Locv, Mismatch, Mismerge, Excess, Unknown}
use Rattle.payload.specs.declared.found.Found.{Found}
use Rattle.payload.specs.declared.found.Found.TheVariants.{Cv, Ffd, Fdi, Bdi}
use Rattle.payload.specs.Test.{pick}
use lib.Dec.{eqb}

defect_back : (d : DefectType) → defect_in (dt_of d) ≡ Ok d
defect_back Server = refl
defect_back PeerMe = refl
defect_back Locv = refl
defect_back Mismatch = refl
defect_back Mismerge = refl
defect_back Excess = refl
defect_back Unknown = refl

-- the case of an answer, from its numbers
found_in : Answer → Option Found
found_in a =
    pick (eqb a.type 1) (Some Cv)
    (pick (eqb a.type 7) (Some (Ffd a.rate))
    (pick (eqb a.type 2) (with_defect (λ d. Fdi d a.dl) (defect_in a.dt))
    (pick (eqb a.type 3) (with_defect (λ d. Bdi d a.dl) (defect_in a.dt)) None)))

back : (f : Found) → found_in (answer_of (Ok f)) ≡ Some f
unfolding found_in
back Cv = refl
back (Ffd r) = refl
back (Fdi d dl) = ap (with_defect (λ x. Fdi x dl)) (defect_back d)
back (Bdi d dl) = ap (with_defect (λ x. Bdi x dl)) (defect_back d)

done : (f : Found) → (answer_of (Ok f)).number ≡ 0
done Cv = refl
done (Ffd r) = refl
done (Fdi d dl) = refl
done (Bdi d dl) = refl

pub same_answer : (x y : Result Found Refusal) → answer_of x ≡ answer_of y → x ≡ y
same_answer (Ok f) (Ok g) e = ap (λ (o : Option Found). option_ok o) (sym (back f) ∙ ap found_in e ∙ back g)
  where
    option_ok : Option Found → Result Found Refusal
    option_ok (Some x) = Ok x
    option_ok None = Ok Cv
same_answer (Ok f) (Err s) e = absurd (refuses s (sym (ap (λ (a : Answer). a.number) e) ∙ done f))
same_answer (Err r) (Ok g) e = absurd (refuses r (ap (λ (a : Answer). a.number) e ∙ done g))
same_answer (Err r) (Err s) e = ap Err (same_refusal r s (ap (λ (a : Answer). a.number) e))

pub one : {X : Type 0} (z : X) → One X (λ r. r ≡ z)
one z x y p q = p ∙ sym q

pub one_outcome : OneOutcome
one_outcome =
    record {
      read = λ p x y a b. same_answer x y (a ∙ sym b);
      number = λ r. one _;
      ttsi = λ at p. one _;
      ttsi_place = λ at p. one _;
      write = λ ty t r dt dl b x y p q. same_written x y (p ∙ sym q);
      is_ttsi = λ t. one _;
      function_type = λ ty. one _;
      defect_type = λ dt. one _;
      is_defect = λ dt. one _;
      is_rate = λ code. one _;
      interval = λ code. one _;
      rate_life = λ code. one _;
      is_kind = λ kind. one _;
      slot = λ kind. one _;
      kind_life = λ kind. one _;
    }

handed_on : (r : Result Found Refusal) → number_in r ≡ (answer_of r).number
handed_on (Ok f) = sym (done f)
handed_on (Err r) = refl

pub number_read : NumberRead
number_read = record { number = handed_on }

pub named : (t b : List ℕ) (r r' dt dt' dl dl' : ℕ) → Named t b r r' dt dt' dl dl'
named t b r r' dt dt' dl dl' = record { cv = refl; ffd = refl; fdi = refl; bdi = refl }
