-- The numbers of the enums, both ways, over plain values. Assumes nothing.
use mathlib.Core.Path.{◌≡◌, refl, sym}
use mathlib.Core.Bool.{Bool, true, false}
use Prim.Native.Nat.{ℕ, ◌<◌}
use native.Mathlib.Omega.{arith}
use Rattle.std.proofs.lemmas.Bool.Decides.{nat_tests}
use lib.Dec.{eqb, leb}
use borrow.Author.Tests.{eqb-true}
use Rattle.payload.specs.Layout.{is_defect}
use Rattle.window.specs.View.{code_of, unavailable_of}
use Rattle.window.specs.declared.state.Defect.{Defect}
use Rattle.window.specs.declared.state.Defect.TheVariants.{Clear, Mismatch, Mismerge, Locv, Excess}
use Rattle.window.specs.declared.state.Availability.{Availability}
use Rattle.window.specs.declared.state.Availability.TheVariants.{Available, Unavailable}
use Rattle.field.specs.Field.{server_of, defect_of, availability_of, is_plain_code, is_plain_availability}

-- ---- the kind's code

pub defect_forth : (d : Defect) → defect_of (code_of d) ≡ d
defect_forth Clear = refl
defect_forth Mismatch = refl
defect_forth Mismerge = refl
defect_forth Locv = refl
defect_forth Excess = refl

pub code_lt : (d : Defect) → code_of d < 65536
code_lt Clear = omega arith
code_lt Mismatch = omega arith
code_lt Mismerge = omega arith
code_lt Locv = omega arith
code_lt Excess = omega arith

pub code_back : (code : ℕ) → is_plain_code code ≡ true → code_of (defect_of code) ≡ code
code_back code h = sym (eqb-true code (code_of (defect_of code)) h)

-- ---- unavailable, and since when

pub availability_forth : (a : Availability) → availability_of (unavailable_of a).0 (unavailable_of a).1 ≡ a
availability_forth Available = refl
availability_forth (Unavailable since) = refl

pub availability_plain : (a : Availability) → is_plain_availability (unavailable_of a).0 (unavailable_of a).1 ≡ true
availability_plain Available = refl
availability_plain (Unavailable since) = refl

pub availability_back : (f n : ℕ) → is_plain_availability f n ≡ true → unavailable_of (availability_of f n) ≡ (f, n)
availability_back f n h = grind (arith, nat_tests, h)

-- ---- the server signal

pub server_forth : (b : Bool) → eqb (server_of b) 1 ≡ b
server_forth true = refl
server_forth false = refl

pub server_plain : (b : Bool) → leb (server_of b) 1 ≡ true
server_plain true = refl
server_plain false = refl

pub server_back : (n : ℕ) → leb n 1 ≡ true → server_of (eqb n 1) ≡ n
server_back n h = grind (arith, nat_tests, h)

-- ---- defect types

pub defect_type_lt : (dt : ℕ) → is_defect dt ≡ true → dt < 65536
defect_type_lt dt h = grind (arith, nat_tests, h)
