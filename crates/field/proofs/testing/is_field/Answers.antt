-- `field::testing::is_field` meets its contract. Assumes nothing.
use mathlib.Core.Path.{◌≡◌, refl, ap, ◌∙◌}
use native.Mathlib.Omega.{arith}
use lib.Dec.{eqb}
use lib.ListN.{length}
use borrow.Author.Tests.{eq-eqb, ne_eqb}
use Rattle.std.proofs.lemmas.Grind.{common_steps}
use Rattle.payload.proofs.Tests.{both_yes}
use Rattle.octets.specs.Parts.{number_at, octet_at}
use Rattle.field.specs.Field.{is_plain_code, is_plain_availability, is_field}
use Rattle.field.proofs.Taken.{number_is}
use Rattle.field.proofs.Tested.{And, passed, failed, last, more}
use Rattle.field.proofs.testing.is_field.Goals as goal
use Rattle.field.proofs.testing.is_field.Goals.{
  then-s-eq2,
  else-s-eq2,
  then-s-eq0,
  else-s-eq0,
  then-s-eq76,
  else-s-eq76,
  then-is_plain_code,
  else-is_plain_code,
  then-is_plain_availability,
  else-is_plain_availability,
}

pub returns-in_default : goal.returns-in_default
unfolding is_field
returns-in_default c = grind (arith, common_steps)

pub returns-then-s-le-ON : goal.returns-then-s-le-ON
unfolding is_field
returns-then-s-le-ON c =
    let s = c.in-Some.s.now in
    let whole : s ≡ c.args.s.now = c.in-Some.ensures.cases.same in
    let n : length s ≡ 79 = ap length whole ∙ c.in-Some.ensures.cases.long in
    let code = number_is s 58 1 _ n (omega arith) c.part.ensures c.from_be_bytes-code.ensures in
    let since = number_is s 62 7 _ n (omega arith) c.part-2.ensures c.from_be_bytes-since.ensures in
    let tag : And (eqb (octet_at s 0) 2) (eqb (octet_at s 1) 0) c.if-s-eq2.value = elim c.if-s-eq2.branch [
      | then-s-eq2 w ↦ passed (eq-eqb _ _ w.if-s-eq2.true) w.value-is
      | else-s-eq2 w ↦ failed (ne_eqb _ _ w.if-s-eq2.false) w.value-is
    ] in
    let size : And c.if-s-eq2.value (eqb (octet_at s 2) 76) c.if-s-eq0.value = elim c.if-s-eq0.branch [
      | then-s-eq0 w ↦ passed w.if-s-eq0.true w.value-is
      | else-s-eq0 w ↦ failed w.if-s-eq0.false w.value-is
    ] in
    let kind : And c.if-s-eq0.value (is_plain_code (number_at s 58 2)) c.if-s-eq76.value = elim c.if-s-eq76.branch [
      | then-s-eq76 w ↦ passed w.if-s-eq76.true (w.value-is ∙ w.is_plain_code.ensures ∙ ap is_plain_code code)
      | else-s-eq76 w ↦ failed w.if-s-eq76.false w.value-is
    ] in
    let slot : And c.if-s-eq76.value (is_plain_availability (octet_at s 61) (number_at s 62 8)) c.if-is_plain_code.value = elim c.if-is_plain_code.branch [
      | then-is_plain_code w ↦ passed w.if-is_plain_code.true (w.value-is ∙ w.is_plain_availability.ensures ∙ ap (is_plain_availability (octet_at s 61)) since)
      | else-is_plain_code w ↦ failed w.if-is_plain_code.false w.value-is
    ] in
    let server : And c.if-is_plain_code.value _ c.if-is_plain_availability.value = elim c.if-is_plain_availability.branch [
      | then-is_plain_availability w ↦ passed w.if-is_plain_availability.true w.value-is
      | else-is_plain_availability w ↦ failed w.if-is_plain_availability.false w.value-is
    ] in
    both_yes _ _ _ (eq-eqb (length s) 79 n) (more tag (more size (more kind (more slot (more server (last (passed c.if-s-le-ON.true c.rules_hold.ensures))))))).value ∙ ap is_field whole

pub returns-else-s-le-ON : goal.returns-else-s-le-ON
unfolding is_field
returns-else-s-le-ON c =
    let s = c.in-Some.s.now in
    let whole : s ≡ c.args.s.now = c.in-Some.ensures.cases.same in
    let n : length s ≡ 79 = ap length whole ∙ c.in-Some.ensures.cases.long in
    let code = number_is s 58 1 _ n (omega arith) c.part.ensures c.from_be_bytes-code.ensures in
    let since = number_is s 62 7 _ n (omega arith) c.part-2.ensures c.from_be_bytes-since.ensures in
    let tag : And (eqb (octet_at s 0) 2) (eqb (octet_at s 1) 0) c.if-s-eq2.value = elim c.if-s-eq2.branch [
      | then-s-eq2 w ↦ passed (eq-eqb _ _ w.if-s-eq2.true) w.value-is
      | else-s-eq2 w ↦ failed (ne_eqb _ _ w.if-s-eq2.false) w.value-is
    ] in
    let size : And c.if-s-eq2.value (eqb (octet_at s 2) 76) c.if-s-eq0.value = elim c.if-s-eq0.branch [
      | then-s-eq0 w ↦ passed w.if-s-eq0.true w.value-is
      | else-s-eq0 w ↦ failed w.if-s-eq0.false w.value-is
    ] in
    let kind : And c.if-s-eq0.value (is_plain_code (number_at s 58 2)) c.if-s-eq76.value = elim c.if-s-eq76.branch [
      | then-s-eq76 w ↦ passed w.if-s-eq76.true (w.value-is ∙ w.is_plain_code.ensures ∙ ap is_plain_code code)
      | else-s-eq76 w ↦ failed w.if-s-eq76.false w.value-is
    ] in
    let slot : And c.if-s-eq76.value (is_plain_availability (octet_at s 61) (number_at s 62 8)) c.if-is_plain_code.value = elim c.if-is_plain_code.branch [
      | then-is_plain_code w ↦ passed w.if-is_plain_code.true (w.value-is ∙ w.is_plain_availability.ensures ∙ ap (is_plain_availability (octet_at s 61)) since)
      | else-is_plain_code w ↦ failed w.if-is_plain_code.false w.value-is
    ] in
    let server : And c.if-is_plain_code.value _ c.if-is_plain_availability.value = elim c.if-is_plain_availability.branch [
      | then-is_plain_availability w ↦ passed w.if-is_plain_availability.true w.value-is
      | else-is_plain_availability w ↦ failed w.if-is_plain_availability.false w.value-is
    ] in
    both_yes _ _ _ (eq-eqb (length s) 79 n) (more tag (more size (more kind (more slot (more server (last (failed c.if-s-le-ON.false refl))))))).value ∙ ap is_field whole
