-- `field::testing::rules_hold` meets its contract. Assumes nothing.
use borrow.Author.Rules.{rules}
use mathlib.Core.Path.{◌≡◌, refl, sym, ap, ap₂, ◌∙◌}
use Prim.Native.Nat.{ℕ}
use native.Mathlib.Omega.{arith}
use lib.Dec.{leb}
use lib.ListN.{length}
use Rattle.payload.specs.Rates.{is_kind}
use Rattle.payload.specs.Layout.{is_ttsi}
use Rattle.octets.specs.Parts.{part, number_at, octet_at}
use Rattle.window.specs.declared.state.Defect.{Defect}
use Rattle.window.specs.declared.state.Availability.{Availability}
use Rattle.lsp.specs.Sound.{is_row, is_code, is_stood, is_availability, is_fdi, sound}
use Rattle.field.specs.Field.{defect_of, availability_of, path_in}
use Rattle.field.proofs.Taken.{number_is}
use Rattle.field.proofs.Tested.{And, passed, failed, last, more}
use Rattle.field.proofs.testing.rules_hold.Goals as goal
use Rattle.field.proofs.testing.rules_hold.Goals.{
  then-is_kind,
  else-is_kind,
  then-is_ttsi,
  else-is_ttsi,
  then-closed-le-LIMIT,
  else-closed-le-LIMIT,
  then-row_holds,
  else-row_holds,
  then-row_holds-2,
  else-row_holds-2,
  then-code_holds,
  else-code_holds,
  then-stood_holds,
  else-stood_holds,
}

pub returns-then-availability_holds : goal.returns-then-availability_holds
unfolding sound path_in
returns-then-availability_holds c =
    let s = c.args.s.now in
    let n : length s ≡ 79 = search rules in
    let closed = number_is s 28 7 _ n (omega arith) c.part.ensures c.from_be_bytes-closed.ensures in
    let code = number_is s 58 1 _ n (omega arith) c.part-2.ensures c.from_be_bytes-code.ensures in
    let since = number_is s 62 7 _ n (omega arith) c.part-3.ensures c.from_be_bytes-since.ensures in
    let ttsi : And (is_kind (octet_at s 3)) (is_ttsi (part s 4 20)) c.if-is_kind.value = elim c.if-is_kind.branch [
      | then-is_kind w ↦ passed (sym c.is_kind.ensures ∙ w.if-is_kind.true) (w.value-is ∙ w.is_ttsi.ensures)
      | else-is_kind w ↦ failed (sym c.is_kind.ensures ∙ w.if-is_kind.false) (w.value-is ∙ c.is_kind.ensures)
    ] in
    let limit : And c.if-is_kind.value (leb (number_at s 28 8) 1000000000000) c.if-is_ttsi.value = elim c.if-is_ttsi.branch [
      | then-is_ttsi w ↦ passed w.if-is_ttsi.true (w.value-is ∙ ap (λ (x : ℕ). leb x 1000000000000) closed)
      | else-is_ttsi w ↦ failed w.if-is_ttsi.false w.value-is
    ] in
    let e : And c.if-is_ttsi.value (is_row 12 (number_at s 28 8) (part s 36 11)) c.if-closed-le-LIMIT.value = elim c.if-closed-le-LIMIT.branch [
      | then-closed-le-LIMIT w ↦ passed w.if-closed-le-LIMIT.true (w.value-is ∙ w.row_holds.ensures ∙ ap (λ (x : ℕ). is_row 12 x (part s 36 11)) closed)
      | else-closed-le-LIMIT w ↦ failed w.if-closed-le-LIMIT.false w.value-is
    ] in
    let u : And c.if-closed-le-LIMIT.value (is_row 1 (number_at s 28 8) (part s 47 11)) c.if-row_holds.value = elim c.if-row_holds.branch [
      | then-row_holds w ↦ passed w.if-row_holds.true (w.value-is ∙ w.row_holds-then-row_holds.ensures ∙ ap (λ (x : ℕ). is_row 1 x (part s 47 11)) closed)
      | else-row_holds w ↦ failed w.if-row_holds.false w.value-is
    ] in
    let defect : And c.if-row_holds.value (is_code (defect_of (number_at s 58 2)) (octet_at s 60)) c.if-row_holds-2.value = elim c.if-row_holds-2.branch [
      | then-row_holds-2 w ↦ passed w.if-row_holds-2.true (w.value-is ∙ w.code_holds.ensures ∙ ap (λ (x : Defect). is_code x (octet_at s 60)) (w.defect_of.ensures ∙ ap defect_of code))
      | else-row_holds-2 w ↦ failed w.if-row_holds-2.false w.value-is
    ] in
    let stood : And c.if-row_holds-2.value (is_stood (number_at s 28 8) (octet_at s 60)) c.if-code_holds.value = elim c.if-code_holds.branch [
      | then-code_holds w ↦ passed w.if-code_holds.true (w.value-is ∙ w.stood_holds.ensures ∙ ap (λ (x : ℕ). is_stood x (octet_at s 60)) closed)
      | else-code_holds w ↦ failed w.if-code_holds.false w.value-is
    ] in
    let availability : And c.if-code_holds.value (is_availability (octet_at s 3) (number_at s 28 8) (octet_at s 60) (availability_of (octet_at s 61) (number_at s 62 8))) c.if-stood_holds.value = elim c.if-stood_holds.branch [
      | then-stood_holds w ↦ passed w.if-stood_holds.true (w.value-is ∙ w.availability_holds.ensures
          ∙ ap₂ (λ (x : ℕ) (y : Availability). is_availability (octet_at s 3) x (octet_at s 60) y) closed (w.availability_of.ensures ∙ ap (availability_of (octet_at s 61)) since))
      | else-stood_holds w ↦ failed w.if-stood_holds.false w.value-is
    ] in
    (more ttsi (more limit (more e (more u (more defect (more stood (more availability (last (passed c.if-availability_holds.true (c.holds.ensures ∙ ap (is_fdi (octet_at s 3)) c.fdi_in.ensures)))))))))).value

pub returns-else-availability_holds : goal.returns-else-availability_holds
unfolding sound path_in
returns-else-availability_holds c =
    let s = c.args.s.now in
    let n : length s ≡ 79 = search rules in
    let closed = number_is s 28 7 _ n (omega arith) c.part.ensures c.from_be_bytes-closed.ensures in
    let code = number_is s 58 1 _ n (omega arith) c.part-2.ensures c.from_be_bytes-code.ensures in
    let since = number_is s 62 7 _ n (omega arith) c.part-3.ensures c.from_be_bytes-since.ensures in
    let ttsi : And (is_kind (octet_at s 3)) (is_ttsi (part s 4 20)) c.if-is_kind.value = elim c.if-is_kind.branch [
      | then-is_kind w ↦ passed (sym c.is_kind.ensures ∙ w.if-is_kind.true) (w.value-is ∙ w.is_ttsi.ensures)
      | else-is_kind w ↦ failed (sym c.is_kind.ensures ∙ w.if-is_kind.false) (w.value-is ∙ c.is_kind.ensures)
    ] in
    let limit : And c.if-is_kind.value (leb (number_at s 28 8) 1000000000000) c.if-is_ttsi.value = elim c.if-is_ttsi.branch [
      | then-is_ttsi w ↦ passed w.if-is_ttsi.true (w.value-is ∙ ap (λ (x : ℕ). leb x 1000000000000) closed)
      | else-is_ttsi w ↦ failed w.if-is_ttsi.false w.value-is
    ] in
    let e : And c.if-is_ttsi.value (is_row 12 (number_at s 28 8) (part s 36 11)) c.if-closed-le-LIMIT.value = elim c.if-closed-le-LIMIT.branch [
      | then-closed-le-LIMIT w ↦ passed w.if-closed-le-LIMIT.true (w.value-is ∙ w.row_holds.ensures ∙ ap (λ (x : ℕ). is_row 12 x (part s 36 11)) closed)
      | else-closed-le-LIMIT w ↦ failed w.if-closed-le-LIMIT.false w.value-is
    ] in
    let u : And c.if-closed-le-LIMIT.value (is_row 1 (number_at s 28 8) (part s 47 11)) c.if-row_holds.value = elim c.if-row_holds.branch [
      | then-row_holds w ↦ passed w.if-row_holds.true (w.value-is ∙ w.row_holds-then-row_holds.ensures ∙ ap (λ (x : ℕ). is_row 1 x (part s 47 11)) closed)
      | else-row_holds w ↦ failed w.if-row_holds.false w.value-is
    ] in
    let defect : And c.if-row_holds.value (is_code (defect_of (number_at s 58 2)) (octet_at s 60)) c.if-row_holds-2.value = elim c.if-row_holds-2.branch [
      | then-row_holds-2 w ↦ passed w.if-row_holds-2.true (w.value-is ∙ w.code_holds.ensures ∙ ap (λ (x : Defect). is_code x (octet_at s 60)) (w.defect_of.ensures ∙ ap defect_of code))
      | else-row_holds-2 w ↦ failed w.if-row_holds-2.false w.value-is
    ] in
    let stood : And c.if-row_holds-2.value (is_stood (number_at s 28 8) (octet_at s 60)) c.if-code_holds.value = elim c.if-code_holds.branch [
      | then-code_holds w ↦ passed w.if-code_holds.true (w.value-is ∙ w.stood_holds.ensures ∙ ap (λ (x : ℕ). is_stood x (octet_at s 60)) closed)
      | else-code_holds w ↦ failed w.if-code_holds.false w.value-is
    ] in
    let availability : And c.if-code_holds.value (is_availability (octet_at s 3) (number_at s 28 8) (octet_at s 60) (availability_of (octet_at s 61) (number_at s 62 8))) c.if-stood_holds.value = elim c.if-stood_holds.branch [
      | then-stood_holds w ↦ passed w.if-stood_holds.true (w.value-is ∙ w.availability_holds.ensures
          ∙ ap₂ (λ (x : ℕ) (y : Availability). is_availability (octet_at s 3) x (octet_at s 60) y) closed (w.availability_of.ensures ∙ ap (availability_of (octet_at s 61)) since))
      | else-stood_holds w ↦ failed w.if-stood_holds.false w.value-is
    ] in
    (more ttsi (more limit (more e (more u (more defect (more stood (more availability (last (failed c.if-availability_holds.false refl))))))))).value
