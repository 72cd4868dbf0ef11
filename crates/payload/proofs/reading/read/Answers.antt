-- `payload::reading::read` meets its contract: each return has the tests that led there, and `proofs/Answers.antt` says what they mean.
-- Assumes nothing.
use mathlib.Core.Path.{ap, sym, ◌∙◌}
use lib.ListN.{length}
use Rattle.std.specs.Prelude.{Option}
use Rattle.std.specs.Option.{ok_or}
use Rattle.refusal.specs.declared.Refusal.TheVariants.{Row}
use Rattle.payload.specs.Reading.{answer_of, read_of}
use Rattle.payload.specs.declared.found.Found.{Found}
use Rattle.payload.proofs.Answers.{read_length, read_bip, read_type, read_clear, read_done, word_is, long_is}
use Rattle.payload.proofs.reading.read.Goals as goal

pub returns-in_default : goal.returns-in_default
returns-in_default c = read_length c.args.p.now c.in_default.ensures.cases

pub returns-then-not-is_bip_right : goal.returns-then-not-is_bip_right
returns-then-not-is_bip_right c =
    let w = c.in-Some.ensures.cases in
    read_bip c.in-Some.p.now (ap length w.same ∙ w.long) (sym c.is_bip_right.ensures ∙ c.if-not-is_bip_right.true) ∙ ap read_of w.same

pub returns-in_default-try_from : goal.returns-in_default-try_from
returns-in_default-try_from c =
    let w = c.in-Some.ensures.cases in
    read_type c.in-Some.p.now (ap length w.same ∙ w.long) (sym c.is_bip_right.ensures ∙ c.if-not-is_bip_right.false)
    c.in_default-try_from.field-0 (sym c.try_from.ensures ∙ c.in_default-try_from.is)
    ∙ ap read_of w.same

pub returns-then-not-is_clear : goal.returns-then-not-is_clear
returns-then-not-is_clear c =
    let w = c.in-Some.ensures.cases in
    read_clear c.in-Some.p.now (ap length w.same ∙ w.long) (sym c.is_bip_right.ensures ∙ c.if-not-is_bip_right.false)
    c.in-Ok.ty (sym c.try_from.ensures ∙ c.in-Ok.is) (sym c.is_clear.ensures ∙ c.if-not-is_clear.true)
    ∙ ap read_of w.same

pub returns : goal.returns
returns c =
    let w = c.in-Some.ensures.cases in
    ap answer_of (c.ok_or.ensures.value ∙ ap (λ (o : Option Found). ok_or o Row) c.row.ensures)
    ∙ read_done c.in-Some.p.now (ap length w.same ∙ w.long) (sym c.is_bip_right.ensures ∙ c.if-not-is_bip_right.false)
    c.in-Ok.ty (sym c.try_from.ensures ∙ c.in-Ok.is) (sym c.is_clear.ensures ∙ c.if-not-is_clear.false)
    _ _ (c.from_be_bytes-dt.ensures ∙ word_is _ _) (c.from_be_bytes-dl.ensures ∙ long_is _ _ _ _)
    ∙ ap read_of w.same
