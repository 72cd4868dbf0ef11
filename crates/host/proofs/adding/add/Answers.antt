-- `host::adding::add` meets its contract. Assumes nothing.
use borrow.Author.Rules.{rules}
use mathlib.Core.Path.{sym, ap, ◌∙◌}
use Prim.Native.Nat.{ℕ, ◌+◌, ◌*◌, ◌-◌}
use native.Mathlib.Omega.{arith}
use lib.ListN.{set}
use borrow.Rule.Slice.PartMut.{put_mid}
use Rattle.host.proofs.Called.{Open, open_is, fits}
use Rattle.host.proofs.Adds.{expected, full, added}
use Rattle.host.proofs.adding.add.Goals as goal

pub slice_bounds-expected_in-end : goal.slice_bounds-expected_in-end
slice_bounds-expected_in-end c =
    let w : Open c.args.image.now = open_is c.args.image.now c.in_ok-count.ensures.number in
    omega (arith, c.in_ok-count.ensures.count, c.from.ensures, (fits c.args.image.now w).0)

pub returns-then-expected_in : goal.returns-then-expected_in
returns-then-expected_in c =
    expected c.args.image.now c.args.kind c.args.ttsi.now c.args.dl c.in_ok-count.ensures.number (λ i. search rules)
    (sym c.is_kind.ensures ∙ c.if-not-is_kind.false) (sym c.is_ttsi.ensures ∙ c.if-not-is_ttsi.false)
    c.from.result (c.from.ensures ∙ c.in_ok-count.ensures.count) _ c.expected_in.ensures c.if-expected_in.true

pub returns-then-count-ge-MOST : goal.returns-then-count-ge-MOST
returns-then-count-ge-MOST c =
    full c.args.image.now c.args.kind c.args.ttsi.now c.args.dl c.in_ok-count.ensures.number (λ i. search rules)
    (sym c.is_kind.ensures ∙ c.if-not-is_kind.false) (sym c.is_ttsi.ensures ∙ c.if-not-is_ttsi.false)
    c.from.result (c.from.ensures ∙ c.in_ok-count.ensures.count) _ c.expected_in.ensures c.if-expected_in.false (omega (arith, c.from.ensures))

pub returns : goal.returns
returns c =
    let s = c.args.image.now in
    let n = c.from.result in
    ap (λ (k : ℕ). (0, set (put_mid (5 + 79 * n) (5 + 79 * n + 79 - (5 + 79 * n)) s c.write.new.s) 4 (k + 1))) (sym c.from.ensures)
    ∙ added s c.args.kind c.args.ttsi.now c.args.dl c.in_ok-count.ensures.number (λ i. search rules)
    (sym c.is_kind.ensures ∙ c.if-not-is_kind.false) (sym c.is_ttsi.ensures ∙ c.if-not-is_ttsi.false)
    n (c.from.ensures ∙ c.in_ok-count.ensures.count) _ c.expected_in.ensures c.if-expected_in.false (omega (arith, c.from.ensures))
    c.path.result _ c.write.new.s c.path.ensures c.write.ensures c.write.auto.s
