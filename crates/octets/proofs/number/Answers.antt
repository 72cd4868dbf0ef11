-- `octets::number` meets its contract: what is read and what is left stand for the whole. Assumes nothing.
use borrow.Author.Rules.{rules}
use mathlib.Core.Path.{◌≡◌, sym, ◌∙◌}
use mathlib.Core.List.{List}
use Prim.Native.Nat.{ℕ, ◌+◌, ◌*◌, ◌^◌, ◌<◌}
use native.Mathlib.Omega.{arith}
use native.Mathlib.Nat.{pow-suc}
use native.Mathlib.Numerals.{add-one}
use lib.ListN.{length, drop, get_or}
use lib.Seq.{drop-length, drop-cons}
use Rattle.octets.specs.Number.{number_from}
use Rattle.octets.proofs.Laws.{read_few}
use Rattle.octets.proofs.number.Goals as goal

turn-lt : (i x b : ℕ) → x < 256 ^ i → b < 256 → x * 256 + b < 256 ^ (i + 1)
turn-lt i x b l h = rw (add-one, pow-suc) (omega arith)

turn : (s : List ℕ) (i x : ℕ) → i < length s → number_from (x * 256 + get_or s i 0) (drop (i + 1) s) ≡ number_from x (drop i s)
unfolding number_from
turn s i x h = rw (add-one, drop-cons s i 0)

ended : (s : List ℕ) (i x : ℕ) {t : ℕ} → i ≡ length s → number_from x (drop i s) ≡ t → x ≡ t
unfolding number_from
ended s i x e h = rw (e, drop-length) at h

pub loop-b-preserved : goal.loop-b-preserved
loop-b-preserved c =
    let s = c.args.s.now in
    let x = c.loop-b.x in
    let i = c.loop-b.b-index in
    let b : c.from.result ≡ get_or s i 0 = search rules in
    rw b (turn-lt i x (get_or s i 0) c.loop-b.invariant.0 (omega (arith, c.type_inv.s i)), turn s i x (omega arith) ∙ c.loop-b.invariant.1)

pub returns : goal.returns
returns c =
    let s = c.args.s.now in
    ended s c.loop-b.b-index c.loop-b.x (omega arith) c.loop-b.invariant.1 ∙ sym (read_few s (omega arith))
