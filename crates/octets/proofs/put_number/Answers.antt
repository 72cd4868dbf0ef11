-- `octets::put_number` meets its contract: what is written and the octets of what is left are the octets of x. Assumes nothing.
use mathlib.Core.Path.{◌≡◌, ◌∙◌}
use mathlib.Core.List.{List, ◌++◌, append_assoc}
use Prim.Native.Nat.{ℕ, zero, suc, ◌-◌, ◌/◌, ◌%◌, ◌≤◌, ◌<◌}
use native.Mathlib.Omega.{arith}
use lib.ListN.{length, drop, set, length-set}
use native.Mathlib.Numerals.{add-one}
use Rattle.std.proofs.lemmas.List.{drop-set}
use Rattle.octets.specs.Number.{octets}
use Rattle.octets.proofs.put_number.Goals as goal

turn : (s : List ℕ) (i rest : ℕ) → 0 < i → i ≤ length s → octets (i - 1) (rest / 256) ++ drop (i - 1) (set s (i - 1) (rest % 256)) ≡ octets i rest ++ drop i s
unfolding octets
turn s zero rest p h = absurd (omega arith)
turn s (suc j) rest p h =
    let e : suc j - 1 ≡ j = omega arith in
    rw (e, drop-set s j (rest % 256), add-one, append_assoc)

pub loop-i-preserved : goal.loop-i-preserved
loop-i-preserved c =
    let inv = c.loop-i.invariant in
    (simp length-set inv.0, turn c.loop-i.s c.loop-i.i c.loop-i.rest (omega arith) (omega arith) ∙ inv.1)

pub returns : goal.returns
unfolding octets
returns c =
    let done : c.loop-i.i ≡ 0 = omega arith in
    rw done at c.loop-i.invariant.1
