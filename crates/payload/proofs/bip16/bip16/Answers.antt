-- `payload::bip16::bip16` meets its contract: no word is ahead where the loop ends.
-- Assumes nothing.
use mathlib.Core.Path.{ap, sym, ◌∙◌}
use mathlib.Core.List.{[], ◌∷◌}
use Prim.Native.Nat.{◌/◌}
use native.Mathlib.Omega.{arith}
use lib.ListN.{length, drop_of_length-le}
use Rattle.std.specs.List.{fold}
use Rattle.payload.specs.Words.{and_word}
use Rattle.payload.proofs.Walk.{words_run}
use Rattle.payload.proofs.bip16.bip16.Goals as goal

pub returns : goal.returns
returns c =
    let s = c.args.s.now in
    let w = c.as_chunks.result.0.now in
    ap (fold and_word (c.loop-word.even ∷ c.loop-word.odd ∷ [])) (sym (drop_of_length-le w {i = c.loop-word.word-index} c.loop-word-test.false))
    ∙ c.loop-word.invariant
    ∙ ap (fold and_word (0 ∷ 0 ∷ [])) c.as_chunks.ensures.front
    ∙ words_run (length s / 2) 0 0 s (omega arith)
