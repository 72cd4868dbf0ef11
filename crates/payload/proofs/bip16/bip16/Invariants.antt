-- `payload::bip16::bip16` meets its contract: what the sum makes of the words still ahead stays the same.
-- Assumes nothing.
use Rattle.std.proofs.Common.{◌≡◌, [], ◌∷◌, drop}
use Rattle.std.specs.List.{fold}
use Rattle.payload.specs.Words.{and_word}
use Rattle.payload.proofs.bip16.bip16.Given as goal

abbrev pub invariant-loop-word : goal.invariant-loop-word
invariant-loop-word l = fold and_word (l.even ∷ l.odd ∷ []) (drop l.word-index l.words) ≡ fold and_word (0 ∷ 0 ∷ []) l.words
