-- `second::slots::Row::sum` meets its contract. Each count is below 2^32 and there are at most as many as a row has, so the sum fits.
-- Assumes nothing.
use Rattle.std.proofs.Common.{◌^◌, arith, rules}
use Rattle.std.proofs.lemmas.Iterator.{YieldsList-from_slice}
use Rattle.std.proofs.lemmas.Iterator.Adapters.{fits_from_length, at_most_from_yields_List}
use Rattle.second.specs.declared.slots.TheConstants.{ROW}
use Rattle.second.proofs.slots.Row.sum.Goals as goal

pub sum-requires-clause-fits : goal.sum-requires-clause-fits
sum-requires-clause-fits c =
    fits_from_length _ _ ROW (2 ^ 64) (at_most_from_yields_List (YieldsList-from_slice c.iter.result.rest.now cc) (grind arith))
    c.map.ensures.closure (omega arith) (λ x r q k. search rules)
