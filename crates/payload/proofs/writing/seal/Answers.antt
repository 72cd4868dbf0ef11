-- `payload::writing::seal` meets its contract.
-- Assumes nothing.
use mathlib.Core.Path.{ap, ◌∙◌}
use mathlib.Core.List.{List, ◌++◌}
use Prim.Native.Nat.{ℕ}
use native.Mathlib.Omega.{arith}
use lib.ListN.{take, length-take}
use Rattle.payload.proofs.Stores.{sealed}
use Rattle.payload.proofs.writing.seal.Goals as goal

pub slice_bounds-bip16-end-2 : goal.slice_bounds-bip16-end-2
slice_bounds-bip16-end-2 c = simp length-take (omega arith)

pub returns : goal.returns
returns c =
    let s = c.args.s.now in
    sealed s _ c.requires ∙ ap (λ (l : List ℕ). take 42 s ++ l) (c.copy_from_slice.ensures.after ∙ c.bip16-bip.ensures)
