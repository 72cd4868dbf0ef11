-- `host::steps::close` meets its contract. Assumes nothing.
use borrow.Author.Rules.{rules}
use mathlib.Core.Path.{◌≡◌}
use native.Mathlib.Omega.{arith}
use lib.ListN.{length, length-take}
use Prim.Native.Nat.{ℕ}
use Rattle.host.proofs.steps.close.Goals as goal

pub copy_from_slice-requires : goal.copy_from_slice-requires
copy_from_slice-requires c =
    let n : length c.octets.result ≡ 27 = search rules in
    omega (arith, length-take {A = ℕ})
