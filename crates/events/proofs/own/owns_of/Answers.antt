-- `events::own::owns_of` meets its contract: each path has its own packet in its place. Assumes nothing.
use borrow.Author.Rules.{rules}
use mathlib.Core.Path.{◌≡◌, refl}
use native.Mathlib.Omega.{arith}
use lib.ListN.{length, length-set}
use Rattle.events.proofs.Owns.{owned_next, owned_all}
use Rattle.events.proofs.own.owns_of.Goals as goal

pub loop-i-init : goal.loop-i-init
loop-i-init c = (refl, refl)

pub loop-i-preserved : goal.loop-i-preserved
loop-i-preserved c =
    let ls = c.args.lsps.now in
    let paths : length ls ≡ 64 = search rules in
    let loop = c.loop-i in
    (simp length-set loop.invariant.0, owned_next loop.owns ls loop.i _ _ (omega (arith, paths, loop.invariant.0, c.loop-i-test.true)) (omega (arith, paths, c.loop-i-test.true)) c.own_of.ensures loop.invariant.1)

pub returns : goal.returns
returns c =
    let ls = c.args.lsps.now in
    let paths : length ls ≡ 64 = search rules in
    let loop = c.loop-i in
    owned_all loop.owns ls loop.i (omega (arith, loop.invariant.0, c.loop-i-test.false)) (omega (arith, paths, c.loop-i-test.false)) loop.invariant.1
