-- Worlds that are reached (`specs/Examples.antt`). Assumes nothing.
use Prim.Native.Nat.{ℕ, suc}
use mathlib.Core.Path.{◌≡◌, refl, ap, subst}
use mathlib.Core.List.Memᴰ
use mathlib.Core.List.{List, [], ◌∷◌, ◌++◌, map}
use native.Mathlib.Omega.{arith}
use lib.ListN.{take}
use Rattle.payload.specs.Layout.{run, bdi, octets_of}
use Rattle.payload.specs.Reading.{read_of}
use Rattle.payload.specs.Cases.{t₀}
use Rattle.rules.specs.Rules.{locv, Stands, Latest, B, HandsOut}
use Rattle.rules.specs.Machine.{expected, total, last_of, judge, verdict, calm, long_enough, turn}
use Rattle.lsp.specs.Steps as lsp
use Rattle.lsp.specs.Steps.{same}
use Rattle.lsp.specs.History.{received, closes, arrives}
use Rattle.lsp.specs.Theorem.{exact}
use Rattle.table.specs.Steps.{expected_in, add_of, receive_of, close_of, server_of, write_row_of}
use Rattle.table.specs.declared.paths.Table.{Table}
use Rattle.image.specs.Image.{is_image, restore_of}
use Rattle.history.specs.Calls.{Call, add, receive, close, server, write_fdi, write_bdi, size, save, restore, Given, Plain, number, restored_or, World, back, Reach, empty, calling, restoring}
use Rattle.history.specs.Cases.{path, packet, world_after}
use Rattle.history.specs.Examples.{only, silent_calls, silent, lent, image, saved, mending_calls, mending, mended, again_calls, again, twice, refusals, bdi_calls, saved_later, Examples}
use Rattle.history.proofs.Reached.{holds, restores_saved}
use Rattle.history.proofs.Theorem.{claimed}
use Rattle.history.proofs.Corollaries.{corollaries}
use Rattle.history.proofs.Cases.{octets_small}

-- ---- reached by calls, none of them refused

silent_reached : Reach silent_calls silent
silent_reached = calling (calling (calling (calling empty (add path) (octets_small t₀ refl, omega arith) tt) (close 0) tt tt) (close 0) tt tt) (close 0) tt tt

mending_reached : Reach mending_calls mending
unfolding run
mending_reached =
    calling (calling (calling (calling silent_reached (save lent) tt tt) (receive 0 packet) (octets_small packet refl) tt) (close 0) tt tt) (receive 0 packet)
    (octets_small packet refl) tt

mended_reached : Reach (close 0 ∷ mending_calls) mended
mended_reached = calling mending_reached (close 0) tt tt

mended_is : mended.pasts ≡ only (closes ∷ arrives expected ∷ closes ∷ arrives expected ∷ closes ∷ closes ∷ closes ∷ [])
unfolding run read_of same received add_of expected_in
mended_is = refl

silent_is : silent.pasts ≡ only (closes ∷ closes ∷ closes ∷ [])
unfolding add_of expected_in
silent_is = refl

-- ---- restored

again_reached : Reach again_calls again
unfolding add_of expected_in close_of
again_reached = restoring mended_reached saved (Memᴰ.head refl)

twice_reached : Reach (restore image ∷ close 0 ∷ again_calls) twice
unfolding add_of expected_in close_of
twice_reached = restoring (calling again_reached (close 0) tt tt) saved (Memᴰ.head refl)

bdi_reached : Reach bdi_calls (world_after bdi_calls)
unfolding run
bdi_reached =
    calling (calling (calling silent_reached (save lent) tt tt) (receive 0 (octets_of (bdi t₀ 0x0201 0))) (octets_small (octets_of (bdi t₀ 0x0201 0)) refl) tt)
    (save lent) tt tt

either_way : Reach (restore image ∷ bdi_calls) (back saved (world_after bdi_calls)) × Reach (restore image ∷ bdi_calls) (back saved_later (world_after bdi_calls))
unfolding run read_of same received add_of expected_in close_of receive_of lsp.receive_of
either_way = (restoring bdi_reached saved (Memᴰ.tail (Memᴰ.head refl)), restoring bdi_reached saved_later (Memᴰ.head refl))

-- ---- refused

refused_numbers : map (λ (c : Call). number c silent.table) refusals ≡ 10 ∷ 11 ∷ 11 ∷ 12 ∷ 2 ∷ 1 ∷ 8 ∷ []
unfolding run read_of total last_of judge verdict calm long_enough turn lsp.receive_of lsp.close_of same expected_in add_of receive_of close_of server_of write_row_of is_image
refused_numbers = refl

-- ---- by the laws of images

comes_back : (t : Table) → restored_or t (restore_of image) ≡ silent.table
unfolding add_of expected_in close_of
comes_back t = ap (restored_or t) (restores_saved silent.table lent (holds silent_calls silent silent_reached).good.made refl)

-- one more refused call
again_silent : (cs : List Call) → Reach cs silent → (c : Call) (n : ℕ) → Given c → Plain c → number c silent.table ≡ suc n → Reach (c ∷ cs) silent
again_silent cs r c n g p e =
    subst (λ (w : World). Reach (c ∷ cs) w) (corollaries.refused cs silent r c (λ z. omega (arith, e, z))) (calling r c g p)

refused_reached : Reach (refusals ++ silent_calls) silent
unfolding run read_of total last_of judge verdict calm long_enough turn lsp.receive_of lsp.close_of same expected_in add_of receive_of close_of server_of write_row_of is_image
refused_reached =
    let r₁ = again_silent _ silent_reached (add path) 7 (octets_small t₀ refl, omega arith) tt refl in
    let r₂ = again_silent _ r₁ (close 1) 0 tt tt refl in
    let r₃ = again_silent _ r₂ (receive 0 (take 43 packet)) 1 (octets_small (take 43 packet) refl) tt refl in
    let r₄ = again_silent _ r₃ (server 0 2) 11 tt tt refl in
    let r₅ = again_silent _ r₄ (write_fdi 0 []) 10 tt tt refl in
    let r₆ = again_silent _ r₅ (save []) 10 tt tt refl in
    again_silent _ r₆ (restore []) 9 tt refl refl

-- ---- what the rules say of them

again_says : Stands (exact (closes ∷ closes ∷ closes ∷ [])) 3 × Latest (exact (closes ∷ closes ∷ closes ∷ [])) locv 3
unfolding add_of expected_in close_of lsp.close_of total last_of judge verdict calm long_enough turn
again_says = ((((claimed silent_calls silent silent_reached).path 0 (omega arith)).cv refl).defect.kind locv).0 refl

mended_says : HandsOut 1 (exact (arrives expected ∷ closes ∷ arrives expected ∷ closes ∷ closes ∷ closes ∷ [])) 5 (B 1 3)
unfolding run read_of total last_of judge verdict calm long_enough turn lsp.receive_of lsp.close_of same received expected_in add_of receive_of close_of
mended_says = ((((claimed mending_calls mending mending_reached).close 0).done (omega arith) (omega arith)).cv refl (B 1 3)).0 refl

pub examples : Examples
examples =
    record {
      silent_reached = silent_reached;
      mended_reached = mended_reached;
      mended_is = mended_is;
      again_reached = again_reached;
      again_is = (comes_back mended.table, silent_is);
      twice_reached = twice_reached;
      twice_is = (comes_back _, silent_is);
      refused_numbers = refused_numbers;
      refused_reached = refused_reached;
      others_reached = calling (calling (calling silent_reached (write_fdi 0 lent) tt tt) (write_bdi 0 lent) tt tt) size tt tt;
      server_reached = calling silent_reached (server 0 1) tt tt;
      either_way = either_way;
      again_says = again_says;
      mended_says = mended_says;
    }
