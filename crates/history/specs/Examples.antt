-- Worlds that are reached: by each kind of call, by refused calls, by restoring an older image after newer closes, by restoring it again,
-- by restoring one of two savings that wrote the same octets. So the theorem is of something. `proofs/Examples.antt` shows them.
-- Assumes nothing.
use Rattle.std.specs.Prelude.{ℕ, ◌≡◌, List, [], ◌∷◌, ◌++◌, map, take, replicate}
use Rattle.payload.specs.Layout.{bdi, octets_of}
use Rattle.payload.specs.Cases.{t₀}
use Rattle.rules.specs.Rules.{locv, Stands, Latest, B, HandsOut}
use Rattle.rules.specs.Machine.{expected}
use Rattle.lsp.specs.History.{History, arrives, reported, closes}
use Rattle.lsp.specs.Theorem.{exact}
use Rattle.history.specs.Calls.{Call, add, receive, close, server, write_fdi, write_bdi, size, save, restore, number, Past, Saving, written, World, next, back, Reach}
use Rattle.history.specs.Cases.{path, packet, world_after}

-- a path's past, alone in its table
abbrev pub only : History → List Past
only h = record { added = path; history = h } ∷ []

-- ---- three closed slots without a packet, then saved

abbrev pub silent_calls : List Call
silent_calls = close 0 ∷ close 0 ∷ close 0 ∷ add path ∷ []

abbrev pub silent : World
silent = world_after silent_calls

abbrev pub lent : List ℕ
lent = replicate 100 0

abbrev pub image : List ℕ
image = written silent.table lent

abbrev pub saved : Saving
saved = record { octets = image; pasts = silent.pasts }

-- ---- two slots with a packet each; before the last close, and after it

abbrev pub mending_calls : List Call
mending_calls = receive 0 packet ∷ close 0 ∷ receive 0 packet ∷ save lent ∷ silent_calls

abbrev pub mending : World
mending = world_after mending_calls

abbrev pub mended : World
mended = next (close 0) mending

-- ---- the older image restored; one more close, and restored again

abbrev pub again_calls : List Call
again_calls = restore image ∷ close 0 ∷ mending_calls

abbrev pub again : World
again = back saved mended

abbrev pub twice : World
twice = back saved (next (close 0) again)

-- ---- refused, each with its number

abbrev pub refusals : List Call
refusals =
    restore [] ∷ save [] ∷ write_fdi 0 [] ∷ server 0 2 ∷ receive 0 (take 43 packet) ∷ close 1 ∷ add path ∷ []

-- ---- a BDI between two savings changes no octet of the image

abbrev pub bdi_calls : List Call
bdi_calls = save lent ∷ receive 0 (octets_of (bdi t₀ 0x0201 0)) ∷ save lent ∷ silent_calls

abbrev pub saved_later : Saving
saved_later = record { octets = image; pasts = only (reported ∷ closes ∷ closes ∷ closes ∷ []) }

pub record Examples : Type 0 where
  pub silent_reached : Reach silent_calls silent
  pub mended_reached : Reach (close 0 ∷ mending_calls) mended
  pub mended_is : mended.pasts ≡ only (closes ∷ arrives expected ∷ closes ∷ arrives expected ∷ closes ∷ closes ∷ closes ∷ [])
  pub again_reached : Reach again_calls again
  pub again_is : (again.table ≡ silent.table) × (again.pasts ≡ only (closes ∷ closes ∷ closes ∷ []))
  pub twice_reached : Reach (restore image ∷ close 0 ∷ again_calls) twice
  pub twice_is : (twice.table ≡ silent.table) × (twice.pasts ≡ only (closes ∷ closes ∷ closes ∷ []))
  -- refused calls reach a world too, and it is the one before them
  pub refused_numbers : map (λ (c : Call). number c silent.table) refusals ≡ 10 ∷ 11 ∷ 11 ∷ 12 ∷ 2 ∷ 1 ∷ 8 ∷ []
  pub refused_reached : Reach (refusals ++ silent_calls) silent
  -- the calls that leave every path and history
  pub others_reached : Reach (size ∷ write_bdi 0 lent ∷ write_fdi 0 lent ∷ silent_calls) silent
  pub server_reached : Reach (server 0 1 ∷ silent_calls) (next (server 0 1) silent)
  -- two savings wrote the same octets: restoring them may put back the histories of either
  pub either_way : Reach (restore image ∷ bdi_calls) (back saved (world_after bdi_calls)) × Reach (restore image ∷ bdi_calls) (back saved_later (world_after bdi_calls))
  -- so the rules say of the restored path that LOCV stands, and of the mended one that its last close ended B 1 3
  pub again_says : Stands (exact (closes ∷ closes ∷ closes ∷ [])) 3 × Latest (exact (closes ∷ closes ∷ closes ∷ [])) locv 3
  pub mended_says : HandsOut 1 (exact (arrives expected ∷ closes ∷ arrives expected ∷ closes ∷ closes ∷ closes ∷ [])) 5 (B 1 3)
