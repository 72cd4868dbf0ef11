-- The rules of a table, and that a table made by any calls obeys them. `proofs/Lawful.antt` proves it.
-- Assumes nothing.
use Rattle.std.specs.Prelude.{◌≡◌, List, ℕ, ◌≤◌, ◌<◌, length}
use Rattle.lsp.specs.Sound.{Sound}
use Rattle.table.specs.Steps.{blank, path_at, empty, add_of, receive_of, close_of, server_of}
use Rattle.table.specs.declared.paths.Table.{Table}

pub record Lawful (t : Table) : Type 0 where
  pub few : t.count ≤ 64
  pub places : length t.lsps ≡ 64
  -- each path obeys its own rules
  pub sound : (i : ℕ) → i < t.count → Sound (path_at t i)
  -- TTSIs differ
  pub differ : (i j : ℕ) → i < j → j < t.count → (path_at t i).ttsi ≡ (path_at t j).ttsi → ⊥
  -- a place with no path holds what it held at first, so that tables with the same paths are the same
  pub unused : (i : ℕ) → t.count ≤ i → i < 64 → path_at t i ≡ blank

pub record LawfulKept : Type 0 where
  pub fresh : Lawful empty
  pub add : (t : Table) (kind : ℕ) (ttsi : List ℕ) (dl : ℕ) → Lawful t → Lawful (add_of t kind ttsi dl).next
  pub receive : (t : Table) (i : ℕ) (p : List ℕ) → Lawful t → Lawful (receive_of t i p).1
  pub close : (t : Table) (i : ℕ) → Lawful t → Lawful (close_of t i).next
  pub server : (t : Table) (i v : ℕ) → Lawful t → Lawful (server_of t i v).next
