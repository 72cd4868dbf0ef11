-- A call on one path leaves every other as it was, and a refused call leaves the whole table as it was. `proofs/Laws.antt` proves both.
-- Assumes nothing.
use Rattle.std.specs.Prelude.{◌≡◌, List, ℕ, ◌<◌}
use Rattle.table.specs.Steps.{present, path_at, add_of, receive_of, close_of, server_of}
use Rattle.table.specs.declared.paths.Table.{Table}

-- path j of the table after a call on path i is path j of the table before it, and there are as many
pub record Kept (i : ℕ) (before after : Table) : Type 0 where
  pub count : after.count ≡ before.count
  pub others : (j : ℕ) → (j ≡ i → ⊥) → path_at after j ≡ path_at before j

pub record Apart : Type 0 where
  pub receive : (t : Table) (i : ℕ) (p : List ℕ) → Kept i t (receive_of t i p).1
  pub close : (t : Table) (i : ℕ) → Kept i t (close_of t i).next
  pub server : (t : Table) (i v : ℕ) → Kept i t (server_of t i v).next
  -- a path that was there before an add is there after it
  pub add : (t : Table) (kind : ℕ) (ttsi : List ℕ) (dl j : ℕ) → j < present t → path_at (add_of t kind ttsi dl).next j ≡ path_at t j

pub record Refused : Type 0 where
  pub receive : (t : Table) (i : ℕ) (p : List ℕ) → ((receive_of t i p).0.number ≡ 0 → ⊥) → (receive_of t i p).1 ≡ t
  pub close : (t : Table) (i : ℕ) → ((close_of t i).number ≡ 0 → ⊥) → (close_of t i).next ≡ t
  pub server : (t : Table) (i v : ℕ) → ((server_of t i v).number ≡ 0 → ⊥) → (server_of t i v).next ≡ t
  pub add : (t : Table) (kind : ℕ) (ttsi : List ℕ) (dl : ℕ) → ((add_of t kind ttsi dl).number ≡ 0 → ⊥) → (add_of t kind ttsi dl).next ≡ t
