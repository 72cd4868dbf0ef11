-- The law of images, and that a table made by calls can be saved and comes back. `proofs/Law.antt` and `proofs/Made.antt` prove them.
-- Assumes nothing.
use Rattle.std.specs.Prelude.{◌≡◌, ◌↔◌, List, ◌++◌, ℕ, ◌<◌, ◌≤◌, length, take, drop}
use Rattle.payload.specs.Law.{Octets}
use Rattle.field.specs.Law as path
use Rattle.table.specs.Lawful.{Lawful}
use Rattle.table.specs.Steps.{empty, path_at, add_of, receive_of, close_of, server_of}
use Rattle.table.specs.declared.paths.Table.{Table}
use Rattle.image.specs.Image.{octets_of, length_of, save_of, restore_of, restored}

-- the numbers of every path are ones that the code's types hold
abbrev pub Typed : Table → Type 0
Typed t = (i : ℕ) → i < t.count → path.Typed (path_at t i)

pub record ImageLaw : Type 0 where
  -- restoring accepts im with t exactly when t obeys the rules and im is its octets
  pub law : (im : List ℕ) (t : Table) → Octets im → (restore_of im ≡ restored t) ↔ (Lawful t × Typed t × (im ≡ octets_of t))
  -- saving what was restored gives the same octets
  pub restored_then_saved : (im b : List ℕ) → Octets im → (restore_of im).number ≡ 0 → length im ≤ length b
      → save_of (restore_of im).table b ≡ (0, im ++ drop (length im) b)
  -- restoring what was saved gives the same table
  pub saved_then_restored : (t : Table) (b : List ℕ) → Lawful t → Typed t → (save_of t b).0 ≡ 0
      → restore_of (take (length_of t) (save_of t b).1) ≡ restored t
  -- no two octet strings restore to one table
  pub one_image : (im jm : List ℕ) (t : Table) → Octets im → Octets jm → restore_of im ≡ restored t → restore_of jm ≡ restored t → im ≡ jm
  -- the image has the length that the length call answers
  pub size : (t : Table) → Lawful t → length (octets_of t) ≡ length_of t

-- a table made by calls, refused ones among them, whose arguments are values of the code's types
pub data Made : Table → Type 0 where
  none : Made empty
  add : {t : Table} (kind : ℕ) (ttsi : List ℕ) (dl : ℕ) → Octets ttsi → dl < 0x1_0000_0000 → Made t → Made (add_of t kind ttsi dl).next
  receive : {t : Table} (i : ℕ) (p : List ℕ) → Octets p → Made t → Made (receive_of t i p).1
  close : {t : Table} (i : ℕ) → Made t → Made (close_of t i).next
  server : {t : Table} (i v : ℕ) → Made t → Made (server_of t i v).next
  restore : (im : List ℕ) → Octets im → Made (restore_of im).table

-- it obeys the rules, so that what saving wrote restores to it
pub record MadeComesBack : Type 0 where
  pub lawful : (t : Table) → Made t → Lawful t
  pub typed : (t : Table) → Made t → Typed t
  pub back : (t : Table) → Made t → restore_of (octets_of t) ≡ restored t
