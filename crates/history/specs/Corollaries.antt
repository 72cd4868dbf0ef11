-- What the theorem means to those who run the node, each in a few lines. `proofs/Corollaries.antt` proves them.
-- Assumes nothing.
use Rattle.std.specs.Prelude.{ℕ, suc, ◌-◌, ◌≤◌, ◌<◌, ◌≡◌, ◌⊎◌, List, ◌∷◌, ◌++◌, eqb, Some}
use Rattle.window.specs.declared.state.Defect.TheVariants.{Mismatch, Mismerge, Locv, Excess}
use Rattle.window.specs.declared.state.Availability.TheVariants.{Available}
use Rattle.window.specs.declared.state.Record.TheVariants.{U}
use Rattle.lsp.specs.History.{Event, signalled, closes, slots, limit}
use Rattle.lsp.specs.Theorem.{exact}
use Rattle.table.specs.Steps.{path_at, close_of}
use Rattle.image.specs.Image.{restore_of, restored}
use Rattle.history.specs.Calls.{Call, receive, close, server, save, restore, number, Past, past_at, written, World, next, Reach}
use Rattle.history.specs.Theorem.{table_left}

-- v has the paths and the histories of w
pub record Same (w v : World) : Type 0 where
  pub table : v.table ≡ w.table
  pub pasts : v.pasts ≡ w.pasts

-- ---- at a close of path i

module _ (w : World) (i : ℕ) where
  -- the path is there, and its slots are not used up
  pub record Open : Type 0 where
    pub there : i < w.table.count
    pub below : slots (past_at w.pasts i).history < limit

  -- the slot that closes, and the expected packets that came in it
  abbrev pub slot : ℕ
  slot = suc (slots (past_at w.pasts i).history)

  abbrev pub arrived : ℕ
  arrived = (exact (past_at w.pasts i).history).expected slot

  -- from and until are those of an unavailability that this close ends: until is the first of the ten slots that cleared it
  pub record InService (from until : ℕ) : Type 0 where
    pub available : (path_at (close_of w.table i).next i).state.availability ≡ Available
    pub first : until ≡ slot - 9
    pub order : (1 ≤ from) × (from < until)

-- e is the newest event of path i, which had no other change
abbrev pub Newest : Event → ℕ → List Past → List Past → Type 0
Newest e i before after = past_at after i ≡ record { added = (past_at before i).added; history = e ∷ (past_at before i).history }

pub record Corollaries : Type 0 where
  -- a restart forgets nothing: what a save wrote restores the table, even to one who has nothing but these octets
  pub restores : (cs : List Call) (w : World) (b : List ℕ) → Reach cs w → number (save b) w.table ≡ 0 → restore_of (written w.table b) ≡ restored w.table
  pub restart : (cs : List Call) (w : World) (b : List ℕ) → Reach cs w → number (save b) w.table ≡ 0
      → (v : World) × Reach (restore (written w.table b) ∷ save b ∷ cs) v × Same w v
  -- and so at any time later, whatever came between
  pub restart_later : (cs : List Call) (b : List ℕ) (later : List Call) (u : World) → Reach (later ++ (save b ∷ cs)) u → number (save b) (table_left cs) ≡ 0
      → (w : World) × Reach cs w × (v : World) × Reach (restore (written w.table b) ∷ (later ++ (save b ∷ cs))) v × Same w v
  -- packets in a slot, however many, are never taken for silence: with one or more, LOCV and Mismatch stand only if they stood before
  pub no_new_silence : (cs : List Call) (w : World) (i : ℕ) → Reach cs w → Open w i → 1 ≤ arrived w i
      → ((close_of w.table i).defect ≡ Locv → (path_at w.table i).state.defect ≡ Locv)
      × ((close_of w.table i).defect ≡ Mismatch → (path_at w.table i).state.defect ≡ Mismatch)
  -- with two or more they don't stand (one leaves LOCV standing in the paper's P7)
  pub not_silence : (cs : List Call) (w : World) (i : ℕ) → Reach cs w → Open w i → 2 ≤ arrived w i
      → ((close_of w.table i).defect ≡ Locv → ⊥) × ((close_of w.table i).defect ≡ Mismatch → ⊥)
  -- and five or more are reported, from slot 3 on
  pub flood : (cs : List Call) (w : World) (i : ℕ) → Reach cs w → Open w i → 5 ≤ arrived w i → 3 ≤ slot w i
      → ((close_of w.table i).defect ≡ Excess) ⊎ ((close_of w.table i).defect ≡ Mismerge)
  -- a path whose unavailability is handed out is in service again
  pub in_service : (cs : List Call) (w : World) (i : ℕ) → Reach cs w → Open w i → (from until : ℕ) → (close_of w.table i).handed ≡ Some (U from until)
      → InService w i from until
  -- a refused call leaves the table, every history and every saving as it was
  pub refused : (cs : List Call) (w : World) → Reach cs w → (c : Call) → (number c w.table ≡ 0 → ⊥) → next c w ≡ w
  -- an accepted packet, signal or close is in its path's history
  pub receive : (cs : List Call) (w : World) → Reach cs w → (i : ℕ) (p : List ℕ) → number (receive i p) w.table ≡ 0
      → (e : Event) × Newest e i w.pasts (next (receive i p) w).pasts
  pub close : (cs : List Call) (w : World) → Reach cs w → (i : ℕ) → number (close i) w.table ≡ 0
      → Newest closes i w.pasts (next (close i) w).pasts
  pub server : (cs : List Call) (w : World) → Reach cs w → (i v : ℕ) → number (server i v) w.table ≡ 0
      → Newest (signalled (eqb v 1)) i w.pasts (next (server i v) w).pasts
