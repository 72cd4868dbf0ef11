-- Demand 3, of the very definitions that the calls' contracts cite. Sentence by sentence:
--   "From an empty table, after any calls (refused ones included, restored images being ones that saving wrote)": `Reach` of
--     `Calls.antt`. `Allowed.antt` says that it leaves out no call that the demand allows.
--   "each path's defect, unavailability": `path` of `Claim`, lsp's `Path` of the table's path and its history.
--   "and finished outages": `done` of `Closes`, what each close answers: kind, record, what goes out. `closes` of `Demand3` says it of
--     each close among the calls.
--   "are exactly what the window rules give from its history": lsp's and rules' fields are equivalences, for every kind, slot and record.
--   "by rules over counts per slot that don't run the machine": `exact` of lsp gives the counts, `Rules.antt` of rules the rules, which
--     for a CV path (k = 1) are those of `Paper.antt`.
--   "One path's events change no other path's history": `apart` of `Demand3`.
-- `proofs/Theorem.antt` proves it. Assumes nothing.
use Rattle.std.specs.Prelude.{ℕ, suc, ◌≤◌, ◌<◌, ◌≡◌, false, ◌↔◌, List, [], ◌∷◌, ◌++◌, length, replicate, None}
use Rattle.payload.specs.Test.{pick}
use Rattle.payload.specs.Rates.{life_of}
use Rattle.payload.specs.Writing.{write_of}
use Rattle.rules.specs.Rules.{Record, HandsOut}
use Rattle.rules.specs.Claim.{RightDefect}
use Rattle.window.specs.View.{defect_in, record_out, standing}
use Rattle.window.specs.declared.state.Defect.{Defect}
use Rattle.window.specs.declared.state.Defect.TheVariants.{Clear}
use Rattle.lsp.specs.Steps.{out_by, out_is}
use Rattle.lsp.specs.History.{slots, server_in, last_fdi, fdi_after, limit}
use Rattle.lsp.specs.Theorem.{exact, Path, answer_to}
use Rattle.lsp.specs.declared.close.Out.{Out}
use Rattle.table.specs.Steps as table
use Rattle.table.specs.Steps.{path_at, receive_of, close_of, write_row_of}
use Rattle.table.specs.declared.paths.Table.{Table}
use Rattle.table.specs.Outcomes.{Closed}
use Rattle.image.specs.Image.{restore_of}
use Rattle.history.specs.Calls.{Call, add, receive, close, server, write_fdi, write_bdi, size, save, restore, table_after, Past, past_at, World, next, Reach}

-- ---- what a close answers

-- DT, DL, alarm and suppression after n closes, by the defect, the latest server signal and the FDI that then stands
abbrev pub goes_out : Past → ℕ → Defect → Out
goes_out x n d = out_by d (server_in x.history) (fdi_after (life_of x.added.kind) n (last_fdi x.history)) x.added.dl

-- c is what the rules give at the close of the slot that is open after the past x
pub record RightClose (x : Past) (c : Closed) : Type 0 where
  pub number : c.number ≡ 0
  pub defect : RightDefect (exact x.history) (suc (slots x.history)) (defect_in c.defect)
  pub cv : x.added.kind ≡ 0 → (r : Record) → (c.handed ≡ record_out r) ↔ HandsOut 1 (exact x.history) (suc (slots x.history)) r
  pub ffd : (x.added.kind ≡ 0 → ⊥) → c.handed ≡ None
  pub out : c.out ≡ goes_out x (suc (slots x.history)) c.defect

-- a refusal carries its number, all else zero
pub record NoClose (n : ℕ) (c : Closed) : Type 0 where
  pub number : c.number ≡ n
  pub defect : c.defect ≡ Clear
  pub handed : c.handed ≡ None
  pub out : c.out ≡ out_is 0 0 false false

-- FDI or BDI, by the kind that stands and what goes out; 13 where none stands
abbrev pub row_by : ℕ → Defect → Out → List ℕ → ℕ × List ℕ
row_by ty d o b = pick (standing d) (write_of ty (replicate 20 0) 0 o.dt o.dl b) (13, b)

module _ (w : World) where
  abbrev pub past_of : ℕ → Past
  past_of i = past_at w.pasts i

  abbrev pub defect_of : ℕ → Defect
  defect_of i = (path_at w.table i).state.defect

  pub record Closes (i : ℕ) : Type 0 where
    pub none : w.table.count ≤ i → NoClose 1 (close_of w.table i)
    pub done : i < w.table.count → slots (past_of i).history < limit → RightClose (past_of i) (close_of w.table i)
    pub full : i < w.table.count → limit ≤ slots (past_of i).history → NoClose 9 (close_of w.table i)

  pub record Claim : Type 0 where
    -- each path has its history
    pub count : length w.pasts ≡ w.table.count
    pub path : (i : ℕ) → i < w.table.count → Path (past_of i).added (path_at w.table i) (past_of i).history
    pub close : (i : ℕ) → Closes i
    pub receive : (i : ℕ) (p : List ℕ) → i < w.table.count → (receive_of w.table i p).0 ≡ answer_to (past_of i).added p
    -- what is written is by the defect, which `path` says is the rules', the server signal and the FDI that stands
    pub write : (ty i : ℕ) (b : List ℕ) → i < w.table.count
        → write_row_of ty w.table i b ≡ row_by ty (defect_of i) (goes_out (past_of i) (slots (past_of i).history) (defect_of i)) b

-- ---- each close among the calls

-- the table that calls leave, the newest first
abbrev pub table_left : List Call → Table
table_left [] = table.empty
table_left (c ∷ cs) = table_after c (table_left cs)

-- a close of path i after these calls: it is made of a world that they reach, and of the table that they leave
pub record Answered (earlier : List Call) (i : ℕ) : Type 0 where
  pub before : World
  pub reached : Reach earlier before
  pub table : before.table ≡ table_left earlier
  pub answer : Closes before i

-- ---- paths are kept apart

-- the call is not on path j; a restore that isn't refused is on every path
abbrev pub Elsewhere : Call → World → ℕ → Type 0
Elsewhere (add a) w j = j < w.table.count
Elsewhere (receive i p) w j = j ≡ i → ⊥
Elsewhere (close i) w j = j ≡ i → ⊥
Elsewhere (server i v) w j = j ≡ i → ⊥
Elsewhere (write_fdi i b) w j = Unit {0}
Elsewhere (write_bdi i b) w j = Unit {0}
Elsewhere size w j = Unit {0}
Elsewhere (save b) w j = Unit {0}
Elsewhere (restore im) w j = (restore_of im).number ≡ 10

pub record Apart (c : Call) (w : World) (j : ℕ) : Type 0 where
  pub path : path_at (next c w).table j ≡ path_at w.table j
  pub past : past_at (next c w).pasts j ≡ past_at w.pasts j

-- ---- the theorem

pub record Demand3 : Type 0 where
  pub claim : (cs : List Call) (w : World) → Reach cs w → Claim w
  pub closes : (later earlier : List Call) (i : ℕ) (w : World) → Reach (later ++ (close i ∷ earlier)) w → Answered earlier i
  pub apart : (cs : List Call) (w : World) → Reach cs w → (c : Call) (j : ℕ) → Elsewhere c w j → Apart c w j
