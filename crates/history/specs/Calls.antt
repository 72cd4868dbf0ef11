-- Any public calls, from an empty table, and the worlds that they reach. The table moves by the definitions that the calls' contracts
-- cite, the histories by what the paper says of histories.
-- Assumes nothing.
use Rattle.std.specs.Prelude.{ℕ, ◌<◌, ◌≡◌, eqb, get_or, set, take}
use mathlib.Core.List.{List, [], ◌∷◌, ◌++◌, Memᴰ}
use Rattle.payload.specs.Test.{pick}
use Rattle.payload.specs.Law.{Octets}
use Rattle.lsp.specs.History.{Added, History, received, closed, signalled_as}
use Rattle.table.specs.Steps.{add_of, receive_of, close_of, server_of, write_row_of}
use Rattle.table.specs.Steps as table
use Rattle.table.specs.declared.paths.Table.{Table}
use Rattle.image.specs.Image.{length_of, save_of, restore_of}
use Rattle.image.specs.Outcomes.{Restored}

-- ---- the calls

-- with any path's number, and any octets received, lent or restored
pub data Call : Type 0 where
  add : Added → Call
  receive : (lsp : ℕ) → List ℕ → Call
  close : (lsp : ℕ) → Call
  server : (lsp : ℕ) → ℕ → Call
  write_fdi write_bdi : (lsp : ℕ) → List ℕ → Call
  size : Call  -- the image's length
  save : List ℕ → Call
  restore : List ℕ → Call

-- arguments as the code's types have them, where that matters to an image: octets, and a DL of four of them. No other value can be given
abbrev pub Given : Call → Type 0
Given (add a) = Octets a.ttsi × (a.dl < 0x1_0000_0000)
Given (receive i p) = Octets p
Given (close i) = Unit {0}
Given (server i v) = Unit {0}
Given (write_fdi i b) = Unit {0}
Given (write_bdi i b) = Unit {0}
Given size = Unit {0}
Given (save b) = Unit {0}
Given (restore im) = Unit {0}

-- the number that the call answers; asking for the image's length is never refused
abbrev pub number : Call → Table → ℕ
number (add a) t = (add_of t a.kind a.ttsi a.dl).number
number (receive i p) t = (receive_of t i p).0.number
number (close i) t = (close_of t i).number
number (server i v) t = (server_of t i v).number
number (write_fdi i b) t = (write_row_of 0x02 t i b).0
number (write_bdi i b) t = (write_row_of 0x03 t i b).0
number size t = 0
number (save b) t = (save_of t b).0
number (restore im) t = (restore_of im).number

-- the caller goes on with the table that an accepted image gives
abbrev pub restored_or : Table → Restored → Table
restored_or t r = pick (eqb r.number 0) r.table t

-- the table after the call
abbrev pub table_after : Call → Table → Table
table_after (add a) t = (add_of t a.kind a.ttsi a.dl).next
table_after (receive i p) t = (receive_of t i p).1
table_after (close i) t = (close_of t i).next
table_after (server i v) t = (server_of t i v).next
table_after (write_fdi i b) t = t
table_after (write_bdi i b) t = t
table_after size t = t
table_after (save b) t = t
table_after (restore im) t = restored_or t (restore_of im)

-- ---- the histories

-- a path's past: what it was added with, and its history since
pub record Past : Type 0 where
  pub added : Added
  pub history : History

abbrev pub nobody : Past
nobody = record { added = record { kind = 0; ttsi = []; dl = 0 }; history = [] }

abbrev pub past_at : List Past → ℕ → Past
past_at ps i = get_or ps i nobody

-- path i's history goes on; a number that no path has changes nothing
abbrev pub goes_on : ℕ → (Added → History → History) → List Past → List Past
goes_on i f ps = set ps i (record { added = (past_at ps i).added; history = f (past_at ps i).added (past_at ps i).history })

-- accepted packets, server signals and closed slots go into the history of their path, and a path that is added has an empty one
abbrev pub pasts_after : Call → Table → List Past → List Past
pasts_after (add a) t ps = pick (eqb (number (add a) t) 0) (ps ++ (record { added = a; history = [] } ∷ [])) ps
pasts_after (receive i p) t ps = goes_on i (λ a h. received a p h) ps
pasts_after (close i) t ps = goes_on i (λ a h. closed h) ps
pasts_after (server i v) t ps = goes_on i (λ a h. signalled_as v h) ps
pasts_after (write_fdi i b) t ps = ps
pasts_after (write_bdi i b) t ps = ps
pasts_after size t ps = ps
pasts_after (save b) t ps = ps
pasts_after (restore im) t ps = ps

-- ---- the savings

-- the octets that a saving wrote, and the pasts then
pub record Saving : Type 0 where
  pub octets : List ℕ
  pub pasts : List Past

-- what saving t wrote into the lent octets b
abbrev pub written : Table → List ℕ → List ℕ
written t b = take (length_of t) (save_of t b).1

abbrev pub savings_after : Call → Table → List Past → List Saving → List Saving
savings_after (add a) t ps ss = ss
savings_after (receive i p) t ps ss = ss
savings_after (close i) t ps ss = ss
savings_after (server i v) t ps ss = ss
savings_after (write_fdi i b) t ps ss = ss
savings_after (write_bdi i b) t ps ss = ss
savings_after size t ps ss = ss
savings_after (save b) t ps ss = pick (eqb (number (save b) t) 0) (record { octets = written t b; pasts = ps } ∷ ss) ss
savings_after (restore im) t ps ss = ss

-- ---- the worlds

pub record World : Type 0 where
  pub table : Table
  pub pasts : List Past  -- one a path, at the path's number
  pub savings : List Saving

abbrev pub start : World
start = record { table = table.empty; pasts = []; savings = [] }

abbrev pub next : Call → World → World
next c w = record {
  table = table_after c w.table;
  pasts = pasts_after c w.table w.pasts;
  savings = savings_after c w.table w.pasts w.savings;
}

-- restoring what the saving s wrote puts every history back to what it was then
abbrev pub back : Saving → World → World
back s w = record { table = table_after (restore s.octets) w.table; pasts = s.pasts; savings = w.savings }

-- any call; of a restore, that the octets are refused
abbrev pub Plain : Call → Type 0
Plain (add a) = Unit {0}
Plain (receive i p) = Unit {0}
Plain (close i) = Unit {0}
Plain (server i v) = Unit {0}
Plain (write_fdi i b) = Unit {0}
Plain (write_bdi i b) = Unit {0}
Plain size = Unit {0}
Plain (save b) = Unit {0}
Plain (restore im) = (restore_of im).number ≡ 10

-- calls, the newest first, and a world that they reach. Where two savings wrote the same octets, restoring them reaches a world for each
pub data Reach : List Call → World → Type 0 where
  empty : Reach [] start
  calling : {cs : List Call} {w : World} → Reach cs w → (c : Call) → Given c → Plain c → Reach (c ∷ cs) (next c w)
  restoring : {cs : List Call} {w : World} → Reach cs w → (s : Saving) → Memᴰ s w.savings → Reach (restore s.octets ∷ cs) (back s w)
