-- Demand 3 for node software that holds the table only as its image. From a buffer of 5,061 octets or more that pw_empty started, after any
-- calls of C on it (refused ones included), copies of it taken and put back, and pw_empty called again, the buffer holds a table whose paths
-- are what the window rules give from their histories, and each call answers what the table's call answers.
--   The calls: `Runs`, over the definitions that the code's contracts cite (`Calls.antt`).
--   The histories: `pasts` of `Node`. A call that answers 0 goes into them as history says of the table's call, another into none. A copy
--     keeps the histories of its moment, and putting it back puts them back. pw_empty starts over, with no path and no history.
--   The table: `held` of `Held`; and `claim`, demand 3's `Claim` of the table that the buffer holds and of these histories. `reached` says
--     that calls on a table reach it.
--   What is answered: `answers` of `Held`, by the table's calls, of which `claim` speaks.
--   One path's events change no other path's history: `apart` of `Held`.
-- What lies behind the image in the buffer is of no account. pw_write takes no buffer with an image.
-- `proofs/Theorem.antt` proves it. Assumes nothing.
use Rattle.std.specs.Prelude.{ℕ, ◌≤◌, ◌<◌, ◌≡◌, eqb, length, drop}
use mathlib.Core.List.{List, [], ◌∷◌, ◌++◌, Memᴰ}
use Rattle.payload.specs.Test.{pick}
use Rattle.table.specs.Steps as table
use Rattle.table.specs.declared.paths.Table.{Table}
use Rattle.image.specs.Image.{octets_of, image_in, restored}
use Rattle.history.specs.Calls as history
use Rattle.history.specs.Calls.{Call, Past, past_at, Saving, World, Reach}
use Rattle.history.specs.Theorem.{Claim, Elsewhere}
use Rattle.host.specs.Calls.{held_in, table_in, empty_of, add_of, receive_of, server_on, write_row_of, answer_octets, close_of}

-- ---- the calls of C on a buffer

-- with any path's number, and any octets lent
pub data CCall : Type 0 where
  add : (kind : ℕ) (ttsi : List ℕ) (dl : ℕ) → CCall
  receive : (lsp : ℕ) (payload : List ℕ) → CCall
  close : (lsp : ℕ) (answer : List ℕ) → CCall
  server : (lsp : ℕ) (on : ℕ) → CCall
  write_fdi write_bdi : (lsp : ℕ) (payload : List ℕ) → CCall

-- the table's call of the same name
abbrev pub table_call : CCall → Call
table_call (add kind ttsi dl) = history.add (record { kind = kind; ttsi = ttsi; dl = dl })
table_call (receive i p) = history.receive i p
table_call (close i a) = history.close i
table_call (server i v) = history.server i v
table_call (write_fdi i b) = history.write_fdi i b
table_call (write_bdi i b) = history.write_bdi i b

-- arguments as C's types have them: octets, and a DL of four of them
abbrev pub Given : CCall → Type 0
Given c = history.Given (table_call c)

-- the number that the call on the buffer s answers
abbrev pub number : CCall → List ℕ → ℕ
number (add kind ttsi dl) s = (add_of s kind ttsi dl).0
number (receive i p) s = (receive_of s i p).0
number (close i a) s = (close_of s i a).0
number (server i v) s = (server_on s i v).0
number (write_fdi i b) s = (write_row_of 0x02 s i b).0
number (write_bdi i b) s = (write_row_of 0x03 s i b).0

-- the buffer after the call; FDI and BDI are written to another
abbrev pub left : CCall → List ℕ → List ℕ
left (add kind ttsi dl) s = (add_of s kind ttsi dl).1
left (receive i p) s = (receive_of s i p).1
left (close i a) s = (close_of s i a).1
left (server i v) s = (server_on s i v).1
left (write_fdi i b) s = s
left (write_bdi i b) s = s

-- ---- what node software has

-- a copy of the buffer, and the histories then
pub record Copy : Type 0 where
  pub buffer : List ℕ
  pub pasts : List Past

pub record Node : Type 0 where
  pub buffer : List ℕ
  pub pasts : List Past  -- one a path, at the path's number
  pub copies : List Copy

-- pw_empty: no path, and no history
abbrev pub emptied : Node → Node
emptied v = record { buffer = (empty_of v.buffer).1; pasts = []; copies = v.copies }

abbrev pub started : List ℕ → Node
started b = emptied (record { buffer = b; pasts = []; copies = [] })

-- a call that answers 0 goes into the histories, another into none
abbrev pub after : CCall → Node → Node
after c v = record {
  buffer = left c v.buffer;
  pasts = pick (eqb (number c v.buffer) 0) (history.pasts_after (table_call c) (table_in v.buffer) v.pasts) v.pasts;
  copies = v.copies;
}

abbrev pub copied : Node → Node
copied v = record { buffer = v.buffer; pasts = v.pasts; copies = record { buffer = v.buffer; pasts = v.pasts } ∷ v.copies }

-- the copy k put back puts every history back to what it was then
abbrev pub put_back : Copy → Node → Node
put_back k v = record { buffer = k.buffer; pasts = k.pasts; copies = v.copies }

-- other octets behind the image, so that a copy needs no more than the image
abbrev pub behind : List ℕ → Node → Node
behind r v = record { buffer = image_in v.buffer ++ r; pasts = v.pasts; copies = v.copies }

-- from a buffer b that pw_empty started: any calls, a copy taken at any time, any copy put back, any number of times, any octets written
-- behind the image, and pw_empty again
pub data Runs (b : List ℕ) : Node → Type 0 where
  starting : Runs b (started b)
  calling : {v : Node} → Runs b v → (c : CCall) → Given c → Runs b (after c v)
  copying : {v : Node} → Runs b v → Runs b (copied v)
  putting : {v : Node} → Runs b v → (k : Copy) → Memᴰ k v.copies → Runs b (put_back k v)
  writing : {v : Node} → Runs b v → (r : List ℕ) → length (behind r v).buffer ≡ length b → Runs b (behind r v)
  emptying : {v : Node} → Runs b v → Runs b (emptied v)

-- ---- the world of a node

-- the image that each copy begins with is a saving's, and the oldest saving is of the empty table
abbrev pub savings_of : List Copy → List Saving
savings_of [] = record { octets = octets_of table.empty; pasts = [] } ∷ []
savings_of (k ∷ ks) = record { octets = image_in k.buffer; pasts = k.pasts } ∷ savings_of ks

-- the table that the buffer holds
abbrev pub world_of : Node → World
world_of v = record { table = table_in v.buffer; pasts = v.pasts; savings = savings_of v.copies }

-- ---- what each call answers

-- over a buffer s, the table's calls on t
pub record Answers (s : List ℕ) (t : Table) : Type 0 where
  pub empty : (empty_of s).0 ≡ 0
  pub add : (kind : ℕ) (ttsi : List ℕ) (dl : ℕ) → (add_of s kind ttsi dl).0 ≡ (table.add_of t kind ttsi dl).number
  pub receive : (i : ℕ) (p : List ℕ) → (receive_of s i p).0 ≡ (table.receive_of t i p).0.number
  pub server : (i v : ℕ) → (server_on s i v).0 ≡ (table.server_of t i v).number
  -- the number, and the payload buffer afterwards
  pub write : (ty i : ℕ) (b : List ℕ) → write_row_of ty s i b ≡ table.write_row_of ty t i b
  -- with a buffer of 27 octets or more for the answer: the number, and at 0 the answer's octets. A refusal writes none
  pub close : (i : ℕ) (a : List ℕ) → 27 ≤ length a → (close_of s i a).0 ≡ (table.close_of t i).number
  pub closed : (i : ℕ) (a : List ℕ) → 27 ≤ length a → (table.close_of t i).number ≡ 0 → (close_of s i a).2 ≡ answer_octets (table.close_of t i) ++ drop 27 a
  pub not_closed : (i : ℕ) (a : List ℕ) → 27 ≤ length a → ((table.close_of t i).number ≡ 0 → ⊥) → (close_of s i a).2 ≡ a
  -- with a shorter one 11, and all is as it was
  pub short : (i : ℕ) (a : List ℕ) → length a < 27 → close_of s i a ≡ (11, s, a)

-- ---- the theorem

-- of a close: the buffer for its answer is long enough
abbrev pub Room : CCall → Type 0
Room (add kind ttsi dl) = Unit {0}
Room (receive i p) = Unit {0}
Room (close i a) = 27 ≤ length a
Room (server i v) = Unit {0}
Room (write_fdi i b) = Unit {0}
Room (write_bdi i b) = Unit {0}

-- path j and its history are in u what they were in v
pub record Kept (v u : Node) (j : ℕ) : Type 0 where
  pub path : table.path_at (table_in u.buffer) j ≡ table.path_at (table_in v.buffer) j
  pub past : past_at u.pasts j ≡ past_at v.pasts j

pub record Held (b : List ℕ) (v : Node) : Type 0 where
  -- the buffer is as long as it was, and begins with the image of the table that it holds
  pub size : length v.buffer ≡ length b
  pub held : held_in v.buffer ≡ restored (table_in v.buffer)
  pub image : image_in v.buffer ≡ octets_of (table_in v.buffer)
  -- calls on a table reach that table, with the same histories
  pub calls : List Call
  pub reached : Reach calls (world_of v)
  -- demand 3 of it
  pub claim : Claim (world_of v)
  pub answers : Answers v.buffer (table_in v.buffer)
  -- a call moves it as the table's call does; a close with too short a buffer for its answer moves nothing
  pub moves : (c : CCall) → Given c → Room c → world_of (after c v) ≡ history.next (table_call c) (world_of v)
  pub stays : (i : ℕ) (a : List ℕ) → length a < 27 → after (close i a) v ≡ v
  -- and no path but its own
  pub apart : (c : CCall) → Given c → (j : ℕ) → Elsewhere (table_call c) (world_of v) j → Kept v (after c v) j

pub record Demand3InC : Type 0 where
  pub starts : (b : List ℕ) → 5061 ≤ length b → (empty_of b).0 ≡ 0
  pub holds : (b : List ℕ) → 5061 ≤ length b → (v : Node) → Runs b v → Held b v
