-- The theorem for one path, about the very definitions that the contracts of `new`, `receive`, `close` and `server` cite.
--
-- Take any list of steps, with any arguments, refused ones included, on a path as adding leaves it. Then
--   the state                      `Path`      is what the window rules give from the history: slots closed, defect and kind, and on a
--                                              CV path unavailability and its slot; the server signal is the latest; an FDI stands as
--                                              the paper says;
--   the answer of a close          `Closing`   is 0 with the rules' kind and, on a CV path, exactly the rules' record, nothing on an
--                                              FFD path, and what goes out by the defect, the signal and the FDI; at the limit 9;
--   the answer of a received one   `answer_to`  is the reader's, or 6 exactly for CV or FFD, expected TTSI, other type or rate.
-- `proofs/Theorem.antt` proves it. Assumes nothing.
use Rattle.std.specs.Prelude.{ℕ, suc, ◌≤◌, ◌<◌, ◌≡◌, Bool, not, ◌↔◌, List, [], ◌∷◌, eqb}
use Rattle.payload.specs.Test.{pick, both, either}
use Rattle.payload.specs.Rates.{life_of}
use Rattle.payload.specs.Reading.{Answer, read_of, refusal, accepts, ttsi_at}
use Rattle.rules.specs.Counts.{Counts}
use Rattle.rules.specs.Rules.{Record, HandsOut}
use Rattle.rules.specs.Claim.{Right, RightFfd, RightDefect}
use Rattle.rules.specs.History.{counts_of}
use Rattle.window.specs.View.{view, defect_in, record_out}
use Rattle.std.specs.Prelude.{None}
use Rattle.lsp.specs.Steps.{new_of, receive_of, server_of, close_of, out_by, same}
use Rattle.lsp.specs.History.{Added, History, counted, slots, server_in, last_fdi, fdi_after, received, closed, signalled_as, limit}
use Rattle.lsp.specs.declared.path.Lsp.{Lsp}

-- ---- steps, the newest first, the path after them, and its history

pub data Step : Type 0 where
  receive : List ℕ → Step  -- any octets
  close : Step
  server : ℕ → Step  -- any value

abbrev pub after : Lsp → List Step → Lsp
after l [] = l
after l (receive p ∷ s) = (receive_of (after l s) p).1
after l (close ∷ s) = (close_of (after l s)).next
after l (server v ∷ s) = (server_of (after l s) v).next

abbrev pub history_of : Added → List Step → History
history_of a [] = []
history_of a (receive p ∷ s) = received a p (history_of a s)
history_of a (close ∷ s) = closed (history_of a s)
history_of a (server v ∷ s) = signalled_as v (history_of a s)

abbrev pub added : Added → Lsp
added a = new_of a.kind a.ttsi a.dl

-- ---- what is claimed

abbrev pub exact : History → Counts
exact h = counts_of (counted h)

-- l is what the rules give from h
pub record Path (a : Added) (l : Lsp) (h : History) : Type 0 where
  pub kind : l.kind ≡ a.kind
  pub ttsi : l.ttsi ≡ a.ttsi
  pub dl : l.dl ≡ a.dl
  pub cv : a.kind ≡ 0 → Right (exact h) (slots h) (view l.state)
  pub ffd : (a.kind ≡ 0 → ⊥) → RightFfd (exact h) (slots h) (view l.state)
  pub server : l.server ≡ server_in h
  pub fdi : l.fdi ≡ fdi_after (life_of a.kind) (slots h) (last_fdi h)

-- what the close of l's open slot answers and leaves
pub record Closing (a : Added) (l : Lsp) (h : History) : Type 0 where
  pub number : (close_of l).number ≡ 0
  pub defect : RightDefect (exact h) (suc (slots h)) (defect_in (close_of l).defect)
  pub cv : a.kind ≡ 0 → (r : Record) → ((close_of l).handed ≡ record_out r) ↔ HandsOut 1 (exact h) (suc (slots h)) r
  pub ffd : (a.kind ≡ 0 → ⊥) → (close_of l).handed ≡ None
  pub out : (close_of l).out ≡ out_by (close_of l).defect (server_in h) (fdi_after (life_of a.kind) (suc (slots h)) (last_fdi h)) a.dl

-- at the limit nothing changes
pub record AtLimit (l : Lsp) : Type 0 where
  pub number : (close_of l).number ≡ 9
  pub unchanged : (close_of l).next ≡ l

-- CV or FFD with the expected TTSI and another type or rate
abbrev pub strange : Added → Answer → List ℕ → Bool
strange a r t = both (either (eqb r.type 0x01) (eqb r.type 0x07)) (both (same t a.ttsi) (not (eqb r.rate a.kind)))

abbrev pub answer_to : Added → List ℕ → Answer
answer_to a p = pick (both (accepts p) (strange a (read_of p) (ttsi_at p))) (refusal 6) (read_of p)

pub record Theorem (a : Added) (s : List Step) : Type 0 where
  pub path : Path a (after (added a) s) (history_of a s)
  pub closing : slots (history_of a s) < limit → Closing a (after (added a) s) (history_of a s)
  pub at_limit : limit ≤ slots (history_of a s) → AtLimit (after (added a) s)
  pub receiving : (p : List ℕ) → (receive_of (after (added a) s) p).0 ≡ answer_to a p
