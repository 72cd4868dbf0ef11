-- What each step of a path answers and leaves.
-- Assumes nothing.
use Rattle.std.specs.Prelude.{ℕ, ◌+◌, ◌-◌, Bool, true, false, List, [], ◌∷◌, eqb, leb, replicate}
use Rattle.payload.specs.Test.{pick, both}
use Rattle.payload.specs.Rates.{life_of}
use Rattle.payload.specs.Writing.{write_of}
use Rattle.payload.specs.Reading.{Answer, refusal, read_of, accepts, ttsi_at}
use Rattle.rules.specs.Machine.{fresh, receive}
use Rattle.window.specs.View.{view, state_out, packet_of, standing, code_of, turned_of}
use Rattle.window.specs.declared.state.Defect.{Defect}
use Rattle.window.specs.declared.state.Defect.TheVariants.{Clear, Mismatch, Mismerge, Locv, Excess}
use Rattle.std.specs.Prelude.{None}
use Rattle.window.specs.declared.state.State.{State}
use Rattle.window.specs.Outcomes.{Turned}
use Rattle.lsp.specs.declared.path.Fdi.{Fdi}
use Rattle.lsp.specs.declared.path.Lsp.{Lsp}
use Rattle.lsp.specs.Outcomes.{Signalled}
use Rattle.lsp.specs.declared.close.Out.{Out}
use Rattle.lsp.specs.Outcomes.{Closed}

-- ---- a new path, and a path with one part changed

abbrev pub gone : Fdi
gone = record { left = 0; dt = 0; dl = 0 }

abbrev pub new_of : ℕ → List ℕ → ℕ → Lsp
new_of kind ttsi dl = record { kind = kind; ttsi = ttsi; dl = dl; state = state_out fresh; server = false; fdi = gone }

abbrev pub with_state : Lsp → State → Lsp
with_state l s = record { kind = l.kind; ttsi = l.ttsi; dl = l.dl; state = s; server = l.server; fdi = l.fdi }

abbrev pub with_server : Lsp → Bool → Lsp
with_server l b = record { kind = l.kind; ttsi = l.ttsi; dl = l.dl; state = l.state; server = b; fdi = l.fdi }

abbrev pub with_fdi : Lsp → Fdi → Lsp
with_fdi l f = record { kind = l.kind; ttsi = l.ttsi; dl = l.dl; state = l.state; server = l.server; fdi = f }

-- ---- receiving: the answer, and the path afterwards

unfoldable pub same : List ℕ → List ℕ → Bool
same [] [] = true
same [] (y ∷ ys) = false
same (x ∷ xs) [] = false
same (x ∷ xs) (y ∷ ys) = both (eqb x y) (same xs ys)

abbrev pub counts : Lsp → Bool → Lsp
counts l expected = with_state l (state_out (receive (packet_of expected) (view l.state)))

-- a CV or FFD packet: own says that it has the expected TTSI, rate that it is of the path's own type and rate
abbrev pub counted_by : (own rate : Bool) → Lsp → Answer → Answer × Lsp
counted_by true true l a = (a, counts l true)
counted_by true false l a = (refusal 6, l)
counted_by false rate l a = (a, counts l false)

-- a CV has rate 0, and a path's kind is 0 or its rate
abbrev pub counted_of : Lsp → Answer → List ℕ → Answer × Lsp
counted_of l a t = counted_by (same t l.ttsi) (eqb a.rate l.kind) l a

-- an FDI replaces the one before it
abbrev pub told_of : Lsp → ℕ → ℕ → Lsp
told_of l dt dl = with_fdi l (record { left = life_of l.kind + 1; dt = dt; dl = dl })

-- by whether it is an FDI or a BDI, which changes nothing
abbrev pub taken_by : (fdi bdi : Bool) → Lsp → Answer → List ℕ → Answer × Lsp
taken_by true bdi l a t = (a, told_of l a.dt a.dl)
taken_by false true l a t = (a, l)
taken_by false false l a t = counted_of l a t

abbrev pub taken_of : Lsp → Answer → List ℕ → Answer × Lsp
taken_of l a t = taken_by (eqb a.type 0x02) (eqb a.type 0x03) l a t

-- what the reader refuses changes nothing
abbrev pub receive_by : (accepted : Bool) → Lsp → Answer → List ℕ → Answer × Lsp
receive_by true l a t = taken_of l a t
receive_by false l a t = (a, l)

unfoldable pub receive_of : Lsp → List ℕ → Answer × Lsp
receive_of l p = receive_by (accepts p) l (read_of p) (ttsi_at p)

-- ---- the server signal

abbrev pub server_of : Lsp → ℕ → Signalled
server_of l v = pick (leb v 1) (record { number = 0; next = with_server l (eqb v 1) }) (record { number = 12; next = l })

-- ---- what goes out

abbrev pub out_is : ℕ → ℕ → Bool → Bool → Out
out_is dt dl alarm suppression = record { dt = dt; dl = dl; alarm = alarm; suppression = suppression }

-- by the server signal, the FDI and the local DL. LOCV: the server's, else that of the FDI that stands, else its own, which alone is an alarm
abbrev pub locv_out : Bool → Fdi → ℕ → Out
locv_out server f dl =
    pick server (out_is 0x0101 dl false false) (pick (leb 1 f.left) (out_is f.dt f.dl false false) (out_is (code_of Locv) dl true false))

abbrev pub out_by : Defect → Bool → Fdi → ℕ → Out
out_by Clear server f dl = out_is 0 0 false false
out_by Locv server f dl = locv_out server f dl
out_by Mismatch server f dl = out_is (code_of Mismatch) dl true true
out_by Mismerge server f dl = out_is (code_of Mismerge) dl true true
out_by Excess server f dl = out_is (code_of Excess) dl true false

abbrev pub locv_out_of : Lsp → Out
locv_out_of l = locv_out l.server l.fdi l.dl

abbrev pub out_of : Lsp → Out
out_of l = out_by l.state.defect l.server l.fdi l.dl

-- ---- the close

-- an FDI with one close less
abbrev pub faded_of : Fdi → Fdi
faded_of f = pick (leb f.left 1) gone (record { left = f.left - 1; dt = f.dt; dl = f.dl })

abbrev pub is_cv : Lsp → Bool
is_cv l = eqb l.kind 0

abbrev pub after_close : Lsp → State → Lsp
after_close l s = with_fdi (with_state l s) (faded_of l.fdi)

-- of what the window's close answers: a refusal carries its number, all else zero, and changes nothing
abbrev pub closed_of : Lsp → Turned → Closed
closed_of l t =
    pick (eqb t.number 0)
    (record {
      number = 0;
      defect = t.state.defect;
      out = out_of (after_close l t.state);
      handed = t.handed;
      next = after_close l t.state;
    })
    (record { number = t.number; defect = Clear; out = out_is 0 0 false false; handed = None; next = l })

unfoldable pub close_of : Lsp → Closed
close_of l = closed_of l (turned_of (is_cv l) l.state)

-- ---- FDI (type 02) and BDI (type 03), with no TTSI: the number, and the lent octets b afterwards

abbrev pub write_row_of : ℕ → Lsp → List ℕ → ℕ × List ℕ
write_row_of ty l b =
    pick (standing l.state.defect) (write_of ty (replicate 20 0) 0 (out_of l).dt (out_of l).dl b) (13, b)
