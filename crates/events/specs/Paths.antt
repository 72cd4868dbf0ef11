-- An event on the path that it names: the path's step; and when a close only moves the rows on.
-- Assumes nothing.
use Rattle.std.specs.Prelude.{ℕ, Bool, true, false, List, None, eqb, drop}
use Rattle.payload.specs.Test.{both}
use Rattle.octets.specs.Parts.{octet_at}
use Rattle.window.specs.Steady.{is_steady, moved_on}
use Rattle.lsp.specs.Steps.{receive_of, close_of, server_of, with_state}
use Rattle.lsp.specs.declared.path.Lsp.{Lsp}
use Rattle.events.specs.Event.{tag_in}
use Rattle.events.specs.Outcomes.{Stepped}

abbrev pub received : Lsp → List ℕ → Stepped
received l p = record { number = (receive_of l p).0.number; handed = None; next = (receive_of l p).1 }

abbrev pub closed : Lsp → Stepped
closed l = record { number = (close_of l).number; handed = (close_of l).handed; next = (close_of l).next }

abbrev pub signalled : Lsp → ℕ → Stepped
signalled l v = record { number = (server_of l v).number; handed = None; next = (server_of l v).next }

abbrev pub step_by : (packet close : Bool) → Lsp → List ℕ → Stepped
step_by true close l f = received l (drop 4 f)
step_by false true l f = closed l
step_by false false l f = signalled l (octet_at f 4)

-- a packet, a close or a server signal, by the field's octets
unfoldable pub step_of : Lsp → List ℕ → Stepped
step_of l f = step_by (eqb (tag_in f) 0x12) (eqb (tag_in f) 0x13) l f

-- the close moves the rows on, and no FDI is there to fade
abbrev pub quiet : Lsp → Bool
quiet l = both (eqb l.fdi.left 0) (both (eqb l.fdi.dt 0) (both (eqb l.fdi.dl 0) (is_steady l.state)))

abbrev pub moved : Lsp → Lsp
moved l = with_state l (moved_on l.state)
