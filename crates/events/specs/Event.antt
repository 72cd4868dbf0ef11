-- What an event answers, hands out and leaves: the table's own calls.
-- Assumes nothing.
use Rattle.std.specs.Prelude.{ℕ, Bool, true, false, List, Option, None, eqb, drop}
use Rattle.octets.specs.Parts.{part, number_at, octet_at}
use Rattle.window.specs.declared.state.Record.{Record}
use Rattle.table.specs.Steps.{add_of, receive_of, close_of, server_of}
use Rattle.table.specs.declared.paths.Table.{Table}

pub record Told : Type 0 where
  pub number : ℕ
  pub handed : Option Record
  pub next : Table

-- a whole field's octets: the tag at 0, then the length, and from 3 on the LSP, or the kind of an add
abbrev pub tag_in : List ℕ → ℕ
tag_in f = octet_at f 0

abbrev pub lsp_in : List ℕ → ℕ
lsp_in f = octet_at f 3

abbrev pub add_told : Table → List ℕ → Told
add_told t f =
    record {
      number = (add_of t (octet_at f 3) (part f 4 20) (number_at f 24 4)).number;
      handed = None;
      next = (add_of t (octet_at f 3) (part f 4 20) (number_at f 24 4)).next;
    }

abbrev pub packet_told : Table → List ℕ → Told
packet_told t f =
    record { number = (receive_of t (lsp_in f) (drop 4 f)).0.number; handed = None; next = (receive_of t (lsp_in f) (drop 4 f)).1 }

abbrev pub close_told : Table → List ℕ → Told
close_told t f = record { number = (close_of t (lsp_in f)).number; handed = (close_of t (lsp_in f)).handed; next = (close_of t (lsp_in f)).next }

abbrev pub server_told : Table → List ℕ → Told
server_told t f =
    record { number = (server_of t (lsp_in f) (octet_at f 4)).number; handed = None; next = (server_of t (lsp_in f) (octet_at f 4)).next }

abbrev pub told_by : (add packet close : Bool) → Table → List ℕ → Told
told_by true packet close t f = add_told t f
told_by false true close t f = packet_told t f
told_by false false true t f = close_told t f
told_by false false false t f = server_told t f

unfoldable pub told_of : Table → List ℕ → Told
told_of t f = told_by (eqb (tag_in f) 0x11) (eqb (tag_in f) 0x12) (eqb (tag_in f) 0x13) t f
