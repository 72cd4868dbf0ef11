-- What is printed for the examples (`specs/Examples.antt`), computed. Assumes nothing.
use mathlib.Core.Path.{◌≡◌, refl}
use mathlib.Core.List.{◌++◌}
use Rattle.payload.specs.Layout.{run}
use Rattle.payload.specs.Reading.{read_of}
use Rattle.rules.specs.Machine.{total, last_of, judge, verdict, calm, long_enough, turn}
use Rattle.octets.specs.Number.{octets, number_from}
use Rattle.lsp.specs.Steps as lsp
use Rattle.lsp.specs.Steps.{same}
use Rattle.table.specs.Steps.{expected_in, add_of, receive_of, close_of}
use Rattle.events.specs.Framing.{frame_of}
use Rattle.events.specs.Lines.{spelt}
use Rattle.events.specs.Event.{told_of}
use Rattle.events.specs.Printed.{ran_of, printed_from, printed}
use Rattle.events.specs.Examples.{text, adds, heard, silent, Examples}

program : printed (adds 0 ++ (heard 3 ++ (silent 17 ++ heard 9))) ≡ text "0 U 4 20\nend 42\n"
unfolding run read_of total last_of judge verdict calm long_enough turn octets number_from lsp.receive_of lsp.close_of same expected_in add_of receive_of close_of frame_of spelt told_of ran_of printed_from
program = refl

pub examples : Examples
unfolding octets number_from run read_of lsp.receive_of lsp.close_of same expected_in add_of receive_of close_of frame_of spelt told_of ran_of printed_from
examples =
    record {
      nothing = refl;
      closes = refl;
      cut = refl;
      tag = refl;
      long_close = refl;
      short_packet = refl;
      long_packet = refl;
      signal = refl;
      empty_packet = refl;
      again = refl;
      kind = refl;
      program = program;
    }
