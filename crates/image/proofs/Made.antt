-- A table made by calls obeys the rules, and what saving wrote of it restores to it (`specs/Law.antt`). Assumes nothing.
use mathlib.Core.Path.{◌≡◌, refl, ap}
use mathlib.Core.Bool.{Bool, true, false}
use mathlib.Core.List.{List}
use Prim.Native.Nat.{ℕ}
use native.Mathlib.Omega.{arith}
use Rattle.payload.specs.Law.{Octets}
use Rattle.table.specs.Steps.{empty}
use Rattle.table.specs.Lawful.{Lawful}
use Rattle.table.specs.declared.paths.Table.{Table}
use Rattle.table.proofs.Lawful.{lawful_kept}
use Rattle.image.specs.Image.{is_image, table_of, restore_by, restore_of}
use Rattle.image.specs.Law.{Typed, Made, none, add, receive, close, server, restore, MadeComesBack}
use Rattle.image.proofs.Law.{image_law, comes_back}
use Rattle.image.proofs.Typed.{add_kept, receive_kept, close_kept, server_kept}

-- it obeys the rules of a table, and the code's types hold its numbers
abbrev Well : Table → Type 0
Well t = Lawful t × Typed t

empty_well : Well empty
empty_well = (lawful_kept.fresh, λ i h. absurd (omega arith))

restored_well : (im : List ℕ) → Octets im → Well (restore_of im).table
restored_well im o = go (is_image im) refl
  where
    go : (b : Bool) → is_image im ≡ b → Well (restore_by b (table_of im)).table
    go true e = let h = (image_law.law im (table_of im) o).0 (ap (λ (b : Bool). restore_by b (table_of im)) e) in (h.0, h.1)
    go false e = empty_well

well : {t : Table} → Made t → Well t
well none = empty_well
well (add {t} kind ttsi dl o h m) =
    let w = well m in
    (lawful_kept.add t kind ttsi dl w.0, add_kept t w.0 w.1 kind ttsi dl o h)
well (receive {t} i p o m) =
    let w = well m in
    (lawful_kept.receive t i p w.0, receive_kept t w.0 w.1 i p o)
well (close {t} i m) =
    let w = well m in
    (lawful_kept.close t i w.0, close_kept t w.0 w.1 i)
well (server {t} i v m) =
    let w = well m in
    (lawful_kept.server t i v w.0, server_kept t w.0 w.1 i v)
well (restore im o) = restored_well im o

pub made_comes_back : MadeComesBack
made_comes_back =
    record {
      lawful = λ t m. (well m).0;
      typed = λ t m. (well m).1;
      back = λ t m. comes_back t (well m).0 (well m).1;
    }
