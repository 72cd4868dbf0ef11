use mathlib.Core.List.{[], map}
use mathlib.Core.Path.{◌≡◌}
use lib.ListN.{length, take, drop}
use Rattle.field.specs.Field.{ttsi_in}
use Rattle.image.specs.Image.{all_fields}
use Rattle.image.proofs.Marked.{Marked}
use Rattle.image.proofs.fields.are_fields.Given as goal

abbrev pub invariant-loop-i : goal.invariant-loop-i
invariant-loop-i l =
    (length l.marks ≡ 512) × Marked l.marks (map ttsi_in (take l.i l.fields))
    × (all_fields (map ttsi_in (take l.i l.fields)) (drop l.i l.fields) ≡ all_fields [] l.fields)
