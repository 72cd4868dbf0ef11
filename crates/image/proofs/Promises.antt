-- Two outcomes that meet a promise are equal. Assumes nothing.
use Rattle.std.proofs.Common.{◌≡◌, ap, sym, ◌∙◌, Result, Ok, Err}
use Rattle.refusal.specs.declared.Refusal.{Refusal}
use Rattle.refusal.proofs.Numbers.{same_refusal, same_written, refuses}
use Rattle.payload.proofs.Promises.{one}
use Rattle.table.specs.declared.paths.Table.{Table}
use Rattle.image.specs.Outcomes.{Restored, restored_in}
use Rattle.image.specs.Promises.{OneOutcome}

one_restored : (x y : Result Table Refusal) → restored_in x ≡ restored_in y → x ≡ y
one_restored (Ok t) (Ok u) e = ap (λ (r : Restored). Ok r.table) e
one_restored (Ok t) (Err r) e = absurd (refuses r (ap (λ (r : Restored). r.number) (sym e)))
one_restored (Err r) (Ok t) e = absurd (refuses r (ap (λ (r : Restored). r.number) e))
one_restored (Err r) (Err s) e = ap Err (same_refusal r s (ap (λ (r : Restored). r.number) e))

pub one_outcome : OneOutcome
one_outcome =
    record {
      size = λ t. one _;
      save = λ t b x y p q. same_written x y (p ∙ sym q);
      begins = λ s. one _;
      restore = λ im x y p q. one_restored x y (p ∙ sym q);
      same_octets = λ a b. one _;
    }
