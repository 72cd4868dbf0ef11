-- Two outcomes that meet a promise are equal. Assumes nothing.
use Rattle.std.proofs.Common.{◌≡◌, refl, sym, ◌∙◌, arith, ℕ, Result}
use Rattle.std.proofs.lemmas.Grind.{common_steps}
use Rattle.refusal.specs.declared.Refusal.{Refusal}
use Rattle.refusal.proofs.Numbers.{same_refusal, same_written}
use Rattle.payload.proofs.Promises.{one}
use Rattle.lsp.specs.declared.close.Closed.{Closed}
use Rattle.lsp.proofs.Promises.{same_beside}
use Rattle.table.specs.Promises.{OneOutcome}
use Rattle.table.specs.Outcomes.{added_in, received_in, closed_in, signalled_in}
use Rattle.table.specs.declared.paths.Table.{Table}

one_added : (t : Table) (x y : Result (ℕ × Table) Refusal) → added_in t x ≡ added_in t y → x ≡ y
one_added t x y e = grind (arith, common_steps, same_refusal)

one_closed : (t : Table) (x y : Result (Closed × Table) Refusal) → closed_in t x ≡ closed_in t y → x ≡ y
one_closed t x y e = grind (arith, common_steps, same_refusal)

one_signalled : (t : Table) (x y : Result Table Refusal) → signalled_in t x ≡ signalled_in t y → x ≡ y
one_signalled t x y e = grind (arith, common_steps, same_refusal)

pub one_outcome : OneOutcome
one_outcome =
    record {
      empty_table = one _;
      present = λ t. one _;
      add = λ t kind ttsi dl x y p q. one_added t x y (p ∙ sym q);
      receive = λ t i p x y a b. same_beside t received_in (λ f n. refl) (λ r. refl) x y (a ∙ sym b);
      close = λ t i x y p q. one_closed t x y (p ∙ sym q);
      server = λ t i v x y p q. one_signalled t x y (p ∙ sym q);
      write_fdi = λ t i b x y p q. same_written x y (p ∙ sym q);
      write_bdi = λ t i b x y p q. same_written x y (p ∙ sym q);
    }
