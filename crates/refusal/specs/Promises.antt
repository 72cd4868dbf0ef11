-- The paper's numbers tell the refusals apart, and none is that of "done"; and two outcomes that meet a call's promise are equal.
-- `proofs/Numbers.antt` proves all of it.
-- Assumes nothing.
use Rattle.std.specs.Prelude.{◌≡◌, ℕ, Result}
use Rattle.refusal.specs.Numbers.{number_of, number_in}
use Rattle.refusal.specs.declared.Refusal.{Refusal}

pub record ByNumber : Type 0 where
  pub refusal : (x y : Refusal) → number_of x ≡ number_of y → x ≡ y
  pub refuses : (r : Refusal) → number_of r ≡ 0 → ⊥

pub record OneOutcome : Type 1 where
  pub from : (r : Refusal) (x y : ℕ) → x ≡ number_of r → y ≡ number_of r → x ≡ y
  pub number : {A : Type 0} (a : Result A Refusal) (x y : ℕ) → x ≡ number_in a → y ≡ number_in a → x ≡ y
