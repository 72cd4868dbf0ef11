-- A line built from its end: a number before it. Assumes nothing.
use mathlib.Core.List.{List, ◌∷◌, ◌++◌, append_assoc}
use mathlib.Core.Path.{◌≡◌, refl, sym, ap, ◌∙◌}
use native.Mathlib.Nat.{pow-suc}
use native.Mathlib.Omega.{arith}
use Prim.Native.Nat.{ℕ, zero, suc, ◌+◌, ◌/◌, ◌%◌, ◌^◌, ◌≤◌, ◌<◌}
use Rattle.events.proofs.Decimal.{few, many}
use Rattle.events.specs.Lines.{spelt, decimal}
use Rattle.events.specs.Building.{text_of}
use Rattle.events.specs.declared.lines.Line.{Line}

-- a number n before the text t: what is left to spell in k digits, and the text so far
pub record Spelling (n : ℕ) (before now : Line) (rest : ℕ) : Type 0 where
  pub digits : ℕ
  pub place : now.from + 20 ≡ before.from + digits
  pub few : digits ≤ 20
  pub some : 1 ≤ digits
  pub small : rest < 10 ^ digits
  pub text : decimal n ++ text_of before ≡ spelt digits rest ++ text_of now

pub spelling : (n : ℕ) (l : Line) → n < 0x1_0000_0000_0000_0000 → Spelling n l l n
spelling n l h = record { digits = 20; place = refl; few = omega arith; some = omega arith; small = omega (arith, h); text = refl }

module _ {n rest : ℕ} {before now : Line} (next : Line) (p : Spelling n before now rest) (there : next.from + 1 ≡ now.from) where
  pub digit : 10 ≤ rest → text_of next ≡ (48 + rest % 10) ∷ text_of now → Spelling n before next (rest / 10)
  digit h e = go p.digits p.place p.few p.small p.text
    where
      go : (k : ℕ) → now.from + 20 ≡ before.from + k → k ≤ 20 → rest < 10 ^ k → decimal n ++ text_of before ≡ spelt k rest ++ text_of now
          → Spelling n before next (rest / 10)
      go zero a b s t = absurd (omega (arith, h, s))
      go (suc zero) a b s t = absurd (omega (arith, h, s))
      go (suc (suc k)) a b s t = record {
        digits = suc k;
        place = omega (arith, a, there);
        few = omega (arith, b);
        some = omega arith;
        small = omega (arith, s, pow-suc 10 (suc k));
        text = t ∙ rw (many (suc k) rest h, append_assoc) (ap (λ (x : List ℕ). spelt (suc k) (rest / 10) ++ x) (sym e));
      }

  pub last_digit : rest < 10 → text_of next ≡ (48 + rest) ∷ text_of now → text_of next ≡ decimal n ++ text_of before
  last_digit h e = go p.digits p.some p.text
    where
      go : (k : ℕ) → 1 ≤ k → decimal n ++ text_of before ≡ spelt k rest ++ text_of now → text_of next ≡ decimal n ++ text_of before
      go zero s t = absurd (omega (arith, s))
      go (suc k) s t = e ∙ sym (t ∙ ap (λ (x : List ℕ). x ++ text_of now) (few k rest h))
