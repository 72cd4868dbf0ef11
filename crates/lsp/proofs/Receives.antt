-- A CV or FFD packet received, by what the reader answers. Assumes nothing.
use mathlib.Core.Path.{◌≡◌, refl, ap, sym, subst, ◌∙◌}
use mathlib.Core.Bool.{true, false}
use mathlib.Core.List.{List}
use Prim.Native.Nat.{ℕ}
use lib.Dec.{eqb}
use borrow.Author.Tests.{eq-eqb}
use Rattle.std.specs.Prelude.{Result, Ok}
use Rattle.refusal.specs.declared.Refusal.{Refusal}
use Rattle.payload.specs.declared.found.Found.{Found}
use Rattle.payload.specs.declared.found.Found.TheVariants.{Cv, Ffd}
use Rattle.payload.specs.Reading.{Answer, answer_of, read_of, accepts, ttsi_at, place_at}
use Rattle.payload.proofs.Answers.{place_holds}
use Rattle.lsp.specs.Outcomes.{answered_in}
use Rattle.lsp.specs.Steps.{counted_of, receive_by, receive_of}
use Rattle.lsp.specs.declared.path.Lsp.{Lsp}

module _ (l : Lsp) (p : List ℕ) where
  pub counted_as : (a : Answer) → a ≡ read_of p → a.number ≡ 0 → eqb a.type 0x02 ≡ false → eqb a.type 0x03 ≡ false
      → (t : List ℕ) → t ≡ place_at p → (x : Answer × Lsp) → x ≡ counted_of l a t → x ≡ receive_of l p
  unfolding receive_of
  counted_as a e z m n t h x k =
      let y : accepts p ≡ true = eq-eqb _ _ (ap (λ (b : Answer). b.number) (sym e) ∙ z) in
      k ∙ ap (counted_of l a) (h ∙ place_holds p a e z) ∙ go (read_of p) e y
    where
      go : (b : Answer) → a ≡ b → accepts p ≡ true → counted_of l a (ttsi_at p) ≡ receive_by (accepts p) l b (ttsi_at p)
      go b q y = rw (sym q, y, m, n) refl

  -- r is what the count answers of a packet of the kind k, t where its TTSI lies
  abbrev Counts : ℕ → List ℕ → Result Lsp Refusal → Type 0
  Counts k t r = (a : Answer) → a.rate ≡ k → answered_in a l r ≡ counted_of l a t

  abbrev As : Found → ℕ → Type 0
  As f k = answer_of (Ok f) ≡ read_of p → (t : List ℕ) → t ≡ place_at p → (r : Result Lsp Refusal) → Counts k t r
      → answered_in (answer_of (Ok f)) l r ≡ receive_of l p

  pub as_cv : (f : Found) → f ≡ Cv → As f 0
  as_cv f q = subst (λ (g : Found). As g 0) (sym q) (λ e t h r s. counted_as (answer_of (Ok Cv)) e refl refl refl t h _ (s _ refl))

  pub as_ffd : (f : Found) (k : ℕ) → f ≡ Ffd k → As f k
  as_ffd f k q = subst (λ (g : Found). As g k) (sym q) (λ e t h r s. counted_as (answer_of (Ok (Ffd k))) e refl refl refl t h _ (s _ refl))
