-- Two outcomes that meet a promise are equal. Assumes nothing.
use Rattle.std.proofs.Common.{◌≡◌, refl, ap, ap₂, sym, ◌∙◌, arith, Result, Ok, Err}
use Rattle.std.proofs.lemmas.Grind.{common_steps}
use Rattle.refusal.specs.declared.Refusal.{Refusal}
use Rattle.refusal.proofs.Numbers.{same_refusal, same_written}
use Rattle.payload.specs.Reading.{Answer, answer_of}
use Rattle.payload.specs.declared.found.Found.{Found}
use Rattle.payload.proofs.Promises.{one, same_answer}
use Rattle.lsp.specs.Promises.{OneOutcome}
use Rattle.lsp.specs.Outcomes.{ClosedHere, signalled_in, received_in, closed_in, here_in}
use Rattle.lsp.specs.declared.path.Lsp.{Lsp}
use Rattle.lsp.specs.declared.close.Closed.{Closed}

one_signalled : (l : Lsp) (x y : Result Lsp Refusal) → signalled_in l x ≡ signalled_in l y → x ≡ y
one_signalled l x y e = grind (arith, common_steps, same_refusal)

one_closed : (l : Lsp) (x y : Result (Closed × Lsp) Refusal) → closed_in l x ≡ closed_in l y → x ≡ y
one_closed l x y e = grind (arith, common_steps, same_refusal)

one_here : (x y : Result Closed Refusal × Lsp) → ◌≡◌ {A = ClosedHere × Lsp} (here_in x.0, x.1) (here_in y.0, y.1) → x ≡ y
one_here x y e = grind (arith, common_steps, same_refusal)

-- what the reader found, and beside it what the packet was received on: `shows` is a path's or a table's answer in the paper's numbers
module _ {S : Type 0} (s : S) (shows : S → Result (Found × S) Refusal → Answer × S)
    (done : (f : Found) (next : S) → shows s (Ok (f, next)) ≡ (answer_of (Ok f), next)) (none : (r : Refusal) → shows s (Err r) ≡ (answer_of (Err r), s)) where
  found : Result (Found × S) Refusal → Result Found Refusal
  found (Ok (f, next)) = Ok f
  found (Err r) = Err r

  beside : Result Found Refusal → S → Result (Found × S) Refusal
  beside (Ok f) next = Ok (f, next)
  beside (Err r) next = Err r

  answered : (x : Result (Found × S) Refusal) → (shows s x).0 ≡ answer_of (found x)
  unfolding found
  answered (Ok (f, next)) = ap (λ (w : Answer × S). w.0) (done f next)
  answered (Err r) = ap (λ (w : Answer × S). w.0) (none r)

  whole : (x : Result (Found × S) Refusal) → beside (found x) (shows s x).1 ≡ x
  unfolding found beside
  whole (Ok (f, next)) = ap (λ (w : Answer × S). beside (Ok f) w.1) (done f next)
  whole (Err r) = refl

  pub same_beside : (x y : Result (Found × S) Refusal) → shows s x ≡ shows s y → x ≡ y
  same_beside x y e =
      sym (whole x)
      ∙ ap₂ beside (same_answer (found x) (found y) (sym (answered x) ∙ ap (λ (w : Answer × S). w.0) e ∙ answered y)) (ap (λ (w : Answer × S). w.1) e)
      ∙ whole y

pub one_outcome : OneOutcome
one_outcome =
    record {
      new = λ kind ttsi dl. one _;
      server = λ l v x y p q. one_signalled l x y (p ∙ sym q);
      receive = λ l p x y a b. same_beside l received_in (λ f n. refl) (λ r. refl) x y (a ∙ sym b);
      out = λ l. one _;
      close = λ l x y p q. one_closed l x y (p ∙ sym q);
      close_in_place = λ l x y p q. one_here x y (p ∙ sym q);
      write_fdi = λ l b x y p q. same_written x y (p ∙ sym q);
      write_bdi = λ l b x y p q. same_written x y (p ∙ sym q);
      expects = λ l t. one _;
      is_sound = λ l. one _;
      row_holds = λ cut closed row. one _;
      code_holds = λ d stood. one _;
      stood_holds = λ closed stood. one _;
      availability_holds = λ kind closed stood a. one _;
      fdi_holds = λ kind f. one _;
    }
