-- `lsp::Lsp::receive` meets its contract: what the count answers of a CV or FFD packet is the step's answer.
-- Assumes nothing.
use mathlib.Core.Path.{ap, sym, ◌∙◌}
use mathlib.Core.List.{List}
use Prim.Native.Nat.{ℕ}
use Rattle.std.specs.Prelude.{Result, Ok}
use Rattle.std.proofs.lemmas.Result.{err_from_is_err_and}
use Rattle.refusal.specs.declared.Refusal.{Refusal}
use Rattle.payload.specs.Reading.{answer_of}
use Rattle.payload.specs.declared.found.Found.{Found}
use Rattle.window.specs.declared.state.State.{State}
use Rattle.lsp.specs.Outcomes.{state_in, answered_in}
use Rattle.lsp.proofs.Receives.{as_cv, as_ffd}
use Rattle.lsp.proofs.path.Lsp.receive.Goals as goal

pub returns-in_err-next-in-Cv : goal.returns-in_err-next-in-Cv
returns-in_err-next-in-Cv c =
    let a = c.args in
    let f = c.in_ok-found.found in
    let q = err_from_is_err_and c.from_residual-in_err-next-in-Cv.result c.from_residual-in_err-next-in-Cv.ensures.1 in
    let r = as_cv a.self a.p.now f c.in-Cv.is c.in_ok-found.ensures _ (ap (λ (x : (ℕ × ℕ) × List ℕ). x.1) c.ttsi_place.ensures) (state_in a.self c.counted.result) c.counted.ensures in
    rw (q.1, q.2) (ap (λ (s : Result State Refusal). answered_in (answer_of (Ok f)) a.self (state_in a.self s)) (sym c.in_err-next-in-Cv.was) ∙ r)

pub returns-in_err-next-in-Ffd : goal.returns-in_err-next-in-Ffd
returns-in_err-next-in-Ffd c =
    let a = c.args in
    let f = c.in_ok-found.found in
    let q = err_from_is_err_and c.from_residual-in_err-next-in-Ffd.result c.from_residual-in_err-next-in-Ffd.ensures.1 in
    let r = as_ffd a.self a.p.now f c.in-Ffd.rate c.in-Ffd.is c.in_ok-found.ensures _ (ap (λ (x : (ℕ × ℕ) × List ℕ). x.1) c.ttsi_place-in-Ffd.ensures) (state_in a.self c.counted-in-Ffd.result) c.counted-in-Ffd.ensures in
    rw (q.1, q.2) (ap (λ (s : Result State Refusal). answered_in (answer_of (Ok f)) a.self (state_in a.self s)) (sym c.in_err-next-in-Ffd.was) ∙ r)

pub returns-in_ok-next-in-Cv : goal.returns-in_ok-next-in-Cv
returns-in_ok-next-in-Cv c =
    let a = c.args in
    let f = c.in_ok-found.found in
    ap (λ (s : Result State Refusal). answered_in (answer_of (Ok f)) a.self (state_in a.self s)) (sym c.in_ok-next-in-Cv.was)
    ∙ as_cv a.self a.p.now f c.in-Cv.is c.in_ok-found.ensures _ (ap (λ (x : (ℕ × ℕ) × List ℕ). x.1) c.ttsi_place.ensures) (state_in a.self c.counted.result) c.counted.ensures

pub returns-in_ok-next-in-Ffd : goal.returns-in_ok-next-in-Ffd
returns-in_ok-next-in-Ffd c =
    let a = c.args in
    let f = c.in_ok-found.found in
    ap (λ (g : Found). answered_in (answer_of (Ok g)) a.self (state_in a.self (Ok c.in_ok-next-in-Ffd.field-0))) (sym c.in-Ffd.is)
    ∙ ap (λ (s : Result State Refusal). answered_in (answer_of (Ok f)) a.self (state_in a.self s)) (sym c.in_ok-next-in-Ffd.was)
    ∙ as_ffd a.self a.p.now f c.in-Ffd.rate c.in-Ffd.is c.in_ok-found.ensures _ (ap (λ (x : (ℕ × ℕ) × List ℕ). x.1) c.ttsi_place-in-Ffd.ensures) (state_in a.self c.counted-in-Ffd.result) c.counted-in-Ffd.ensures
