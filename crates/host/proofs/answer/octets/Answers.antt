-- `host::answer::octets` meets its contract. Assumes nothing.
use mathlib.Core.Path.{◌≡◌, refl, ap, ◌∙◌}
use mathlib.Core.Bool.{Bool, true, false}
use mathlib.Core.List.{[], ◌∷◌, ◌++◌}
use Prim.Native.Nat.{ℕ, ◌%◌}
use lib.ListN.{replicate}
use borrow.Rule.Slice.PartMut.{put_mid}
use Rattle.std.specs.Prelude.{Option, Some, None}
use Rattle.std.specs.Int.{from_bool}
use Rattle.octets.specs.Number.{octets}
use Rattle.octets.proofs.Laws.{octets_be}
use Rattle.window.specs.View.{record_of}
use Rattle.window.specs.declared.state.Record.{Record}
use Rattle.window.specs.declared.state.Record.TheVariants.{U, B}
use Rattle.field.specs.Field.{server_of}
use Rattle.host.proofs.answer.octets.Goals as goal

flag : (b : Bool) → from_bool b ≡ server_of b % 256
flag true = refl
flag false = refl

kind : (r : Option Record) → (record_of r).0 ≡ (record_of r).0 % 256
kind None = refl
kind (Some (U from until)) = refl
kind (Some (B from until)) = refl

pub returns : goal.returns
unfolding octets
returns c =
    let out = c.args.closed.out in
    let record-is = c.record_of-record.ensures in
    let code = c.copy_from_slice.ensures.after ∙ c.to_be_bytes.ensures ∙ octets_be 2 c.code.result ∙ ap (octets 2) c.code.ensures in
    let dt = c.copy_from_slice-2.ensures.after ∙ c.to_be_bytes-2.ensures ∙ octets_be 2 out.dt in
    let dl = c.copy_from_slice-3.ensures.after ∙ c.to_be_bytes-3.ensures ∙ octets_be 4 out.dl in
    let alarm = c.from.ensures ∙ flag out.alarm in
    let suppression = c.from-2.ensures ∙ flag out.suppression in
    let kind-is = ap (λ (r : ℕ × (ℕ × ℕ)). r.0) record-is ∙ kind c.args.closed.handed in
    let flags = c.copy_from_slice-4.ensures.after ∙ (λ i. alarm i ∷ suppression i ∷ kind-is i ∷ []) in
    let from = c.copy_from_slice-5.ensures.after ∙ c.to_be_bytes-4.ensures ∙ octets_be 8 c.record_of-record.result.1.0 ∙ ap (λ (r : ℕ × (ℕ × ℕ)). octets 8 r.1.0) record-is in
    let until = c.copy_from_slice-6.ensures.after ∙ c.to_be_bytes-5.ensures ∙ octets_be 8 c.record_of-record.result.1.1 ∙ ap (λ (r : ℕ × (ℕ × ℕ)). octets 8 r.1.1) record-is in
    λ i. put_mid 19 8 (put_mid 11 8 (put_mid 8 3 (put_mid 4 4 (put_mid 2 2 (code i ++ replicate 25 0) (dt i)) (dl i)) (flags i)) (from i)) (until i)
