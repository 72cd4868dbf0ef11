-- `field::writing::write` meets its contract. Assumes nothing.
use borrow.Author.Rules.{rules}
use mathlib.Core.Path.{◌≡◌, refl, ap, ◌∙◌}
use mathlib.Core.List.{[], ◌∷◌}
use Prim.Native.Nat.{ℕ}
use native.Mathlib.Omega.{arith}
use lib.ListN.{length}
use lib.Seq.{length-take-le}
use Rattle.octets.specs.Number.{octets}
use Rattle.octets.proofs.Laws.{octets_be}
use Rattle.octets.proofs.Parts.{Lays, done, next}
use Rattle.field.proofs.Laid.{on_is, written}
use Rattle.field.proofs.writing.write.Goals as goal

pub returns : goal.returns
returns c =
    let l = c.args.l in
    let b = c.args.s.now in
    let s = c.in-Some.field.now in
    let first = c.in-Some.ensures.cases in
    let u = c.unavailable_of-unavailable.ensures in
    let dl : c.to_be_bytes.result ≡ octets 4 l.dl = c.to_be_bytes.ensures ∙ octets_be 4 l.dl in
    let closed = c.to_be_bytes-2.ensures ∙ octets_be 8 l.state.closed in
    let code = c.to_be_bytes-3.ensures ∙ octets_be 2 c.code.result ∙ ap (octets 2) c.code.ensures in
    let since = c.to_be_bytes-4.ensures ∙ octets_be 8 c.unavailable_of-unavailable.result.1 ∙ ap (λ (p : ℕ × ℕ). octets 8 p.1) u in
    let left = c.to_be_bytes-5.ensures ∙ octets_be 2 l.fdi.left in
    let dt = c.to_be_bytes-6.ensures ∙ octets_be 2 l.fdi.dt in
    let far = c.to_be_bytes-7.ensures ∙ octets_be 4 l.fdi.dl in
    let of-ttsi : length l.ttsi ≡ 20 = search rules in
    let of-e : length l.state.e ≡ 11 = search rules in
    let of-u : length l.state.u ≡ 11 = search rules in
    let of-dl : length c.to_be_bytes.result ≡ 4 = ap length c.to_be_bytes.ensures in
    let of-closed : length c.to_be_bytes-2.result ≡ 8 = ap length c.to_be_bytes-2.ensures in
    let of-code : length c.to_be_bytes-3.result ≡ 2 = ap length c.to_be_bytes-3.ensures in
    let of-since : length c.to_be_bytes-4.result ≡ 8 = ap length c.to_be_bytes-4.ensures in
    let of-left : length c.to_be_bytes-5.result ≡ 2 = ap length c.to_be_bytes-5.ensures in
    let of-dt : length c.to_be_bytes-6.result ≡ 2 = ap length c.to_be_bytes-6.ensures in
    let of-far : length c.to_be_bytes-7.result ≡ 4 = ap length c.to_be_bytes-7.ensures in
    let on = c.from.ensures ∙ on_is l.server in
    let all : Lays s 0 ((2 ∷ 0 ∷ 76 ∷ []) ∷ (l.kind ∷ []) ∷ l.ttsi ∷ c.to_be_bytes.result ∷ c.to_be_bytes-2.result ∷ l.state.e ∷ l.state.u
    ∷ c.to_be_bytes-3.result ∷ (l.state.stood ∷ []) ∷ (c.unavailable_of-unavailable.result.0 ∷ []) ∷ c.to_be_bytes-4.result
    ∷ (c.from.result ∷ []) ∷ c.to_be_bytes-5.result ∷ c.to_be_bytes-6.result ∷ c.to_be_bytes-7.result ∷ []) c.put-15.new.s =
    next 0 3 _ c.put.ensures refl (next 3 4 _ c.put-2.ensures refl (next 4 24 _ c.put-3.ensures (omega arith)
    (next 24 28 _ c.put-4.ensures (omega arith) (next 28 36 _ c.put-5.ensures (omega arith) (next 36 47 _ c.put-6.ensures (omega arith)
    (next 47 58 _ c.put-7.ensures (omega arith) (next 58 60 _ c.put-8.ensures (omega arith) (next 60 61 _ c.put-9.ensures refl
    (next 61 62 _ c.put-10.ensures refl (next 62 70 _ c.put-11.ensures (omega arith) (next 70 71 _ c.put-12.ensures refl
    (next 71 73 _ c.put-13.ensures (omega arith) (next 73 75 _ c.put-14.ensures (omega arith)
    (next 75 79 _ c.put-15.ensures (omega arith) done)))))))))))))) in
    written l b first.enough (ap length first.same ∙ length-take-le 79 b first.enough) (omega arith) all
    (λ i. (2 ∷ 0 ∷ 76 ∷ []) ∷ (l.kind ∷ []) ∷ l.ttsi ∷ dl i ∷ closed i ∷ l.state.e ∷ l.state.u ∷ code i ∷ (l.state.stood ∷ []) ∷ ((u i).0 ∷ []) ∷ since i ∷ (on i ∷ []) ∷ left i ∷ dt i ∷ far i ∷ [])
