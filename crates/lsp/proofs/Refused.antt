-- A refused step leaves the path as it was, and no step changes the expected TTSI. Assumes nothing.
use mathlib.Core.Path.{◌≡◌, refl, ap}
use mathlib.Core.Bool.{Bool, true, false}
use mathlib.Core.List.{List}
use Prim.Native.Nat.{ℕ}
use lib.Dec.{eqb, leb}
use borrow.Author.Tests.{eqb-true, leb-true, leb-false}
use Rattle.payload.specs.Reading.{Answer, read_of, accepts, ttsi_at}
use Rattle.lsp.specs.Steps.{same, counted_by, taken_by, receive_by, receive_of, server_of, close_of}
use Rattle.lsp.specs.History.{limit}
use Rattle.lsp.specs.declared.path.Lsp.{Lsp}
use Rattle.lsp.specs.Outcomes.{Closed}
use Rattle.lsp.proofs.Follows.{close_well, close_full}

module _ (l : Lsp) where
  -- what the reader accepted is refused with 6 alone
  by_count : (r : Answer) (own rate : Bool) → r.number ≡ 0 → ((counted_by own rate l r).0.number ≡ 0 → ⊥) → (counted_by own rate l r).1 ≡ l
  by_count r true true z n = absurd (n z)
  by_count r true false z n = refl
  by_count r false rate z n = absurd (n z)

  by_type : (r : Answer) (t : List ℕ) (b c : Bool) → r.number ≡ 0 → ((taken_by b c l r t).0.number ≡ 0 → ⊥) → (taken_by b c l r t).1 ≡ l
  by_type r t true c z n = absurd (n z)
  by_type r t false true z n = absurd (n z)
  by_type r t false false z n = by_count r (same t l.ttsi) (eqb r.rate l.kind) z n

  pub receive_refused : (p : List ℕ) → ((receive_of l p).0.number ≡ 0 → ⊥) → (receive_of l p).1 ≡ l
  unfolding receive_of
  receive_refused p n = go (accepts p) refl n
    where
      go : (b : Bool) → accepts p ≡ b → ((receive_by b l (read_of p) (ttsi_at p)).0.number ≡ 0 → ⊥) → (receive_by b l (read_of p) (ttsi_at p)).1 ≡ l
      go true e k = by_type (read_of p) (ttsi_at p) (eqb (read_of p).type 0x02) (eqb (read_of p).type 0x03) (eqb-true (read_of p).number 0 e) k
      go false e k = refl

  pub server_refused : (v : ℕ) → ((server_of l v).number ≡ 0 → ⊥) → (server_of l v).next ≡ l
  server_refused v n = go (leb v 1) refl
    where
      go : (b : Bool) → leb v 1 ≡ b → (server_of l v).next ≡ l
      go true e = absurd (n (rw e))
      go false e = rw e

  pub close_refused : ((close_of l).number ≡ 0 → ⊥) → (close_of l).next ≡ l
  close_refused n = go (leb limit l.state.closed) refl
    where
      go : (b : Bool) → leb limit l.state.closed ≡ b → (close_of l).next ≡ l
      go true e = ap (λ (c : Closed). c.next) (close_full l (leb-true limit l.state.closed e))
      go false e = absurd (n (ap (λ (c : Closed). c.number) (close_well l (leb-false limit l.state.closed e))))

-- ---- no step changes what is expected

module _ (l : Lsp) where
  taken_ttsi : (r : Answer) (t : List ℕ) (b c : Bool) → (taken_by b c l r t).1.ttsi ≡ l.ttsi
  taken_ttsi r t true c = refl
  taken_ttsi r t false true = refl
  taken_ttsi r t false false = go (same t l.ttsi) (eqb r.rate l.kind)
    where
      go : (own rate : Bool) → (counted_by own rate l r).1.ttsi ≡ l.ttsi
      go true true = refl
      go true false = refl
      go false rate = refl

  pub receive_ttsi : (p : List ℕ) → (receive_of l p).1.ttsi ≡ l.ttsi
  unfolding receive_of
  receive_ttsi p = go (accepts p)
    where
      go : (b : Bool) → (receive_by b l (read_of p) (ttsi_at p)).1.ttsi ≡ l.ttsi
      go true = taken_ttsi (read_of p) (ttsi_at p) (eqb (read_of p).type 0x02) (eqb (read_of p).type 0x03)
      go false = refl

  pub server_ttsi : (v : ℕ) → (server_of l v).next.ttsi ≡ l.ttsi
  server_ttsi v = go (leb v 1) refl
    where
      go : (b : Bool) → leb v 1 ≡ b → (server_of l v).next.ttsi ≡ l.ttsi
      go true e = rw e
      go false e = rw e

  pub close_ttsi : (close_of l).next.ttsi ≡ l.ttsi
  close_ttsi = go (leb limit l.state.closed) refl
    where
      go : (b : Bool) → leb limit l.state.closed ≡ b → (close_of l).next.ttsi ≡ l.ttsi
      go true e = ap (λ (c : Closed). c.next.ttsi) (close_full l (leb-true limit l.state.closed e))
      go false e = ap (λ (c : Closed). c.next.ttsi) (close_well l (leb-false limit l.state.closed e))
