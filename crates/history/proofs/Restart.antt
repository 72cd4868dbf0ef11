-- What a saving wrote is restored, whatever came between. Assumes nothing.
use mathlib.Core.Path.{◌≡◌, refl, ap, sym, subst, ◌∙◌}
use mathlib.Core.Bool.{Bool, true, false}
use mathlib.Core.List.{List, [], ◌∷◌, ◌++◌, Memᴰ}
use Prim.Native.Nat.{ℕ}
use lib.Dec.{eqb}
use borrow.Author.Tests.{eq-eqb}
use Rattle.payload.specs.Test.{pick}
use Rattle.table.specs.declared.paths.Table.{Table}
use Rattle.image.specs.Image.{restore_of, restored}
use Rattle.history.specs.Calls.{Call, add, receive, close, server, write_fdi, write_bdi, size, save, restore, number, restored_or}
use Rattle.history.specs.Calls.{Past, Saving, savings_after, written, World, next, back, Reach, empty, calling, restoring}
use Rattle.history.specs.Theorem.{table_left}
use Rattle.history.specs.Corollaries.{Same}
use Rattle.history.proofs.Reached.{restores_saved, holds, reached_table}

-- no call takes a saving away
still : (s : Saving) (c : Call) (t : Table) (ps : List Past) (ss : List Saving) → Memᴰ s ss → Memᴰ s (savings_after c t ps ss)
still s (add a) t ps ss m = m
still s (receive i p) t ps ss m = m
still s (close i) t ps ss m = m
still s (server i v) t ps ss m = m
still s (write_fdi i b) t ps ss m = m
still s (write_bdi i b) t ps ss m = m
still s size t ps ss m = m
still s (save b) t ps ss m = go (eqb (number (save b) t) 0)
  where
    go : (x : Bool) → Memᴰ s (pick x (record { octets = written t b; pasts = ps } ∷ ss) ss)
    go true = Memᴰ.tail m
    go false = m
still s (restore im) t ps ss m = m

abbrev saving : World → List ℕ → Saving
saving w b = record { octets = written w.table b; pasts = w.pasts }

fresh : (w : World) (b : List ℕ) → number (save b) w.table ≡ 0 → Memᴰ (saving w b) (next (save b) w).savings
fresh w b e =
    subst (λ (x : Bool). Memᴰ (saving w b) (pick x (saving w b ∷ w.savings) w.savings)) (sym (eq-eqb (number (save b) w.table) 0 e)) (Memᴰ.head refl)

module _ (cs : List Call) (b : List ℕ) where
  -- a world before the save, whose saving u has
  abbrev Saved : World → Type 0
  Saved u = (w : World) × Reach cs w × (number (save b) w.table ≡ 0) × Memᴰ (saving w b) u.savings

  pub saved : number (save b) (table_left cs) ≡ 0 → (later ds : List Call) (u : World) → Reach ds u → ds ≡ later ++ (save b ∷ cs) → Saved u
  saved n [] ds u empty e = absurd (cc)
  saved n (d ∷ later) ds u empty e = absurd (cc)
  saved n [] ds u (calling {cs = bs} {w = w} r c g p) e =
      let q : bs ≡ cs = cc in
      let k : c ≡ save b = cc in
      let r' : Reach cs w = subst (λ (x : List Call). Reach x w) q r in
      let z : number (save b) w.table ≡ 0 = ap (number (save b)) (reached_table cs w r') ∙ n in
      (w, r', z, subst (λ (x : Call). Memᴰ (saving w b) (next x w).savings) (sym k) (fresh w b z))
  saved n (d ∷ later) ds u (calling {cs = bs} {w = w} r c g p) e =
      let q : bs ≡ later ++ (save b ∷ cs) = cc in
      let k : Saved w = saved n later bs w r q in
      (k.0, k.1, k.2, still _ c w.table w.pasts w.savings k.3)
  saved n [] ds u (restoring {cs = bs} {w = w} r s m) e = absurd (cc)
  saved n (d ∷ later) ds u (restoring {cs = bs} {w = w} r s m) e =
      let q : bs ≡ later ++ (save b ∷ cs) = cc in
      saved n later bs w r q

pub restores_all : (cs : List Call) (w : World) (b : List ℕ) → Reach cs w → number (save b) w.table ≡ 0 → restore_of (written w.table b) ≡ restored w.table
restores_all cs w b r e = restores_saved w.table b (holds cs w r).good.made e

put_back : (cs : List Call) (w : World) (b : List ℕ) → Reach cs w → number (save b) w.table ≡ 0 → (u : World) → Same w (back (saving w b) u)
put_back cs w b r e u = record { table = ap (restored_or u.table) (restores_all cs w b r e); pasts = refl }

pub restarts : (cs : List Call) (w : World) (b : List ℕ) → Reach cs w → number (save b) w.table ≡ 0
    → (v : World) × Reach (restore (written w.table b) ∷ save b ∷ cs) v × Same w v
restarts cs w b r e = (_, restoring (calling r (save b) tt tt) (saving w b) (fresh w b e), put_back cs w b r e (next (save b) w))

pub restarts_later : (cs : List Call) (b : List ℕ) (later : List Call) (u : World) → Reach (later ++ (save b ∷ cs)) u → number (save b) (table_left cs) ≡ 0
    → (w : World) × Reach cs w × (v : World) × Reach (restore (written w.table b) ∷ (later ++ (save b ∷ cs))) v × Same w v
restarts_later cs b later u r e =
    let k = saved cs b e later _ u r refl in
    (k.0, k.1, _, restoring r (saving k.0 b) k.3, put_back cs k.0 b k.1 k.2 u)
