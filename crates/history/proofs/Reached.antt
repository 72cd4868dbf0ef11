-- Every world that calls reach: its paths follow their histories, and what each of its savings wrote restores to a table whose paths
-- follow the histories of that saving. Assumes nothing.
use mathlib.Core.Path.{◌≡◌, refl, ap, sym, subst, subst⁻¹}
use mathlib.Core.Bool.{Bool, true, false}
use mathlib.Core.Logic.{⊎_elim}
use mathlib.Core.List.Memᴰ
use mathlib.Core.List.{List, ◌∷◌, Memᴰ}
use Prim.Native.Nat.{ℕ}
use native.Mathlib.Omega.{arith}
use lib.Dec.{eqb}
use borrow.Author.Tests.{eqb-true}
use Rattle.payload.specs.Test.{pick}
use Rattle.table.specs.Lawful.{Lawful}
use Rattle.table.specs.declared.paths.Table.{Table}
use Rattle.image.specs.Image.{restore_of, restored}
use Rattle.image.specs.Law.{Made, none}
use Rattle.image.specs.Law as image
use Rattle.image.proofs.Law.{image_law}
use Rattle.image.proofs.Made.{made_comes_back}
use Rattle.history.specs.Calls.{Call, add, receive, close, server, write_fdi, write_bdi, size, save, restore, Given, Plain, number, restored_or, table_after}
use Rattle.history.specs.Calls.{Past, pasts_after, Saving, written, savings_after, World, Reach, empty, calling, restoring}
use Rattle.history.specs.Theorem.{table_left}
use Rattle.history.proofs.Kept.{Paired, add_paired, receive_paired, close_paired, server_paired}

pub record Good (t : Table) (ps : List Past) : Type 0 where
  pub made : Made t
  pub paired : Paired t ps

pub record Wrote (s : Saving) : Type 0 where
  pub table : Table
  pub good : Good table s.pasts
  pub restores : restore_of s.octets ≡ restored table

pub record Holds (w : World) : Type 0 where
  pub good : Good w.table w.pasts
  pub savings : (s : Saving) → Memᴰ s w.savings → Wrote s

-- a refused image leaves the table
pub stays : (t : Table) (im : List ℕ) → (restore_of im).number ≡ 10 → restored_or t (restore_of im) ≡ t
stays t im e = ap (λ (n : ℕ). pick (eqb n 0) (restore_of im).table t) e

made_next : (c : Call) (t : Table) → Given c → Plain c → Made t → Made (table_after c t)
made_next (add a) t g p m = image.add a.kind a.ttsi a.dl g.0 g.1 m
made_next (receive i q) t g p m = image.receive i q g m
made_next (close i) t g p m = image.close i m
made_next (server i v) t g p m = image.server i v m
made_next (write_fdi i b) t g p m = m
made_next (write_bdi i b) t g p m = m
made_next size t g p m = m
made_next (save b) t g p m = m
made_next (restore im) t g p m = subst Made (sym (stays t im p)) m

paired_next : (c : Call) (t : Table) (ps : List Past) → Plain c → Good t ps → Paired (table_after c t) (pasts_after c t ps)
paired_next (add a) t ps p g = add_paired t ps (made_comes_back.lawful t g.made) g.paired a
paired_next (receive i q) t ps p g = receive_paired t ps (made_comes_back.lawful t g.made) g.paired i q
paired_next (close i) t ps p g = close_paired t ps (made_comes_back.lawful t g.made) g.paired i
paired_next (server i v) t ps p g = server_paired t ps (made_comes_back.lawful t g.made) g.paired i v
paired_next (write_fdi i b) t ps p g = g.paired
paired_next (write_bdi i b) t ps p g = g.paired
paired_next size t ps p g = g.paired
paired_next (save b) t ps p g = g.paired
paired_next (restore im) t ps p g = subst (λ (x : Table). Paired x ps) (sym (stays t im p)) g.paired

pub restores_saved : (t : Table) (b : List ℕ) → Made t → number (save b) t ≡ 0 → restore_of (written t b) ≡ restored t
restores_saved t b m e = image_law.saved_then_restored t b (made_comes_back.lawful t m) (made_comes_back.typed t m) e

savings_next : (c : Call) (t : Table) (ps : List Past) (ss : List Saving) → Good t ps → ((s : Saving) → Memᴰ s ss → Wrote s)
    → (s : Saving) → Memᴰ s (savings_after c t ps ss) → Wrote s
savings_next (add a) t ps ss g f = f
savings_next (receive i q) t ps ss g f = f
savings_next (close i) t ps ss g f = f
savings_next (server i v) t ps ss g f = f
savings_next (write_fdi i b) t ps ss g f = f
savings_next (write_bdi i b) t ps ss g f = f
savings_next size t ps ss g f = f
savings_next (save b) t ps ss g f = go (eqb (number (save b) t) 0) refl
  where
    go : (x : Bool) → eqb (number (save b) t) 0 ≡ x
        → (s : Saving) → Memᴰ s (pick x (record { octets = written t b; pasts = ps } ∷ ss) ss) → Wrote s
    go true e s m =
        ⊎_elim
        (λ (q : s ≡ _). subst⁻¹ Wrote q (record { table = t; good = g; restores = restores_saved t b g.made (eqb-true (number (save b) t) 0 e) }))
        (f s) (Memᴰ.cases_cons m)
    go false e s m = f s m
savings_next (restore im) t ps ss g f = f

pub holds : (cs : List Call) (w : World) → Reach cs w → Holds w
holds cs w empty =
    record {
      good = record { made = none; paired = record { count = refl; each = λ i h. absurd (omega arith) } };
      savings = λ s m. absurd (Memᴰ.not-nil m);
    }
holds cs w (calling {cs = ds} {w = v} r c g p) =
    let h : Holds v = holds ds v r in
    record {
      good = record { made = made_next c v.table g p h.good.made; paired = paired_next c v.table v.pasts p h.good };
      savings = savings_next c v.table v.pasts v.savings h.good h.savings;
    }
holds cs w (restoring {cs = ds} {w = v} r s m) =
    let h : Holds v = holds ds v r in
    let o : Wrote s = h.savings s m in
    record { good = subst (λ (t : Table). Good t s.pasts) (sym (ap (restored_or v.table) o.restores)) o.good; savings = h.savings }

pub reached_lawful : (cs : List Call) (w : World) → Reach cs w → Lawful w.table
reached_lawful cs w r = made_comes_back.lawful w.table (holds cs w r).good.made

-- the table is the one that the calls leave
pub reached_table : (cs : List Call) (w : World) → Reach cs w → w.table ≡ table_left cs
reached_table cs w empty = refl
reached_table cs w (calling {cs = ds} {w = v} r c g p) = ap (table_after c) (reached_table ds v r)
reached_table cs w (restoring {cs = ds} {w = v} r s m) = ap (table_after (restore s.octets)) (reached_table ds v r)
