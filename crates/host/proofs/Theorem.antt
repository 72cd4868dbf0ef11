-- Demand 3 for the calls of C (`specs/Theorem.antt`): the world of a node is one that the table's calls reach. Assumes nothing.
use mathlib.Core.Path.{◌≡◌, refl, sym, ap, subst, ◌∙◌}
use mathlib.Core.Bool.{Bool, true, false}
use mathlib.Core.Logic.{◌⊎◌, inl, inr, ⊎_elim}
use mathlib.Core.List.Memᴰ
use mathlib.Core.List.{List, [], ◌∷◌, ◌++◌, Memᴰ}
use Prim.Native.Nat.{ℕ, ◌≤◌, ◌<◌}
use native.Mathlib.Omega.{arith}
use lib.Dec.{eqb}
use lib.ListN.{length}
use borrow.Author.Tests.{eqb-false}
use Rattle.std.proofs.lemmas.Bool.{cases_lt}
use Rattle.payload.specs.Test.{pick}
use Rattle.table.specs.Steps as table
use Rattle.table.specs.Steps.{path_at}
use Rattle.table.specs.declared.paths.Table.{Table}
use Rattle.image.specs.Image.{octets_of, save_of, image_in, restore_of, restored}
use Rattle.image.specs.Law.{Made, none}
use Rattle.image.proofs.Made.{made_comes_back}
use Rattle.history.specs.Calls as history
use Rattle.history.specs.Calls.{Call, Plain, Past, past_at, Saving, World, Reach, table_after, pasts_after, savings_after, written, restored_or, next}
use Rattle.history.specs.Theorem.{Elsewhere, Apart}
use Rattle.history.proofs.Reached as reached
use Rattle.history.proofs.Corollaries.{corollaries}
use Rattle.history.proofs.Theorem.{demand3}
use Rattle.host.specs.Calls.{held_in, table_in, saved_in, empty_of}
use Rattle.host.specs.Theorem.{CCall, add, receive, close, server, write_fdi, write_bdi, table_call, Given, number, left, Copy, Node, emptied, started, after, copied, put_back, behind}
use Rattle.host.specs.Theorem.{Runs, starting, calling, copying, putting, writing, emptying, savings_of, world_of, Room, Kept, Held, Demand3InC}
use Rattle.host.proofs.Held.{Buffer, saves, saved_table, saved_buffer, same_behind, written_is, empties, adds, receives, signals, writes, closes, all_answers}
use Rattle.host.proofs.Closes.{short_answer}

-- ---- the table's call of a call of C

plain : (c : CCall) → Plain (table_call c)
plain (add kind ttsi dl) = tt
plain (receive i p) = tt
plain (close i a) = tt
plain (server i v) = tt
plain (write_fdi i b) = tt
plain (write_bdi i b) = tt

-- it saves nothing
no_saving : (c : CCall) (t : Table) (ps : List Past) (ss : List Saving) → savings_after (table_call c) t ps ss ≡ ss
no_saving (add kind ttsi dl) t ps ss = refl
no_saving (receive i p) t ps ss = refl
no_saving (close i a) t ps ss = refl
no_saving (server i v) t ps ss = refl
no_saving (write_fdi i b) t ps ss = refl
no_saving (write_bdi i b) t ps ss = refl

-- ---- the savings of the copies

abbrev saving_of : Copy → Saving
saving_of k = record { octets = image_in k.buffer; pasts = k.pasts }

abbrev first : Saving
first = record { octets = octets_of table.empty; pasts = [] }

saving_there : (ks : List Copy) (k : Copy) → Memᴰ k ks → Memᴰ (saving_of k) (savings_of ks)
saving_there [] k m = absurd (Memᴰ.not-nil m)
saving_there (x ∷ ks) k m =
    ⊎_elim (λ (q : k ≡ x). Memᴰ.head (ap saving_of q)) (λ (n : Memᴰ k ks). Memᴰ.tail (saving_there ks k n)) (Memᴰ.cases_cons m)

first_there : (ks : List Copy) → Memᴰ first (savings_of ks)
first_there [] = Memᴰ.head refl
first_there (x ∷ ks) = Memᴰ.tail (first_there ks)

module _ (b : List ℕ) (h : 5061 ≤ length b) where
  record Good (v : Node) : Type 0 where
    calls : List Call
    reached : Reach calls (world_of v)
    buffer : Buffer b v.buffer
    copies : (k : Copy) → Memᴰ k v.copies → Buffer b k.buffer

  -- ---- one call

  -- what a call of C does to the buffer s, by the table's call
  record Step (c : CCall) (s : List ℕ) : Type 0 where
    number_is : number c s ≡ history.number (table_call c) (table_in s)
    table_is : table_in (left c s) ≡ table_after (table_call c) (table_in s)
    buffer_is : Buffer b (left c s)

  module _ (v : Node) (g : Good v) where
    abbrev s : List ℕ
    s = v.buffer

    abbrev t : Table
    t = table_in s

    big : 5061 ≤ length s
    big = omega (arith, g.buffer.size)

    made : Made t
    made = (reached.holds g.calls (world_of v) g.reached).good.made

    made_after : (c : CCall) → Given c → Made (table_after (table_call c) t)
    made_after c i = (reached.holds (table_call c ∷ g.calls) _ (history.calling g.reached (table_call c) i (plain c))).good.made

    -- the number and the buffer that a saved table gives
    by_saving : (c : CCall) → Given c
        → ◌≡◌ {A = ℕ × List ℕ} (number c s, left c s) (history.number (table_call c) t, saved_in (table_after (table_call c) t) s) → Step c s
    by_saving c i e =
        let m = made_after c i in
        let x : left c s ≡ saved_in (table_after (table_call c) t) s = ap (λ (r : ℕ × List ℕ). r.1) e in
        record {
          number_is = ap (λ (r : ℕ × List ℕ). r.0) e;
          table_is = ap table_in x ∙ saved_table (table_after (table_call c) t) m s big;
          buffer_is = subst (Buffer b) (sym x) (saved_buffer (table_after (table_call c) t) m s big b g.buffer.size);
        }

    step : (c : CCall) → Given c → Room c → Step c s
    step (add kind ttsi dl) i r = by_saving (add kind ttsi dl) i (adds s big g.buffer.held kind ttsi dl)
    step (receive j p) i r = by_saving (receive j p) i (receives s big g.buffer.held j p)
    step (close j a) i r = by_saving (close j a) i (ap (λ (x : ℕ × List ℕ × List ℕ). (x.0, x.1)) (closes s big g.buffer.held j a r))
    step (server j x) i r = by_saving (server j x) i (signals s big g.buffer.held j x)
    step (write_fdi j x) i r = record { number_is = ap (λ (y : ℕ × List ℕ). y.0) (writes s big g.buffer.held 0x02 j x); table_is = refl; buffer_is = g.buffer }
    step (write_bdi j x) i r = record { number_is = ap (λ (y : ℕ × List ℕ). y.0) (writes s big g.buffer.held 0x03 j x); table_is = refl; buffer_is = g.buffer }

    -- a refused call of the table is in no history either
    pasts_are : (c : CCall) → number c s ≡ history.number (table_call c) t → (after c v).pasts ≡ pasts_after (table_call c) t v.pasts
    pasts_are c e = go (eqb (number c s) 0) refl
      where
        go : (x : Bool) → eqb (number c s) 0 ≡ x → pick x (pasts_after (table_call c) t v.pasts) v.pasts ≡ pasts_after (table_call c) t v.pasts
        go true q = refl
        go false q =
            sym (ap (λ (w : World). w.pasts)
            (corollaries.refused g.calls (world_of v) g.reached (table_call c) (λ z. eqb-false (number c s) 0 q (e ∙ z))))

    moves : (c : CCall) → Given c → Room c → world_of (after c v) ≡ next (table_call c) (world_of v)
    moves c i r =
        let k : Step c s = step c i r in
        let p = k.table_is in
        let q = pasts_are c k.number_is in
        let n = sym (no_saving c t v.pasts (savings_of v.copies)) in
        λ j. record { table = p j; pasts = q j; savings = n j }

    stays : (i : ℕ) (a : List ℕ) → length a < 27 → after (close i a) v ≡ v
    stays i a n =
        ap (λ (r : ℕ × List ℕ × List ℕ). record {
          buffer = r.1;
          pasts = pick (eqb r.0 0) (pasts_after (history.close i) t v.pasts) v.pasts;
          copies = v.copies;
        }) (sym (short_answer s i a n))

    room_or : (c : CCall) → Room c ⊎ (after c v ≡ v)
    room_or (add kind ttsi dl) = inl tt
    room_or (receive i p) = inl tt
    room_or (close i a) = ⊎_elim (λ k. inr (stays i a k)) (λ k. inl k) (cases_lt (length a) 27)
    room_or (server i x) = inl tt
    room_or (write_fdi i x) = inl tt
    room_or (write_bdi i x) = inl tt

    -- ---- paths are kept apart

    kept_moved : (c : CCall) → Given c → Room c → (j : ℕ) → Elsewhere (table_call c) (world_of v) j → Kept v (after c v) j
    kept_moved c i r j x =
        let k : Apart (table_call c) (world_of v) j = demand3.apart g.calls (world_of v) g.reached (table_call c) j x in
        let m = moves c i r in
        record {
          path = ap (λ (w : World). path_at w.table j) m ∙ k.path;
          past = ap (λ (w : World). past_at w.pasts j) m ∙ k.past;
        }

    kept_apart : (c : CCall) → Given c → (j : ℕ) → Elsewhere (table_call c) (world_of v) j → Kept v (after c v) j
    kept_apart c i j x =
        ⊎_elim (λ (r : Room c). kept_moved c i r j x)
        (λ (e : after c v ≡ v). subst (λ (u : Node). Kept v u j) (sym e) (record { path = refl; past = refl })) (room_or c)

    -- ---- the node after a call

    good_moved : (c : CCall) → Given c → Room c → Good (after c v)
    good_moved c i r =
        record {
          calls = table_call c ∷ g.calls;
          reached = subst (Reach (table_call c ∷ g.calls)) (sym (moves c i r)) (history.calling g.reached (table_call c) i (plain c));
          buffer = (step c i r).buffer_is;
          copies = g.copies;
        }

    good_after : (c : CCall) → Given c → Good (after c v)
    good_after c i = ⊎_elim (λ (r : Room c). good_moved c i r) (λ (e : after c v ≡ v). subst Good (sym e) g) (room_or c)

    -- ---- copies

    -- a copy is what saving into the buffer itself would have written
    copy_saved : world_of (copied v) ≡ next (history.save s) (world_of v)
    copy_saved =
        let e : image_in s ≡ written t s = g.buffer.image ∙ sym (written_is t made s big) in
        let z : 0 ≡ (save_of t s).0 = ap (λ (r : ℕ × List ℕ). r.0) (sym (saves t made s big)) in
        λ j. record {
          table = t;
          pasts = v.pasts;
          savings = pick (eqb (z j) 0) (record { octets = e j; pasts = v.pasts } ∷ savings_of v.copies) (savings_of v.copies);
        }

    good_copied : Good (copied v)
    good_copied =
        record {
          calls = history.save s ∷ g.calls;
          reached = subst (Reach (history.save s ∷ g.calls)) (sym copy_saved) (history.calling g.reached (history.save s) tt tt);
          buffer = g.buffer;
          copies = λ k m. ⊎_elim (λ (q : k ≡ _). subst (λ (x : Copy). Buffer b x.buffer) (sym q) g.buffer) (g.copies k) (Memᴰ.cases_cons m);
        }

    good_put : (k : Copy) → Memᴰ k v.copies → Good (put_back k v)
    good_put k m =
        let f : Buffer b k.buffer = g.copies k m in
        let e : restored_or t (held_in k.buffer) ≡ table_in k.buffer = ap (restored_or t) f.held in
        record {
          calls = history.restore (image_in k.buffer) ∷ g.calls;
          reached =
              subst (λ (u : Table). Reach (history.restore (image_in k.buffer) ∷ g.calls) (record { table = u; pasts = k.pasts; savings = savings_of v.copies })) e
              (history.restoring g.reached (saving_of k) (saving_there v.copies k m));
          buffer = f;
          copies = g.copies;
        }

    -- ---- other octets behind the image

    good_behind : (r : List ℕ) → length (image_in s ++ r) ≡ length b → Good (behind r v)
    good_behind r n =
        let e : image_in s ≡ image_in (image_in s ++ r) = sym (same_behind b s g.buffer made r) in
        let x : table_in s ≡ table_in (image_in s ++ r) = ap (λ (y : List ℕ). (restore_of y).table) e in
        record {
          calls = g.calls;
          reached = subst (λ (u : Table). Reach g.calls (record { table = u; pasts = v.pasts; savings = savings_of v.copies })) x g.reached;
          buffer =
              record {
                size = n;
                held = ap restore_of (sym e) ∙ g.buffer.held ∙ ap restored x;
                image = sym e ∙ g.buffer.image ∙ ap octets_of x;
              };
          copies = g.copies;
        }

    -- ---- pw_empty again: as restoring what was saved first

    good_emptied : Good (emptied v)
    good_emptied =
        let x : saved_in table.empty s ≡ (empty_of s).1 = ap (λ (r : ℕ × List ℕ). r.1) (sym (empties s big)) in
        let e : restored_or t (restore_of (octets_of table.empty)) ≡ table_in (empty_of s).1 =
        ap (restored_or t) (made_comes_back.back table.empty none) ∙ sym (saved_table table.empty none s big) ∙ ap table_in x in
        record {
          calls = history.restore (octets_of table.empty) ∷ g.calls;
          reached =
              subst (λ (u : Table). Reach (history.restore (octets_of table.empty) ∷ g.calls) (record { table = u; pasts = []; savings = savings_of v.copies })) e
              (history.restoring g.reached first (first_there v.copies));
          buffer = subst (Buffer b) x (saved_buffer table.empty none s big b g.buffer.size);
          copies = g.copies;
        }

  -- ---- the first pw_empty

  start_is : world_of (started b) ≡ next (history.save b) history.start
  start_is =
      let x : (empty_of b).1 ≡ saved_in table.empty b = ap (λ (r : ℕ × List ℕ). r.1) (empties b h) in
      let p : table_in (empty_of b).1 ≡ table.empty = ap table_in x ∙ saved_table table.empty none b h in
      let e : octets_of table.empty ≡ written table.empty b = sym (written_is table.empty none b h) in
      let z : 0 ≡ (save_of table.empty b).0 = ap (λ (r : ℕ × List ℕ). r.0) (sym (saves table.empty none b h)) in
      λ j. record { table = p j; pasts = []; savings = pick (eqb (z j) 0) (record { octets = e j; pasts = [] } ∷ []) [] }

  good_started : Good (started b)
  good_started =
      let x : saved_in table.empty b ≡ (empty_of b).1 = ap (λ (r : ℕ × List ℕ). r.1) (sym (empties b h)) in
      record {
        calls = history.save b ∷ [];
        reached = subst (Reach (history.save b ∷ [])) (sym start_is) (history.calling history.empty (history.save b) tt tt);
        buffer = subst (Buffer b) x (saved_buffer table.empty none b h b refl);
        copies = λ k m. absurd (Memᴰ.not-nil m);
      }

  -- ---- any run

  good : (v : Node) → Runs b v → Good v
  good v starting = good_started
  good v (calling {v = u} r c i) = good_after u (good u r) c i
  good v (copying {v = u} r) = good_copied u (good u r)
  good v (putting {v = u} r k m) = good_put u (good u r) k m
  good v (writing {v = u} r q n) = good_behind u (good u r) q n
  good v (emptying {v = u} r) = good_emptied u (good u r)

  all_held : (v : Node) → Runs b v → Held b v
  all_held v r =
      let g : Good v = good v r in
      record {
        size = g.buffer.size;
        held = g.buffer.held;
        image = g.buffer.image;
        calls = g.calls;
        reached = g.reached;
        claim = demand3.claim g.calls (world_of v) g.reached;
        answers = all_answers v.buffer (big v g) g.buffer.held;
        moves = moves v g;
        stays = stays v g;
        apart = kept_apart v g;
      }

pub demand3_in_c : Demand3InC
demand3_in_c = record { starts = λ b h. ap (λ (r : ℕ × List ℕ). r.0) (empties b h); holds = all_held }
