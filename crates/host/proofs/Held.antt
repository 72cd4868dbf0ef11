-- A table saved in a buffer is the table that the buffer holds, and each call of C on it is the table's. Assumes nothing.
use mathlib.Core.Path.{◌≡◌, sym, ap, ap₂, ◌∙◌}
use mathlib.Core.Bool.{Bool, true}
use mathlib.Core.List.{List, ◌++◌}
use Prim.Native.Nat.{ℕ, ◌≤◌}
use native.Mathlib.Omega.{arith}
use lib.Dec.{eqb}
use lib.ListN.{length, take, drop, length-append, length-drop}
use lib.Seq.{take_at}
use borrow.Author.Tests.{le-leb, eq-eqb, ne_eqb}
use Rattle.payload.specs.Test.{both}
use Rattle.table.specs.Steps as table
use Rattle.table.specs.Lawful.{Lawful}
use Rattle.table.specs.declared.paths.Table.{Table}
use Rattle.image.specs.Image.{octets_of, length_of, save_by, save_of, image_in, restore_of, restored}
use Rattle.image.specs.Law.{Made, none}
use Rattle.image.specs.Outcomes.{Restored}
use Rattle.image.proofs.Law.{image_law, all_present}
use Rattle.image.proofs.Made.{made_comes_back}
use Rattle.host.specs.Calls.{is_long, held_in, is_held, table_in, saved_in, empty_by, empty_of, add_step, add_of, receive_step, receive_of, server_step, server_on, write_row_by, write_row_of, answered_by, close_by, close_of}
use Rattle.host.specs.Theorem.{Answers}
use Rattle.host.proofs.Called.{Open, held_image, goes_on}
use Rattle.host.proofs.Closes.{short_answer}

-- ---- saving

-- the image is found again, whatever lies behind it
image_first : (u : Table) → Lawful u → (r : List ℕ) → image_in (octets_of u ++ r) ≡ octets_of u
unfolding octets_of
image_first u w r = take_at (octets_of u) r (length_of u) (image_law.size u w)

-- a buffer as long as b, and the image that it begins with
pub record Buffer (b s : List ℕ) : Type 0 where
  pub size : length s ≡ length b
  pub held : held_in s ≡ restored (table_in s)
  pub image : image_in s ≡ octets_of (table_in s)

module _ (u : Table) (m : Made u) (s : List ℕ) (h : 5061 ≤ length s) where
  w : Lawful u
  w = made_comes_back.lawful u m

  room : length_of u ≤ length s
  room = omega (arith, all_present u w.few, w.few)

  pub saves : save_of u s ≡ (0, octets_of u ++ drop (length_of u) s)
  saves = ap (λ (x : Bool). save_by x u s) (le-leb (length_of u) (length s) room)

  saved_is : saved_in u s ≡ octets_of u ++ drop (length_of u) s
  saved_is = ap (λ (r : ℕ × List ℕ). r.1) saves

  saved_size : length (saved_in u s) ≡ length s
  saved_size =
      ap length saved_is ∙ length-append (octets_of u) (drop (length_of u) s)
      ∙ omega (arith, image_law.size u w, length-drop (length_of u) s, room)

  begins : image_in (saved_in u s) ≡ octets_of u
  begins = ap image_in saved_is ∙ image_first u w (drop (length_of u) s)

  saved_held : held_in (saved_in u s) ≡ restored u
  saved_held = ap restore_of begins ∙ made_comes_back.back u m

  pub saved_table : table_in (saved_in u s) ≡ u
  saved_table = ap (λ (r : Restored). r.table) saved_held

  pub saved_buffer : (b : List ℕ) → length s ≡ length b → Buffer b (saved_in u s)
  saved_buffer b n =
      record {
        size = saved_size ∙ n;
        held = saved_held ∙ ap restored (sym saved_table);
        image = begins ∙ ap octets_of (sym saved_table);
      }

-- other octets behind the image
pub same_behind : (b s : List ℕ) → Buffer b s → Made (table_in s) → (r : List ℕ) → image_in (image_in s ++ r) ≡ image_in s
same_behind b s f m r =
    ap (λ (x : List ℕ). image_in (x ++ r)) f.image ∙ image_first (table_in s) (made_comes_back.lawful (table_in s) m) r ∙ sym f.image

-- what saving wrote, as history has it
pub written_is : (u : Table) → Made u → (s : List ℕ) → 5061 ≤ length s → take (length_of u) (save_of u s).1 ≡ octets_of u
written_is u m s h =
    ap (λ (r : ℕ × List ℕ). take (length_of u) r.1) (saves u m s h)
    ∙ take_at (octets_of u) (drop (length_of u) s) (length_of u) (image_law.size u (made_comes_back.lawful u m))

-- ---- pw_empty

pub empties : (s : List ℕ) → 5061 ≤ length s → empty_of s ≡ (0, saved_in table.empty s)
unfolding empty_of
empties s h =
    let e = saves table.empty none s h in
    ap (λ (x : Bool). empty_by x s) (le-leb 5061 (length s) h) ∙ ap (λ (r : ℕ × List ℕ). (r.0, saved_in table.empty s)) e

-- ---- the calls on a buffer that holds a table

module _ (s : List ℕ) (h : 5061 ≤ length s) (e : held_in s ≡ restored (table_in s)) where
  long : is_long s ≡ true
  long = le-leb 5061 (length s) h

  is_held_lem : is_held s ≡ true
  is_held_lem = ap (λ (r : Restored). eqb r.number 0) e

  opens : Open s
  opens = record { long = long; held = is_held_lem; image = sym (held_image s) ∙ is_held_lem }

  pub adds : (kind : ℕ) (ttsi : List ℕ) (dl : ℕ)
      → add_of s kind ttsi dl ≡ ((table.add_of (table_in s) kind ttsi dl).number, saved_in (table.add_of (table_in s) kind ttsi dl).next s)
  unfolding add_of
  adds kind ttsi dl = goes_on s opens (add_step kind ttsi dl)

  pub receives : (i : ℕ) (p : List ℕ)
      → receive_of s i p ≡ ((table.receive_of (table_in s) i p).0.number, saved_in (table.receive_of (table_in s) i p).1 s)
  unfolding receive_of
  receives i p = goes_on s opens (receive_step i p)

  pub signals : (i v : ℕ) → server_on s i v ≡ ((table.server_of (table_in s) i v).number, saved_in (table.server_of (table_in s) i v).next s)
  unfolding server_on
  signals i v = goes_on s opens (server_step i v)

  pub writes : (ty i : ℕ) (b : List ℕ) → write_row_of ty s i b ≡ table.write_row_of ty (table_in s) i b
  unfolding write_row_of
  writes ty i b = ap₂ (λ (x y : Bool). write_row_by x y (table.write_row_of ty (table_in s) i b) b) long is_held_lem

  pub closes : (i : ℕ) (a : List ℕ) → 27 ≤ length a → close_of s i a ≡ close_by true true (table.close_of (table_in s) i) s a
  unfolding close_of
  closes i a n =
      ap₂ (λ (x y : Bool). close_by x y (table.close_of (table_in s) i) s a) (ap₂ both long (le-leb 27 (length a) n)) is_held_lem

  pub all_answers : Answers s (table_in s)
  all_answers =
      record {
        empty = ap (λ (r : ℕ × List ℕ). r.0) (empties s h);
        add = λ kind ttsi dl. ap (λ (r : ℕ × List ℕ). r.0) (adds kind ttsi dl);
        receive = λ i p. ap (λ (r : ℕ × List ℕ). r.0) (receives i p);
        server = λ i v. ap (λ (r : ℕ × List ℕ). r.0) (signals i v);
        write = writes;
        close = λ i a n. ap (λ (r : ℕ × List ℕ × List ℕ). r.0) (closes i a n);
        closed = λ i a n z.
            ap (λ (r : ℕ × List ℕ × List ℕ). r.2) (closes i a n)
            ∙ ap (λ (x : Bool). answered_by x (table.close_of (table_in s) i) a) (eq-eqb (table.close_of (table_in s) i).number 0 z);
        not_closed = λ i a n z.
            ap (λ (r : ℕ × List ℕ × List ℕ). r.2) (closes i a n)
            ∙ ap (λ (x : Bool). answered_by x (table.close_of (table_in s) i) a) (ne_eqb (table.close_of (table_in s) i).number 0 z);
        short = λ i a n. sym (short_answer s i a n);
      }
