-- A step on a path of the table that an image holds: where there is none, where the path refuses, and where it is put back. Assumes nothing.
use mathlib.Core.Path.{◌≡◌, refl, sym, ap, ◌∙◌}
use mathlib.Core.Bool.{Bool, true, false}
use mathlib.Core.List.{List}
use Prim.Native.Nat.{ℕ}
use lib.Dec.{ltb}
use Rattle.std.specs.Prelude.{Result, Ok, Err}
use Rattle.refusal.specs.Numbers.{number_of}
use Rattle.refusal.specs.declared.Refusal.{Refusal}
use Rattle.refusal.proofs.Numbers.{refuses}
use Rattle.payload.specs.Law.{Octets}
use Rattle.payload.specs.Reading.{Answer, answer_of}
use Rattle.payload.specs.declared.found.Found as reader
use Rattle.payload.specs.declared.found.Found.TheVariants.{Cv, Ffd, Fdi, Bdi}
use Rattle.lsp.specs.Steps as path
use Rattle.lsp.specs.Outcomes.{Signalled, received_in, signalled_in}
use Rattle.lsp.specs.declared.path.Lsp.{Lsp}
use Rattle.table.specs.Steps as table
use Rattle.table.specs.Steps.{present, path_at, put}
use Rattle.table.specs.declared.paths.Table.{Table}
use Rattle.table.proofs.Places.{put_back}
use Rattle.host.specs.Calls.{table_in, saved_in, found_of, called, receive_step, receive_of, server_step, server_on}
use Rattle.host.specs.Records.{path_in, with_path}
use Rattle.host.proofs.Called.{Found, Missing, short, broken, no_path, found, missing, goes_on, leaves, not_long, not_held}

-- by what path i answers and leaves
pub record Step (i : ℕ) (f : Table → ℕ × Table) (g : Lsp → ℕ × Lsp) : Type 0 where
  pub none : (t : Table) → ltb i (present t) ≡ false → f t ≡ (1, t)
  pub there : (t : Table) → ltb i (present t) ≡ true → f t ≡ ((g (path_at t i)).0, put t i (g (path_at t i)).1)

module _ (s : List ℕ) (i : ℕ) (f : Table → ℕ × Table) (g : Lsp → ℕ × Lsp) (k : Step i f g) where
  pub absent : (r : Refusal) → number_of r ≡ found_of s i → Octets s → (number_of r, s) ≡ called f s
  absent r e o = go (number_of r) (missing s i (number_of r) e (refuses r))
    where
      go : (n : ℕ) → Missing s i n → (n, s) ≡ called f s
      go n (short p q) = ap (λ (m : ℕ). (m, s)) q ∙ not_long s f p
      go n (broken p h q) = ap (λ (m : ℕ). (m, s)) q ∙ not_held s f p h
      go n (no_path w h q) = ap (λ (m : ℕ). (m, s)) q ∙ leaves s w f o 1 (k.none (table_in s) h)

  module _ (w : Found s i) where
    there : f (table_in s) ≡ ((g (path_in s i)).0, put (table_in s) i (g (path_in s i)).1)
    unfolding path_in
    there = k.there (table_in s) w.there

    pub refused : Octets s → (n : ℕ) → g (path_in s i) ≡ (n, path_in s i) → (n, s) ≡ called f s
    unfolding path_in
    refused o n e =
        leaves s w.opens f o n
        (there ∙ ap (λ (x : ℕ × Lsp). (x.0, put (table_in s) i x.1)) e ∙ ap (λ (t : Table). (n, t)) (put_back (table_in s) i))

    pub done : (n : ℕ) (next : Lsp) → g (path_in s i) ≡ (n, next) → (n, with_path s i next) ≡ called f s
    unfolding with_path
    done n next e =
        sym (goes_on s w.opens f ∙ ap (λ (r : ℕ × Table). (r.0, saved_in r.1 s)) (there ∙ ap (λ (y : ℕ × Lsp). (y.0, put (table_in s) i y.1)) e))

-- ---- receiving

abbrev received : List ℕ → Lsp → ℕ × Lsp
received p l = ((path.receive_of l p).0.number, (path.receive_of l p).1)

receiving : (i : ℕ) (p : List ℕ) → Step i (receive_step i p) (received p)
unfolding table.receive_of
receiving i p =
    record {
      none = λ t e. ap (λ (b : Bool). let r = table.receive_by b t i (path.receive_of (path_at t i) p) in (r.0.number, r.1)) e;
      there = λ t e. ap (λ (b : Bool). let r = table.receive_by b t i (path.receive_of (path_at t i) p) in (r.0.number, r.1)) e;
    }

answered : (f : reader.Found) → 0 ≡ (answer_of (Ok f)).number
answered Cv = refl
answered (Ffd rate) = refl
answered (Fdi dt dl) = refl
answered (Bdi dt dl) = refl

module _ (s : List ℕ) (i : ℕ) (p : List ℕ) where
  pub receive_absent : (r : Refusal) → number_of r ≡ found_of s i → Octets s → (number_of r, s) ≡ receive_of s i p
  unfolding receive_of
  receive_absent = absent s i (receive_step i p) (received p) (receiving i p)

  module _ (z : 0 ≡ found_of s i) where
    pub receive_refused : (r : Refusal) → received_in (path_in s i) (Err r) ≡ path.receive_of (path_in s i) p → Octets s → (number_of r, s) ≡ receive_of s i p
    unfolding receive_of
    receive_refused r e o =
        refused s i (receive_step i p) (received p) (receiving i p) (found s i 0 z refl) o (number_of r) (ap (λ (x : Answer × Lsp). (x.0.number, x.1)) (sym e))

    pub receive_done : (x : Result (reader.Found × Lsp) Refusal) (f : reader.Found) (next : Lsp) → x ≡ Ok (f, next)
        → received_in (path_in s i) x ≡ path.receive_of (path_in s i) p → (0, with_path s i next) ≡ receive_of s i p
    unfolding receive_of
    receive_done x f next h e =
        done s i (receive_step i p) (received p) (receiving i p) (found s i 0 z refl) 0 next
        (ap (λ (x : Answer × Lsp). (x.0.number, x.1)) (sym e ∙ ap (received_in (path_in s i)) h) ∙ ap (λ (n : ℕ). (n, next)) (sym (answered f)))

pub ruleset receive_steps = (receive_absent, receive_refused, receive_done)

-- ---- the server signal

abbrev signalled : ℕ → Lsp → ℕ × Lsp
signalled v l = ((path.server_of l v).number, (path.server_of l v).next)

signalling : (i v : ℕ) → Step i (server_step i v) (signalled v)
unfolding table.server_of
signalling i v =
    record {
      none = λ t e. ap (λ (b : Bool). let r = table.server_by b t i (path.server_of (path_at t i) v) in (r.number, r.next)) e;
      there = λ t e. ap (λ (b : Bool). let r = table.server_by b t i (path.server_of (path_at t i) v) in (r.number, r.next)) e;
    }

module _ (s : List ℕ) (i v : ℕ) where
  pub server_absent : (r : Refusal) → number_of r ≡ found_of s i → Octets s → (number_of r, s) ≡ server_on s i v
  unfolding server_on
  server_absent = absent s i (server_step i v) (signalled v) (signalling i v)

  module _ (z : 0 ≡ found_of s i) where
    pub server_refused : (r : Refusal) → signalled_in (path_in s i) (Err r) ≡ path.server_of (path_in s i) v → Octets s → (number_of r, s) ≡ server_on s i v
    unfolding server_on
    server_refused r e o =
        refused s i (server_step i v) (signalled v) (signalling i v) (found s i 0 z refl) o (number_of r) (ap (λ (x : Signalled). (x.number, x.next)) (sym e))

    pub server_done : (next : Lsp) → signalled_in (path_in s i) (Ok next) ≡ path.server_of (path_in s i) v → (0, with_path s i next) ≡ server_on s i v
    unfolding server_on
    server_done next e =
        done s i (server_step i v) (signalled v) (signalling i v) (found s i 0 z refl) 0 next (ap (λ (x : Signalled). (x.number, x.next)) (sym e))

pub ruleset server_steps = (server_absent, server_refused, server_done)
