-- A new path obeys the rules of the image, and every step keeps them.
-- Assumes nothing.
use mathlib.Core.Path.{◌≡◌, refl}
use mathlib.Core.Bool.{Bool, true, false}
use mathlib.Core.List.{List}
use Prim.Native.Nat.{ℕ, zero, suc, ◌-◌, ◌≤◌, ◌<◌}
use native.Mathlib.Omega.{arith}
use lib.Dec.{eqb, leb}
use lib.ListN.{get_or, replicate}
use borrow.Author.Tests.{leb-false}
use Rattle.payload.specs.Test.{pick}
use Rattle.payload.specs.Layout.{Fields, cv, ffd, fdi, bdi, is_ttsi, is_defect, valid}
use Rattle.payload.specs.Reading.{Answer, shown, fields_at, read_of, accepts, ttsi_at}
use Rattle.payload.proofs.Tests.{never, both_right}
use Rattle.payload.proofs.Opened.{passed, shown_by}
use Rattle.rules.specs.Machine as machine
use Rattle.rules.specs.Claim.{Row}
use Rattle.rules.proofs.Apart.{apart}
use Rattle.window.specs.View.{view, full, turned_of}
use Rattle.lsp.specs.Steps.{gone, new_of, same, counts, counted_by, told_of, taken_by, receive_by, receive_of, server_of, faded_of, is_cv, closed_of, close_of}
use Rattle.lsp.specs.Sound.{SoundFdi, Sound, SoundKept}
use Rattle.lsp.specs.declared.path.Fdi.{Fdi}
use Rattle.lsp.specs.declared.path.Lsp.{Lsp}
use Rattle.lsp.specs.Outcomes.{Signalled}
use Rattle.lsp.proofs.Ranges.{receive_ranges, close_ranges}
use Rattle.lsp.proofs.SoundParts.{seen, with_parts, with_signals}

-- ---- the FDI

gone_sound : (kind : ℕ) → SoundFdi kind gone
gone_sound kind = record { left = omega arith; gone = λ e. (refl, refl); told = λ n. absurd (omega arith) }

faded_sound : (kind : ℕ) (f : Fdi) → SoundFdi kind f → SoundFdi kind (faded_of f)
faded_sound kind f w = go (leb f.left 1) refl
  where
    go : (b : Bool) → leb f.left 1 ≡ b → SoundFdi kind (pick b gone (record { left = f.left - 1; dt = f.dt; dl = f.dl }))
    go true q = gone_sound kind
    go false q =
        let m : 1 < f.left = leb-false f.left 1 q in
        record { left = omega (arith, w.left); gone = λ e. absurd (omega arith); told = λ n. w.told (omega arith) }

-- the type of an FDI that was read is a defect's
shown_defect : (f : Fields) → valid f ≡ true → eqb (shown f).type 0x02 ≡ true → is_defect (shown f).dt ≡ true
shown_defect (cv t) v h = absurd (never h)
shown_defect (ffd t r) v h = absurd (never h)
shown_defect (fdi t dt dl) v h = both_right (is_ttsi t) _ v
shown_defect (bdi t dt dl) v h = absurd (never h)

read_defect : (p : List ℕ) → accepts p ≡ true → eqb (read_of p).type 0x02 ≡ true → is_defect (read_of p).dt ≡ true
read_defect p a h =
    let q = passed p a in
    rw (shown_by p q) (shown_defect (fields_at p) q.valid (rw (shown_by p q) at h))

-- ---- a new path

zeros : (n i : ℕ) → ◌≡◌ {A = ℕ} (get_or (replicate n 0) i 0) 0
zeros zero i = refl
zeros (suc n) zero = refl
zeros (suc n) (suc i) = zeros n i

no_counts : (cut : ℕ) → Row cut 0 (replicate 11 0)
no_counts cut = record { long = refl; most = λ i. omega (arith, zeros 11 i); never = λ i n. zeros 11 i }

new_sound : (kind : ℕ) (ttsi : List ℕ) (dl : ℕ) → kind ≤ 6 → is_ttsi ttsi ≡ true → Sound (new_of kind ttsi dl)
new_sound kind ttsi dl k t =
    record {
      kind = k;
      ttsi = t;
      limit = omega arith;
      e = no_counts 12;
      u = no_counts 1;
      code = (λ e. refl, λ e. refl);
      stood = omega arith;
      early = λ c. refl;
      late = λ c. omega arith;
      available = λ c e. omega arith;
      unavailable = λ since e. apart (cc);
      fdi = gone_sound kind;
    }

module _ (l : Lsp) (w : Sound l) where
  -- ---- receiving

  counts_sound : (b : Bool) → Sound (counts l b)
  counts_sound true =
      with_parts l w (machine.receive machine.expected (view l.state)) l.fdi w.limit
      (receive_ranges (is_cv l) _ machine.expected (view l.state) (seen l w)) w.fdi
  counts_sound false =
      with_parts l w (machine.receive machine.unexpected (view l.state)) l.fdi w.limit
      (receive_ranges (is_cv l) _ machine.unexpected (view l.state) (seen l w)) w.fdi

  told_sound : (dt dl : ℕ) → is_defect dt ≡ true → Sound (told_of l dt dl)
  told_sound dt dl h = with_signals l w _ l.server (record { left = omega arith; gone = λ e. absurd (omega arith); told = λ n. h })

  by_count : (r : Answer) (own rate : Bool) → Sound (counted_by own rate l r).1
  by_count r true true = counts_sound true
  by_count r true false = w
  by_count r false rate = counts_sound false

  -- an accepted FDI has a defect type
  by_type : (r : Answer) (t : List ℕ) (b c : Bool) → (b ≡ true → is_defect r.dt ≡ true) → Sound (taken_by b c l r t).1
  by_type r t true c d = told_sound r.dt r.dl (d refl)
  by_type r t false true d = w
  by_type r t false false d = by_count r (same t l.ttsi) (eqb r.rate l.kind)

  receive_sound : (p : List ℕ) → Sound (receive_of l p).1
  unfolding receive_of
  receive_sound p = go (accepts p) refl
    where
      go : (b : Bool) → accepts p ≡ b → Sound (receive_by b l (read_of p) (ttsi_at p)).1
      go true a = by_type (read_of p) (ttsi_at p) (eqb (read_of p).type 0x02) (eqb (read_of p).type 0x03) (λ h. read_defect p a h)
      go false a = w

  -- ---- the close and the server signal

  close_sound : Sound (close_of l).next
  unfolding close_of
  close_sound = go (full l.state) refl
    where
      go : (b : Bool) → full l.state ≡ b → Sound (closed_of l (turned_of (is_cv l) l.state)).next
      go true q = rw q w
      go false q =
          let few = leb-false 1000000000000 l.state.closed q in
          rw q (with_parts l w (machine.close (is_cv l) (view l.state)) (faded_of l.fdi) (omega (arith, few))
          (close_ranges (view l.state) (is_cv l) (seen l w)) (faded_sound l.kind l.fdi w.fdi))

  server_sound : (value : ℕ) → Sound (server_of l value).next
  server_sound value = go (leb value 1)
    where
      go : (b : Bool) → Sound (pick {A = Signalled} b (record { number = 0; next = record { kind = l.kind; ttsi = l.ttsi; dl = l.dl; state = l.state; server = eqb value 1; fdi = l.fdi } }) (record { number = 12; next = l })).next
      go true = with_signals l w l.fdi (eqb value 1) w.fdi
      go false = w

pub sound_kept : SoundKept
sound_kept =
    record {
      fresh = new_sound;
      receive = λ l p w. receive_sound l w p;
      close = λ l w. close_sound l w;
      server = λ l value w. server_sound l w value;
    }
