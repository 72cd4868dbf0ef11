-- The events are calls, and reach a world with the table that the program has (`specs/Law.antt`). Assumes nothing.
use mathlib.Core.Path.{◌≡◌, refl, ap, ◌∙◌}
use mathlib.Core.Bool.{Bool, true, false}
use mathlib.Core.List.{List, [], ◌∷◌}
use Prim.Native.Nat.{ℕ, zero, suc, ◌<◌, ◌≤◌}
use native.Mathlib.Nat.{pow-le-pow_right}
use native.Mathlib.Omega.{arith}
use lib.Dec.{eqb}
use lib.ListN.{length, take, drop, length-take}
use Rattle.payload.specs.Law.{Octets}
use Rattle.octets.specs.Parts.{part, number_at}
use Rattle.octets.proofs.Laws.{number_lt}
use Rattle.octets.proofs.Parts.{part_octets, drop-octets}
use Rattle.table.specs.declared.paths.Table.{Table}
use Rattle.history.specs.Calls.{Call, Given, Plain, table_after, World, next, Reach, empty, calling}
use Rattle.history.specs.Calls as calls
use Rattle.events.specs.Framing.{frame_of}
use Rattle.events.specs.Event.{tag_in, told_by, told_of}
use Rattle.events.specs.Printed.{after, ran_by, ran_of, begin}
use Rattle.events.specs.Law.{call_by, call_of, calls_by, calls_of, Reached}
use Rattle.events.specs.Field.{Field}
use Rattle.events.specs.Field as field
use Rattle.events.specs.declared.reckoning.Reckoning.{Reckoning}

-- ---- one call

-- four octets, or fewer, are a number of 32 bits
four_lt : (s : List ℕ) (a : ℕ) → Octets s → number_at s a 4 < 0x1_0000_0000
four_lt s a o =
    let l : length (part s a 4) ≤ 4 = simp length-take (omega arith) in
    omega (arith, pow-le-pow_right {n = 256} (omega arith) l, number_lt (part s a 4) (part_octets s a 4 o))

-- the call may be made, and moves the table as the event does
told : (a b c : Bool) (t : Table) (f : List ℕ) → Octets f
    → Given (call_by a b c f) × Plain (call_by a b c f) × (table_after (call_by a b c f) t ≡ (told_by a b c t f).next)
told true b c t f o = ((part_octets f 4 20 o, four_lt f 24 o), tt, refl)
told false true c t f o = (drop-octets f o 4, tt, refl)
told false false true t f o = (tt, tt, refl)
told false false false t f o = (tt, tt, refl)

-- ---- any events

-- a world that the calls reach, with the table
abbrev At : List Call → Table → Type 0
At cs t = (w : World) × Reach cs w × (w.table ≡ t)

one_on : (cs : List Call) (r : Reckoning) (n : ℕ) (s : List ℕ) → Octets s → At cs r.table → At (call_of (take n s) ∷ cs) (after r n s).table
unfolding told_of
one_on cs r n s o w =
    let f = take n s in
    let g = told (eqb (tag_in f) 0x11) (eqb (tag_in f) 0x12) (eqb (tag_in f) 0x13) w.0.table f (part_octets s 0 n o) in
    (next (call_of f) w.0, calling w.1 (call_of f) g.0 g.1, g.2 ∙ ap (λ (t : Table). (told_of t f).next) w.2)

walk : (k : ℕ) (r : Reckoning) (s : List ℕ) → Octets s → (cs : List Call) → At cs r.table → At (calls_of k s cs) (ran_of k r s).next.table
unfolding calls_of ran_of
walk zero r s o cs w = w
walk (suc k) r s o cs w = go (frame_of s) (λ n. walk k (after r n s) (drop n s) (drop-octets s o n) (call_of (take n s) ∷ cs) (one_on cs r n s o w))
  where
    go : (f : Field) → ((n : ℕ) → At (calls_of k (drop n s) (call_of (take n s) ∷ cs)) (ran_of k (after r n s) (drop n s)).next.table)
        → At (calls_by f s cs (λ n. calls_of k (drop n s) (call_of (take n s) ∷ cs))) (ran_by f r s (λ n. ran_of k (after r n s) (drop n s))).next.table
    go field.Cut on = w
    go field.Bad on = w
    go (field.Whole n) on = on n

at_last : (k : ℕ) (s : List ℕ) → Octets s → At (calls_of k s []) (ran_of k begin s).next.table
at_last k s o = walk k begin s o [] (calls.start, empty, refl)

pub reached : Reached
reached = record { world = λ k s o. (at_last k s o).0; reach = λ k s o. (at_last k s o).1; table = λ k s o. (at_last k s o).2 }
