-- Availability and record at a close: the machine's turn is what the rules say, with k slots a second. Assumes nothing.
use Prim.Native.Nat.{ℕ, suc}
use mathlib.Core.Path.{◌≡◌, refl, subst}
use mathlib.Core.Bool.{Bool, true, false, cond}
use native.Mathlib.Omega.{arith}
use borrow.Author.Tests.{eqb-true, eqb-false}
use Rattle.rules.specs.Counts.{Counts}
use Rattle.rules.specs.Rules.{Stands, Clears, StoodLong, Declared, HandsOut}
use Rattle.rules.specs.Machine.{Defect, none, stands, Availability, available, unavailable, Turn, goes_on, declares, long_enough, turn}
use Rattle.rules.specs.Claim.{GivesDefect}
use Rattle.rules.proofs.Stood.{StoodIs, stood_enough, stood_few, stood_late, stood_stands}
use Rattle.rules.proofs.Availability.{Cleared, AvailabilityIs, cleared_now, cleared_next, declared_now, declared_next}
use Rattle.rules.proofs.Records.{nothing_yet, nothing_standing, nothing_quiet, hands_U, hands_B}

module _ (k : ℕ) (c : Counts) where
  -- what is right after n, of availability and record
  pub record TurnIs (n : ℕ) (w : Turn) : Type 0 where
    pub next : AvailabilityIs k c n w.next
    pub handed : HandsOut k c n w.handed

  -- b is what the clearing's test gave at the close of n
  abbrev pub ClearsIf : ℕ → Bool → Type 0
  ClearsIf n true = (Stands c n → ⊥) → Clears k c n
  ClearsIf n false = Clears k c n → ⊥

  quiet_next : (n : ℕ) → (Stands c (suc n) → ⊥) → Cleared k c n → Cleared k c (suc n)
  quiet_next n h o = cleared_next k c n (λ s. h (stood_stands k c (suc n) s)) o

  turn_standing : (n t : ℕ) → Cleared k c n → Stands c (suc n) → StoodIs k c (suc n) t
      → TurnIs (suc n) (cond (long_enough k t) (declares k (suc n)) (goes_on available))
  unfolding long_enough
  turn_standing n t o s w = go (long_enough k t) refl
    where
      go : (b : Bool) → long_enough k t ≡ b → TurnIs (suc n) (cond b (declares k (suc n)) (goes_on available))
      go true h =
          let full : StoodLong k c (suc n) = stood_enough k c w.last (suc n) w.since (omega (arith, eqb-true t _ h, w.closes)) in
          record {
            next = subst (λ (m : ℕ). Declared k c m (suc n)) (omega (arith, stood_late k c (suc n) full)) (declared_now k c n full o);
            handed = nothing_standing k c (suc n) s;
          }
      go false h =
          let short = eqb-false t _ h in
          record {
            next = cleared_next k c n (stood_few k c w.last (suc n) w.since (omega (arith, short, w.closes))) o;
            handed = nothing_standing k c (suc n) s;
          }

  pub turn_step : (n : ℕ) (a : Availability) (d : Defect) (t : ℕ) (d' : Defect) (t' : ℕ) (b : Bool)
      → AvailabilityIs k c n a → GivesDefect c n d → StoodIs k c n t → GivesDefect c (suc n) d' → StoodIs k c (suc n) t' → ClearsIf (suc n) b
      → TurnIs (suc n) (turn k (suc n) a d t d' t' b)
  unfolding turn
  turn_step n (unavailable from) d t none t' true a h w h' w' z =
      let clear : Clears k c (suc n) = z h' in
      record { next = cleared_now k c n clear; handed = hands_U k c from n clear a }
  turn_step n (unavailable from) d t none t' false a h w h' w' z =
      record { next = declared_next k c _ n z a; handed = nothing_yet k c _ n z a }
  turn_step n (unavailable from) d t (stands x) t' b a h w h' w' z =
      record { next = declared_next k c _ n (λ y. y.quiet h'.0) a; handed = nothing_standing k c (suc n) h'.0 }
  turn_step n available none t none t' b a h w h' w' z = record { next = quiet_next n h' a; handed = nothing_quiet k c n a h }
  turn_step n available (stands x) t none t' b a h w h' w' z =
      record { next = quiet_next n h' a; handed = hands_B k c w.last t n a (quiet_next n h' a) h.0 h' w.since w.closes }
  turn_step n available d t (stands x) t' b a h w h' w' z = turn_standing n t' a h'.0 w'
