-- What a call answers by what was found, over plain values. Assumes nothing.
use mathlib.Core.Path.{◌≡◌, refl, sym, ap, ap₂, ◌∙◌}
use mathlib.Core.Bool.{Bool, true, false}
use mathlib.Core.List.{List}
use Prim.Native.Nat.{ℕ, ◌+◌, ◌*◌, ◌-◌, ◌≤◌, ◌<◌}
use native.Mathlib.Omega.{arith}
use lib.Dec.{eqb, ltb}
use lib.ListN.{length, take, drop}
use borrow.Author.Tests.{lt-ltb, ltb-true}
use Rattle.refusal.specs.Numbers.{number_of}
use Rattle.refusal.specs.declared.Refusal.{Refusal}
use Rattle.refusal.proofs.Numbers.{refuses}
use Rattle.payload.specs.Law.{Octets}
use Rattle.table.specs.Steps.{present}
use Rattle.table.specs.declared.paths.Table.{Table}
use Rattle.field.specs.Field.{path_of}
use Rattle.image.specs.Image.{is_image, image_in, count_in, image_length, table_of, restore_by}
use Rattle.image.proofs.Prefix.{begun}
use Rattle.host.specs.Calls.{is_long, is_held, table_in, saved_in, opened_by, opened_of, found_by, found_of, called_by, called}
use Rattle.host.specs.Records.{path_in}
use Rattle.host.proofs.InPlace.{present_in, path_in_place, unchanged}

held_by : (b : Bool) (t : Table) → eqb (restore_by b t).number 0 ≡ b
held_by true t = refl
held_by false t = refl

pub held_image : (s : List ℕ) → is_held s ≡ is_image (image_in s)
held_image s = held_by (is_image (image_in s)) (table_of (image_in s))

-- ---- opening

-- what 0 says
pub record Open (s : List ℕ) : Type 0 where
  pub long : is_long s ≡ true
  pub held : is_held s ≡ true
  pub image : is_image (image_in s) ≡ true

module _ (s : List ℕ) where
  opened_by_lem : (long held : Bool) → is_long s ≡ long → is_held s ≡ held → opened_of s ≡ opened_by long held
  opened_by_lem long held p q = ap₂ opened_by p q

  pub open_is : 0 ≡ opened_of s → Open s
  open_is e = go (is_long s) refl (is_held s) refl
    where
      go : (long : Bool) → is_long s ≡ long → (held : Bool) → is_held s ≡ held → Open s
      go false p held q = absurd (omega (arith, e, opened_by_lem false held p q))
      go true p false q = absurd (omega (arith, e, opened_by_lem true false p q))
      go true p true q = record { long = p; held = q; image = sym (held_image s) ∙ q }

  pub fits : Open s → (image_length (count_in s) ≤ length s) × (count_in s ≤ 64)
  fits w = begun s w.image

  pub records_fit : 0 ≡ opened_of s → 5 + 79 * count_in s ≤ length s
  records_fit z = (fits (open_is z)).0

  module _ (f : Table → ℕ × Table) where
    by : (long held : Bool) → is_long s ≡ long → is_held s ≡ held → called_by long held (f (table_in s)) s ≡ called f s
    by long held p q = sym (ap₂ (λ (a b : Bool). called_by a b (f (table_in s)) s) p q)

    pub not_long : is_long s ≡ false → (11, s) ≡ called f s
    not_long p = by false (is_held s) p refl

    pub not_held : is_long s ≡ true → is_held s ≡ false → (10, s) ≡ called f s
    not_held p q = by true false p q

    -- a call that ends at the opening
    pub not_open : (r : Refusal) → number_of r ≡ opened_of s → (number_of r, s) ≡ called f s
    not_open r e = go (is_long s) refl (is_held s) refl
      where
        go : (long : Bool) → is_long s ≡ long → (held : Bool) → is_held s ≡ held → (number_of r, s) ≡ called f s
        go false p held q = ap (λ (k : ℕ). (k, s)) (e ∙ opened_by_lem false held p q) ∙ not_long p
        go true p false q = ap (λ (k : ℕ). (k, s)) (e ∙ opened_by_lem true false p q) ∙ not_held p q
        go true p true q = absurd (refuses r (e ∙ opened_by_lem true true p q))

  module _ (w : Open s) (f : Table → ℕ × Table) where
    -- a call that goes on
    pub goes_on : called f s ≡ ((f (table_in s)).0, saved_in (f (table_in s)).1 s)
    goes_on = ap₂ (λ (a b : Bool). called_by a b (f (table_in s)) s) w.long w.held

    -- a call that leaves the table as it was
    pub leaves : Octets s → (n : ℕ) → f (table_in s) ≡ (n, table_in s) → (n, s) ≡ called f s
    leaves o n e = sym (goes_on ∙ ap (λ (r : ℕ × Table). (r.0, saved_in r.1 s)) e ∙ ap (λ (x : List ℕ). (n, x)) (unchanged s w.image o))

-- ---- finding

-- what 0 says
pub record Found (s : List ℕ) (i : ℕ) : Type 0 where
  pub opens : Open s
  pub there : ltb i (present (table_in s)) ≡ true
  pub less : i < count_in s
  pub ends : 5 + 79 * i + 79 ≤ length s

-- what 11, 10 and 1 say
pub data Missing (s : List ℕ) (i n : ℕ) : Type 0 where
  short : is_long s ≡ false → n ≡ 11 → Missing s i n
  broken : is_long s ≡ true → is_held s ≡ false → n ≡ 10 → Missing s i n
  no_path : Open s → ltb i (present (table_in s)) ≡ false → n ≡ 1 → Missing s i n

module _ (s : List ℕ) (i : ℕ) where
  found_by_lem : (long held there : Bool) → is_long s ≡ long → is_held s ≡ held → ltb i (present (table_in s)) ≡ there → found_by long held there ≡ found_of s i
  found_by_lem long held there p q r =
      sym (ap₂ (λ (a b : Bool). found_by a b (ltb i (present (table_in s)))) p q ∙ ap (found_by long held) r)

  module _ (z : 0 ≡ opened_of s) (h : i < count_in s) where
    w : Open s
    w = open_is s z

    pub a_path : 0 ≡ found_of s i
    a_path = found_by_lem true true true w.long w.held (lt-ltb i _ (omega (arith, present_in s w.image)))

    pub path_here : path_of (take (5 + 79 * i + 79 - (5 + 79 * i)) (drop (5 + 79 * i) s)) ≡ path_in s i
    unfolding path_in
    path_here = path_in_place s w.image i h

  module _ (n : ℕ) (e : n ≡ found_of s i) where
    by_lem : (long held there : Bool) → is_long s ≡ long → is_held s ≡ held → ltb i (present (table_in s)) ≡ there → n ≡ found_by long held there
    by_lem long held there p q r = e ∙ sym (found_by_lem long held there p q r)

    pub found : n ≡ 0 → Found s i
    found z = go (is_long s) refl (is_held s) refl (ltb i (present (table_in s))) refl
      where
        go : (long : Bool) → is_long s ≡ long → (held : Bool) → is_held s ≡ held → (there : Bool) → ltb i (present (table_in s)) ≡ there → Found s i
        go false p held q there r = absurd (omega (arith, z, by_lem false held there p q r))
        go true p false q there r = absurd (omega (arith, z, by_lem true false there p q r))
        go true p true q false r = absurd (omega (arith, z, by_lem true true false p q r))
        go true p true q true r =
            let y : is_image (image_in s) ≡ true = sym (held_image s) ∙ q in
            let m : i < count_in s = omega (arith, ltb-true i _ r, present_in s y) in
            record { opens = record { long = p; held = q; image = y }; there = r; less = m; ends = omega (arith, (begun s y).0) }

    pub missing : (n ≡ 0 → ⊥) → Missing s i n
    missing z = go (is_long s) refl (is_held s) refl (ltb i (present (table_in s))) refl
      where
        go : (long : Bool) → is_long s ≡ long → (held : Bool) → is_held s ≡ held → (there : Bool) → ltb i (present (table_in s)) ≡ there → Missing s i n
        go false p held q there r = short p (by_lem false held there p q r)
        go true p false q there r = broken p q (by_lem true false there p q r)
        go true p true q false r = no_path (record { long = p; held = q; image = sym (held_image s) ∙ q }) r (by_lem true true false p q r)
        go true p true q true r = absurd (z (by_lem true true true p q r))
