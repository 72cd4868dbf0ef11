-- The test of a path is its rules: each part by itself, then all of them. Assumes nothing.
use mathlib.Core.Path.{◌≡◌, refl, ap, sym, ◌∙◌}
use mathlib.Core.Bool.{Bool, true, false}
use mathlib.Core.Logic.{◌↔◌}
use Prim.Native.Nat.{ℕ, ◌-◌, ◌≤◌, ◌<◌}
use native.Mathlib.Omega.{arith}
use lib.Dec.{eqb, leb}
use borrow.Author.Tests.{eq-eqb, ne_eqb, eqb-true, eqb-false, le-leb, lt-leb, leb-true, leb-false}
use Rattle.payload.specs.Test.{pick, both, either}
use Rattle.payload.specs.Layout.{is_defect}
use Rattle.payload.proofs.Tests.{never, both_left, both_right}
use Rattle.rules.proofs.Apart.{apart}
use Rattle.window.specs.View.{standing}
use Rattle.window.specs.declared.state.Defect.{Defect}
use Rattle.window.specs.declared.state.Defect.TheVariants.{Clear, Mismatch, Mismerge, Locv, Excess}
use Rattle.window.specs.declared.state.Availability.{Availability}
use Rattle.window.specs.declared.state.Availability.TheVariants.{Available, Unavailable}
use Rattle.lsp.specs.Sound.{SoundFdi, Sound, is_code, closes_judged, is_stood, last_since, is_availability, most_left, is_fdi, tests, sound, SoundTested}
use Rattle.lsp.specs.declared.path.Fdi.{Fdi}
use Rattle.lsp.specs.declared.path.Lsp.{Lsp}
use Rattle.lsp.proofs.Answers.{each, every}
use Rattle.lsp.proofs.Rows.{test_row, row_test}

-- ---- the code and the closes stood

clear_is : (d : Defect) → standing d ≡ false → d ≡ Clear
clear_is Clear h = refl
clear_is Mismatch h = let z : true ≡ false = h in absurd (never (sym z))
clear_is Mismerge h = let z : true ≡ false = h in absurd (never (sym z))
clear_is Locv h = let z : true ≡ false = h in absurd (never (sym z))
clear_is Excess h = let z : true ≡ false = h in absurd (never (sym z))

module _ (d : Defect) (stood : ℕ) where
  not_clear : standing d ≡ true → d ≡ Clear → ⊥
  not_clear s e = never (sym (ap standing e) ∙ s)

  test_code : is_code d stood ≡ true → (d ≡ Clear) ↔ (stood ≡ 0)
  test_code = go (standing d) refl
    where
      go : (b : Bool) → standing d ≡ b → pick b (leb 1 stood) (eqb stood 0) ≡ true → (d ≡ Clear) ↔ (stood ≡ 0)
      go true s h = (λ e. absurd (not_clear s e), λ e. absurd (omega (arith, leb-true 1 stood h)))
      go false s h = (λ e. eqb-true stood 0 h, λ e. clear_is d s)

  code_test : (d ≡ Clear) ↔ (stood ≡ 0) → is_code d stood ≡ true
  code_test r = go (standing d) refl
    where
      go : (b : Bool) → standing d ≡ b → pick b (leb 1 stood) (eqb stood 0) ≡ true
      go true s = let n : stood ≡ 0 → ⊥ = λ e. not_clear s (r.1 e) in le-leb 1 stood (omega arith)
      go false s = eq-eqb stood 0 (r.0 (clear_is d s))

record Stood (closed stood : ℕ) : Type 0 where
  most : stood ≤ 11
  early : closed < 3 → stood ≡ 0
  late : 3 ≤ closed → stood ≤ closed - 2

module _ (closed stood : ℕ) where
  test_stood : is_stood closed stood ≡ true → Stood closed stood
  test_stood h =
      let m : stood ≤ closes_judged closed = leb-true _ _ (both_right (leb stood 11) (leb stood (closes_judged closed)) h) in
      record { most = leb-true _ _ (both_left (leb stood 11) _ h); early = λ c. omega arith; late = λ c. omega arith }

  stood_test : Stood closed stood → is_stood closed stood ≡ true
  stood_test w = simp (le-leb stood 11 w.most, le-leb stood (closes_judged closed) (go (leb 3 closed) refl))
    where
      go : (b : Bool) → leb 3 closed ≡ b → stood ≤ closes_judged closed
      go true q = omega (arith, w.late (leb-true 3 closed q))
      go false q = omega (arith, w.early (leb-false 3 closed q))

-- ---- availability

either_right : (a b : Bool) → a ≡ false → either a b ≡ true → b ≡ true
either_right a b h e = rw h at e

module _ (kind closed stood : ℕ) where
  abbrev WhenAvailable : Availability → Type 0
  WhenAvailable a = kind ≡ 0 → a ≡ Available → stood ≤ 10

  abbrev WhenUnavailable : Availability → Type 0
  WhenUnavailable a = (since : ℕ) → a ≡ Unavailable since → (kind ≡ 0) × (1 ≤ since) × (since ≤ closed - 12)

  test_in : (a : Availability) → is_availability kind closed stood a ≡ true → WhenAvailable a
  test_in Available h k e = leb-true _ _ (either_right (leb 1 kind) _ (lt-leb 1 kind (omega arith)) h)
  test_in (Unavailable f) h k e = apart (cc)

  test_out : (a : Availability) → is_availability kind closed stood a ≡ true → WhenUnavailable a
  test_out Available h since e = apart (cc)
  test_out (Unavailable f) h since e =
      let same : f ≡ since = cc in
      let m = both_right (eqb kind 0) _ h in
      let k : kind ≡ 0 = eqb-true kind 0 (both_left (eqb kind 0) _ h) in
      (k, omega (arith, leb-true 1 f (both_left (leb 1 f) _ m)), omega (arith, leb-true f (last_since closed) (both_right (leb 1 f) _ m)))

  availability_test : (a : Availability) → WhenAvailable a → WhenUnavailable a → is_availability kind closed stood a ≡ true
  availability_test Available i o = go (leb 1 kind) refl
    where
      go : (b : Bool) → leb 1 kind ≡ b → either b (leb stood 10) ≡ true
      go true q = refl
      go false q = le-leb stood 10 (i (omega (arith, leb-false 1 kind q)) refl)
  availability_test (Unavailable f) i o =
      let q = o f refl in
      simp (eq-eqb kind 0 q.0, le-leb 1 f q.1, le-leb f (last_since closed) (omega (arith, q.2)))

-- ---- the FDI

module _ (kind : ℕ) (f : Fdi) where
  test_fdi : is_fdi kind f ≡ true → SoundFdi kind f
  test_fdi h =
      let m : f.left ≤ most_left kind = leb-true _ _ (both_left (leb f.left (most_left kind)) _ h) in
      let rest = both_right (leb f.left (most_left kind)) _ h in
      record {
        left = omega arith;
        gone = λ e.
            let z : both (eqb f.dt 0) (eqb f.dl 0) ≡ true = rw (eq-eqb f.left 0 e) at rest in
            (eqb-true _ _ (both_left (eqb f.dt 0) _ z), eqb-true _ _ (both_right (eqb f.dt 0) _ z));
        told = λ l. rw (ne_eqb f.left 0 (omega arith)) at rest;
      }

  fdi_test : SoundFdi kind f → is_fdi kind f ≡ true
  fdi_test w = rw (le-leb f.left (most_left kind) (omega (arith, w.left))) (go (eqb f.left 0) refl)
    where
      go : (b : Bool) → eqb f.left 0 ≡ b → pick b (both (eqb f.dt 0) (eqb f.dl 0)) (is_defect f.dt) ≡ true
      go true q = let z = w.gone (eqb-true f.left 0 q) in simp (eq-eqb f.dt 0 z.0, eq-eqb f.dl 0 z.1)
      go false q = let n : f.left ≡ 0 → ⊥ = eqb-false f.left 0 q in w.told (omega arith)

-- ---- the path

module _ (l : Lsp) where
  test_sound : sound l ≡ true → Sound l
  unfolding sound
  test_sound h =
      let t = each (tests l) h in
      let s = test_stood l.state.closed l.state.stood t.1.1.1.1.1.1.0 in
      record {
        kind = leb-true _ _ t.0;
        ttsi = t.1.0;
        limit = leb-true _ _ t.1.1.0;
        e = test_row _ _ _ _ t.1.1.1.0 (omega arith);
        u = test_row _ _ _ _ t.1.1.1.1.0 (omega arith);
        code = test_code l.state.defect l.state.stood t.1.1.1.1.1.0;
        stood = s.most;
        early = s.early;
        late = s.late;
        available = test_in l.kind l.state.closed l.state.stood l.state.availability t.1.1.1.1.1.1.1.0;
        unavailable = test_out l.kind l.state.closed l.state.stood l.state.availability t.1.1.1.1.1.1.1.0;
        fdi = test_fdi l.kind l.fdi t.1.1.1.1.1.1.1.1.0;
      }

  sound_test : Sound l → sound l ≡ true
  unfolding sound
  sound_test w =
      every (tests l) (
        le-leb _ _ w.kind,
        (
          w.ttsi,
          (
            le-leb _ _ w.limit,
            (
              row_test _ _ _ _ w.e (omega arith),
              (
                row_test _ _ _ _ w.u (omega arith),
                (
                  code_test l.state.defect l.state.stood w.code,
                  (
                    stood_test l.state.closed l.state.stood (record { most = w.stood; early = w.early; late = w.late }),
                    (
                      availability_test l.kind l.state.closed l.state.stood l.state.availability w.available w.unavailable,
                      (fdi_test l.kind l.fdi w.fdi, tt),
                    ),
                  ),
                ),
              ),
            ),
          ),
        ),
      )

pub sound_tested : SoundTested
sound_tested l = (test_sound l, sound_test l)
