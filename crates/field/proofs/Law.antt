-- A field and its path are inverse: octets are a field exactly where they are the octets of a path that obeys the rules. Assumes nothing.
use mathlib.Core.Path.{◌≡◌, refl, sym, ap, ap₂, ◌∙◌, subst}
use mathlib.Core.Bool.{true}
use mathlib.Core.List.{List, [], ◌∷◌}
use Prim.Native.Nat.{ℕ, ◌+◌, ◌-◌, ◌^◌, ◌≤◌, ◌<◌}
use native.Mathlib.Omega.{arith}
use lib.Dec.{eqb, leb}
use lib.ListN.{length, get_or}
use lib.Seq.{get_or-take}
use borrow.Author.Tests.{eqb-true, eq-eqb}
use Rattle.payload.specs.Law.{Octets}
use Rattle.payload.proofs.Rows.{ttsi_long}
use Rattle.payload.proofs.RateTables.{life_most}
use Rattle.octets.specs.Number.{octets, number_of}
use Rattle.octets.specs.Parts.{joined, part, number_at, octet_at, cut_from}
use Rattle.octets.proofs.Laws.{length-octets, number_octets}
use Rattle.octets.proofs.Parts.{joined_parts, parts_joined, length-joined, part_octets, number_part, number_part_lt, octet_part, one_octet}
use Rattle.window.specs.View.{code_of, unavailable_of}
use Rattle.window.specs.declared.state.Availability.{Availability}
use Rattle.window.specs.declared.state.Availability.TheVariants.{Available, Unavailable}
use Rattle.lsp.specs.Sound.{Sound, SoundFdi, sound}
use Rattle.lsp.specs.declared.path.Fdi.{Fdi}
use Rattle.lsp.specs.declared.path.Lsp.{Lsp}
use Rattle.lsp.proofs.Answers.{Each, each, every}
use Rattle.lsp.proofs.Soundness.{sound_tested}
use Rattle.field.specs.Field.{server_of, parts_of, field_of, defect_of, availability_of, path_in, path_of, is_plain_code, is_plain_availability, field_tests, is_field}
use Rattle.field.specs.Law.{Typed, FieldLaw}
use Rattle.field.proofs.Codes.{defect_forth, code_lt, code_back, availability_forth, availability_plain, availability_back, server_forth, server_plain, server_back, defect_type_lt}

abbrev widths : List ℕ
widths = 3 ∷ 1 ∷ 20 ∷ 4 ∷ 8 ∷ 11 ∷ 11 ∷ 2 ∷ 1 ∷ 1 ∷ 8 ∷ 1 ∷ 2 ∷ 2 ∷ 4 ∷ []

-- ---- octets that are a field, back from their path

head_part : (s : List ℕ) → length s ≡ 79 → part s 0 3 ≡ octet_at s 0 ∷ octet_at s 1 ∷ octet_at s 2 ∷ []
head_part [] n = absurd (omega arith)
head_part (a ∷ []) n = absurd (omega arith)
head_part (a ∷ b ∷ []) n = absurd (omega arith)
head_part (a ∷ b ∷ c ∷ s) n = refl

module _ (s : List ℕ) (o : Octets s) (t : is_field s ≡ true) where
  tests : Each (field_tests s)
  unfolding is_field
  tests = each (field_tests s) t

  pub size : length s ≡ 79
  size = eqb-true (length s) 79 tests.0

  head_back : 0x02 ∷ 0 ∷ 76 ∷ [] ≡ part s 0 3
  head_back =
      cc (
        head_part s size,
        eqb-true (octet_at s 0) 0x02 tests.1.0,
        eqb-true (octet_at s 1) 0 tests.1.1.0,
        eqb-true (octet_at s 2) 76 tests.1.1.1.0,
      )

  number : (a w : ℕ) → a + w ≤ 79 → octets w (number_at s a w) ≡ part s a w
  number a w h = number_part s a w (omega (arith, size)) o

  octet : (a : ℕ) → a + 1 ≤ 79 → octet_at s a ∷ [] ≡ part s a 1
  octet a h = octet_part s a (omega (arith, size))

  parts_back : parts_of (path_in s) ≡ cut_from 0 widths s
  unfolding path_in
  parts_back =
      let kind = octet 3 (omega arith) in
      let dl = number 24 4 (omega arith) in
      let closed = number 28 8 (omega arith) in
      let code = ap (octets 2) (code_back (number_at s 58 2) tests.1.1.1.1.0) ∙ number 58 2 (omega arith) in
      let stood = octet 60 (omega arith) in
      let since = availability_back (octet_at s 61) (number_at s 62 8) tests.1.1.1.1.1.0 in
      let flag = ap (λ (p : ℕ × ℕ). p.0 ∷ []) since ∙ octet 61 (omega arith) in
      let slot = ap (λ (p : ℕ × ℕ). octets 8 p.1) since ∙ number 62 8 (omega arith) in
      let server = ap (λ (n : ℕ). n ∷ []) (server_back (octet_at s 70) tests.1.1.1.1.1.1.0) ∙ octet 70 (omega arith) in
      let left = number 71 2 (omega arith) in
      let dt = number 73 2 (omega arith) in
      let far = number 75 4 (omega arith) in
      λ i. head_back i ∷ kind i ∷ part s 4 20 ∷ dl i ∷ closed i ∷ part s 36 11 ∷ part s 47 11
      ∷ code i ∷ stood i ∷ flag i ∷ slot i ∷ server i ∷ left i ∷ dt i ∷ far i ∷ []

  pub field_back : field_of (path_in s) ≡ s
  unfolding field_of
  field_back = ap joined parts_back ∙ joined_parts widths s size

  pub path_sound : Sound (path_in s)
  path_sound = (sound_tested (path_in s)).0 tests.1.1.1.1.1.1.1.0

  pub path_typed : Typed (path_in s)
  unfolding path_in
  path_typed =
      record {
        ttsi = part_octets s 4 20 o;
        dl = number_part_lt s 24 4 (omega (arith, size)) o;
        fdi_dl = number_part_lt s 75 4 (omega (arith, size)) o;
      }

-- ---- a path that obeys its rules, back from its octets

since_lt : (closed : ℕ) (a : Availability) → ((since : ℕ) → a ≡ Unavailable since → since ≤ closed - 12) → closed ≤ 1000000000000 → (unavailable_of a).1 < 256 ^ 8
since_lt closed Available h l = omega arith
since_lt closed (Unavailable since) h l = omega (arith, h since refl)

fdi_dt_lt : (kind : ℕ) (f : Fdi) → SoundFdi kind f → f.dt < 65536
fdi_dt_lt kind f h = grind (arith, h.gone, h.told, defect_type_lt f.dt)

module _ (l : Lsp) (h : Sound l) where
  parts_forth : cut_from 0 widths (field_of l) ≡ parts_of l
  unfolding field_of
  parts_forth = (rw (ttsi_long l.ttsi h.ttsi, h.e.long, h.u.long, length-octets, length-octets, length-octets, length-octets, length-octets, length-octets, length-octets) at (parts_joined (parts_of l)))

  pub length-field : length (field_of l) ≡ 79
  unfolding field_of
  length-field = (rw (ttsi_long l.ttsi h.ttsi, h.e.long, h.u.long, length-octets, length-octets, length-octets, length-octets, length-octets, length-octets, length-octets) at (length-joined (parts_of l)))

  -- part j of the layout
  at : (j : ℕ) → get_or (cut_from 0 widths (field_of l)) j [] ≡ get_or (parts_of l) j []
  at j = ap (λ (ps : List (List ℕ)). get_or ps j []) parts_forth

  octet_forth : (a x : ℕ) → part (field_of l) a 1 ≡ x ∷ [] → octet_at (field_of l) a ≡ x
  octet_forth a x e = sym (one_octet (field_of l) a) ∙ ap (λ (p : List ℕ). get_or p 0 0) e

  number_forth : (a w x : ℕ) → part (field_of l) a w ≡ octets w x → x < 256 ^ w → number_at (field_of l) a w ≡ x
  number_forth a w x e b = ap number_of e ∙ number_octets w x b

  pub path_forth : Typed l → path_in (field_of l) ≡ l
  unfolding path_in
  path_forth t =
      let kind = octet_forth 3 l.kind (at 1) in
      let dl = number_forth 24 4 l.dl (at 3) t.dl in
      let closed = number_forth 28 8 l.state.closed (at 4) (omega (arith, h.limit)) in
      let defect = ap defect_of (number_forth 58 2 (code_of l.state.defect) (at 7) (code_lt l.state.defect)) ∙ defect_forth l.state.defect in
      let stood = octet_forth 60 l.state.stood (at 8) in
      let flag = octet_forth 61 (unavailable_of l.state.availability).0 (at 9) in
      let slot = number_forth 62 8 (unavailable_of l.state.availability).1 (at 10)
      (since_lt l.state.closed l.state.availability (λ n e. (h.unavailable n e).2) h.limit) in
      let availability = ap₂ availability_of flag slot ∙ availability_forth l.state.availability in
      let server = ap (λ (n : ℕ). eqb n 1) (octet_forth 70 (server_of l.server) (at 11)) ∙ server_forth l.server in
      let left = number_forth 71 2 l.fdi.left (at 12) (omega (arith, h.fdi.left, life_most l.kind)) in
      let dt = number_forth 73 2 l.fdi.dt (at 13) (fdi_dt_lt l.kind l.fdi h.fdi) in
      let far = number_forth 75 4 l.fdi.dl (at 14) t.fdi_dl in
      λ i.
      record {
        kind = kind i;
        ttsi = at 2 i;
        dl = dl i;
        state = record { closed = closed i; e = at 5 i; u = at 6 i; defect = defect i; stood = stood i; availability = availability i };
        server = server i;
        fdi = record { left = left i; dt = dt i; dl = far i };
      }

  pub field_forth : Typed l → is_field (field_of l) ≡ true
  unfolding is_field
  field_forth t =
      let code = number_forth 58 2 (code_of l.state.defect) (at 7) (code_lt l.state.defect) in
      let flag = octet_forth 61 (unavailable_of l.state.availability).0 (at 9) in
      let slot = number_forth 62 8 (unavailable_of l.state.availability).1 (at 10)
      (since_lt l.state.closed l.state.availability (λ n e. (h.unavailable n e).2) h.limit) in
      every (field_tests (field_of l)) (
        eq-eqb (length (field_of l)) 79 length-field,
        (
          eq-eqb (octet_at (field_of l) 0) 0x02 (tag_forth 0 (omega arith)),
          (
            eq-eqb (octet_at (field_of l) 1) 0 (tag_forth 1 (omega arith)),
            (
              eq-eqb (octet_at (field_of l) 2) 76 (tag_forth 2 (omega arith)),
              (
                ap is_plain_code code ∙ eq-eqb (code_of l.state.defect) _ (ap code_of (sym (defect_forth l.state.defect))),
                (
                  ap₂ is_plain_availability flag slot ∙ availability_plain l.state.availability,
                  (
                    ap (λ (n : ℕ). leb n 1) (octet_forth 70 (server_of l.server) (at 11)) ∙ server_plain l.server,
                    (
                      ap sound (path_forth t) ∙ (sound_tested l).1 h,
                      tt,
                    ),
                  ),
                ),
              ),
            ),
          ),
        ),
      )
    where
      tag_forth : (j : ℕ) → j < 3 → octet_at (field_of l) j ≡ get_or (0x02 ∷ 0 ∷ 76 ∷ []) j 0
      tag_forth j k = sym (get_or-take 3 (field_of l) j 0 k) ∙ ap (λ (p : List ℕ). get_or p j 0) (at 0)

-- ---- the law

module _ (s : List ℕ) where
  path_within : length s ≡ 79 → path_of s ≡ path_in s
  path_within n = rw (eq-eqb (length s) 79 n)

pub field_law : FieldLaw
field_law =
    record {
      law = λ s l o. (
        λ p.
            let e : path_in s ≡ l = sym (path_within s (size s o p.0)) ∙ p.1 in
            (subst Sound e (path_sound s o p.0), subst Typed e (path_typed s o p.0), sym (field_back s o p.0) ∙ ap field_of e),
        λ q.
            let e : s ≡ field_of l = q.2 in
            (ap is_field e ∙ field_forth l q.0 q.1, path_within s (ap length e ∙ length-field l q.0) ∙ ap path_in e ∙ path_forth l q.0 q.1),
      );
      size = length-field;
    }
