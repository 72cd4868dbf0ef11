-- What the writer's stores leave, over plain lists. A part is written behind those before it, so the buffer is always `done ++ drop n b`.
-- Assumes nothing.
use mathlib.Core.Path.{◌≡◌, ap, ap₂, sym, ◌∙◌}
use mathlib.Core.Bool.{Bool, true}
use mathlib.Core.List.{List, ◌++◌, append_assoc, append-nil}
use Prim.Native.Nat.{ℕ, ◌+◌, ◌-◌, ◌≤◌}
use native.Mathlib.Omega.{arith}
use lib.Dec.{leb}
use lib.ListN.{length, take, drop, length-append, length-drop, drop_of_length-le}
use lib.Seq.{take_at, drop_at, drop-drop, take-take}
use borrow.Author.Tests.{le-leb}
use borrow.Rule.Slice.PartMut.{put_mid}
use Rattle.std.specs.Prelude.{Some}
use Rattle.payload.specs.Test.{both}
use Rattle.payload.specs.Layout.{Fields, head_of, ttsi_of, tail_of, bip, octets_of, is_type, valid}
use Rattle.payload.specs.Numbers.{type_of, row_in, fields_in, head_in, tail_in}
use Rattle.payload.specs.Writing.{fields_of, may_write, outcome, write_of}
use Rattle.payload.specs.declared.layout.FunctionType.{FunctionType}
use Rattle.payload.specs.declared.found.Found.{Found}
use Rattle.payload.proofs.Rows.{type_holds, ttsi_long, follows, ttsi_is, head_is, tail_is, head_long, tail_long}

-- ---- the parts, one behind the other

put_next : (d v b : List ℕ) (a k : ℕ) → length d ≡ a → put_mid a k (d ++ drop a b) v ≡ (d ++ v) ++ drop (a + k) b
put_next d v b a k h =
    ap (λ (l : List ℕ). l ++ (v ++ drop k (drop a (d ++ drop a b)))) (take_at d (drop a b) a h)
    ∙ ap (λ (l : List ℕ). d ++ (v ++ drop k l)) (drop_at d (drop a b) a h)
    ∙ ap (λ (l : List ℕ). d ++ (v ++ l)) (drop-drop k a b)
    ∙ sym (append_assoc d v (drop (a + k) b))

-- the buffer with three parts written
abbrev pub laid : List ℕ → List ℕ → List ℕ → List ℕ → List ℕ
laid b h t u = put_mid 24 18 (put_mid 4 20 (h ++ drop 4 b) t) u

module _ (b h t u : List ℕ) (lh : length h ≡ 4) (lt : length t ≡ 20) (lu : length u ≡ 18) where
  parts : laid b h t u ≡ (h ++ (t ++ u)) ++ drop 42 b
  parts =
      ap (λ (l : List ℕ). put_mid 24 18 l u) (put_next h t b 4 20 lh)
      ∙ put_next (h ++ t) u b 24 18 (simp length-append (omega arith))
      ∙ ap (λ (l : List ℕ). l ++ drop 42 b) (append_assoc h t u)

  body_long : length (h ++ (t ++ u)) ≡ 42
  body_long = simp length-append (omega arith)

  -- the last part is made of all those before it
  assembled : (s : List ℕ) (c : List ℕ) → c ≡ laid b h t u
      → s ≡ take 42 (take 44 c) ++ bip (take 42 (take 44 c)) → s ++ drop 44 c ≡ ((h ++ (t ++ u)) ++ bip (h ++ (t ++ u))) ++ drop 44 b
  assembled s c e g =
      let x : List ℕ = h ++ (t ++ u) in
      let front : take 42 (take 44 c) ≡ x =
      take-take 42 44 c (omega arith) ∙ ap (take 42) (e ∙ parts) ∙ take_at x (drop 42 b) 42 body_long in
      let rest : drop 44 c ≡ drop 44 b =
      sym (drop-drop 2 42 c) ∙ ap (λ (l : List ℕ). drop 2 (drop 42 l)) (e ∙ parts) ∙ ap (drop 2) (drop_at x (drop 42 b) 42 body_long) ∙ drop-drop 2 42 b in
      ap (λ (l : List ℕ). l ++ drop 44 c) (g ∙ ap (λ (l : List ℕ). l ++ bip l) front) ∙ ap (λ (l : List ℕ). (x ++ bip x) ++ l) rest

-- the last part, after the body
pub sealed : (s v : List ℕ) → length s ≡ 44 → put_mid 42 (length s - 42) s v ≡ take 42 s ++ v
sealed s v h =
    ap (λ (l : List ℕ). take 42 s ++ (v ++ l)) (drop_of_length-le (drop 42 s) {i = length s - 42} (simp length-drop (omega arith)))
    ∙ ap (λ (l : List ℕ). take 42 s ++ l) (append-nil v)

-- ---- the whole

pub done : (ty : ℕ) (t : List ℕ) (r dt dl : ℕ) (b : List ℕ) → may_write ty (fields_of ty t r dt dl) ≡ true → 44 ≤ length b
    → (0, octets_of (fields_of ty t r dt dl) ++ drop 44 b) ≡ write_of ty t r dt dl b
done ty t r dt dl b h k = ap₂ (λ (m n : Bool). outcome m n (fields_of ty t r dt dl) b) (sym h) (sym (le-leb _ _ k))

module _ (ty : FunctionType) (t : List ℕ) (r dt dl : ℕ) (b : List ℕ) (f : Found) (e : row_in ty t r dt dl ≡ Some f) where
  abbrev given : Fields
  given = fields_of (type_of ty) t r dt dl

  -- h', t', u' and s are what was copied or sealed into the parts lent
  pub stored : 44 ≤ length b → (h' t' u' s : List ℕ) → h' ≡ head_in f → t' ≡ t → u' ≡ tail_in f
      → s ≡ take 42 (take 44 (laid b h' t' u')) ++ bip (take 42 (take 44 (laid b h' t' u')))
      → (0, s ++ drop 44 (laid b h' t' u')) ≡ write_of (type_of ty) t r dt dl b
  stored k h' t' u' s eh et eu es =
      let q : fields_in f t ≡ given = (follows t r dt dl ty f e).fields in
      let tt' : ttsi_of given ≡ t = ttsi_is t r dt dl (type_of ty) in
      let all : laid b h' t' u' ≡ laid b (head_of given) (ttsi_of given) (tail_of given) =
      rw (eh ∙ head_is f t ∙ ap head_of q, et ∙ sym tt', eu ∙ tail_is f t ∙ ap tail_of q) in
      ap (λ (l : List ℕ). (0, l))
      (assembled b (head_of given) (ttsi_of given) (tail_of given) (head_long given) (ap length tt' ∙ ttsi_long t (follows t r dt dl ty f e).ttsi) (tail_long given) s (laid b h' t' u') all es)
      ∙ done (type_of ty) t r dt dl b (ap₂ both (type_holds ty) (follows t r dt dl ty f e).valid) k
