-- The field of a path that obeys its rules is octets, and a field's TTSI is its path's. Assumes nothing.
use mathlib.Core.Path.{◌≡◌, ap, ◌∙◌}
use mathlib.Core.Bool.{Bool, true, false}
use mathlib.Core.List.{List, [], ◌∷◌, ◌++◌}
use Prim.Native.Nat.{ℕ, zero, suc, ◌+◌, ◌/◌, ◌%◌, ◌<◌}
use native.Mathlib.Nat.{zero-add, suc-add}
use native.Mathlib.Omega.{arith}
use lib.ListN.{length, take, drop}
use lib.Seq.{take-nil, take-take}
use borrow.Author.Tests.{eq-eqb}
use Rattle.payload.specs.Law.{Octets}
use Rattle.octets.specs.Number.{octets}
use Rattle.octets.specs.Parts.{joined}
use Rattle.window.specs.View.{unavailable_of, code_of}
use Rattle.window.specs.declared.state.Availability.{Availability}
use Rattle.window.specs.declared.state.Availability.TheVariants.{Available, Unavailable}
use Rattle.rules.specs.Claim.{Row}
use Rattle.lsp.specs.Sound.{Sound}
use Rattle.lsp.specs.declared.path.Lsp.{Lsp}
use Rattle.field.specs.Field.{server_of, parts_of, field_of, path_in, path_of, ttsi_in}
use Rattle.field.specs.Law.{Typed}

-- ---- octets one after the other

append_octets : (a b : List ℕ) → Octets a → Octets b → Octets (a ++ b)
append_octets [] b p q i = q i
append_octets (x ∷ a) b p q zero = p 0
append_octets (x ∷ a) b p q (suc i) = append_octets a b (λ j. p (suc j)) q i

one_octets : (x : ℕ) → x < 256 → Octets (x ∷ [])
one_octets x h zero = h
one_octets x h (suc i) = omega arith

three : (x y z : ℕ) → x < 256 → y < 256 → z < 256 → Octets (x ∷ y ∷ z ∷ [])
three x y z h k m = append_octets (x ∷ []) (y ∷ z ∷ []) (one_octets x h) (append_octets (y ∷ []) (z ∷ []) (one_octets y k) (one_octets z m))

number_octets : (w x : ℕ) → Octets (octets w x)
unfolding octets
number_octets zero x i = omega arith
number_octets (suc w) x i = append_octets (octets w (x / 256)) (x % 256 ∷ []) (number_octets w (x / 256)) (one_octets (x % 256) (omega arith)) i

row_octets : {cut n : ℕ} {row : List ℕ} → cut < 256 → Row cut n row → Octets row
row_octets h r i = omega (arith, r.most i)

data Whole : List (List ℕ) → Type 0 where
  done : Whole []
  next : {p : List ℕ} {ps : List (List ℕ)} → Octets p → Whole ps → Whole (p ∷ ps)

joined_octets : {ps : List (List ℕ)} → Whole ps → Octets (joined ps)
joined_octets done i = omega arith
joined_octets (next {p} {ps} h r) i = append_octets p (joined ps) h (joined_octets r) i

flag_few : (a : Availability) → (unavailable_of a).0 < 256
flag_few Available = omega arith
flag_few (Unavailable since) = omega arith

server_few : (b : Bool) → server_of b < 256
server_few true = omega arith
server_few false = omega arith

pub field_octets : (l : Lsp) → Sound l → Typed l → Octets (field_of l)
unfolding field_of
field_octets l w v =
    joined_octets {ps = parts_of l}
    (next (three 2 0 76 (omega arith) (omega arith) (omega arith))
    (next (one_octets l.kind (omega (arith, w.kind)))
    (next v.ttsi
    (next (number_octets 4 l.dl)
    (next (number_octets 8 l.state.closed)
    (next (row_octets (omega arith) w.e)
    (next (row_octets (omega arith) w.u)
    (next (number_octets 2 (code_of l.state.defect))
    (next (one_octets l.state.stood (omega (arith, w.stood)))
    (next (one_octets (unavailable_of l.state.availability).0 (flag_few l.state.availability))
    (next (number_octets 8 (unavailable_of l.state.availability).1)
    (next (one_octets (server_of l.server) (server_few l.server))
    (next (number_octets 2 l.fdi.left)
    (next (number_octets 2 l.fdi.dt)
    (next (number_octets 4 l.fdi.dl) done)))))))))))))))

-- ---- the TTSI, where it lies

pub drop-take : (n m : ℕ) (s : List ℕ) → drop n (take (n + m) s) ≡ take m (drop n s)
drop-take zero m s = rw zero-add
drop-take (suc n) m [] = rw (suc-add, take-nil)
drop-take (suc n) m (x ∷ s) = rw suc-add (drop-take n m s)

pub ttsi_first : (s : List ℕ) → ttsi_in (take 79 s) ≡ ttsi_in s
ttsi_first s = ap (take 20) (drop-take 4 75 s) ∙ take-take 20 75 (drop 4 s) (omega arith)

pub ttsi_read : (s : List ℕ) → length s ≡ 79 → (path_of s).ttsi ≡ ttsi_in s
unfolding path_in
ttsi_read s h = rw (eq-eqb (length s) 79 h)
