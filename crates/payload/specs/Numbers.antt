-- The types, the defect types and the rows of the code, by the paper's numbers.
-- Assumes nothing.
use Rattle.std.specs.Prelude.{ℕ, List, [], Option, Some, None, Result, Ok, Err, eqb}
use Rattle.payload.specs.Test.{pick}
use Rattle.payload.specs.Rates.{is_rate}
use Rattle.payload.specs.Layout.{Fields, cv, ffd, fdi, bdi, is_ttsi, head_of, tail_of}
use Rattle.payload.specs.declared.layout.Unknown.{Unknown}
use Rattle.payload.specs.declared.layout.FunctionType.{FunctionType}
use Rattle.payload.specs.declared.layout.FunctionType.TheVariants.{Cv, Ffd, Fdi, Bdi}
use Rattle.payload.specs.declared.layout.DefectType.{DefectType}
use Rattle.payload.specs.declared.layout.DefectType.TheVariants.{Server, PeerMe, Locv, Mismatch, Mismerge, Excess, Unknown as Other}
use Rattle.payload.specs.declared.found.Found.{Found}
use Rattle.payload.specs.declared.found.Found.TheVariants as found

-- ---- the number of each case

abbrev pub type_of : FunctionType → ℕ
type_of Cv = 0x01
type_of Fdi = 0x02
type_of Bdi = 0x03
type_of Ffd = 0x07

abbrev pub dt_of : DefectType → ℕ
dt_of Server = 0x0101
dt_of PeerMe = 0x0102
dt_of Locv = 0x0201
dt_of Mismatch = 0x0202
dt_of Mismerge = 0x0203
dt_of Excess = 0x0204
dt_of Other = 0x02FF

-- ---- the case of a number, if one has it

abbrev pub unknown : ℕ → Unknown ℕ
unknown n = record { 0 = n }

abbrev pub type_in : ℕ → Result FunctionType (Unknown ℕ)
type_in ty =
    pick (eqb ty 0x01) (Ok Cv) (pick (eqb ty 0x02) (Ok Fdi) (pick (eqb ty 0x03) (Ok Bdi) (pick (eqb ty 0x07) (Ok Ffd) (Err (unknown ty)))))

abbrev pub defect_in : ℕ → Result DefectType (Unknown ℕ)
defect_in dt =
    pick (eqb dt 0x0101) (Ok Server) (pick (eqb dt 0x0102) (Ok PeerMe)
    (pick (eqb dt 0x0201) (Ok Locv) (pick (eqb dt 0x0202) (Ok Mismatch) (pick (eqb dt 0x0203) (Ok Mismerge) (pick (eqb dt 0x0204) (Ok Excess)
    (pick (eqb dt 0x02FF) (Ok Other) (Err (unknown dt))))))))

-- ---- the fields that the type's row names, if they obey their rules

abbrev pub with_defect : (DefectType → Found) → Result DefectType (Unknown ℕ) → Option Found
with_defect f (Ok d) = Some (f d)
with_defect f (Err e) = None

abbrev pub row_in : FunctionType → List ℕ → ℕ → ℕ → ℕ → Option Found
row_in Cv t r dt dl = pick (is_ttsi t) (Some found.Cv) None
row_in Ffd t r dt dl = pick (is_ttsi t) (pick (is_rate r) (Some (found.Ffd r)) None) None
row_in Fdi t r dt dl = pick (is_ttsi t) (with_defect (λ d. found.Fdi d dl) (defect_in dt)) None
row_in Bdi t r dt dl = pick (is_ttsi t) (with_defect (λ d. found.Bdi d dl) (defect_in dt)) None

-- ---- the fields that a row stands for, with their TTSI

abbrev pub fields_in : Found → List ℕ → Fields
fields_in found.Cv t = cv t
fields_in (found.Ffd r) t = ffd t r
fields_in (found.Fdi d dl) t = fdi t (dt_of d) dl
fields_in (found.Bdi d dl) t = bdi t (dt_of d) dl

-- the first four octets, and those between the TTSI and BIP16
abbrev pub head_in : Found → List ℕ
head_in f = head_of (fields_in f [])

abbrev pub tail_in : Found → List ℕ
tail_in f = tail_of (fields_in f [])
