-- A path's history, by the paper: its accepted packets, server signals and closed slots, the newest first. What it had in each slot, the
-- latest server signal and the latest FDI are read off it; the state is nowhere in sight.
-- Assumes nothing.
use Rattle.std.specs.Prelude.{ℕ, suc, ◌+◌, ◌-◌, Bool, true, false, List, [], ◌∷◌, eqb, leb}
use Rattle.payload.specs.Test.{pick}
use Rattle.payload.specs.Reading.{Answer, read_of, accepts, ttsi_at}
use Rattle.rules.specs.Machine.{Packet, expected, unexpected}
use Rattle.rules.specs.History as rules
use Rattle.lsp.specs.Steps.{same, gone}
use Rattle.lsp.specs.declared.path.Fdi.{Fdi}

pub data Event : Type 0 where
  arrives : Packet → Event  -- counted: E, or U
  told : ℕ → ℕ → Event  -- an FDI, by its DT and DL
  reported : Event  -- a BDI
  signalled : Bool → Event
  closes : Event

abbrev pub History : Type 0
History = List Event

-- ---- read off a history

-- what the window rules count
abbrev pub counted : History → rules.History
counted [] = []
counted (arrives p ∷ h) = rules.arrives p ∷ counted h
counted (told dt dl ∷ h) = counted h
counted (reported ∷ h) = counted h
counted (signalled b ∷ h) = counted h
counted (closes ∷ h) = rules.closes ∷ counted h

abbrev pub slots : History → ℕ
slots h = rules.closed (counted h)

-- off at first, then as last signalled
abbrev pub server_in : History → Bool
server_in [] = false
server_in (arrives p ∷ h) = server_in h
server_in (told dt dl ∷ h) = server_in h
server_in (reported ∷ h) = server_in h
server_in (signalled b ∷ h) = b
server_in (closes ∷ h) = server_in h

-- the FDI received last, with the slot that was open then
pub data Last : Type 0 where
  none : Last
  heard : (slot dt dl : ℕ) → Last

abbrev pub last_fdi : History → Last
last_fdi [] = none
last_fdi (arrives p ∷ h) = last_fdi h
last_fdi (told dt dl ∷ h) = heard (suc (slots h)) dt dl
last_fdi (reported ∷ h) = last_fdi h
last_fdi (signalled b ∷ h) = last_fdi h
last_fdi (closes ∷ h) = last_fdi h

-- received in slot r, it stands until this slot closes
abbrev pub end : ℕ → ℕ → ℕ
end life r = r + life

-- after n closes: it stands while n is below its end, and has this many closes left
abbrev pub fdi_after : ℕ → ℕ → Last → Fdi
fdi_after life n none = gone
fdi_after life n (heard r dt dl) = pick (leb (end life r) n) gone (record { left = end life r - n; dt = dt; dl = dl })

-- ---- what a step adds to it

-- what a path is added with
pub record Added : Type 0 where
  pub kind : ℕ
  pub ttsi : List ℕ
  pub dl : ℕ

-- CV or FFD: E with the expected TTSI and the path's own type and rate (a CV's rate is 0, as its kind is), U with another TTSI; with the
-- expected TTSI and another type or rate it is refused
abbrev pub counted_as : (own rate : Bool) → History → History
counted_as true true h = arrives expected ∷ h
counted_as true false h = h
counted_as false rate h = arrives unexpected ∷ h

abbrev pub heard_by : (fdi bdi : Bool) → Added → Answer → List ℕ → History → History
heard_by true bdi a r t h = told r.dt r.dl ∷ h
heard_by false true a r t h = reported ∷ h
heard_by false false a r t h = counted_as (same t a.ttsi) (eqb r.rate a.kind) h

abbrev pub heard_as : Added → Answer → List ℕ → History → History
heard_as a r t h = heard_by (eqb r.type 0x02) (eqb r.type 0x03) a r t h

-- what the reader refuses leaves no mark
abbrev pub received_by : (accepted : Bool) → Added → Answer → List ℕ → History → History
received_by true a r t h = heard_as a r t h
received_by false a r t h = h

unfoldable pub received : Added → List ℕ → History → History
received a p h = received_by (accepts p) a (read_of p) (ttsi_at p) h

abbrev pub limit : ℕ
limit = 1000000000000

abbrev pub closed : History → History
closed h = pick (leb limit (slots h)) h (closes ∷ h)

abbrev pub signalled_as : ℕ → History → History
signalled_as v h = pick (leb v 1) (signalled (eqb v 1) ∷ h) h
