-- The invariant: what the state holds after n closes, and that a slot's packets and its close keep it. Assumes nothing.
use Prim.Native.Nat.{ℕ, suc, ◌≤◌, min}
use mathlib.Core.Path.{◌≡◌, refl, sym, ap, subst, ◌∙◌}
use mathlib.Core.Bool.{Bool, true, false}
use mathlib.Core.List.{[], ◌∷◌, ◌++◌}
use native.Mathlib.Omega.{arith}
use Rattle.rules.specs.Counts.{Counts, sum_last}
use Rattle.rules.specs.Machine.{State, fresh, Availability, available, expected, unexpected, count_up, receive, shift, last_of, verdict, turn}
use Rattle.rules.specs.Machine.{close_verdict, close_defect, close_stood, close_calm, close_turn, close}
use Rattle.rules.specs.Claim.{GivesDefect}
use Rattle.rules.proofs.Cuts.{Alike, alike_back, alike_calm}
use Rattle.rules.proofs.Rows.{window_next, row_up, row_fresh, row_shift, cut_row, row_sum}
use Rattle.rules.proofs.Tests.{CalmIf, calm_says}
use Rattle.rules.proofs.Defect.{Told, told, defect_fresh, defect_step}
use Rattle.rules.proofs.Stood.{StoodIs, stood_fresh, stood_step}
use Rattle.rules.proofs.Availability.{AvailabilityIs, availability_fresh}
use Rattle.rules.proofs.Turn.{TurnIs, ClearsIf, turn_step}

-- judged on a CV path; an FFD path is always available
abbrev pub ServiceIs : Bool → Counts → ℕ → Availability → Type 0
ServiceIs true c n a = AvailabilityIs 1 c n a
ServiceIs false c n a = a ≡ available

service_fresh : (cv : Bool) (c : Counts) → ServiceIs cv c 0 available
service_fresh true c = availability_fresh 1 c
service_fresh false c = refl

module _ (cv : Bool) (c : Counts) where
  -- after n closes, with x expected and y unexpected packets in the open slot
  pub record Holds (n x y : ℕ) (s : State) : Type 0 where
    pub closed : s.closed ≡ n
    pub e : s.e ≡ cut_row 12 c.expected 10 n ++ (min 12 x ∷ [])
    pub u : s.u ≡ cut_row 1 c.unexpected 10 n ++ (min 1 y ∷ [])
    pub defect : GivesDefect c n s.defect
    pub stood : StoodIs 1 c n s.stood
    pub availability : ServiceIs cv c n s.availability

  -- the open slot's packets are those of the counts: slot n + 1 is ready to close
  abbrev pub Ready : ℕ → State → Type 0
  Ready n s = Holds n (c.expected (suc n)) (c.unexpected (suc n)) s

  pub holds_fresh : Holds 0 0 0 fresh
  holds_fresh =
      record {
        closed = refl;
        e = row_fresh _;
        u = row_fresh _;
        defect = defect_fresh c;
        stood = stood_fresh 1 c;
        availability = service_fresh cv c;
      }

  pub holds_expected : (n x y : ℕ) (s : State) → Holds n x y s → Holds n (suc x) y (receive expected s)
  holds_expected n x y s h =
      record {
        closed = h.closed;
        e = ap (count_up 12) h.e ∙ row_up _ 12 x n;
        u = h.u;
        defect = h.defect;
        stood = h.stood;
        availability = h.availability;
      }

  pub holds_unexpected : (n x y : ℕ) (s : State) → Holds n x y s → Holds n x (suc y) (receive unexpected s)
  holds_unexpected n x y s h =
      record {
        closed = h.closed;
        e = h.e;
        u = ap (count_up 1) h.u ∙ row_up _ 1 y n;
        defect = h.defect;
        stood = h.stood;
        availability = h.availability;
      }

-- ---- the close of slot n + 1 ----

module _ (c : Counts) (n : ℕ) where
  -- the summing rule on the state's rows gives the exact sums, as far as the cuts go
  sums_alike : (cv : Bool) (s : State) → Ready cv c n s → (k : ℕ) → k ≤ 11
      → Alike (last_of k s.e) (sum_last c.expected k (suc n)) (last_of k s.u) (sum_last c.unexpected k (suc n))
  sums_alike cv s h k l =
      record {
        expected = row_sum 12 c.expected k (suc n) s.e l (h.e ∙ window_next _ 10 n);
        unexpected = row_sum 1 c.unexpected k (suc n) s.u l (h.u ∙ window_next _ 10 n);
      }

  close_defect_lem : (cv : Bool) (s : State) → Ready cv c n s → GivesDefect c (suc n) (close_defect s)
  close_defect_lem cv s h =
      defect_step c n (close_verdict s) s.defect
      (subst (λ (i : ℕ). Told c (verdict i (last_of 3 s.e) (last_of 3 s.u)) (suc n)) (ap suc (sym h.closed))
      (told c (suc n) _ _ (sums_alike cv s h 3 (omega arith))))
      h.defect

  close_stood_lem : (cv : Bool) (s : State) → Ready cv c n s → StoodIs 1 c (suc n) (close_stood s)
  close_stood_lem cv s h = stood_step 1 c n s.stood (close_defect s) (close_defect_lem cv s h) h.stood

  -- the clearing's test, on the exact sums
  close_calm_lem : (s : State) → Ready true c n s → ClearsIf 1 c (suc n) (close_calm s)
  close_calm_lem s h = go (close_calm s) (calm_says 1 (last_of 10 s.e) (last_of 10 s.u))
    where
      tens : Alike (last_of 10 s.e) (sum_last c.expected 10 (suc n)) (last_of 10 s.u) (sum_last c.unexpected 10 (suc n))
      tens = sums_alike true s h 10 (omega arith)

      go : (b : Bool) → CalmIf b 1 (last_of 10 s.e) (last_of 10 s.u) → ClearsIf 1 c (suc n) b
      go true w = λ q. record { whole = (suc n, omega arith); quiet = q; sums = alike_calm _ _ _ _ tens w }
      go false w = λ z. w (alike_calm _ _ _ _ (alike_back _ _ _ _ tens) z.sums)

  pub close_turn_lem : (s : State) → Ready true c n s → TurnIs 1 c (suc n) (close_turn true s)
  close_turn_lem s h =
      subst (λ (i : ℕ). TurnIs 1 c (suc n) (turn 1 (suc i) s.availability s.defect s.stood (close_defect s) (close_stood s) (close_calm s)))
      (sym h.closed)
      (turn_step 1 c n s.availability s.defect s.stood (close_defect s) (close_stood s) (close_calm s) h.availability h.defect h.stood
      (close_defect_lem true s h) (close_stood_lem true s h) (close_calm_lem s h))

  close_service : (cv : Bool) (s : State) → Ready cv c n s → ServiceIs cv c (suc n) (close_turn cv s).next
  close_service true s h = (close_turn_lem s h).next
  close_service false s h = refl

  pub close_holds : (cv : Bool) (s : State) → Ready cv c n s → Holds cv c (suc n) 0 0 (close cv s)
  close_holds cv s h =
      record {
        closed = ap suc h.closed;
        e = ap shift (h.e ∙ window_next _ 10 n) ∙ row_shift _ (suc n);
        u = ap shift (h.u ∙ window_next _ 10 n) ∙ row_shift _ (suc n);
        defect = close_defect_lem cv s h;
        stood = close_stood_lem cv s h;
        availability = close_service cv s h;
      }
