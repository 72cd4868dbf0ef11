-- The machine's rows: what packets, the summing rule and the shift make of the counts of the last slots. Assumes nothing.
use Prim.Native.Nat.{ℕ, zero, suc, ◌+◌, ◌-◌, ◌≤◌, ◌<◌, min}
use mathlib.Core.Path.{◌≡◌, refl, ap, ◌∙◌}
use mathlib.Core.List.{List, [], ◌∷◌, ◌++◌}
use native.Mathlib.Omega.{arith}
use lib.ListN.{length, get_or, drop, replicate, length-append}
use lib.Seq.{set_at, get_or_at}
use Rattle.rules.specs.Counts.{sum_last}
use Rattle.rules.specs.Machine.{total, last_of, count_up, shift}
use Rattle.rules.specs.Claim.{Row}
use Rattle.rules.proofs.Sums.{ago, ago_never, sum_oldest, sum_cut}

module _ (f : ℕ → ℕ) where
  -- the counts of the last k slots up to n, oldest first
  unfoldable pub window : ℕ → ℕ → List ℕ
  window zero n = []
  window (suc k) n = ago f n k ∷ window k n

  length-window : (k n : ℕ) → length (window k n) ≡ k
  unfolding window
  length-window zero n = refl
  length-window (suc k) n = ap suc (length-window k n)

  -- the next slot's count comes last
  pub window_next : (k n : ℕ) → window k n ++ (f (suc n) ∷ []) ≡ window (suc k) (suc n)
  unfolding window ago
  window_next zero n = refl
  window_next (suc k) n = ap (λ (l : List ℕ). ago f n k ∷ l) (window_next k n)

  -- a longer window ends in the shorter one
  window_end : (j m k n : ℕ) → j + k ≡ m → drop j (window m n) ≡ window k n
  unfolding window
  window_end zero m k n h = let same : m ≡ k = omega arith in ap (λ (i : ℕ). window i n) same
  window_end (suc j) zero k n h = absurd (omega arith)
  window_end (suc j) (suc m) k n h = window_end j m k n (omega arith)

  window_total : (k n : ℕ) → total (window k n) ≡ sum_last f k n
  unfolding window total sum_last
  window_total zero n = refl
  window_total (suc k) n = omega (arith, window_total k n, sum_oldest f k n)

  -- the summing rule, for any k and a window of any length
  pub last_of_window : (k m n : ℕ) → k ≤ m → last_of k (window m n) ≡ sum_last f k n
  unfolding last_of
  last_of_window k m n h =
      ap (λ (i : ℕ). total (drop (i - k) (window m n))) (length-window m n)
      ∙ ap total (window_end (m - k) m k n (omega arith))
      ∙ window_total k n

  -- one packet more in the open slot, after ten closed ones
  pub row_up : (b x n : ℕ) → count_up b (window 10 n ++ (min b x ∷ [])) ≡ window 10 n ++ (min b (suc x) ∷ [])
  row_up b x n =
      let long : length (window 10 n) ≡ 10 = length-window 10 n in
      rw (set_at (window 10 n) (min b x) [] _ 10 long, get_or_at (window 10 n) (min b x) [] 0 10 long)
      (ap (λ (i : ℕ). window 10 n ++ (i ∷ [])) (omega arith))

  pub row_fresh : replicate 11 0 ≡ window 10 0 ++ (0 ∷ [])
  unfolding window ago
  row_fresh = refl

  -- a full row shifted: ten closed slots, and an open one with nothing in it
  pub row_shift : (n : ℕ) → shift (window 11 n) ≡ window 10 n ++ (0 ∷ [])
  unfolding window
  row_shift n = refl

-- ---- rows of counts that are cut ----

module _ (b : ℕ) (f : ℕ → ℕ) where
  -- the counts of the last k slots up to n, oldest first, each cut at b
  abbrev pub cut_row : ℕ → ℕ → List ℕ
  cut_row k n = window (λ i. min b (f i)) k n

  -- the summing rule on a full row gives the exact sum, as far as the cut goes
  pub row_sum : (k n : ℕ) (row : List ℕ) → k ≤ 11 → row ≡ cut_row 11 n → min b (last_of k row) ≡ min b (sum_last f k n)
  row_sum k n row h e = ap (λ (l : List ℕ). min b (last_of k l)) e ∙ ap (min b) (last_of_window _ k 11 n h) ∙ sum_cut b f k n

  ago_most : (n i : ℕ) → ago (λ j. min b (f j)) n i ≤ b
  unfolding ago
  ago_most zero i = omega arith
  ago_most (suc n) zero = omega arith
  ago_most (suc n) (suc i) = ago_most n i

  row_most : (k n x i : ℕ) → x ≤ b → get_or (cut_row k n ++ (x ∷ [])) i 0 ≤ b
  unfolding window
  row_most zero n x zero l = l
  row_most zero n x (suc i) l = omega arith
  row_most (suc k) n x zero l = ago_most n k
  row_most (suc k) n x (suc i) l = row_most k n x i l

  row_never : (k n x i : ℕ) → i + n < k → get_or (cut_row k n ++ (x ∷ [])) i 0 ≡ 0
  unfolding window
  row_never zero n x i l = absurd (omega arith)
  row_never (suc k) n x zero l = ago_never _ n k (omega arith)
  row_never (suc k) n x (suc i) l = row_never k n x i (omega arith)

  pub row_range : (n x : ℕ) → Row b n (cut_row 10 n ++ (min b x ∷ []))
  row_range n x =
      record {
        long = omega (arith, length-append (cut_row 10 n) (min b x ∷ []), length-window (λ i. min b (f i)) 10 n);
        most = λ i. row_most 10 n (min b x) i (omega arith);
        never = λ i l. row_never 10 n (min b x) i l;
      }
