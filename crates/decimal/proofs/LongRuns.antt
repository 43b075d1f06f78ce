-- What holds at the heads of the two loops of a long token, which pass its digits and those of its power. Assumes nothing.
use mathlib.Core.Path.{refl, sym, subst}
use mathlib.Core.Logic.{inl}
use mathlib.Core.List.{List, [], ◌∷◌, ◌++◌, append-nil, append_assoc}
use Prim.Native.Nat.{ℕ, ◌+◌, ◌≤◌, ◌<◌}
use native.Mathlib.Omega.{arith}
use lib.ListN.{length, drop, get_or}
use Rattle.decimal.specs.Decimal.{value_after}
use Rattle.decimal.specs.inner.Counted.{Counts, CountsOn, CountsTo, Passed, Stops, Counting, Small, Saturates, TenTimes, PowerTo}
use Rattle.decimal.proofs.Counting.{value_more}
use Rattle.decimal.proofs.LongPlace.{passed_none, passed_join, passed_next, passed_are, passed_to}

-- ---- digits that are counted
pub counting_none : (s : List ℕ) (from v c z : ℕ) → from ≤ length s → z ≤ from → Small v c → Counting s from v c z v c z from
counting_none s from v c z h l m = record { xs = []; run = passed_none s from h; counts = λ (ds : List ℕ) (k : Counts ds v c z). subst (λ (l : List ℕ). Counts l v c z) (sym (append-nil ds)) k; small = m; zeros = l }

pub counting_join : (s : List ℕ) (a v c z v' c' z' i v'' c'' z'' j : ℕ) → Counting s a v c z v' c' z' i → Counting s i v' c' z' v'' c'' z'' j → Counting s a v c z v'' c'' z'' j
counting_join s a v c z v' c' z' i v'' c'' z'' j h g =
    record {
      xs = h.xs ++ g.xs;
      run = passed_join s a h.xs i g.xs j h.run g.run;
      counts = λ (ds : List ℕ) (k : Counts ds v c z). subst (λ (l : List ℕ). Counts l v'' c'' z'') (append_assoc ds h.xs g.xs) (g.counts (ds ++ h.xs) (h.counts ds k));
      small = g.small;
      zeros = g.zeros;
    }

-- one more digit
pub counting_one : (s : List ℕ) (i v c z v' c' z' : ℕ) → i < length s → 48 ≤ get_or s i 0 → get_or s i 0 ≤ 57 → CountsOn (get_or s i 0 ∷ []) v c z v' c' z' → Small v' c' → z' ≤ i + 1 → Counting s i v c z v' c' z' (i + 1)
counting_one s i v c z v' c' z' l a b o m h =
    record { xs = get_or s i 0 ∷ []; run = passed_next s i [] i (passed_none s i (omega arith)) l a b; counts = o; small = m; zeros = h }

module _ (s : List ℕ) (from v₀ c₀ z₀ v c z i : ℕ) (h : Counting s from v₀ c₀ z₀ v c z i) where
  pub counting_done : Stops (drop i s) → CountsTo s from v₀ c₀ z₀ v c z i
  counting_done t =
      record {
        run = passed_to s from h.xs i h.run t;
        counts = λ (ds : List ℕ) (k : Counts ds v₀ c₀ z₀). subst (λ (l : List ℕ). Counts (ds ++ l) v c z) (sym (passed_are s from h.xs i h.run t)) (h.counts ds k);
        small = h.small;
        zeros = h.zeros;
      }

-- ---- digits of a power
pub record Powering (s : List ℕ) (from v i : ℕ) : Type 0 where
  pub xs : List ℕ
  pub run : Passed s from xs i
  pub is : Saturates v (value_after 0 xs)

pub powering_none : (s : List ℕ) (from : ℕ) → from ≤ length s → Powering s from 0 from
unfolding value_after
powering_none s from h = record { xs = []; run = passed_none s from h; is = inl refl }

module _ (s : List ℕ) (from v i : ℕ) (h : Powering s from v i) where
  pub powering_next : (v' : ℕ) → i < length s → 48 ≤ get_or s i 0 → get_or s i 0 ≤ 57 → TenTimes v (get_or s i 0) v' → Powering s from v' (i + 1)
  powering_next v' l a b o =
      record {
        xs = h.xs ++ (get_or s i 0 ∷ []);
        run = passed_next s from h.xs i h.run l a b;
        is = subst (Saturates v') (sym (value_more h.xs (get_or s i 0))) (o (value_after 0 h.xs) h.is);
      }

  pub powering_done : Stops (drop i s) → PowerTo s from v i
  powering_done t = record { run = passed_to s from h.xs i h.run t; is = subst (λ (l : List ℕ). Saturates v (value_after 0 l)) (sym (passed_are s from h.xs i h.run t)) h.is }
