-- `decimal::tally::count_more` meets its contract: a zero is ten times the number, and any other digit is one too many. Assumes nothing.
use mathlib.Core.Path.{◌≡◌, sym, subst}
use mathlib.Core.List.{List}
use Prim.Native.Nat.{ℕ, ◌+◌, ◌≤◌, ◌<◌}
use native.Mathlib.Nat.{lt_of_lt_of_le}
use native.Mathlib.Omega.{arith}
use lib.ListN.{length, get_or}
use Rattle.decimal.specs.inner.Counted.{Counts, Small, Counting, MoreTo}
use Rattle.decimal.proofs.Counting.{counts_zero, counts_over}
use Rattle.decimal.proofs.LongPlace.{stops_at, stops_over}
use Rattle.decimal.proofs.LongRuns.{counting_none, counting_one, counting_join}
use Rattle.decimal.proofs.Scale.{ten_le}
use Rattle.decimal.proofs.tally.count_more.Goals as goal
use Rattle.decimal.proofs.tally.count_more.Goals.{then-b-eq48, else-b-eq48}

-- more than 19 of them
wider : (v c : ℕ) → Small v c → Small v 20
wider v c s = record { less = lt_of_lt_of_le s.less (ten_le c 20 s.most); most = omega arith }

-- one more digit at i
module _ (s : List ℕ) (i v c z : ℕ) (m : Small v c) (g : z ≤ i) (h : 19 ≤ c) (l : i < length s) (a : 48 ≤ get_or s i 0) (b : get_or s i 0 ≤ 57) where
  a_zero : get_or s i 0 ≡ 48 → Counting s i v c z v c (z + 1) (i + 1)
  a_zero e = counting_one s i v c z v c (z + 1) l a b (λ (ds : List ℕ) (k : Counts ds v c z). counts_zero ds (get_or s i 0) v c z k h e) m (omega arith)

  another : (get_or s i 0 ≡ 48 → ⊥) → Counting s i v c z v 20 z (i + 1)
  another f = counting_one s i v c z v 20 z l a b (λ (ds : List ℕ) (k : Counts ds v c z). counts_over ds (get_or s i 0) v c z k h f) (wider v c m) (omega arith)

pub loop-i-init : goal.loop-i-init
loop-i-init c = (counting_none _ _ _ _ _ c.requires.from_in_bounds.0 c.requires.from_in_bounds.1.0 c.requires.from_in_bounds.1.1, c.requires.most_significant_le_count)

pub returns-then-not-is_ascii_digit : goal.returns-then-not-is_ascii_digit
returns-then-not-is_ascii_digit c =
    let i = c.loop-i.invariant.0 in
    record { part = i; stops = stops_at _ _ _ _ i.run c.loop-i-test.true (sym c.if-not-is_ascii_digit.ensures.value) }

pub returns : goal.returns
returns c =
    let a = c.args in
    let l = c.loop-i in
    let i = l.invariant.0 in
    subst (MoreTo a.s.now a.from a.value a.count a.zeros a.value l.c l.z) (omega arith) (record { part = i; stops = stops_over _ _ _ _ i.run c.loop-i-test.false })

pub loop-i-preserved : goal.loop-i-preserved
loop-i-preserved c =
    let l = c.loop-i.invariant in
    let b = c.if-not-is_ascii_digit.ensures.cases in
    elim c.if-b-eq48.branch [
      | then-b-eq48 w ↦ so (sym w.c-is) (sym w.z-is) l.0 (a_zero _ _ _ _ _ l.0.small l.0.zeros l.1 c.loop-i-test.true b.0 b.1 w.if-b-eq48.true) l.1
      | else-b-eq48 w ↦ so (sym w.c-is) (sym w.z-is) l.0 (another _ _ _ _ _ l.0.small l.0.zeros l.1 c.loop-i-test.true b.0 b.1 w.if-b-eq48.false) (omega arith)
    ]
  where
    so : {s : List ℕ} {from v c₀ z₀ c z i c' z' c'' z'' : ℕ} → c' ≡ c'' → z' ≡ z'' → Counting s from v c₀ z₀ v c z i → Counting s i v c z v c' z' (i + 1) → 19 ≤ c' → Counting s from v c₀ z₀ v c'' z'' (i + 1) × (19 ≤ c'')
    so {s} {from} {v} {c₀} {z₀} {c} {z} {i} {c'} {z'} {c''} {z''} e f h g l =
        (subst (λ (x : ℕ). Counting s from v c₀ z₀ v x z'' (i + 1)) e (subst (λ (x : ℕ). Counting s from v c₀ z₀ v c' x (i + 1)) f (counting_join s from v c₀ z₀ v c z i v c' z' (i + 1) h g)), subst (λ (x : ℕ). 19 ≤ x) e l)
