-- `decimal::tally::count_first` meets its contract: each digit passed counts, and the number of 19 fits a word. Assumes nothing.
use mathlib.Core.Path.{◌≡◌, sym, subst}
use mathlib.Core.List.{List}
use Prim.Native.Nat.{ℕ, ◌+◌, ◌-◌, ◌*◌, ◌^◌, ◌≤◌, ◌<◌}
use native.Mathlib.Nat.{lt_of_lt_of_le, lt_of_not-le}
use native.Mathlib.Decide.{dec_le}
use native.Mathlib.Omega.{arith}
use lib.ListN.{length, get_or}
use lib.Pow.{pow-add}
use Rattle.decimal.specs.Long.{most_significant}
use Rattle.decimal.specs.inner.Counted.{Counts, Small, Counting, NoZero, StopIs}
use Rattle.decimal.proofs.Counting.{counts_digit}
use Rattle.decimal.proofs.LongPlace.{stops_at, stops_over}
use Rattle.decimal.proofs.LongRuns.{counting_none, counting_one, counting_join}
use Rattle.decimal.proofs.Scale.{ten_le}
use Rattle.decimal.proofs.tally.count_first.Goals as goal
use Rattle.decimal.proofs.tally.count_first.Goals.{Else-not-is_ascii_digit}

-- fewer than 19 have counted
few : (c : Else-not-is_ascii_digit) → c.loop-i.c < 19
few c = let l = c.loop-i.invariant.1 in let f = c.stop_of-stop.ensures.few (omega arith) in omega arith

-- ten times their number fits a word
room : (v c : ℕ) → Small v c → c < 19 → v < 10 ^ 18
room v c s h = lt_of_lt_of_le s.less (ten_le c 18 (omega arith))

longer : (v c b : ℕ) → Small v c → c < 19 → b ≤ 57 → Small (v * 10 + (b - 48)) (c + 1)
longer v c b s h l =
    let e : 10 ^ (c + 1) ≡ 10 ^ c * 10 = pow-add 10 c 1 in
    let g = s.less in
    record { less = omega arith; most = omega arith }

-- one more digit at i
next : (s : List ℕ) (i v c z : ℕ) → Small v c → z ≤ i → c < 19 → (c ≡ 0 → get_or s i 0 ≡ 48 → ⊥) → i < length s → 48 ≤ get_or s i 0 → get_or s i 0 ≤ 57 → Counting s i v c z (v * 10 + (get_or s i 0 - 48)) (c + 1) z (i + 1)
next s i v c z m g h f l a b =
    counting_one s i v c z (v * 10 + (get_or s i 0 - 48)) (c + 1) z l a b (λ (ds : List ℕ) (k : Counts ds v c z). counts_digit ds (get_or s i 0) v c z k h f) (longer v c (get_or s i 0) m h b) (omega arith)

-- at the start, where none has counted, no zero stands
no_zero : (s : List ℕ) (from i count c : ℕ) → NoZero s from count → c + from ≡ count + i → from ≤ i → i < length s → c ≡ 0 → get_or s i 0 ≡ 48 → ⊥
no_zero s from i count c f e l h g = subst (λ (x : ℕ). get_or s x 0 ≡ 48 → ⊥) (start from i count c e l g) (f (none from i count c e l g) (omega arith))
  where
    start : (from i count c : ℕ) → c + from ≡ count + i → from ≤ i → c ≡ 0 → from ≡ i
    start from i count c e l g = omega arith

    none : (from i count c : ℕ) → c + from ≡ count + i → from ≤ i → c ≡ 0 → count ≡ 0
    none from i count c e l g = omega arith

pub loop-i-init : goal.loop-i-init
loop-i-init c = let p = c.requires.from_in_bounds in (counting_none _ _ _ _ _ p.0 p.1.0 p.1.1, omega arith)

pub returns-then-not-is_ascii_digit : goal.returns-then-not-is_ascii_digit
returns-then-not-is_ascii_digit c =
    let i = c.loop-i.invariant.0 in
    record { part = i; stops = λ h. stops_at _ _ _ _ i.run (omega arith) (sym c.if-not-is_ascii_digit.ensures.value) }

-- where fewer than 19 have counted, stop is the end
pub returns : goal.returns
returns c =
    let a = c.args in
    let l = c.loop-i in
    let e : l.i ≡ c.stop_of-stop.result = omega arith in
    let i = subst (λ (x : ℕ). Counting a.s.now a.from a.value a.count a.zeros l.v l.c a.zeros x) e l.invariant.0 in
    record { part = i; stops = λ h. stops_over _ _ _ _ i.run (at-end _ _ _ _ _ c.stop_of-stop.ensures (omega arith) h) }
  where
    at-end : (from end count stop c : ℕ) → StopIs from end count stop → c + from ≡ count + stop → c < most_significant → end ≤ stop
    at-end from end count stop c w e h = go (dec_le end stop)
      where
        go : Dec (end ≤ stop) → end ≤ stop
        go (yes f) = f
        go (no f) = let g = w.all (lt_of_not-le f) in omega arith

pub overflow_mul-v : goal.overflow_mul-v
overflow_mul-v c = let h = room _ _ c.loop-i.invariant.0.small (few c) in record { fits = omega arith }

pub overflow_add-v : goal.overflow_add-v
overflow_add-v c = let h = room _ _ c.loop-i.invariant.0.small (few c) in record { fits = omega arith }

pub overflow_add-c : goal.overflow_add-c
overflow_add-c c = let h = few c in record { fits = omega arith }

pub loop-i-preserved : goal.loop-i-preserved
loop-i-preserved c =
    let l = c.loop-i.invariant in
    let b = c.if-not-is_ascii_digit.ensures.cases in
    let inside : c.loop-i.i < length c.args.s.now = omega arith in
    let f = no_zero c.args.s.now _ _ _ _ c.requires.no_zero l.1 c.loop-i.auto.i inside in
    (counting_join _ _ _ _ _ _ _ _ _ _ _ _ _ l.0 (next c.args.s.now _ _ _ _ l.0.small l.0.zeros (few c) f inside b.0 b.1), omega arith)
