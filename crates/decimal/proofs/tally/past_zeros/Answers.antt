-- `decimal::tally::past_zeros` meets its contract: a zero before the first digit that counts changes no count. Assumes nothing.
use mathlib.Core.Path.{◌≡◌, subst}
use mathlib.Core.List.{List}
use Prim.Native.Nat.{ℕ, ◌+◌, ◌≤◌, ◌<◌}
use native.Mathlib.Nat.{lt_irrefl}
use native.Mathlib.Omega.{arith}
use lib.ListN.{length, get_or}
use Rattle.decimal.specs.inner.Counted.{Counts, Small, Counting}
use Rattle.decimal.proofs.Counting.{counts_lead}
use Rattle.decimal.proofs.LongRuns.{counting_none, counting_one, counting_join}
use Rattle.decimal.proofs.tally.past_zeros.Goals as goal
use Rattle.decimal.proofs.tally.past_zeros.Invariants.{Uncounted}

one_zero : (s : List ℕ) (i v c z : ℕ) → i < length s → c ≡ 0 → get_or s i 0 ≡ 48 → z ≤ i → Small v c → Counting s i v c z v c z (i + 1)
one_zero s i v c z l e h g m =
    counting_one s i v c z v c z l (omega arith) (omega arith) (λ (ds : List ℕ) (k : Counts ds v c z). counts_lead ds (get_or s i 0) v c z k e h) m (omega arith)

pub returns-then-count-gt0 : goal.returns-then-count-gt0
returns-then-count-gt0 c = record { counts = λ v z l m. counting_none _ _ v _ z c.requires l m; other = λ e l h. never _ c.if-count-gt0.true e }
  where
    never : (x : ℕ) → 0 < x → x ≡ 0 → ⊥
    never x l e = omega arith

pub loop-i-init : goal.loop-i-init
loop-i-init c = λ v z l m. counting_none _ _ v _ z c.requires l m

pub loop-i-preserved : goal.loop-i-preserved
loop-i-preserved c =
    let l = c.loop-i in
    let e : c.args.count ≡ 0 = omega arith in
    λ v z g m. counting_join _ _ _ _ _ _ _ _ _ _ _ _ _ (l.invariant v z g m) (one_zero _ _ v _ z c.loop-i-test.true e c.if-s-i-ne48.false (omega (arith, l.auto.i)) m)

pub returns-then-s-i-ne48 : goal.returns-then-s-i-ne48
returns-then-s-i-ne48 c = record { counts = c.loop-i.invariant; other = λ e l h. c.if-s-i-ne48.true h }

pub returns : goal.returns
returns c =
    let a = c.args in
    record { counts = subst (Uncounted a.s.now a.from a.count) (omega arith) c.loop-i.invariant; other = λ e l h. absurd (lt_irrefl _ l) }
