-- `wholeroot::walk_to_root` meets its contract. The first loop comes down to a q whose square less q is below n, and keeps q under 2 ^ 32. The second goes up, and keeps that: n is no more than (2 ^ 32 - 1) * 2 ^ 32, so q stays under 2 ^ 32. Assumes nothing.
use Rattle.std.proofs.Common.{◌≡◌, ℕ, ◌+◌, ◌-◌, ◌*◌, ◌^◌, ◌<◌, ◌≤◌, sym, ap, ◌∙◌, arith}
use Rattle.wholeroot.specs.WholeRoot.{nearest_whole}
use Rattle.wholeroot.proofs.Near.{square_fits, order, near_whole, none_whole}
use Rattle.wholeroot.proofs.walk_to_root.Goals as goal
use Rattle.wholeroot.proofs.walk_to_root.Invariants.{last}

small : (n q : ℕ) → n ≤ last → q * q < n + q → q < 2 ^ 32
small n q h k = let l : q ≤ 2 ^ 32 - 1 = order n (2 ^ 32 - 1) q (omega arith) k in omega arith

none : (n : ℕ) → n ≡ 0 → 0 ≡ nearest_whole n
none n e = sym (ap nearest_whole e ∙ none_whole)

top : (n : ℕ) → last < n → n < 2 ^ 64 → 2 ^ 32 ≡ nearest_whole n
top n l h = near_whole n (2 ^ 32) (omega arith, omega arith)

pub returns-then-n-eq0 : goal.returns-then-n-eq0
returns-then-n-eq0 c = none _ c.if-n-eq0.true

pub returns-then-n-gt-LAST : goal.returns-then-n-gt-LAST
returns-then-n-gt-LAST c = top _ c.if-n-gt-LAST.true (omega arith)

pub overflow_add-q : goal.overflow_add-q
overflow_add-q c =
    let i = c.loop-q-2.invariant in
    let l = small _ c.loop-q-2.q i.1 i.0 in
    omega (arith, square_fits c.loop-q-2.q l)

pub returns : goal.returns
returns c = near_whole _ _ (c.loop-q-2.invariant.0, c.loop-q-2-test.false)
