-- `decimal::wide::long_magnitude` meets its contract: the long division's parts are the bits' fields. Assumes nothing.
use mathlib.Core.Path.{◌≡◌, sym, ap, ◌∙◌, subst}
use mathlib.Core.Logic.{◌⊎◌, inl, inr}
use Prim.Native.Nat.{ℕ, ◌+◌, ◌-◌, ◌*◌, ◌^◌, ◌≤◌, zero-le, compare}
use native.Mathlib.Nat.{le_trans, le_of_eq, lt_of_lt_of_le, one-mul}
use native.Mathlib.Omega.{arith}
use lib.Ieee.Fits.{nearest-le}
use Rattle.decimal.specs.inner.Wide.{wide, Roomy}
use Rattle.decimal.proofs.Scale.{five_le}
use Rattle.decimal.proofs.Tens.{room_up, room_down, long_bits, long_beyond}
use Rattle.decimal.proofs.Words.{roomy_hi}
use Rattle.decimal.proofs.wide.long_magnitude.Goals as goal
use Rattle.decimal.proofs.wide.long_magnitude.Lts
use Rattle.decimal.proofs.wide.long_magnitude.Tie
use Rattle.decimal.proofs.wide.long_magnitude.Reads

abbrev At-After-long_rounded-q : Type 0
At-After-long_rounded-q = Lts.After-long_rounded Tie.the-claims Reads.Pre Reads.Post Tie.handed_clauses

-- all places were taken, or the quotient has 24 digits
whole : (most taken m : ℕ) → (taken ≡ most) ⊎ (8388608 ≤ m) → (most - taken ≡ 0) ⊎ (8388608 ≤ m)
whole most taken m (inl e) = inl (omega arith)
whole most taken m (inr l) = inr l

-- the twos of both sides
level : (up down by taken : ℕ) → down ≤ 64 → taken ≤ 149 + up + by - down → up + 149 + by ≡ taken + (down + (149 + up + by - down - taken))
level up down by taken h l = omega arith

-- the rounded quotient has 24 digits, or is the one number of 25 that rounding up can make
tops : (c : At-After-long_rounded-q) → c.long_rounded-q.result ≤ 16777216
tops c =
    let f = c.long_divided-f in
    let r = f.result.rest in
    let d = c.raised-by.result.den in
    le_trans (le_of_eq c.long_rounded-q.ensures) (le_trans (nearest-le f.result.m (compare (wide r.hi r.mid r.lo * 2) (wide d.hi d.mid d.lo))) f.ensures.long_divides.hi)

pub fives-num-requires : goal.fives-num-requires
fives-num-requires c = room_up _ _ (omega arith) (omega arith)

pub fives-requires : goal.fives-requires
fives-requires c = room_down _ (omega arith)

pub raised-by-requires : goal.raised-by-requires
raised-by-requires c =
    let a = c.args in
    let n = c.fives-num.ensures in
    let e = c.fives.ensures in
    let some = lt_of_lt_of_le (five_le 0 a.down zero-le) (le_of_eq (sym (one-mul (5 ^ a.down)) ∙ sym e)) in
    (some, (roomy_hi c.fives.result _ e (room_down _ (omega arith)), subst Roomy (sym n) (room_up _ _ (omega arith) (omega arith))))

pub returns-then-unit-gt253 : goal.returns-then-unit-gt253
returns-then-unit-gt253 c =
    let a = c.args in
    let r = c.raised-by in
    let f = c.long_divided-f in
    let e = f.ensures.long_divides in
    long_beyond a.d a.up a.down r.result.up f.result.down _ (level a.up a.down r.result.up f.result.down c.requires.1.1 e.few)
    _ _ _ _ c.fives-num.ensures (r.ensures.is ∙ ap (λ (x : ℕ). x * 2 ^ r.result.up) c.fives.ensures)
    e.long e.less e.hi (whole _ _ _ e.full) c.if-unit-gt253.true

pub overflow_add-result : goal.overflow_add-result
overflow_add-result c = let h = tops c in record { fits = omega arith }

pub overflow_cast-result : goal.overflow_cast-result
overflow_cast-result c = let h = tops c in record { fits = omega arith }

pub returns : goal.returns
returns c =
    let a = c.args in
    let r = c.raised-by in
    let f = c.long_divided-f in
    let e = f.ensures.long_divides in
    long_bits a.d a.up a.down r.result.up f.result.down _ (level a.up a.down r.result.up f.result.down c.requires.1.1 e.few)
    _ _ _ _ c.fives-num.ensures (r.ensures.is ∙ ap (λ (x : ℕ). x * 2 ^ r.result.up) c.fives.ensures)
    e.long e.less e.hi (whole _ _ _ e.full) _ c.long_rounded-q.ensures (omega arith)
