-- `digits_of` meets its contract: all so far are digits, and what is left makes the same number after theirs. Assumes nothing.
use borrow.Author.Rules.{rules}
use Prim.Native.Nat.{ℕ, ◌+◌, ◌-◌, ◌*◌}
use native.Mathlib.Omega.{arith}
use mathlib.Core.Path.{◌≡◌, sym, ap, ◌∙◌}
use mathlib.Core.Bool.{Bool, ◌&&◌}
use lib.ListN.{drop, get_or}
use Rattle.decimal.specs.Decimal.{is_digit, value_after}
use Rattle.text.specs.Text.{every}
use Rattle.text.proofs.Bytes.{every_step}
use Rattle.rows.proofs.Numerals.{value_step, value_end, value_grows, digits_empty, digits_other, digits_big, digits_is}
use Rattle.rows.proofs.digits.digits_of.Goals as goal

pub returns-then-is_empty : goal.returns-then-is_empty
returns-then-is_empty c = digits_empty c.args.l.now (search rules)

pub returns-then-not-is_ascii_digit : goal.returns-then-not-is_ascii_digit
returns-then-not-is_ascii_digit c =
    let l = c.loop-b in
    digits_other c.args.l.now l.b-index c.loop-b-test.true l.invariant.digits (sym c.if-not-is_ascii_digit.ensures.value)

-- with the next digit the number is too big, and more digits make no smaller one
pub returns-in_err-checked_mul : goal.returns-in_err-checked_mul
returns-in_err-checked_mul c =
    let s = c.args.l.now in
    let l = c.loop-b in
    let v = l.v * 10 + (get_or s l.b-index 0 - 48) in
    c.from_residual.ensures ∙ digits_big s (omega (arith, c.in_err-checked_mul.ensures, l.invariant.value, value_step s l.v l.b-index c.loop-b-test.true, value_grows v (drop (l.b-index + 1) s)))

pub returns-in_err-v : goal.returns-in_err-v
returns-in_err-v c =
    let s = c.args.l.now in
    let l = c.loop-b in
    let v = l.v * 10 + (get_or s l.b-index 0 - 48) in
    c.from_residual-in_err-v.ensures
    ∙ digits_big s (omega (arith, c.in_ok-checked_mul.ensures, c.in_err-v.ensures, l.invariant.value, value_step s l.v l.b-index c.loop-b-test.true, value_grows v (drop (l.b-index + 1) s)))

pub loop-b-preserved : goal.loop-b-preserved
loop-b-preserved c =
    let s = c.args.l.now in
    let l = c.loop-b in
    let d : l.v * 10 + (get_or s l.b-index 0 - 48) ≡ c.in_ok-v.v = omega (arith, c.in_ok-checked_mul.ensures, c.in_ok-v.ensures) in
    record {
      fits = omega (arith, c.in_ok-v.ensures);
      digits = l.invariant.digits ∙ every_step is_digit s l.b-index c.loop-b-test.true ∙ ap (λ (t : Bool). t && every is_digit (drop (l.b-index + 1) s)) (sym c.if-not-is_ascii_digit.ensures.value);
      value = sym (value_step s l.v l.b-index c.loop-b-test.true ∙ ap (λ (v : ℕ). value_after v (drop (l.b-index + 1) s)) d) ∙ l.invariant.value;
    }

pub returns : goal.returns
returns c =
    let s = c.args.l.now in
    let l = c.loop-b in
    digits_is s l.v l.b-index (search rules) c.loop-b-test.false l.invariant.digits l.invariant.fits (sym (value_end s l.v l.b-index c.loop-b-test.false) ∙ l.invariant.value)
