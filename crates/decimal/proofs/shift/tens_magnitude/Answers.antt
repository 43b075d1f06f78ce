-- `decimal::shift::tens_magnitude` meets its contract: far up it is beyond, far down nothing, and else what the divisions give. Assumes nothing.
use mathlib.Core.Path.{◌≡◌, sym, ap, ◌∙◌, subst}
use mathlib.Core.Logic.{◌⊎◌, inl, inr}
use mathlib.Core.Bool.{cond}
use Prim.Native.Nat.{ℕ, ◌*◌, ◌^◌, ◌<◌}
use native.Mathlib.Nat.{add-zero, mul-one, zero-mul}
use native.Mathlib.Omega.{arith}
use lib.Dec.{lit≤}
use lib.Ieee.{binary32, round, to_bits}
use Rattle.float.proofs.Fraction.{bits_zero}
use Rattle.decimal.specs.inner.Steps.{BitsOf}
use Rattle.decimal.proofs.Moves.{ten_pos, nothing, beyond}
use Rattle.decimal.proofs.Rounds.{bits_infinite}
use Rattle.decimal.proofs.shift.tens_magnitude.Goals as goal

zero_bits : (d up down : ℕ) → d ≡ 0 → BitsOf (d * 10 ^ up) (10 ^ down) 0
zero_bits d up down e =
    record {
      small = lit≤ tt;
      signed = λ s. add-zero (cond s (2 ^ 31) 0) ∙ sym (bits_zero s (10 ^ down) (ten_pos down)) ∙ ap (λ (x : ℕ). to_bits binary32 (round binary32 s x (10 ^ down))) (sym (zero-mul (10 ^ up)) ∙ ap (λ (x : ℕ). x * 10 ^ up) (sym e));
    }

up_bits : (d up down : ℕ) → 0 < d → 38 < up → (up ≡ 0) ⊎ (down ≡ 0) → BitsOf (d * 10 ^ up) (10 ^ down) 2139095040
up_bits d up down h l (inl e) = absurd (never up l e)
  where
    never : (x : ℕ) → 38 < x → x ≡ 0 → ⊥
    never x l e = omega arith
up_bits d up down h l (inr e) = record { small = lit≤ tt; signed = λ s. sym (ap (to_bits binary32) (beyond s d up down h (omega arith)) ∙ bits_infinite s) }

down_bits : (d up down : ℕ) → d < 2 ^ 64 → 64 < down → (up ≡ 0) ⊎ (down ≡ 0) → BitsOf (d * 10 ^ up) (10 ^ down) 0
down_bits d up down h l (inr e) = absurd (never down l e)
  where
    never : (x : ℕ) → 64 < x → x ≡ 0 → ⊥
    never x l e = omega arith
down_bits d up down h l (inl e) =
    record { small = lit≤ tt; signed = λ s. add-zero (cond s (2 ^ 31) 0) ∙ sym (ap (to_bits binary32) (nothing s d up down h (omega arith)) ∙ bits_zero s 1 (lit≤ tt)) }

-- no place up
plain : (d up down r : ℕ) → up ≡ 0 → BitsOf d (10 ^ down) r → BitsOf (d * 10 ^ up) (10 ^ down) r
plain d up down r e b = subst (λ (x : ℕ). BitsOf x (10 ^ down) r) (sym (mul-one d) ∙ ap (λ (x : ℕ). d * 10 ^ x) (sym e)) b

pub returns-then-d-eq0 : goal.returns-then-d-eq0
returns-then-d-eq0 c = zero_bits _ _ _ c.if-d-eq0.true

pub returns-then-up-gt38 : goal.returns-then-up-gt38
returns-then-up-gt38 c = up_bits _ _ _ (omega arith) c.if-up-gt38.true c.requires

pub returns-then-down-gt64 : goal.returns-then-down-gt64
returns-then-down-gt64 c = down_bits _ _ _ (omega arith) c.if-down-gt64.true c.requires

pub returns-then-up-eq0 : goal.returns-then-up-eq0
returns-then-up-eq0 c = plain _ _ _ _ c.if-up-eq0.true c.down_magnitude.ensures
