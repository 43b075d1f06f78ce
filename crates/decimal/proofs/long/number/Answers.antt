-- `decimal::long::number` meets its contract: by how many digits there are, and how many count. Assumes nothing.
use mathlib.Core.Path.{◌≡◌, sym, ap, ◌∙◌}
use mathlib.Core.Bool.{Bool, true, false, cond}
use mathlib.Core.List.{List}
use Prim.Native.Nat.{ℕ, ◌+◌, ◌*◌, ◌^◌, ◌≤◌, ◌<◌}
use native.Mathlib.Nat.{mul-one, mul_assoc}
use native.Mathlib.Omega.{arith}
use lib.ListN.{length}
use lib.Pow.{pow-add}
use lib.Ieee.{Float, binary32, round}
use Rattle.decimal.specs.declared.Token.{Token}
use Rattle.decimal.specs.declared.Token.TheVariants.{Number, NoNumber}
use Rattle.decimal.specs.Decimal.{value_after}
use Rattle.decimal.specs.Long.{long_number, most_significant}
use Rattle.decimal.specs.inner.Counted.{Kept, MovedIs, NumberIs}
use Rattle.decimal.proofs.LongAfter.{long_none, long_many, long_is}
use Rattle.decimal.proofs.long.number.Goals as goal

either : (x y z : Token) (lower : Bool) → x ≡ z → y ≡ z → z ≡ cond lower x y
either x y z true e f = sym e
either x y z false e f = sym f

-- value times its zeros, as digits or as a number
module _ (neg : Bool) (ds : List ℕ) (v c z k : ℕ) (o : Kept ds v c z) (h : 0 < length ds) where
  down : (e : ℕ) → Number (round binary32 neg (v * 10 ^ z) (10 ^ (k + e))) ≡ long_number neg ds 0 (k + e)
  down e = ap (λ (x : ℕ). Number (round binary32 neg x (10 ^ (k + e)))) (sym o.is ∙ sym (mul-one (value_after 0 ds))) ∙ sym (long_is neg ds 0 (k + e) h o.fits)

  up : (e : ℕ) → Number (round binary32 neg (v * 10 ^ (z + e)) (10 ^ k)) ≡ long_number neg ds e k
  up e =
      ap (λ (x : ℕ). Number (round binary32 neg x (10 ^ k))) (ap (λ (x : ℕ). v * x) (pow-add 10 z e) ∙ sym (mul_assoc v (10 ^ z) (10 ^ e)) ∙ ap (λ (x : ℕ). x * 10 ^ e) (sym o.is))
      ∙ sym (long_is neg ds e k h o.fits)

  both : (lower : Bool) (e : ℕ) → Number (cond lower (round binary32 neg (v * 10 ^ z) (10 ^ (k + e))) (round binary32 neg (v * 10 ^ (z + e)) (10 ^ k))) ≡ cond lower (long_number neg ds 0 (k + e)) (long_number neg ds e k)
  both true e = down e
  both false e = up e

found : (neg : Bool) (v c z n k power : ℕ) (lower : Bool) (r : Float) → MovedIs neg v z k power lower r → (n ≡ 0 → ⊥) → c ≤ most_significant → NumberIs neg v c z n k power lower (Number r)
found neg v c z n k power lower r m f l ds e w g s = ap Number (m e s) ∙ both neg ds v c z k (w.few l) (omega arith) lower e

no_digits : (neg : Bool) (v c z n k power : ℕ) (lower : Bool) → n ≡ 0 → NumberIs neg v c z n k power lower NoNumber
no_digits neg v c z n k power lower h ds e w g s =
    either (long_number neg ds 0 (k + e)) (long_number neg ds e k) NoNumber lower (long_none neg ds 0 (k + e) (sym g ∙ h)) (long_none neg ds e k (sym g ∙ h))

too_many : (neg : Bool) (v c z n k power : ℕ) (lower : Bool) → most_significant < c → NumberIs neg v c z n k power lower NoNumber
too_many neg v c z n k power lower h ds e w g s =
    either (long_number neg ds 0 (k + e)) (long_number neg ds e k) NoNumber lower (long_many neg ds 0 (k + e) (w.more h)) (long_many neg ds e k (w.more h))

pub returns-then-d-eq0 : goal.returns-then-d-eq0
returns-then-d-eq0 c = let a = c.args in no_digits a.d.neg a.d.value a.d.count a.d.zeros a.d.all a.d.places a.power a.lower c.if-d-eq0.true

pub returns-then-d-gt-MOST_SIGNIFICANT : goal.returns-then-d-gt-MOST_SIGNIFICANT
returns-then-d-gt-MOST_SIGNIFICANT c = let a = c.args in too_many a.d.neg a.d.value a.d.count a.d.zeros a.d.all a.d.places a.power a.lower c.if-d-gt-MOST_SIGNIFICANT.true

pub returns : goal.returns
returns c = let a = c.args in found a.d.neg a.d.value a.d.count a.d.zeros a.d.all a.d.places a.power a.lower _ c.moved-x.ensures c.if-d-eq0.false c.if-d-gt-MOST_SIGNIFICANT.false
