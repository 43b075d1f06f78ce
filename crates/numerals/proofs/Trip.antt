-- A number written with 9 significant digits reads back as itself. Assumes nothing.
use mathlib.Core.Path.{◌≡◌, refl, sym, ap, ◌∙◌, subst}
use mathlib.Core.Bool.{Bool, true, false, true≢false, cond}
use mathlib.Core.List.{[], ◌∷◌}
use Prim.Native.Nat.{ℕ, zero, suc, ◌+◌, ◌-◌, ◌*◌, ◌^◌, ◌≤◌, ◌<◌}
use native.Mathlib.Nat.{le_trans, le_of_eq, lt_of_lt_of_le, mul_comm, mul_assoc, mul_left_comm, mul_right_comm, mul-pos, mul-le-mul_right, le_of_mul-le-mul_right, pow-succ'}
use native.Mathlib.Omega.{arith}
use lib.Dec.{T, leb, eqb, leb→le, eqb→eq, eqb_refl, lit<, lit≤}
use lib.Arith.{lt_of_le-ne}
use lib.IntN.{ℤ, pos, negsuc}
use lib.Pow.{pow_pos}
use lib.Ieee.{Float, nan, inf, fin, binary32, up, down, round, to_bits, of_bits, fits}
use lib.Ieee.Fits.{and_l, and_r, round-fits, down_pos}
use lib.Ieee.Bits.{of_bits-to_bits}
use lib.Ieee.Nearest.{closest, closest_same, closest_mono}
use lib.Ieee.Scale.{round_same}
use Rattle.decimal.specs.declared.Token.TheVariants.{Number}
use Rattle.decimal.specs.Decimal.{are_digits, value_after, before_point, after_point, number_of, unsigned_of, read_of}
use Rattle.decimal.proofs.Grammar.{grammar}
use Rattle.numerals.specs.Written.{plain_decimal, places, nine, in_range, writable, signed, text_of}
use Rattle.numerals.proofs.Near.{bits_near}
use Rattle.numerals.proofs.Tens.{ten_pos}
use Rattle.numerals.proofs.Texts.{plain_form}
use Rattle.numerals.proofs.Halves.{Within, closest_half}
use Rattle.numerals.proofs.TakenPlaces.{Places, places_are, few, tenfold, one_less}
use Rattle.numerals.proofs.OwnDigits.{Normal, normal_bits, Digits, digits_of, Shift, own_digits}
use Rattle.numerals.proofs.Ranged.{n_low, n_high}

-- ---- nine digits are enough: a half of the last place is less than a quarter of the float's spacing
gap : (L U W X : ℕ) → 100000000 * L ≤ W → W ≤ 16777215 * U → 0 < U → X * 2 ≤ W * 2 + L → W * 2 ≤ X * 2 + L → (W * 4 < X * 4 + U) × (X * 4 < W * 4 + U)
gap L U W X a b c d e = (omega arith, omega arith)

shuffle : (m x y : ℕ) → m * (x * y) ≡ m * y * x
shuffle m x y = simp (mul_assoc, mul_comm, mul_left_comm)

enough : (s : Bool) (m k p : ℕ) → 2 ^ 23 ≤ m → m < 2 ^ 24 → 0 < k → k ≤ 250 → 0 < p → 10 ^ 8 * 2 ^ 149 ≤ m * 2 ^ k * p
    → to_bits binary32 (round binary32 s (closest (m * 2 ^ k * p) (2 ^ 149)) p) ≡ cond s (2 ^ 31) 0 + k * 2 ^ 23 + m
enough s m k p lo hi some k_le P nine =
    let d = closest (m * 2 ^ k * p) (2 ^ 149) in
    let e : m * 2 ^ k * p ≡ m * (p * 2 ^ k) = sym (shuffle m p (2 ^ k)) in
    let w : Within d (m * (p * 2 ^ k)) (2 ^ 149) = subst (λ (x : ℕ). Within d x (2 ^ 149)) e (closest_half (m * 2 ^ k * p) (2 ^ 149) (pow_pos 149)) in
    let g = gap (2 ^ 149) (p * 2 ^ k) (m * (p * 2 ^ k)) (d * 2 ^ 149) (subst (λ (x : ℕ). 10 ^ 8 * 2 ^ 149 ≤ x) e nine) (mul-le-mul_right (p * 2 ^ k) (less m hi)) (mul-pos P (pow_pos k)) w.0 w.1 in
    bits_near s d p m k P lo hi some k_le g.0 g.1
  where
    less : (x : ℕ) → x < 16777216 → x ≤ 16777215
    less x h = omega arith

-- so a decimal of nine digits that is nearest to x rounds to x
back : (x : Float) (s : Bool) (m k p : ℕ) → T (fits binary32 x) → Normal x s m k → 0 < k → k ≤ 250 → 0 < p → 10 ^ 8 * 2 ^ 149 ≤ m * 2 ^ k * p
    → round binary32 s (closest (m * 2 ^ k * p) (2 ^ 149)) p ≡ x
back x s m k p f v some k_le P h =
    let d = closest (m * 2 ^ k * p) (2 ^ 149) in
    let e : to_bits binary32 (round binary32 s d p) ≡ to_bits binary32 x = enough s m k p v.lo v.hi some k_le P h ∙ sym (normal_bits x s m k v) in
    sym (of_bits-to_bits binary32 (round binary32 s d p) (round-fits binary32 s d p)) ∙ ap (of_bits binary32) e ∙ of_bits-to_bits binary32 x f

-- ---- what is written of a decimal of at most nine digits is read as it
read_plain : (s : Bool) (d k : ℕ) → d < 10 ^ 9 → k ≤ 15 → read_of (signed s (plain_decimal d k)) ≡ Number (round binary32 s d (10 ^ k))
read_plain s d k l h = grammar (plain_form s d k l h)

-- ---- a number of the range
-- num / den is n units
module _ (num den n : ℕ) (some : 0 < den) (same : num * 2 ^ 149 ≡ n * den) (low : 8796093 * den ≤ num * 2 ^ 43) (high : num ≤ 1000000 * den) where
  enough_places : 10 ^ 8 * den ≤ num * 10 ^ 15
  enough_places = omega (arith, low)

  abbrev k_of : ℕ
  k_of = places 15 num den 0

  taken : Places 15 num den 0 k_of
  taken = places_are 15 num den 0 enough_places

  -- there is at least one place
  some_place : 0 < k_of
  some_place = go k_of taken.reach
    where
      go : (k : ℕ) → 10 ^ 8 * den ≤ num * 10 ^ k → 0 < k
      go zero r = absurd (none r)
        where
          none : 10 ^ 8 * den ≤ num * 1 → ⊥
          none r = few num den some high r
      go (suc k) r = omega arith

  -- the decimal nearest to num / den has at most nine digits, or is 10 ^ 9
  abbrev d_of : ℕ
  d_of = closest (num * 10 ^ k_of) den

  d_le : d_of ≤ 10 ^ 9
  d_le = closest_mono (num * 10 ^ k_of) den 1000000000 1 some (lit< tt) (tenfold num den k_of some_place (taken.least some_place))

  -- and it is the one nearest to n units
  d_is : d_of ≡ closest (n * 10 ^ k_of) (2 ^ 149)
  d_is = closest_same (num * 10 ^ k_of) den (n * 10 ^ k_of) (2 ^ 149) some (pow_pos 149) (mul_right_comm num (10 ^ k_of) (2 ^ 149) ∙ ap (λ (x : ℕ). x * 10 ^ k_of) same ∙ mul_right_comm n den (10 ^ k_of))

  reach_n : 10 ^ 8 * 2 ^ 149 ≤ n * 10 ^ k_of
  reach_n =
      le_of_mul-le-mul_right {k = den}
      (le_trans (le_of_eq (mul_right_comm (10 ^ 8) (2 ^ 149) den))
      (le_trans (mul-le-mul_right (2 ^ 149) taken.reach)
      (le_of_eq (mul_right_comm num (10 ^ k_of) (2 ^ 149) ∙ ap (λ (x : ℕ). x * 10 ^ k_of) same ∙ mul_right_comm n den (10 ^ k_of))))) some

  -- so it rounds to the float x of that size
  rounds_back : (x : Float) (s : Bool) → T (fits binary32 x) → Digits x s n → round binary32 s d_of (10 ^ k_of) ≡ x
  rounds_back x s f g =
      ap (λ (y : ℕ). round binary32 s y (10 ^ k_of)) (d_is ∙ ap (λ (y : ℕ). closest (y * 10 ^ k_of) (2 ^ 149)) g.is)
      ∙ back x s g.m g.k (10 ^ k_of) f g.normal g.some g.small (ten_pos k_of) (le_trans reach_n (le_of_eq (ap (λ (y : ℕ). y * 10 ^ k_of) g.is)))

  -- and what is written reads back as x
  nine_back : (x : Float) (s : Bool) → T (fits binary32 x) → Digits x s n → read_of (signed s (nine num den k_of)) ≡ Number x
  unfolding nine
  nine_back x s f g = go (eqb d_of (10 ^ 9)) (eqb→eq d_of (10 ^ 9)) (λ (e : d_of ≡ 10 ^ 9). subst (λ (y : ℕ). T (eqb d_of y)) e (eqb_refl d_of))
    where
      top : (k : ℕ) → k ≤ 15 → k - 1 ≤ 15
      top k h = omega arith

      go : (b : Bool) → (T b → d_of ≡ 10 ^ 9) → (d_of ≡ 10 ^ 9 → T b) → read_of (signed s (cond b (plain_decimal (10 ^ 8) (k_of - 1)) (plain_decimal d_of k_of))) ≡ Number x
      go true h i =
          read_plain s (10 ^ 8) (k_of - 1) (lit< tt) (top k_of taken.last)
          ∙ ap Number (round_same binary32 s (10 ^ 8) (10 ^ (k_of - 1)) (10 ^ 9) (10 ^ k_of) (ten_pos (k_of - 1)) (ten_pos k_of) (one_less k_of some_place)
          ∙ ap (λ (y : ℕ). round binary32 s y (10 ^ k_of)) (sym (h tt)) ∙ rounds_back x s f g)
      go false h i = read_plain s d_of k_of (lt_of_le-ne d_le i) taken.last ∙ ap Number (rounds_back x s f g)

-- ---- the theorem
nonzero : (s : Bool) (a : ℕ) (e : ℤ) → T (fits binary32 (fin s (suc a) e)) → T (in_range (suc a * up e) (down e)) → read_of (signed s (nine (suc a * up e) (down e) (places 15 (suc a * up e) (down e) 0))) ≡ Number (fin s (suc a) e)
unfolding in_range
nonzero s a e f r =
    let w = own_digits s a e f in
    let hi : suc a < 2 ^ 24 = w.0 in
    let sh : Shift (suc a) e = w.1 in
    let num = suc a * up e in
    let n = suc a * 2 ^ sh.j in
    let low : 8796093 * down e ≤ num * 2 ^ 43 = leb→le (8796093 * down e) (num * 2 ^ 43) (and_l (leb (8796093 * down e) (num * 2 ^ 43)) (leb num (1000000 * down e)) r) in
    let high : num ≤ 1000000 * down e = leb→le num (1000000 * down e) (and_r (leb (8796093 * down e) (num * 2 ^ 43)) (leb num (1000000 * down e)) r) in
    nine_back num (down e) n (down_pos e) sh.is low high (fin s (suc a) e) s f
    (digits_of (fin s (suc a) e) s (suc a) sh.j (refl, sh.is) hi
    (n_low num (down e) n (down_pos e) sh.is low high) (lt_of_lt_of_le (n_high num (down e) n (down_pos e) sh.is low high) (lit≤ tt)))

-- a zero is written as zero
pub power_one : (e : ℤ) → up e * down e ≡ 1 → e ≡ pos 0
power_one (pos zero) h = refl
power_one (pos (suc k)) h = absurd (none (2 ^ k) (2 ^ suc k) (pow_pos k) (pow-succ' 2 k) h)
  where
    none : (x y : ℕ) → 0 < x → y ≡ 2 * x → y * 1 ≡ 1 → ⊥
    none x y l e f = omega arith
power_one (negsuc k) h = absurd (none (2 ^ k) (2 ^ suc k) (pow_pos k) (pow-succ' 2 k) h)
  where
    none : (x y : ℕ) → 0 < x → y ≡ 2 * x → 1 * y ≡ 1 → ⊥
    none x y l e f = omega arith

zero_back : (s : Bool) → read_of (signed s (48 ∷ [])) ≡ Number (fin s 0 (pos 0))
unfolding read_of unsigned_of before_point after_point number_of are_digits value_after signed round
zero_back true = refl
zero_back false = refl

nil_back : (s : Bool) (e : ℤ) → T (fits binary32 (fin s 0 e)) → read_of (signed s (48 ∷ [])) ≡ Number (fin s 0 e)
unfolding fits
nil_back s e f = zero_back s ∙ ap (λ (y : ℤ). Number (fin s 0 y)) (sym (power_one e (eqb→eq (up e * down e) 1 f)))

-- what is written of a number is read as that number, bit for bit
pub trip : (x : Float) → T (fits binary32 x) → writable x ≡ true → read_of (text_of x) ≡ Number x
unfolding text_of writable
trip nan f w = absurd (true≢false (sym w))
trip (inf s) f w = absurd (true≢false (sym w))
trip (fin s zero e) f w = nil_back s e f
trip (fin s (suc a) e) f w = rw w (nonzero s a e f (subst T (sym w) tt))
