-- Nine digits written are the nearest decimal of nine digits, a tie to the even one. Assumes nothing.
use mathlib.Core.Path.{◌≡◌, refl, sym, ap, ◌∙◌, subst}
use mathlib.Core.Bool.{Bool, true, false, cond, not}
use Prim.Native.Nat.{ℕ, zero, suc, ◌+◌, ◌-◌, ◌*◌, ◌/◌, ◌%◌, ◌^◌, ◌≤◌, ◌<◌, compare, Ordering}
use native.Mathlib.Nat.{le_trans, le_of_eq, mul_comm, mul_assoc, mul_right_comm, mul-sub, add-mul, mul-one, one-mul, mul-pos, mul-le-mul_right, mul-le-mul_left, mul-lt-mul_of_pos_right, mod-lt, div-add-mod', eq_of_mul-eq-mul_right}
use native.Mathlib.Omega.{arith}
use lib.Arith.{lt_of_le-ne}
use lib.Dec.{T, eqb, leb, eqb→eq, eqb_refl, leb→le, nleb→lt, lit<, lit≤}
use lib.Pow.{pow-add}
use lib.Ieee.{nearest}
use lib.Ieee.Nearest.{closest, closest_mono}
use Rattle.decimal.proofs.Scale.{ten_le}
use Rattle.numerals.specs.Written.{places, plain_decimal, nine, signed}
use Rattle.numerals.specs.Nearest.{decimal_gap, NearestNine, NineText}
use Rattle.numerals.proofs.Tens.{ten_pos}
use Rattle.numerals.proofs.Texts.{plain_form}
use Rattle.numerals.proofs.Halves.{Cmp, cmp, Within, closest_half}
use Rattle.numerals.proofs.TakenPlaces.{Places, places_are, few, tenfold, ten_back}

-- ---- the whole number nearest to a / b: no other is nearer, and where one is as near, it is even
abbrev apart : ℕ → ℕ → ℕ
apart x y = x - y + (y - x)

even_of : (o : Ordering) (q r b a : ℕ) → q * b + r ≡ a → r < b → Cmp o (r * 2) b → apart (nearest q o * b) a * 2 ≡ b → nearest q o % 2 ≡ 0
even_of Ordering.lt q r b a e l c h = absurd (omega arith)
even_of Ordering.eq q r b a e l c h = omega arith
even_of Ordering.gt q r b a e l c h =
    let f : nearest q Ordering.gt * b ≡ q * b + 1 * b = ap (λ (x : ℕ). x * b) (one_more q) ∙ add-mul q 1 b in
    absurd (omega arith)
  where
    one_more : (x : ℕ) → suc x ≡ x + 1
    one_more x = omega arith

tie_even : (a b : ℕ) → 0 < b → apart (closest a b * b) a * 2 ≡ b → closest a b % 2 ≡ 0
tie_even a b h = even_of (compare (a % b * 2) b) (a / b) (a % b) b a (div-add-mod' a b) (mod-lt a h) (cmp (a % b * 2) b)

-- a whole number below, and one above
below : (c e b : ℕ) → e < c → e * b + b ≤ c * b
below c e b h = le_trans (le_of_eq (ap (λ (x : ℕ). e * b + x) (sym (one-mul b)) ∙ sym (add-mul e 1 b))) (mul-le-mul_right b (omega arith))

near_low : (x y a b : ℕ) → x * 2 ≤ a * 2 + b → a * 2 ≤ x * 2 + b → y + b ≤ x → apart x a ≤ apart y a
near_low x y a b h k l = omega arith

near_high : (x y a b : ℕ) → x * 2 ≤ a * 2 + b → a * 2 ≤ x * 2 + b → x + b ≤ y → apart x a ≤ apart y a
near_high x y a b h k l = omega arith

tie_low : (x y a b : ℕ) → x * 2 ≤ a * 2 + b → a * 2 ≤ x * 2 + b → 0 < b → y + b ≤ x → apart y a ≡ apart x a → apart x a * 2 ≡ b
tie_low x y a b h k p l e = omega arith

tie_high : (x y a b : ℕ) → x * 2 ≤ a * 2 + b → a * 2 ≤ x * 2 + b → 0 < b → x + b ≤ y → apart y a ≡ apart x a → apart x a * 2 ≡ b
tie_high x y a b h k p l e = omega arith

module _ (a b : ℕ) (some : 0 < b) where
  abbrev c : ℕ
  c = closest a b

  pub whole_least : (e : ℕ) → apart (c * b) a ≤ apart (e * b) a
  whole_least e = go (leb c e) (leb→le c e) (nleb→lt c e) (eqb c e) (eqb→eq c e) (λ (z : c ≡ e). subst (λ (x : ℕ). T (eqb c x)) z (eqb_refl c))
    where
      w : Within c a b
      w = closest_half a b some

      go : (s : Bool) → (T s → c ≤ e) → (T (not s) → e < c) → (t : Bool) → (T t → c ≡ e) → (c ≡ e → T t) → apart (c * b) a ≤ apart (e * b) a
      go false f g t h i = near_low (c * b) (e * b) a b w.0 w.1 (below c e b (g tt))
      go true f g true h i = le_of_eq (ap (λ (x : ℕ). apart (x * b) a) (h tt))
      go true f g false h i = near_high (c * b) (e * b) a b w.0 w.1 (below e c b (lt_of_le-ne (f tt) i))

  pub whole_even : (e : ℕ) → apart (e * b) a ≡ apart (c * b) a → (e ≡ c → ⊥) → c % 2 ≡ 0
  whole_even e h n = tie_even a b some (go (leb c e) (leb→le c e) (nleb→lt c e))
    where
      w : Within c a b
      w = closest_half a b some

      go : (s : Bool) → (T s → c ≤ e) → (T (not s) → e < c) → apart (c * b) a * 2 ≡ b
      go false f g = tie_low (c * b) (e * b) a b w.0 w.1 some (below c e b (g tt)) h
      go true f g = tie_high (c * b) (e * b) a b w.0 w.1 some (below e c b (lt_of_le-ne (f tt) (λ z. n (sym z)))) h

-- ---- distances at another number of places
apart_times : (x y t : ℕ) → apart (x * t) (y * t) ≡ apart x y * t
apart_times x y t =
    ap (λ (z : ℕ). z + (y * t - x * t)) (sub_times x y t) ∙ ap (λ (z : ℕ). (x - y) * t + z) (sub_times y x t) ∙ sym (add-mul (x - y) (y - x) t)
  where
    sub_times : (u v w : ℕ) → u * w - v * w ≡ (u - v) * w
    sub_times u v w = ap (λ (z : ℕ). z - v * w) (mul_comm u w) ∙ ap (λ (z : ℕ). w * u - z) (mul_comm v w) ∙ sym (mul-sub w u v) ∙ mul_comm w (u - v)

-- with t = 10 ^ (k - j) the decimal e / 10 ^ j is e * t / 10 ^ k
far_scaled : (num den e j t p q : ℕ) → p ≡ q * t → apart (e * t * den) (num * p) ≡ apart (e * den) (num * q) * t
far_scaled num den e j t p q h =
    ap (λ (x : ℕ). apart x (num * p)) (mul_right_comm e t den) ∙ ap (λ (x : ℕ). apart (e * den * t) x) (ap (λ (x : ℕ). num * x) h ∙ sym (mul_assoc num q t)) ∙ apart_times (e * den) (num * q) t

-- the same with more places than k: then e / 10 ^ j is below 10 ^ 8 / 10 ^ k, and so below num / den
fine_far : (n z a y p q : ℕ) → a * p ≡ n * q → z ≤ n → y * p < z * q → apart z n * q < apart y a * p
fine_far n z a y p q e l h =
    let f : (n - z) * q ≡ n * q - z * q = mul_comm (n - z) q ∙ mul-sub q n z ∙ ap (λ (x : ℕ). x - q * z) (mul_comm q n) ∙ ap (λ (x : ℕ). n * q - x) (mul_comm q z) in
    let g : (a - y) * p ≡ a * p - y * p = mul_comm (a - y) p ∙ mul-sub p a y ∙ ap (λ (x : ℕ). x - p * y) (mul_comm p a) ∙ ap (λ (x : ℕ). a * p - x) (mul_comm p y) in
    let i : apart y a * p ≡ (y - a) * p + (a - y) * p = add-mul (y - a) (a - y) p in
    let o : apart z n ≡ n - z = omega arith in
    let j : apart z n * q ≡ (n - z) * q = ap (λ (x : ℕ). x * q) o in
    let m : z * q ≤ n * q = mul-le-mul_right q l in
    omega arith

-- ---- of num / den, with k places and 10 ^ 8 of them at least
module _ (num den k : ℕ) (some : 0 < den) (reach : 10 ^ 8 * den ≤ num * 10 ^ k) where
  abbrev d : ℕ
  d = closest (num * 10 ^ k) den

  -- more places
  finer : (e j : ℕ) → e < 10 ^ 9 → k < j → decimal_gap num den (10 ^ 8) k * 10 ^ j < decimal_gap num den e j * 10 ^ k
  finer e j h l = fine_far (num * 10 ^ k) (10 ^ 8 * den) (num * 10 ^ j) (e * den) (10 ^ k) (10 ^ j) (mul_right_comm num (10 ^ j) (10 ^ k)) reach under
    where
      more : 10 ^ k * 10 ≤ 10 ^ j
      more = le_trans (le_of_eq (sym (pow-add 10 k 1))) (ten_le (k + 1) j (omega arith))

      under : e * den * 10 ^ k < 10 ^ 8 * den * 10 ^ j
      under =
          let a : e * (den * 10 ^ k) < 1000000000 * (den * 10 ^ k) = mul-lt-mul_of_pos_right h (mul-pos some (ten_pos k)) in
          let b : den * (10 ^ k * 10) ≤ den * 10 ^ j = mul-le-mul_left den more in
          omega arith

  pub all_least : (e j : ℕ) → e < 10 ^ 9 → decimal_gap num den d k * 10 ^ j ≤ decimal_gap num den e j * 10 ^ k
  all_least e j h = go (leb j k) (leb→le j k) (nleb→lt j k)
    where
      go : (b : Bool) → (T b → j ≤ k) → (T (not b) → k < j) → decimal_gap num den d k * 10 ^ j ≤ decimal_gap num den e j * 10 ^ k
      go true f g = fewer (k - j) (split j k (f tt))
        where
          split : (x y : ℕ) → x ≤ y → y ≡ x + (y - x)
          split x y l = omega arith

          fewer : (i : ℕ) → k ≡ j + i → decimal_gap num den d k * 10 ^ j ≤ decimal_gap num den e j * 10 ^ k
          fewer i s =
              let p : 10 ^ k ≡ 10 ^ j * 10 ^ i = ap (λ (x : ℕ). 10 ^ x) s ∙ pow-add 10 j i in
              let w = whole_least (num * 10 ^ k) den some (e * 10 ^ i) in
              let z = far_scaled num den e j (10 ^ i) (10 ^ k) (10 ^ j) p in
              le_trans (mul-le-mul_right (10 ^ j) (le_trans w (le_of_eq z))) (le_of_eq (mul_assoc (decimal_gap num den e j) (10 ^ i) (10 ^ j) ∙ ap (λ (x : ℕ). decimal_gap num den e j * x) (mul_comm (10 ^ i) (10 ^ j) ∙ sym p)))
      go false f g = le_trans (mul-le-mul_right (10 ^ j) (whole_least (num * 10 ^ k) den some (10 ^ 8))) (weaker (finer e j h (g tt)))
        where
          weaker : {x y : ℕ} → x < y → x ≤ y
          weaker l = omega arith

  pub all_even : (e j : ℕ) → e < 10 ^ 9 → decimal_gap num den e j * 10 ^ k ≡ decimal_gap num den d k * 10 ^ j → (e * 10 ^ k ≡ d * 10 ^ j → ⊥) → d % 2 ≡ 0
  all_even e j h eq n = go (leb j k) (leb→le j k) (nleb→lt j k)
    where
      go : (b : Bool) → (T b → j ≤ k) → (T (not b) → k < j) → d % 2 ≡ 0
      go true f g = fewer (k - j) (split j k (f tt))
        where
          split : (x y : ℕ) → x ≤ y → y ≡ x + (y - x)
          split x y l = omega arith

          fewer : (i : ℕ) → k ≡ j + i → d % 2 ≡ 0
          fewer i s =
              let p : 10 ^ k ≡ 10 ^ j * 10 ^ i = ap (λ (x : ℕ). 10 ^ x) s ∙ pow-add 10 j i in
              let z = far_scaled num den e j (10 ^ i) (10 ^ k) (10 ^ j) p in
              whole_even (num * 10 ^ k) den some (e * 10 ^ i)
              (z ∙ cancel (decimal_gap num den e j) (10 ^ i) (10 ^ j) (decimal_gap num den d k) (ten_pos j) (sym (ap (λ (x : ℕ). decimal_gap num den e j * x) p) ∙ eq))
              (λ (y : e * 10 ^ i ≡ d). n (ap (λ (x : ℕ). e * x) (p ∙ mul_comm (10 ^ j) (10 ^ i)) ∙ sym (mul_assoc e (10 ^ i) (10 ^ j)) ∙ ap (λ (x : ℕ). x * 10 ^ j) y))
            where
              cancel : (x t q y : ℕ) → 0 < q → x * (q * t) ≡ y * q → x * t ≡ y
              cancel x t q y pos e = eq_of_mul-eq-mul_right q pos (x * t) y (mul_assoc x t q ∙ ap (λ (z : ℕ). x * z) (mul_comm t q) ∙ e)
      go false f g =
          absurd (clash (decimal_gap num den d k * 10 ^ j) (decimal_gap num den (10 ^ 8) k * 10 ^ j) (decimal_gap num den e j * 10 ^ k)
          (mul-le-mul_right (10 ^ j) (whole_least (num * 10 ^ k) den some (10 ^ 8))) (finer e j h (g tt)) eq)
        where
          clash : (x y z : ℕ) → x ≤ y → y < z → z ≡ x → ⊥
          clash x y z a b c = omega arith

-- ---- of a number of the range
module _ (s : Bool) (num den : ℕ) (some : 0 < den) (low : 8796093 * den ≤ num * 2 ^ 43) (high : num ≤ 1000000 * den) where
  abbrev k_of : ℕ
  k_of = places 15 num den 0

  taken : Places 15 num den 0 k_of
  taken = places_are 15 num den 0 (omega (arith, low))

  some_place : 0 < k_of
  some_place = go k_of taken.reach
    where
      go : (k : ℕ) → 10 ^ 8 * den ≤ num * 10 ^ k → 0 < k
      go zero r = absurd (few num den some high r)
      go (suc k) r = omega arith

  abbrev d_of : ℕ
  d_of = closest (num * 10 ^ k_of) den

  d_le : d_of ≤ 10 ^ 9
  d_le = closest_mono (num * 10 ^ k_of) den 1000000000 1 some (lit< tt) (tenfold num den k_of some_place (taken.least some_place))

  d_ge : 10 ^ 8 ≤ d_of
  d_ge = closest_mono 100000000 1 (num * 10 ^ k_of) den (lit< tt) some (le_trans taken.reach (le_of_eq (sym (mul-one (num * 10 ^ k_of)))))

  plain_nine : (d_of ≡ 10 ^ 9 → ⊥) → NearestNine num den d_of k_of
  plain_nine n = record {
    least_digits = d_ge;
    most_digits = lt_of_le-ne d_le n;
    least = all_least num den k_of some taken.reach;
    even = all_even num den k_of some taken.reach;
  }

  -- ten digits: one place goes
  carried : d_of ≡ 10 ^ 9 → NearestNine num den (10 ^ 8) (k_of - 1)
  carried e = record {
    least_digits = lit≤ tt;
    most_digits = lit< tt;
    least = λ e j h. less (decimal_gap num den (10 ^ 8) (k_of - 1)) (decimal_gap num den e j) (10 ^ j) (10 ^ (k_of - 1)) (moved e j h);
    even = λ e j h f n. refl;
  }
    where
      ten : 10 ^ k_of ≡ 10 ^ (k_of - 1) * 10
      ten = ten_back k_of some_place

      same : decimal_gap num den d_of k_of ≡ decimal_gap num den (10 ^ 8) (k_of - 1) * 10
      same =
          ap (λ (x : ℕ). decimal_gap num den x k_of) e
          ∙ far_scaled num den (10 ^ 8) (k_of - 1) 10 (10 ^ k_of) (10 ^ (k_of - 1)) ten

      moved : (e j : ℕ) → e < 10 ^ 9 → decimal_gap num den (10 ^ 8) (k_of - 1) * 10 * 10 ^ j ≤ decimal_gap num den e j * (10 ^ (k_of - 1) * 10)
      moved e j h = le_trans (le_of_eq (ap (λ (x : ℕ). x * 10 ^ j) (sym same))) (le_trans (all_least num den k_of some taken.reach e j h) (le_of_eq (ap (λ (x : ℕ). decimal_gap num den e j * x) ten)))

      less : (x y q p : ℕ) → x * 10 * q ≤ y * (p * 10) → x * q ≤ y * p
      less x y q p h = omega arith

  pub nine_nearest : NineText (signed s (nine num den k_of)) s num den
  unfolding nine
  nine_nearest = go (eqb d_of (10 ^ 9)) (eqb→eq d_of (10 ^ 9)) (λ (e : d_of ≡ 10 ^ 9). subst (λ (y : ℕ). T (eqb d_of y)) e (eqb_refl d_of))
    where
      top : (k : ℕ) → k ≤ 15 → k - 1 ≤ 15
      top k h = omega arith

      go : (b : Bool) → (T b → d_of ≡ 10 ^ 9) → (d_of ≡ 10 ^ 9 → T b) → NineText (signed s (cond b (plain_decimal (10 ^ 8) (k_of - 1)) (plain_decimal d_of k_of))) s num den
      go true h i = record { d = 10 ^ 8; k = k_of - 1; form = plain_form s (10 ^ 8) (k_of - 1) (lit< tt) (top k_of taken.last); nearest = carried (h tt) }
      go false h i = record { d = d_of; k = k_of; form = plain_form s d_of k_of (lt_of_le-ne d_le i) taken.last; nearest = plain_nine i }
