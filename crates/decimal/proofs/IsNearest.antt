-- `round` to binary32 is the nearest f32 of the sign, a tie to the even one, and nothing else is (`round_is_nearest`, `nearest_is_round`): for every fraction up to where infinity begins. From there on it is infinite (`round_infinite`). Assumes nothing.
use mathlib.Core.Path.{◌≡◌, refl, sym, ap, ◌∙◌, subst}
use mathlib.Core.Logic.{◌⊎◌, inl, inr}
use mathlib.Core.Bool.{Bool}
use Prim.Native.Nat.{ℕ, ◌+◌, ◌-◌, ◌*◌, ◌/◌, ◌%◌, ◌^◌, ◌≤◌, ◌<◌}
use native.Mathlib.Nat.{le_trans, le_of_eq, le_of_lt, le_antisymm, lt_of_lt_of_le, lt_of_le_of_lt, lt_of_not-le, not-le_of_lt, mul-pos, mul_assoc, mul-le-mul_right, mul-lt-mul_of_pos_right, mod-lt, div-add-mod', div-lt_iff_lt-mul, le-div_iff_mul-le}
use native.Mathlib.Decide.{dec_le, ℕ_discrete}
use native.Mathlib.Omega.{arith}
use lib.Dec.{lit<, lit≤}
use lib.Pow.{pow_pos, pow_mono, pow-lt, pow-add}
use lib.IntN.{pos}
use lib.Ieee.{Float, inf, fin, binary32, size, round, to_bits, fits}
use lib.Ieee.Digits.{size-lt, size-le}
use lib.Ieee.Fits.{round_is, round-fits}
use lib.Ieee.Exact.{HasValue, units_val}
use lib.Ieee.Nearest.{closest}
use Rattle.float.specs.Units.{Sized}
use Rattle.decimal.specs.Nearest.{far, IsNearest, past, Rounded, near, beyond}
use Rattle.float.proofs.Nearest.{stays, moves}
use Rattle.float.proofs.Units.{Full, shape, same_units}
use Rattle.decimal.proofs.LastDigit.{last_digit}
use Rattle.decimal.proofs.Rounds.{kept_few, kept_full, infinite, round_beyond}
use Rattle.decimal.proofs.Neighbours.{Between, full_next, few_next, nearer, tie}

-- ---- what `round` picks: in units the fraction is n / p, and it drops k digits

between : (n p k : ℕ) → k ≡ size (n / p) - 24 → 0 < p → Between n p (closest n (p * 2 ^ k)) k
between n p k e P =
    record { w = w; rest = n % u; long = sym (div-add-mod' n u); less = mod-lt n (mul-pos P (pow_pos k)); full = kept_full n p k e; few = kept_few n p k e; picks = go (dec_le (n % u * 2 + w % 2) u) }
  where
    u : ℕ
    u = p * 2 ^ k

    w : ℕ
    w = n / u

    go : Dec (n % u * 2 + w % 2 ≤ u) → ((closest n u ≡ w) × (n % u * 2 + w % 2 ≤ u)) ⊎ ((closest n u ≡ w + 1) × (u < n % u * 2 + w % 2))
    go (yes l) = inl (sym (stays w (n % u * 2) u l), l)
    go (no f) = let l = lt_of_not-le f in inr (sym (moves w (n % u * 2) u l), l)

-- ---- the rounded fraction is q * 2 ^ k units, and q is so picked

record Picked (s : Bool) (d p : ℕ) (r : Float) : Type 0 where
  pub q : ℕ
  pub k : ℕ
  pub sized : Sized r s (q * 2 ^ k)
  pub picks : Between (d * 2 ^ 149) p q k
  pub full : Full q k
  pub few : q ≤ 2 ^ 24

-- q is w or w + 1
ends : (n p q k : ℕ) → Between n p q k → Full q k × (q ≤ 2 ^ 24)
ends n p q k b =
    elim b.picks [
      | inl h ↦ subst (λ (x : ℕ). Full x k × (x ≤ 2 ^ 24)) (sym h.0) (b.full, le_of_lt b.few)
      | inr h ↦ subst (λ (x : ℕ). Full x k × (x ≤ 2 ^ 24)) (sym h.0) (full_next b.full, few_next b.w b.few)
    ]

-- ---- where infinity begins: in units n / p is 33554431 * 2 ^ 252 there, which is half-way from 16777215 to 16777216 of 2 ^ 253

edge : (p : ℕ) → past * p * 2 ^ 149 ≡ 33554431 * (p * 2 ^ 252)
edge p = shuffle 33554431 (2 ^ 103) p (2 ^ 149) ∙ ap (λ (x : ℕ). 33554431 * (p * x)) (sym (pow-add 2 103 149))
  where
    shuffle : (a b c e : ℕ) → a * b * c * e ≡ a * (c * (b * e))
    shuffle a b c e = omega arith

double : (p : ℕ) → p * 2 ^ 253 ≡ p * 2 ^ 252 * 2
double p = ap (λ (x : ℕ). p * x) (pow-add 2 252 1) ∙ sym (mul_assoc p (2 ^ 252) 2)

-- below it the number picked is no more than 16777215
below_edge : (w rest t n u q : ℕ) → u ≡ t * 2 → n ≡ w * u + rest → n < 33554431 * t → w < 16777216 → ((q ≡ w) × (rest * 2 + w % 2 ≤ u)) ⊎ ((q ≡ w + 1) × (u < rest * 2 + w % 2)) → q ≤ 16777215
below_edge w rest t n u q e f h l (inl g) = omega arith
below_edge w rest t n u q e f h l (inr g) = go (ℕ_discrete w 16777215)
  where
    go : Dec (w ≡ 16777215) → q ≤ 16777215
    go (no k) = omega arith
    go (yes k) = absurd (over (f ∙ ap (λ (x : ℕ). x * u + rest) k))
      where
        over : n ≡ 16777215 * u + rest → ⊥
        over m = omega arith

-- from it on it is 16777216
above_edge : (w rest t n u q : ℕ) → u ≡ t * 2 → n ≡ w * u + rest → rest < u → 33554431 * t ≤ n → w < 16777216 → ((q ≡ w) × (rest * 2 + w % 2 ≤ u)) ⊎ ((q ≡ w + 1) × (u < rest * 2 + w % 2)) → q ≡ 16777216
above_edge w rest t n u q e f r h l g = go (ℕ_discrete w 16777215)
  where
    most : (w ≡ 16777215 → ⊥) → w ≤ 16777214
    most k = omega arith

    go : Dec (w ≡ 16777215) → q ≡ 16777216
    go (no k) = absurd (short (mul-le-mul_right u (most k)))
      where
        short : w * u ≤ 16777214 * u → ⊥
        short m = omega arith
    go (yes k) = at_top (f ∙ ap (λ (x : ℕ). x * u + rest) k) (ap (λ (x : ℕ). x % 2) k) g
      where
        at_top : n ≡ 16777215 * u + rest → w % 2 ≡ 1 → ((q ≡ w) × (rest * 2 + w % 2 ≤ u)) ⊎ ((q ≡ w + 1) × (u < rest * 2 + w % 2)) → q ≡ 16777216
        at_top m o (inl p) = absurd (never m o p.1)
          where
            never : n ≡ 16777215 * u + rest → w % 2 ≡ 1 → rest * 2 + w % 2 ≤ u → ⊥
            never m o z = omega arith
        at_top m o (inr p) = omega arith

module _ (d p : ℕ) (P : 0 < p) where
  abbrev n : ℕ
  n = d * 2 ^ 149

  abbrev k : ℕ
  k = size (n / p) - 24

  abbrev q : ℕ
  q = closest n (p * 2 ^ k)

  room : d < past * p → q ≤ 2 ^ 24 → q * 2 ^ k < 2 ^ 277
  room h l = go (dec_le k 252)
    where
      n_less : n < 33554431 * (p * 2 ^ 252)
      n_less = lt_of_lt_of_le (mul-lt-mul_of_pos_right h (pow_pos 149)) (le_of_eq (edge p))

      size_most : size (n / p) ≤ 277
      size_most = size-le (n / p) 277 ((div-lt_iff_lt-mul P).1 (lt_of_lt_of_le n_less (le_trans (le_of_eq (shuffle 33554431 p (2 ^ 252))) (mul-le-mul_right p (lit≤ {m = 33554431 * 2 ^ 252} {n = 2 ^ 277} tt)))))
        where
          shuffle : (a b c : ℕ) → a * (b * c) ≡ a * c * b
          shuffle a b c = omega arith

      top : (x z : ℕ) → x ≡ z - 24 → z ≤ 277 → (x ≤ 252 → ⊥) → x ≡ 253
      top x z e g f = omega arith

      go : Dec (k ≤ 252) → q * 2 ^ k < 2 ^ 277
      go (yes g) = lt_of_le_of_lt (le_trans (mul-le-mul_right (2 ^ k) l) (le_trans (le_of_eq (sym (pow-add 2 24 k))) (pow_mono {i = 24 + k} {j = 276} (up k g)))) (pow-lt {i = 276} {j = 277} (lit< tt))
        where
          up : (x : ℕ) → x ≤ 252 → 24 + x ≤ 276
          up x g = omega arith
      go (no f) =
          let k_is : k ≡ 253 = top k (size (n / p)) refl size_most f in
          let b = between n p k refl P in
          let l = below_edge b.w b.rest (p * 2 ^ 252) n (p * 2 ^ k) q (ap (λ (j : ℕ). p * 2 ^ j) k_is ∙ double p) b.long n_less b.few b.picks in
          lt_of_le_of_lt (mul-le-mul_right (2 ^ k) l) (subst (λ (j : ℕ). 16777215 * 2 ^ j < 2 ^ 277) (sym k_is) (lit< tt))

  pub round_infinite : (s : Bool) → past * p ≤ d → round binary32 s d p ≡ inf s
  round_infinite s h = go (dec_le 254 k)
    where
      n_more : 33554431 * (p * 2 ^ 252) ≤ n
      n_more = le_trans (le_of_eq (sym (edge p))) (mul-le-mul_right (2 ^ 149) h)

      reaches : 2 ^ 276 ≤ n / p
      reaches = (le-div_iff_mul-le P).1 (le_trans (mul-le-mul_right p (lit≤ {m = 2 ^ 276} {n = 33554431 * 2 ^ 252} tt)) (le_trans (le_of_eq (shuffle 33554431 (2 ^ 252) p)) n_more))
        where
          shuffle : (a b c : ℕ) → a * b * c ≡ a * (c * b)
          shuffle a b c = omega arith

      size_least : 276 < size (n / p)
      size_least = lt_of_not-le (λ (g : size (n / p) ≤ 276). not-le_of_lt (lt_of_lt_of_le (size-lt (n / p)) (pow_mono g)) reaches)

      bottom : (x z : ℕ) → x ≡ z - 24 → 276 < z → (254 ≤ x → ⊥) → x ≡ 253
      bottom x z e g f = omega arith

      go : Dec (254 ≤ k) → round binary32 s d p ≡ inf s
      go (yes g) = round_beyond s d p k (kept_full n p k refl) (kept_few n p k refl) g
      go (no f) =
          let k_is : k ≡ 253 = bottom k (size (n / p)) refl size_least f in
          let b = between n p k refl P in
          let e = above_edge b.w b.rest (p * 2 ^ 252) n (p * 2 ^ k) q (ap (λ (j : ℕ). p * 2 ^ j) k_is ∙ double p) b.long b.less n_more b.few b.picks in
          round_is binary32 s d p ∙ infinite s q k (subst (λ (j : ℕ). 2 ^ 277 ≤ q * 2 ^ j) (sym k_is) (subst (λ (x : ℕ). 2 ^ 277 ≤ x * 2 ^ 253) (sym e) (lit≤ tt)))

module _ (s : Bool) (d p : ℕ) (P : 0 < p) (h : d < past * p) where
  picked : Picked s d p (round binary32 s d p)
  picked =
      let n = d * 2 ^ 149 in
      let k = size (n / p) - 24 in
      let q = closest n (p * 2 ^ k) in
      let b = between n p k refl P in
      let e = ends n p q k b in
      record {
        q = q;
        k = k;
        sized = record { one = round-fits binary32 s d p; is = subst (λ (x : Float). HasValue x s (q * 2 ^ k) (2 ^ 149)) (sym (round_is binary32 s d p)) (units_val binary32 s q k (room d p P h e.1)) };
        picks = b;
        full = e.0;
        few = e.1;
      }

  -- ---- no f32 of the sign is nearer, and where another is as near it is the even one
  pub round_is_nearest : IsNearest s d p (round binary32 s d p)
  round_is_nearest =
      let r = picked in
      record {
        count = r.q * 2 ^ r.k;
        is = r.sized;
        least = λ y c z. nearer (d * 2 ^ 149) p r.q r.k c P r.picks (shape z);
        even = λ y c z e f.
            last_digit r.q r.k r.sized r.full r.few
            ∙ (tie (d * 2 ^ 149) p r.q r.k c P r.picks (shape z) e (λ (g : c ≡ r.q * 2 ^ r.k). f (same_units z r.sized g))).0;
      }

  -- ---- and nothing else is: another would be as near, and of the two one is odd
  pub nearest_is_round : (x : Float) → IsNearest s d p x → x ≡ round binary32 s d p
  nearest_is_round x i =
      let r = picked in
      let c = r.q * 2 ^ r.k in
      let e : far d p i.count ≡ far d p c = le_antisymm (i.least (round binary32 s d p) c r.sized) (nearer (d * 2 ^ 149) p r.q r.k i.count P r.picks (shape i.is)) in
      go (ℕ_discrete i.count c) e
    where
      clash : (a : ℕ) → a ≡ 0 → a ≡ 1 → ⊥
      clash a e f = omega arith

      go : Dec (i.count ≡ picked.q * 2 ^ picked.k) → far d p i.count ≡ far d p (picked.q * 2 ^ picked.k) → x ≡ round binary32 s d p
      go (yes g) e = same_units i.is picked.sized g
      go (no f) e =
          let r = picked in
          let t = tie (d * 2 ^ 149) p r.q r.k i.count P r.picks (shape i.is) e f in
          let even : to_bits binary32 (round binary32 s d p) % 2 ≡ 0 = last_digit r.q r.k r.sized r.full r.few ∙ t.0 in
          let odd : to_bits binary32 x % 2 ≡ 1 = last_digit t.1 r.k (subst (λ (a : ℕ). Sized x s a) t.2 i.is) t.3.full t.3.few ∙ t.3.is in
          let differ : round binary32 s d p ≡ x → ⊥ = λ (g : round binary32 s d p ≡ x). clash (to_bits binary32 x % 2) (ap (λ (y : Float). to_bits binary32 y % 2) (sym g) ∙ even) odd in
          absurd (clash (to_bits binary32 x % 2) (i.even (round binary32 s d p) (r.q * 2 ^ r.k) r.sized (sym e) differ) odd)

-- ---- so, of every fraction, what it is rounded to
module _ (s : Bool) (d p : ℕ) (P : 0 < p) where
  pub round_is_rounded : Rounded s d p (round binary32 s d p)
  round_is_rounded = go (dec_le (past * p) d)
    where
      go : Dec (past * p ≤ d) → Rounded s d p (round binary32 s d p)
      go (no f) = let h = lt_of_not-le f in near h (round_is_nearest s d p P h)
      go (yes h) = subst (Rounded s d p) (sym (round_infinite d p P s h)) (beyond h)

  pub rounded_is_round : (r : Float) → Rounded s d p r → r ≡ round binary32 s d p
  rounded_is_round r (near h i) = nearest_is_round s d p P h r i
  rounded_is_round r (beyond h) = sym (round_infinite d p P s h)

-- ---- an f32 of the other sign, c units from zero, is no nearer
pub none_across : {s : Bool} {d p : ℕ} {r : Float} (i : IsNearest s d p r) (c : ℕ) → far d p i.count ≤ c * p + d * 2 ^ 149
unfolding fits
none_across {s} {d} {p} i c = beyond (far d p i.count) p (d * 2 ^ 149) (i.least (fin s 0 (pos 0)) 0 (record { one = tt; is = (refl, refl) }))
  where
    beyond : (x p n : ℕ) → x ≤ 0 * p - n + (n - 0 * p) → x ≤ c * p + n
    beyond x p n h = omega arith
