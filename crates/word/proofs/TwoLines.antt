-- Two lines, a ramp's from P to Q and a list's from S to E, each known by rounded values: where they are near each other at two places, they are near at every place between. Over whole numbers.
-- A line from a to b is a·σ + b·τ at τ after its start and σ before its end, times its length. Assumes nothing.
use mathlib.Core.Path.{◌≡◌, refl, sym, ap, ap₂, ◌∙◌, subst}
use Prim.Native.Nat.{ℕ, zero, suc, ◌+◌, ◌*◌, ◌^◌, ◌≤◌, ◌<◌}
use native.Mathlib.Nat.{le_trans, le_of_eq, mul-pos, mul-le-mul_right, le_of_mul-le-mul_right, zero-lt-suc}
use native.Mathlib.Omega.{arith}
use Rattle.float.proofs.RoundOff.{gap}
use Rattle.float.proofs.OperationsOff.{gap_times}
use Rattle.blend.proofs.MixErrors.{Mixed}
use Rattle.difference.proofs.Triangle.{sq_le, squares4, gap_triangle, triangle}
use Rattle.difference.proofs.Legs.{Four}

abbrev pub line : ℕ → ℕ → ℕ → ℕ → ℕ
line a b τ σ = a * σ + b * τ

-- ---- one channel: i before the first place, then j, then k, then l; of the list i' and l'
pub on_line : (a b i j k l : ℕ) → line a b (i + j) (k + l) * (j + k) ≡ line a b i (j + k + l) * k + line a b (i + j + k) l * j
on_line a b i j k l = omega arith

-- scaled by the other's length
pub scaled : (x y z c j k : ℕ) → x * (j + k) ≡ y * k + z * j → x * c * (j + k) ≡ y * c * k + z * c * j
scaled x y z c j k e = omega (arith, ap (λ (n : ℕ). n * c) e)

gap_sums : (p q x y : ℕ) → gap (p + q) (x + y) ≤ gap p x + gap q y
gap_sums p q x y = omega arith

pub straight : (x x₁ x₂ y y₁ y₂ j k : ℕ) → x * (j + k) ≡ x₁ * k + x₂ * j → y * (j + k) ≡ y₁ * k + y₂ * j → gap x y * (j + k) ≤ gap x₁ y₁ * k + gap x₂ y₂ * j
straight x x₁ x₂ y y₁ y₂ j k e f =
    le_trans (le_of_eq (gap_times x y (j + k) ∙ ap₂ gap e f))
    (le_trans (gap_sums (x₁ * k) (x₂ * j) (y₁ * k) (y₂ * j)) (le_of_eq (ap₂ ◌+◌ (sym (gap_times x₁ y₁ k)) (sym (gap_times x₂ y₂ j)))))

-- ---- four channels
abbrev pub SquaresIn : ℕ → ℕ → ℕ → ℕ → ℕ → Type 0
SquaresIn m x y z o = 2 ^ 56 * squares4 x y z o ≤ m * m

fewer : (m x y z o x' y' z' o' : ℕ) → x ≤ x' → y ≤ y' → z ≤ z' → o ≤ o' → SquaresIn m x' y' z' o' → SquaresIn m x y z o
fewer m x y z o x' y' z' o' a b c d h = into (x * x) (y * y) (z * z) (o * o) (x' * x') (y' * y') (z' * z') (o' * o') (m * m) (sq_le x x' a) (sq_le y y' b) (sq_le z z' c) (sq_le o o' d) h
  where
    into : (a b c d e f g h m : ℕ) → a ≤ e → b ≤ f → c ≤ g → d ≤ h → 2 ^ 56 * (e + f + g + h) ≤ m → 2 ^ 56 * (a + b + c + d) ≤ m
    into a b c d e f g h m p q r s t = omega arith

times : (m k x y z o : ℕ) → SquaresIn m x y z o → SquaresIn (m * k) (x * k) (y * k) (z * k) (o * k)
times m k x y z o h = let n : 2 ^ 56 * squares4 x y z o * (k * k) ≤ m * m * (k * k) = mul-le-mul_right (k * k) h in omega (arith, n)

untimes : (m k x y z o : ℕ) → 0 < k → SquaresIn (m * k) (x * k) (y * k) (z * k) (o * k) → SquaresIn m x y z o
untimes m k x y z o K h = le_of_mul-le-mul_right {k = k * k} (omega (arith, h)) (mul-pos K K)

back : (x y k : ℕ) → 0 < k → x * k ≤ y * k → x ≤ y
back x y k K h = le_of_mul-le-mul_right {k = k} h K

-- between two places, j > 0 after the first
pub between : (m j k : ℕ) (x₁ x₂ x₃ x₄ y₁ y₂ y₃ y₄ z₁ z₂ z₃ z₄ : ℕ) → 0 < m → 0 < j → SquaresIn m x₁ x₂ x₃ x₄ → SquaresIn m y₁ y₂ y₃ y₄
    → z₁ * (j + k) ≤ x₁ * k + y₁ * j → z₂ * (j + k) ≤ x₂ * k + y₂ * j → z₃ * (j + k) ≤ x₃ * k + y₃ * j → z₄ * (j + k) ≤ x₄ * k + y₄ * j → SquaresIn m z₁ z₂ z₃ z₄
between m j zero x₁ x₂ x₃ x₄ y₁ y₂ y₃ y₄ z₁ z₂ z₃ z₄ M J p q a b c d = fewer m z₁ z₂ z₃ z₄ y₁ y₂ y₃ y₄ (at-end z₁ x₁ y₁ a) (at-end z₂ x₂ y₂ b) (at-end z₃ x₃ y₃ c) (at-end z₄ x₄ y₄ d) q
  where
    at-end : (z x y : ℕ) → z * (j + 0) ≤ x * 0 + y * j → z ≤ y
    at-end z x y h = back z y j J (omega (arith, h))
between m j (suc k) x₁ x₂ x₃ x₄ y₁ y₂ y₃ y₄ z₁ z₂ z₃ z₄ M J p q a b c d =
    untimes m (j + suc k) z₁ z₂ z₃ z₄ (more j (suc k) J)
    (subst (λ (n : ℕ). SquaresIn n (z₁ * (j + suc k)) (z₂ * (j + suc k)) (z₃ * (j + suc k)) (z₄ * (j + suc k))) (sum m (suc k) j)
    (triangle (2 ^ 56) (x₁ * suc k) (x₂ * suc k) (x₃ * suc k) (x₄ * suc k) (y₁ * j) (y₂ * j) (y₃ * j) (y₄ * j) _ _ _ _ (m * suc k) (m * j) a b c d (mul-pos M (zero-lt-suc k)) (mul-pos M J)
    (times m (suc k) x₁ x₂ x₃ x₄ p) (times m j y₁ y₂ y₃ y₄ q)))
  where
    more : (a b : ℕ) → 0 < a → 0 < a + b
    more a b h = omega arith

    sum : (m k j : ℕ) → m * k + m * j ≡ m * (j + k)
    sum m k j = omega arith

-- ---- from the rounded values to the lines, and back: w is the product of the lengths, and l and r are off by c
off_by : (l r L R d D u : ℕ) → 2 ^ 28 * gap (l * D) L ≤ 102 * (u * D) → 2 ^ 28 * gap (r * d) R ≤ 102 * (u * d) → 2 ^ 28 * (gap (l * (D * d)) (L * d) + gap (r * (D * d)) (R * D)) ≤ 204 * (u * (D * d))
off_by l r L R d D u h k =
    let a : 2 ^ 28 * gap (l * D) L * d ≤ 102 * (u * D) * d = mul-le-mul_right d h in
    let b : 2 ^ 28 * gap (r * d) R * D ≤ 102 * (u * d) * D = mul-le-mul_right D k in
    let e : gap (l * D) L * d ≡ gap (l * (D * d)) (L * d) = gap_times (l * D) L d ∙ ap (λ (x : ℕ). gap x (L * d)) (left l D d) in
    let f : gap (r * d) R * D ≡ gap (r * (D * d)) (R * D) = gap_times (r * d) R D ∙ ap (λ (x : ℕ). gap x (R * D)) (right r d D) in
    into (gap (l * D) L) (gap (r * d) R) (gap (l * (D * d)) (L * d)) (gap (r * (D * d)) (R * D)) e f a b
  where
    left : (l D d : ℕ) → l * D * d ≡ l * (D * d)
    left l D d = omega arith

    right : (r d D : ℕ) → r * d * D ≡ r * (D * d)
    right r d D = omega arith

    into : (p q x y : ℕ) → p * d ≡ x → q * D ≡ y → 2 ^ 28 * p * d ≤ 102 * (u * D) * d → 2 ^ 28 * q * D ≤ 102 * (u * d) * D → 2 ^ 28 * (x + y) ≤ 204 * (u * (D * d))
    into p q x y e f a b = omega (arith, e, f, a, b)

pub turn : (x y : ℕ) → gap x y ≡ gap y x
turn x y = omega arith

three_ways : (p q x y z : ℕ) → p ≤ x + q → q ≤ y + z → p ≤ y + (x + z)
three_ways p q x y z h k = omega arith

way : (x l r y : ℕ) → gap x y ≤ gap l r + (gap l x + gap r y)
way x l r y = three_ways (gap x y) (gap l y) (gap l x) (gap l r) (gap r y) (subst (λ (n : ℕ). gap x y ≤ n + gap l y) (turn x l) (gap_triangle x l y)) (gap_triangle l r y)

way_back : (x l r y : ℕ) → gap l r ≤ gap x y + (gap l x + gap r y)
way_back x l r y = three_ways (gap l r) (gap x r) (gap l x) (gap x y) (gap r y) (gap_triangle l x r) (subst (λ (n : ℕ). gap x r ≤ gap x y + n) (turn y r) (gap_triangle x y r))

small_four : (n x y z o : ℕ) → 2 ^ 28 * x ≤ n → 2 ^ 28 * y ≤ n → 2 ^ 28 * z ≤ n → 2 ^ 28 * o ≤ n → SquaresIn (2 * n) x y z o
small_four n x y z o a b c d = into (x * x) (y * y) (z * z) (o * o) (n * n) (square x a) (square y b) (square z c) (square o d) refl
  where
    square : (x : ℕ) → 2 ^ 28 * x ≤ n → 2 ^ 56 * (x * x) ≤ n * n
    square x h = let s = sq_le (2 ^ 28 * x) n h in omega (arith, s)

    into : (x y z o m : ℕ) → 2 ^ 56 * x ≤ m → 2 ^ 56 * y ≤ m → 2 ^ 56 * z ≤ m → 2 ^ 56 * o ≤ m → n * n ≡ m → 2 ^ 56 * (x + y + z + o) ≤ 2 * n * (2 * n)
    into x y z o m a b c d e = omega arith

-- ---- the two at one place: a and b are the ramp's ends, A and B the list's, r and l what comes of rounding, at τ after the start and σ before the end
abbrev pub MixedFour : ℕ → ℕ → ℕ → Four → Four → Four → Type 0
MixedFour u τ σ a b r = Mixed u τ σ a.r b.r r.r × Mixed u τ σ a.g b.g r.g × Mixed u τ σ a.b b.b r.b × Mixed u τ σ a.a b.a r.a

abbrev pub ApartBy : ℕ → Four → Four → Type 0
ApartBy m x y = SquaresIn m (gap x.r y.r) (gap x.g y.g) (gap x.b y.b) (gap x.a y.a)

module _ (u : ℕ) (a b A B : Four) (d D : ℕ) (some : 0 < u * (D * d)) where
  abbrev w : ℕ
  w = D * d

  -- how far apart the lines are, times both lengths
  abbrev pub LinesApart : ℕ → ℕ → ℕ → ℕ → ℕ → Type 0
  LinesApart m τ σ τ' σ' =
      SquaresIn m (gap (line A.r B.r τ' σ' * d) (line a.r b.r τ σ * D)) (gap (line A.g B.g τ' σ' * d) (line a.g b.g τ σ * D))
      (gap (line A.b B.b τ' σ' * d) (line a.b b.b τ σ * D)) (gap (line A.a B.a τ' σ' * d) (line a.a b.a τ σ * D))

  module _ (τ σ τ' σ' : ℕ) (ed : τ + σ ≡ d) (e_d : τ' + σ' ≡ D) (r l : Four) (mr : MixedFour u τ σ a b r) (ml : MixedFour u τ' σ' A B l) where
    off : (x y X Y p q : ℕ) → Mixed u τ σ x y p → Mixed u τ' σ' X Y q → 2 ^ 28 * (gap (q * w) (line X Y τ' σ' * d) + gap (p * w) (line x y τ σ * D)) ≤ 204 * (u * w)
    off x y X Y p q h k = off_by q p (line X Y τ' σ') (line x y τ σ) d D u (subst (λ (n : ℕ). 2 ^ 28 * gap (q * n) (line X Y τ' σ') ≤ 102 * (u * n)) e_d k) (subst (λ (n : ℕ). 2 ^ 28 * gap (p * n) (line x y τ σ) ≤ 102 * (u * n)) ed h)

    errors : SquaresIn (2 * (204 * (u * w)))
        (gap (l.r * w) (line A.r B.r τ' σ' * d) + gap (r.r * w) (line a.r b.r τ σ * D)) (gap (l.g * w) (line A.g B.g τ' σ' * d) + gap (r.g * w) (line a.g b.g τ σ * D))
        (gap (l.b * w) (line A.b B.b τ' σ' * d) + gap (r.b * w) (line a.b b.b τ σ * D)) (gap (l.a * w) (line A.a B.a τ' σ' * d) + gap (r.a * w) (line a.a b.a τ σ * D))
    errors =
        small_four (204 * (u * w)) _ _ _ _ (off a.r b.r A.r B.r r.r l.r mr.0 ml.0) (off a.g b.g A.g B.g r.g l.g mr.1 ml.1)
        (off a.b b.b A.b B.b r.b l.b mr.2 ml.2) (off a.a b.a A.a B.a r.a l.a mr.3 ml.3)

    spread_out : (m : ℕ) → ApartBy m l r → SquaresIn (m * w) (gap (l.r * w) (r.r * w)) (gap (l.g * w) (r.g * w)) (gap (l.b * w) (r.b * w)) (gap (l.a * w) (r.a * w))
    spread_out m h = rw (← gap_times l.r r.r w, ← gap_times l.g r.g w, ← gap_times l.b r.b w, ← gap_times l.a r.a w) (times m w _ _ _ _ h)

    pub lines_apart : (m : ℕ) → 0 < m * w → ApartBy m l r → LinesApart (m * w + 2 * (204 * (u * w))) τ σ τ' σ'
    lines_apart m M h =
        triangle (2 ^ 56) _ _ _ _ _ _ _ _ _ _ _ _ (m * w) (2 * (204 * (u * w)))
        (way _ (l.r * w) (r.r * w) _) (way _ (l.g * w) (r.g * w) _) (way _ (l.b * w) (r.b * w) _) (way _ (l.a * w) (r.a * w) _) M (twice (u * w) some) (spread_out m h) errors
      where
        twice : (n : ℕ) → 0 < n → 0 < 2 * (204 * n)
        twice n h = omega arith

    pub values_apart : (m : ℕ) → 0 < m → 0 < w → LinesApart (m * w) τ σ τ' σ' → ApartBy (m + 408 * u) l r
    values_apart m M W h =
        untimes (m + 408 * u) w _ _ _ _ W
        (rw (gap_times l.r r.r w, gap_times l.g r.g w, gap_times l.b r.b w, gap_times l.a r.a w)
        (subst (λ (n : ℕ). SquaresIn n (gap (l.r * w) (r.r * w)) (gap (l.g * w) (r.g * w)) (gap (l.b * w) (r.b * w)) (gap (l.a * w) (r.a * w))) (sum m u w)
        (triangle (2 ^ 56) _ _ _ _ _ _ _ _ _ _ _ _ (m * w) (2 * (204 * (u * w)))
        (way_back (line A.r B.r τ' σ' * d) (l.r * w) (r.r * w) (line a.r b.r τ σ * D)) (way_back (line A.g B.g τ' σ' * d) (l.g * w) (r.g * w) (line a.g b.g τ σ * D))
        (way_back (line A.b B.b τ' σ' * d) (l.b * w) (r.b * w) (line a.b b.b τ σ * D)) (way_back (line A.a B.a τ' σ' * d) (l.a * w) (r.a * w) (line a.a b.a τ σ * D))
        (mul-pos M W) (twice (u * w) some) h errors)))
      where
        twice : (n : ℕ) → 0 < n → 0 < 2 * (204 * n)
        twice n h = omega arith

        sum : (m u w : ℕ) → m * w + 2 * (204 * (u * w)) ≡ (m + 408 * u) * w
        sum m u w = omega arith
