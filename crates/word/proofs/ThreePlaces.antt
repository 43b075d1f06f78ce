-- Where a ramp's rounded colours and a list's are near at two places, both lines straight between, they are near at every place between, but for the rounding. Over whole numbers: the first place is i after the ramp's
-- start and i' after the list's, the one between j further, the last one k further, and l and l' are left. Assumes nothing.
use mathlib.Core.Path.{◌≡◌, refl, subst}
use Prim.Native.Nat.{ℕ, ◌+◌, ◌*◌, ◌^◌, ◌≤◌, ◌<◌}
use native.Mathlib.Nat.{mul-pos}
use native.Mathlib.Omega.{arith}
use Rattle.float.proofs.RoundOff.{gap}
use Rattle.difference.proofs.Legs.{Four}
use Rattle.word.proofs.TwoLines.{line, on_line, scaled, straight, between, MixedFour, ApartBy, LinesApart, lines_apart, values_apart}

module _ (u : ℕ) (a b A B : Four) (i j k l i' l' : ℕ) (unit : 0 < u) (moved : 0 < j) where
  abbrev d : ℕ
  d = i + j + k + l

  abbrev D : ℕ
  D = i' + j + k + l'

  long : (i j k l : ℕ) → 0 < j → 0 < i + j + k + l
  long i j k l h = omega arith

  area : 0 < D * d
  area = mul-pos (long i' j k l' moved) (long i j k l moved)

  some : 0 < u * (D * d)
  some = mul-pos unit area

  channel : (x y X Y : ℕ) → gap (line X Y (i' + j) (k + l') * d) (line x y (i + j) (k + l) * D) * (j + k)
      ≤ gap (line X Y i' (j + k + l') * d) (line x y i (j + k + l) * D) * k + gap (line X Y (i' + j + k) l' * d) (line x y (i + j + k) l * D) * j
  channel x y X Y =
      straight _ _ _ _ _ _ j k (scaled (line X Y (i' + j) (k + l')) (line X Y i' (j + k + l')) (line X Y (i' + j + k) l') d j k (on_line X Y i' j k l'))
      (scaled (line x y (i + j) (k + l)) (line x y i (j + k + l)) (line x y (i + j + k) l) D j k (on_line x y i j k l))

  lines : (m : ℕ) → 0 < m → LinesApart u a b A B d D some m i (j + k + l) i' (j + k + l') → LinesApart u a b A B d D some m (i + j + k) l (i' + j + k) l'
      → LinesApart u a b A B d D some m (i + j) (k + l) (i' + j) (k + l')
  lines m M h e =
      between m j k _ _ _ _ _ _ _ _ _ _ _ _ M moved h e (channel a.r b.r A.r B.r) (channel a.g b.g A.g B.g) (channel a.b b.b A.b B.b) (channel a.a b.a A.a B.a)

  pub near_between : (m : ℕ) → 0 < m → (r₁ l₁ r₂ l₂ r₃ l₃ : Four) → MixedFour u i (j + k + l) a b r₁ → MixedFour u i' (j + k + l') A B l₁ → MixedFour u (i + j + k) l a b r₂ → MixedFour u (i' + j + k) l' A B l₂
      → MixedFour u (i + j) (k + l) a b r₃ → MixedFour u (i' + j) (k + l') A B l₃ → ApartBy m l₁ r₁ → ApartBy m l₂ r₂ → ApartBy (m + 816 * u) l₃ r₃
  near_between m M r₁ l₁ r₂ l₂ r₃ l₃ mr₁ ml₁ mr₂ ml₂ mr₃ ml₃ near₁ near₂ =
      subst (λ (n : ℕ). ApartBy n l₃ r₃) (twice m u)
      (values_apart u a b A B d D some (i + j) (k + l) (i' + j) (k + l') (middle i j k l) (middle i' j k l') r₃ l₃ mr₃ ml₃ (m + 408 * u) (more m (408 * u) M) area
      (subst (λ (n : ℕ). LinesApart u a b A B d D some n (i + j) (k + l) (i' + j) (k + l')) (sum m u (D * d))
      (lines (m * (D * d) + 2 * (204 * (u * (D * d)))) (more (m * (D * d)) (2 * (204 * (u * (D * d)))) (mul-pos M area))
      (lines_apart u a b A B d D some i (j + k + l) i' (j + k + l') (first i j k l) (first i' j k l') r₁ l₁ mr₁ ml₁ m (mul-pos M area) near₁)
      (lines_apart u a b A B d D some (i + j + k) l (i' + j + k) l' refl refl r₂ l₂ mr₂ ml₂ m (mul-pos M area) near₂))))
    where
      first : (i j k l : ℕ) → i + (j + k + l) ≡ i + j + k + l
      first i j k l = omega arith

      middle : (i j k l : ℕ) → i + j + (k + l) ≡ i + j + k + l
      middle i j k l = omega arith

      more : (m n : ℕ) → 0 < m → 0 < m + n
      more m n h = omega arith

      sum : (m u w : ℕ) → m * w + 2 * (204 * (u * w)) ≡ (m + 408 * u) * w
      sum m u w = omega arith

      twice : (m u : ℕ) → m + 408 * u + 408 * u ≡ m + 816 * u
      twice m u = omega arith

-- ---- a value that is the line's own, at its start and at its end; and colours that are the same
no_gap : (x : ℕ) → gap x x ≡ 0
no_gap x = omega arith

at_start : (u σ a b : ℕ) → 2 ^ 28 * gap (a * (0 + σ)) (a * σ + b * 0) ≤ 102 * (u * (0 + σ))
at_start u σ a b = rw (same a σ b, no_gap (a * σ + b * 0)) (omega arith)
  where
    same : (a σ b : ℕ) → a * (0 + σ) ≡ a * σ + b * 0
    same a σ b = omega arith

at-end : (u τ a b : ℕ) → 2 ^ 28 * gap (b * (τ + 0)) (a * 0 + b * τ) ≤ 102 * (u * (τ + 0))
at-end u τ a b = rw (same a τ b, no_gap (a * 0 + b * τ)) (omega arith)
  where
    same : (a τ b : ℕ) → b * (τ + 0) ≡ a * 0 + b * τ
    same a τ b = omega arith

pub four_start : (u σ : ℕ) (a b : Four) → MixedFour u 0 σ a b a
four_start u σ a b = (at_start u σ a.r b.r, at_start u σ a.g b.g, at_start u σ a.b b.b, at_start u σ a.a b.a)

pub four_end : (u τ : ℕ) (a b : Four) → MixedFour u τ 0 a b b
four_end u τ a b = (at-end u τ a.r b.r, at-end u τ a.g b.g, at-end u τ a.b b.b, at-end u τ a.a b.a)

pub same_apart : (m : ℕ) (x : Four) → ApartBy m x x
same_apart m x = rw (no_gap x.r, no_gap x.g, no_gap x.b, no_gap x.a) (omega arith)

-- ---- what is measured: h at most at both places, so h and 2 ^ -19 at most between, where h is no more than 1 / 28
pub close : (e h u t v : ℕ) → 28 * h ≤ u → 2 ^ 32 * t ≤ u → 2 ^ 19 * v ≡ u → 3 ≤ t → 2 ^ 57 * e ≤ (2 ^ 28 + 84) * ((2 ^ 28 + 83) * (2 * h + 2) + 2 ^ 28 * t + 816 * u) + 2 ^ 57 * t → e ≤ h + v
close e h u t v a b c d k = omega arith
