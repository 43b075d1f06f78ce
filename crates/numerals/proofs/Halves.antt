-- A fraction rounded to a whole number is at most a half from it. Assumes nothing.
use mathlib.Core.Path.{◌≡◌, ap, ◌∙◌, subst}
use mathlib.Core.Bool.{not}
use Prim.Native.Nat.{ℕ, suc, ◌+◌, ◌*◌, ◌/◌, ◌%◌, ◌≤◌, ◌<◌, compare, Ordering}
use native.Mathlib.Nat.{add-mul, mul-le-mul_right, mod-lt, div-add-mod'}
use native.Mathlib.Omega.{arith}
use lib.Dec.{T, is_le, compare_is_eq, eqb, leb→le, nleb→lt, eqb→eq, eqb_refl}
use lib.Arith.{lt_of_le-ne}
use lib.Ieee.{nearest}
use lib.Ieee.Nearest.{closest}

abbrev pub Cmp : Ordering → ℕ → ℕ → Type 0
Cmp Ordering.lt a b = a < b
Cmp Ordering.eq a b = a ≡ b
Cmp Ordering.gt a b = b < a

pub cmp : (a b : ℕ) → Cmp (compare a b) a b
cmp a b = go (compare a b) (leb→le a b) (nleb→lt a b) (eqb→eq a b) (λ (e : a ≡ b). subst (λ (x : ℕ). T (eqb a x)) e (eqb_refl a))
  where
    go : (o : Ordering) → (T (is_le o) → a ≤ b) → (T (not (is_le o)) → b < a) → (T (compare_is_eq o) → a ≡ b) → (a ≡ b → T (compare_is_eq o)) → Cmp o a b
    go Ordering.lt h k e n = lt_of_le-ne (h tt) n
    go Ordering.eq h k e n = e tt
    go Ordering.gt h k e n = k tt

abbrev pub Within : ℕ → ℕ → ℕ → Type 0
Within x a b = (x * b * 2 ≤ a * 2 + b) × (a * 2 ≤ x * b * 2 + b)

half_of : (o : Ordering) (q r b a : ℕ) → q * b + r ≡ a → r < b → Cmp o (r * 2) b → Within (nearest q o) a b
half_of Ordering.lt q r b a e l c = (omega arith, omega arith)
half_of Ordering.eq q r b a e l c =
    let f : nearest q Ordering.eq * b ≡ q * b + q % 2 * b = add-mul q (q % 2) b in
    let g : q % 2 * b ≤ 1 * b = mul-le-mul_right b (omega arith) in
    (omega arith, omega arith)
half_of Ordering.gt q r b a e l c =
    let f : nearest q Ordering.gt * b ≡ q * b + 1 * b = ap (λ (x : ℕ). x * b) (one_more q) ∙ add-mul q 1 b in
    (omega arith, omega arith)
  where
    one_more : (x : ℕ) → suc x ≡ x + 1
    one_more x = omega arith

pub closest_half : (a b : ℕ) → 0 < b → Within (closest a b) a b
closest_half a b h = half_of (compare (a % b * 2) b) (a / b) (a % b) b a (div-add-mod' a b) (mod-lt a h) (cmp (a % b * 2) b)
