-- The sum of powers, and that what it rounds to is the table's entry wherever it is told to be: one test, computed over all entries. Assumes nothing.
use mathlib.Core.Path.{◌≡◌, refl, sym, ap, ◌∙◌, subst}
use mathlib.Core.Bool.{Bool, true, cond}
use Prim.Native.Nat.{ℕ, ◌*◌, ◌/◌, ◌^◌, ◌≤◌, ◌<◌}
use native.Mathlib.Nat.{mul-le-mul, mul-le-mul_left}
use native.Mathlib.Omega.{arith}
use lib.Dec.{T, eqb, eqb→eq}
use lib.ListN.{length}
use borrow.Author.Tests.{eq-eqb}
use Rattle.sine.specs.Table.{table, entry}
use Rattle.sine.specs.inner.Sum.{nearer, less, sum, lower, upper, by_half}
use Rattle.sine.proofs.Every.{every, at}

-- ---- the products on the way fit, and each step takes off no more than there is
pub product_most : (p z : ℕ) → p < 2 ^ 44 → z ≤ 2 ^ 18 → p * z ≤ 2 ^ 62
product_most p z h k = let l : p ≤ 2 ^ 44 = omega arith in mul-le-mul l k

pub part_most : (p z : ℕ) → z ≤ 2 ^ 18 → p * z / 2 ^ 18 ≤ p
part_most p z k = let l : p * z ≤ p * 2 ^ 18 = mul-le-mul_left p k in omega arith

pub square_most : (j : ℕ) → j ≤ 512 → j * j ≤ 2 ^ 18
square_most j h = mul-le-mul h h

pub summed : (j : ℕ) {z a b c d r : ℕ} → z ≡ j * j → a ≡ less 8077093793 211545278 z → b ≡ less 183513982833 a z → c ≡ less 2231300197116 b z → d ≡ less 10851744792723 c z → r ≡ d * z / 2 ^ 18 → r ≡ sum j
unfolding sum
summed j ez ea eb ec ed er = cc

-- ---- what is told
unfoldable told : ℕ → ℕ → Bool
told i x = let h = sum (nearer i) in cond (eqb (lower h) (upper h)) (eqb (by_half i (lower h)) x) true

long : length table ≡ 1025
unfolding table
long = refl

all_told : T (every told 0 table)
unfolding table every told sum
all_told = tt

pub told_entry : (i n m : ℕ) → i ≤ 1024 → n ≡ lower (sum (nearer i)) → m ≡ upper (sum (nearer i)) → n ≡ m → by_half i n ≡ entry i
unfolding told
told_entry i n m h e f q =
    ap (by_half i) e
    ∙ eqb→eq (by_half i (lower (sum (nearer i)))) (entry i)
    (subst (λ (b : Bool). T (cond b (eqb (by_half i (lower (sum (nearer i)))) (entry i)) true)) (eq-eqb (lower (sum (nearer i))) (upper (sum (nearer i))) (sym e ∙ q ∙ f))
    (at told table all_told i (subst (λ (k : ℕ). i < k) (sym long) (omega arith))))
