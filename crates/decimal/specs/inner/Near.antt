-- The contracts of the division by the first binary digits of a power of five.
use Rattle.std.specs.Prelude.{◌≡◌, ℕ, ◌+◌, ◌*◌, ◌/◌, ◌^◌, ◌≤◌, ◌<◌, Option, Some}
use Rattle.decimal.specs.inner.Steps.{BitsOf}

-- 5 ^ n has one binary digit more, for n up to 56
abbrev pub twos_of : ℕ → ℕ
twos_of n = n * 4755 / 2048

-- p is the first 40 binary digits of 5 ^ n
pub record FirstForty (n p : ℕ) : Type 0 where
  pub under : p * 2 ^ twos_of n ≤ 5 ^ n * 2 ^ 39
  pub over : 5 ^ n * 2 ^ 39 ≤ (p + 1) * 2 ^ twos_of n
  pub lo : 2 ^ 39 ≤ p
  pub hi : p < 2 ^ 40

-- where bits are told, they are those of d / p rounded, but for the sign's
abbrev pub NearOf : ℕ → ℕ → Option ℕ → Type 0
NearOf d p r = (b : ℕ) → r ≡ Some b → BitsOf d p b
