-- The contracts of the long division: whole numbers in three words of 60 binary digits.
use Rattle.std.specs.Prelude.{◌≡◌, ◌⊎◌, ℕ, ◌+◌, ◌*◌, ◌^◌, ◌≤◌, ◌<◌}
use Rattle.decimal.specs.declared.three_words.Wide.{Wide}

abbrev pub word : ℕ
word = 1152921504606846976

-- the number of three words; its words are digits but for the first
unfoldable pub wide : ℕ → ℕ → ℕ → ℕ
wide hi mid lo = (hi * word + mid) * word + lo

abbrev pub value_of : Wide → ℕ
value_of w = wide w.hi w.mid w.lo

-- with a first word below 2 ^ 60
unfoldable pub Roomy : ℕ → Type 0
Roomy n = n < 2 ^ 180

-- w is den doubled up times, and more than num
pub record Raised (num den : ℕ) (w : Wide) (up : ℕ) : Type 0 where
  pub is : value_of w ≡ den * 2 ^ up
  pub above : num < den * 2 ^ up
  pub room : w.hi < 2 * word
  pub few : up ≤ 180

-- num * 2 ^ down is m times den and a rest, and m has 24 binary digits, or down is most
pub record LongDivides (num den most m rest down : ℕ) : Type 0 where
  pub long : num * 2 ^ down ≡ m * den + rest
  pub less : rest < den
  pub hi : m < 16777216
  pub few : down ≤ most
  pub full : (down ≡ most) ⊎ (8388608 ≤ m)

-- one turn of it: twice m and its rest are m' and rest'
pub record OneMore (m rest den m' rest' : ℕ) : Type 0 where
  pub is : m * 2 * den + rest * 2 ≡ m' * den + rest'
  pub less : rest' < den
  pub hi : m' < 16777216
