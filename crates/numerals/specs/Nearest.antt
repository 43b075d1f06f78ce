-- What it means that d / 10 ^ k is the decimal of nine significant digits nearest to a number num / den, by whole numbers alone. `nine` is worked out; this is the meaning to hold it to. Definitions only.
use Rattle.std.specs.Prelude.{◌≡◌, Bool, List, ℕ, ◌+◌, ◌-◌, ◌*◌, ◌%◌, ◌^◌, ◌≤◌, ◌<◌}
use Rattle.decimal.specs.Form.{Form}

-- How far e / 10 ^ j is from num / den, times den * 10 ^ j: one of the differences is 0, since - stops there.
abbrev pub decimal_gap : ℕ → ℕ → ℕ → ℕ → ℕ
decimal_gap num den e j = e * den - num * 10 ^ j + (num * 10 ^ j - e * den)

-- d has nine digits; no decimal of at most nine digits, with any number of places, is nearer; and where another is just as near, d is even.
-- decimalGap .. d k over 10 ^ k is compared with decimalGap .. e j over 10 ^ j.
pub record NearestNine (num den d k : ℕ) : Type 0 where
  pub least_digits : 10 ^ 8 ≤ d
  pub most_digits : d < 10 ^ 9
  pub least : (e j : ℕ) → e < 10 ^ 9 → decimal_gap num den d k * 10 ^ j ≤ decimal_gap num den e j * 10 ^ k
  pub even : (e j : ℕ) → e < 10 ^ 9 → decimal_gap num den e j * 10 ^ k ≡ decimal_gap num den d k * 10 ^ j → (e * 10 ^ k ≡ d * 10 ^ j → ⊥) → d % 2 ≡ 0

-- the bytes t, of the sign s, are a form of the nine digits nearest to num / den
pub record NineText (t : List ℕ) (s : Bool) (num den : ℕ) : Type 0 where
  pub d : ℕ
  pub k : ℕ
  pub form : Form t s d k
  pub nearest : NearestNine num den d k
