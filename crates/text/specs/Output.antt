-- What is put into an output: bytes from a place on, the digits of a number.
use Rattle.std.specs.Prelude.{ℕ, zero, suc, ◌+◌, ◌/◌, ◌%◌, min, ◌≡◌, cond, List, [], ◌∷◌, ◌++◌, length, ltb}
use Rattle.std.proofs.lemmas.List.Edits.{sets}

-- the decimal digits of n, without leading zeros; the last `left` of them where it has more
unfoldable pub decimal_of : ℕ → ℕ → List ℕ
decimal_of zero n = []
decimal_of (suc left) n = cond (ltb n 10) ((48 + n % 10) ∷ []) (decimal_of left (n / 10) ++ (48 + n % 10) ∷ [])

-- the digits of a count: no number of 64 bits has more than 20
abbrev pub count_text : ℕ → List ℕ
count_text n = decimal_of 20 n

-- the greatest place, the largest number of 64 bits
abbrev pub most_place : ℕ
most_place = 18446744073709551615

-- a text is written from `at` on, as far as the output goes, and the next one starts at r; where it would start past the greatest place, at that
pub record PutsFrom (out out' : List ℕ) (at : ℕ) (text : List ℕ) (r : ℕ) : Type 0 where
  pub next : r ≡ min (at + length text) most_place
  pub written : out' ≡ sets out at text

-- the same of a text that ends before the greatest place
pub record Puts (out out' : List ℕ) (at : ℕ) (text : List ℕ) (r : ℕ) : Type 0 where
  pub next : r ≡ at + length text
  pub written : out' ≡ sets out at text
