-- Which bytes are a number, as a grammar: an optional sign, digits, and perhaps a point with digits after it; 1 to 18 digits in all, and any number of them may stand on either side of the point.
-- And which number they are: d / 10 ^ k, with the sign. A long number may have more digits, of which 19 count, and a power of ten. Definitions only.
use Rattle.std.specs.Prelude.{◌≡◌, Bool, true, false, List, [], ◌∷◌, ◌++◌, ℕ, ◌+◌, ◌≤◌, ◌<◌, length}
use Rattle.decimal.specs.Decimal.{most_digits, are_digits, value_after}
use Rattle.decimal.specs.Long.{most_significant, is_mark, are_zeros}

-- nothing, '+' or '-'; and whether the number is negative
pub data Sign : List ℕ → Bool → Type 0 where
  none : Sign [] false
  plus : Sign (43 ∷ []) false
  minus : Sign (45 ∷ []) true

-- what follows the first digits, nothing or a point and what is after it; and the digits in it
pub data Rest : List ℕ → List ℕ → Type 0 where
  nothing : Rest [] []
  point : {ys : List ℕ} → Rest (46 ∷ ys) ys

-- s is a sign, digits and a rest. All the digits together are the whole number d, and k of them stand after the point.
pub record Form (s : List ℕ) (neg : Bool) (d k : ℕ) : Type 0 where
  pub sign : List ℕ
  pub before : List ℕ
  pub rest : List ℕ
  pub after : List ℕ
  pub signed : Sign sign neg
  pub ends : Rest rest after
  pub is : s ≡ sign ++ (before ++ rest)
  pub digits : (are_digits before ≡ true) × (are_digits after ≡ true)
  pub some : 0 < length (before ++ after)
  pub few : length (before ++ after) ≤ most_digits
  pub value : d ≡ value_after 0 (before ++ after)
  pub places : k ≡ length after

-- nothing, or 'e' or 'E', a sign and digits; and by how many places it moves the point to the right, or to the left
pub data Power : List ℕ → ℕ → ℕ → Type 0 where
  unmoved : Power [] 0 0
  raised : {mark : ℕ} {sign : List ℕ} (es : List ℕ) → is_mark mark ≡ true → Sign sign false → are_digits es ≡ true → 0 < length es → Power (mark ∷ (sign ++ es)) (value_after 0 es) 0
  lowered : {mark : ℕ} {sign : List ℕ} (es : List ℕ) → is_mark mark ≡ true → Sign sign true → are_digits es ≡ true → 0 < length es → Power (mark ∷ (sign ++ es)) 0 (value_after 0 es)

-- without zeros at the start and at the end, ds are at most 19
pub record Significant (ds : List ℕ) : Type 0 where
  pub first : List ℕ
  pub mid : List ℕ
  pub last : List ℕ
  pub is : ds ≡ first ++ (mid ++ last)
  pub zeros : (are_zeros first ≡ true) × (are_zeros last ≡ true)
  pub few : length mid ≤ most_significant

-- s is a sign, digits, a rest and a power. All the digits together are the whole number d, and the point is moved up places to the right and down to the left.
pub record LongForm (s : List ℕ) (neg : Bool) (d up down : ℕ) : Type 0 where
  pub sign : List ℕ
  pub before : List ℕ
  pub rest : List ℕ
  pub after : List ℕ
  pub power : List ℕ
  pub lower : ℕ
  pub signed : Sign sign neg
  pub ends : Rest rest after
  pub moved : Power power up lower
  pub is : s ≡ sign ++ (before ++ (rest ++ power))
  pub digits : (are_digits before ≡ true) × (are_digits after ≡ true)
  pub some : 0 < length (before ++ after)
  pub few : Significant (before ++ after)
  pub value : d ≡ value_after 0 (before ++ after)
  pub places : down ≡ length after + lower
