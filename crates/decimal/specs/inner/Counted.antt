-- The contracts of the steps of a long token: nothing that a caller of `read_long` has to know.
use Rattle.std.specs.Prelude.{◌≡◌, ◌⊎◌, Bool, true, false, cond, List, [], ◌∷◌, ◌++◌, ℕ, ◌+◌, ◌-◌, ◌*◌, ◌^◌, ◌≤◌, ◌<◌, eqb, length, drop, get_or, Float}
use Rattle.std.specs.Float.{binary32}
use Rattle.std.specs.Float.Ieee.{round}
use Rattle.decimal.specs.declared.Token.{Token}
use Rattle.decimal.specs.Decimal.{are_digits, value_after}
use Rattle.decimal.specs.Long.{most_significant, is_minus, past_sign, first_digits, past_digits, from_first, few_count, long_number, after_digits, read_long_of}

-- a sign or none stands at `at`, and what follows it begins at `end`
pub record SignAt (s : List ℕ) (at : ℕ) (minus : Bool) (end : ℕ) : Type 0 where
  pub is : minus ≡ is_minus (drop at s)
  pub past : drop end s ≡ past_sign (drop at s)
  pub within : end ≤ length s

-- from `from` on s has digits up to `end`, and none there
pub record DigitsTo (s : List ℕ) (from end : ℕ) : Type 0 where
  pub past : drop end s ≡ past_digits (drop from s)
  pub many : end ≡ from + length (first_digits (drop from s))
  pub within : end ≤ length s

-- Digits ds are value times 10 for each of zeros, and from the first that is not '0' on they are count and the zeros.
pub record Kept (ds : List ℕ) (value count zeros : ℕ) : Type 0 where
  pub is : value_after 0 ds ≡ value * 10 ^ zeros
  pub long : length (from_first ds) ≡ count + zeros
  pub plain : count < most_significant → zeros ≡ 0
  pub fits : few_count ds ≡ true

-- up to 19 count; 20 tells that there are more
pub record Counts (ds : List ℕ) (value count zeros : ℕ) : Type 0 where
  pub few : count ≤ most_significant → Kept ds value count zeros
  pub more : most_significant < count → few_count ds ≡ false

-- a word holds the value
pub record Small (value count : ℕ) : Type 0 where
  pub less : value < 10 ^ count
  pub most : count ≤ most_significant + 1

-- after any digits that are so counted, those of xs are counted too
abbrev pub CountsOn : List ℕ → ℕ → ℕ → ℕ → ℕ → ℕ → ℕ → Type 0
CountsOn xs v c z v' c' z' = (ds : List ℕ) → Counts ds v c z → Counts (ds ++ xs) v' c' z'

pub record CountsTo (s : List ℕ) (from v c z v' c' z' end : ℕ) : Type 0 where
  pub run : DigitsTo s from end
  pub counts : CountsOn (first_digits (drop from s)) v c z v' c' z'
  pub small : Small v' c'
  pub zeros : z' ≤ end

-- digits xs were passed from `from` on, up to i
pub record Passed (s : List ℕ) (from : ℕ) (xs : List ℕ) (i : ℕ) : Type 0 where
  pub is : drop from s ≡ xs ++ drop i s
  pub all : are_digits xs ≡ true
  pub at : i ≡ from + length xs
  pub within : i ≤ length s

-- no digit stands first
pub record Stops (l : List ℕ) : Type 0 where
  pub none : first_digits l ≡ []
  pub same : past_digits l ≡ l

-- those passed are counted
pub record Counting (s : List ℕ) (from v c z v' c' z' i : ℕ) : Type 0 where
  pub xs : List ℕ
  pub run : Passed s from xs i
  pub counts : CountsOn xs v c z v' c' z'
  pub small : Small v' c'
  pub zeros : z' ≤ i

-- where none has counted yet, no zero stands at i
abbrev pub NoZero : List ℕ → ℕ → ℕ → Type 0
NoZero s i c = c ≡ 0 → i < length s → get_or s i 0 ≡ 48 → ⊥

-- zeros at the start, which change no count
pub record ZerosTo (s : List ℕ) (from c end : ℕ) : Type 0 where
  pub counts : (v z : ℕ) → z ≤ from → Small v c → Counting s from v c z v c z end
  pub other : NoZero s end c

-- the first digits that count: all that are there, or up to the 19th
pub record FirstTo (s : List ℕ) (from v c z v' c' z' end : ℕ) : Type 0 where
  pub part : Counting s from v c z v' c' z' end
  pub stops : c' < most_significant → Stops (drop end s)

pub record MoreTo (s : List ℕ) (from v c z v' c' z' end : ℕ) : Type 0 where
  pub part : Counting s from v c z v' c' z' end
  pub stops : Stops (drop end s)

-- 19 digits that count end at stop, or before them there is the end
pub record StopIs (from end c stop : ℕ) : Type 0 where
  pub above : from ≤ stop
  pub within : stop ≤ end
  pub few : from < stop → c + stop ≤ most_significant + from
  pub all : stop < end → most_significant + from ≤ c + stop

-- v is the power of ten e, or both are beyond every length of a slice
abbrev pub huge : ℕ
huge = 10000000000000000000

abbrev pub Saturates : ℕ → ℕ → Type 0
Saturates v e = (v ≡ e) ⊎ ((huge ≤ v) × (huge ≤ e))

-- one more digit of it
abbrev pub TenTimes : ℕ → ℕ → ℕ → Type 0
TenTimes v b v' = (e : ℕ) → Saturates v e → Saturates v' (e * 10 + (b - 48))

pub record PowerTo (s : List ℕ) (from v end : ℕ) : Type 0 where
  pub run : DigitsTo s from end
  pub is : Saturates v (value_after 0 (first_digits (drop from s)))

-- what is left of a without b, and of b without a
pub record Cancels (a b up down : ℕ) : Type 0 where
  pub up_is : up ≡ a - b
  pub down_is : down ≡ b - a
  pub one : (up ≡ 0) ⊎ (down ≡ 0)

-- what the digits are with a power of ten, whatever digits were so counted, and whatever power is so told
abbrev pub MovedIs : Bool → ℕ → ℕ → ℕ → ℕ → Bool → Float → Type 0
MovedIs neg v z k power lower r =
    (e : ℕ) → Saturates power e → r ≡ cond lower (round binary32 neg (v * 10 ^ z) (10 ^ (k + e))) (round binary32 neg (v * 10 ^ (z + e)) (10 ^ k))

abbrev pub NumberIs : Bool → ℕ → ℕ → ℕ → ℕ → ℕ → ℕ → Bool → Token → Type 0
NumberIs neg v c z n k power lower r =
    (ds : List ℕ) (e : ℕ) → Counts ds v c z → n ≡ length ds → Saturates power e → r ≡ cond lower (long_number neg ds 0 (k + e)) (long_number neg ds e k)

abbrev pub AfterIs : Bool → ℕ → ℕ → ℕ → ℕ → ℕ → List ℕ → Token → Type 0
AfterIs neg v c z n k rest r = (ds : List ℕ) → Counts ds v c z → n ≡ length ds → r ≡ after_digits neg ds k rest

-- digits that are so counted, k of them after the point, stand in s up to `end`, and what s is read as is what they are with what follows them
pub record DecimalOf (s : List ℕ) (neg : Bool) (v c z n k end : ℕ) : Type 0 where
  pub ds : List ℕ
  pub counts : Counts ds v c z
  pub many : n ≡ length ds
  pub is : after_digits neg ds k (drop end s) ≡ read_long_of s
  pub within : end ≤ length s
  pub zeros : z ≤ end
  pub places : k ≤ end

-- whether a point stands first
abbrev pub is_point : List ℕ → Bool
is_point [] = false
is_point (b ∷ bs) = eqb b 46
