-- What a token's bytes mean, without saying how it is worked out: what `read_of` and `read_long_of` are held to. Any bytes mean one token at most. Definitions only.
use Rattle.std.specs.Prelude.{List, Bool, ℕ, ◌*◌, ◌^◌, Float}
use Rattle.decimal.specs.declared.Token.{Token}
use Rattle.decimal.specs.declared.Token.TheVariants.{Number, NoNumber}
use Rattle.decimal.specs.Form.{Form, LongForm}
use Rattle.decimal.specs.Nearest.{Rounded}

-- which numbers bytes write, as a sign and a fraction: by the short rule and by the long one
pub data Short (s : List ℕ) : Bool → ℕ → ℕ → Type 0 where
  short : {neg : Bool} {d k : ℕ} → Form s neg d k → Short s neg d (10 ^ k)

pub data Long (s : List ℕ) : Bool → ℕ → ℕ → Type 0 where
  long : {neg : Bool} {d up down : ℕ} → LongForm s neg d up down → Long s neg (d * 10 ^ up) (10 ^ down)

-- bytes that write a number mean the f32 nearest to it, a tie to the even one, and the infinity of its sign where it is beyond all; no other bytes mean a number
pub data Means (Writes : Bool → ℕ → ℕ → Type 0) : Token → Type 0 where
  written : {neg : Bool} {d p : ℕ} {r : Float} → Writes neg d p → Rounded neg d p r → Means Writes (Number r)
  other : ((neg : Bool) (d p : ℕ) → Writes neg d p → ⊥) → Means Writes NoNumber
