-- What is told of a token: whether it is a number, and which.
use Rattle.std.specs.Prelude.{ℕ, List, [], ◌∷◌, Float}
use Rattle.float.specs.F32.{f0}
use Rattle.decimal.specs.declared.Token.{Token}
use Rattle.decimal.specs.declared.Token.TheVariants.{Number, NoNumber}

-- 1 where it is a number
abbrev pub is_number : Token → ℕ
is_number (Number x) = 1
is_number NoNumber = 0

-- 0 where it is none
abbrev pub value_told : Token → List Float
value_told (Number x) = x ∷ []
value_told NoNumber = f0 ∷ []
