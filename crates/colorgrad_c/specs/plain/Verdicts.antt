-- What is told of a verdict on a list: its code, and what it names; 0 for what it does not name.
use Rattle.std.specs.Prelude.{ℕ, List, [], ◌∷◌, Float}
use Rattle.float.specs.F32.{f0}
use Rattle.judge.specs.declared.Verdict.{Verdict}
use Rattle.judge.specs.declared.Verdict.TheVariants.{Yes, WrongLength, BadStop, WrongFirst, WrongLast, TooFar, Refused}

-- 1 is yes, 2 to 6 are no, a ramp that is refused has no verdict, 0; then the stop, and the row and the index of the point
abbrev pub verdict_told : Verdict → List ℕ
verdict_told Yes = 1 ∷ 0 ∷ 0 ∷ 0 ∷ []
verdict_told WrongLength = 2 ∷ 0 ∷ 0 ∷ 0 ∷ []
verdict_told (BadStop stop) = 3 ∷ stop ∷ 0 ∷ 0 ∷ []
verdict_told WrongFirst = 4 ∷ 0 ∷ 0 ∷ 0 ∷ []
verdict_told WrongLast = 5 ∷ 0 ∷ 0 ∷ 0 ∷ []
verdict_told (TooFar row index t) = 6 ∷ 0 ∷ row ∷ index ∷ []
verdict_told (Refused n) = 0 ∷ 0 ∷ 0 ∷ 0 ∷ []

-- the t of the point
abbrev pub point_of : Verdict → Float
point_of Yes = f0
point_of WrongLength = f0
point_of (BadStop stop) = f0
point_of WrongFirst = f0
point_of WrongLast = f0
point_of (TooFar row index t) = t
point_of (Refused n) = f0
