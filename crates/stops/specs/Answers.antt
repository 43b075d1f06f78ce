-- What a check answers: document 01's number of the refusal, and what follows. No check has a line or a value: the line is 0.
use Rattle.std.specs.Prelude.{◌≡◌, ℕ}
use Rattle.stops.specs.declared.Checked.{Checked}
use Rattle.stops.specs.declared.Checked.TheVariants.{Fine, Refused}

-- 0 for none
abbrev pub number_of_checked : Checked → ℕ
number_of_checked Fine = 0
number_of_checked (Refused n) = n

-- what follows a check that is passed, or a refusal
abbrev pub on_fine : {A : Type 0} → Checked → A → (ℕ → A) → A
on_fine Fine done refused = done
on_fine (Refused n) done refused = refused n

-- the promise of a check: the answer is that of the definition c, and so is its number
pub record Checks (c r : Checked) : Type 0 where
  pub answer : r ≡ c
  pub number : number_of_checked r ≡ number_of_checked c
