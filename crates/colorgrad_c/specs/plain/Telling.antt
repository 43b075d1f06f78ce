-- Numbers told into a lent slice, and what a call answers with them.
use Rattle.std.specs.Prelude.{ℕ, List, Float}
use Rattle.std.proofs.lemmas.List.Edits.{sets}
use Rattle.stops.specs.Lent.{Change, change, LentMut}

-- xs from the start of a slice on, as many as it holds; what lies past the last of them stays
unfoldable pub telling : {A : Type 0} → List A → List A → List A
telling xs was = sets was 0 xs

-- what a call answers: a number, and what it tells into was and is
pub record Reply (L : Type 0) : Type 0 where
  pub number : ℕ
  pub told : Change L

-- with one lent slice, and with two
abbrev pub reply : {A : Type 0} → ℕ → LentMut A → Reply (List A)
reply n told = record { number = n; told = change told.entry.now told.exit.now }

abbrev pub replies : ℕ → LentMut ℕ → LentMut Float → Reply (List ℕ × List Float)
replies n told floats = record { number = n; told = change (told.entry.now, floats.entry.now) (told.exit.now, floats.exit.now) }

-- the number, and what was told into is
abbrev pub after : {L : Type 0} → Reply L → ℕ × L
after r = (r.number, r.told.exit)
