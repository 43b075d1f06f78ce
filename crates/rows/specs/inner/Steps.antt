-- What private functions promise each other.
use Rattle.std.specs.Prelude.{ℕ, ◌+◌, ◌-◌, ◌≤◌, ◌<◌, ◌≡◌, Bool, true, false, List, [], ◌∷◌, length, take, drop}
use Rattle.rows.specs.declared.Parting.{Parting}
use Rattle.rows.specs.Rows.{parts_at, row_end}

-- the first part of the row that goes on at `from` is the bytes from `at` to `end`, and the others go on at `next`; or there is none, and what follows the row starts at `next`
pub record FieldAt (by : Parting) (s : List ℕ) (from : ℕ) (some : Bool) (at end next : ℕ) : Type 0 where
  pub no_part : some ≡ false → parts_at by s from ≡ []
  pub follows : some ≡ false → next ≡ row_end by s from
  pub order : some ≡ true → at ≤ end
  pub within : some ≡ true → end ≤ length s
  pub further : some ≡ true → from < next
  pub inside : some ≡ true → next ≤ length s + 1
  pub a_part : some ≡ true → parts_at by s from ≡ take (end - at) (drop at s) ∷ parts_at by s next
  pub same_end : some ≡ true → row_end by s from ≡ row_end by s next
