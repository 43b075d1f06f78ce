-- Segments without a gap. Document 02 (iii): what a file that is read holds.
use Rattle.std.specs.Prelude.{ℕ, suc, ◌-◌, ◌≤◌, ◌<◌, ◌≡◌, false, List, T, Float}
use Rattle.std.specs.Float.Ieee.{le, lt, eq}
use Rattle.float.specs.F32.{f0, f1}
use Rattle.gradient.specs.Gimp.{segments, left_at, middle_at, right_at}

-- they run from 0 to 1, each in order and joined to the next; values are compared, so -0 is 0
pub record Joined (ps : List Float) : Type 0 where
  pub some : 1 ≤ segments ps
  pub from_zero : T (eq (left_at ps 0) f0)
  pub to_one : T (eq (right_at ps (segments ps - 1)) f1)
  pub middle_after : (i : ℕ) → i < segments ps → T (le (left_at ps i) (middle_at ps i))
  pub middle_before : (i : ℕ) → i < segments ps → T (le (middle_at ps i) (right_at ps i))
  pub joint : (i : ℕ) → suc i < segments ps → T (eq (left_at ps (suc i)) (right_at ps i))

-- t lies in segment i, ends included
pub record Inside (ps : List Float) (t : Float) (i : ℕ) : Type 0 where
  pub there : i < segments ps
  pub after_left : lt t (left_at ps i) ≡ false
  pub before_right : lt (right_at ps i) t ≡ false
