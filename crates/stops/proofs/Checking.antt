-- The laws of the check of stops that its loop cites: what is left to check, stop by stop. Assumes nothing.
use mathlib.Core.Path.{◌≡◌, ◌∙◌, ap}
use mathlib.Core.Bool.{Bool, true, false, not, cond, ◌&&◌, ◌||◌}
use mathlib.Core.List.{List}
use Prim.Native.Nat.{ℕ, suc, ◌+◌, ◌-◌, ◌*◌, ◌%◌, ◌≤◌, ◌<◌}
use native.Mathlib.Numerals.{add-one}
use native.Mathlib.Omega.{arith}
use lib.Dec.{leb, eqb}
use lib.ListN.{length}
use lib.Ieee.{Float, inf, lt}
use lib.Ieee.Scale.{finite}
use borrow.Author.Tests.{leb-true, eqb-true, le-leb, eq-eqb}
use Rattle.refusals.specs.Refusals.{misshapen, not_finite, falling}
use Rattle.refusals.specs.Limits.{most_stops}
use Rattle.float.proofs.Flags.{both_l, both_r, parts4}
use Rattle.stops.specs.Stops.{pos_at, colour_at, finite_rgba, is_sharp, shaped, each_stop, stops_check}
use Rattle.stops.specs.Lent.{Ramp}
use Rattle.stops.specs.Answers.{number_of_checked, Checks}
use Rattle.stops.specs.declared.Kind.{Kind}
use Rattle.stops.specs.declared.Checked.{Checked}
use Rattle.stops.specs.declared.Checked.TheVariants.{Fine, Refused}

pub checks : {c r : Checked} → r ≡ c → Checks c r
checks e = record { answer = e; number = ap number_of_checked e }

-- what the lengths of a ramp of stops are
pub record Shape (kind : Kind) (n m c : ℕ) : Type 0 where
  pub least : 2 ≤ n
  pub most : n ≤ most_stops
  pub four : m ≡ 4 * n
  pub codeless : c ≡ 0
  pub paired : (not (is_sharp kind) || eqb (n % 2) 0) ≡ true

pub shape : (kind : Kind) (n m c : ℕ) → shaped kind n m c ≡ true → Shape kind n m c
unfolding shaped
shape kind n m c h =
    let even = not (is_sharp kind) || eqb (n % 2) 0 in
    let p = parts4 (leb 2 n) (leb n most_stops) (eqb m (4 * n)) (eqb c 0) (both_l (leb 2 n && leb n most_stops && eqb m (4 * n) && eqb c 0) even h) in
    record {
      least = leb-true 2 n p.0;
      most = leb-true n most_stops p.1;
      four = eqb-true m (4 * n) p.2;
      codeless = eqb-true c 0 p.3;
      paired = both_r (leb 2 n && leb n most_stops && eqb m (4 * n) && eqb c 0) even h;
    }

pub from_shape : (kind : Kind) (n m c : ℕ) → Shape kind n m c → shaped kind n m c ≡ true
unfolding shaped
from_shape kind n m c s = simp (le-leb 2 n s.least, le-leb n most_stops s.most, eq-eqb m (4 * n) s.four, eq-eqb c 0 s.codeless, s.paired)

module _ (ramp : Ramp) where
  abbrev is_shaped : Bool
  is_shaped = shaped ramp.kind (length ramp.positions) (length ramp.channels) (length ramp.codes)

  pub not_shaped : is_shaped ≡ false → Refused misshapen ≡ stops_check ramp
  unfolding stops_check
  not_shaped h = simp h

  pub if_shaped : is_shaped ≡ true → stops_check ramp ≡ each_stop (length ramp.positions) 0 (inf true) ramp.positions ramp.channels
  unfolding stops_check
  if_shaped h = simp h

-- one stop, as the loop goes
module _ (n i : ℕ) (prev : Float) (ps cs : List Float) where
  step : i < n → each_stop (n - i) i prev ps cs ≡ cond (finite (pos_at ps i) && finite_rgba (colour_at cs i)) (cond (lt (pos_at ps i) prev) (Refused falling) (each_stop (n - (i + 1)) (i + 1) (pos_at ps i) ps cs)) (Refused not_finite)
  unfolding each_stop
  step h =
      let e : n - i ≡ suc (n - (i + 1)) = omega arith in
      ap (λ (k : ℕ). each_stop k i prev ps cs) e ∙ simp add-one

  pub bad_position : i < n → finite (pos_at ps i) ≡ false → each_stop (n - i) i prev ps cs ≡ Refused not_finite
  bad_position h f = step h ∙ simp f

  pub bad_colour : i < n → finite (pos_at ps i) ≡ true → finite_rgba (colour_at cs i) ≡ false → each_stop (n - i) i prev ps cs ≡ Refused not_finite
  bad_colour h f g = step h ∙ simp (f, g)

  pub falls : i < n → finite (pos_at ps i) ≡ true → finite_rgba (colour_at cs i) ≡ true → lt (pos_at ps i) prev ≡ true → each_stop (n - i) i prev ps cs ≡ Refused falling
  falls h f g l = step h ∙ simp (f, g, l)

  pub next : i < n → finite (pos_at ps i) ≡ true → finite_rgba (colour_at cs i) ≡ true → lt (pos_at ps i) prev ≡ false → each_stop (n - i) i prev ps cs ≡ each_stop (n - (i + 1)) (i + 1) (pos_at ps i) ps cs
  next h f g l = step h ∙ simp (f, g, l)

  pub done : n ≤ i → each_stop (n - i) i prev ps cs ≡ Fine
  unfolding each_stop
  done h = let e : n - i ≡ 0 = omega arith in ap (λ (k : ℕ). each_stop k i prev ps cs) e

pub from_start : (n : ℕ) (ps cs : List Float) → each_stop (n - 0) 0 (inf true) ps cs ≡ each_stop n 0 (inf true) ps cs
from_start n ps cs = let e : n - 0 ≡ n = omega arith in ap (λ (k : ℕ). each_stop k 0 (inf true) ps cs) e
