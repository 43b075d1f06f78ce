-- Laws of the checks before a list is written. Assumes nothing.
use mathlib.Core.Path.{◌≡◌, sym, ap, ◌∙◌}
use mathlib.Core.Bool.{Bool, true, false, not, ◌&&◌}
use mathlib.Core.List.{List, ◌∷◌}
use Prim.Native.Nat.{ℕ, suc, ◌+◌, ◌-◌, ◌≤◌, ◌<◌}
use native.Mathlib.Numerals.{add-one}
use native.Mathlib.Omega.{arith}
use lib.ListN.{length, drop, get_or}
use lib.Seq.{drop-cons}
use lib.ListN.{drop_of_length-le}
use lib.Ieee.{Float, nan, lt}
use Rattle.stops.specs.Stops.{stop_at}
use Rattle.gradient.specs.declared.gimp.Segment.{Segment}
use Rattle.ggr_writing.specs.File.{rises, segment_between, writable_segment, writable_from}

-- ---- no position is below the one before
module _ (ps : List Float) (prev z : Float) (i : ℕ) (h : rises prev (drop i ps) ≡ rises z ps) where
  at_stop : i < length ps → drop i ps ≡ get_or ps i nan ∷ drop (i + 1) ps
  at_stop l = rw (add-one, drop-cons ps i nan)

  pub rises_falls : i < length ps → lt (get_or ps i nan) prev ≡ true → false ≡ rises z ps
  unfolding rises
  rises_falls l e = sym (ap (λ (b : Bool). not b && rises (get_or ps i nan) (drop (i + 1) ps)) e) ∙ sym (ap (rises prev) (at_stop l)) ∙ h

  pub rises_next : i < length ps → lt (get_or ps i nan) prev ≡ false → rises (get_or ps i nan) (drop (i + 1) ps) ≡ rises z ps
  unfolding rises
  rises_next l e = sym (ap (λ (b : Bool). not b && rises (get_or ps i nan) (drop (i + 1) ps)) e) ∙ sym (ap (rises prev) (at_stop l)) ∙ h

  pub rises_done : length ps ≤ i → true ≡ rises z ps
  unfolding rises
  rises_done l = sym (ap (rises prev) (drop_of_length-le ps l)) ∙ h

-- ---- segment by segment
module _ (n i : ℕ) (ps cs : List Float) where
  abbrev here : Segment
  here = segment_between (stop_at ps cs i) (stop_at ps cs (i + 1))

  writable_step : i < n → writable_from (n - i) i ps cs ≡ (writable_segment here && writable_from (n - (i + 1)) (i + 1) ps cs)
  unfolding writable_from
  writable_step l = let e : n - i ≡ suc (n - (i + 1)) = omega arith in ap (λ (k : ℕ). writable_from k i ps cs) e

  pub from_start : writable_from (n - 0) 0 ps cs ≡ writable_from n 0 ps cs
  from_start = let e : n - 0 ≡ n = omega arith in ap (λ (k : ℕ). writable_from k 0 ps cs) e

  pub from_fails : {w : Bool} → i < n → writable_from (n - i) i ps cs ≡ w → writable_segment here ≡ false → false ≡ w
  from_fails l h e = sym (ap (λ (b : Bool). b && writable_from (n - (i + 1)) (i + 1) ps cs) e) ∙ sym (writable_step l) ∙ h

  pub from_next : {w : Bool} → i < n → writable_from (n - i) i ps cs ≡ w → writable_segment here ≡ true → writable_from (n - (i + 1)) (i + 1) ps cs ≡ w
  from_next l h e = sym (ap (λ (b : Bool). b && writable_from (n - (i + 1)) (i + 1) ps cs) e) ∙ sym (writable_step l) ∙ h

  pub from_done : {w : Bool} → n ≤ i → writable_from (n - i) i ps cs ≡ w → true ≡ w
  unfolding writable_from
  from_done l h = let e : n - i ≡ 0 = omega arith in sym (ap (λ (k : ℕ). writable_from k i ps cs) e) ∙ h
