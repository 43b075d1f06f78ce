-- The refusals of a check before a list: 1 to 5, and 20. Assumes nothing.
use mathlib.Core.Path.{◌≡◌, refl, sym, ◌∙◌}
use mathlib.Core.Bool.{Bool, true, false, cond, ◌&&◌, ◌||◌}
use mathlib.Core.List.{List}
use Prim.Native.Nat.{ℕ, zero, suc, ◌≤◌, ◌<◌}
use native.Mathlib.Omega.{arith}
use lib.Dec.{eqb}
use lib.ListN.{length}
use lib.Ieee.{Float, inf, lt}
use lib.Ieee.Scale.{finite}
use Rattle.refusals.specs.Refusals.{misshapen, not_finite, falling, far_domain, bad_record, other_threshold}
use Rattle.blend.specs.Finite.{all_finite}
use Rattle.stops.specs.Answers.{number_of_checked}
use Rattle.stops.specs.Lent.{Ramp}
use Rattle.stops.specs.Stops.{pos_at, colour_at, finite_rgba, shaped, each_stop, stops_check}
use Rattle.stops.specs.declared.Checked.{Checked}
use Rattle.stops.specs.declared.Checked.TheVariants as checked
use Rattle.gradient.specs.Gimp.{segments, gimp_shaped, all_carried, gimp_check}
use Rattle.gradient.specs.Ramp.{is_gimp, check_of, min_of, max_of}
use Rattle.sampling.specs.Constants.{cells, record_length, marks_length}
use Rattle.sampling.specs.Lent.{Held}
use Rattle.sampling.specs.Sampling.{and_then, beyond_of, shape_check, sample_check, held_check, marks_of}
use Rattle.records.specs.Fitness.{counts_good, counts_check, same_words, marks_check, thin_check}
use Rattle.thinning.specs.Kept.{first_refusal}
use Rattle.linearize.specs.Desk.{number_of_listed, number_by}
use Rattle.linearize.specs.Promises.{Tells}
use Rattle.linearize.specs.declared.Listed.{Listed}

-- k is none of them
module _ (k : ℕ) (past : 5 < k) (other : k ≡ other_threshold → ⊥) where
  abbrev Other : Checked → Type 0
  Other c = number_of_checked c ≡ k → ⊥

  pick : (b : Bool) (x y : Checked) → Other x → Other y → Other (cond b x y)
  pick true x y p q = p
  pick false x y p q = q

  both : (x y : Checked) → Other x → Other y → Other (and_then x y)
  both checked.Fine y p q = q
  both (checked.Refused n) y p q = p

  fine : Other checked.Fine
  fine h = omega (arith, past)

  low : (n : ℕ) → n ≤ 5 → Other (checked.Refused n)
  low n l h = omega (arith, past)

  each_other : (n i : ℕ) (prev : Float) (ps cs : List Float) → Other (each_stop n i prev ps cs)
  unfolding each_stop
  each_other zero i prev ps cs = fine
  each_other (suc n) i prev ps cs =
      pick (finite (pos_at ps i) && finite_rgba (colour_at cs i)) (cond (lt (pos_at ps i) prev) (checked.Refused falling) (each_stop n (suc i) (pos_at ps i) ps cs)) (checked.Refused not_finite)
      (pick (lt (pos_at ps i) prev) (checked.Refused falling) (each_stop n (suc i) (pos_at ps i) ps cs) (low falling (omega arith)) (each_other n (suc i) (pos_at ps i) ps cs)) (low not_finite (omega arith))

  module _ (ramp : Ramp) where
    abbrev ps : List Float
    ps = ramp.positions

    abbrev cs : List Float
    cs = ramp.channels

    abbrev ks : List ℕ
    ks = ramp.codes

    ramp_other : Other (check_of ramp)
    unfolding check_of gimp_check stops_check
    ramp_other =
        pick (is_gimp ramp.kind) _ _
        (pick (gimp_shaped (segments ps) (length ps) (length cs) (length ks) && all_carried ramp.kind (segments ps) 0 ps ks) (cond (all_finite ps && all_finite cs) checked.Fine (checked.Refused not_finite)) (checked.Refused misshapen)
        (pick (all_finite ps && all_finite cs) checked.Fine (checked.Refused not_finite) fine (low not_finite (omega arith))) (low misshapen (omega arith)))
        (pick (shaped ramp.kind (length ps) (length cs) (length ks)) (each_stop (length ps) 0 (inf true) ps cs) (checked.Refused misshapen) (each_other (length ps) 0 (inf true) ps cs) (low misshapen (omega arith)))

    pub sample_other : (was : Held) → number_of_checked (held_check ramp was) ≡ k → ⊥
    unfolding sample_check shape_check
    sample_other was =
        let right = eqb (length was.rows) record_length && (eqb (length was.counts) cells && eqb (length was.marks) marks_length) in
        both (check_of ramp) (cond (beyond_of (min_of ramp) || beyond_of (max_of ramp)) (checked.Refused far_domain) (cond right checked.Fine (checked.Refused bad_record))) ramp_other
        (pick (beyond_of (min_of ramp) || beyond_of (max_of ramp)) (checked.Refused far_domain) (cond right checked.Fine (checked.Refused bad_record)) (low far_domain (omega arith))
        (pick right checked.Fine (checked.Refused bad_record) fine (low bad_record (omega arith))))

    pub thin_other : (asked : Float) (was : Held) → number_of_checked (thin_check ramp asked was) ≡ k → ⊥
    unfolding thin_check counts_check marks_check
    thin_other asked was =
        let counts = cond (counts_good was.counts) checked.Fine (checked.Refused bad_record) in
        let marks = cond (same_words was.marks (marks_of ramp asked)) checked.Fine (checked.Refused other_threshold) in
        both (held_check ramp was) (and_then counts marks) (sample_other was)
        (both counts marks (pick (counts_good was.counts) checked.Fine (checked.Refused bad_record) fine (low bad_record (omega arith)))
        (pick (same_words was.marks (marks_of ramp asked)) checked.Fine (checked.Refused other_threshold) fine (λ h. other (sym h))))

  -- an answer of such a check, and of a list that is not refused with k where it passes, is not k
  pub tells_other : (check : Checked) (refusal kept spent : ℕ) (r : Listed) → Tells check refusal kept spent r → (number_of_checked check ≡ k → ⊥) → (check ≡ checked.Fine → refusal ≡ k → ⊥) → number_of_listed r ≡ k → ⊥
  tells_other check refusal kept spent r told p q h = go check p q (sym told.number ∙ h)
    where
      go : (c : Checked) → Other c → (c ≡ checked.Fine → refusal ≡ k → ⊥) → number_by c refusal ≡ k → ⊥
      go checked.Fine p q h = q refl h
      go (checked.Refused n) p q h = p h

-- the first of two refusals is not k, where neither is
pub first_other : (k a b : ℕ) → (a ≡ k → ⊥) → (b ≡ k → ⊥) → first_refusal a b ≡ k → ⊥
first_other k zero b p q h = q h
first_other k (suc a) b p q h = p h
