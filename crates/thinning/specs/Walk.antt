-- Thinning step by step: the progress made and what the two outputs hold so far, and what the whole list comes to.
use Rattle.std.specs.Prelude.{◌≡◌, cond, not, ◌&&◌, List, ℕ, zero, suc, ◌+◌, ◌*◌, length, set, Float}
use Rattle.std.proofs.lemmas.List.Edits.{sets}
use Rattle.float.specs.F32.{◌⊖◌, ◌⊘◌}
use Rattle.blend.specs.Blend.{linear}
use Rattle.sampling.specs.Midpoints.{Gradient, Far}
use Rattle.stops.specs.Lent.{LentMut}
use Rattle.thinning.specs.Counts.{sum_of}
use Rattle.thinning.specs.Kept.{near_of, weighs, thinned, weighed, stop_refusal, refusal_from}
use Rattle.blend.specs.Channels.{channels_of, colours_of}
use Rattle.sampling.specs.declared.Point.{Point}
use Rattle.thinning.specs.declared.Progress.{Progress}
use Rattle.thinning.specs.declared.Weighed.{Weighed}

pub record Run : Type 0 where
  pub progress : Progress
  pub places : List Float
  pub colours : List Float

abbrev pub run : Progress → List Float → List Float → Run
run s ps cs = record { progress = s; places = ps; colours = cs }

-- with the outputs as they were lent, and as they come back
abbrev pub run_was : Progress → LentMut Float → LentMut Float → Run
run_was s ps cs = run s ps.entry.now cs.entry.now

abbrev pub run_is : Progress → LentMut Float → LentMut Float → Run
run_is s ps cs = run s ps.exit.now cs.exit.now

-- a stop at p: written, or refused
abbrev pub emit_by : ℕ → Run → Point → Run
emit_by zero r p =
    record {
      progress = record { last = p; stops = r.progress.stops + 1; tried = r.progress.tried; refusal = 0 };
      places = set r.places r.progress.stops p.t;
      colours = sets r.colours (4 * r.progress.stops) (channels_of p.colour);
    }
emit_by (suc k) r p =
    record {
      progress = record { last = r.progress.last; stops = r.progress.stops; tried = r.progress.tried; refusal = suc k };
      places = r.places;
      colours = r.colours;
    }

unfoldable pub emit_run : ℕ → Run → Point → Run
emit_run room r p = emit_by (stop_refusal room r.progress.stops r.progress.last.t p.t p.colour) r p

-- what weighing x comes to, of points that carry their colours: it is kept by `stays`, and counts by `weighs`
unfoldable pub weigh_of : Far → Point → Point → Point → Weighed
weigh_of far last x next =
    record {
      kept = not (near_of last.t x.t) && far x.colour (linear last.colour next.colour ((x.t ⊖ last.t) ⊘ (next.t ⊖ last.t)));
      tried = weighs last.t x.t;
    }

-- n points more weighed
abbrev pub more_run : ℕ → Run → Run
more_run n r =
    run (record { last = r.progress.last; stops = r.progress.stops; tried = sum_of r.progress.tried n; refusal = r.progress.refusal }) r.places r.colours

-- x is weighed, and kept or not
abbrev pub step_by : Weighed → ℕ → Run → Point → Run
step_by w room r x = cond w.kept (emit_run room (more_run w.tried r) x) (more_run w.tried r)

unfoldable pub step_run : Far → ℕ → Run → Point → Point → Run
step_run far room r x next = step_by (weigh_of far r.progress.last x next) room r x

pub record Outcome : Type 0 where
  pub refusal : ℕ
  pub stops : ℕ
  pub tried : ℕ
  pub places : List Float
  pub colours : List Float

abbrev pub reached : Run → Outcome
reached r =
    record {
      refusal = r.progress.refusal;
      stops = r.progress.stops;
      tried = r.progress.tried;
      places = r.places;
      colours = r.colours;
    }

-- what it comes to when stops at ks follow, and n points more are weighed
unfoldable pub comes_to : Gradient → ℕ → Run → List Float → ℕ → Outcome
comes_to g room r ks n =
    record {
      refusal = refusal_from g room r.progress.stops r.progress.last.t ks;
      stops = r.progress.stops + length ks;
      tried = r.progress.tried + n;
      places = sets r.places r.progress.stops ks;
      colours = sets r.colours (4 * r.progress.stops) (colours_of g ks);
    }

-- and when the points ts are still to be thinned
unfoldable pub outcome : Gradient → Far → ℕ → Run → List Float → Outcome
outcome g far room r ts = comes_to g room r (thinned g far r.progress.last.t ts) (weighed g far r.progress.last.t ts)

-- a run has ended as foretold: with the refusal, or with everything
pub record Ends (o : Outcome) (r : Run) : Type 0 where
  pub refused : r.progress.refusal ≡ o.refusal
  pub same : r.progress.refusal ≡ 0 → reached r ≡ o
