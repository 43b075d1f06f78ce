-- `thin_all` meets its contract: a stop for the first point, and the others thinned. Assumes nothing.
use mathlib.Core.Path.{◌≡◌}
use mathlib.Core.List.{List, ◌∷◌}
use native.Mathlib.Omega.{arith}
use lib.ListN.{get_or, drop}
use lib.Ieee.{Float, nan}
use Rattle.gradient.specs.Lent.{lent_ramp}
use Rattle.sampling.proofs.Nearness.{near_point}
use Rattle.gradient.specs.Ramp.{colour_of}
use Rattle.difference.specs.Difference.{exceeds}
use Rattle.places.specs.Places.{list_of}
use Rattle.places.proofs.Following.{list_head}
use Rattle.sampling.specs.Midpoints.{Gradient}
use Rattle.sampling.specs.inner.Steps.{PointAt}
use Rattle.sampling.specs.declared.Point.{Point}
use Rattle.thinning.specs.Walk.{Run, run}
use Rattle.thinning.proofs.Walks.{Emitted, emitted_as}
use Rattle.linearize.specs.inner.Steps.{starting}
use Rattle.linearize.proofs.Lists.{first_refused, then_thinned}
use Rattle.linearize.proofs.listing.thin_all.Goals as goal
use Rattle.linearize.proofs.listing.thin_all.Lts
use Rattle.linearize.proofs.listing.thin_all.Tie
use Rattle.linearize.proofs.listing.thin_all.Reads

abbrev At-Start : Type 0
At-Start = Lts.Start Tie.the-claims Reads.Pre Reads.Post Tie.handed_clauses

abbrev At-After-evaluate-first : Type 0
At-After-evaluate-first = Lts.After-evaluate Tie.the-claims Reads.Pre Reads.Post Tie.handed_clauses

abbrev At-After-emit-s : Type 0
At-After-emit-s = Lts.After-emit Tie.the-claims Reads.Pre Reads.Post Tie.handed_clauses

-- ---- after the first stop: its point, the outputs before and after it, and what was written
module _ (c : At-After-emit-s) where
  abbrev at-point : At-After-evaluate-first
  at-point = c.before.before.before

  abbrev at-start : At-Start
  at-start = at-point.before.before.before.before.before.before

  abbrev g : Gradient
  g = colour_of (lent_ramp at-start.args.ramp.now)

  abbrev p : Point
  p = at-point.evaluate-first.result

  abbrev ts : List Float
  ts = list_of at-start.args.rows.now at-start.args.counts.now at-start.args.max

  abbrev before : Run
  before = run (starting p) at-start.args.places.now at-start.args.colours.now

  abbrev after : Run
  after = run c.emit-s.result c.emit-s.new.places c.emit-s.new.colours

  first : PointAt g (get_or at-start.args.rows.now 0 nan) p
  first = near_point _ at-start.requires.1 _ _ _ at-point.evaluate-first.ensures

  written : Emitted g at-start.args.room before p after
  written = emitted_as g at-start.args.room before after p c.emit-s.ensures first.1

  head : ts ≡ p.t ∷ drop 1 ts
  head = list_head at-start.args.rows.now at-start.args.counts.now at-start.args.max at-start.requires.0 p.t first.0

pub returns-then-refusal-ne0 : goal.returns-then-refusal-ne0
returns-then-refusal-ne0 c =
    let a = c.args in
    let w = written c.before.before.before.before.before.before in
    record {
      ends = first_refused (g c.before.before.before.before.before.before) (exceeds a.cutoff) a.room (ts c.before.before.before.before.before.before) a.places.now a.colours.now (p c.before.before.before.before.before.before) (head c.before.before.before.before.before.before) (after c.before.before.before.before.before.before) w c.if-refusal-ne0.true;
      few = omega (arith, w.tried);
      fitting = w.fitting (omega arith);
    }

pub thin_points-requires : goal.thin_points-requires
thin_points-requires c =
    let w = written c.before.before.before.before.before.before.before.before in
    record { ready = (c.requires.0, record { going = c.if-refusal-ne0.false; none = w.tried; fitting = w.fitting (omega arith); coloured = w.coloured c.if-refusal-ne0.false }); codes_value = c.requires.1 }

pub returns : goal.returns
returns c =
    let a = c.args in
    let k = c.thin_points in
    let r = run k.result k.new.places k.new.colours in
    record {
      ends = then_thinned (g c.before.before.before.before.before.before.before.before.before.before.before.before.before) (exceeds a.cutoff) a.room (ts c.before.before.before.before.before.before.before.before.before.before.before.before.before) a.places.now a.colours.now (p c.before.before.before.before.before.before.before.before.before.before.before.before.before) (head c.before.before.before.before.before.before.before.before.before.before.before.before.before) (after c.before.before.before.before.before.before.before.before.before.before.before.before.before) r (written c.before.before.before.before.before.before.before.before.before.before.before.before.before) c.if-refusal-ne0.false k.ensures.ends;
      few = k.ensures.few;
      fitting = k.ensures.fitting;
    }
