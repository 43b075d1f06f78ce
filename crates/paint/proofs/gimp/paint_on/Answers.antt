-- `paint_on` meets its contract: black off the domain, and else the segment that is found, held, by hue or not. Assumes nothing.
use mathlib.Core.Path.{refl, sym, ◌∙◌, ap}
use mathlib.Core.List.{List}
use Prim.Native.Nat.{◌+◌, ◌*◌, ◌≤◌, ◌<◌}
use native.Mathlib.Omega.{arith}
use lib.ListN.{length}
use lib.Seq.{sets, length-sets}
use lib.Ieee.{Float}
use Rattle.gradient.specs.Gimp.{segments, gimp_colour}
use Rattle.gradient.proofs.GimpLaws.{beyond}
use Rattle.blend.specs.Blend.{black}
use Rattle.blend.specs.Channels.{channels_of}
use Rattle.paint.specs.inner.Segments.{Orderly, Starts}
use Rattle.paint.proofs.gimp.Filling.{colours_next}
use Rattle.paint.proofs.gimp.Hits.{found_here}
use Rattle.paint.proofs.gimp.paint_on.Goals as goal
use Rattle.paint.proofs.gimp.paint_on.Goals.{then-orderly, else-orderly}
use Rattle.paint.proofs.gimp.paint_on.Lts
use Rattle.paint.proofs.gimp.paint_on.Tie
use Rattle.paint.proofs.gimp.paint_on.Reads

abbrev At-Joined-orderly : Type 0
At-Joined-orderly = Lts.Joined2 Tie.the-claims Reads.Pre Reads.Post Tie.handed_clauses

-- points beyond the next are painted only where the positions are orderly
ends : (c : At-Joined-orderly) → (c.if-orderly.end ≤ length c.args.ts.now) × (c.args.i + 1 < c.if-orderly.end → Orderly c.args.positions.now) × (c.args.i < c.if-orderly.end)
ends c =
    elim c.if-orderly.branch [
      | then-orderly w ↦ (omega (arith, w.end-is), λ h. c.requires.orderly.0 w.if-orderly.true, omega (arith, w.end-is, c.requires.orderly.1))
      | else-orderly w ↦ (omega (arith, w.end-is, c.requires.orderly.1), λ h. absurd (omega (arith, w.end-is, h)), omega (arith, w.end-is))
    ]

-- where painting starts
starts : (c : At-Joined-orderly) → Starts c.args.positions.now c.args.ts.now c.find_segment-s.result c.args.i c.if-orderly.end
starts c =
    let k = ends c in
    record { some = k.2; inside = k.0; ordered = k.1; found = c.find_segment-s.ensures; on = sym c.is_off_domain.ensures ∙ c.if-is_off_domain.false }

-- the segment found is one of those that there are
there : (c : At-Joined-orderly) → c.find_segment-s.result < segments c.args.positions.now
there c =
    found_here c.args.positions.now _ c.requires.fits.cut.least c.find_segment-s.ensures

-- so both of its codes are there
codes_there : (c : At-Joined-orderly) → 2 * c.find_segment-s.result + 1 < length c.args.codes.now
codes_there c =
    omega (arith, there c, c.requires.fits.cut.codes)

pub returns-then-is_off_domain : goal.returns-then-is_off_domain
returns-then-is_off_domain c =
    let ps = c.args.positions.now in
    let cs = c.args.channels.now in
    let ks = c.args.codes.now in
    let ts = c.args.ts.now in
    let i = c.args.i in
    record {
      on = omega arith;
      within = omega (arith, c.requires.orderly.1);
      sized = ap length c.put_colour.ensures ∙ simp length-sets refl;
      is = λ l room e.
          c.put_colour.ensures
          ∙ ap (λ (r : List Float). sets r (4 * i) (channels_of black)) e
          ∙ colours_next (gimp_colour ps cs ks) ts l room i c.requires.orderly.1 (beyond ps cs ks _ c.is_off_domain.ensures c.if-is_off_domain.true);
    }

pub find_segment-s-requires : goal.find_segment-s-requires
find_segment-s-requires c = (c.requires.fits.cut.least, c.requires.orderly.0)

pub overflow_mul-s : goal.overflow_mul-s
overflow_mul-s c =
    record { fits = omega (arith, codes_there c.before, c.well_formed.1.1.0.1) }

pub bounds-codes-s : goal.bounds-codes-s
bounds-codes-s c = omega (arith, codes_there c.before.before)

pub overflow_mul-s-2 : goal.overflow_mul-s-2
overflow_mul-s-2 c =
    let found = c.before.before in
    record { fits = omega (arith, codes_there found, found.well_formed.1.1.0.1) }

pub overflow_add-s : goal.overflow_add-s
overflow_add-s c =
    let found = c.before.before in
    record { fits = omega (arith, codes_there found, found.well_formed.1.1.0.1) }

pub bounds-codes-s-2 : goal.bounds-codes-s-2
bounds-codes-s-2 c = omega (arith, codes_there c.before.before.before)

pub paint_held-requires : goal.paint_held-requires
paint_held-requires c =
    let j = c.before.before.before.before.before.before in
    record { fits = j.requires.fits; starts = (starts j, sym c.is_costly.ensures ∙ c.if-is_costly.true) }

pub paint_held-requires-else-is_costly : goal.paint_held-requires-else-is_costly
paint_held-requires-else-is_costly c =
    let j = c.before.before.before.before.before.before in
    record { fits = j.requires.fits; starts = (starts j, sym c.is_costly.ensures ∙ c.if-is_costly.false) }
