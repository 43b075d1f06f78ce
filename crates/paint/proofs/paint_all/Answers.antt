-- `paint_all` meets its contract: by the kind. Assumes nothing.
use mathlib.Core.Path.{sym, ◌∙◌}
use Rattle.gradient.specs.Lent.{lent_ramp}
use Rattle.paint.proofs.Painting.{paintable, fits, as_stops, as_kept, as_gimp}
use Rattle.paint.proofs.paint_all.Goals as goal

pub paint-requires : goal.paint-requires
paint-requires c =
    fits (lent_ramp c.args.ramp.now) c.args.ts.now c.args.out.now (sym c.is_gimp.ensures ∙ c.if-is_gimp.true) c.requires.codes_value c.requires.ts_in_bounds

pub returns-then-is_gimp : goal.returns-then-is_gimp
returns-then-is_gimp c =
    as_gimp (lent_ramp c.args.ramp.now) c.args.ts.now c.args.out.now (sym c.is_gimp.ensures ∙ c.if-is_gimp.true) c.paint.ensures

pub paint_cubics-requires : goal.paint_cubics-requires
paint_cubics-requires c =
    paintable (lent_ramp c.args.ramp.now) c.args.ts.now c.args.out.now (sym c.is_gimp.ensures ∙ c.if-is_gimp.false) c.requires.codes_value c.requires.ts_in_bounds

pub returns-then-is_catmull_rom : goal.returns-then-is_catmull_rom
returns-then-is_catmull_rom c =
    as_kept (lent_ramp c.args.ramp.now) c.args.ts.now c.args.out.now (sym c.is_gimp.ensures ∙ c.if-is_gimp.false) (sym c.is_catmull_rom.ensures ∙ c.if-is_catmull_rom.true) c.paint_cubics.ensures

pub paint_stops-requires : goal.paint_stops-requires
paint_stops-requires c =
    paintable (lent_ramp c.args.ramp.now) c.args.ts.now c.args.out.now (sym c.is_gimp.ensures ∙ c.if-is_gimp.false) c.requires.codes_value c.requires.ts_in_bounds

pub returns-else-is_catmull_rom : goal.returns-else-is_catmull_rom
returns-else-is_catmull_rom c =
    as_stops (lent_ramp c.args.ramp.now) c.args.ts.now c.args.out.now (sym c.is_gimp.ensures ∙ c.if-is_gimp.false) c.paint_stops.ensures
