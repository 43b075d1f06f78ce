-- `point_in` meets its contract: in the pair that was tested, or wherever the search finds it. Assumes nothing.
use mathlib.Core.Path.{sym, ◌∙◌}
use mathlib.Core.Bool.{true≢false}
use Rattle.sampling.proofs.Along.{along_point, along_carries}
use Rattle.within.proofs.Blocks.{placed_point_lem, drawn_there}
use Rattle.within.proofs.block.point_in.Goals as goal

pub returns-then-is_gimp : goal.returns-then-is_gimp
returns-then-is_gimp c =
    let w = c.evaluate_along.ensures in
    record { point_at = along_point _ c.requires.codes_value _ _ c.requires.carrying w; carrying_2 = along_carries _ c.requires.codes_value _ _ c.requires.carrying w }

pub returns-then-j-eq0 : goal.returns-then-j-eq0
returns-then-j-eq0 c =
    let w = c.evaluate_along-then-j-eq0.ensures in
    record { point_at = along_point _ c.requires.codes_value _ _ c.requires.carrying w; carrying_2 = along_carries _ c.requires.codes_value _ _ c.requires.carrying w }

pub returns-then-is_catmull_rom : goal.returns-then-is_catmull_rom
returns-then-is_catmull_rom c =
    let w = drawn_there _ c.requires.codes_value _ _ (c.pair_near-j.ensures c.if-j-eq0.false) _ (sym c.is_gimp.ensures ∙ c.if-is_gimp.false) (sym c.is_catmull_rom.ensures ∙ c.if-is_catmull_rom.true) c.requires.carrying c.drawn_at.ensures in
    record { point_at = w.0; carrying_2 = w.1 }

pub returns : goal.returns
returns c =
    record {
      point_at = placed_point_lem _ c.requires.codes_value _ _ (c.pair_near-j.ensures c.if-j-eq0.false) _ (sym c.is_gimp.ensures ∙ c.if-is_gimp.false) c.placed.ensures;
      carrying_2 = λ d. absurd (true≢false (sym d ∙ sym c.is_catmull_rom.ensures ∙ c.if-is_catmull_rom.false));
    }
