-- `index` meets its contract: a case for each test of the whole part. Assumes nothing.
use mathlib.Core.Path.{◌∙◌}
use mir.Syntax.{w64}
use mir.Val.{to_z, of_z}
use mir.Facts.{to_z-of_z}
use mir.Syntax.{w64}
use Rattle.sine.proofs.Indexed.{index_none, index_same, index_most, index_fits}
use Rattle.sine.proofs.index.Goals as goal

pub returns-then-z-lt0 : goal.returns-then-z-lt0
returns-then-z-lt0 c =
    index_none c.args.x (to_z-of_z {w = w64} (record { sfits = c.whole-z.type_inv }) ∙ c.whole-z.ensures) c.if-z-lt0.true

pub overflow_cast-result : goal.overflow_cast-result
overflow_cast-result c = index_fits (to_z w64 (of_z w64 c.whole-z.result)) c.if-z-lt0.false c.if-z-lt1024.true

pub returns-then-z-lt1024 : goal.returns-then-z-lt1024
returns-then-z-lt1024 c =
    index_same c.args.x (to_z-of_z {w = w64} (record { sfits = c.whole-z.type_inv }) ∙ c.whole-z.ensures) c.if-z-lt0.false c.if-z-lt1024.true

pub returns-else-z-lt1024 : goal.returns-else-z-lt1024
returns-else-z-lt1024 c =
    index_most c.args.x (to_z-of_z {w = w64} (record { sfits = c.whole-z.type_inv }) ∙ c.whole-z.ensures) c.if-z-lt1024.false
