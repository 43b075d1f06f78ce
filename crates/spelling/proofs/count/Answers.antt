-- `count` meets its contract: the items that pass are counted. Assumes nothing.
use native.Mathlib.Omega.{arith}
use mathlib.Core.Path.{◌≡◌, ◌∙◌}
use lib.Dec.{eqb}
use Rattle.std.specs.List.{count_by}
use Rattle.std.proofs.lemmas.Grind.{common_steps}
use Rattle.spelling.proofs.Puts.{hits_are}
use Rattle.spelling.proofs.count.Goals as goal

pub returns : goal.returns
returns c =
    let b = c.args.b in
    let s = c.args.s.now in
    let counted : c.count.result ≡ count_by (λ x. eqb x b) s = grind (arith, common_steps) in
    counted ∙ hits_are b s
