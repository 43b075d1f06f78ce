-- `append` meets its contract: what is left, put after what is there, makes the whole. Assumes nothing.
use borrow.Author.Rules.{rules}
use mathlib.Core.Path.{refl, ◌∙◌}
use mathlib.Core.List.{[], ◌∷◌}
use lib.ListN.{get_or}
use Rattle.spelling.proofs.Puts.{putting_none, putting_more, putting_all, put_one, place_one, same_one}
use Rattle.spelling.proofs.append.Goals as goal

pub loop-b-init : goal.loop-b-init
loop-b-init c = let a = c.args in putting_none _ a.buf.now a.at a.s.now

pub loop-b-preserved : goal.loop-b-preserved
loop-b-preserved c = let s = c.args.s.now in
    putting_more c.loop-b.invariant (get_or s c.loop-b.b-index 0 ∷ []) (same_one s c.loop-b.b-index (search rules)) (c.put-n.ensures.0 ∙ put_one _ _ _) (c.put-n.ensures.1 ∙ place_one _ _ _)

pub returns : goal.returns
returns c = putting_all c.loop-b.invariant refl (search rules)
