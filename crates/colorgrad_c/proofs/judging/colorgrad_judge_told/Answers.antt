-- `colorgrad_judge_told` meets its contract: the call for the kind of the code, its answer told; a code that names none is refused. Assumes nothing.
use mathlib.Core.Path.{refl}
use Rattle.refusals.specs.Refusals.{misshapen}
use Rattle.judge.specs.declared.Verdict.TheVariants as verdict
use Rattle.colorgrad_c.proofs.plain.Coding.{of_a_kind, of_no_kind, paired_both}
use Rattle.colorgrad_c.proofs.judging.colorgrad_judge_told.Goals as goal

pub returns-in_default : goal.returns-in_default
returns-in_default c =
    of_no_kind (verdict.Refused misshapen) c.kind_of.ensures c.in_default.is refl (paired_both c.tell_verdict.ensures.value c.tell_verdict.ensures.told_value c.tell_verdict.ensures.t_value)

pub returns : goal.returns
returns c =
    of_a_kind _ c.kind_of.ensures c.in-Some.is c.judge-verdict.ensures (paired_both c.tell_verdict-2.ensures.value c.tell_verdict-2.ensures.told_value c.tell_verdict-2.ensures.t_value)
