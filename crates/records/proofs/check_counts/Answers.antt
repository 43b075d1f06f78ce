-- `check_counts` meets its contract: every count is 1 to 128, or not. Assumes nothing.
use Rattle.std.proofs.Common.{rules, ◌↔◌, sym, ◌∙◌}
use Rattle.std.specs.Prelude.{IsTrue}
use Rattle.records.proofs.Counting.{EachFits, good_is, counts_pass, counts_fail}
use Rattle.records.proofs.check_counts.Goals as goal

pub returns-then-all : goal.returns-then-all
returns-then-all c =
    let each : IsTrue c.all.result ↔ EachFits c.args.counts.now = search rules in
    counts_pass _ (sym (good_is _ _ each) ∙ c.if-all.true)

pub returns-else-all : goal.returns-else-all
returns-else-all c =
    let each : IsTrue c.all.result ↔ EachFits c.args.counts.now = search rules in
    counts_fail _ (sym (good_is _ _ each) ∙ c.if-all.false)
