-- `kept_good` meets its contract: the count of each cell kept fits, or not. Assumes nothing.
use Rattle.std.proofs.Common.{rules, arith, ◌↔◌, get_or, false}
use Rattle.std.specs.Prelude.{IsTrue, EachIndex}
use Rattle.linearize.specs.Relist.{count_fits}
use Rattle.linearize.proofs.Relisting.{fits_is}
use Rattle.linearize.proofs.kept.kept_good.Goals as goal

pub returns : goal.returns
returns c =
    let ks = c.args.keep in
    let counts = c.args.counts.now in
    let each : IsTrue c.all.result ↔ EachIndex ks (λ i. IsTrue (count_fits (get_or ks i false) (get_or counts i 0))) = search rules in
    fits_is ks counts _ (omega arith) each
