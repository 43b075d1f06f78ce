-- `list_within` meets its contract: the points gathered, the stops kept, and the answer. Assumes nothing.
use mathlib.Core.Path.{ap, ◌∙◌, subst}
use native.Mathlib.Omega.{arith}
use Prim.Native.Nat.{ℕ, ◌≤◌, min}
use lib.ListN.{length-replicate}
use lib.Ieee.{Float}
use Rattle.float.specs.F32.{f0}
use Rattle.sqrt.specs.Cutoff.{IsCutoff}
use Rattle.gradient.specs.Lent.{lent_ramp}
use Rattle.sampling.specs.Constants.{threshold_of}
use Rattle.within.proofs.Sites.{positions_few, count_few}
use Rattle.within.proofs.Making.{made}
use Rattle.within.proofs.list_within.Goals as goal

pub thin_all-s-requires : goal.thin_all-s-requires
thin_all-s-requires c =
    let a = c.args in
    let ramp = lent_ramp a.ramp.now in
    let positions = positions_few ramp c.requires.1 in
    let count : c.gather-count.result ≤ 10752 = count_few ramp a.rows.now a.counts.now c.requires.0 positions _ _ c.min-min.ensures c.max-max.ensures _ _ _ _ _ c.gather-count.ensures in
    (c.requires.1, count)

pub overflow_add-count : goal.overflow_add-count
overflow_add-count c =
    let a = c.args in
    let ramp = lent_ramp a.ramp.now in
    let positions = positions_few ramp c.requires.1 in
    let count : c.gather-count.result ≤ 10752 = count_few ramp a.rows.now a.counts.now c.requires.0 positions _ _ c.min-min.ensures c.max-max.ensures _ _ _ _ _ c.gather-count.ensures in
    omega (arith, count)

pub returns : goal.returns
returns c =
    let a = c.args in
    let ramp = lent_ramp a.ramp.now in
    let positions = positions_few ramp c.requires.1 in
    let f = c.finish.ensures in
    let cut = subst (λ (x : Float). IsCutoff (threshold_of x) c.cutoff_of-2.result) c.hold_of.ensures c.cutoff_of-2.ensures in
    made ramp a.threshold a.hold a.rows.now a.counts.now c.requires.0 positions _ c.cutoff_of.ensures cut _ _ c.min-min.ensures c.max-max.ensures _ _ _ _ _ (length-replicate 10753 f0) (length-replicate {A = ℕ} 10753 0) c.gather-count.ensures
    _ c.min-room.result (c.min-room.ensures ∙ ap (λ (n : ℕ). min n 4609) c.room_of.ensures) c.thin_all-s.result c.thin_all-s.new.places c.thin_all-s.new.colours c.thin_all-s.ensures c.thin_all-s.auto.places c.thin_all-s.auto.colours
    _ f.value f.places_value f.colours_value
