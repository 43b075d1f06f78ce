-- `stops::pair_colour` meets its contract: by the kind. Assumes nothing.
use mathlib.Core.Logic.{inl, inr}
use mathlib.Core.Path.{refl}
use Rattle.stops.specs.declared.Kind.TheVariants.{Linear, Smoothstep, Gimp, GimpSaved}
use Rattle.stops.specs.Pair.{pair_of}
use Rattle.stops.proofs.Pairs.{by_kind, by_sharp, by_basis, by_catmull}
use Rattle.stops.proofs.between.pair_colour.Goals as goal

pub returns-in-Linear : goal.returns-in-Linear
unfolding pair_of
returns-in-Linear c = by_kind c.args.channels.now c.args.n c.args.k c.args.p c.args.q c.args.t Linear c.in-Linear.is c.pair_colour.ensures

pub returns-in-Smoothstep : goal.returns-in-Smoothstep
unfolding pair_of
returns-in-Smoothstep c = by_kind c.args.channels.now c.args.n c.args.k c.args.p c.args.q c.args.t Smoothstep c.in-Smoothstep.is c.pair_colour-in-Smoothstep.ensures

pub returns-in-Sharp : goal.returns-in-Sharp
returns-in-Sharp c = by_sharp c.args.channels.now c.args.n c.args.k c.args.p c.args.q c.args.t c.in-Sharp.is c.less.ensures c.pair_colour-in-Sharp.ensures

pub returns-in-Basis : goal.returns-in-Basis
returns-in-Basis c = by_basis c.args.channels.now c.args.n c.args.k c.args.p c.args.q c.args.t c.left_of.ensures c.right_of.ensures c.in-Basis.is c.pair_colour-in-Basis.ensures

pub returns-in-CatmullRom : goal.returns-in-CatmullRom
returns-in-CatmullRom c = by_catmull c.args.channels.now c.args.n c.args.k c.args.p c.args.q c.args.t c.left_of-in-CatmullRom.ensures c.right_of-in-CatmullRom.ensures c.in-CatmullRom.is c.pair_colour-in-CatmullRom.ensures

pub returns-in-Gimp : goal.returns-in-Gimp
unfolding pair_of
returns-in-Gimp c = let ps = c.args in
    elim c.in-Gimp.is [
      | inl e ↦ by_kind ps.channels.now ps.n ps.k ps.p ps.q ps.t Gimp e refl
      | inr e ↦ by_kind ps.channels.now ps.n ps.k ps.p ps.q ps.t GimpSaved e refl
    ]
