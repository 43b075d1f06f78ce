-- `any_pair` meets its contract: the slices from their start on are the slices. Assumes nothing.
use mathlib.Core.Path.{◌≡◌, sym, ap₂, ◌∙◌}
use mathlib.Core.List.{List}
use Prim.Native.Nat.{◌-◌}
use native.Mathlib.Nat.{le_of_eq, sub-zero}
use lib.ListN.{length, take}
use lib.Seq.{take_all}
use lib.Ieee.{Float}
use Rattle.stops.specs.Pair.{colour_in}
use Rattle.stops.specs.declared.Place.TheVariants.{Between}
use Rattle.sampling.proofs.pairs.any_pair.Goals as goal

whole : (l : List Float) → take (length l - 0) l ≡ l
whole l = take_all (length l - 0) l (le_of_eq (sym (sub-zero (length l))))

pub returns : goal.returns
returns c =
    let a = c.args in
    c.colour_in.ensures ∙ ap₂ (λ (ps cs : List Float). colour_in a.kind ps cs a.t (Between a.k)) (whole a.positions.now) (whole a.channels.now)
