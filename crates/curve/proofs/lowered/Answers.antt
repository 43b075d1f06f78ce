-- `lowered` meets its contract: the pattern of a power of two, and the sum. Assumes nothing.
use mathlib.Core.Path.{ap, ◌∙◌}
use native.Mathlib.Omega.{arith}
use Prim.Native.Nat.{◌-◌, ◌*◌}
use lib.Ieee.{Float, binary32, of_bits}
use Rattle.float.specs.F32.{◌⊖◌, ◌⊗◌, f1}
use Rattle.curve.specs.Factor.{power_of, lowered_of}
use Rattle.float.proofs.Patterns.{number_pattern}
use Rattle.curve.proofs.lowered.Goals as goal

pub float_from_bits-result : goal.float_from_bits-result
float_from_bits-result c = let l = c.requires in number_pattern _ (omega arith)

pub returns : goal.returns
unfolding lowered_of
returns c =
    let a = c.args in
    ap (λ (x : Float). of_bits binary32 ((126 - a.j) * 8388608) ⊗ x) (c.power.ensures ∙ ap (λ (k : Float). power_of (f1 ⊖ (a.r ⊖ k))) c.from_whole.ensures)
