-- The cutoff of a threshold makes the same test without a root. Assumes nothing.
use mathlib.Core.Path.{◌≡◌, sym, fun_ext}
use lib.Ieee.{Float, binary32}
use lib.Ieee.Fits.{add-fits}
use Rattle.sqrt.specs.Cutoff.{IsCutoff}
use Rattle.sampling.specs.Constants.{threshold_of}
use Rattle.difference.specs.Difference.{clamped_of, squares_of, differs, exceeds}
use Rattle.sampling.specs.Sampling.{far_of}

pub far_by_cutoff : (asked cutoff : Float) → IsCutoff (threshold_of asked) cutoff → exceeds cutoff ≡ far_of asked
unfolding exceeds differs squares_of
far_by_cutoff asked cutoff w =
    fun_ext (λ x. fun_ext (λ y. sym (w.cuts (squares_of (clamped_of x) (clamped_of y)) (add-fits binary32 _ _))))
