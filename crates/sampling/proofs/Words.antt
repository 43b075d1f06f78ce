-- The parts of a record, and a threshold is known by its word. Assumes nothing.
use mathlib.Core.Path.{◌≡◌, sym, ap, ◌∙◌}
use mathlib.Core.Bool.{Bool, true, false, cond}
use mathlib.Core.List.{List}
use Prim.Native.Nat.{ℕ}
use lib.Dec.{T}
use lib.ListN.{get_or}
use lib.Ieee.{Float, binary32, fits, of_bits, lt}
use lib.Ieee.Bits.{of_bits-to_bits, of_bits-fits}
use lib.Ieee.Scale.{finite}
use Rattle.stops.specs.Lent.{Ramp}
use Rattle.sampling.specs.Constants.{threshold_of, least_threshold, most_threshold, default_threshold}
use Rattle.sampling.specs.Lent.{Held, held_of}
use Rattle.sampling.specs.Sampling.{marks_of}

-- a record is its three parts
pub same_held : (h k : Held) → h.rows ≡ k.rows → h.counts ≡ k.counts → h.marks ≡ k.marks → h ≡ k
same_held h k p q r =
    ap (λ (l : List Float). held_of l h.counts h.marks) p
    ∙ ap (λ (l : List ℕ). held_of k.rows l h.marks) q
    ∙ ap (held_of k.rows k.counts) r

-- ---- the threshold in force of an f32 is an f32
threshold_fits : (x : Float) → T (fits binary32 x) → T (fits binary32 (threshold_of x))
unfolding threshold_of
threshold_fits x f = pick (finite x) (lt x least_threshold) (lt most_threshold x)
  where
    pick : (a b c : Bool) → T (fits binary32 (cond a (cond b least_threshold (cond c most_threshold x)) default_threshold))
    pick true true c = of_bits-fits binary32 0x3a83_126f
    pick true false true = of_bits-fits binary32 0x3d0f_5c29
    pick true false false = f
    pick false b c = of_bits-fits binary32 0x3be5_6042

-- records with the same words have one threshold in force
pub same_threshold : (ramp other : Ramp) (asked mine : Float) → T (fits binary32 asked) → T (fits binary32 mine) → marks_of ramp asked ≡ marks_of other mine → threshold_of asked ≡ threshold_of mine
same_threshold ramp other asked mine f g e =
    sym (of_bits-to_bits binary32 (threshold_of asked) (threshold_fits asked f))
    ∙ ap (λ (l : List ℕ). of_bits binary32 (get_or l 0 0)) e
    ∙ of_bits-to_bits binary32 (threshold_of mine) (threshold_fits mine g)
