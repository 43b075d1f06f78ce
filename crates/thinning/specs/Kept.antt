-- Thinning a list of points: those that are kept, how many are weighed, the first refusal among the stops emitted, and the outputs written.
use Rattle.std.specs.Prelude.{Bool, cond, not, ◌&&◌, List, [], ◌∷◌, ◌++◌, ℕ, zero, suc, ◌+◌, ◌*◌, ◌/◌, min, leb, length, get_or, replicate, Float}
use Rattle.std.proofs.lemmas.List.Edits.{sets}
use Rattle.std.specs.Float.Ieee.{lt}
use Rattle.std.specs.Float.Ieee.Scale.{finite}
use Rattle.refusals.specs.Refusals.{no_room, list_not_finite, list_falling}
use Rattle.float.specs.F32.{◌⊖◌, ◌⊘◌, f0, epsilon}
use Rattle.float.specs.Number.{magnitude_of}
use Rattle.blend.specs.Blend.{linear}
use Rattle.blend.specs.Channels.{colours_of}
use Rattle.blend.specs.declared.Rgba.{Rgba}
use Rattle.stops.specs.Stops.{finite_rgba}
use Rattle.sampling.specs.Midpoints.{Gradient, Far}

-- nearer than 2^-23
unfoldable pub near_of : Float → Float → Bool
near_of last x = lt (magnitude_of (last ⊖ x)) epsilon

-- x is kept when it is not near the last kept and its colour is far from the mix of the last kept and the next
unfoldable pub stays : Gradient → Far → Float → Float → Float → Bool
stays g far last x next = not (near_of last x) && far (g x) (linear (g last) (g next) ((x ⊖ last) ⊘ (next ⊖ last)))

-- 1 for a point that is thinned and not skipped
abbrev pub weighs : Float → Float → ℕ
weighs last x = cond (near_of last x) 0 1

-- the points kept after the one kept last; the very last point is always kept
unfoldable pub thinned : Gradient → Far → Float → List Float → List Float
thinned g far last [] = []
thinned g far last (x ∷ []) = x ∷ []
thinned g far last (x ∷ y ∷ rest) =
    cond (stays g far last x y) (x ∷ []) [] ++ thinned g far (cond (stays g far last x y) x last) (y ∷ rest)

-- how many of them are thinned and not skipped
unfoldable pub weighed : Gradient → Far → Float → List Float → ℕ
weighed g far last [] = 0
weighed g far last (x ∷ []) = 0
weighed g far last (x ∷ y ∷ rest) =
    weighs last x + weighed g far (cond (stays g far last x y) x last) (y ∷ rest)

-- the same of a whole list: the first point is always kept
unfoldable pub kept_of : Gradient → Far → List Float → List Float
kept_of g far [] = []
kept_of g far (p ∷ ps) = p ∷ thinned g far p ps

unfoldable pub weighed_of : Gradient → Far → List Float → ℕ
weighed_of g far [] = 0
weighed_of g far (p ∷ ps) = weighed g far p ps

-- 3 for each point weighed, 1 for each stop
unfoldable pub list_evaluations : Gradient → Far → List Float → ℕ
list_evaluations g far ps = 3 * weighed_of g far ps + length (kept_of g far ps)

-- a stop at t of colour c, with n emitted before it, the last at `last`: 7, 8, 9, or 0 for none
unfoldable pub stop_refusal : ℕ → ℕ → Float → Float → Rgba → ℕ
stop_refusal room n last t c =
    cond (leb room n) no_room (cond (finite t && finite_rgba c) (cond (lt t last) list_falling 0) list_not_finite)

-- the first that is not 0
abbrev pub first_refusal : ℕ → ℕ → ℕ
first_refusal zero k = k
first_refusal (suc r) k = suc r

-- the first refusal among the stops emitted at ts
unfoldable pub refusal_from : Gradient → ℕ → ℕ → Float → List Float → ℕ
refusal_from g room n last [] = 0
refusal_from g room n last (t ∷ ts) =
    first_refusal (stop_refusal room n last t (g t)) (refusal_from g room (n + 1) t ts)

-- of a whole list: the first stop has none before it, and is compared with itself, below which it is not
unfoldable pub refusal_of : Gradient → Far → ℕ → List Float → ℕ
refusal_of g far room ps = refusal_from g room 0 (get_or ps 0 f0) (kept_of g far ps)

-- the whole stops that both outputs hold
abbrev pub room_of : List Float → List Float → ℕ
room_of positions channels = min (length positions) (length channels / 4)

-- an output: as written, or after a refusal zero throughout
abbrev pub written_of : ℕ → List Float → List Float
written_of zero out = out
written_of (suc r) out = replicate (length out) f0

module _ (g : Gradient) (far : Far) (room : ℕ) (ps : List Float) where
  unfoldable pub positions_written : List Float → List Float
  positions_written out = written_of (refusal_of g far room ps) (sets out 0 (kept_of g far ps))

  unfoldable pub channels_written : List Float → List Float
  channels_written out = written_of (refusal_of g far room ps) (sets out 0 (colours_of g (kept_of g far ps)))
