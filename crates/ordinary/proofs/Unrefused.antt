-- A list of points that never fall, whose positions and colours are finite, is refused for want of room alone; and what is then in the outputs. Assumes nothing.
use mathlib.Core.Path.{◌≡◌, refl, ap, ◌∙◌}
use mathlib.Core.Bool.{Bool, true, false, cond, ◌&&◌}
use mathlib.Core.List.{List, [], ◌∷◌}
use Prim.Native.Nat.{ℕ, zero, suc, ◌+◌, ◌*◌, ◌≤◌, ◌<◌}
use native.Mathlib.Omega.{arith}
use lib.Dec.{T, leb}
use lib.ListN.{length, get_or, drop, length-append, get_or-append}
use lib.Seq.{sets, sets-eq}
use lib.Ieee.{Float, nan, binary32, fits, le, lt}
use lib.Ieee.Bits.{is_true}
use lib.Ieee.Scale.{finite}
use Rattle.refusals.specs.Refusals.{no_room, list_not_finite, list_falling}
use Rattle.float.proofs.Order as order
use Rattle.blend.specs.Channels.{colours_of}
use Rattle.blend.proofs.Channels.{same_rgba}
use Rattle.stops.specs.Stops.{pos_at, colour_at, finite_rgba}
use Rattle.sampling.specs.Midpoints.{Gradient, Far}
use Rattle.thinning.specs.Kept.{stays, thinned, kept_of, stop_refusal, first_refusal, refusal_from, refusal_of}
use Rattle.thinning.proofs.Stops.{stop_fine}
use Rattle.ordinary.proofs.Climbing.{Climbs, rises, thinned_climb}
use Rattle.ordinary.proofs.Singles.{AllSingle, thinned_single}

-- ---- no refusal
then_none : (a b : ℕ) → 0 ≡ a → b ≡ 0 → first_refusal a b ≡ 0
then_none a b h k = rw (← h) k

-- of colours that are finite at every f32 from `low` to b
module _ (g : Gradient) (room : ℕ) (low b : Float) (fl : T (finite low)) (fb : T (finite b)) (colours : (t : Float) → T (fits binary32 t) → T (le low t) → T (le t b) → finite_rgba (g t) ≡ true) where
  none_from : (n : ℕ) (a : Float) (ts : List Float) → T (le low a) → Climbs a ts b → AllSingle ts → n + length ts ≤ room → refusal_from g room n a ts ≡ 0
  unfolding refusal_from AllSingle
  none_from n a [] la h s l = refl
  none_from n a (t ∷ ts) la h s l =
      let lt = order.le_trans low a t la h.0 in
      let tb = rises t b ts h.1 in
      then_none (stop_refusal room n a t (g t)) (refusal_from g room (n + 1) t ts)
      (stop_fine room n a t (g t) (omega arith) (is_true (finite t) (order.finite_between low t b fl fb lt tb)) (colours t s.0 lt tb) (order.not_lt_from_le t a h.0))
      (none_from (n + 1) t ts lt h.1 s.1 (omega arith))

  pub no_refusal : (far : Far) (ts : List Float) → Climbs low ts b → AllSingle ts → length (kept_of g far ts) ≤ room → refusal_of g far room ts ≡ 0
  unfolding refusal_of kept_of refusal_from AllSingle
  no_refusal far [] h s l = refl
  no_refusal far (p ∷ ps) h s l =
      none_from 0 p (p ∷ thinned g far p ps) h.0 (order.le_refl p (order.no_nan_r low p h.0), thinned_climb g far p b ps h.1) (s.0, thinned_single g far p ps s.1) (omega arith)

-- ---- 9 is no refusal of a list that climbs, whatever its colours and the room are
neither_nine : (k r : ℕ) → (k ≡ list_falling → ⊥) → (r ≡ list_falling → ⊥) → first_refusal k r ≡ list_falling → ⊥
neither_nine zero r h i e = i e
neither_nine (suc k) r h i e = h e

stop_not_nine : (g : Gradient) (room n : ℕ) (a t : Float) → lt t a ≡ false → stop_refusal room n a t (g t) ≡ list_falling → ⊥
unfolding stop_refusal
stop_not_nine g room n a t h e = go (leb room n) (finite t && finite_rgba (g t)) (rw h at e)
  where
    go : (b c : Bool) → cond b no_room (cond c (cond false list_falling 0) list_not_finite) ≡ list_falling → ⊥
    go true c e = omega arith
    go false true e = omega arith
    go false false e = omega arith

module _ (g : Gradient) (room : ℕ) (b : Float) where
  none_nine : (n : ℕ) (a : Float) (ts : List Float) → Climbs a ts b → refusal_from g room n a ts ≡ list_falling → ⊥
  unfolding refusal_from
  none_nine n a [] h e = omega arith
  none_nine n a (t ∷ ts) h e =
      neither_nine (stop_refusal room n a t (g t)) (refusal_from g room (n + 1) t ts) (stop_not_nine g room n a t (order.not_lt_from_le t a h.0)) (none_nine (n + 1) t ts h.1) e

  pub not_nine : (far : Far) (a : Float) (ts : List Float) → Climbs a ts b → refusal_of g far room ts ≡ list_falling → ⊥
  unfolding refusal_of kept_of refusal_from
  not_nine far a [] h e = omega arith
  not_nine far a (p ∷ ps) h e = none_nine 0 p (p ∷ thinned g far p ps) (order.le_refl p (order.no_nan_r a p h.0), thinned_climb g far p b ps h.1) e

-- ---- two stops at least
after_some : (g : Gradient) (far : Far) (a x : Float) (xs : List Float) → 1 ≤ length (thinned g far a (x ∷ xs))
unfolding thinned
after_some g far a x [] = omega arith
after_some g far a x (y ∷ rest) =
    let s = stays g far a x y in
    omega (arith, length-append (cond s (x ∷ []) []) (thinned g far (cond s x a) (y ∷ rest)), after_some g far (cond s x a) y rest)

pub two_kept : (g : Gradient) (far : Far) (ts : List Float) → 2 ≤ length ts → 2 ≤ length (kept_of g far ts)
unfolding kept_of
two_kept g far [] h = absurd (omega arith)
two_kept g far (p ∷ []) h = absurd (omega arith)
two_kept g far (p ∷ x ∷ rest) h = omega (arith, after_some g far p x rest)

-- ---- what is written
pub written_at : {A : Type 0} (l vs : List A) (i : ℕ) (d : A) → length vs ≤ length l → i < length vs → get_or (sets l 0 vs) i d ≡ get_or vs i d
written_at l vs i d h k = ap (λ (w : List _). get_or w i d) (sets-eq vs l 0 (omega arith)) ∙ get_or-append vs (drop (0 + length vs) l) d i k

colours-length : (g : Gradient) (ts : List Float) → length (colours_of g ts) ≡ 4 * length ts
unfolding colours_of
colours-length g [] = refl
colours-length g (t ∷ ts) = omega (arith, colours-length g ts)

-- the four channels of stop i, one by one
four_on : (l : List Float) (x y z w : Float) (i j : ℕ) → j ≡ suc (suc (suc (suc i))) → get_or (x ∷ y ∷ z ∷ w ∷ l) j nan ≡ get_or l i nan
four_on l x y z w i j e = rw e

pub colour_written : (g : Gradient) (ts : List Float) (i : ℕ) → i < length ts → colour_at (colours_of g ts) i ≡ g (pos_at ts i)
unfolding colours_of
colour_written g [] i h = absurd (omega arith)
colour_written g (t ∷ ts) zero h = refl
colour_written g (t ∷ ts) (suc i) h =
    let c = g t in
    let l = colours_of g ts in
    same_rgba (four_on l c.r c.g c.b c.a (4 * i) (4 * suc i) (omega arith)) (four_on l c.r c.g c.b c.a (4 * i + 1) (4 * suc i + 1) (omega arith))
    (four_on l c.r c.g c.b c.a (4 * i + 2) (4 * suc i + 2) (omega arith)) (four_on l c.r c.g c.b c.a (4 * i + 3) (4 * suc i + 3) (omega arith))
    ∙ colour_written g ts i (omega arith)

-- stop i of the outputs, of the points that were kept
module _ (g : Gradient) (kept ps cs : List Float) (room_ps : length kept ≤ length ps) (room_cs : 4 * length kept ≤ length cs) (i : ℕ) (l : i < length kept) where
  pub place_of : pos_at (sets ps 0 kept) i ≡ pos_at kept i
  place_of = written_at ps kept i nan room_ps l

  channel : (j : ℕ) → j < 4 * length kept → get_or (sets cs 0 (colours_of g kept)) j nan ≡ get_or (colours_of g kept) j nan
  channel j h = written_at cs (colours_of g kept) j nan (omega (arith, colours-length g kept)) (omega (arith, colours-length g kept))

  pub colour_of_lem : colour_at (sets cs 0 (colours_of g kept)) i ≡ g (pos_at kept i)
  colour_of_lem = same_rgba (channel (4 * i) (omega arith)) (channel (4 * i + 1) (omega arith)) (channel (4 * i + 2) (omega arith)) (channel (4 * i + 3) (omega arith)) ∙ colour_written g kept i l
