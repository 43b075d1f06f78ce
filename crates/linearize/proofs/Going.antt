-- The loop over the places of a record: what the whole list comes to stays the same from point to point. Assumes nothing.
use mathlib.Core.Path.{◌≡◌, refl, sym, ap, ◌∙◌}
use mathlib.Core.List.{List, [], ◌∷◌}
use Prim.Native.Nat.{ℕ, suc, ◌+◌, ◌≤◌, ◌<◌}
use native.Mathlib.Numerals.{add-one}
use native.Mathlib.Omega.{arith}
use lib.ListN.{length, drop, drop_of_length-le}
use lib.Seq.{drop-cons}
use lib.Ieee.{Float, nan}
use Rattle.sampling.specs.Midpoints.{Gradient, Far}
use Rattle.places.specs.Places.{list_of, first_place, next_place, point_at, points_before, InRecord, Ready}
use Rattle.thinning.specs.Walk.{Run, run, emit_run, step_run, Outcome, outcome}
use Rattle.sampling.specs.inner.Steps.{Coloured}
use Rattle.linearize.specs.inner.Steps.{Started, Thinned}
use Rattle.places.specs.declared.RowPlace.{RowPlace}
use Rattle.sampling.specs.declared.Point.{Point}
use Rattle.thinning.specs.declared.Progress.{Progress}
use Rattle.places.proofs.Following.{second_within, second_before, list_most, point_is, before_next, next_within, more_follow, before_end}
use Rattle.thinning.proofs.Walks.{Emitted, emitted_as, Stepped, stepped, last_stop}

module _ (g : Gradient) (far : Far) (room : ℕ) (rows : List Float) (counts : List ℕ) (max : Float) (r₀ : Run) where
  pub record Going (ps cs : List Float) (s : Progress) (p : RowPlace) (x : Point) : Type 0 where
    pub within : InRecord counts p
    pub point : x.t ≡ point_at rows max p
    pub coloured : Coloured g x
    pub kept : Coloured g s.last
    pub going : s.refusal ≡ 0
    pub few : s.tried < points_before counts p
    pub fitting : s.stops ≤ room
    pub places-length : length ps ≡ length r₀.places
    pub colours-length : length cs ≡ length r₀.colours
    pub same : outcome g far room (run s ps cs) (drop (points_before counts p) (list_of rows counts max)) ≡ outcome g far room r₀ (drop 1 (list_of rows counts max))

module _ (g : Gradient) (far : Far) (room : ℕ) (rows : List Float) (counts : List ℕ) (max : Float) (ok : Ready rows counts) where
  abbrev ts : List Float
  ts = list_of rows counts max

  pub started : (s : Progress) (ps cs : List Float) (p : RowPlace) (x : Point) → Started g room s → p ≡ next_place counts first_place → x.t ≡ point_at rows max p → Coloured g x
      → Going g far room rows counts max (run s ps cs) ps cs s p x
  started s ps cs p x w e h k =
      let b : points_before counts p ≡ 1 = rw e (second_before rows counts max ok) in
      record {
        within = rw e (second_within rows counts max ok);
        point = h;
        coloured = k;
        kept = w.coloured;
        going = w.going;
        few = omega (arith, w.none, b);
        fitting = w.fitting;
        places-length = refl;
        colours-length = refl;
        same = rw b;
      }

  -- a point is weighed, and the next one comes after it
  module _ (r₀ : Run) (ps cs : List Float) (s : Progress) (p : RowPlace) (x : Point) (w : Going g far room rows counts max r₀ ps cs s p x) (lt : p.row < 36)
      (q : RowPlace) (y : Point) (eq : q ≡ next_place counts p) (at : y.t ≡ point_at rows max q) (cy : Coloured g y)
      (ps' cs' : List Float) (s' : Progress) (e : run s' ps' cs' ≡ step_run far room (run s ps cs) x y) where
    next_in : InRecord counts q
    next_in = rw eq (next_within rows counts max ok p w.within lt)

    next_before : points_before counts q ≡ points_before counts p + 1
    next_before = rw eq (before_next rows counts max ok p w.within lt)

    from_next : drop (points_before counts q) ts ≡ y.t ∷ drop (suc (points_before counts q)) ts
    from_next =
        drop-cons ts (points_before counts q) nan (omega (arith, next_before, more_follow rows counts max ok p w.within lt))
        ∙ rw (point_is rows counts max ok q next_in, ← at)

    from_here : drop (points_before counts p) ts ≡ x.t ∷ y.t ∷ drop (suc (points_before counts q)) ts
    from_here =
        drop-cons ts (points_before counts p) nan (omega (arith, more_follow rows counts max ok p w.within lt))
        ∙ rw (point_is rows counts max ok p w.within, ← w.point, ← add-one, ← next_before, from_next)

    step_of : Stepped g far room (run s ps cs) x y (run s' ps' cs')
    step_of = rw e (stepped g far room (run s ps cs) x y w.kept w.coloured cy w.going (omega (arith, w.few, more_follow rows counts max ok p w.within lt, list_most rows counts max ok)))

    to_start : outcome g far room (run s ps cs) (x.t ∷ y.t ∷ drop (suc (points_before counts q)) ts) ≡ outcome g far room r₀ (drop 1 ts)
    to_start = ap (λ (l : List Float). outcome g far room (run s ps cs) l) (sym from_here) ∙ w.same

    pub next : s'.refusal ≡ 0 → length ps' ≡ length ps → length cs' ≡ length cs → Going g far room rows counts max r₀ ps' cs' s' q y
    next z lp lc =
        record {
          within = next_in;
          point = at;
          coloured = cy;
          kept = step_of.coloured z;
          going = z;
          few = omega (arith, w.few, step_of.tried, next_before);
          fitting = step_of.fitting w.fitting;
          places-length = lp ∙ w.places-length;
          colours-length = lc ∙ w.colours-length;
          same =
              ap (λ (l : List Float). outcome g far room (run s' ps' cs') l) from_next
              ∙ step_of.same z (drop (suc (points_before counts q)) ts) ∙ to_start;
        }

    pub stopped : (s'.refusal ≡ 0 → ⊥) → Thinned (outcome g far room r₀ (drop 1 ts)) room (run s' ps' cs')
    stopped nz =
        record {
          ends = record { refused = step_of.refused nz (drop (suc (points_before counts q)) ts) ∙ ap (λ (o : Outcome). o.refusal) to_start; same = λ z. absurd (nz z) };
          few = omega (arith, w.few, step_of.tried, more_follow rows counts max ok p w.within lt, list_most rows counts max ok);
          fitting = step_of.fitting w.fitting;
        }

  -- the last point is a stop
  pub ended : (r₀ : Run) (ps cs : List Float) (s : Progress) (p : RowPlace) (x : Point) → Going g far room rows counts max r₀ ps cs s p x → (p.row < 36 → ⊥)
      → (ps' cs' : List Float) (s' : Progress) → run s' ps' cs' ≡ emit_run room (run s ps cs) x
      → Thinned (outcome g far room r₀ (drop 1 ts)) room (run s' ps' cs')
  ended r₀ ps cs s p x w ge ps' cs' s' e =
      let n = before_end rows counts max ok p w.within ge in
      let one : drop (points_before counts p) ts ≡ x.t ∷ [] =
      drop-cons ts (points_before counts p) nan (omega (arith, n))
      ∙ rw (point_is rows counts max ok p w.within, ← w.point, drop_of_length-le ts {i = suc (points_before counts p)} (omega (arith, n))) in
      let o : outcome g far room (run s ps cs) (x.t ∷ []) ≡ outcome g far room r₀ (drop 1 ts) =
      ap (λ (l : List Float). outcome g far room (run s ps cs) l) (sym one) ∙ w.same in
      let m : Emitted g room (run s ps cs) x (run s' ps' cs') = emitted_as g room (run s ps cs) (run s' ps' cs') x e w.coloured in
      record {
        ends = rw (← o) (last_stop g far room (run s ps cs) (run s' ps' cs') x m);
        few = omega (arith, w.few, m.tried, n, list_most rows counts max ok);
        fitting = m.fitting w.fitting;
      }
