-- The walk from a place to the next point kept: what is left of the list gives the same as all after the place. Assumes nothing.
use mathlib.Core.Path.{◌≡◌, refl, sym, ap, ◌∙◌}
use mathlib.Core.Bool.{true, false}
use mathlib.Core.List.{List, [], ◌∷◌}
use Prim.Native.Nat.{ℕ, suc, ◌+◌, ◌-◌, ◌≤◌, ◌<◌}
use native.Mathlib.Numerals.{add-one}
use native.Mathlib.Omega.{arith}
use lib.ListN.{length, drop, drop_of_length-le}
use lib.Seq.{drop-cons}
use lib.Ieee.{Float, nan}
use Rattle.sampling.specs.Midpoints.{Gradient, Far}
use Rattle.sampling.specs.inner.Steps.{Coloured, PointAt}
use Rattle.sampling.specs.declared.Point.{Point}
use Rattle.thinning.specs.Kept.{stays, weighs}
use Rattle.thinning.specs.Walk.{weigh_of}
use Rattle.thinning.specs.declared.Weighed.{Weighed}
use Rattle.thinning.proofs.Walks.{weigh_keeps, weigh_counts, weighs_one}
use Rattle.places.specs.Places.{list_of, next_place, point_at, points_before, InRecord, Ready}
use Rattle.places.specs.declared.RowPlace.{RowPlace}
use Rattle.places.proofs.Following.{list_most, point_is, before_next, next_within, more_follow, before_end}
use Rattle.next_stop.specs.First.{First, later, first_kept, places_on}
use Rattle.next_stop.specs.Step.{next, first_after, later_next}
use Rattle.next_stop.specs.inner.Steps.{FindsNext}

-- ---- the first point kept, by the fate of the first point
module _ (g : Gradient) (far : Far) (last x y : Float) (rest : List Float) where
  pub first_passed : stays g far last x y ≡ false → first_kept g far last (x ∷ y ∷ rest) ≡ later (weighs last x) (first_kept g far last (y ∷ rest))
  unfolding first_kept
  first_passed h = rw h

  pub first-kept : stays g far last x y ≡ true → first_kept g far last (x ∷ y ∷ rest) ≡ record { passed = 0; tried = weighs last x }
  unfolding first_kept
  first-kept h = rw h

pub first_last : (g : Gradient) (far : Far) (last x : Float) → first_kept g far last (x ∷ []) ≡ record { passed = 0; tried = 0 }
unfolding first_kept
first_last g far last x = refl

-- ---- the list from a place on
module _ (rows : List Float) (counts : List ℕ) (max : Float) (ok : Ready rows counts) (p : RowPlace) (w : InRecord counts p) where
  pub from_place : points_before counts p < length (list_of rows counts max)
      → drop (points_before counts p) (list_of rows counts max) ≡ point_at rows max p ∷ drop (suc (points_before counts p)) (list_of rows counts max)
  from_place h = drop-cons (list_of rows counts max) (points_before counts p) nan h ∙ rw (point_is rows counts max ok p w)

  pub from_last : (p.row < 36 → ⊥) → drop (points_before counts p) (list_of rows counts max) ≡ point_at rows max p ∷ []
  from_last ge =
      let n = before_end rows counts max ok p w ge in
      from_place (omega (arith, n)) ∙ rw (drop_of_length-le (list_of rows counts max) {i = suc (points_before counts p)} (omega (arith, n)))

module _ (g : Gradient) (far : Far) (rows : List Float) (counts : List ℕ) (max : Float) where
  -- the first point kept from a place on
  abbrev left : Float → RowPlace → First
  left last p = first_kept g far last (drop (points_before counts p) (list_of rows counts max))

  -- the walk goes from p₀, the place after `from`, whose point is in hand as the last one kept
  pub record Begun (from : RowPlace) (last : Point) (p₀ : RowPlace) : Type 0 where
    pub start : PointAt g (point_at rows max from) last
    pub there : places_on counts (left last.t p₀).passed p₀ ≡ (later_next g far rows counts max from).at
    pub weighed : (left last.t p₀).tried ≡ (later_next g far rows counts max from).tried

  pub record Walking (last : Point) (p₀ p : RowPlace) (x : Point) (tried : ℕ) : Type 0 where
    pub within : InRecord counts p
    pub coloured : Coloured g last
    pub point : PointAt g (point_at rows max p) x
    pub few : tried < points_before counts p
    pub there : places_on counts (left last.t p).passed p ≡ places_on counts (left last.t p₀).passed p₀
    pub weighed : tried + (left last.t p).tried ≡ (left last.t p₀).tried

  module _ (ok : Ready rows counts) where
    module _ (from : RowPlace) (last : Point) (p₀ : RowPlace) (w : InRecord counts from) (lt : from.row < 36) (e : p₀ ≡ next_place counts from) (a : PointAt g (point_at rows max from) last) where
      one_before : points_before counts p₀ ≡ points_before counts from + 1
      one_before = rw e (before_next rows counts max ok from w lt)

      pub begun : Begun from last p₀
      begun =
          let f : left last.t p₀ ≡ first_after g far rows counts max from = rw (one_before, a.0) in
          record {
            start = a;
            there = ap (λ (i : First). places_on counts i.passed p₀) f ∙ ap (places_on counts (first_after g far rows counts max from).passed) e;
            weighed = ap (λ (i : First). i.tried) f;
          }

      pub started : (x : Point) → PointAt g (point_at rows max p₀) x → Walking last p₀ p₀ x 0
      started x b =
          record {
            within = rw e (next_within rows counts max ok from w lt);
            coloured = a.1;
            point = b;
            few = omega (arith, one_before);
            there = refl;
            weighed = omega arith;
          }

    module _ (last : Point) (p₀ p : RowPlace) (x : Point) (tried : ℕ) (w : Walking last p₀ p x tried) where
      -- the answer where the first point kept is known
      found : (from : RowPlace) → Begun from last p₀ → (n m : ℕ) → left last.t p ≡ record { passed = 0; tried = n } → m ≡ tried + n → m ≤ 4608
          → FindsNext g far rows counts max from (record { point = x; last = last.t; place = p; tried = m })
      unfolding places_on
      found from b n m e f h =
          let here : p ≡ (later_next g far rows counts max from).at = sym (ap (λ (i : First). places_on counts i.passed p) e) ∙ w.there ∙ b.there in
          let count : m ≡ (later_next g far rows counts max from).tried = f ∙ sym (ap (λ (i : First). tried + i.tried) e) ∙ w.weighed ∙ b.weighed in
          record {
            stop =
                ap (λ (t : Float). next t p m) b.start.0
                ∙ ap (λ (q : RowPlace). next (point_at rows max from) q m) here
                ∙ ap (next (point_at rows max from) (later_next g far rows counts max from).at) count;
            few = h;
            point = w.point;
          }

      -- a point is weighed, the next one in hand
      module _ (lt : p.row < 36) (q : RowPlace) (y : Point) (eq : q ≡ next_place counts p) (at : PointAt g (point_at rows max q) y) {k : Weighed} (e : k ≡ weigh_of far last x y) where
        next_in : InRecord counts q
        next_in = rw eq (next_within rows counts max ok p w.within lt)

        next_before : points_before counts q ≡ points_before counts p + 1
        next_before = rw eq (before_next rows counts max ok p w.within lt)

        pub nearer : length (list_of rows counts max) - points_before counts q < length (list_of rows counts max) - points_before counts p
        nearer = omega (arith, next_before, more_follow rows counts max ok p w.within lt)

        abbrev after : List Float
        after = drop (suc (points_before counts q)) (list_of rows counts max)

        from_next : drop (points_before counts q) (list_of rows counts max) ≡ y.t ∷ after
        from_next =
            from_place rows counts max ok q next_in (omega (arith, next_before, more_follow rows counts max ok p w.within lt)) ∙ rw at.0

        from_here : drop (points_before counts p) (list_of rows counts max) ≡ x.t ∷ y.t ∷ after
        from_here =
            from_place rows counts max ok p w.within (omega (arith, more_follow rows counts max ok p w.within lt))
            ∙ rw (← w.point.0, ← add-one, ← next_before, from_next)

        keeps : k.kept ≡ stays g far last.t x.t y.t
        keeps = ap (λ (i : Weighed). i.kept) e ∙ weigh_keeps g far last x y w.coloured w.point.1 at.1

        counted : k.tried ≡ weighs last.t x.t
        counted = ap (λ (i : Weighed). i.tried) e ∙ weigh_counts g far last x y w.coloured w.point.1 at.1

        pub one_more : tried + k.tried ≤ 4608
        one_more =
            omega (arith, w.few, counted, weighs_one last.t x.t, more_follow rows counts max ok p w.within lt, list_most rows counts max ok)

        pub kept_here : (from : RowPlace) → Begun from last p₀ → k.kept ≡ true
            → FindsNext g far rows counts max from (record { point = x; last = last.t; place = p; tried = tried + k.tried })
        kept_here from b h =
            found from b (weighs last.t x.t) (tried + k.tried)
            (ap (first_kept g far last.t) from_here ∙ first-kept g far last.t x.t y.t after (sym keeps ∙ h)) (omega (arith, counted)) one_more

        pub walked_on : k.kept ≡ false → Walking last p₀ q y (tried + k.tried)
        unfolding places_on
        walked_on h =
            let passed : left last.t p ≡ later (weighs last.t x.t) (left last.t q) =
            ap (first_kept g far last.t) from_here ∙ first_passed g far last.t x.t y.t after (sym keeps ∙ h)
            ∙ ap (λ (l : List Float). later (weighs last.t x.t) (first_kept g far last.t l)) (sym from_next) in
            record {
              within = next_in;
              coloured = w.coloured;
              point = at;
              few = omega (arith, w.few, counted, weighs_one last.t x.t, next_before);
              there = ap (places_on counts (left last.t q).passed) eq ∙ sym (ap (λ (i : First). places_on counts i.passed p) passed) ∙ w.there;
              weighed = omega (arith, counted, ap (λ (i : First). i.tried) passed, w.weighed);
            }

      -- max is kept
      pub at_last : (from : RowPlace) → Begun from last p₀ → 36 ≤ p.row → FindsNext g far rows counts max from (record { point = x; last = last.t; place = p; tried = tried })
      at_last from b h =
          let ge : p.row < 36 → ⊥ = λ k. absurd (omega (arith, h, k)) in
          found from b 0 tried (ap (first_kept g far last.t) (from_last rows counts max ok p w.within ge) ∙ first_last g far last.t (point_at rows max p)) (omega arith)
          (omega (arith, w.few, before_end rows counts max ok p w.within ge, list_most rows counts max ok))
