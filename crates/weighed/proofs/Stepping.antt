-- A step of the merge over a record and lent positions: what is left of them, and that what comes stays the same. Assumes nothing.
use mathlib.Core.Path.{◌≡◌, refl, sym, ap, ◌∙◌, subst}
use mathlib.Core.Bool.{Bool, true, false, not, ◌&&◌, true≢false}
use mathlib.Core.List.{List, [], ◌∷◌}
use Prim.Native.Nat.{ℕ, ◌+◌, ◌≤◌, ◌<◌}
use native.Mathlib.Numerals.{add-one}
use native.Mathlib.Omega.{arith}
use borrow.Author.Tests.{lt-ltb, ltb-true, ltb-false, not-true}
use lib.Dec.{ltb}
use lib.ListN.{length, get_or, set, drop, length-append, get_or-append, drop_of_length-le}
use lib.Seq.{drop-cons}
use lib.Ieee.{Float, nan, lt}
use Rattle.std.specs.Prelude.{Option, None, Some}
use Rattle.float.proofs.Flags.{both_l, both_r}
use Rattle.float.proofs.Order.{as_T, lt→le, not_lt_from_le}
use Rattle.places.specs.Places.{list_of, next_place, point_at, points_before, InRecord, Ready}
use Rattle.places.specs.declared.RowPlace.{RowPlace}
use Rattle.places.proofs.Following.{point_is, point_end, before_next, next_within, more_follow, before_end}
use Rattle.weighed.specs.Points.{Site, site, sampled_mark, inside}
use Rattle.weighed.specs.Gathered.{points_of, times_of, marks_of}
use Rattle.weighed.specs.inner.Joining.{own_left, handed, record_left, to_come, MayMerge, MergesOn}
use Rattle.weighed.specs.declared.neighbours.Next.{Next}
use Rattle.weighed.specs.declared.Merge.{Merge}
use Rattle.weighed.proofs.Coming.{HeadIn, HeadAfter, OwnAfter, pass_record, pass_own, take_own, take_record}

-- ---- what is left of a record
module _ (rows : List Float) (counts : List ℕ) (max : Float) (ok : Ready rows counts) (p : RowPlace) (w : InRecord counts p) where
  abbrev ts : List Float
  ts = points_of rows counts

  whole : length (list_of rows counts max) ≡ length ts + 1
  unfolding list_of
  whole = length-append ts (max ∷ [])

  abbrev left : List Float
  left = drop (points_before counts p) ts

  pub record_more : p.row < 36 → left ≡ point_at rows max p ∷ drop (points_before counts (next_place counts p)) ts
  unfolding list_of
  record_more h =
      let l : points_before counts p < length ts = omega (arith, whole, more_follow rows counts max ok p w h) in
      let e : get_or ts (points_before counts p) nan ≡ point_at rows max p =
      sym (get_or-append ts (max ∷ []) nan (points_before counts p) l) ∙ point_is rows counts max ok p w in
      drop-cons ts (points_before counts p) nan l ∙ rw (e, before_next rows counts max ok p w h, add-one)

  pub record_none : (p.row < 36 → ⊥) → left ≡ []
  record_none h = drop_of_length-le ts {i = points_before counts p} (omega (arith, whole, before_end rows counts max ok p w h))

then_yes : (b c : Bool) → (b && not c) ≡ false → b ≡ true → c ≡ true
then_yes b true h e = refl
then_yes b false h e = absurd (true≢false (rw e at h))

inside_below : (max last u : Float) → inside max last u ≡ true → lt max u ≡ false
unfolding inside
inside_below max last u h = not_lt_from_le max u (lt→le u max (as_T _ (both_r (lt last u) (lt u max) h)))

-- ---- a step, of the place p, the next n and the point taken last
module _ (ps rows : List Float) (counts : List ℕ) (max : Float) (s : Merge) (w : MayMerge ps rows counts max 10753 s) (t : Float) (et : t ≡ point_at rows max s.place) where
  abbrev points : List Float
  points = record_left ps rows counts max s.place

  abbrev owns : List Site
  owns = handed (own_left ps) s.next

  -- the record's next, if there is one
  more : s.place.row < 36 → points ≡ t ∷ record_left ps rows counts max (next_place counts s.place)
  more h = record_more rows counts max w.ready s.place w.placed h ∙ rw et

  none : 36 ≤ s.place.row → points ≡ []
  none h = record_none rows counts max w.ready s.place w.placed (λ k. absurd (omega arith))

  some_own : (n : Next) → s.next ≡ Some n → owns ≡ site n.t n.mark ∷ own_left ps n.with
  some_own n h = ap (handed (own_left ps)) h

  no_own : s.next ≡ None → owns ≡ []
  no_own h = ap (handed (own_left ps)) h

  -- the next of the others, if there is one, lies between, and is more than t
  abbrev pub Later : Option Next → Type 0
  Later None = Unit {0}
  Later (Some n) = (inside max s.last n.t ≡ true) × (lt t n.t ≡ true)

  pub later_some : (n : Next) → s.next ≡ Some n → (j : Bool) → j ≡ inside max s.last n.t → j ≡ true → lt t n.t ≡ true → Later s.next
  later_some n is j ej a b = subst (λ (o : Option Next). Later o) (sym is) (sym ej ∙ a, b)

  pub later_none : ((n : Next) → s.next ≡ Some n → ⊥) → Later s.next
  later_none h = go s.next h
    where
      go : (o : Option Next) → ((n : Next) → o ≡ Some n → ⊥) → Later o
      go None k = tt
      go (Some n) k = absurd (k n refl)

  at-end : 36 ≤ s.place.row → t ≡ max
  at-end h = et ∙ sym (point_end rows max s.place h)

  -- the record's next lies between or not
  module _ (i : Bool) (ei : i ≡ inside max s.last t) where
    -- it is passed over
    module _ (q : RowPlace) (eq : q ≡ next_place counts s.place) where
      next_left : s.place.row < 36 → points ≡ t ∷ record_left ps rows counts max q
      next_left h = more h ∙ rw (← eq)

      next_in : s.place.row < 36 → InRecord counts q
      next_in h = rw eq (next_within rows counts max w.ready s.place w.placed h)

      pub passed_record : (ts : List Float) (ms : List ℕ) → (ltb s.place.row 36 && not i) ≡ true
          → MergesOn ps rows counts max ts ms s ts ms (record { count = s.count; last = s.last; place = q; next = s.next })
      unfolding to_come times_of marks_of
      passed_record ts ms e =
          let h = ltb-true s.place.row 36 (both_l (ltb s.place.row 36) (not i) e) in
          let o : inside max s.last t ≡ false = sym ei ∙ not-true i (both_r (ltb s.place.row 36) (not i) e) in
          record {
            taken = [];
            same = pass_record max s.last t points (record_left ps rows counts max q) owns (next_left h) o;
            times = refl;
            marks = refl;
            many = omega arith;
            one = omega arith;
            less = omega (arith, ap length (next_left h));
            placed = next_in h;
          }

      -- it is taken
      module _ (a : (ltb s.place.row 36 && not i) ≡ false) (d : Later s.next) where
        -- the record has one left: past its end the next of the others would have been taken
        has_row : s.place.row < 36
        has_row = go (ltb s.place.row 36) refl s.next refl d
          where
            go : (r : Bool) → ltb s.place.row 36 ≡ r → (o : Option Next) → s.next ≡ o → Later o → s.place.row < 36
            go true e o k v = ltb-true s.place.row 36 e
            go false e (Some n) k v =
                let m : lt max n.t ≡ true = ap (λ (x : Float). lt x n.t) (sym (at-end (ltb-false s.place.row 36 e))) ∙ v.1 in
                absurd (true≢false (sym m ∙ inside_below max s.last n.t v.0))
            go false e None k v = absurd (omega (arith, w.some, ap length (none (ltb-false s.place.row 36 e)), ap length (no_own k)))

        own_after : OwnAfter max s.last t owns
        own_after = go s.next d
          where
            go : (o : Option Next) → Later o → OwnAfter max s.last t (handed (own_left ps) o)
            go (Some n) v = v
            go None v = tt

        pub took_record : (ts : List Float) (ms : List ℕ)
            → MergesOn ps rows counts max ts ms s (set ts s.count t) (set ms s.count sampled_mark) (record { count = s.count + 1; last = t; place = q; next = s.next })
        unfolding to_come times_of marks_of
        took_record ts ms =
            record {
              taken = site t sampled_mark ∷ [];
              same = take_record max s.last t points (record_left ps rows counts max q) owns (next_left has_row) (sym ei ∙ then_yes (ltb s.place.row 36) i a (lt-ltb s.place.row 36 has_row)) own_after;
              times = refl;
              marks = refl;
              many = omega arith;
              one = omega arith;
              less = omega (arith, ap length (next_left has_row));
              placed = next_in has_row;
            }

    -- the next of the others is passed over or taken
    module _ (a : (ltb s.place.row 36 && not i) ≡ false) (n : Next) (is : s.next ≡ Some n) (j : Bool) (ej : j ≡ inside max s.last n.t) (nx : Option Next) (en : own_left ps n.with ≡ handed (own_left ps) nx) where
      own_left_lem : owns ≡ site n.t n.mark ∷ handed (own_left ps) nx
      own_left_lem = some_own n is ∙ ap (λ (l : List Site). site n.t n.mark ∷ l) en

      -- the record's next lies between, if there is one
      head_in : HeadIn max s.last points
      head_in = go (ltb s.place.row 36) refl
        where
          go : (r : Bool) → ltb s.place.row 36 ≡ r → HeadIn max s.last points
          go true e = subst (HeadIn max s.last) (sym (more (ltb-true s.place.row 36 e))) (sym ei ∙ then_yes (ltb s.place.row 36) i a e)
          go false e = subst (HeadIn max s.last) (sym (none (ltb-false s.place.row 36 e))) tt

      pub passed_own : (ts : List Float) (ms : List ℕ) → j ≡ false
          → MergesOn ps rows counts max ts ms s ts ms (record { count = s.count; last = s.last; place = s.place; next = nx })
      unfolding to_come times_of marks_of
      passed_own ts ms e =
          let o : inside max s.last n.t ≡ false = sym ej ∙ e in
          record {
            taken = [];
            same = pass_own max s.last points (site n.t n.mark) owns (handed (own_left ps) nx) own_left_lem head_in o;
            times = refl;
            marks = refl;
            many = omega arith;
            one = omega arith;
            less = omega (arith, ap length own_left_lem);
            placed = w.placed;
          }

      module _ (b : j ≡ true) (d : lt t n.t ≡ false) where
        head_after : HeadAfter max n.t points
        head_after = go (ltb s.place.row 36) refl
          where
            go : (r : Bool) → ltb s.place.row 36 ≡ r → HeadAfter max n.t points
            go true e = subst (HeadAfter max n.t) (sym (more (ltb-true s.place.row 36 e))) d
            go false e = subst (HeadAfter max n.t) (sym (none (ltb-false s.place.row 36 e))) tt

        pub took_own : (ts : List Float) (ms : List ℕ)
            → MergesOn ps rows counts max ts ms s (set ts s.count n.t) (set ms s.count n.mark) (record { count = s.count + 1; last = n.t; place = s.place; next = nx })
        unfolding to_come times_of marks_of
        took_own ts ms =
            record {
              taken = site n.t n.mark ∷ [];
              same = take_own max s.last points (site n.t n.mark) owns (handed (own_left ps) nx) own_left_lem head_in head_after (sym ej ∙ b);
              times = refl;
              marks = refl;
              many = omega arith;
              one = omega arith;
              less = omega (arith, ap length own_left_lem);
              placed = w.placed;
            }
