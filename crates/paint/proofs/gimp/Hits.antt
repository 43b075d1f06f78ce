-- A GIMP segment held while points lie in it: its colours, and which segment is found: one of those that there are; and where the positions rise, the one that t lies inside. Assumes nothing.
use mathlib.Core.Path.{◌≡◌, refl, sym, ◌∙◌, ap, subst}
use mathlib.Core.Bool.{Bool, true, false, true≢false}
use mathlib.Core.List.{List}
use Prim.Native.Nat.{ℕ, ◌≤◌, ◌<◌}
use native.Mathlib.Nat.{lt_of_not-le}
use native.Mathlib.Decide.{dec_le}
use native.Mathlib.Omega.{arith}
use lib.Dec.{T}
use lib.ListN.{length, get_or}
use lib.Ieee.{Float, nan, lt}
use Rattle.float.proofs.Flags.{both_l, both_r}
use Rattle.float.proofs.Order.{lt_irrefl}
use Rattle.blend.specs.declared.Rgba.{Rgba}
use Rattle.gradient.specs.Gimp.{segments, left_at, right_at, segment_found, blending_at, colouring_at, is_costly, gimp_segment, along, blended, off_domain, gimp_colour}
use Rattle.gradient.proofs.GimpLaws.{inside, segment_coloured}
use Rattle.gradient.proofs.GimpSearch.{found_inside, strict_hit, in_domain}
use Rattle.gradient.specs.declared.gimp.Segment.{Segment}
use Rattle.paint.specs.inner.Segments.{Orderly, strictly_inside, Peeked}

-- ---- the segment of t
module _ (ps : List Float) (t : Float) where
  pub found_here : 1 ≤ segments ps → {i : ℕ} → i ≡ segment_found ps t → i < segments ps
  found_here h e = subst (λ (n : ℕ). n < segments ps) (sym e) (found_inside ps t h)

  pub hit : Orderly ps → (i : ℕ) → i < segments ps → {b : Bool} → b ≡ strictly_inside (left_at ps i) (right_at ps i) t → b ≡ true → i ≡ segment_found ps t
  hit o i l e h =
      let both = sym e ∙ h in
      sym (strict_hit ps t o.rising i l (subst T (sym (both_l (lt (left_at ps i) t) (lt t (right_at ps i)) both)) tt) (subst T (sym (both_r (lt (left_at ps i) t) (lt t (right_at ps i)) both)) tt))

-- there is a point i, in the domain, and its segment is s
pub record Lies (ps ts : List Float) (s i : ℕ) : Type 0 where
  pub there : i < length ts
  pub found : s ≡ segment_found ps (get_or ts i nan)
  pub on : off_domain (get_or ts i nan) ≡ false

-- ---- a segment held
module _ (ps cs : List Float) (ks : List ℕ) (s : ℕ) {g : Segment} (held : g ≡ gimp_segment ps cs ks s) where
  pub shaded : (ts : List Float) (i : ℕ) {pivot place : Float} {z : Rgba} → Lies ps ts s i → pivot ≡ along g.left g.right g.middle → place ≡ along g.left g.right (get_or ts i nan) → z ≡ blended g pivot place → z ≡ gimp_colour ps cs ks (get_or ts i nan)
  shaded ts i w m f e = let t = get_or ts i nan in inside ps cs ks t refl w.on w.found held (segment_coloured g t m f e)

  pub costly_so : {b : Bool} → is_costly (blending_at ks s) (colouring_at ks s) ≡ b → is_costly g.blending g.colouring ≡ b
  unfolding gimp_segment
  costly_so h = ap (λ (x : Segment). is_costly x.blending x.colouring) held ∙ h

  -- what lies strictly inside is a point before the end, since the left end does not
  module _ (ts : List Float) (j end : ℕ) {t : Float} (peeked : Peeked ts j end g.left t) {b : Bool} (e : b ≡ strictly_inside g.left g.right t) (inner : b ≡ true) where
    past_left : lt g.left t ≡ true
    past_left = both_l (lt g.left t) (lt t g.right) (sym e ∙ inner)

    pub before_end : j < end
    before_end = go (dec_le end j)
      where
        go : Dec (end ≤ j) → j < end
        go (yes l) = absurd (true≢false (sym past_left ∙ ap (λ (x : Float). lt g.left x) (peeked.past l) ∙ lt_irrefl g.left))
        go (no f) = lt_of_not-le f

    pub lies_on : (j < end → Orderly ps) → s < segments ps → end ≤ length ts → Lies ps ts s j
    unfolding gimp_segment
    lies_on o l n =
        let here = before_end in
        let u = get_or ts j nan in
        let is : t ≡ u = peeked.here here in
        let past : T (lt (left_at ps s) u) = subst (λ (x : Float). T (lt (left_at ps s) x)) is (subst (λ (x : Segment). T (lt x.left t)) held (subst T (sym past_left) tt)) in
        let before : T (lt u (right_at ps s)) = subst (λ (x : Float). T (lt x (right_at ps s))) is (subst (λ (x : Segment). T (lt t x.right)) held (subst T (sym (both_r (lt g.left t) (lt t g.right) (sym e ∙ inner))) tt)) in
        let w = o here in
        record {
          there = omega arith;
          found = sym (strict_hit ps u w.rising s l past before);
          on = in_domain ps u w.rising s l past before w.low w.high;
        }
