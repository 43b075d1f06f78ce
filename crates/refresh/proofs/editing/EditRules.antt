-- The refusals of an edit, test by test, and what an edit that passes tells. Assumes nothing.
use mathlib.Core.Path.{◌≡◌, refl}
use mathlib.Core.Bool.{Bool, true, false, cond, ◌&&◌, ◌||◌}
use mathlib.Core.List.{List}
use Prim.Native.Nat.{ℕ, ◌+◌, ◌-◌, ◌≤◌, ◌<◌}
use native.Mathlib.Omega.{arith}
use borrow.Author.Tests.{lt-ltb, leb-true, ltb-true}
use lib.Dec.{leb, ltb}
use lib.ListN.{length}
use lib.Ieee.{Float, lt}
use lib.Ieee.Scale.{finite}
use Rattle.refusals.specs.Refusals.{misshapen, falling}
use Rattle.refusals.specs.Limits.{most_stops}
use Rattle.float.proofs.Flags.{both_l, both_r}
use Rattle.blend.specs.declared.Rgba.{Rgba}
use Rattle.stops.specs.Stops.{pos_at, finite_rgba}
use Rattle.stops.specs.declared.Kind.{Kind}
use Rattle.stops.specs.declared.Checked.{Checked}
use Rattle.stops.specs.declared.Checked.TheVariants as checked
use Rattle.refresh.specs.editing.Rules.{refreshable, movable, is_inner, is_next, order_check, six_unless, edit_allowed}
use Rattle.refresh.specs.declared.editing.Edit.TheVariants.{Colour, Move, Add, Remove}

-- ---- the place
module _ (n k : ℕ) where
  pub inner_is : is_inner n k ≡ true → (1 ≤ k) × (k + 1 < n)
  unfolding is_inner
  inner_is h = (leb-true 1 k (both_l (leb 1 k) (ltb (k + 1) n) h), ltb-true (k + 1) n (both_r (leb 1 k) (ltb (k + 1) n) h))

  pub next_is : is_next n k ≡ true → (1 ≤ k) × (k < n)
  unfolding is_next
  next_is h = (leb-true 1 k (both_l (leb 1 k) (ltb k n) h), ltb-true k n (both_r (leb 1 k) (ltb k n) h))

-- ---- a change of colour that may be made
pub colour_fine : (kind : Kind) (ps : List Float) (k : ℕ) (colour : Rgba) → refreshable kind ≡ true → k < length ps → finite_rgba colour ≡ true → checked.Fine ≡ edit_allowed kind ps (Colour k colour)
unfolding edit_allowed
colour_fine kind ps k colour ok there h = rw (ok, lt-ltb k (length ps) there, h)

-- ---- what an edit that passes tells
refused : {n : ℕ} → checked.Refused n ≡ checked.Fine → ⊥
refused h = let z : ◌≡◌ {A = ℕ} 0 1 = cc in omega arith

sixth_passes : (b : Bool) (after : Checked) → six_unless b after ≡ checked.Fine → (b ≡ true) × (after ≡ checked.Fine)
sixth_passes true after h = (refl, h)
sixth_passes false after h = absurd (refused h)

room_passes : (b : Bool) (after : Checked) → cond b after (checked.Refused misshapen) ≡ checked.Fine → (b ≡ true) × (after ≡ checked.Fine)
room_passes true after h = (refl, h)
room_passes false after h = absurd (refused h)

order_passes : (a b : Bool) → cond (a || b) (checked.Refused falling) checked.Fine ≡ checked.Fine → (a ≡ false) × (b ≡ false)
order_passes true b h = absurd (refused h)
order_passes false true h = absurd (refused h)
order_passes false false h = (refl, refl)

pub record Recolours (kind : Kind) (ps : List Float) (k : ℕ) (colour : Rgba) : Type 0 where
  pub stops : refreshable kind ≡ true
  pub there : k < length ps
  pub number : finite_rgba colour ≡ true

-- a position that may stand between stops i and j
pub record Fits (ps : List Float) (i j : ℕ) (p : Float) : Type 0 where
  pub number : finite p ≡ true
  pub above : lt p (pos_at ps i) ≡ false
  pub below : lt (pos_at ps j) p ≡ false

fits_is : (ps : List Float) (i j : ℕ) (p : Float) → finite p ≡ true → order_check ps i j p ≡ checked.Fine → Fits ps i j p
unfolding order_check
fits_is ps i j p f h = let o = order_passes (lt p (pos_at ps i)) (lt (pos_at ps j) p) h in record { number = f; above = o.0; below = o.1 }

module _ (kind : Kind) (ps : List Float) (k : ℕ) where
  pub colour_passes : (colour : Rgba) → edit_allowed kind ps (Colour k colour) ≡ checked.Fine → Recolours kind ps k colour
  unfolding edit_allowed
  colour_passes colour h =
      let a = refreshable kind in
      let b = ltb k (length ps) in
      let c = finite_rgba colour in
      let t = (sixth_passes (a && (b && c)) checked.Fine h).0 in
      let u = both_r a (b && c) t in
      record { stops = both_l a (b && c) t; there = ltb-true k (length ps) (both_l b c u); number = both_r b c u }

  pub record Moves (p : Float) : Type 0 where
    pub straight : movable kind ≡ true
    pub inner : (1 ≤ k) × (k + 1 < length ps)
    pub fits : Fits ps (k - 1) (k + 1) p

  pub move_passes : (p : Float) → edit_allowed kind ps (Move k p) ≡ checked.Fine → Moves p
  unfolding edit_allowed
  move_passes p h =
      let a = movable kind in
      let b = is_inner (length ps) k in
      let c = finite p in
      let t = sixth_passes (a && (b && c)) (order_check ps (k - 1) (k + 1) p) h in
      let u = both_r a (b && c) t.0 in
      record { straight = both_l a (b && c) t.0; inner = inner_is (length ps) k (both_l b c u); fits = fits_is ps (k - 1) (k + 1) p (both_r b c u) t.1 }

  pub record Adds (p : Float) (colour : Rgba) : Type 0 where
    pub straight : movable kind ≡ true
    pub next : (1 ≤ k) × (k < length ps)
    pub fits : Fits ps (k - 1) k p
    pub numbers : finite_rgba colour ≡ true
    pub room : length ps < most_stops

  pub add_passes : (p : Float) (colour : Rgba) → edit_allowed kind ps (Add k p colour) ≡ checked.Fine → Adds p colour
  unfolding edit_allowed
  add_passes p colour h =
      let a = movable kind in
      let b = is_next (length ps) k in
      let c = finite p in
      let d = finite_rgba colour in
      let e = ltb (length ps) most_stops in
      let t = sixth_passes (a && (b && (c && d))) (cond e (order_check ps (k - 1) k p) (checked.Refused misshapen)) h in
      let u = both_r a (b && (c && d)) t.0 in
      let v = both_r b (c && d) u in
      let r = room_passes e (order_check ps (k - 1) k p) t.1 in
      record {
        straight = both_l a (b && (c && d)) t.0;
        next = next_is (length ps) k (both_l b (c && d) u);
        fits = fits_is ps (k - 1) k p (both_l c d v) r.1;
        numbers = both_r c d v;
        room = ltb-true (length ps) most_stops r.0;
      }

  pub record Removes : Type 0 where
    pub straight : movable kind ≡ true
    pub inner : (1 ≤ k) × (k + 1 < length ps)

  pub remove_passes : edit_allowed kind ps (Remove k) ≡ checked.Fine → Removes
  unfolding edit_allowed
  remove_passes h =
      let a = movable kind in
      let b = is_inner (length ps) k in
      let t = (sixth_passes (a && b) checked.Fine h).0 in
      record { straight = both_l a b t; inner = inner_is (length ps) k (both_r a b t) }
