-- Points along a checked ramp, with drawn pairs in hand: the colour is the ramp's, and the pair of the point is in hand after it. Assumes nothing.
use mathlib.Core.Path.{◌≡◌, refl, sym, ap, ap₂, ◌∙◌}
use mathlib.Core.Bool.{Bool, true, false, cond}
use mathlib.Core.List.{List}
use Prim.Native.Nat.{ℕ, ◌≤◌}
use native.Mathlib.Omega.{arith}
use lib.ListN.{length}
use lib.Ieee.{Float}
use Rattle.blend.specs.declared.Rgba.{Rgba}
use Rattle.stops.specs.Lent.{Ramp, ramp_of}
use Rattle.stops.specs.Near.{place_near, pair_or, segment_for, segment_in}
use Rattle.stops.specs.Pair.{colour_in}
use Rattle.stops.specs.Place.{place_of}
use Rattle.stops.specs.Segments.{is_catmull_rom}
use Rattle.stops.specs.declared.Checked.TheVariants.{Fine}
use Rattle.stops.specs.declared.Kind.{Kind}
use Rattle.stops.specs.declared.Kind.TheVariants.{CatmullRom}
use Rattle.stops.specs.declared.Place.{Place}
use Rattle.stops.specs.declared.Place.TheVariants.{End, Nowhere, Between}
use Rattle.stops.proofs.Choice.{rising_numbers}
use Rattle.stops.proofs.Nearby.{near_same, segment_colour, catmull}
use Rattle.stops.proofs.Valid.{pair_inside}
use Rattle.gradient.specs.Gimp.{gimp_colour}
use Rattle.gradient.specs.Ramp.{is_gimp, check_of, colour_of}
use Rattle.gradient.proofs.Valid.{valid}
use Rattle.sampling.specs.Segments.{Drawn, curve_of, redrawn, point_of, point_near, Draws, drawn_along, point_along, GoesAlong}
use Rattle.sampling.specs.inner.Steps.{Coloured, PointAt, DrawnAt, Carrying, DrawnBetween}
use Rattle.sampling.specs.declared.Point.{Point}
use Rattle.sampling.proofs.Drawing.{redrawn_own, curve_own}
use Rattle.sampling.proofs.Nearness.{near_point}

-- ---- what the functions give
module _ (kind : Kind) (ps cs : List Float) (ks : List ℕ) (t : Float) (i : ℕ) (s : Drawn) {d : Bool} (m : d ≡ is_catmull_rom kind) where
  pub along_plain : {r : Point} → d ≡ false → r ≡ point_near (ramp_of kind ps cs ks) t i → GoesAlong (ramp_of kind ps cs ks) t i s s r
  unfolding drawn_along point_along
  along_plain e f = record { drawn = rw (← m, e); point = f ∙ rw (← m, e) }

  pub along_drawn : {place : Place} {s' : Drawn} {r : Point} → d ≡ true → place ≡ place_near ps t i → Draws ps cs t place i s s' r → GoesAlong (ramp_of kind ps cs ks) t i s s' r
  unfolding drawn_along point_along
  along_drawn e near w = record { drawn = w.drawn ∙ rw (← m, e, near); point = w.point ∙ rw (← m, e, near) }

pub draws_is : (ps cs : List Float) (t : Float) (place : Place) (i : ℕ) (s : Drawn) {k : ℕ} {s' : Drawn} {curve : List (List Float)} {c : Rgba}
    → k ≡ pair_or place 0 → s' ≡ redrawn cs (length ps) i s 0 s k → curve ≡ curve_of s' → c ≡ segment_in ps cs curve t place → Draws ps cs t place i s s' (point_of c t k)
draws_is ps cs t place i s pair drawn bent e =
    let f = drawn ∙ ap (redrawn cs (length ps) i s 0 s) pair in
    record { drawn = f; point = ap₂ (λ (x : Rgba) (j : ℕ). point_of x t j) (e ∙ ap (λ (x : List (List Float)). segment_in ps cs x t place) (bent ∙ ap curve_of f)) pair }

-- ---- of a checked Catmull-Rom ramp
module _ (ramp : Ramp) (fine : check_of ramp ≡ Fine) (curved : is_catmull_rom ramp.kind ≡ true) where
  abbrev ps : List Float
  ps = ramp.positions

  abbrev cs : List Float
  cs = ramp.channels

  no_gimp : is_gimp ramp.kind ≡ false
  no_gimp = ap is_gimp (catmull ramp.kind curved)

  by_own : (t : Float) (place : Place) (s : Drawn) → ((k : ℕ) → place ≡ Between k → 1 ≤ k) → DrawnAt ramp (pair_or place 0) s
      → segment_in ps cs (curve_of s) t place ≡ segment_in ps cs (segment_for cs (length ps) (pair_or place 0)) t place
  unfolding segment_in
  by_own t (End i) s some own = refl
  by_own t Nowhere s some own = refl
  by_own t (Between k) s some own = ap (λ (x : List (List Float)). segment_in ps cs x t (Between k)) (ap curve_of (own (some k refl)) ∙ curve_own cs (length ps) k)

  -- the colour by the pair of the point, drawn, is the ramp's
  curve_colour : (t : Float) {c : Rgba} {place : Place} {k : ℕ} {own : Drawn} {curve : List (List Float)} → place ≡ place_of ps t → k ≡ pair_or place 0
      → DrawnAt ramp k own → curve ≡ curve_of own → c ≡ segment_in ps cs curve t place → c ≡ colour_of ramp t
  unfolding colour_of
  curve_colour t {c} {place} {k} {own} found pair has bent e =
      let ok = valid ramp no_gimp fine in
      let inside : (j : ℕ) → place ≡ Between j → 1 ≤ j = λ j z. (pair_inside ps ok.sized.least (rising_numbers ps ok.rising) t j (sym found ∙ z)).0 in
      let here : DrawnAt ramp (pair_or place 0) own = rw (← pair) has in
      e
      ∙ ap (λ (x : List (List Float)). segment_in ps cs x t place) bent
      ∙ by_own t place own inside here
      ∙ segment_colour ps cs t place 0 refl
      ∙ ap (colour_in CatmullRom ps cs t) found
      ∙ ap (λ (kind : Kind). cond (is_gimp kind) (gimp_colour ps cs ramp.codes t) (colour_in kind ps cs t (place_of ps t))) (sym (catmull ramp.kind curved))

  found_near : (t : Float) (guess : ℕ) → place_near ps t guess ≡ place_of ps t
  found_near t guess = let ok = valid ramp no_gimp fine in near_same ps ok.sized.least ok.rising t guess

  -- between two ends whose pairs are drawn
  module _ (i : ℕ) (s : Drawn) (j : ℕ) (u : Drawn) (Has_left : DrawnAt ramp i s) (Has_right : DrawnAt ramp j u) {k : ℕ} {own : Drawn} (o : own ≡ redrawn cs (length ps) i s j u k) where
    pub own_drawn : DrawnAt ramp k own
    own_drawn some = o ∙ redrawn_own cs (length ps) i s j u k Has_left Has_right some

    pub own_colour : (t : Float) {place : Place} {c : Rgba} {curve : List (List Float)} → place ≡ place_near ps t i → k ≡ pair_or place 0 → curve ≡ curve_of own → c ≡ segment_in ps cs curve t place → c ≡ colour_of ramp t
    own_colour t near pair bent e = curve_colour t (near ∙ found_near t i) pair own_drawn bent e

  -- a point drawn at its place
  pub drawn_point : (t : Float) (i : ℕ) {place : Place} {s s' : Drawn} {r : Point} → DrawnAt ramp i s → place ≡ place_of ps t → Draws ps cs t place i s s' r
      → PointAt (colour_of ramp) t r × DrawnAt ramp r.pair s'
  drawn_point t i {place} {s} {s'} {r} has found w =
      let own = own_drawn i s 0 s has (λ l. absurd (omega (arith, l))) {k = pair_or place 0} refl in
      let at = ap (λ (x : Point). x.t) w.point in
      let pair = ap (λ (x : Point). x.pair) w.point in (
        (at, ap (λ (x : Point). x.colour) w.point ∙ curve_colour t found refl own refl refl ∙ ap (colour_of ramp) (sym at)),
        rw (pair, w.drawn) own,
      )

-- ---- of any checked ramp: the point goes along
module _ (ramp : Ramp) (fine : check_of ramp ≡ Fine) (t : Float) (i : ℕ) {s s' : Drawn} {r : Point} (has : Carrying ramp i s) (w : GoesAlong ramp t i s s' r) where
  plain : is_catmull_rom ramp.kind ≡ false → r ≡ point_near ramp t i
  unfolding point_along
  plain e = w.point ∙ simp e

  drawing : is_catmull_rom ramp.kind ≡ true → Draws ramp.positions ramp.channels t (place_near ramp.positions t i) i s s' r
  unfolding point_along drawn_along
  drawing e = record { drawn = w.drawn ∙ simp e; point = w.point ∙ simp e }

  curve_point : (e : is_catmull_rom ramp.kind ≡ true) → PointAt (colour_of ramp) t r × DrawnAt ramp r.pair s'
  curve_point e = drawn_point ramp fine e t i (has e) (found_near ramp fine e t i) (drawing e)

  pub along_point : PointAt (colour_of ramp) t r
  along_point = go (is_catmull_rom ramp.kind) refl
    where
      go : (b : Bool) → is_catmull_rom ramp.kind ≡ b → PointAt (colour_of ramp) t r
      go true e = (curve_point e).0
      go false e = near_point ramp fine r t i (plain e)

  pub along_carries : Carrying ramp r.pair s'
  along_carries curved = (curve_point curved).1

-- ---- a stretch: both halves of it
module _ (ramp : Ramp) (p q : Point) (s u : Drawn) (w : DrawnBetween ramp p q s u) (m : Point) {own : Drawn} (c : Coloured (colour_of ramp) m) (h : Carrying ramp m.pair own) where
  pub left_half : DrawnBetween ramp p m s own
  left_half = record { between = record { fine = w.between.fine; left = w.between.left; right = c }; left_drawn = w.left_drawn; right_drawn = h }

  pub right_half : DrawnBetween ramp m q own u
  right_half = record { between = record { fine = w.between.fine; left = c; right = w.between.right }; left_drawn = h; right_drawn = w.right_drawn }
