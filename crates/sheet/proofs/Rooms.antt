-- How much of what is lent is the ramp, whether a stop more has room, and an edit made in place. Assumes nothing.
use mathlib.Core.Path.{◌≡◌, refl, ◌∙◌, subst}
use mathlib.Core.Bool.{Bool, true, false, cond, ◌&&◌}
use mathlib.Core.List.{List, [], ◌∷◌}
use Prim.Native.Nat.{ℕ, ◌+◌, ◌-◌, ◌*◌, ◌≤◌, ◌<◌}
use native.Mathlib.Omega.{arith}
use borrow.Author.Tests.{leb-true, ltb-true}
use lib.Dec.{leb, ltb}
use lib.ListN.{length, set, take}
use lib.Seq.{sets}
use lib.Ieee.{Float}
use Rattle.refusals.specs.Limits.{most_stops}
use Rattle.float.proofs.Flags.{both_l, both_r}
use Rattle.blend.specs.declared.Rgba.{Rgba}
use Rattle.blend.specs.Channels.{channels_of}
use Rattle.stops.specs.declared.Kind.{Kind}
use Rattle.refresh.specs.editing.Edited.{spliced, stops_after}
use Rattle.refresh.specs.declared.editing.Edit.{Edit}
use Rattle.refresh.specs.declared.editing.Edit.TheVariants.{Colour, Move, Add, Remove}
use Rattle.sheet.specs.Room.{positions_for, channels_for, stops_fit, room_fits, fitted}
use Rattle.sheet.specs.inner.Making.{MayMake, Makes}
use Rattle.sheet.proofs.Gaps.{replaced, recoloured, unchanged}

-- ---- so many stops
module _ (kind : Kind) (n positions channels : ℕ) where
  pub record Fit : Type 0 where
    pub most : n ≤ most_stops
    pub positions_there : positions_for kind n ≤ positions
    pub channels_there : channels_for kind n ≤ channels

  pub fit_is : stops_fit kind n positions channels ≡ true → Fit
  unfolding stops_fit
  fit_is h =
      let a = leb n most_stops in
      let b = leb (positions_for kind n) positions in
      let c = leb (channels_for kind n) channels in
      let u = both_r a (b && c) h in
      record { most = leb-true n most_stops (both_l a (b && c) h); positions_there = leb-true _ positions (both_l b c u); channels_there = leb-true _ channels (both_r b c u) }

  -- as many as were counted are lent
  module _ (fits : stops_fit kind n positions channels ≡ true) where
    pub positions_held : {p : ℕ} → p ≡ positions_for kind n → p ≤ positions
    positions_held is = omega (arith, (fit_is fits).positions_there, is)

    pub channels_held : {c : ℕ} → c ≡ channels_for kind n → c ≤ channels
    channels_held is = omega (arith, (fit_is fits).channels_there, is)

-- ---- a stop more
module _ (n positions channels : ℕ) where
  pub room_is : room_fits n positions channels ≡ true → (n + 1 ≤ positions) × (4 * n + 4 ≤ channels)
  unfolding room_fits
  room_is h =
      let a = ltb n positions in
      let b = leb (4 * n + 4) channels in
      let l : n < positions = ltb-true n positions (both_l a b h) in
      (omega arith, leb-true (4 * n + 4) channels (both_r a b h))

  -- what an edit that is fitted leaves has room
  pub fitted_fits : (e : Edit) → n ≤ positions → 4 * n ≤ channels → (stops_after n (fitted n positions channels e) ≤ positions) × (4 * stops_after n (fitted n positions channels e) ≤ channels)
  fitted_fits (Colour k c) h i = (h, i)
  fitted_fits (Move k p) h i = (h, i)
  fitted_fits (Remove k) h i = (omega arith, omega arith)
  fitted_fits (Add k p c) h i = go (room_fits n positions channels) refl
    where
      go : (b : Bool) → room_fits n positions channels ≡ b → (stops_after n (cond b (Add k p c) (Remove 0)) ≤ positions) × (4 * stops_after n (cond b (Add k p c) (Remove 0)) ≤ channels)
      go true e = let r = room_is e in (r.0, omega (arith, r.1))
      go false e = (omega arith, omega arith)

-- ---- an edit made in place
module _ (ps cs : List Float) (n : ℕ) (e : Edit) (may : MayMake ps cs n e) where
  module _ (k : ℕ) (c : Rgba) (is : e ≡ Colour k c) where
    colour_may : MayMake ps cs n (Colour k c)
    colour_may = subst (MayMake ps cs n) is may

    pub make_colour : (cs' : List Float) → cs' ≡ sets cs (4 * k) (channels_of c) → Makes ps cs n e ps cs' n
    make_colour cs' w =
        let m = colour_may in
        rw is (record { positions = unchanged ps n m.positions_fit_before; channels = w ∙ recoloured cs (4 * n) k c (omega (arith, m.there)) m.channels_fit_before; stops = refl })

    pub colour_there : 4 * k ≤ 8192
    unfolding most_stops
    colour_there = let m = colour_may in omega (arith, m.there, m.most)

  module _ (k : ℕ) (p : Float) (is : e ≡ Move k p) where
    pub make_move : (ps' : List Float) → ps' ≡ set ps k p → Makes ps cs n e ps' cs n
    make_move ps' w =
        let m : MayMake ps cs n (Move k p) = subst (MayMake ps cs n) is may in
        rw is (record { positions = w ∙ replaced ps n k 1 (p ∷ []) m.there m.positions_fit_before refl; channels = unchanged cs (4 * n) m.channels_fit_before; stops = refl })

  module _ (k : ℕ) (p : Float) (c : Rgba) (is : e ≡ Add k p c) where
    pub may_insert : (k ≤ n) × ((n + 1 ≤ length ps) × (4 * n + 4 ≤ length cs))
    may_insert =
        let m : MayMake ps cs n (Add k p c) = subst (MayMake ps cs n) is may in
        let a = m.there in
        let b = m.positions_fit_after in
        let d = m.channels_fit_after in
        (omega arith, (omega arith, omega arith))

    pub make_add : (ps' cs' : List Float) (r : ℕ) → ps' ≡ sets ps 0 (spliced (take n ps) k 0 (p ∷ [])) → cs' ≡ sets cs 0 (spliced (take (4 * n) cs) (4 * k) 0 (channels_of c)) → r ≡ n + 1 → Makes ps cs n e ps' cs' r
    make_add ps' cs' r v w s = rw is (record { positions = v; channels = w; stops = s })

  module _ (k : ℕ) (is : e ≡ Remove k) where
    pub may_remove : (k + 1 ≤ n) × ((n ≤ length ps) × (4 * n ≤ length cs))
    may_remove =
        let m : MayMake ps cs n (Remove k) = subst (MayMake ps cs n) is may in
        (m.there, (m.positions_fit_before, m.channels_fit_before))

    pub make_remove : (ps' cs' : List Float) (r : ℕ) → ps' ≡ sets ps 0 (spliced (take n ps) k 1 []) → cs' ≡ sets cs 0 (spliced (take (4 * n) cs) (4 * k) 4 []) → r ≡ n - 1 → Makes ps cs n e ps' cs' r
    make_remove ps' cs' r v w s = rw is (record { positions = v; channels = w; stops = s })
