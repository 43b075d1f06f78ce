-- `sharp::build` meets its contract: each answer follows from what the calls before it ensure; only past the last test are the outputs written. Assumes nothing.
use mathlib.Core.Path.{◌≡◌, refl, sym, ◌∙◌, ap}
use mathlib.Core.Bool.{Bool, true}
use mathlib.Core.List.{List, ◌++◌}
use Prim.Native.Nat.{ℕ, ◌*◌, ◌≤◌}
use native.Mathlib.Omega.{arith}
use lib.ListN.{length, take, drop, length-take}
use lib.Ieee.{Float, inf}
use Rattle.float.proofs.Flags.{failed, passed}
use Rattle.stops.specs.Stops.{steady}
use Rattle.sharp_ramp.specs.Sharp.{sharp_positions, sharp_channels, bands}
use Rattle.sharp_ramp.proofs.Laws.{builds, few, room, build_domain, build_fit, build_room, build_finite, build_stops, length_positions, length_channels, longer, after_refused, after_stops}
use Rattle.sharp_ramp.proofs.build.Goals as goal

-- the positions that are built aside: how many they are, and how they are judged
module _ (min max s : Float) (n : ℕ) (aside : List Float) (e : take (2 * n) aside ≡ sharp_positions min max s n) where
  many : 2 * n ≡ length (take (2 * n) aside)
  many = sym (ap length e ∙ length_positions min max s n)

  long_enough : 2 * n ≤ length aside
  long_enough = longer (2 * n) aside (take (2 * n) aside) refl (sym many)

  judged : {t : Bool} → t ≡ steady max (inf true) (take (2 * n) aside) → t ≡ steady max (inf true) (sharp_positions min max s n)
  judged h = h ∙ ap (steady max (inf true)) e

taken : (k : ℕ) (l : List Float) → k ≤ length l → k ≡ length (take k l)
taken k l h = omega (arith, length-take k l)

pub returns-then-not-domain_fits : goal.returns-then-not-domain_fits
returns-then-not-domain_fits c =
    let a = c.args in
    builds (build_domain a.colours.now a.min a.max a.softness _ _ (failed c.if-not-domain_fits.true c.domain_fits.ensures)) (after_refused 17 _ _) (after_refused 17 _ _)

pub write_positions-requires : goal.write_positions-requires
write_positions-requires c =
    let h = (few _ _ _ (passed c.if-not-domain_fits.false c.domain_fits.ensures)).most in (h, omega arith)

pub slice_bounds-built-end : goal.slice_bounds-built-end
slice_bounds-built-end c = long_enough _ _ _ _ _ c.write_positions.ensures

pub slice_bounds-is_steady-end : goal.slice_bounds-is_steady-end
slice_bounds-is_steady-end c = many _ _ _ _ _ c.write_positions.ensures

pub returns-then-not-is_steady : goal.returns-then-not-is_steady
returns-then-not-is_steady c =
    let a = c.args in
    let on = passed c.if-not-domain_fits.false c.domain_fits.ensures in
    builds (build_fit a.colours.now a.min a.max a.softness _ _ (failed c.if-not-is_steady.true (judged _ _ _ _ _ c.write_positions.ensures c.is_steady.ensures)) on) (after_refused 17 _ _) (after_refused 17 _ _)

pub is_roomy-requires : goal.is_roomy-requires
is_roomy-requires c = (few _ _ _ (passed c.if-not-domain_fits.false c.domain_fits.ensures)).most

pub returns-then-not-is_roomy : goal.returns-then-not-is_roomy
returns-then-not-is_roomy c =
    let a = c.args in
    let on = passed c.if-not-domain_fits.false c.domain_fits.ensures in
    let fit = passed c.if-not-is_steady.false (judged _ _ _ _ _ c.write_positions.ensures c.is_steady.ensures) in
    builds (build_room a.colours.now a.min a.max a.softness _ _ (failed c.if-not-is_roomy.true c.is_roomy.ensures) fit on) (after_refused 1 _ _) (after_refused 1 _ _)

pub returns-then-not-all_finite : goal.returns-then-not-all_finite
returns-then-not-all_finite c =
    let a = c.args in
    let on = passed c.if-not-domain_fits.false c.domain_fits.ensures in
    let fit = passed c.if-not-is_steady.false (judged _ _ _ _ _ c.write_positions.ensures c.is_steady.ensures) in
    let there = passed c.if-not-is_roomy.false c.is_roomy.ensures in
    builds (build_finite a.colours.now a.min a.max a.softness _ _ (failed c.if-not-all_finite.true c.all_finite.ensures) there fit on) (after_refused 2 _ _) (after_refused 2 _ _)

pub slice_bounds-copy_from_slice-end : goal.slice_bounds-copy_from_slice-end
slice_bounds-copy_from_slice-end c = (room _ _ _ _ (passed c.if-not-is_roomy.false c.is_roomy.ensures)).positions

pub slice_bounds-copy_from_slice-end-2 : goal.slice_bounds-copy_from_slice-end-2
slice_bounds-copy_from_slice-end-2 c = taken _ _ (room _ _ _ _ (passed c.if-not-is_roomy.false c.is_roomy.ensures)).positions

pub slice_bounds-built-end-2 : goal.slice_bounds-built-end-2
slice_bounds-built-end-2 c = long_enough _ _ _ _ _ c.write_positions.ensures

pub slice_bounds-copy_from_slice-end-3 : goal.slice_bounds-copy_from_slice-end-3
slice_bounds-copy_from_slice-end-3 c = many _ _ _ _ _ c.write_positions.ensures

pub copy_from_slice-requires : goal.copy_from_slice-requires
copy_from_slice-requires c =
    sym (taken _ _ (room _ _ _ _ (passed c.if-not-is_roomy.false c.is_roomy.ensures)).positions) ∙ many _ _ _ _ _ c.write_positions.ensures

pub write_channels-requires : goal.write_channels-requires
write_channels-requires c =
    let there = room _ _ _ _ (passed c.if-not-is_roomy.false c.is_roomy.ensures) in
    ((few _ _ _ (passed c.if-not-domain_fits.false c.domain_fits.ensures)).most, there.whole, there.channels)

pub returns : goal.returns
returns c =
    let a = c.args in
    let n = bands a.colours.now in
    let on = passed c.if-not-domain_fits.false c.domain_fits.ensures in
    let fit = passed c.if-not-is_steady.false (judged _ _ _ _ _ c.write_positions.ensures c.is_steady.ensures) in
    let there = passed c.if-not-is_roomy.false c.is_roomy.ensures in
    let copied = ap (λ (l : List Float). l ++ drop (2 * n) a.positions.now) (c.copy_from_slice.ensures.after ∙ c.write_positions.ensures) in
    builds
    (build_stops a.colours.now a.min a.max a.softness _ _ (passed c.if-not-all_finite.false c.all_finite.ensures) there fit on)
    (after_stops (2 * n) (2 * n) (sharp_positions a.min a.max a.softness n) a.positions.now (length_positions a.min a.max a.softness n) copied)
    (after_stops (2 * n) (8 * n) (sharp_channels a.colours.now n) a.channels.now (length_channels a.colours.now n) c.write_channels.ensures)
