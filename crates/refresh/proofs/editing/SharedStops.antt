-- The stops that a ramp shares with the one in which `gone` stops at k made place for others: those before k, and those after. Assumes nothing.
use mathlib.Core.Path.{◌≡◌}
use mathlib.Core.List.{List}
use Prim.Native.Nat.{ℕ, ◌+◌, ◌-◌, ◌*◌, ◌≤◌, ◌<◌}
use native.Mathlib.Omega.{arith}
use lib.ListN.{length}
use lib.Ieee.{Float, nan}
use Rattle.stops.specs.Stops.{pos_at, colour_at}
use Rattle.refresh.specs.editing.Edited.{spliced}
use Rattle.refresh.proofs.editing.Splices.{before_splice, after_splice, splice-length, colour_before, colour_after}
use Rattle.refresh.proofs.editing.Shared.{Shared}

module _ (ps cs : List Float) (k gone : ℕ) (some : 1 ≤ k) (there : k + gone < length ps) (four : length cs ≡ 4 * length ps) where
  shared_positions : (items : List Float) → ((h : ℕ) → h ≤ k - 1 → pos_at (spliced ps k gone items) h ≡ pos_at ps h)
      × ((h : ℕ) → pos_at (spliced ps k gone items) (k + length items + h) ≡ pos_at ps (k + gone + h))
  shared_positions items =
      let within : k ≤ length ps = omega arith in (
        λ h l. before_splice ps k gone items within nan h (omega arith),
        λ h.
            let e : k + (length items + h) ≡ k + length items + h = omega arith in
            let f : k + (gone + h) ≡ k + gone + h = omega arith in
            rw (e, f) at (after_splice ps k gone items within nan h),
      )

  pub shared_colours : (put : ℕ) (items : List Float) → length items ≡ 4 * put → ((h : ℕ) → h ≤ k - 1 → colour_at (spliced cs (4 * k) (4 * gone) items) h ≡ colour_at cs h)
      × ((h : ℕ) → colour_at (spliced cs (4 * k) (4 * gone) items) (k + put + h) ≡ colour_at cs (k + gone + h))
  shared_colours put items e =
      let within : 4 * k ≤ length cs = omega arith in (
        λ h l. colour_before cs k gone put items within e h (omega arith),
        λ h.
            let p : k + (put + h) ≡ k + put + h = omega arith in
            let q : k + (gone + h) ≡ k + gone + h = omega arith in
            rw (p, q) at (colour_after cs k gone put items within e h),
      )

  module _ (items : List Float) (ds : List Float)
      (up : (h : ℕ) → h ≤ k - 1 → colour_at ds h ≡ colour_at cs h) (on : (h : ℕ) → colour_at ds (k + length items + h) ≡ colour_at cs (k + gone + h)) where
    pub shared : Shared ps cs (spliced ps k gone items) ds (k - 1) (k + gone) (k + length items)
    shared =
        let p = shared_positions items in
        record {
          up_to = λ h l. (p.0 h l, up h l);
          from_on = λ h. (p.1 h, on h);
          as_many = omega (arith, splice-length ps k gone items (omega arith));
          there = there;
          apart = (omega arith, omega arith);
        }
