-- On positions that rise, a bracket whose size is divided by four: three positions are asked, and the answers added. Assumes nothing.
use mathlib.Core.Path.{◌≡◌, refl, sym, ◌∙◌, ap}
use mathlib.Core.Bool.{Bool, true, false, cond, true≢false}
use mathlib.Core.List.{List}
use Prim.Native.Nat.{ℕ, ◌+◌, ◌-◌, ◌*◌, ◌≤◌, ◌<◌}
use native.Mathlib.Omega.{arith}
use lib.ListN.{length}
use lib.Ieee.{Float, le, is_nan}
use borrow.Author.Tests.{lt-ltb, le-ltb}
use Rattle.stops.specs.Stops.{pos_at}
use Rattle.stops.specs.Place.{Rising, first_at, is_below}
use Rattle.stops.proofs.Narrowing.{Bracket, low, moved, not-below, bracket_start, bracket_end}

module _ (ps : List Float) (t : Float) (R : Rising ps) (number : is_nan t ≡ false) where
  -- the last `size` positions, or where t lies before them, the first
  pub first_part : 2 ≤ length ps → le t (pos_at ps 0) ≡ false → le (pos_at ps (length ps - 1)) t ≡ false
      → (low₀ size : ℕ) → low₀ + size ≡ length ps - 1 → 1 ≤ size → low₀ ≤ size → Bracket ps t (low₀ * is_below ps t low₀) size
  first_part two first last low₀ size e some half = go (low ps t R number low₀) refl
    where
      B : Bracket ps t 0 (length ps - 1)
      B = bracket_start ps t R number two first last

      go : (c : Bool) → low ps t R number low₀ ≡ c → Bracket ps t (low₀ * cond c 1 0) size
      go true p =
          let a : low₀ ≡ low₀ * 1 = omega arith in
          let b : 0 + (length ps - 1) ≡ low₀ * 1 + size = omega arith in
          record { some = some; inside = omega arith; below = moved ps t R number a p; above = moved ps t R number b B.above }
      go false p =
          let a : 0 ≡ low₀ * 0 = omega arith in
          record { some = some; inside = omega arith; below = moved ps t R number a B.below; above = not-below ps t R number low₀ (low₀ * 0 + size) (omega arith) (omega arith) p }

  abbrev pub answers : ℕ → ℕ → ℕ
  answers base q = is_below ps t (base + q) + is_below ps t (base + 2 * q) + is_below ps t (base + 3 * q)

  pub quarter : (base q : ℕ) → 1 ≤ q → Bracket ps t base (4 * q) → Bracket ps t (base + q * answers base q) q
  quarter base q some B = go (low ps t R number (base + q)) (low ps t R number (base + 2 * q)) (low ps t R number (base + 3 * q)) refl refl refl
    where
      in_range : base + 4 * q < length ps
      in_range = B.inside

      -- what is not below t has nothing below t after it
      stays : (i j : ℕ) → i ≤ j → j ≤ base + 4 * q → {A : Type 0} → low ps t R number i ≡ false → low ps t R number j ≡ true → A
      stays i j a b p q = let l = in_range in absurd (true≢false (sym q ∙ not-below ps t R number i j a (omega arith) p))

      go : (c d e : Bool) → low ps t R number (base + q) ≡ c → low ps t R number (base + 2 * q) ≡ d → low ps t R number (base + 3 * q) ≡ e
          → Bracket ps t (base + q * (cond c 1 0 + cond d 1 0 + cond e 1 0)) q
      go true true true x y z =
          let l = in_range in
          let a : base + 3 * q ≡ base + q * 3 = omega arith in
          let b : base + 4 * q ≡ base + q * 3 + q = omega arith in
          record { some = some; inside = omega arith; below = moved ps t R number a z; above = moved ps t R number b B.above }
      go true true false x y z =
          let l = in_range in
          let a : base + 2 * q ≡ base + q * 2 = omega arith in
          let b : base + 3 * q ≡ base + q * 2 + q = omega arith in
          record { some = some; inside = omega arith; below = moved ps t R number a y; above = moved ps t R number b z }
      go true false true x y z = stays (base + 2 * q) (base + 3 * q) (omega arith) (omega arith) y z
      go true false false x y z =
          let l = in_range in
          let a : base + q ≡ base + q * 1 = omega arith in
          let b : base + 2 * q ≡ base + q * 1 + q = omega arith in
          record { some = some; inside = omega arith; below = moved ps t R number a x; above = moved ps t R number b y }
      go false true e x y z = stays (base + q) (base + 2 * q) (omega arith) (omega arith) x y
      go false false true x y z = stays (base + q) (base + 3 * q) (omega arith) (omega arith) x z
      go false false false x y z =
          let l = in_range in
          let a : base ≡ base + q * 0 = omega arith in
          let b : base + q ≡ base + q * 0 + q = omega arith in
          record { some = some; inside = omega arith; below = moved ps t R number a B.below; above = moved ps t R number b x }

  -- what is returned
  module _ (base size : ℕ) (B : Bracket ps t base size) where
    pub ends_two : size ≤ 2 → 1 < size → {b : ℕ} → b ≡ is_below ps t (base + 1) → base + b + 1 ≡ first_at t ps
    ends_two h g e = ap (λ (n : ℕ). base + n + 1) e ∙ ap (λ (n : ℕ). n + 1) (sym (simp (lt-ltb 1 size g))) ∙ bracket_end ps t R number base size h B

    pub ends-one : size ≤ 1 → base + 1 ≡ first_at t ps
    ends-one h = ap (λ (n : ℕ). n + 1) (sym (simp (le-ltb 1 size h))) ∙ bracket_end ps t R number base size (omega arith) B
