-- The last cell of a domain has no midpoint past max, though its own end, min + (max - min), can lie past it by a unit.
-- In units of 2 ^ -149, let max - min have 24 + k digits, and let v be twice 2 ^ k. Where max is 2 ^ 24 v or more in size, min and max are multiples of 2 ^ k, so that max - min is an f32 and the cell ends at max.
-- Else the multiples of v near max are f32. With h the last of them up to max, the cell ends at h + 2 v at most, and starts at h - 254 v at most; so its right halves start at h - 126 v, h - 62 v, .., h at most. Assumes nothing.
use mathlib.Core.Path.{◌≡◌, sym, ap, ◌∙◌, subst}
use mathlib.Core.Bool.{true, false}
use mathlib.Core.Logic.{◌⊎◌, inl, inr}
use Prim.Native.Nat.{ℕ, suc, ◌+◌, ◌-◌, ◌*◌, ◌/◌, ◌^◌, ◌≤◌, ◌<◌}
use native.Mathlib.Nat.{le_of_eq, le_of_lt, le_trans as le_trans_ℕ, lt_of_lt_of_le, lt_of_le_of_lt, lt_of_not-le, suc-mul, add-mul, mul-lt-mul_of_pos_right, lt_of_mul-lt-mul_right, two-pow-succ, mul-le-mul_right, le_of_mul-le-mul_right, div-lt_iff_lt-mul}
use native.Mathlib.Decide.{dec_le}
use native.Mathlib.Omega.{arith}
use lib.Dec.{T, lit<, lit≤}
use lib.Pow.{pow_pos, pow_mono, pow-add}
use lib.IntN.{negsuc}
use lib.Ieee.{Float, fin, binary32, fits, round, le}
use lib.Ieee.Positive.{den}
use Rattle.float.specs.F32.{◌⊖◌, ◌⊗◌, f0}
use Rattle.float.proofs.Order as order
use Rattle.float.proofs.Rounding.{mul_mono, dens_pos}
use Rattle.float.proofs.Units.{pow_under}
use Rattle.float.proofs.SignedRound.{pro, mul_rounds}
use Rattle.sampling.specs.Constants.{depth}
use Rattle.sampling.specs.Midpoints.{Gradient, Far, halves}
use Rattle.sampling.specs.Cells.{edge_of}
use Rattle.refresh.specs.reach.KeptCells.{is_domain}
use Rattle.ordinary.proofs.Climbing.{Climbs}
use Rattle.float.proofs.Spans.{rounded_below}
use Rattle.ordinary.proofs.Rising as domains
use Rattle.ordinary.proofs.Rising.{along}
use Rattle.float.proofs.UnitSums.{Counted, Units, units_le, held}
use Rattle.ordinary.proofs.Grid.{Point, point, room_right, room_left, window, div_below, div_above, Large, far_off, large_grid, multiple}
use Rattle.ordinary.proofs.RightHalves.{Rights, rights_climb, rights}
use Rattle.ordinary.proofs.DomainUnits as units
use Rattle.ordinary.proofs.DomainUnits.{shares, share_is, scaled, no_down}

module _ (lo hi : Float) (domain : is_domain lo hi ≡ true) (fl : T (fits binary32 lo)) (fh : T (fits binary32 hi)) where
  abbrev ul : Units lo
  ul = units.ul lo hi domain fl fh

  abbrev uh : Units hi
  uh = units.uh lo hi domain fl fh

  abbrev span : Float
  span = hi ⊖ lo

  abbrev d : ℕ
  d = units.d lo hi domain fl fh

  -- ---- 2 ^ 23 2 ^ k ≤ d < 2 ^ 24 2 ^ k, so with v twice 2 ^ k
  module _ (k : ℕ) (least : 2 ^ 23 * 2 ^ k ≤ d) (most : d < 2 ^ 24 * 2 ^ k) where
    abbrev v : ℕ
    v = 2 ^ suc k

    v_is : v ≡ 2 * 2 ^ k
    v_is = omega (arith, two-pow-succ k)

    v_pos : 0 < v
    v_pos = pow_pos (suc k)

    d_low : 4194304 * v ≤ d
    d_low = omega (arith, v_is, least)

    d_high : d < 8388608 * v
    d_high = omega (arith, v_is, most)

    v_small : v ≤ 4 * 2 ^ 252
    v_small =
        let l : 2 ^ (23 + k) ≤ 19721522 * 2 ^ 252 = le_trans_ℕ (le_of_eq (pow-add 2 23 k)) (le_trans_ℕ least ((units.d_most lo hi domain fl fh) (2 ^ 252) (units.high_bounds lo hi domain fl fh).0 (units.low_bounds lo hi domain fl fh).1)) in
        let m : 19721522 * 2 ^ 252 < 2 ^ 277 = mul-lt-mul_of_pos_right {m = 19721522} {n = 33554432} (lit< tt) (pow_pos 252) in
        let e : 23 + k < 277 = pow_under (23 + k) 277 (19721522 * 2 ^ 252) l m in
        pow_mono {i = suc k} {j = 254} (short k e)
      where
        short : (k : ℕ) → 23 + k < 277 → suc k ≤ 254
        short k e = omega arith

    -- max is far off
    far_exact : (16776900 * v < uh.p) ⊎ (16776900 * v < uh.n) → T (le (edge_of lo hi 36) hi)
    far_exact h =
        let w = far_off uh.p uh.n ul.p ul.n d v v_pos uh.one_sided ul.one_sided (units.d_is lo hi domain fl fh) d_high h in
        let at : (x : ℕ) → Large v x → Large (2 * 2 ^ k) x = λ x l. subst (λ (y : ℕ). Large y x) v_is l in
        let t = multiple uh.p uh.n ul.p ul.n d (2 ^ k) (pow_pos k) (units.d_is lo hi domain fl fh)
        (large_grid k uh.p uh.p_shape (at uh.p w.0)) (large_grid k uh.n uh.n_shape (at uh.n w.1))
        (large_grid k ul.p ul.p_shape (at ul.p w.2)) (large_grid k ul.n ul.n_shape (at ul.n w.3)) in
        let small : t.0 < 2 ^ 24 = lt_of_mul-lt-mul_right (2 ^ k) (lt_of_le_of_lt (le_of_eq (sym t.1)) most) in
        let few_units : t.0 * 2 ^ k < 2 ^ 277 = lt_of_le_of_lt (le_of_eq (sym t.1)) (lt_of_le_of_lt ((units.d_most lo hi domain fl fh) (2 ^ 252) (units.high_bounds lo hi domain fl fh).0 (units.low_bounds lo hi domain fl fh).1) (mul-lt-mul_of_pos_right {m = 19721522} {n = 33554432} (lit< tt) (pow_pos 252))) in
        (units.exact lo hi domain fl fh) _ (subst (λ (x : ℕ). Counted (round binary32 false (t.0 * 2 ^ k) (2 ^ 149)) x 0) (sym t.1) (held false t.0 k small few_units))

    -- max is near: the grid of v
    module _ (ph_near : uh.p ≤ 16776900 * v) (nh_near : uh.n ≤ 16776900 * v) where
      abbrev x : ℕ
      x = uh.p + 16777216 * v - uh.n

      x-is : x + uh.n ≡ uh.p + 16777216 * v
      x-is = omega (arith, nh_near)

      abbrev h : ℕ
      h = x / v

      h_low : h * v ≤ x
      h_low = div_below x v v_pos

      h_high : x < suc h * v
      h_high = div_above x v v_pos

      h_least : 316 ≤ h
      h_least = at_least h v x v_pos h_high (omega (arith, x-is, nh_near))
        where
          at_least : (h v x : ℕ) → 0 < v → x < suc h * v → 316 * v ≤ x → 316 ≤ h
          at_least h v x P a b = let l : 316 < suc h = lt_of_mul-lt-mul_right v (lt_of_le_of_lt b a) in omega arith

      h_most : h ≤ 33554116
      h_most = le_of_mul-le-mul_right {k = v} (omega (arith, h_low, x-is, ph_near)) v_pos

      last : ℕ
      last = h + 2

      pts : (i : ℕ) → last ≤ i + 256 → i ≤ last → Point (suc k) i
      unfolding last
      pts i l m =
          point (suc k) i (omega (arith, h_least)) (omega (arith, h_most))
          (room_right i h v x uh.p uh.n (2 ^ 252) (omega arith) h_low x-is (units.high_bounds lo hi domain fl fh).0 v_small)
          (room_left i h v x uh.p uh.n (2 ^ 252) (omega arith) h_high x-is (units.high_bounds lo hi domain fl fh).1 v_small)

      under : (i : ℕ) (l : last ≤ i + 256) (m : i ≤ last) → i + 2 ≤ last → T (le (pts i l m).y hi)
      unfolding last
      under i l m b =
          let c = pts i l m in
          units_le c.y hi c.p c.n uh.p uh.n c.is uh.is (below i h v x c.p c.n uh.p uh.n (omega arith) h_low x-is c.place)
        where
          below : (i h v x p n q m : ℕ) → i ≤ h → h * v ≤ x → x + m ≡ q + 16777216 * v → p + 16777216 * v ≡ i * v + n → p + m ≤ q + n
          below i h v x p n q m l a b c = let w : i * v ≤ h * v = mul-le-mul_right v l in omega arith

      -- the span, rounded up to the grid
      abbrev c : ℕ
      c = suc (d / v)

      c_low : d ≤ c * v
      c_low = le_of_lt (div_above d v v_pos)

      c_high : c * v ≤ d + v
      c_high = omega (arith, div_below d v v_pos, suc-mul (d / v) v)

      c_most : c ≤ 8388608
      c_most = (div-lt_iff_lt-mul {k = v} v_pos).1 d_high

      c_least : 4194304 ≤ c
      c_least = le_of_mul-le-mul_right {k = v} (le_trans_ℕ d_low c_low) v_pos

      fits_in : (m : ℕ) → m ≤ c → m * v < 2 ^ 277
      fits_in m l =
          lt_of_le_of_lt (le_trans_ℕ (mul-le-mul_right v l) (le_trans_ℕ c_high (all d v (2 ^ 252) ((units.d_most lo hi domain fl fh) (2 ^ 252) (units.high_bounds lo hi domain fl fh).0 (units.low_bounds lo hi domain fl fh).1) v_small)))
          (mul-lt-mul_of_pos_right {m = 19721526} {n = 33554432} (lit< tt) (pow_pos 252))
        where
          all : (d v q : ℕ) → d ≤ 19721522 * q → v ≤ 4 * q → d + v ≤ 19721526 * q
          all d v q a b = omega arith

      cap : Float
      cap = round binary32 false (c * v) (2 ^ 149)

      has : Counted cap (c * v) 0
      unfolding cap
      has = held false c (suc k) (omega (arith, c_most)) (fits_in c (omega arith))

      abbrev b : ℕ
      b = c - 65536

      b_is : b * v + 65536 * v ≡ c * v
      b_is = sym (add-mul b 65536 v) ∙ ap (λ (n : ℕ). n * v) (back (d / v) c_least)
        where
          back : (n : ℕ) → 4194304 ≤ suc n → suc n - 65536 + 65536 ≡ suc n
          back n l = omega arith

      cap35 : Float
      cap35 = round binary32 false (b * v) (2 ^ 149)

      has35 : Counted cap35 (b * v) 0
      unfolding cap35
      has35 = held false b (suc k) (omega (arith, c_most)) (fits_in b (omega arith))

      tip : Point (suc k) last
      tip = pts last (omega arith) (omega arith)

      -- the cell's right end
      right_end : T (le (edge_of lo hi 36) tip.y)
      unfolding edge_of last
      right_end =
          (units.edge_to lo hi domain fl fh) cap (c * v) has (span ⊗ along 36) tip.y tip.p tip.n (units.part36 lo hi domain fl fh) ((units.whole_part lo hi domain fl fh) cap (c * v) has c_low) tip.is
          (reaches h v x d (c * v) ul.p ul.n uh.p uh.n tip.p tip.n c_high (units.d_is lo hi domain fl fh) h_high x-is tip.place)
        where
          reaches : (h v x d q pl nl ph nh p n : ℕ) → q ≤ d + v → pl + nh + d ≡ ph + nl → x < suc h * v → x + nh ≡ ph + 16777216 * v → p + 16777216 * v ≡ (h + 2) * v + n → pl + q + n ≤ p + nl
          reaches h v x d q pl nl ph nh p n a e l w z = omega arith

      shrunk : T (le (span ⊗ along 35) cap35)
      shrunk =
          order.le_trans (span ⊗ along 35) (cap ⊗ along 35) cap35
          (mul_mono span (along 35) cap (along 35) (domains.span-finite lo hi domain) shares.3 has.whole shares.3 (domains.span_low lo hi domain) shares.4 ((units.under_cap lo hi domain fl fh) cap (c * v) has c_low) (order.le_refl (along 35) (order.no_nan_r f0 (along 35) shares.4)))
          (subst (λ (s : Float). T (le (cap ⊗ s) cap35)) (sym share_is)
          (rounded_below cap35 (cap ⊗ fin false 8155591 (negsuc 22)) has35.single has35.whole _ _ _ (mul_rounds cap (fin false 8155591 (negsuc 22)) has.whole tt) (dens_pos cap (fin false 8155591 (negsuc 22)))
          (let s = scaled (pro cap) (den cap) (pro cap35) (den cap35) (c * v) (b * v) (2 ^ 149) (pow_pos 149) has.up has35.up (enough (c * v) (b * v) v b_is (le_trans_ℕ d_low c_low)) in
          rw (no_down cap (c * v) has, no_down cap35 (b * v) has35) (finish (pro cap) (den cap35) (pro cap35) (den cap) s))))
        where
          enough : (q r v : ℕ) → r + 65536 * v ≡ q → 4194304 * v ≤ q → q * 8155591 ≤ r * 8388608
          enough q r v e l = omega arith

          finish : (a d z c : ℕ) → a * 8155591 * d ≤ z * (c * 8388608) → (a * 8155591 + 0 * 0) * d + 0 * (c * 8388608) ≤ z * (c * 8388608) + (a * 0 + 0 * 8155591) * d
          finish a d z c h = omega arith

      left_end : (i : ℕ) (l : last ≤ i + 256) (m : i ≤ last) → i + 256 ≡ last → T (le (edge_of lo hi 35) (pts i l m).y)
      unfolding edge_of last
      left_end i l m e =
          let t = pts i l m in
          (units.edge_to lo hi domain fl fh) cap35 (b * v) has35 (span ⊗ along 35) t.y t.p t.n (units.part35 lo hi domain fl fh) shrunk t.is
          (reaches i h v x d (c * v) (b * v) ul.p ul.n uh.p uh.n t.p t.n e b_is c_high (units.d_is lo hi domain fl fh) h_high x-is t.place)
        where
          reaches : (i h v x d q r pl nl ph nh p n : ℕ) → i + 256 ≡ h + 2 → r + 65536 * v ≡ q → q ≤ d + v → pl + nh + d ≡ ph + nl → x < suc h * v → x + nh ≡ ph + 16777216 * v → p + 16777216 * v ≡ i * v + n → pl + r + n ≤ p + nl
          reaches i h v x d q r pl nl ph nh p n e f a g l w z = let k : (i + 256) * v ≡ (h + 2) * v = ap (λ (y : ℕ). y * v) e in omega arith

      near_rights : Rights depth (edge_of lo hi 35) (edge_of lo hi 36) hi
      unfolding last edge_of
      near_rights =
          let i = h - 254 in
          let l : last ≤ i + 256 = omega (arith, h_least) in
          let m : i ≤ last = omega arith in
          let e : i + 256 ≡ last = omega (arith, h_least) in
          rights (suc k) last hi pts under (edge_of lo hi 36) (domains.edge_in lo hi domain 36 (omega arith)) ((units.above_floor lo hi domain fl fh) (along 36) shares.0 shares.1 shares.2) tip right_end
          7 i l m (edge_of lo hi 35) (domains.edge_in lo hi domain 35 (omega arith)) ((units.above_floor lo hi domain fl fh) (along 35) shares.3 shares.4 shares.5) e (left_end i l m e)

    by_size : (g : Gradient) (far : Far) → Dec (uh.p ≤ 16776900 * v) → Dec (uh.n ≤ 16776900 * v) → Climbs (edge_of lo hi 35) (halves g far depth (edge_of lo hi 35) (edge_of lo hi 36)) hi
    by_size g far (no f) q = domains.ends_in lo hi domain g far (far_exact (inl (lt_of_not-le f)))
    by_size g far (yes p) (no f) = domains.ends_in lo hi domain g far (far_exact (inr (lt_of_not-le f)))
    by_size g far (yes p) (yes q) =
        rights_climb g far depth (edge_of lo hi 35) (edge_of lo hi 36) hi (domains.edge_in lo hi domain 35 (omega arith)) (domains.edge_in lo hi domain 36 (omega arith)) (domains.edge_rises lo hi domain 35 (omega arith)) (near_rights p q)

  few_units : d < 2 ^ 23 → T (le (edge_of lo hi 36) hi)
  few_units l =
      let e : d * 2 ^ 0 ≡ d = omega arith in
      let small : d < 2 ^ 24 = omega arith in
      (units.exact lo hi domain fl fh) _ (subst (λ (x : ℕ). Counted (round binary32 false (d * 2 ^ 0) (2 ^ 149)) x 0) e (held false d 0 small (lt_of_le_of_lt (le_of_eq e) (lt_of_lt_of_le small (pow_mono {i = 24} {j = 277} (lit≤ tt))))))

  -- the midpoints kept in the last cell climb from its left end to max
  pub last_cell : (g : Gradient) (far : Far) → Climbs (edge_of lo hi 35) (halves g far depth (edge_of lo hi 35) (edge_of lo hi 36)) hi
  last_cell g far = go (dec_le (2 ^ 23) d)
    where
      go : Dec (2 ^ 23 ≤ d) → Climbs (edge_of lo hi 35) (halves g far depth (edge_of lo hi 35) (edge_of lo hi 36)) hi
      go (yes l) = let w = window d l in by_size w.0 w.1 w.2 g far (dec_le uh.p (16776900 * 2 ^ suc w.0)) (dec_le uh.n (16776900 * 2 ^ suc w.0))
      go (no f) = domains.ends_in lo hi domain g far (few_units (lt_of_not-le f))
