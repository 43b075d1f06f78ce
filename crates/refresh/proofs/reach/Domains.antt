-- A domain: its ends are finite, and so are the ends of its cells; every ramp that passes the check of a sampling has one. Assumes nothing.
use mathlib.Core.Path.{◌≡◌, refl, sym, subst}
use mathlib.Core.Bool.{Bool, true, false, cond, ◌&&◌, ◌||◌}
use Prim.Native.Nat.{ℕ, ◌-◌, ◌≤◌}
use native.Mathlib.Omega.{arith}
use lib.Dec.{T}
use lib.ListN.{length}
use lib.Ieee.{Float, neg, of_bits, le, lt, is_nan}
use lib.Ieee.Fits.{and_l, and_r, and_i}
use lib.Ieee.Bits.{is_true}
use lib.Ieee.Scale.{finite}
use Rattle.float.specs.F32.{f0, f1}
use Rattle.float.specs.Number.{Within}
use Rattle.float.proofs.Order as order
use Rattle.stops.specs.Lent.{Ramp}
use Rattle.stops.specs.Stops.{pos_at}
use Rattle.stops.specs.declared.Checked.{Checked}
use Rattle.stops.specs.declared.Checked.TheVariants as checked
use Rattle.stops.proofs.Valid.{finite_number}
use Rattle.gradient.specs.Ramp.{is_gimp, check_of, min_in, max_in, min_of, max_of}
use Rattle.gradient.proofs.Valid.{valid}
use Rattle.sampling.specs.Constants.{cells, farthest}
use Rattle.sampling.specs.Cells.{edge_of}
use Rattle.sampling.specs.Sampling.{beyond_of, shape_check, sample_check}
use Rattle.sampling.proofs.Checks.{passes_both}
use Rattle.sampling.proofs.Edges.{edge_within}
use Rattle.refresh.specs.reach.KeptCells.{is_domain}

-- ---- the ends of a domain's cells
ends : T (finite farthest) × T (finite (neg farthest)) × (is_nan farthest ≡ false) × (is_nan (neg farthest) ≡ false)
unfolding of_bits neg is_nan
ends = (tt, tt, refl, refl)

module _ (lo hi : Float) (domain : is_domain lo hi ≡ true) where
  tested : T (le (neg farthest) lo) × T (le lo hi) × T (le hi farthest)
  unfolding is_domain
  tested =
      let a = le (neg farthest) lo in
      let b = le lo hi in
      let c = le hi farthest in
      let t : T (a && (b && c)) = subst T (sym domain) tt in
      let u = and_r a (b && c) t in
      (and_l a (b && c) t, and_l b c u, and_r b c u)

  pub end_within : (t : Float) (i : ℕ) → i ≤ cells → t ≡ edge_of lo hi i → Within t
  end_within t i l e =
      let d = tested in
      let below = order.le_trans lo hi farthest d.1 d.2 in
      let above = order.le_trans (neg farthest) lo hi d.0 d.1 in
      let first = order.finite_between (neg farthest) lo farthest ends.1 ends.0 d.0 below in
      let last = order.finite_between (neg farthest) hi farthest ends.1 ends.0 above d.2 in
      subst Within (sym e) (edge_within lo hi first last d.0 d.2 d.1 i l)

-- ---- the domain of a ramp that may be sampled
neither : (a b : Bool) → (a || b) ≡ false → (a ≡ false) × (b ≡ false)
neither true b h = absurd (subst T h tt)
neither false b h = (refl, h)

refused : {n : ℕ} → checked.Refused n ≡ checked.Fine → ⊥
refused h = let z : ◌≡◌ {A = ℕ} 0 1 = cc in omega arith

not_far : (a : Bool) (n : ℕ) (after : Checked) → cond a (checked.Refused n) after ≡ checked.Fine → a ≡ false
not_far true n after h = absurd (refused h)
not_far false n after h = refl

within : (x : Float) → finite x ≡ true → beyond_of x ≡ false → T (le (neg farthest) x) × T (le x farthest)
unfolding beyond_of
within x f b =
    let n = finite_number x f in
    let o = neither (lt x (neg farthest)) (lt farthest x) b in
    (order.le_from_not_lt x (neg farthest) n ends.3 o.0, order.le_from_not_lt farthest x ends.2 n o.1)

of_ends : (lo hi : Float) → finite lo ≡ true → finite hi ≡ true → T (le lo hi) → (beyond_of lo || beyond_of hi) ≡ false → is_domain lo hi ≡ true
unfolding is_domain
of_ends lo hi f g rise far =
    let o = neither (beyond_of lo) (beyond_of hi) far in
    let a = le (neg farthest) lo in
    let b = le lo hi in
    let c = le hi farthest in
    is_true (a && (b && c)) (and_i a (b && c) (within lo f o.0).0 (and_i b c rise (within hi g o.1).1))

unit : is_domain f0 f1 ≡ true
unfolding is_domain of_bits neg le
unit = refl

module _ (ramp : Ramp) (n m k : ℕ) (fine : sample_check ramp n m k ≡ checked.Fine) where
  both : (check_of ramp ≡ checked.Fine) × (shape_check (min_of ramp) (max_of ramp) n m k ≡ checked.Fine)
  unfolding sample_check
  both = passes_both (check_of ramp) (shape_check (min_of ramp) (max_of ramp) n m k) fine

  near : (beyond_of (min_of ramp) || beyond_of (max_of ramp)) ≡ false
  unfolding shape_check
  near = not_far (beyond_of (min_of ramp) || beyond_of (max_of ramp)) _ _ both.1

  of_stops : is_gimp ramp.kind ≡ false → is_domain (min_of ramp) (max_of ramp) ≡ true
  unfolding min_in max_in
  of_stops s =
      let v = valid ramp s both.0 in
      let last = length ramp.positions - 1 in
      let n = v.sized.least in
      rw s (of_ends (pos_at ramp.positions 0) (pos_at ramp.positions last) (v.finite_at 0 (omega arith)) (v.finite_at last (omega arith)) (v.rising 0 last (omega arith) (omega arith)) (rw s at near))

  of_segments : is_gimp ramp.kind ≡ true → is_domain (min_of ramp) (max_of ramp) ≡ true
  unfolding min_in max_in
  of_segments s = rw s unit

  pub checked_domain : is_domain (min_of ramp) (max_of ramp) ≡ true
  checked_domain = go (is_gimp ramp.kind) refl
    where
      go : (b : Bool) → is_gimp ramp.kind ≡ b → is_domain (min_of ramp) (max_of ramp) ≡ true
      go true = of_segments
      go false = of_stops
