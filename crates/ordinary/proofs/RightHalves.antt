-- Right halves of a cell: where the cell starts no later than point last - 256 of a grid and ends no later than point last, the k-th of them starts no later than last - 2 ^ (8 - k); so none of seven starts past last - 2. Assumes nothing.
use mathlib.Core.Path.{◌≡◌, ap}
use mathlib.Core.Bool.{Bool, true, false, cond}
use mathlib.Core.List.{List, [], ◌∷◌, ◌++◌}
use Prim.Native.Nat.{ℕ, zero, suc, ◌+◌, ◌-◌, ◌*◌, ◌^◌, ◌≤◌}
use native.Mathlib.Nat.{two-pow-succ}
use native.Mathlib.Omega.{arith}
use lib.Dec.{T}
use lib.Pow.{pow_pos}
use lib.Ieee.{Float, round, add, of_bits, neg, le}
use lib.Ieee.Scale.{finite}
use Rattle.float.specs.F32.{◌⊕◌, f0}
use Rattle.float.specs.Number.{top, Within}
use Rattle.float.proofs.Order as order
use Rattle.float.proofs.Rounding.{add_mono}
use Rattle.sampling.specs.Constants.{farthest}
use Rattle.sampling.specs.Midpoints.{Gradient, Far, mid_of, keeps, halves}
use Rattle.float.proofs.Midpoint.{mid_le, le_mid, mid_within}
use Rattle.ordinary.proofs.Climbing.{Climbs, join_at, within_number, halves_climb}
use Rattle.float.proofs.UnitSums.{units_of, le_units, sum_under, half_under}
use Rattle.ordinary.proofs.Grid.{Point}

-- ---- the right halves of a cell start no later than b
abbrev pub Rights : ℕ → Float → Float → Float → Type 0
Rights zero t0 t1 b = T (le t0 b)
Rights (suc n) t0 t1 b = T (le t0 b) × Rights n (mid_of t0 t1) t1 b

start : (n : ℕ) (t0 t1 b : Float) → Rights n t0 t1 b → T (le t0 b)
start zero t0 t1 b h = h
start (suc n) t0 t1 b h = h.0

if_kept : (c : Bool) (t0 m b : Float) (xs ys : List Float) → T (le t0 b) → Climbs t0 xs m → Climbs m ys b → Climbs t0 (cond c (xs ++ m ∷ ys) []) b
if_kept true t0 m b xs ys l h k = join_at t0 m b xs ys h k
if_kept false t0 m b xs ys l h k = l

pub rights_climb : (g : Gradient) (far : Far) (n : ℕ) (t0 t1 b : Float) → Within t0 → Within t1 → T (le t0 t1) → Rights n t0 t1 b → Climbs t0 (halves g far n t0 t1) b
unfolding halves mid_of
rights_climb g far zero t0 t1 b w0 w1 l h = h
rights_climb g far (suc n) t0 t1 b w0 w1 l h =
    let m = mid_of t0 t1 in
    let w : Within m = mid_within t0 t1 w0 w1 in
    let low : T (le t0 m) = le_mid t0 t1 w0 w1 t0 (order.le_refl t0 (within_number t0 w0)) l in
    let high : T (le m t1) = mid_le t0 t1 w0 w1 t1 l (order.le_refl t1 (within_number t1 w1)) in
    if_kept (keeps g far t0 t1) t0 m b (halves g far n t0 m) (halves g far n m t1) h.0 (halves_climb g far n t0 m w0 w low) (rights_climb g far n m t1 b w w1 high h.1)

-- ---- one halving: from no more than point i and no more than point j to no more than the point half-way
half_way : (i j m v x y p n q o r s a b c d : ℕ) → i + j ≡ 2 * m → p + x ≤ y + n → q + c ≤ d + o
    → y + 16777216 * v ≡ i * v + x → d + 16777216 * v ≡ j * v + c → a + 16777216 * v ≡ m * v + b → p + q + 2 * b ≤ 2 * a + n + o
half_way i j m v x y p n q o r s a b c d e h k u w z = let t : (i + j) * v ≡ 2 * m * v = ap (λ (l : ℕ). l * v) e in omega arith

-- -1e38, and the sum of two numbers from there on
abbrev pub floor : Float
floor = neg farthest ⊕ f0

pub numbers : T (finite floor) × T (finite (floor ⊕ floor)) × T (finite top) × T (finite (neg top)) × T (finite f0) × T (finite (neg farthest))
unfolding of_bits neg add round
numbers = (tt, tt, tt, tt, tt, tt)

within_finite : (x : Float) → Within x → T (finite x)
within_finite x w = order.finite_between (neg top) x top numbers.3 numbers.2 (order.lt→le (neg top) x w.low) (order.lt→le x top w.high)

module _ (e last : ℕ) (hi : Float) (pts : (i : ℕ) → last ≤ i + 256 → i ≤ last → Point e i) (under : (i : ℕ) (l : last ≤ i + 256) (k : i ≤ last) → i + 2 ≤ last → T (le (pts i l k).y hi))
    (t1 : Float) (w1 : Within t1) (low1 : T (le floor t1)) (tip : Point e last) (end : T (le t1 tip.y)) where
  step : (i m : ℕ) (li : last ≤ i + 256) (ki : i ≤ last) (lm : last ≤ m + 256) (km : m ≤ last) (t0 : Float) → Within t0 → T (le floor t0) → i + last ≡ 2 * m → T (le t0 (pts i li ki).y) → T (le (mid_of t0 t1) (pts m lm km).y)
  unfolding mid_of
  step i m li ki lm km t0 w0 low0 e0 h =
      let a = units_of t0 w0.one (within_finite t0 w0) in
      let b = units_of t1 w1.one (within_finite t1 w1) in
      let f = pts i li ki in
      let l = tip in
      let c = pts m lm km in
      let ha = le_units t0 f.y a.p a.n f.p f.n a.is f.is h in
      let hb = le_units t1 l.y b.p b.n l.p l.n b.is l.is end in
      let s : T (le (t0 ⊕ t1) c.w) =
      sum_under t0 t1 c.w a.p a.n b.p b.n (2 * c.p) (2 * c.n) a.is b.is c.twice
      (half_way i last m (2 ^ e) f.n f.p a.p a.n b.p b.n 0 0 c.p c.n l.n l.p e0 ha hb f.place l.place c.place) in
      let whole : T (finite (t0 ⊕ t1)) =
      order.finite_between (floor ⊕ floor) (t0 ⊕ t1) c.w numbers.1 c.twice.whole (add_mono floor floor t0 t1 numbers.0 numbers.0 (within_finite t0 w0) (within_finite t1 w1) low0 low1) s in
      half_under c.y c.w c.p c.n c.is c.twice (t0 ⊕ t1) whole s

  pub rights : (n i : ℕ) (li : last ≤ i + 256) (ki : i ≤ last) (t0 : Float) → Within t0 → T (le floor t0) → i + 2 * 2 ^ n ≡ last → T (le t0 (pts i li ki).y) → Rights n t0 t1 hi
  unfolding mid_of
  rights zero i li ki t0 w0 low0 e0 h = order.le_trans t0 (pts i li ki).y hi h (under i li ki (omega arith))
  rights (suc n) i li ki t0 w0 low0 e0 h =
      let two = two-pow-succ n in
      let some : 1 ≤ 2 ^ n = pow_pos n in
      let m = last - 2 * 2 ^ n in
      let lm : last ≤ m + 256 = omega arith in
      let km : m ≤ last = omega arith in
      let em : m + 2 * 2 ^ n ≡ last = omega arith in (
        order.le_trans t0 (pts i li ki).y hi h (under i li ki (omega arith)),
        rights n m lm km (mid_of t0 t1) (mid_within t0 t1 w0 w1) (le_mid t0 t1 w0 w1 floor low0 low1) em (step i m li ki lm km t0 w0 low0 (omega arith) h),
      )
