-- On the way from one place to another, mixed straight between two numbers from 0 to 1: the mix of what stands at a point of it and at its end is what stands between, but for 3 * 2 ^ -16. Assumes nothing.
use mathlib.Core.Path.{◌≡◌}
use Prim.Native.Nat.{ℕ, ◌+◌, ◌*◌, ◌^◌, ◌≤◌, ◌<◌}
use native.Mathlib.Nat.{le_dest}
use native.Mathlib.Omega.{arith}
use lib.Dec.{T}
use lib.Ieee.{Float, le}
use Rattle.float.specs.F32.{◌⊖◌, ◌⊘◌}
use Rattle.float.specs.Units.{count}
use Rattle.float.proofs.Order as order
use Rattle.blend.specs.Blend.{linear1}
use Rattle.blend.proofs.Clear.{Clear}
use Rattle.word.proofs.ThreePoints.{Line, straight}
use Rattle.word.proofs.MixLine.{counts_le, mixed_line}

-- the mix of b and c at t, from p to q
abbrev pub mix_at : Float → Float → Float → Float → Float → Float
mix_at p q b c t = linear1 b c ((t ⊖ p) ⊘ (q ⊖ p))

module _ (p q t b c : Float) (wp : Clear p) (wq : Clear q) (wt : Clear t) (wb : Clear b) (wc : Clear c) (pt : T (le p t)) (tq : T (le t q)) where
  pub line_at : (a r : ℕ) → count p + a ≡ count t → count t + r ≡ count q → 0 < a + r → Line (count (mix_at p q b c t)) (count b) (count c) a r (2 ^ 149)
  line_at a r first last some = mixed_line p q t b c wp wq wt wb wc pt tq a r first last some

module _ (p q a t e b c k : Float) (wp : Clear p) (wq : Clear q) (wa : Clear a) (wt : Clear t) (we : Clear e) (wb : Clear b) (wc : Clear c) (wk : Clear k)
    (pa : T (le p a)) (at : T (le a t)) (te : T (le t e)) (eq : T (le e q)) (some : count a < count e)
    (unit_a : Clear (mix_at p q b c a))
    (at_third : (l d : ℕ) → count p + l ≡ count e → count e + d ≡ count q → Line (count k) (count b) (count c) l d (2 ^ 149)) where
  abbrev f : Float
  f = mix_at p q b c a

  -- the mix of what stands at a, and of k, which stands at e
  pub as_straight : (2 ^ 16 * count (mix_at p q b c t) ≤ 2 ^ 16 * count (mix_at a e f k t) + 3 * 2 ^ 149) × (2 ^ 16 * count (mix_at a e f k t) ≤ 2 ^ 16 * count (mix_at p q b c t) + 3 * 2 ^ 149)
  as_straight =
      let x = le_dest (counts_le p a wp wa pa) in
      let y = le_dest (counts_le a t wa wt at) in
      let z = le_dest (counts_le t e wt we te) in
      let v = le_dest (counts_le e q we wq eq) in
      go x.0 y.0 z.0 v.0 x.1 y.1 z.1 v.1
    where
      pt : T (le p t)
      pt = order.le_trans p a t pa at

      tq : T (le t q)
      tq = order.le_trans t e q te eq

      aq : T (le a q)
      aq = order.le_trans a t q at tq

      left : (m n o s r : ℕ) → m + s ≡ n → n + r ≡ o → m < o → 0 < s + r
      left m n o s r e f h = omega arith

      whole : (x s r d : ℕ) → 0 < s + r → 0 < x + (s + r + d)
      whole x s r d h = omega arith

      also : (x s r d : ℕ) → 0 < s + r → 0 < x + s + (r + d)
      also x s r d h = omega arith

      joined : (m n o x y : ℕ) → m + x ≡ n → n + y ≡ o → m + (x + y) ≡ o
      joined m n o x y e f = omega arith

      go : (x s r d : ℕ) → count p + x ≡ count a → count a + s ≡ count t → count t + r ≡ count e → count e + d ≡ count q
          → (2 ^ 16 * count (mix_at p q b c t) ≤ 2 ^ 16 * count (mix_at a e f k t) + 3 * 2 ^ 149) × (2 ^ 16 * count (mix_at a e f k t) ≤ 2 ^ 16 * count (mix_at p q b c t) + 3 * 2 ^ 149)
      go x s r d e₁ e₂ e₃ e₄ =
          let n = left (count a) (count t) (count e) s r e₂ e₃ some in
          let to_t = joined (count p) (count a) (count t) x s e₁ e₂ in
          straight (count b) (count c) x s r d (2 ^ 149) (count (mix_at p q b c t)) (count f) (count k) (count (mix_at a e f k t))
          (line_at p q t b c wp wq wt wb wc pt tq (x + s) (r + d) to_t (joined (count t) (count e) (count q) r d e₃ e₄) (also x s r d n))
          (line_at p q a b c wp wq wa wb wc pa aq x (s + r + d) e₁ (joined (count a) (count e) (count q) (s + r) d (joined (count a) (count t) (count e) s r e₂ e₃) e₄) (whole x s r d n))
          (at_third (x + s + r) d (joined (count p) (count t) (count e) (x + s) r to_t e₃) e₄)
          (line_at a e t f k wa we wt unit_a wk at te s r e₂ e₃ n) n
