-- Equal hues go the full turn, both ways. Assumes nothing.
use mathlib.Core.Path.{◌≡◌, refl}
use mathlib.Core.Bool.{Bool, true, false, not, cond}
use Prim.Native.Nat.{ℕ, ◌-◌, ◌*◌}
use native.Mathlib.Omega.{arith}
use lib.Dec.{T}
use lib.IntN.{ℤ}
use lib.Ieee.{Float, nan, inf, fin, binary32, up, down, round, sum, add, sub, neg, lt, of_bits}
use lib.Ieee.Scale.{finite}
use borrow.Author.Tests.{le-ltb}
use Rattle.float.specs.F32.{◌⊕◌, ◌⊖◌, ◌⊗◌}
use Rattle.float.proofs.Order.{lt_irrefl}
use Rattle.float.proofs.Finite.{round-zero}
use Rattle.hsv.specs.Circle.{turn, way}
use Rattle.hsv.proofs.SignedSums.{o, dens}

-- a number less itself
none : (s : Bool) (a : ℕ) (e : ℤ) → sum binary32 s a (not s) a (down e * down e) ≡ o
unfolding sum
none true a e = simp (le-ltb a a (omega arith)) (round-zero false (a - a) (down e * down e) (omega arith) (dens e e))
none false a e = simp (le-ltb a a (omega arith)) (round-zero false (a - a) (down e * down e) (omega arith) (dens e e))

less_itself : (x : Float) → T (finite x) → x ⊖ x ≡ o
unfolding sub add neg
less_itself nan h = absurd h
less_itself (inf s) h = absurd h
less_itself (fin s m e) h = none s (m * up e * down e) e

whole : turn ⊖ o ≡ turn
unfolding sub add neg of_bits round
whole = refl

-- the way from a hue to itself: the turn, times t, and taken back where it is past the end
pub full_turn : (h end t : Float) → T (finite h) → way h h end t ≡ cond (lt end (h ⊕ turn ⊗ t)) (h ⊕ turn ⊗ t ⊖ turn) (h ⊕ turn ⊗ t)
unfolding way
full_turn h end t f = simp (lt_irrefl h, less_itself h f, whole)
