-- Four stores one after the other write a colour. Assumes nothing.
use mathlib.Core.Path.{◌≡◌, ◌∙◌}
use mathlib.Core.List.{List}
use Prim.Native.Nat.{ℕ, suc, ◌+◌}
use native.Mathlib.Omega.{arith}
use lib.ListN.{set}
use lib.Seq.{sets}
use lib.Ieee.{Float}
use Rattle.blend.specs.Channels.{channels_of}
use Rattle.blend.specs.declared.Rgba.{Rgba}

pub four_stores : (out a b d e : List Float) (k : ℕ) (c : Rgba) → a ≡ set out k c.r → b ≡ set a (k + 1) c.g → d ≡ set b (k + 2) c.b → e ≡ set d (k + 3) c.a
    → e ≡ sets out k (channels_of c)
four_stores out a b d e k c p q r s =
    let one : k + 1 ≡ suc k = omega arith in
    let two : k + 2 ≡ suc (suc k) = omega arith in
    let three : k + 3 ≡ suc (suc (suc k)) = omega arith in
    s ∙ rw (r, q, p, one, two, three)
