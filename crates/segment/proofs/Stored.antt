-- Stores one after the other put a segment in its lists. Assumes nothing.
use Prim.Native.Nat.{ℕ, suc, ◌+◌, ◌*◌}
use native.Mathlib.Omega.{arith}
use mathlib.Core.Path.{◌≡◌, sym, ap, ◌∙◌}
use mathlib.Core.List.{List}
use lib.ListN.{set}
use lib.Seq.{sets}
use lib.Ieee.{Float}
use Rattle.blend.specs.Channels.{channels_of}
use Rattle.blend.specs.declared.Rgba.{Rgba}
use Rattle.stops.specs.Lent.{change}
use Rattle.gradient.specs.declared.gimp.Segment.{Segment}
use Rattle.slices.proofs.Stores.{sets-append}
use Rattle.segment.specs.Store.{segment_positions, segment_channels, segment_codes, store_of, Stores}
use Rattle.segment.specs.inner.Steps.{ends_channels}

pub three_stores : (out a b d : List Float) (k : ℕ) (g : Segment) → a ≡ set out k g.left → b ≡ set a (k + 1) g.middle → d ≡ set b (k + 2) g.right
    → d ≡ sets out k (segment_positions g)
unfolding segment_positions
three_stores out a b d k g p q r =
    let one : k + 1 ≡ suc k = omega arith in
    let two : k + 2 ≡ suc (suc k) = omega arith in
    r ∙ rw (q, p, one, two)

pub two_colours : (out a b : List Float) (k : ℕ) (l r : Rgba) → a ≡ sets out k (channels_of l) → b ≡ sets a (k + 4) (channels_of r) → b ≡ sets out k (ends_channels l r)
two_colours out a b k l r p q = q ∙ ap (λ (x : List Float). sets x (k + 4) (channels_of r)) p ∙ sym (sets-append out k (channels_of l) (channels_of r))

pub two_codes : (out a b : List ℕ) (k : ℕ) (g : Segment) → a ≡ set out k g.blending → b ≡ set a (k + 1) g.colouring → b ≡ sets out k (segment_codes g)
unfolding segment_codes
two_codes out a b k g p q =
    let one : k + 1 ≡ suc k = omega arith in
    q ∙ rw (p, one)

pub three_lists : (i : ℕ) (g : Segment) (p c p' c' : List Float) (k k' : List ℕ)
    → p' ≡ sets p (3 * i) (segment_positions g) → c' ≡ sets c (8 * i) (ends_channels g.lcolor g.rcolor) → k' ≡ sets k (2 * i) (segment_codes g)
    → Stores i g (change (store_of p c k) (store_of p' c' k'))
unfolding segment_channels
three_lists i g p c p' c' k k' ep ec ek = rw (ep, ec, ek)
