-- The slices of a ramp, of a record and of outputs, from what a promise says of them whole. Assumes nothing.
use mathlib.Core.Path.{◌≡◌, ap}
use Rattle.stops.specs.Lent.{Ramp}
use Rattle.sampling.specs.Lent.{Held}
use Rattle.linearize.specs.Lent.{Output}

pub rows_of : {h k : Held} → h ≡ k → h.rows ≡ k.rows
rows_of e = ap (λ (x : Held). x.rows) e

pub counts_of : {h k : Held} → h ≡ k → h.counts ≡ k.counts
counts_of e = ap (λ (x : Held). x.counts) e

pub marks_of : {h k : Held} → h ≡ k → h.marks ≡ k.marks
marks_of e = ap (λ (x : Held). x.marks) e

pub positions_of : {o u : Output} → o ≡ u → o.positions ≡ u.positions
positions_of e = ap (λ (x : Output). x.positions) e

pub channels_of : {o u : Output} → o ≡ u → o.channels ≡ u.channels
channels_of e = ap (λ (x : Output). x.channels) e

pub ramp_positions : {x y : Ramp} → x ≡ y → x.positions ≡ y.positions
ramp_positions e = ap (λ (x : Ramp). x.positions) e

pub ramp_channels : {x y : Ramp} → x ≡ y → x.channels ≡ y.channels
ramp_channels e = ap (λ (x : Ramp). x.channels) e
