-- `blend`: the colour between two stops, by each kind.
use contract.Lifetimes.{Lfts}
use Rattle.promises.specs.Law.{Coincide, coincide, answer}
use Rattle.blend.proofs.utils.share.Reads as of_share
use Rattle.blend.proofs.linear.pair_colour.Reads as of_linear_pair
use Rattle.blend.proofs.smoothstep.pair_colour.Reads as of_smoothstep_pair
use Rattle.blend.proofs.sharp.pair_colour.Reads as of_sharp_pair
use Rattle.blend.proofs.basis.pair_colour.Reads as of_basis_pair
use Rattle.blend.proofs.catmull_rom.pair_colour.Reads as of_catmull_rom_pair
use Rattle.blend.proofs.catmull_rom.chords.Reads as of_chords
use Rattle.blend.proofs.catmull_rom.draw_segment.Reads as of_draw_segment
use Rattle.blend.proofs.catmull_rom.segment.Reads as of_segment
use Rattle.blend.proofs.catmull_rom.segment_at.Reads as of_segment_at
use Rattle.blend.proofs.utils.interpolate_linear.Reads as of_interpolate_linear
use Rattle.blend.proofs.utils.linspace.Reads as of_linspace
use Rattle.blend.proofs.utils.all_finite.Reads as of_all_finite

pub share : (κs : Lfts 0) (a : _) → Coincide (of_share.Learnt κs a) answer
share κs a = coincide (λ r e w. w)

pub linear_pair : (κs : Lfts 0) (a : _) → Coincide (of_linear_pair.Learnt κs a) answer
linear_pair κs a = coincide (λ r e w. w)

pub smoothstep_pair : (κs : Lfts 0) (a : _) → Coincide (of_smoothstep_pair.Learnt κs a) answer
smoothstep_pair κs a = coincide (λ r e w. w)

pub sharp_pair : (κs : Lfts 0) (a : _) → Coincide (of_sharp_pair.Learnt κs a) answer
sharp_pair κs a = coincide (λ r e w. w)

pub basis_pair : (κs : Lfts 0) (a : _) → Coincide (of_basis_pair.Learnt κs a) answer
basis_pair κs a = coincide (λ r e w. w)

pub catmull_rom_pair : (κs : Lfts 0) (a : _) → Coincide (of_catmull_rom_pair.Learnt κs a) answer
catmull_rom_pair κs a = coincide (λ r e w. w)

pub chords : (κs : Lfts 0) (a : _) → Coincide (of_chords.Learnt κs a) answer
chords κs a = coincide (λ r e w. w)

pub draw_segment : (κs : Lfts 0) (a : _) → Coincide (of_draw_segment.Learnt κs a) answer
draw_segment κs a = coincide (λ r e w. w)

pub segment : (κs : Lfts 0) (a : _) → Coincide (of_segment.Learnt κs a) answer
segment κs a = coincide (λ r e w. w)

pub segment_at : (κs : Lfts 0) (a : _) → Coincide (of_segment_at.Learnt κs a) answer
segment_at κs a = coincide (λ r e w. w)

pub interpolate_linear : (κs : Lfts 0) (a : _) → Coincide (of_interpolate_linear.Learnt κs a) answer
interpolate_linear κs a = coincide (λ r e w. w)

pub linspace : (κs : Lfts 0) (a : _) → Coincide (of_linspace.Learnt κs a) answer
linspace κs a = coincide (λ r e w. w)

pub all_finite : (κs : Lfts 1) (a : _) → Coincide (of_all_finite.Learnt κs a) answer
all_finite κs a = coincide (λ r e w. w)
