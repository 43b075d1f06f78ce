-- `gradient`: every call on a ramp of any kind or on GIMP segments.
use contract.Lifetimes.{Lfts}
use Rattle.promises.specs.Law.{Coincide, coincide, answer}
use Rattle.gradient.proofs.is_gimp.Reads as of_is_gimp
use Rattle.gradient.proofs.Ramp.check.Reads as of_check
use Rattle.gradient.proofs.Ramp.min.Reads as of_min
use Rattle.gradient.proofs.Ramp.max.Reads as of_max
use Rattle.gradient.proofs.Ramp.colour_at.Reads as of_colour_at
use Rattle.gradient.proofs.gimp.find_segment.Reads as of_find_segment
use Rattle.gradient.proofs.blending.place_along.Reads as of_place_along
use Rattle.gradient.proofs.blending.blend.Reads as of_blend
use Rattle.gradient.proofs.blending.blend_wave.Reads as of_blend_wave
use Rattle.gradient.proofs.hued.is_costly.Reads as of_is_costly
use Rattle.gradient.proofs.hued.blend_costly.Reads as of_blend_costly
use Rattle.gradient.proofs.gimp.is_off_domain.Reads as of_is_off_domain
use Rattle.gradient.proofs.carried.is_carried.Reads as of_is_carried
use Rattle.gradient.proofs.gimp.check.Reads as of_check_segments
use Rattle.gradient.proofs.gimp.colour_at.Reads as of_colour_at_segments

pub is_gimp : (κs : Lfts 0) (a : _) → Coincide (of_is_gimp.Learnt κs a) answer
is_gimp κs a = coincide (λ r e w. w)

pub check : (κs : Lfts 2) (a : _) → Coincide (of_check.Learnt κs a) answer
check κs a = coincide (λ r e w. w.answer)

pub min : (κs : Lfts 2) (a : _) → Coincide (of_min.Learnt κs a) answer
min κs a = coincide (λ r e w. w)

pub max : (κs : Lfts 2) (a : _) → Coincide (of_max.Learnt κs a) answer
max κs a = coincide (λ r e w. w)

pub colour_at : (κs : Lfts 2) (a : _) → Coincide (of_colour_at.Learnt κs a) answer
colour_at κs a = coincide (λ r e w. w)

pub is_carried : (κs : Lfts 0) (a : _) → Coincide (of_is_carried.Learnt κs a) answer
is_carried κs a = coincide (λ r e w. w)

pub check_segments : (κs : Lfts 3) (a : _) → Coincide (of_check_segments.Learnt κs a) answer
check_segments κs a = coincide (λ r e w. w.answer)

pub find_segment : (κs : Lfts 1) (a : _) → Coincide (of_find_segment.Learnt κs a) answer
find_segment κs a = coincide (λ r e w. w)

pub place_along : (κs : Lfts 0) (a : _) → Coincide (of_place_along.Learnt κs a) answer
place_along κs a = coincide (λ r e w. w)

pub blend : (κs : Lfts 0) (a : _) → Coincide (of_blend.Learnt κs a) answer
blend κs a = coincide (λ r e w. w)

pub blend_wave : (κs : Lfts 0) (a : _) → Coincide (of_blend_wave.Learnt κs a) answer
blend_wave κs a = coincide (λ r e w. w)

pub is_off_domain : (κs : Lfts 0) (a : _) → Coincide (of_is_off_domain.Learnt κs a) answer
is_off_domain κs a = coincide (λ r e w. w)

pub colour_at_segments : (κs : Lfts 3) (a : _) → Coincide (of_colour_at_segments.Learnt κs a) answer
colour_at_segments κs a = coincide (λ r e w. w)

pub is_costly : (κs : Lfts 0) (a : _) → Coincide (of_is_costly.Learnt κs a) answer
is_costly κs a = coincide (λ r e w. w)

pub blend_costly : (κs : Lfts 0) (a : _) → Coincide (of_blend_costly.Learnt κs a) answer
blend_costly κs a = coincide (λ r e w. w)
