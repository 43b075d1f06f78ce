-- `stops`: every call on any slices at all.
use contract.Lifetimes.{Lfts}
use Rattle.promises.specs.Law.{Coincide, coincide, answer, ◌with◌, both}
use Rattle.stops.proofs.less.Reads as of_less
use Rattle.stops.proofs.channels.item.Reads as of_item
use Rattle.stops.proofs.channels.colour.Reads as of_colour
use Rattle.stops.proofs.channels.stop.Reads as of_stop
use Rattle.stops.proofs.rules.is_finite_colour.Reads as of_is_finite_colour
use Rattle.stops.proofs.rules.is_steady.Reads as of_is_steady
use Rattle.stops.proofs.rules.check.Reads as of_check
use Rattle.stops.proofs.search.below.Reads as of_below
use Rattle.stops.proofs.search.find_place.Reads as of_find_place
use Rattle.stops.proofs.between.left_of.Reads as of_left_of
use Rattle.stops.proofs.between.right_of.Reads as of_right_of
use Rattle.stops.proofs.between.colour_in.Reads as of_colour_in
use Rattle.stops.proofs.between.colour_at.Reads as of_colour_at
use Rattle.stops.proofs.channels.put_colour.Reads as of_put_colour
use Rattle.stops.proofs.near.is_between.Reads as of_is_between
use Rattle.stops.proofs.near.find_place.Reads as of_find_place_near
use Rattle.stops.proofs.near.pair_or.Reads as of_pair_or
use Rattle.stops.proofs.near.segment_for.Reads as of_segment_for
use Rattle.stops.proofs.near.segment_colour.Reads as of_segment_colour
use Rattle.stops.proofs.segments.is_catmull_rom.Reads as of_is_catmull_rom
use Rattle.stops.proofs.segments.fill.Reads as of_fill
use Rattle.stops.proofs.segments.segment.Reads as of_segment

pub less : (κs : Lfts 0) (a : _) → Coincide (of_less.Learnt κs a) answer
less κs a = coincide (λ r e w. w)

pub item : (κs : Lfts 1) (a : _) → Coincide (of_item.Learnt κs a) answer
item κs a = coincide (λ r e w. w)

pub colour : (κs : Lfts 1) (a : _) → Coincide (of_colour.Learnt κs a) answer
colour κs a = coincide (λ r e w. w)

pub stop : (κs : Lfts 2) (a : _) → Coincide (of_stop.Learnt κs a) answer
stop κs a = coincide (λ r e w. w)

pub is_finite_colour : (κs : Lfts 0) (a : _) → Coincide (of_is_finite_colour.Learnt κs a) answer
is_finite_colour κs a = coincide (λ r e w. w)

pub is_steady : (κs : Lfts 1) (a : _) → Coincide (of_is_steady.Learnt κs a) answer
is_steady κs a = coincide (λ r e w. w)

pub check : (κs : Lfts 3) (a : _) → Coincide (of_check.Learnt κs a) answer
check κs a = coincide (λ r e w. w.answer)

pub below : (κs : Lfts 0) (a : _) → Coincide (of_below.Learnt κs a) answer
below κs a = coincide (λ r e w. w.0)

pub find_place : (κs : Lfts 1) (a : _) → Coincide (of_find_place.Learnt κs a) answer
find_place κs a = coincide (λ r e w. w)

pub left_of : (κs : Lfts 1) (a : _) → Coincide (of_left_of.Learnt κs a) answer
left_of κs a = coincide (λ r e w. w)

pub right_of : (κs : Lfts 1) (a : _) → Coincide (of_right_of.Learnt κs a) answer
right_of κs a = coincide (λ r e w. w)

pub colour_in : (κs : Lfts 2) (a : _) → Coincide (of_colour_in.Learnt κs a) answer
colour_in κs a = coincide (λ r e w. w)

pub colour_at : (κs : Lfts 2) (a : _) → Coincide (of_colour_at.Learnt κs a) answer
colour_at κs a = coincide (λ r e w. w)

pub is_between : (κs : Lfts 1) (a : _) → Coincide (of_is_between.Learnt κs a) answer
is_between κs a = coincide (λ r e w. w)

pub find_place_near : (κs : Lfts 1) (a : _) → Coincide (of_find_place_near.Learnt κs a) answer
find_place_near κs a = coincide (λ r e w. w)

pub pair_or : (κs : Lfts 0) (a : _) → Coincide (of_pair_or.Learnt κs a) answer
pair_or κs a = coincide (λ r e w. w)

pub segment_for : (κs : Lfts 1) (a : _) → Coincide (of_segment_for.Learnt κs a) answer
segment_for κs a = coincide (λ r e w. w)

pub segment_colour : (κs : Lfts 2) (a : _) → Coincide (of_segment_colour.Learnt κs a) answer
segment_colour κs a = coincide (λ r e w. w)

-- the output
pub put_colour : (κs : Lfts 1) (a : _) → Coincide (of_put_colour.Learnt κs a) (λ r e. e.0.now)
put_colour κs a = coincide (λ r e w. w)

pub is_catmull_rom : (κs : Lfts 0) (a : _) → Coincide (of_is_catmull_rom.Learnt κs a) answer
is_catmull_rom κs a = coincide (λ r e w. w)

-- how many, and the table
pub fill : (κs : Lfts 2) (a : _) → Coincide (of_fill.Learnt κs a) (λ r e. r with e.1.1.1.0.now)
fill κs a = coincide (λ r e w. both w.many w.written)

pub segment : (κs : Lfts 2) (a : _) → Coincide (of_segment.Learnt κs a) answer
segment κs a = coincide (λ r e w. w)
