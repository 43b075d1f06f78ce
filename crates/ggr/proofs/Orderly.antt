-- A file that is read is orderly: what it leaves in the store runs from 0 to 1, each segment in order and joined to the next, and so has no gap. Assumes nothing.
use Prim.Native.Nat.{ℕ, zero, suc, ◌+◌, ◌-◌, ◌*◌, ◌/◌, ◌<◌}
use native.Mathlib.Omega.{arith}
use mathlib.Core.Path.{◌≡◌, sym, ap, subst, ◌∙◌}
use mathlib.Core.Bool.{true, ◌&&◌}
use mathlib.Core.List.{List, [], ◌∷◌}
use lib.ListN.{length, take, drop}
use lib.Dec.{T}
use lib.Seq.{take_at}
use lib.Ieee.{Float, le, eq}
use Rattle.float.specs.F32.{f0, f1}
use Rattle.float.proofs.Flags.{both_l, both_r}
use Rattle.float.proofs.Order.{as_T}
use Rattle.blend.specs.declared.Rgba.{Rgba}
use Rattle.stops.specs.Lent.{Change}
use Rattle.stops.specs.Stops.{pos_at}
use Rattle.gradient.specs.declared.gimp.Segment.{Segment}
use Rattle.gradient.specs.Gimp.{left_at, middle_at, right_at, segment_found}
use Rattle.gradient.specs.Joined.{Joined, Inside}
use Rattle.gradient.proofs.NoGap.{no_gap}
use Rattle.segment.specs.declared.Rules.{Rules}
use Rattle.segment.specs.Store.{Store, segment_positions}
use Rattle.ggr.specs.declared.Answer.TheVariants.{Read}
use Rattle.ggr.specs.File.{FileRead, found, joins, file_of, flat, store_left, room_in, Reading, positions_left}
use Rattle.ggr.proofs.Filling.{flat_length, each_p}
use Rattle.ggr.proofs.Given.{orderly, given, found_by}

-- the positions of the segments, one after the other
abbrev positions_of : List Segment → List Float
positions_of gs = flat segment_positions gs

-- what stands in a later segment stands three places further on
later : (g : Segment) (gs : List Segment) (i k : ℕ) → pos_at (positions_of (g ∷ gs)) (3 * suc i + k) ≡ pos_at (positions_of gs) (3 * i + k)
unfolding flat segment_positions
later g gs i k =
    let e : 3 * suc i + k ≡ suc (suc (suc (3 * i + k))) = omega arith in
    ap (pos_at (positions_of (g ∷ gs))) e

later_left : (g : Segment) (gs : List Segment) (i : ℕ) → left_at (positions_of (g ∷ gs)) (suc i) ≡ left_at (positions_of gs) i
unfolding flat segment_positions
later_left g gs i =
    let e : 3 * suc i ≡ suc (suc (suc (3 * i))) = omega arith in
    ap (pos_at (positions_of (g ∷ gs))) e

-- ---- what a segment that joins has
module _ (end : Float) (g : Segment) (gs : List Segment) (h : orderly end (g ∷ gs) ≡ true) where
  head_joins : joins end g ≡ true
  unfolding orderly
  head_joins = both_l (joins end g) (orderly g.right gs) h

  tail_orderly : orderly g.right gs ≡ true
  unfolding orderly
  tail_orderly = both_r (joins end g) (orderly g.right gs) h

  in_order : (le g.left g.middle && le g.middle g.right) ≡ true
  unfolding joins
  in_order = both_r (eq g.left end) (le g.left g.middle && le g.middle g.right) head_joins

  starts_there : T (eq (left_at (positions_of (g ∷ gs)) 0) end)
  unfolding joins flat segment_positions
  starts_there = as_T _ (both_l (eq g.left end) (le g.left g.middle && le g.middle g.right) head_joins)

  left_middle : T (le (left_at (positions_of (g ∷ gs)) 0) (middle_at (positions_of (g ∷ gs)) 0))
  unfolding flat segment_positions
  left_middle = as_T _ (both_l (le g.left g.middle) (le g.middle g.right) in_order)

  middle_right : T (le (middle_at (positions_of (g ∷ gs)) 0) (right_at (positions_of (g ∷ gs)) 0))
  unfolding flat segment_positions
  middle_right = as_T _ (both_r (le g.left g.middle) (le g.middle g.right) in_order)

-- ---- and so each of them
middles : (end : Float) (gs : List Segment) (i : ℕ) → orderly end gs ≡ true → i < length gs
    → T (le (left_at (positions_of gs) i) (middle_at (positions_of gs) i)) × T (le (middle_at (positions_of gs) i) (right_at (positions_of gs) i))
middles end [] i h l = absurd (omega arith)
middles end (g ∷ gs) zero h l = (left_middle end g gs h, middle_right end g gs h)
middles end (g ∷ gs) (suc i) h l =
    let w = middles g.right gs i (tail_orderly end g gs h) (omega arith) in
    (rw (later_left g gs i, later g gs i 1) w.0, rw (later g gs i 1, later g gs i 2) w.1)

joints : (end : Float) (gs : List Segment) (i : ℕ) → orderly end gs ≡ true → suc i < length gs → T (eq (left_at (positions_of gs) (suc i)) (right_at (positions_of gs) i))
unfolding flat segment_positions
joints end [] i h l = absurd (omega arith)
joints end (g ∷ []) i h l = absurd (omega arith)
joints end (g ∷ k ∷ gs) zero h l = starts_there g.right k gs (tail_orderly end g (k ∷ gs) h)
joints end (g ∷ k ∷ gs) (suc i) h l =
    rw (later_left g (k ∷ gs) (suc i), later g (k ∷ gs) i 2) (joints g.right (k ∷ gs) i (tail_orderly end g (k ∷ gs) h) (omega arith))

last_end : (end : Float) (g : Segment) (gs : List Segment) → orderly end (g ∷ gs) ≡ true → T (eq (right_at (positions_of (g ∷ gs)) (length gs)) f1)
unfolding orderly flat segment_positions
last_end end g [] h = as_T _ (tail_orderly end g [] h)
last_end end g (k ∷ gs) h = rw (later g (k ∷ gs) (length gs) 2) (last_end g.right k gs (tail_orderly end g (k ∷ gs) h))

-- ---- what is left in the store
three : (gs : List Segment) → length (positions_of gs) / 3 ≡ length gs
three gs = let e = flat_length segment_positions 3 each_p gs in omega (arith, e)

joined : (gs : List Segment) → 0 < length gs → orderly f0 gs ≡ true → Joined (positions_of gs)
joined [] l h = absurd (omega arith)
joined (g ∷ gs) l h =
    let e = three (g ∷ gs) in
    let z : length (positions_of (g ∷ gs)) / 3 - 1 ≡ length gs = omega (arith, e) in
    record {
      some = omega (arith, e);
      from_zero = starts_there f0 g gs h;
      to_one = subst (λ (i : ℕ). T (eq (right_at (positions_of (g ∷ gs)) i) f1)) (sym z) (last_end f0 g gs h);
      middle_after = λ i q. (middles f0 (g ∷ gs) i h (omega (arith, e))).0;
      middle_before = λ i q. (middles f0 (g ∷ gs) i h (omega (arith, e))).1;
      joint = λ i q. joints f0 (g ∷ gs) i h (omega (arith, e));
    }

module _ (rules : Rules) (fg bg : Rgba) (s : List ℕ) (store : Change Store) (n : ℕ) (w : Reading rules fg bg s store (Read n)) where
  left_of : (gs : List Segment) → file_of rules (room_in store.entry) fg bg s ≡ found gs → length gs ≡ n → positions_left n store ≡ positions_of gs
  unfolding store_left
  left_of gs e q =
      let d = drop (length (positions_of gs)) store.entry.positions in
      ap (λ (x : Store). take (3 * n) x.positions) (w.left ∙ ap (λ (o : FileRead). store_left o store.entry) e)
      ∙ take_at (positions_of gs) d (3 * n) (flat_length segment_positions 3 each_p gs ∙ ap (λ (m : ℕ). 3 * m) q)

  -- the segments of a file that is read run from 0 to 1, each in order and joined to the next
  pub read_joined : Joined (positions_left n store)
  read_joined =
      let f = found_by (file_of rules (room_in store.entry) fg bg s) n w.answer in
      let v = given rules fg bg (room_in store.entry) s f.0 f.1 in
      subst Joined (sym (left_of f.0 f.1 f.2)) (joined f.0 v.some v.order)

  -- so that no colour in a gap can be asked of it
  pub read_has_no_gap : (t : Float) → T (le f0 t) → T (le t f1) → Inside (positions_left n store) t (segment_found (positions_left n store) t)
  read_has_no_gap t above under = no_gap (positions_left n store) read_joined t above under
