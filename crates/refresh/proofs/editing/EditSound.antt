-- An edit that passes, of a ramp that is fine: the ramp with the edit made is fine, has the ends that it had, and outside the stretch the two have one colour. Assumes nothing.
use mathlib.Core.Path.{◌≡◌, refl, sym, ap, ◌∙◌}
use mathlib.Core.Bool.{Bool, true, false, not, ◌||◌, true≢false}
use mathlib.Core.List.{List, [], ◌∷◌}
use Prim.Native.Nat.{ℕ, suc, ◌+◌, ◌-◌, ◌*◌, ◌≤◌, ◌<◌}
use native.Mathlib.Decide.{dec_le}
use native.Mathlib.Nat.{lt_of_not-le}
use native.Mathlib.Omega.{arith}
use lib.ListN.{length}
use lib.Ieee.{Float, nan, lt}
use lib.Ieee.Scale.{finite}
use Rattle.refusals.specs.Limits.{most_stops}
use Rattle.float.proofs.Order.{not_lt_from_le}
use Rattle.blend.specs.declared.Rgba.{Rgba}
use Rattle.blend.specs.Channels.{channels_of}
use Rattle.stops.specs.Lent.{Ramp}
use Rattle.stops.specs.Stops.{pos_at, colour_at, finite_rgba, is_sharp}
use Rattle.stops.specs.declared.Kind.{Kind}
use Rattle.stops.specs.declared.Kind.TheVariants.{Linear, Smoothstep, Sharp, Basis, CatmullRom, Gimp, GimpSaved}
use Rattle.stops.specs.declared.Checked.TheVariants.{Fine}
use Rattle.stops.proofs.Valid.{Valid}
use Rattle.gradient.specs.Ramp.{is_gimp, check_of, min_in, max_in, min_of, max_of, colour_of}
use Rattle.gradient.proofs.Valid.{valid, passes}
use Rattle.refresh.specs.editing.Edited.{spliced, stops_after, edited}
use Rattle.refresh.specs.editing.Rules.{refreshable, movable, edit_check}
use Rattle.refresh.specs.reach.Stretch.{stretch_between}
use Rattle.refresh.specs.editing.Reached.{stretch_of, away}
use Rattle.refresh.specs.editing.Sound.{Sound}
use Rattle.refresh.specs.declared.editing.Edit.{Edit}
use Rattle.refresh.specs.declared.editing.Edit.TheVariants.{Colour, Move, Add, Remove}
use Rattle.refresh.proofs.editing.Splices.{in_splice, splice-length, colour_in}
use Rattle.refresh.proofs.editing.Recoloured.{changed-length, recoloured_fine}
use Rattle.refresh.proofs.editing.ColourAway.{colour_away}
use Rattle.refresh.proofs.editing.Shared.{Shared, first_same, last_same, same_colour}
use Rattle.refresh.proofs.editing.SharedStops.{shared_colours, shared}
use Rattle.refresh.proofs.editing.StillValid.{still_valid}
use Rattle.refresh.proofs.editing.EditRules.{Fits, Recolours, Moves, Adds, Removes, colour_passes, move_passes, add_passes, remove_passes}

-- ---- the kinds
of_stops : (kind : Kind) → refreshable kind ≡ true → is_gimp kind ≡ false
of_stops Linear h = refl
of_stops Smoothstep h = refl
of_stops Sharp h = refl
of_stops Basis h = refl
of_stops CatmullRom h = refl
of_stops Gimp h = sym h
of_stops GimpSaved h = sym h

straight_stops : (kind : Kind) → movable kind ≡ true → is_gimp kind ≡ false
straight_stops Linear h = refl
straight_stops Smoothstep h = refl
straight_stops Sharp h = refl
straight_stops Basis h = refl
straight_stops CatmullRom h = refl
straight_stops Gimp h = sym h
straight_stops GimpSaved h = sym h

-- any number of stops will do
any_number : (kind : Kind) → movable kind ≡ true → (b : Bool) → (not (is_sharp kind) || b) ≡ true
any_number Linear h b = refl
any_number Smoothstep h b = refl
any_number Sharp h b = absurd (true≢false (sym h))
any_number Basis h b = refl
any_number CatmullRom h b = refl
any_number Gimp h b = refl
any_number GimpSaved h b = refl

-- ---- a stop moved, added or removed
module _ (ramp : Ramp) (fine : check_of ramp ≡ Fine) (straight : movable ramp.kind ≡ true) where
  stops : is_gimp ramp.kind ≡ false
  stops = straight_stops ramp.kind straight

  was_valid : Valid ramp
  was_valid = valid ramp stops fine

  -- the stops before k and after the `gone` ones at k are shared, `put` stands between, and there are as many stops as a ramp may have
  module _ (e : Edit) (i j j' : ℕ) (same : Shared ramp.positions ramp.channels (edited ramp e).positions (edited ramp e).channels i j j')
      (most : length (edited ramp e).positions ≤ most_stops) (wide : length (edited ramp e).channels ≡ 4 * length (edited ramp e).positions)
      (new : (h : ℕ) → i < h → h < j' → (finite (pos_at (edited ramp e).positions h) ≡ true) × (finite_rgba (colour_at (edited ramp e).channels h) ≡ true))
      (step : (h : ℕ) → i ≤ h → h < j' → lt (pos_at (edited ramp e).positions (suc h)) (pos_at (edited ramp e).positions h) ≡ false) where
    now_valid : Valid (edited ramp e)
    now_valid =
        still_valid ramp was_valid (edited ramp e).positions (edited ramp e).channels i j j' same new step
        (record {
          least = omega (arith, same.as_many, same.there, same.apart);
          most = most;
          four = wide;
          codeless = was_valid.sized.codeless;
          paired = any_number ramp.kind straight _;
        })

    now_fine : check_of (edited ramp e) ≡ Fine
    now_fine = passes (edited ramp e) stops now_valid

    min_same : min_of (edited ramp e) ≡ min_of ramp
    unfolding min_in
    min_same = rw stops (first_same ramp.positions ramp.channels (edited ramp e).positions (edited ramp e).channels i j j' same).0

    max_same : max_of (edited ramp e) ≡ max_of ramp
    unfolding max_in
    max_same = rw stops (last_same ramp.positions ramp.channels (edited ramp e).positions (edited ramp e).channels i j j' same).0

    sound : stretch_of ramp.kind ramp.positions e ≡ stretch_between ramp.positions i j → length (edited ramp e).positions ≡ stops_after (length ramp.positions) e → Sound ramp e
    sound is many = record { stops = stops; still_fine = now_fine; same_min = min_same; same_max = max_same; agree = agrees; as_many = many; four = wide ∙ ap (λ (n : ℕ). 4 * n) many }
      where
        agrees : (t : Float) → away ramp e t ≡ true → colour_of ramp t ≡ colour_of (edited ramp e) t
        agrees t h =
            unfold colour_of in
            rw stops
            (same_colour ramp.positions ramp.channels (edited ramp e).positions (edited ramp e).channels i j j' same ramp.kind straight was_valid.rising now_valid.rising t (rw is at h))

-- one stop stands at k, and fits between the stop before and stop j of the ramp as it was
module _ (ps qs : List Float) (k j : ℕ) (p : Float) (some : 1 ≤ k) (fits : Fits ps (k - 1) j p)
    (at : pos_at qs k ≡ p) (before : pos_at qs (k - 1) ≡ pos_at ps (k - 1)) (after : pos_at qs (k + 1 + 0) ≡ pos_at ps (j + 0)) where
  is_there : (h : ℕ) → k - 1 < h → h < k + 1 → h ≡ k
  is_there h a b = omega arith

  put_finite : (h : ℕ) → k - 1 < h → h < k + 1 → finite (pos_at qs h) ≡ true
  put_finite h a b = ap (λ (m : ℕ). finite (pos_at qs m)) (is_there h a b) ∙ ap finite at ∙ fits.number

  put_step : (h : ℕ) → k - 1 ≤ h → h < k + 1 → lt (pos_at qs (suc h)) (pos_at qs h) ≡ false
  put_step h a b = go (dec_le k h)
    where
      go : Dec (k ≤ h) → lt (pos_at qs (suc h)) (pos_at qs h) ≡ false
      go (yes c) =
          let e : h ≡ k = omega arith in
          let f : k + 1 + 0 ≡ suc k = omega arith in
          let g : j + 0 ≡ j = omega arith in
          let next : pos_at qs (suc k) ≡ pos_at ps j = rw (f, g) at after in
          rw (e, next, at) fits.below
      go (no c) =
          let l : h < k = lt_of_not-le c in
          let e : h ≡ k - 1 = omega arith in
          let f : suc (k - 1) ≡ k = omega arith in
          rw (e, f, at, before) fits.above

module _ (ramp : Ramp) (fine : check_of ramp ≡ Fine) (k : ℕ) where
  move_sound : (p : Float) → Moves ramp.kind ramp.positions k p → Sound ramp (Move k p)
  move_sound p w =
      let ok = was_valid ramp fine w.straight in
      let ps = ramp.positions in
      let cs = ramp.channels in
      let qs = spliced ps k 1 (p ∷ []) in
      let some = w.inner.0 in
      let there = w.inner.1 in
      let same = shared ps cs k 1 some there ok.sized.four (p ∷ []) cs (λ h l. refl) (λ h. refl) in
      let long = splice-length ps k 1 (p ∷ []) (omega arith) in
      let e : k + 0 ≡ k = omega arith in
      let at : pos_at qs k ≡ p = rw e at (in_splice ps k 1 (p ∷ []) (omega arith) nan 0 (omega arith)) in
      let before = (same.up_to (k - 1) (omega arith)).0 in
      let after = (same.from_on 0).0 in
      sound ramp fine w.straight (Move k p) (k - 1) (k + 1) (k + 1) same (omega (arith, ok.sized.most)) (omega (arith, ok.sized.four))
      (λ h a b. (put_finite ps qs k (k + 1) p some w.fits at before after h a b, ok.colour_finite h (omega arith)))
      (put_step ps qs k (k + 1) p some w.fits at before after)
      refl (omega arith)

  add_sound : (p : Float) (colour : Rgba) → Adds ramp.kind ramp.positions k p colour → Sound ramp (Add k p colour)
  add_sound p colour w =
      let ok = was_valid ramp fine w.straight in
      let ps = ramp.positions in
      let cs = ramp.channels in
      let qs = spliced ps k 0 (p ∷ []) in
      let ds = spliced cs (4 * k) 0 (channels_of colour) in
      let some = w.next.0 in
      let there = w.next.1 in
      let wide = ok.sized.four in
      let z : k + 0 < length ps = omega arith in
      let colours = shared_colours ps cs k 0 some z wide 1 (channels_of colour) refl in
      let same = shared ps cs k 0 some z wide (p ∷ []) ds colours.0 colours.1 in
      let long = splice-length ps k 0 (p ∷ []) (omega arith) in
      let long' = splice-length cs (4 * k) 0 (channels_of colour) (omega arith) in
      let e : k + 0 ≡ k = omega arith in
      let at : pos_at qs k ≡ p = rw e at (in_splice ps k 0 (p ∷ []) (omega arith) nan 0 (omega arith)) in
      let before = (same.up_to (k - 1) (omega arith)).0 in
      let after = rw e at (same.from_on 0).0 in
      sound ramp fine w.straight (Add k p colour) (k - 1) k (k + 1) (rw e at same) (omega (arith, w.room)) (omega arith)
      (λ h a b. (put_finite ps qs k k p some w.fits at before after h a b, ap (λ (m : ℕ). finite_rgba (colour_at ds m)) (is_there ps qs k k p some w.fits at before after h a b) ∙ ap finite_rgba (colour_in cs k 0 colour (omega arith)) ∙ w.numbers))
      (put_step ps qs k k p some w.fits at before after)
      refl (omega arith)

  remove_sound : Removes ramp.kind ramp.positions k → Sound ramp (Remove k)
  remove_sound w =
      let ok = was_valid ramp fine w.straight in
      let ps = ramp.positions in
      let cs = ramp.channels in
      let qs = spliced ps k 1 [] in
      let some = w.inner.0 in
      let there = w.inner.1 in
      let wide = ok.sized.four in
      let colours = shared_colours ps cs k 1 some there wide 0 [] refl in
      let e : k + 0 ≡ k = omega arith in
      let same = shared ps cs k 1 some there wide [] (spliced cs (4 * k) 4 []) colours.0 colours.1 in
      let long = splice-length ps k 1 [] (omega arith) in
      let long' = splice-length cs (4 * k) 4 [] (omega arith) in
      let before = (same.up_to (k - 1) (omega arith)).0 in
      let after : pos_at qs (k + 0 + 0) ≡ pos_at ps (k + 1 + 0) = (same.from_on 0).0 in
      sound ramp fine w.straight (Remove k) (k - 1) (k + 1) k (rw e at same) (omega (arith, ok.sized.most)) (omega arith)
      (λ h a b. absurd (omega arith))
      (λ h a b.
      let f : h ≡ k - 1 = omega arith in
      let g : suc (k - 1) ≡ k + 0 + 0 = omega arith in
      let i : k + 1 + 0 ≡ k + 1 = omega arith in
      rw (f, g, after, before, i) (not_lt_from_le (pos_at ps (k + 1)) (pos_at ps (k - 1)) (ok.rising (k - 1) (k + 1) (omega arith) there)))
      refl (omega arith)

  recolour_sound : (colour : Rgba) → Recolours ramp.kind ramp.positions k colour → Sound ramp (Colour k colour)
  recolour_sound colour w =
      let stops = of_stops ramp.kind w.stops in
      let ok = valid ramp stops fine in
      let there = w.there in
      record {
        stops = stops;
        still_fine = recoloured_fine ramp k colour (omega (arith, ok.sized.four)) w.number stops fine;
        same_min = refl;
        same_max = refl;
        agree = colour_away ramp k colour stops ok.rising there;
        as_many = refl;
        four = changed-length ramp.channels k colour ∙ ok.sized.four;
      }

pub edit_sound : (ramp : Ramp) (e : Edit) → check_of ramp ≡ Fine → edit_check ramp e ≡ Fine → Sound ramp e
edit_sound ramp (Colour k c) fine h = recolour_sound ramp fine k c (colour_passes ramp.kind ramp.positions k c h)
edit_sound ramp (Move k p) fine h = move_sound ramp fine k p (move_passes ramp.kind ramp.positions k p h)
edit_sound ramp (Add k p c) fine h = add_sound ramp fine k p c (add_passes ramp.kind ramp.positions k p c h)
edit_sound ramp (Remove k) fine h = remove_sound ramp fine k (remove_passes ramp.kind ramp.positions k h)
