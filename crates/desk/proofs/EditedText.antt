-- The theorem of the tool: a text with an `edit` prints the stop lines of the text with the changed stop and no `edit`, and the same first line but for the number of evaluations. Assumes nothing.
use Prim.Native.Nat.{ℕ, zero, suc, ◌+◌, ◌*◌, ◌≤◌, ◌<◌}
use native.Mathlib.Decide.{dec_le}
use native.Mathlib.Omega.{arith}
use mathlib.Core.Path.{◌≡◌, refl, sym, ap, ap₂, ◌∙◌}
use mathlib.Core.Bool.{Bool, true, false, cond, ◌&&◌}
use mathlib.Core.List.{List, [], ◌∷◌}
use lib.ListN.{length, get_or}
use lib.Dec.{leb}
use lib.Ieee.{Float, nan, inf, lt}
use lib.Ieee.Scale.{finite}
use Rattle.refusals.specs.Refusals.{misshapen, not_finite, falling}
use Rattle.blend.specs.declared.Rgba.{Rgba}
use Rattle.blend.specs.declared.Stop.{Stop}
use Rattle.blend.proofs.FiniteLists.{finite_each}
use Rattle.stops.specs.Lent.{Ramp, ramp_of}
use Rattle.stops.specs.Stops.{pos_at, colour_at, finite_rgba, each_stop, stops_check}
use Rattle.stops.specs.declared.Kind.{Kind}
use Rattle.stops.specs.declared.Checked.{Checked}
use Rattle.stops.specs.declared.Checked.TheVariants as checked
use Rattle.gradient.specs.Ramp.{is_gimp, check_of, min_of, max_of, colour_of}
use Rattle.thinning.specs.Kept.{kept_of, refusal_of, list_evaluations}
use Rattle.blend.specs.Channels.{colours_of, positions_in, channels_in}
use Rattle.sampling.specs.Lent.{Held}
use Rattle.sampling.specs.Sampling.{and_then, far_of, shape_check, sample_check, held_check, fresh, fresh_evaluations, sample_answer, sample_held}
use Rattle.linearize.specs.Desk.{points_in, flatten_evaluations}
use Rattle.sampling.proofs.Checks.{ramp_fine}
use Rattle.refresh.specs.editing.Edited.{changed, edited}
use Rattle.refresh.specs.editing.Rules.{edit_check}
use Rattle.refresh.specs.RefreshDesk.{new_evaluations}
use Rattle.refresh.specs.declared.editing.Edit.{Edit}
use Rattle.refresh.specs.declared.editing.Edit.TheVariants.{Colour}
use Rattle.entries.specs.declared.fields.Recolour.{Recolour}
use Rattle.refresh.proofs.editing.Recoloured.{colour_other, colour_new, changed-length}
use Rattle.refresh.proofs.editing.EditRules.{colour_fine}
use Rattle.refresh.proofs.editing.EditSound.{edit_sound}
use Rattle.refresh.proofs.Theorem.{refresh_passes, fresh-renewed}
use Rattle.entries.specs.Input.{input, most_kept, input_of}
use Rattle.writing.specs.Printed.{refused_text}
use Rattle.desk.specs.Recoloured.{recoloured, SameStopLines}
use Rattle.desk.specs.Tool.{list_room, made_text, fresh_text, relist_text, edit_text, blank, input_text, desk_of}
use Rattle.std.specs.Prelude.{Some, None}
use Rattle.entries.proofs.Inputs.{length_positions, length_channels}
use Rattle.desk.proofs.Plain.{read_finite}
use Rattle.desk.proofs.Heads.{same_text, same_answers}

-- ---- the changed stops as they are lent
same_positions : (ss : List Stop) (k : ℕ) (c : Rgba) → positions_in (recoloured ss k c) ≡ positions_in ss
unfolding positions_in recoloured
same_positions [] k c = refl
same_positions (s ∷ ss) zero c = refl
same_positions (s ∷ ss) (suc k) c = ap (λ (l : List Float). s.position ∷ l) (same_positions ss k c)

same_count : (ss : List Stop) (k : ℕ) (c : Rgba) → length (recoloured ss k c) ≡ length ss
unfolding recoloured
same_count [] k c = refl
same_count (s ∷ ss) zero c = refl
same_count (s ∷ ss) (suc k) c = ap suc (same_count ss k c)

changed_channels : (ss : List Stop) (k : ℕ) (c : Rgba) → k < length ss → channels_in (recoloured ss k c) ≡ changed (channels_in ss) k c
unfolding channels_in recoloured changed
changed_channels [] k c h = absurd (omega arith)
changed_channels (s ∷ ss) zero c h = refl
changed_channels (s ∷ ss) (suc k) c h =
    let e : 4 * suc k ≡ suc (suc (suc (suc (4 * k)))) = omega arith in
    let w = s.colour in
    rw e (ap (λ (l : List Float). w.r ∷ w.g ∷ w.b ∷ w.a ∷ l) (changed_channels ss k c (omega arith)))

-- ---- the same refusals 1 to 5: a finite colour stands where a finite one stood
module _ (cs : List Float) (k : ℕ) (c : Rgba) (there : 4 * k + 4 ≤ length cs) (old : finite_rgba (colour_at cs k) ≡ true) (new : finite_rgba c ≡ true) where
  finite_same : (i : ℕ) → finite_rgba (colour_at (changed cs k c) i) ≡ finite_rgba (colour_at cs i)
  finite_same i = go (dec_le i k) (dec_le k i) where
    go : Dec (i ≤ k) → Dec (k ≤ i) → finite_rgba (colour_at (changed cs k c) i) ≡ finite_rgba (colour_at cs i)
    go (yes a) (yes b) =
        let e : i ≡ k = omega arith in
        ap finite_rgba (ap (colour_at (changed cs k c)) e ∙ colour_new cs k c there) ∙ new ∙ sym (ap (λ (j : ℕ). finite_rgba (colour_at cs j)) e ∙ old)
    go (no a) d = ap finite_rgba (colour_other cs k c i (λ e. a (omega arith)))
    go (yes a) (no b) = ap finite_rgba (colour_other cs k c i (λ e. b (omega arith)))

  each_same : (left i : ℕ) (prev : Float) (ps : List Float) → each_stop left i prev ps (changed cs k c) ≡ each_stop left i prev ps cs
  unfolding each_stop
  each_same zero i prev ps = refl
  each_same (suc left) i prev ps =
      ap₂ (λ (t : Bool) (x : Checked). cond (finite (pos_at ps i) && t) (cond (lt (pos_at ps i) prev) (checked.Refused falling) x) (checked.Refused not_finite))
      (finite_same i) (each_same left (suc i) (pos_at ps i) ps)

module _ (ramp : Ramp) (k : ℕ) (c : Rgba) (there : 4 * k + 4 ≤ length ramp.channels) (old : finite_rgba (colour_at ramp.channels k) ≡ true) (new : finite_rgba c ≡ true) (g : is_gimp ramp.kind ≡ false) where
  check_same : check_of (edited ramp (Colour k c)) ≡ check_of ramp
  unfolding check_of stops_check
  check_same = rw (g, changed-length ramp.channels k c, each_same ramp.channels k c there old new (length ramp.positions) 0 (inf true) ramp.positions)

  sampling_same : (was : Held) → held_check (edited ramp (Colour k c)) was ≡ held_check ramp was
  unfolding sample_check
  sampling_same was = ap (λ (x : Checked). and_then x (shape_check (min_of ramp) (max_of ramp) (length was.rows) (length was.counts) (length was.marks))) check_same

-- ---- the edit
module _ (ramp : Ramp) (e : Edit) (asked : Float) (was : Held) (same : held_check (edited ramp e) was ≡ held_check ramp was) (allowed : edit_check ramp e ≡ checked.Fine) where
  edit_refused : {n : ℕ} → held_check ramp was ≡ checked.Refused n → edit_text ramp e asked was ≡ fresh_text (edited ramp e) asked was
  unfolding edit_text sample_answer fresh_text made_text
  edit_refused h = rw (same ∙ h, h)

  edit_done : held_check ramp was ≡ checked.Fine → SameStopLines (edit_text ramp e asked was) (fresh_text (edited ramp e) asked was)
  unfolding edit_text sample_answer sample_held relist_text fresh_text made_text
  edit_done fine =
      let g = colour_of (edited ramp e) in
      let far = far_of asked in
      let ts = points_in (edited ramp e) (fresh (edited ramp e) asked) in
      let ok = edit_sound ramp e (ramp_fine ramp _ _ _ fine) allowed in
      rw (same ∙ fine, fine, refresh_passes ramp e asked was fine allowed, fresh-renewed ramp e ok asked)
      (same_answers (refusal_of g far list_room ts) (length (kept_of g far ts)) (fresh_evaluations ramp asked + (new_evaluations ramp e asked + list_evaluations g far ts)) (flatten_evaluations (edited ramp e) asked) (kept_of g far ts) (colours_of g (kept_of g far ts)))

  pub edit_fresh : SameStopLines (edit_text ramp e asked was) (fresh_text (edited ramp e) asked was)
  edit_fresh = go (held_check ramp was) refl where
    go : (x : Checked) → held_check ramp was ≡ x → SameStopLines (edit_text ramp e asked was) (fresh_text (edited ramp e) asked was)
    go (checked.Refused n) h = same_text (edit_refused h)
    go checked.Fine h = edit_done h

-- ---- the tool
same_either : (t : Bool) (a b c : List ℕ) → SameStopLines a b → SameStopLines (cond t a c) (cond t b c)
same_either true a b c h = h
same_either false a b c h = same_text refl

-- s has an edit of a stop that is there; s' has the same stops with that one changed, and no edit
pub edited_text : (s s' : List ℕ) {kind : Kind} {asked : Float} {stops : List Stop} {e : Recolour} → input_of s ≡ input kind asked stops (Some e) → e.stop < length stops → input_of s' ≡ input kind asked (recoloured stops e.stop e.colour) None → SameStopLines (desk_of s) (desk_of s')
unfolding desk_of input_text
edited_text s s' {kind} {asked} {stops} {e} i h j =
    let f = read_finite s i in
    let ps = positions_in stops in
    let cs = channels_in stops in
    let k = e.stop in
    let wide = length_channels stops in
    let each : (n : ℕ) → n < 4 * length stops → finite (get_or cs n nan) ≡ true = λ n l. finite_each cs f.channels_fine n (omega arith) in
    let there : 4 * k + 4 ≤ length cs = omega arith in
    let old : finite_rgba (colour_at cs k) ≡ true = rw (each (4 * k) (omega arith), each (4 * k + 1) (omega arith), each (4 * k + 2) (omega arith), each (4 * k + 3) (omega arith)) in
    let short : k < length ps = omega (arith, length_positions stops) in
    let ramp = ramp_of kind ps cs [] in
    rw (i, j, same_count stops k e.colour, same_positions stops k e.colour, changed_channels stops k e.colour h)
    (same_either (leb (length stops) most_kept) _ _ (refused_text misshapen)
    (edit_fresh ramp (Colour k e.colour) asked blank (sampling_same ramp k e.colour there old f.colour_fine f.kind_stops blank) (sym (colour_fine kind ps k e.colour f.kind_fine short f.colour_fine))))
