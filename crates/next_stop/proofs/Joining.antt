-- Calls chained from the start give the whole list: its stops one after the other, its refusal, its evaluations. Each theorem is of any results that the
-- contracts of `thin` and `next_stop` allow. Assumes nothing.
use mathlib.Core.Path.{◌≡◌, refl, sym, ap, ◌∙◌, subst}
use mathlib.Core.List.{List, [], ◌∷◌}
use mathlib.Core.Logic.{◌⊎◌, ⊎_elim}
use Prim.Native.Nat.{ℕ, zero, suc, ◌+◌, ◌*◌, ◌≤◌}
use native.Mathlib.Omega.{arith}
use lib.ListN.{length, drop, get_or, length-map}
use lib.Seq.{sets}
use lib.Ieee.{Float}
use Rattle.float.specs.F32.{f0}
use Rattle.blend.specs.Channels.{colours_of}
use Rattle.blend.proofs.Channels.{length_colours}
use Rattle.stops.specs.declared.Checked.{Checked}
use Rattle.stops.specs.declared.Checked.TheVariants as checked
use Rattle.stops.specs.Lent.{Ramp, change}
use Rattle.gradient.specs.Ramp.{max_of, colour_of}
use Rattle.sampling.specs.Lent.{Held}
use Rattle.sampling.specs.Midpoints.{Gradient, Far}
use Rattle.sampling.specs.Sampling.{far_of}
use Rattle.records.specs.Fitness.{thin_check}
use Rattle.thinning.specs.Kept.{thinned, weighed, kept_of, weighed_of, list_evaluations, refusal_from, refusal_of, positions_written, channels_written}
use Rattle.places.specs.Places.{first_place, point_at}
use Rattle.places.proofs.Following.{first_within, first_before, list_head, list_most, list_some}
use Rattle.linearize.specs.Lent.{Output}
use Rattle.linearize.specs.Desk.{answer_by, listed_of, number_of_listed, number_by, points_in, room, thin_output}
use Rattle.linearize.specs.Promises.{Thins}
use Rattle.linearize.specs.declared.Listed.{Listed}
use Rattle.linearize.specs.declared.Listed.TheVariants as listed
use Rattle.linearize.proofs.Bounds.{stops_bound}
use Rattle.linearize.proofs.Calls.{kept_room}
use Rattle.linearize.proofs.Checks.{ready}
use Rattle.next_stop.specs.First.{points_after}
use Rattle.next_stop.specs.Step.{is_within, stop_with, first_next}
use Rattle.next_stop.specs.Single.{Early}
use Rattle.next_stop.specs.Chain.{Chained, ListTold, stops_at, faults_from, faults_of, Broken}
use Rattle.next_stop.specs.declared.ListPlace.TheVariants as place
use Rattle.next_stop.specs.declared.Handed.{Handed}
use Rattle.next_stop.proofs.Numbers.{thin_early, none_late}
use Rattle.next_stop.proofs.Chaining.{told_from, fault_in, none_yet, Tells, step_is, then_tells, tells_from}
use Rattle.next_stop.proofs.Faults.{same_fault, fault_not_seven, no_seven, all_told, some_told, positions_are, channels_are, written_front}

-- ---- a list that was made
done_means : (c : Checked) (k s v n e : ℕ) → listed.Done n e ≡ answer_by c k s v → (c ≡ checked.Fine) × ((k ≡ 0) × ((n ≡ s) × (e ≡ v)))
done_means checked.Fine zero s v n e h = (refl, (refl, (ap stops h, ap evaluations h)))
  where
    stops : Listed → ℕ
    stops (listed.Done a b) = a
    stops (listed.Refused a) = 0

    evaluations : Listed → ℕ
    evaluations (listed.Done a b) = b
    evaluations (listed.Refused a) = 0
done_means checked.Fine (suc k) s v n e h = let z : ◌≡◌ {A = ℕ} 0 1 = cc in absurd (omega arith)
done_means (checked.Refused r) k s v n e h = let z : ◌≡◌ {A = ℕ} 0 1 = cc in absurd (omega arith)

module _ (ramp : Ramp) (asked : Float) (was : Held) where
  abbrev g : Gradient
  g = colour_of ramp

  abbrev far : Far
  far = far_of asked

  abbrev ts : List Float
  ts = points_in ramp was

  abbrev first : Float
  first = point_at was.rows (max_of ramp) first_place

  module _ (fine : thin_check ramp asked was ≡ checked.Fine) where
    ts_head : ts ≡ first ∷ drop 1 ts
    unfolding point_at
    ts_head = list_head was.rows was.counts (max_of ramp) (ready ramp asked was fine) first refl

    -- the points kept are the first, and those after it
    kept_is : kept_of g far ts ≡ first ∷ thinned g far first (points_after was.rows was.counts (max_of ramp) first_place)
    unfolding kept_of
    kept_is = ap (kept_of g far) ts_head ∙ rw (first_before was.rows was.counts (max_of ramp) (ready ramp asked was fine))

    weighed_is : weighed_of g far ts ≡ 0 + weighed g far first (points_after was.rows was.counts (max_of ramp) first_place)
    unfolding weighed_of
    weighed_is = ap (weighed_of g far) ts_head ∙ rw (first_before was.rows was.counts (max_of ramp) (ready ramp asked was fine)) (omega arith)

    -- the steps from the start tell the points kept, whole
    whole : (hs : List Handed) → Chained ramp asked was place.Start hs → Tells g first (kept_of g far ts) (weighed_of g far ts) hs
    unfolding Chained is_within
    whole [] c = record { told = none_yet (told_from g first (kept_of g far ts)); spent = λ z l. absurd (omega (arith, ap length kept_is)) }
    whole (h ∷ hs) c =
        let p = points_after was.rows was.counts (max_of ramp) first_place in
        rw (kept_is, weighed_is)
        (then_tells ramp asked was fine (first_next g far was.rows was.counts (max_of ramp)) (thinned g far first p) (weighed g far first p) h hs
        (step_is ramp asked was fine place.Start h refl c.0) c.1
        (tells_from ramp asked was fine hs first_place (first_within was.rows was.counts (max_of ramp) (ready ramp asked was fine))))

    refusal_is : (n : ℕ) → refusal_of g far n ts ≡ refusal_from g n 0 first (kept_of g far ts)
    unfolding refusal_of
    refusal_is n = ap (λ (l : List Float). refusal_from g n 0 (get_or l 0 f0) (kept_of g far ts)) ts_head

    -- with room for 4,609 stops the whole form's refusal is the first fault: there is no 7
    list_not_seven : (n : ℕ) → 4609 ≤ n → refusal_of g far n ts ≡ 7 → ⊥
    list_not_seven n h z =
        let ok = ready ramp asked was fine in
        fault_not_seven g first (kept_of g far ts)
        (sym (no_seven g n 0 first (kept_of g far ts) (omega (arith, h, stops_bound g far ts (omega (arith, list_some was.rows was.counts (max_of ramp) ok)) (list_most was.rows was.counts (max_of ramp) ok)))) ∙ sym (refusal_is n) ∙ z)

    faults_are : faults_of (stops_at g (kept_of g far ts)) ≡ faults_from first (stops_at g (kept_of g far ts))
    unfolding faults_of
    faults_are = subst (λ (l : List Float). faults_of (stops_at g l) ≡ faults_from first (stops_at g l)) (sym kept_is) refl

  -- ---- the theorems

  -- `thin` with room for 4,609 stops is not refused with 7
  pub room_enough : (out out' : Output) (r : Listed) → 4609 ≤ room out → Thins ramp asked was (change out out') r → number_of_listed r ≡ 7 → ⊥
  room_enough out out' r h w z = by (thin_check ramp asked was) refl (thin_early ramp asked was) (sym w.told.number ∙ z)
    where
      by : (c : Checked) → thin_check ramp asked was ≡ c → Early c → number_by c (refusal_of g far (room out) ts) ≡ 7 → ⊥
      by checked.Fine fine early e = list_not_seven fine (room out) h e
      by (checked.Refused n) e early y = none_late n early (omega (arith, y)) (omega (arith, y))

  module _ (out out' : Output) (hs : List Handed) (c : Chained ramp asked was place.Start hs) where
    -- where `thin` makes a list, the steps tell its stops, and then nothing more; and they spend what it spends
    pub joined : (n e : ℕ) → Thins ramp asked was (change out out') (listed.Done n e) → ListTold n e out' hs
    unfolding thin_output positions_written channels_written list_evaluations
    joined n e w =
        let ks = kept_of g far ts in
        let d = done_means (thin_check ramp asked was) (refusal_of g far (room out) ts) (length ks) (list_evaluations g far ts) n e w.told.answer in
        let fits = kept_room g far (room out) ts d.1.0 in
        let fault : fault_in g first ks ≡ 0 =
        sym (same_fault g (room out) 0 first ks (λ z. absurd (omega (arith, z, sym (refusal_is d.0 (room out)) ∙ d.1.0)))) ∙ sym (refusal_is d.0 (room out)) ∙ d.1.0 in
        let t = whole d.0 hs c in
        let ps : out'.positions ≡ sets out.positions 0 ks = ap (λ (o : Output). o.positions) w.output ∙ rw (d.0, d.1.0) in
        let cs : out'.channels ≡ sets out.channels 0 (colours_of g ks) = ap (λ (o : Output). o.channels) w.output ∙ rw (d.0, d.1.0) in
        let four : 4 * n ≡ length (colours_of g ks) = omega (arith, d.1.1.0, length_colours g ks) in
        record {
          stops = stops_at g ks;
          many = length-map ks (λ (x : Float). stop_with x (g x)) ∙ sym d.1.1.0;
          positions = positions_are g ks ∙ sym (rw (ps, d.1.1.0) (written_front ks out.positions (omega (arith, fits))));
          channels = channels_are g ks ∙ sym (rw (cs, four) (written_front (colours_of g ks) out.channels (omega (arith, fits, four, d.1.1.0))));
          told = t.told ∙ rw (all_told g first ks fault);
          spent = λ l. t.spent fault (omega (arith, l, d.1.1.0)) ∙ sym d.1.1.1;
        }

    broken_by : (k : ℕ) → thin_check ramp asked was ≡ checked.Fine → (k ≡ 7 → ⊥) → (r : ℕ) → refusal_of g far (room out) ts ≡ r
        → listed.Refused k ≡ listed_of r (length (kept_of g far ts)) (list_evaluations g far ts) → Broken k (stops_at g (kept_of g far ts)) hs
    broken_by k fine nz zero e h = let z : ◌≡◌ {A = ℕ} 0 1 = cc in absurd (omega arith)
    broken_by k fine nz (suc r) e h =
        let kr : k ≡ suc r = ap number_of_listed h in
        let fault : fault_in g first (kept_of g far ts) ≡ suc r =
        sym (same_fault g (room out) 0 first (kept_of g far ts) (λ z. nz (kr ∙ sym e ∙ refusal_is fine (room out) ∙ z))) ∙ sym (refusal_is fine (room out)) ∙ e in
        let f = some_told g r first (kept_of g far ts) fault in
        rw kr
        (record {
          before = f.before;
          there = f.there;
          none_before = λ i l. rw (faults_are fine) (f.none_before i l);
          faulty = rw (faults_are fine) f.faulty;
          told = (whole fine hs c).told ∙ rw f.told;
        })

    -- where it refuses a stop with 8 or 9, they tell the stops before that one, then the refusal, and then nothing more
    pub broken : (k : ℕ) → (k ≡ 8) ⊎ (k ≡ 9) → Thins ramp asked was (change out out') (listed.Refused k) → Broken k (stops_at g (kept_of g far ts)) hs
    broken k eight w = by (thin_check ramp asked was) refl (thin_early ramp asked was) w.told.answer
      where
        late : (7 ≤ k) × (k ≤ 9)
        late = ⊎_elim (λ q. (omega (arith, q), omega (arith, q))) (λ q. (omega (arith, q), omega (arith, q))) eight

        by : (x : Checked) → thin_check ramp asked was ≡ x → Early x → listed.Refused k ≡ answer_by x (refusal_of g far (room out) ts) (length (kept_of g far ts)) (list_evaluations g far ts)
            → Broken k (stops_at g (kept_of g far ts)) hs
        by checked.Fine fine early h =
            broken_by k fine (λ z. ⊎_elim (λ q. absurd (omega (arith, q, z))) (λ q. absurd (omega (arith, q, z))) eight) (refusal_of g far (room out) ts) refl h
        by (checked.Refused n) e early h = let kn : k ≡ n = ap number_of_listed h in absurd (none_late n early (omega (arith, kn, late.0)) (omega (arith, kn, late.1)))
