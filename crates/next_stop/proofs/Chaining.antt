-- Steps one after the other: they tell the points kept, up to the first that is refused. Assumes nothing.
use mathlib.Core.Path.{◌≡◌, refl, sym, ap, ap₂, ◌∙◌, subst}
use mathlib.Core.Bool.{Bool, true, false}
use mathlib.Core.List.{List, [], ◌∷◌}
use Prim.Native.Nat.{ℕ, zero, suc, ◌+◌, ◌*◌, ◌≤◌, ◌<◌}
use native.Mathlib.Omega.{arith}
use borrow.Author.Tests.{lt-ltb, ltb-true, ltb-false}
use lib.Dec.{ltb}
use lib.ListN.{length, drop, get_or, length-drop, drop_of_length-le}
use lib.Seq.{get_or-drop, drop-drop}
use lib.Ieee.{Float, nan}
use Rattle.blend.specs.declared.Stop.{Stop}
use Rattle.stops.specs.declared.Checked.TheVariants as checked
use Rattle.stops.specs.Lent.{Ramp}
use Rattle.gradient.specs.Ramp.{max_of, colour_of}
use Rattle.sampling.specs.Lent.{Held}
use Rattle.sampling.specs.Midpoints.{Gradient, Far}
use Rattle.sampling.specs.Sampling.{far_of}
use Rattle.records.specs.Fitness.{thin_check}
use Rattle.thinning.specs.Kept.{stays, thinned, weighed, stop_refusal, first_refusal}
use Rattle.thinning.proofs.Walks.{passed, passed_weighed, kept, kept_weighed}
use Rattle.places.specs.Places.{list_of, next_place, point_at, points_before, InRecord, Ready}
use Rattle.places.specs.declared.RowPlace.{RowPlace}
use Rattle.places.proofs.Following.{point_is, before_next, next_within, more_follow, before_end}
use Rattle.linearize.proofs.Checks.{ready}
use Rattle.next_stop.specs.First.{First, first_kept, places_on, points_after}
use Rattle.next_stop.specs.Step.{is_within, placed_check, stop_with, list_place_of, handed_by, ended, Next, later_next, first_after, handed_at, handed_from, handed_of, HandsOut}
use Rattle.next_stop.specs.Chain.{Chained, told_by, spent_by, then_nothing}
use Rattle.next_stop.specs.declared.ListPlace.{ListPlace}
use Rattle.next_stop.specs.declared.ListPlace.TheVariants as place
use Rattle.next_stop.specs.declared.Told.{Told}
use Rattle.next_stop.specs.declared.Told.TheVariants as told
use Rattle.next_stop.specs.declared.Handed.{Handed}
use Rattle.next_stop.proofs.Walking.{first_passed, first-kept, first_last, from_place}
use Rattle.next_stop.proofs.Handing.{goes_on_after, ends_after}

-- ---- the first point kept is the first of the points kept
module _ (g : Gradient) (far : Far) where
  record FirstIs (f : First) (last : Float) (ts : List Float) : Type 0 where
    inside : f.passed < length ts
    kept : thinned g far last ts ≡ get_or ts f.passed nan ∷ thinned g far (get_or ts f.passed nan) (drop (suc f.passed) ts)
    counted : weighed g far last ts ≡ f.tried + weighed g far (get_or ts f.passed nan) (drop (suc f.passed) ts)

  first-is : (last x : Float) (ts : List Float) → FirstIs (first_kept g far last (x ∷ ts)) last (x ∷ ts)
  unfolding thinned weighed
  first-is last x [] = rw (first_last g far last x) (record { inside = omega arith; kept = refl; counted = refl })
  first-is last x (y ∷ rest) = by (stays g far last x y) refl (first-is last y rest)
    where
      by : (b : Bool) → stays g far last x y ≡ b → FirstIs (first_kept g far last (y ∷ rest)) last (y ∷ rest) → FirstIs (first_kept g far last (x ∷ y ∷ rest)) last (x ∷ y ∷ rest)
      by true h ih =
          rw (first-kept g far last x y rest h) (record { inside = omega arith; kept = kept g far last x y rest h; counted = kept_weighed g far last x y rest h })
      by false h ih =
          rw (first_passed g far last x y rest h)
          (record {
            inside = omega (arith, ih.inside);
            kept = passed g far last x y rest h ∙ ih.kept;
            counted = passed_weighed g far last x y rest h ∙ omega (arith, ih.counted);
          })

-- ---- the place after a place
module _ (rows : List Float) (counts : List ℕ) (max : Float) (ok : Ready rows counts) where
  not_last : (p : RowPlace) → InRecord counts p → points_before counts p + 1 < length (list_of rows counts max) → p.row < 36
  not_last p w h = by (ltb p.row 36) refl
    where
      by : (b : Bool) → ltb p.row 36 ≡ b → p.row < 36
      by true e = ltb-true p.row 36 e
      by false e = let k = ltb-false p.row 36 e in absurd (omega (arith, before_end rows counts max ok p w (λ l. absurd (omega (arith, k, l)))))

  on_within : (n : ℕ) (p : RowPlace) → InRecord counts p → points_before counts p + n < length (list_of rows counts max)
      → InRecord counts (places_on counts n p) × (points_before counts (places_on counts n p) ≡ points_before counts p + n)
  unfolding places_on
  on_within zero p w h = (w, omega arith)
  on_within (suc n) p w h =
      let lt = not_last p w (omega arith) in
      let one = before_next rows counts max ok p w lt in
      let ih = on_within n (next_place counts p) (next_within rows counts max ok p w lt) (omega (arith, one)) in
      (ih.0, omega (arith, ih.1, one))

  module _ (g : Gradient) (far : Far) (p : RowPlace) (w : InRecord counts p) (lt : p.row < 36) where
    abbrev q : RowPlace
    q = (later_next g far rows counts max p).at

    abbrev tail : RowPlace → List Float
    tail = points_after rows counts max

    -- the next stop is the first of the points kept after p
    pub record NextIs : Type 0 where
      pub within : InRecord counts q
      pub kept : thinned g far (point_at rows max p) (tail p) ≡ point_at rows max q ∷ thinned g far (point_at rows max q) (tail q)
      pub counted : weighed g far (point_at rows max p) (tail p) ≡ (later_next g far rows counts max p).tried + weighed g far (point_at rows max q) (tail q)

    pub next_is : NextIs
    next_is =
        let n = (first_after g far rows counts max p).passed in
        let one = before_next rows counts max ok p w lt in
        let at : tail p ≡ point_at rows max (next_place counts p) ∷ drop (suc (points_before counts (next_place counts p))) (list_of rows counts max) =
        ap (λ (k : ℕ). drop k (list_of rows counts max)) (sym one) ∙ from_place rows counts max ok (next_place counts p) (next_within rows counts max ok p w lt) (omega (arith, one, more_follow rows counts max ok p w lt)) in
        let f : FirstIs g far (first_after g far rows counts max p) (point_at rows max p) (tail p) =
        subst (λ (l : List Float). FirstIs g far (first_kept g far (point_at rows max p) l) (point_at rows max p) l) (sym at) (first-is g far (point_at rows max p) _ _) in
        let there : InRecord counts q × (points_before counts q ≡ points_before counts (next_place counts p) + n) = on_within n (next_place counts p) (next_within rows counts max ok p w lt) (omega (arith, one, f.inside, length-drop (points_before counts p + 1) (list_of rows counts max))) in
        let here : points_before counts p + 1 + n ≡ points_before counts q = omega (arith, there.1, one) in
        let past : points_before counts p + 1 + suc n ≡ points_before counts q + 1 = omega (arith, there.1, one) in
        let item : get_or (tail p) n nan ≡ point_at rows max q =
        get_or-drop (points_before counts p + 1) (list_of rows counts max) n nan
        ∙ ap (λ (k : ℕ). get_or (list_of rows counts max) k nan) here ∙ point_is rows counts max ok q there.0 in
        let rest : drop (suc n) (tail p) ≡ tail q =
        drop-drop (suc n) (points_before counts p + 1) (list_of rows counts max) ∙ ap (λ (k : ℕ). drop k (list_of rows counts max)) past in
        record {
          within = there.0;
          kept = f.kept ∙ ap₂ (λ (t : Float) (l : List Float). t ∷ thinned g far t l) item rest;
          counted = f.counted ∙ ap₂ (λ (t : Float) (l : List Float). (later_next g far rows counts max p).tried + weighed g far t l) item rest;
        }

-- ---- what is told of the points kept
abbrev told1 : ℕ → Stop → List Told → List Told
told1 zero s more = told.Stop s ∷ more
told1 (suc k) s more = told.Refused (suc k) ∷ []

-- the points kept, the one before them at `last`: stops up to the first fault, and that
unfoldable pub told_from : Gradient → Float → List Float → List Told
told_from g last [] = []
told_from g last (t ∷ ts) = told1 (stop_refusal 1 0 last t (g t)) (stop_with t (g t)) (told_from g t ts)

unfoldable pub fault_in : Gradient → Float → List Float → ℕ
fault_in g last [] = 0
fault_in g last (t ∷ ts) = first_refusal (stop_refusal 1 0 last t (g t)) (fault_in g t ts)

pub none_yet : (ts : List Told) → [] ≡ then_nothing ts 0
unfolding then_nothing
none_yet [] = refl
none_yet (t ∷ ts) = refl

-- the steps hs tell the points ks, with n weighed
pub record Tells (g : Gradient) (last : Float) (ks : List Float) (n : ℕ) (hs : List Handed) : Type 0 where
  pub told : told_by hs ≡ then_nothing (told_from g last ks) (length hs)
  pub spent : fault_in g last ks ≡ 0 → length ks ≤ length hs → spent_by hs ≡ 3 * n + length ks

module _ (ramp : Ramp) (asked : Float) (was : Held) (fine : thin_check ramp asked was ≡ checked.Fine) where
  abbrev g : Gradient
  g = colour_of ramp

  abbrev far : Far
  far = far_of asked

  abbrev at : RowPlace → Float
  at = point_at was.rows (max_of ramp)

  abbrev rest : RowPlace → List Float
  rest = points_after was.rows was.counts (max_of ramp)

  abbrev handed : ListPlace → Handed
  handed = handed_from g far was.rows was.counts (max_of ramp)

  pub step_is : (p : ListPlace) (h : Handed) → is_within was.counts p ≡ true → HandsOut ramp asked was p h → h ≡ handed p
  unfolding handed_of placed_check
  step_is p h e w = w.handed ∙ rw (e, fine)

  -- nothing more comes, however often asked
  pub ended_tells : (hs : List Handed) → Chained ramp asked was place.Ended hs → (told_by hs ≡ then_nothing [] (length hs)) × (spent_by hs ≡ 0)
  unfolding Chained spent_by then_nothing is_within
  ended_tells [] c = (refl, refl)
  ended_tells (h ∷ hs) c =
      let e : h ≡ ended = step_is place.Ended h refl c.0 in
      let ih = ended_tells hs (subst (λ (x : Handed). Chained ramp asked was x.place hs) e c.1) in
      (ap₂ ◌∷◌ (ap (λ (x : Handed). x.told) e) ih.0, omega (arith, ap (λ (x : Handed). x.evaluations) e, ih.1))

  -- a step, and those after it
  module _ (n : Next) (ks : List Float) (m : ℕ) (h : Handed) (hs : List Handed) where
    by_fault : (k : ℕ) → stop_refusal 1 0 n.last (at n.at) (g (at n.at)) ≡ k
        → h ≡ handed_by k (stop_with (at n.at) (g (at n.at))) (3 * n.tried + 1) (list_place_of n.at) → Chained ramp asked was h.place hs
        → (Chained ramp asked was (list_place_of n.at) hs → Tells g (at n.at) ks m hs) → Tells g n.last (at n.at ∷ ks) (n.tried + m) (h ∷ hs)
    unfolding told_from fault_in then_nothing spent_by
    by_fault zero f e c ih =
        let t = ih (subst (λ (x : Handed). Chained ramp asked was x.place hs) e c) in
        record {
          told = ap₂ ◌∷◌ (ap (λ (x : Handed). x.told) e) t.told ∙ rw f;
          spent = λ z l. omega (arith, ap (λ (x : Handed). x.evaluations) e, t.spent (rw f at z) (omega arith));
        }
    by_fault (suc k) f e c ih =
        let t = ended_tells hs (subst (λ (x : Handed). Chained ramp asked was x.place hs) e c) in
        record {
          told = ap₂ ◌∷◌ (ap (λ (x : Handed). x.told) e) t.0 ∙ rw f;
          spent = λ z l. absurd (let y : suc k ≡ 0 = rw f at z in omega (arith, y));
        }

    pub then_tells : h ≡ handed_at g far was.rows was.counts (max_of ramp) n → Chained ramp asked was h.place hs
        → (Chained ramp asked was (list_place_of n.at) hs → Tells g (at n.at) ks m hs) → Tells g n.last (at n.at ∷ ks) (n.tried + m) (h ∷ hs)
    unfolding handed_at
    then_tells e c ih = by_fault (stop_refusal 1 0 n.last (at n.at) (g (at n.at))) refl e c ih

  -- from the stop at p on
  abbrev Rest : RowPlace → List Handed → Type 0
  Rest p = Tells g (at p) (thinned g far (at p) (rest p)) (weighed g far (at p) (rest p))

  tells_end : (hs : List Handed) (p : RowPlace) → InRecord was.counts p → 36 ≤ p.row → Chained ramp asked was (list_place_of p) hs → Rest p hs
  unfolding thinned weighed told_from
  tells_end hs p w ge c =
      let n = before_end was.rows was.counts (max_of ramp) (ready ramp asked was fine) p w (λ k. absurd (omega (arith, ge, k))) in
      let none : rest p ≡ [] = drop_of_length-le (list_of was.rows was.counts (max_of ramp)) {i = points_before was.counts p + 1} (omega (arith, n)) in
      let t = ended_tells hs (subst (λ (x : ListPlace). Chained ramp asked was x hs) (sym (ends_after p ge)) c) in
      rw none (record { told = t.0; spent = λ z l. t.1 })

  tells_none : (p : RowPlace) → InRecord was.counts p → p.row < 36 → Rest p []
  tells_none p w lt =
      let e = (next_is was.rows was.counts (max_of ramp) (ready ramp asked was fine) g far p w lt).kept in
      record { told = none_yet (told_from g (at p) (thinned g far (at p) (rest p))); spent = λ z l. absurd (omega (arith, ap length e)) }

  tells_next : (h : Handed) (hs : List Handed) (p : RowPlace) → InRecord was.counts p → p.row < 36 → Chained ramp asked was (list_place_of p) (h ∷ hs)
      → ((q : RowPlace) → InRecord was.counts q → Chained ramp asked was (list_place_of q) hs → Rest q hs) → Rest p (h ∷ hs)
  unfolding Chained is_within
  tells_next h hs p w lt c ih =
      let x = next_is was.rows was.counts (max_of ramp) (ready ramp asked was fine) g far p w lt in
      let n = later_next g far was.rows was.counts (max_of ramp) p in
      let c' : HandsOut ramp asked was (place.After p.row p.index) h × Chained ramp asked was h.place hs = (subst (λ (y : ListPlace). HandsOut ramp asked was y h) (sym (goes_on_after p lt)) c.0, c.1) in
      let e = step_is (place.After p.row p.index) h (rw (lt-ltb p.row 36 lt, lt-ltb p.index (get_or was.counts p.row 0) (w.in_row lt))) c'.0 in
      rw (x.kept, x.counted) (then_tells n (thinned g far (at n.at) (rest n.at)) (weighed g far (at n.at) (rest n.at)) h hs e c'.1 (ih n.at x.within))

  tells_nothing : (p : RowPlace) (b : Bool) → ltb p.row 36 ≡ b → InRecord was.counts p → Chained ramp asked was (list_place_of p) [] → Rest p []
  tells_nothing p true e w c = tells_none p w (ltb-true p.row 36 e)
  tells_nothing p false e w c = tells_end [] p w (ltb-false p.row 36 e) c

  tells_more : (h : Handed) (hs : List Handed) (p : RowPlace) (b : Bool) → ltb p.row 36 ≡ b → InRecord was.counts p → Chained ramp asked was (list_place_of p) (h ∷ hs)
      → ((q : RowPlace) → InRecord was.counts q → Chained ramp asked was (list_place_of q) hs → Rest q hs) → Rest p (h ∷ hs)
  tells_more h hs p true e w c ih = tells_next h hs p w (ltb-true p.row 36 e) c ih
  tells_more h hs p false e w c ih = tells_end (h ∷ hs) p w (ltb-false p.row 36 e) c

  pub tells_from : (hs : List Handed) (p : RowPlace) → InRecord was.counts p → Chained ramp asked was (list_place_of p) hs → Rest p hs
  tells_from [] p w c = tells_nothing p (ltb p.row 36) refl w c
  tells_from (h ∷ hs) p w c = tells_more h hs p (ltb p.row 36) refl w c (λ q w' c'. tells_from hs q w' c')
