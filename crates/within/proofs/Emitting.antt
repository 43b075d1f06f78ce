-- The stops one after the other: what the whole list comes to stays the same from stop to stop. Assumes nothing.
use mathlib.Core.Path.{◌≡◌, refl, sym, ap, ◌∙◌}
use mathlib.Core.Bool.{Bool, true, false, cond}
use mathlib.Core.List.{List, [], ◌∷◌}
use Prim.Native.Nat.{ℕ, zero, suc, ◌+◌, ◌-◌, ◌≤◌, ◌<◌}
use native.Mathlib.Nat.{add-zero}
use native.Mathlib.Omega.{arith}
use borrow.Author.Tests.{le-leb, lt-leb, leb-true, leb-false}
use lib.Dec.{leb}
use lib.ListN.{length, drop}
use lib.Ieee.{Float}
use Rattle.refusals.specs.Refusals.{not_shown}
use Rattle.blend.specs.Channels.{colours_of}
use Rattle.stops.specs.declared.Window.{Window}
use Rattle.sampling.specs.Midpoints.{Gradient}
use Rattle.sampling.specs.inner.Steps.{Coloured}
use Rattle.sampling.specs.declared.Point.{Point}
use Rattle.thinning.specs.Kept.{stop_refusal, first_refusal}
use Rattle.thinning.specs.Walk.{Run, run, emit_by, emit_run, Outcome, comes_to}
use Rattle.thinning.specs.declared.Progress.{Progress}
use Rattle.thinning.proofs.Walks.{Emitted, emitted_as}
use Rattle.weighed.specs.Points.{Site}
use Rattle.within.specs.Shown.{Near, point_after, shown_to}
use Rattle.within.specs.Kept.{Kept, kept_at, step_from, kept_from, kept_all, positions_of, kept_refusal, kept_refusals}
use Rattle.within.specs.inner.Weighing.{sites_from, ColoursInHand, Ending, ending, EndsWith}
use Rattle.within.proofs.Arrays.{sites_length, sites_drop}
use Rattle.within.proofs.Reaching.{step_on}
use Rattle.within.proofs.Questions.{step_most}

-- a stop that is to be written: compared with itself
abbrev pub standing : Point → ℕ → Progress
standing b n = record { last = b; stops = n; tried = 0; refusal = 0 }

number_of : (k : ℕ) (r : Run) (p : Point) → (emit_by k r p).progress.refusal ≡ k
number_of zero r p = refl
number_of (suc k) r p = refl

-- ---- a stop
module _ (g : Gradient) (room n : ℕ) (ps cs : List Float) (b : Point) (cb : Coloured g b) (s : Progress) (ps' cs' : List Float)
    (e : run s ps' cs' ≡ emit_run room (run (standing b n) ps cs) b) where
  done : Emitted g room (run (standing b n) ps cs) b (run s ps' cs')
  done = emitted_as g room (run (standing b n) ps cs) (run s ps' cs') b e cb

  number : s.refusal ≡ stop_refusal room n b.t b.t (g b.t)
  unfolding emit_run
  number = ap (λ (r : Run). r.progress.refusal) e ∙ number_of (stop_refusal room n b.t b.t b.colour) (run (standing b n) ps cs) b ∙ rw cb

  pub last_is : s.refusal ≡ 0 → s.last ≡ b
  last_is z = done.last z

  module _ (sh : Bool) (ks : List Kept) where
    abbrev whole : Ending
    whole = ending g room n ps cs (kept_at b.t sh ∷ ks)

    pub stop_refused : (s.refusal ≡ 0 → ⊥) → EndsWith whole s ps' cs'
    unfolding ending kept_refusals kept_refusal
    stop_refused nz = record { refused = by s.refusal refl; same = λ z. absurd (nz z) }
      where
        by : (k : ℕ) → s.refusal ≡ k → s.refusal ≡ first_refusal (first_refusal (stop_refusal room n b.t b.t (g b.t)) (cond sh 0 not_shown)) (kept_refusals g room (n + 1) ks)
        by zero z = absurd (nz z)
        by (suc k) z = let f : stop_refusal room n b.t b.t (g b.t) ≡ suc k = sym number ∙ z in rw f z

    pub stop_unshown : s.refusal ≡ 0 → sh ≡ false → (m : ℕ) → EndsWith whole (record { last = b; stops = m; tried = 0; refusal = not_shown }) ps' cs'
    unfolding ending kept_refusals kept_refusal
    stop_unshown z h m = let f : stop_refusal room n b.t b.t (g b.t) ≡ 0 = sym number ∙ z in record { refused = rw (f, h); same = λ k. absurd (omega arith) }

    pub stop_on : s.refusal ≡ 0 → sh ≡ true → ending g room s.stops ps' cs' ks ≡ whole
    unfolding ending kept_refusals kept_refusal comes_to
    stop_on z h =
        let f : stop_refusal room n b.t b.t (g b.t) ≡ 0 = sym number ∙ z in
        let o = done.done z (positions_of ks) 0 in
        let m : s.stops ≡ n + 1 = omega (arith, ap (λ (x : Outcome). x.stops) o) in
        let a = ap (λ (x : Outcome). x.places) o in
        let c = ap (λ (x : Outcome). x.colours) o in
        let k : s.stops + length ks ≡ n + suc (length ks) = omega (arith, m) in
        rw (a, c, k, m, f, h)

-- ---- the points kept, one after the other
module _ (g : Gradient) (near : Near) (max : Float) (room count : ℕ) (ts : List Float) (ms : List ℕ) where
  abbrev rest : ℕ → List Site
  rest i = sites_from ts ms i (count - i)

  -- those that are still to be kept after a, with the points from i on before it
  abbrev left : ℕ → Float → ℕ → List Kept
  left fuel a i = cond (leb i count) (kept_from g near max fuel a (rest i)) []

  next_kept : (fuel i : ℕ) (a : Float) → i ≤ count → count < fuel + i → (r : ℕ) → r ≡ step_from g near max a (rest i) → (t : Float) → t ≡ point_after max (rest i) r
      → (sh : Bool) → sh ≡ shown_to g near max a (rest i) (step_from g near max a (rest i)) → left fuel a i ≡ kept_at t sh ∷ left (fuel - 1) t (i + r)
  unfolding kept_from
  next_kept zero i a h f r er t et sh es = absurd (omega arith)
  next_kept (suc m) i a h f r er t et sh es =
      let d : suc m - 1 ≡ m = omega arith in
      let at : point_after max (rest i) (step_from g near max a (rest i)) ≡ t = sym (et ∙ ap (point_after max (rest i)) er) in
      let more : cond (leb (step_from g near max a (rest i)) (length (rest i))) (kept_from g near max m t (drop (step_from g near max a (rest i)) (rest i))) [] ≡ left m t (i + r) =
      rw (← er, sites_length ts ms i (count - i), sites_drop ts ms r i (count - i) (i + r) (count - (i + r)) refl (omega arith)) (go (leb r (count - i)) refl) in
      rw (le-leb i count h, d, at, ← es, more)
    where
      go : (b : Bool) → leb r (count - i) ≡ b → cond b (kept_from g near max m t (sites_from ts ms (i + r) (count - (i + r)))) [] ≡ left m t (i + r)
      go true e = let k = leb-true r (count - i) e in rw (le-leb (i + r) count (omega (arith, k, h)))
      go false e = let k = leb-false r (count - i) e in rw (lt-leb (i + r) count (omega (arith, k, h)))

  -- one point on or more, and no further than max
  pub steps_some : (a : Float) (i r : ℕ) → r ≡ step_from g near max a (rest i) → 1 ≤ r
  steps_some a i r e = omega (arith, e, step_on g near max a (rest i))

  pub steps_few : (a : Float) (i r : ℕ) → i ≤ count → r ≡ step_from g near max a (rest i) → i + r ≤ count + 1
  steps_few a i r h e = omega (arith, e, h, step_most g near max a (rest i), sites_length ts ms i (count - i))

  -- ---- the loop
  module _ (s₀ : Progress) (ps₀ cs₀ : List Float) where
    abbrev all : Ending
    all = ending g room s₀.stops ps₀ cs₀ (kept_from g near max (suc count) s₀.last.t (sites_from ts ms 0 count))

    pub record Going (i : ℕ) (s : Progress) (w : Window) (block : List (List Float)) (ps cs : List Float) : Type 0 where
      pub fuel : ℕ
      pub enough : count < fuel + i
      pub most : i ≤ count + 1
      pub going : s.refusal ≡ 0
      pub coloured : Coloured g s.last
      pub hand : ColoursInHand g ts w block
      pub places-length : length ps ≡ length ps₀
      pub colours-length : length cs ≡ length cs₀
      pub same : ending g room s.stops ps cs (left fuel s.last.t i) ≡ all

    pub going_start : (w : Window) (block : List (List Float)) → s₀.refusal ≡ 0 → Coloured g s₀.last → ColoursInHand g ts w block → Going 0 s₀ w block ps₀ cs₀
    going_start w block z c h =
        let e : count - 0 ≡ count = omega arith in
        record {
          fuel = suc count;
          enough = omega arith;
          most = omega arith;
          going = z;
          coloured = c;
          hand = h;
          places-length = refl;
          colours-length = refl;
          same = rw (le-leb 0 count (omega arith), e);
        }

    module _ (i : ℕ) (s : Progress) (w : Window) (block : List (List Float)) (ps cs : List Float) (k : Going i s w block ps cs) where
      pub going_done : count < i → EndsWith all s ps cs
      unfolding ending kept_refusals colours_of
      going_done h =
          let z : left k.fuel s.last.t i ≡ [] = rw (lt-leb i count h) in
          let o : ending g room s.stops ps cs [] ≡ all = ap (ending g room s.stops ps cs) (sym z) ∙ k.same in
          record {
            refused = k.going ∙ ap (λ (x : Ending). x.refusal) o;
            same = λ z. (sym (add-zero s.stops) ∙ ap (λ (x : Ending). x.stops) o, (ap (λ (x : Ending). x.places) o, ap (λ (x : Ending). x.colours) o));
          }

      module _ (h : i ≤ count) (r : ℕ) (er : r ≡ step_from g near max s.last.t (rest i)) (b : Point) (eb : b.t ≡ point_after max (rest i) r) (cb : Coloured g b)
          (sh : Bool) (es : sh ≡ shown_to g near max s.last.t (rest i) (step_from g near max s.last.t (rest i)))
          (s' : Progress) (ps' cs' : List Float) (e : run s' ps' cs' ≡ emit_run room (run (standing b s.stops) ps cs) b) where
        here : ending g room s.stops ps cs (kept_at b.t sh ∷ left (k.fuel - 1) b.t (i + r)) ≡ all
        here = ap (ending g room s.stops ps cs) (sym (next_kept k.fuel i s.last.t h k.enough r er b.t eb sh es)) ∙ k.same

        pub going_refused : (s'.refusal ≡ 0 → ⊥) → EndsWith all s' ps' cs'
        going_refused nz = rw (← here) (stop_refused g room s.stops ps cs b cb s' ps' cs' e sh (left (k.fuel - 1) b.t (i + r)) nz)

        pub going_unshown : s'.refusal ≡ 0 → sh ≡ false → (m : ℕ) → EndsWith all (record { last = b; stops = m; tried = 0; refusal = not_shown }) ps' cs'
        going_unshown z f m = rw (← here) (stop_unshown g room s.stops ps cs b cb s' ps' cs' e sh (left (k.fuel - 1) b.t (i + r)) z f m)

        pub going_next : (v : Window) (block' : List (List Float)) → ColoursInHand g ts v block' → s'.refusal ≡ 0 → sh ≡ true → length ps' ≡ length ps → length cs' ≡ length cs
            → Going (i + r) s' v block' ps' cs'
        going_next v block' hand z f lp lc =
            let l : s'.last ≡ b = last_is g room s.stops ps cs b cb s' ps' cs' e z in
            record {
              fuel = k.fuel - 1;
              enough = omega (arith, k.enough, steps_some s.last.t i r er);
              most = steps_few s.last.t i r h er;
              going = z;
              coloured = rw l cb;
              hand = hand;
              places-length = lp ∙ k.places-length;
              colours-length = lc ∙ k.colours-length;
              same = rw l (stop_on g room s.stops ps cs b cb s' ps' cs' e sh (left (k.fuel - 1) b.t (i + r)) z f ∙ here);
            }

-- ---- all stops: the first, and then those after it
module _ (g : Gradient) (near : Near) (max : Float) (room count : ℕ) (ts : List Float) (ms : List ℕ) (ps cs : List Float) (b : Point) (cb : Coloured g b)
    (s : Progress) (ps' cs' : List Float) (e : run s ps' cs' ≡ emit_run room (run (standing b 0) ps cs) b) (lo : Float) (eb : b.t ≡ lo) where
  abbrev list : List Kept
  list = kept_all g near max lo (sites_from ts ms 0 count)

  list_is : kept_at b.t true ∷ kept_from g near max (suc count) b.t (sites_from ts ms 0 count) ≡ list
  unfolding kept_all
  list_is = rw (eb, sites_length ts ms 0 count)

  pub first_refused : (s.refusal ≡ 0 → ⊥) → EndsWith (ending g room 0 ps cs list) s ps' cs'
  first_refused nz = rw (← list_is) (stop_refused g room 0 ps cs b cb s ps' cs' e true (kept_from g near max (suc count) b.t (sites_from ts ms 0 count)) nz)

  pub then_rest : s.refusal ≡ 0 → (r : Progress) (us vs : List Float)
      → EndsWith (ending g room s.stops ps' cs' (kept_from g near max (suc count) s.last.t (sites_from ts ms 0 count))) r us vs → EndsWith (ending g room 0 ps cs list) r us vs
  then_rest z r us vs w =
      let l : s.last ≡ b = last_is g room 0 ps cs b cb s ps' cs' e z in
      let o = stop_on g room 0 ps cs b cb s ps' cs' e true (kept_from g near max (suc count) b.t (sites_from ts ms 0 count)) z refl ∙ ap (ending g room 0 ps cs) list_is in
      rw (← o) (rw l at w)
