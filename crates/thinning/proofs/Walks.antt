-- A stop emitted and a point weighed, and what the whole list comes to after them. Assumes nothing.
use mathlib.Core.Path.{◌≡◌, refl, sym, ap, ◌∙◌}
use mathlib.Core.Bool.{Bool, true, false, cond, not, ◌&&◌}
use mathlib.Core.List.{List, [], ◌∷◌, ◌++◌}
use Prim.Native.Nat.{ℕ, zero, suc, ◌+◌, ◌*◌, ◌≤◌, ◌<◌}
use native.Mathlib.Nat.{add-zero}
use native.Mathlib.Numerals.{add-one}
use native.Mathlib.Omega.{arith}
use mir.Val.{bool_byte}
use lib.ListN.{length, set}
use lib.Seq.{sets}
use lib.Ieee.{Float}
use Rattle.float.specs.F32.{◌⊖◌, ◌⊘◌}
use Rattle.blend.specs.Blend.{linear}
use Rattle.blend.specs.declared.Rgba.{Rgba}
use Rattle.sampling.specs.Midpoints.{Gradient, Far}
use Rattle.thinning.specs.Counts.{most_count, sum_of}
use Rattle.thinning.specs.Kept.{near_of, stays, weighs, thinned, weighed, stop_refusal, first_refusal, refusal_from}
use Rattle.blend.specs.Channels.{channels_of, colours_of}
use Rattle.thinning.specs.Walk.{Run, run, emit_by, emit_run, weigh_of, more_run, step_by, step_run, Outcome, reached, comes_to, outcome, Ends}
use Rattle.sampling.specs.inner.Steps.{Coloured}
use Rattle.sampling.specs.declared.Point.{Point}
use Rattle.thinning.specs.declared.Weighed.{Weighed}
use Rattle.slices.proofs.Stores.{sets-append}
use Rattle.thinning.proofs.Stops.{has_room}

-- the points kept and weighed, by the fate of the first
module _ (g : Gradient) (far : Far) (last x y : Float) (rest : List Float) where
  module _ (h : stays g far last x y ≡ false) where
    pub passed : thinned g far last (x ∷ y ∷ rest) ≡ thinned g far last (y ∷ rest)
    unfolding thinned
    passed = rw h

    pub passed_weighed : weighed g far last (x ∷ y ∷ rest) ≡ weighs last x + weighed g far last (y ∷ rest)
    unfolding weighed
    passed_weighed = rw h

  module _ (h : stays g far last x y ≡ true) where
    pub kept : thinned g far last (x ∷ y ∷ rest) ≡ x ∷ thinned g far x (y ∷ rest)
    unfolding thinned
    kept = rw h

    pub kept_weighed : weighed g far last (x ∷ y ∷ rest) ≡ weighs last x + weighed g far x (y ∷ rest)
    unfolding weighed
    kept_weighed = rw h

-- weighing points that carry their colours is the definition's
module _ (g : Gradient) (far : Far) (last x y : Point) (cl : Coloured g last) (cx : Coloured g x) (cy : Coloured g y) where
  pub weigh_keeps : (weigh_of far last x y).kept ≡ stays g far last.t x.t y.t
  unfolding weigh_of stays
  weigh_keeps = rw (cl, cx, cy)

  pub weigh_counts : (weigh_of far last x y).tried ≡ weighs last.t x.t
  unfolding weigh_of
  weigh_counts = refl

pub weighs_one : (last x : Float) → weighs last x ≤ 1
weighs_one last x = by (near_of last x)
  where
    by : (b : Bool) → cond b 0 1 ≤ 1
    by true = omega arith
    by false = omega arith

-- ---- a step of the code is a step of the definition

pub refused_run : (room : ℕ) (r : Run) (p : Point) (k : ℕ) → k ≡ stop_refusal room r.progress.stops r.progress.last.t p.t p.colour → (k ≡ 0 → ⊥)
    → run (record { last = r.progress.last; stops = r.progress.stops; tried = r.progress.tried; refusal = k }) r.places r.colours ≡ emit_run room r p
unfolding emit_run
refused_run room r p zero e nz = absurd (nz refl)
refused_run room r p (suc k) e nz = rw (← e)

pub emitted_run : (room : ℕ) (r : Run) (p : Point) (ps cs : List Float) → stop_refusal room r.progress.stops r.progress.last.t p.t p.colour ≡ 0
    → ps ≡ set r.places r.progress.stops p.t → cs ≡ sets r.colours (4 * r.progress.stops) (channels_of p.colour)
    → run (record { last = p; stops = r.progress.stops + 1; tried = r.progress.tried; refusal = 0 }) ps cs ≡ emit_run room r p
unfolding emit_run
emitted_run room r p ps cs e f h = rw (e, f, h)

-- a point weighed: skipped or not, and far from what was foretold or not
pub weighed_is : (far : Far) (last x y : Point) {skipped apart : Bool} {m : Rgba} → skipped ≡ near_of last.t x.t
    → m ≡ linear last.colour y.colour ((x.t ⊖ last.t) ⊘ (y.t ⊖ last.t)) → apart ≡ far x.colour m
    → record { kept = not skipped && apart; tried = bool_byte (not skipped) } ≡ weigh_of far last x y
unfolding weigh_of
weighed_is far last x y {skipped = d} n e f = rw (f, e, ← n, counted d)
  where
    counted : (b : Bool) → bool_byte (not b) ≡ cond b 0 1
    counted true = refl
    counted false = refl

module _ (far : Far) (room : ℕ) (r : Run) (x y : Point) {w : Weighed} {n : ℕ} (h : w ≡ weigh_of far r.progress.last x y) (e : n ≡ sum_of r.progress.tried w.tried) where
  abbrev pub weighing : Run
  weighing = run (record { last = r.progress.last; stops = r.progress.stops; tried = n; refusal = r.progress.refusal }) r.places r.colours

  pub passed_run : w.kept ≡ false → weighing ≡ step_run far room r x y
  unfolding step_run
  passed_run k = rw (← h, k, e)

  pub kept_run : w.kept ≡ true → emit_run room weighing x ≡ step_run far room r x y
  unfolding step_run
  kept_run k = rw (← h, k, e)

-- ---- what the whole comes to

module _ (g : Gradient) (room : ℕ) where
  -- a stop is emitted or refused, whatever stops follow
  pub record Emitted (r : Run) (p : Point) (r' : Run) : Type 0 where
    pub refused : (r'.progress.refusal ≡ 0 → ⊥) → (ks : List Float) (n : ℕ) → r'.progress.refusal ≡ (comes_to g room r (p.t ∷ ks) n).refusal
    pub done : r'.progress.refusal ≡ 0 → (ks : List Float) (n : ℕ) → comes_to g room r' ks n ≡ comes_to g room r (p.t ∷ ks) n
    pub coloured : r'.progress.refusal ≡ 0 → Coloured g r'.progress.last
    pub last : r'.progress.refusal ≡ 0 → r'.progress.last ≡ p
    pub tried : r'.progress.tried ≡ r.progress.tried
    pub fitting : r.progress.stops ≤ room → r'.progress.stops ≤ room

  by_number : (r : Run) (p : Point) → Coloured g p → (k : ℕ) → stop_refusal room r.progress.stops r.progress.last.t p.t p.colour ≡ k → Emitted r p (emit_by k r p)
  unfolding comes_to refusal_from colours_of
  by_number r p h (suc k) e =
      record {
        refused = λ nz ks n. rw (← h, e);
        done = λ z ks n. absurd (omega arith);
        coloured = λ z. absurd (omega arith);
        last = λ z. absurd (omega arith);
        tried = refl;
        fitting = λ w. w;
      }
  by_number r p h zero e =
      record {
        refused = λ nz ks n. absurd (nz refl);
        done = λ z ks n. same ks n;
        coloured = λ z. h;
        last = λ z. refl;
        tried = refl;
        fitting = λ w. omega (arith, has_room room r.progress.stops r.progress.last.t p.t p.colour e);
      }
    where
      same : (ks : List Float) (n : ℕ) → comes_to g room (emit_by zero r p) ks n ≡ comes_to g room r (p.t ∷ ks) n
      same ks n =
          let s = r.progress.stops in
          let four : 4 * (s + 1) ≡ 4 * s + length (channels_of (g p.t)) = omega arith in
          let one : s + 1 + length ks ≡ s + suc (length ks) = omega arith in
          let cs : sets (sets r.colours (4 * s) (channels_of p.colour)) (4 * (s + 1)) (colours_of g ks) ≡ sets r.colours (4 * s) (channels_of (g p.t) ++ colours_of g ks) =
          rw (h, four, sets-append) in
          let f : refusal_from g room (s + 1) p.t ks ≡ first_refusal (stop_refusal room s r.progress.last.t p.t (g p.t)) (refusal_from g room (s + 1) p.t ks) =
          rw (← h, e) in
          let ps : sets (set r.places s p.t) (s + 1) ks ≡ sets (set r.places s p.t) (suc s) ks = rw add-one in
          rw (one, cs, ps, ← f)

  pub emitted : (r : Run) (p : Point) → Coloured g p → Emitted r p (emit_run room r p)
  unfolding emit_run
  emitted r p h = by_number r p h (stop_refusal room r.progress.stops r.progress.last.t p.t p.colour) refl

  pub emitted_as : (r r' : Run) (p : Point) → r' ≡ emit_run room r p → Coloured g p → Emitted r p r'
  emitted_as r r' p e h = rw e (emitted r p h)

  -- nothing follows
  at_last : (r : Run) → r.progress.refusal ≡ 0 → reached r ≡ comes_to g room r [] 0
  unfolding comes_to refusal_from colours_of
  at_last r z = rw (z, add-zero, add-zero)

module _ (g : Gradient) (far : Far) (room : ℕ) where
  -- a point is weighed: what the whole comes to stays, or the refusal is known
  pub record Stepped (r : Run) (x y : Point) (r' : Run) : Type 0 where
    pub refused : (r'.progress.refusal ≡ 0 → ⊥) → (rest : List Float) → r'.progress.refusal ≡ (outcome g far room r (x.t ∷ y.t ∷ rest)).refusal
    pub same : r'.progress.refusal ≡ 0 → (rest : List Float) → outcome g far room r' (y.t ∷ rest) ≡ outcome g far room r (x.t ∷ y.t ∷ rest)
    pub coloured : r'.progress.refusal ≡ 0 → Coloured g r'.progress.last
    pub tried : r'.progress.tried ≤ r.progress.tried + 1
    pub fitting : r.progress.stops ≤ room → r'.progress.stops ≤ room

  -- n points more weighed
  more : (r : Run) (n : ℕ) (ks : List Float) (m : ℕ) → n ≤ 1 → r.progress.tried < most_count → comes_to g room (more_run n r) ks m ≡ comes_to g room r ks (n + m)
  unfolding comes_to
  more r n ks m one few = let e : sum_of r.progress.tried n + m ≡ r.progress.tried + (n + m) = omega arith in rw e

  module _ (r : Run) (x y : Point) (cl : Coloured g r.progress.last) (cx : Coloured g x) (cy : Coloured g y) (on : r.progress.refusal ≡ 0) (few : r.progress.tried < most_count) where
    abbrev l : Float
    l = r.progress.last.t

    abbrev r1 : Run
    r1 = more_run (weighs l x.t) r

    pass_step : stays g far l x.t y.t ≡ false → Stepped r x y r1
    unfolding outcome
    pass_step h =
        record {
          refused = λ nz rest. absurd (nz on);
          same = λ z rest. more r (weighs l x.t) (thinned g far l (y.t ∷ rest)) (weighed g far l (y.t ∷ rest)) (weighs_one l x.t) few ∙ rw (passed g far l x.t y.t rest h, passed_weighed g far l x.t y.t rest h);
          coloured = λ z. cl;
          tried = omega (arith, weighs_one l x.t);
          fitting = λ w. w;
        }

    keep_step : stays g far l x.t y.t ≡ true → (r' : Run) → Emitted g room r1 x r' → Stepped r x y r'
    unfolding outcome
    keep_step h r' w =
        record {
          refused = λ nz rest. w.refused nz (thinned g far x.t (y.t ∷ rest)) (weighed g far x.t (y.t ∷ rest)) ∙ ap (λ (o : Outcome). o.refusal) (whole rest);
          same =
              λ z rest. ap (λ (p : Point). comes_to g room r' (thinned g far p.t (y.t ∷ rest)) (weighed g far p.t (y.t ∷ rest))) (w.last z)
              ∙ (w.done z (thinned g far x.t (y.t ∷ rest)) (weighed g far x.t (y.t ∷ rest)) ∙ whole rest);
          coloured = w.coloured;
          tried = omega (arith, w.tried, weighs_one l x.t);
          fitting = w.fitting;
        }
      where
        whole : (rest : List Float) → comes_to g room r1 (x.t ∷ thinned g far x.t (y.t ∷ rest)) (weighed g far x.t (y.t ∷ rest))
            ≡ comes_to g room r (thinned g far l (x.t ∷ y.t ∷ rest)) (weighed g far l (x.t ∷ y.t ∷ rest))
        whole rest =
            more r (weighs l x.t) (x.t ∷ thinned g far x.t (y.t ∷ rest)) (weighed g far x.t (y.t ∷ rest)) (weighs_one l x.t) few
            ∙ rw (kept g far l x.t y.t rest h, kept_weighed g far l x.t y.t rest h)

    pub stepped : Stepped r x y (step_run far room r x y)
    unfolding step_run
    stepped = by (weigh_of far r.progress.last x y) (weigh_keeps g far r.progress.last x y cl cx cy) (weigh_counts g far r.progress.last x y cl cx cy)
      where
        test : (b : Bool) → stays g far l x.t y.t ≡ b → Stepped r x y (cond b (emit_run room r1 x) r1)
        test true h = keep_step h (emit_run room r1 x) (emitted g room r1 x cx)
        test false h = pass_step h

        by : (w : Weighed) → w.kept ≡ stays g far l x.t y.t → w.tried ≡ weighs l x.t → Stepped r x y (step_by w room r x)
        by w k n = rw (k, n) (test (stays g far l x.t y.t) refl)

  -- the last point is a stop, and then nothing follows
  pub last_stop : (r r' : Run) (x : Point) → Emitted g room r x r' → Ends (outcome g far room r (x.t ∷ [])) r'
  unfolding outcome thinned weighed
  last_stop r r' x w = record { refused = number; same = λ z. at_last g room r' z ∙ w.done z [] 0 }
    where
      number : r'.progress.refusal ≡ (comes_to g room r (x.t ∷ []) 0).refusal
      number = by r'.progress.refusal refl
        where
          by : (k : ℕ) → r'.progress.refusal ≡ k → r'.progress.refusal ≡ (comes_to g room r (x.t ∷ []) 0).refusal
          by zero e = ap (λ (o : Outcome). o.refusal) (at_last g room r' e ∙ w.done e [] 0)
          by (suc k) e = w.refused (λ z. absurd (omega (arith, sym e ∙ z))) [] 0
