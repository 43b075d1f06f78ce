-- A list made: its answer and both outputs, from what the run over its points has come to. Assumes nothing.
use mathlib.Core.Path.{◌≡◌, refl, sym, ap, ◌∙◌}
use mathlib.Core.List.{List, ◌∷◌}
use Prim.Native.Nat.{ℕ, zero, suc, ◌+◌, ◌-◌, ◌*◌, ◌≤◌}
use native.Mathlib.Omega.{arith}
use lib.ListN.{length, get_or, drop, replicate, length-replicate}
use lib.Seq.{sets, length-sets}
use lib.Ieee.{Float}
use Rattle.float.specs.F32.{f0}
use Rattle.sampling.specs.Midpoints.{Gradient, Far}
use Rattle.thinning.specs.Counts.{sum_of}
use Rattle.thinning.specs.Kept.{thinned, weighed, kept_of, weighed_of, refusal_of, written_of, positions_written, channels_written, list_evaluations}
use Rattle.thinning.specs.Walk.{Run, run, Outcome, comes_to, outcome, Ends}
use Rattle.linearize.specs.Desk.{evaluations_of_listed, listed_of, list_answer, with_sampling, after_spending}
use Rattle.linearize.specs.inner.Steps.{starting, comes_to_all, ListMade}
use Rattle.sampling.specs.declared.Point.{Point}
use Rattle.linearize.specs.declared.Listed.{Listed}
use Rattle.linearize.specs.declared.Listed.TheVariants as listed
use Rattle.slices.proofs.Stores.{sets_all}
use Rattle.thinning.proofs.Walks.{Emitted}

module _ (k stops evaluations : ℕ) where
  pub refused_answer : (k ≡ 0 → ⊥) → listed.Refused k ≡ listed_of k stops evaluations
  refused_answer nz = by k nz
    where
      by : (k : ℕ) → (k ≡ 0 → ⊥) → listed.Refused k ≡ listed_of k stops evaluations
      by zero nz = absurd (nz refl)
      by (suc k) nz = refl

  pub done_answer : k ≡ 0 → listed.Done stops evaluations ≡ listed_of k stops evaluations
  done_answer z = rw z

-- an answer with the evaluations before it added, by its case
pub after_refused : (n k : ℕ) (made : Listed) → made ≡ listed.Refused k → listed.Refused k ≡ after_spending n made
after_refused n k made h = rw h

pub after_done : (n s e all : ℕ) (made : Listed) → made ≡ listed.Done s e → all ≡ sum_of n e → listed.Done s all ≡ after_spending n made
after_done n s e all made h k = rw (h, k)

-- a ramp's evaluations are few, and all counted: 13,716 of a sampling, and 32,146 of a flattening after it
few : (n : ℕ) (made : Listed) → n ≤ 13716 → evaluations_of_listed made ≤ 32146 → after_spending n made ≡ with_sampling n made
few n (listed.Refused k) h i = refl
few n (listed.Done s e) h i = let f : sum_of n e ≡ n + e = omega arith in rw f

pub after_few : (n : ℕ) (made : Listed) {r : Listed} → r ≡ after_spending n made → n ≤ 13716 → evaluations_of_listed made ≤ 32146 → r ≡ with_sampling n made
after_few n made e h i = e ∙ few n made h i

module _ (k : ℕ) (out : List Float) where
  pub zeroed : (out' : List Float) → (k ≡ 0 → ⊥) → out' ≡ sets out 0 (replicate (length out - 0) f0) → out' ≡ written_of k out
  zeroed out' nz e = e ∙ (let n : length out - 0 ≡ length out = omega arith in rw n (sets_all out (replicate (length out) f0) (length-replicate (length out) f0))) ∙ by k nz
    where
      by : (k : ℕ) → (k ≡ 0 → ⊥) → replicate (length out) f0 ≡ written_of k out
      by zero nz = absurd (nz refl)
      by (suc k) nz = refl

  pub left : k ≡ 0 → out ≡ written_of k out
  left z = rw z

-- ---- the run over a list whose first point is p

module _ (g : Gradient) (far : Far) (room : ℕ) (ts ps cs : List Float) where
  abbrev whole : Outcome
  whole = comes_to_all g far room ts ps cs

  module _ (p : Point) (e : ts ≡ p.t ∷ drop 1 ts) where
    kept_is : kept_of g far ts ≡ p.t ∷ thinned g far p.t (drop 1 ts)
    unfolding kept_of
    kept_is = ap (kept_of g far) e

    weighed_is : weighed_of g far ts ≡ weighed g far p.t (drop 1 ts)
    unfolding weighed_of
    weighed_is = ap (weighed_of g far) e

    -- of the point in hand nothing but its number counts
    whole_is : comes_to g room (run (starting p) ps cs) (kept_of g far ts) (weighed_of g far ts) ≡ whole
    unfolding comes_to
    whole_is = let f : get_or ts 0 f0 ≡ p.t = ap (λ (l : List Float). get_or l 0 f0) e in rw f

    -- the first stop is refused
    pub first_refused : (r : Run) → Emitted g room (run (starting p) ps cs) p r → (r.progress.refusal ≡ 0 → ⊥) → Ends whole r
    first_refused r w nz =
        record {
          refused = w.refused nz (thinned g far p.t (drop 1 ts)) (weighed_of g far ts) ∙ rw (← kept_is) (ap (λ (o : Outcome). o.refusal) whole_is);
          same = λ z. absurd (nz z);
        }

    -- the first stop is written, and the rest thinned
    pub then_thinned : (r1 r : Run) → Emitted g room (run (starting p) ps cs) p r1 → r1.progress.refusal ≡ 0
        → Ends (outcome g far room r1 (drop 1 ts)) r → Ends whole r
    unfolding outcome
    then_thinned r1 r w z h =
        let o : outcome g far room r1 (drop 1 ts) ≡ whole =
        ap (λ (q : Point). comes_to g room r1 (thinned g far q.t (drop 1 ts)) (weighed g far q.t (drop 1 ts))) (w.last z)
        ∙ w.done z (thinned g far p.t (drop 1 ts)) (weighed g far p.t (drop 1 ts))
        ∙ rw (← kept_is, ← weighed_is) whole_is in
        rw (← o) h

  refusal_is : whole.refusal ≡ refusal_of g far room ts
  unfolding comes_to refusal_of
  refusal_is = refl

  -- a run that has ended as foretold is the list made
  pub list_made : (r : Run) → Ends whole r → length r.places ≡ length ps → length r.colours ≡ length cs
      → ListMade g far room ts ps (written_of r.progress.refusal r.places) cs (written_of r.progress.refusal r.colours)
      (listed_of r.progress.refusal r.progress.stops (3 * r.progress.tried + r.progress.stops))
  unfolding list_answer positions_written channels_written list_evaluations comes_to
  list_made r w lp lc = by r.progress.refusal refl
    where
      by : (k : ℕ) → r.progress.refusal ≡ k
          → ListMade g far room ts ps (written_of k r.places) cs (written_of k r.colours) (listed_of k r.progress.stops (3 * r.progress.tried + r.progress.stops))
      by zero z =
          let n : refusal_of g far room ts ≡ 0 = sym refusal_is ∙ sym w.refused ∙ z in
          let o = w.same z in
          let es : r.progress.stops ≡ length (kept_of g far ts) = ap (λ (q : Outcome). q.stops) o ∙ omega arith in
          let et : r.progress.tried ≡ weighed_of g far ts = ap (λ (q : Outcome). q.tried) o ∙ omega arith in
          record {
            answer = rw (n, es, et);
            positions = ap (λ (q : Outcome). q.places) o ∙ rw n;
            channels = ap (λ (q : Outcome). q.colours) o ∙ rw n;
          }
      by (suc k) z =
          let n : refusal_of g far room ts ≡ suc k = sym refusal_is ∙ sym w.refused ∙ z in
          record {
            answer = rw n;
            positions = rw (n, length-sets, lp);
            channels = rw (n, length-sets, lc);
          }

  pub made_list : (room' : ℕ) → room ≡ room' → (r : Run) → Ends whole r → length r.places ≡ length ps → length r.colours ≡ length cs
      → (ps' cs' : List Float) (l : Listed) → l ≡ listed_of r.progress.refusal r.progress.stops (3 * r.progress.tried + r.progress.stops)
      → ps' ≡ written_of r.progress.refusal r.places → cs' ≡ written_of r.progress.refusal r.colours
      → ListMade g far room' ts ps ps' cs cs' l
  made_list room' er r w lp lc ps' cs' l a b c = rw (a, b, c, ← er) (list_made r w lp lc)
