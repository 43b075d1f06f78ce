-- The loop of the merge: what was taken and what is to come are always the same list. Assumes nothing.
use mathlib.Core.Path.{◌≡◌, refl, sym, ap, ap₂, ◌∙◌}
use mathlib.Core.Bool.{Bool, true, false, ◌&&◌, ◌||◌, true≢false}
use mathlib.Core.List.{List, [], ◌∷◌, ◌++◌}
use Prim.Native.Nat.{ℕ, suc, ◌+◌, ◌≤◌, ◌<◌}
use native.Mathlib.Omega.{arith}
use borrow.Author.Tests.{ltb-true, ltb-false, leb-true, le-leb, eq-eqb, eqb-true}
use lib.Dec.{leb, eqb, ltb}
use lib.ListN.{length, length-append}
use lib.Seq.{sets}
use lib.Ieee.{Float}
use Rattle.std.specs.Prelude.{Option, None, Some}
use Rattle.std.specs.Option.{is_some}
use Rattle.refusals.specs.Limits.{most_stops}
use Rattle.float.proofs.Flags.{both_l, both_r}
use Rattle.slices.proofs.Stores.{sets-append}
use Rattle.records.specs.Fitness.{counts_good}
use Rattle.records.proofs.Counting.{each_good, all_good}
use Rattle.places.specs.Places.{list_of, first_place, InRecord, Ready}
use Rattle.places.proofs.Following.{first_within, first_before, list_most}
use Rattle.weighed.specs.Points.{Site, own_of, merged}
use Rattle.weighed.specs.Gathered.{points_of, weighable, merged_of, gathered, times_of, marks_of, Gathers}
use Rattle.weighed.specs.inner.Joining.{beside_left, own_left, handed, steps_left, to_come, MayMerge, MergesOn}
use Rattle.weighed.specs.declared.neighbours.Next.{Next}
use Rattle.weighed.specs.declared.Merge.{Merge}
use Rattle.weighed.proofs.Counting.{own_length}
use Rattle.weighed.proofs.Stepping.{record_more, record_none}

-- ---- the arrays
pub times-append : (xs ys : List Site) → times_of (xs ++ ys) ≡ times_of xs ++ times_of ys
unfolding times_of
times-append [] ys = refl
times-append (x ∷ xs) ys = ap (λ (l : List Float). x.t ∷ l) (times-append xs ys)

pub marks_append : (xs ys : List Site) → marks_of (xs ++ ys) ≡ marks_of xs ++ marks_of ys
unfolding marks_of
marks_append [] ys = refl
marks_append (x ∷ xs) ys = ap (λ (l : List ℕ). x.mark ∷ l) (marks_append xs ys)

pub times_length : (xs : List Site) → length (times_of xs) ≡ length xs
unfolding times_of
times_length [] = refl
times_length (x ∷ xs) = ap suc (times_length xs)

pub marks_length : (xs : List Site) → length (marks_of xs) ≡ length xs
unfolding marks_of
marks_length [] = refl
marks_length (x ∷ xs) = ap suc (marks_length xs)

append-nil : (xs : List Site) → xs ++ [] ≡ xs
append-nil [] = refl
append-nil (x ∷ xs) = ap (λ (l : List Site). x ∷ l) (append-nil xs)

append_assoc : (xs ys zs : List Site) → xs ++ ys ++ zs ≡ xs ++ (ys ++ zs)
append_assoc [] ys zs = refl
append_assoc (x ∷ xs) ys zs = ap (λ (l : List Site). x ∷ l) (append_assoc xs ys zs)

nothing_comes : (max last : Float) (ts : List Float) (os : List Site) → ts ≡ [] → os ≡ [] → merged max (length ts + length os) last ts os ≡ []
unfolding merged
nothing_comes max last ts os e d = rw (e, d)

-- ---- whether there is a next
module _ (ps : List Float) where
  some_next : (n : Option Next) → is_some n ≡ true → 0 < length (handed (own_left ps) n)
  some_next (Some n) e = omega arith
  some_next None e = absurd (true≢false (sym e))

  none_next : (n : Option Next) → is_some n ≡ false → handed (own_left ps) n ≡ []
  none_next (Some n) e = absurd (true≢false e)
  none_next None e = refl

-- ---- the loop
module _ (ps rows : List Float) (counts : List ℕ) (lo max : Float) (ts₀ : List Float) (ms₀ : List ℕ) where
  pub record Merging (ts : List Float) (ms : List ℕ) (s : Merge) : Type 0 where
    pub taken : List Site
    pub same : taken ++ to_come ps rows counts max s ≡ merged_of ps rows counts lo max
    pub times : ts ≡ sets ts₀ 0 (times_of taken)
    pub marks : ms ≡ sets ms₀ 0 (marks_of taken)
    pub many : s.count ≡ length taken
    pub fits : s.count + steps_left ps rows counts max s ≤ 10753
    pub placed : InRecord counts s.place

  module _ (ok : Ready rows counts) where
    pub merging_start : length ps ≤ 2048 → (nx : Option Next) → own_left ps (record { below = 0; lent = 0; above = 0 }) ≡ handed (own_left ps) nx
        → Merging ts₀ ms₀ (record { count = 0; last = lo; place = first_place; next = nx })
    unfolding to_come merged_of times_of marks_of own_left beside_left own_of list_of
    merging_start few nx e =
        let b = first_before rows counts max ok in
        let own : own_of ps ≡ handed (own_left ps) nx = e in
        let n = own_length ps in
        let m = list_most rows counts max ok in
        let k = length-append (points_of rows counts) (max ∷ []) in
        record {
          taken = [];
          same = rw (b, ← own);
          times = refl;
          marks = refl;
          many = refl;
          fits = rw (b, ← own) (omega (arith, n, m, k));
          placed = first_within rows counts max ok;
        }

    module _ (ts : List Float) (ms : List ℕ) (s : Merge) (w : Merging ts ms s) where
      some_left : (ltb s.place.row 36 || (is_some s.next)) ≡ true → 0 < steps_left ps rows counts max s
      some_left h = go (ltb s.place.row 36) refl (is_some s.next) refl
        where
          go : (a : Bool) → ltb s.place.row 36 ≡ a → (b : Bool) → is_some s.next ≡ b → 0 < steps_left ps rows counts max s
          go true e b d = omega (arith, ap length (record_more rows counts max ok s.place w.placed (ltb-true s.place.row 36 e)))
          go false e true d = omega (arith, some_next ps s.next d)
          go false e false d = absurd (true≢false (sym (rw (e, d) at h)))

      pub merging_may : (ltb s.place.row 36 || (is_some s.next)) ≡ true → MayMerge ps rows counts max 10753 s
      merging_may h = record { ready = ok; placed = w.placed; some = some_left h; fits = w.fits }

      pub merging_next : (ts' : List Float) (ms' : List ℕ) (r : Merge) → MergesOn ps rows counts max ts ms s ts' ms' r → Merging ts' ms' r
      merging_next ts' ms' r m =
          let at = w.many in
          let lt = times_length w.taken in
          let lm = marks_length w.taken in
          record {
            taken = w.taken ++ m.taken;
            same = append_assoc w.taken m.taken (to_come ps rows counts max r) ∙ ap (λ (l : List Site). w.taken ++ l) m.same ∙ w.same;
            times =
                m.times ∙ ap₂ (λ (l : List Float) (i : ℕ). sets l i (times_of m.taken)) w.times (at ∙ sym lt ∙ omega arith)
                ∙ sym (sets-append ts₀ 0 (times_of w.taken) (times_of m.taken)) ∙ ap (sets ts₀ 0) (sym (times-append w.taken m.taken));
            marks =
                m.marks ∙ ap₂ (λ (l : List ℕ) (i : ℕ). sets l i (marks_of m.taken)) w.marks (at ∙ sym lm ∙ omega arith)
                ∙ sym (sets-append ms₀ 0 (marks_of w.taken) (marks_of m.taken)) ∙ ap (sets ms₀ 0) (sym (marks_append w.taken m.taken));
            many = omega (arith, m.many, at, length-append w.taken m.taken);
            fits = omega (arith, w.fits, m.many, m.one, m.less);
            placed = m.placed;
          }

      pub merging_done : (ltb s.place.row 36 || (is_some s.next)) ≡ false → Gathers (merged_of ps rows counts lo max) ts₀ ms₀ ts ms s.count
      unfolding merged to_come merged_of
      merging_done h = go (ltb s.place.row 36) refl (is_some s.next) refl
        where
          all : (a : Bool) → ltb s.place.row 36 ≡ a → a ≡ false → is_some s.next ≡ false → w.taken ≡ merged_of ps rows counts lo max
          all a e f d =
              let r = record_none rows counts max ok s.place w.placed (λ k. let l = ltb-false s.place.row 36 (e ∙ f) in absurd (omega (arith, k, l))) in
              let o = none_next ps s.next d in
              sym (append-nil w.taken) ∙ ap (λ (l : List Site). w.taken ++ l) (sym (nothing_comes max s.last _ _ r o)) ∙ w.same

          go : (a : Bool) → ltb s.place.row 36 ≡ a → (b : Bool) → is_some s.next ≡ b → Gathers (merged_of ps rows counts lo max) ts₀ ms₀ ts ms s.count
          go true e b d = absurd (true≢false (rw e at h))
          go false e true d = absurd (true≢false (rw (e, d) at h))
          go false e false d = rw (← all false e refl d) (record { many = w.many; times = w.times; marks = w.marks })

-- ---- the guard
good : (n long : ℕ) (counts : List ℕ) → n ≤ 2048 → long ≡ 4608 → length counts ≡ 36 → weighable n long counts ≡ counts_good counts
unfolding weighable most_stops
good n long counts few e d = rw (le-leb n 2048 few, eq-eqb long 4608 e, eq-eqb (length counts) 36 d)

module _ (ps rows : List Float) (counts : List ℕ) (h : weighable (length ps) (length rows) counts ≡ true) where
  pub few_positions : length ps ≤ 2048
  unfolding weighable most_stops
  few_positions = leb-true (length ps) 2048 (both_l _ _ h)

  pub ready_of : Ready rows counts
  unfolding weighable most_stops
  ready_of =
      let a = both_r (leb (length ps) 2048) (eqb (length rows) 4608 && (eqb (length counts) 36 && counts_good counts)) h in
      let b = both_r (eqb (length rows) 4608) (eqb (length counts) 36 && counts_good counts) a in
      let n = eqb-true (length counts) 36 (both_l (eqb (length counts) 36) (counts_good counts) b) in
      let g = both_r (eqb (length counts) 36) (counts_good counts) b in
      record {
        long = eqb-true (length rows) 4608 (both_l (eqb (length rows) 4608) (eqb (length counts) 36 && counts_good counts) a);
        many = n;
        some = λ i k. (each_good counts g i (omega (arith, n))).0;
        most = λ i k. (each_good counts g i (omega (arith, n))).1;
      }

module _ (ps rows : List Float) (counts : List ℕ) (lo hi : Float) where
  pub gathered_all : weighable (length ps) (length rows) counts ≡ true → (ts : List Float) (ms : List ℕ) (ts' : List Float) (ms' : List ℕ) (n : ℕ) → Gathers (merged_of ps rows counts lo hi) ts ms ts' ms' n → Gathers (gathered ps rows counts lo hi) ts ms ts' ms' n
  unfolding gathered
  gathered_all h ts ms ts' ms' n w = rw h w

  pub gathered_none : weighable (length ps) (length rows) counts ≡ false → (ts : List Float) (ms : List ℕ) → Gathers (gathered ps rows counts lo hi) ts ms ts ms 0
  unfolding gathered times_of marks_of
  gathered_none h ts ms = rw h (record { many = refl; times = refl; marks = refl })

  -- of a record that may be thinned they are the merged ones
  pub gathered_ready : Ready rows counts → length ps ≤ 2048 → gathered ps rows counts lo hi ≡ merged_of ps rows counts lo hi
  unfolding gathered
  gathered_ready ok few =
      let g = all_good counts (λ i h. (ok.some i (omega (arith, ok.many)), ok.most i (omega (arith, ok.many)))) in
      rw (good (length ps) (length rows) counts few ok.long ok.many, g)
