-- A table of Catmull-Rom segments: how it is filled, what it gives, and the colour by it. Assumes nothing.
use mathlib.Core.Path.{◌≡◌, refl, sym, ap, ◌∙◌}
use mathlib.Core.List.{List, [], ◌∷◌, ◌++◌}
use Prim.Native.Nat.{ℕ, ◌+◌, ◌-◌, ◌≤◌, ◌<◌, min}
use native.Mathlib.Decide.{dec_le}
use native.Mathlib.Nat.{lt_of_not-le}
use native.Mathlib.Omega.{arith}
use borrow.Author.Tests.{lt-ltb, le-ltb}
use lib.ListN.{drop, length, get_or, set, take, length-set, length-append}
use lib.Seq.{take_at, take-append-le, sets, sets-eq, length-sets}
use lib.Ieee.{Float}
use Rattle.slices.specs.Joined.{joined}
use Rattle.slices.proofs.Joined.{length-joined, joined_next, single_of}
use Rattle.slices.proofs.Stores.{sets-append}
use Rattle.stops.specs.Near.{segment_for}
use Rattle.stops.specs.Segments.{Table, segments_from, FillsTable, Segments, InHand, segment_by}

-- what was stored from the start on, read again
take-sets : {A : Type 0} (l vs : List A) (k : ℕ) → length vs ≡ k → k ≤ length l → take k (sets l 0 vs) ≡ vs
take-sets l vs k e h = ap (take k) (sets-eq vs l 0 (omega arith)) ∙ take_at vs (drop (0 + length vs) l) k e

-- ---- filling
module _ (cs : List Float) (n base : ℕ) where
  -- the first i segments are there
  pub record Tabled (table₀ : Table) (i : ℕ) (table : Table) : Type 0 where
    pub within : i ≤ length table₀
    pub pairs : i ≤ n - base
    pub long : length table ≡ length table₀
    pub written : table ≡ sets table₀ 0 (segments_from cs n base i)

  pub first_long : (i : ℕ) → length (segments_from cs n base i) ≡ i
  first_long i = length-joined (λ k. segment_for cs n (base + k) ∷ []) 1 i (λ k h. refl) i (omega arith) ∙ omega arith

  pub tabled_start : (table₀ : Table) → Tabled table₀ 0 table₀
  unfolding joined
  tabled_start table₀ = record { within = omega arith; pairs = omega arith; long = refl; written = refl }

  pub tabled_next : (table₀ : Table) (i : ℕ) (table : Table) (s : List (List Float)) → i < length table₀ → i < n - base → s ≡ segment_for cs n (base + i) → Tabled table₀ i table → Tabled table₀ (i + 1) (set table i s)
  tabled_next table₀ i table s l k e f =
      let w : set table i s ≡ sets (sets table₀ 0 (segments_from cs n base i)) (0 + length (segments_from cs n base i)) (segment_for cs n (base + i) ∷ []) =
      let at : 0 + length (segments_from cs n base i) ≡ i = omega (arith, first_long i) in rw (at, ← f.written, e) in
      record {
        within = omega arith;
        pairs = omega arith;
        long = length-set table i s ∙ f.long;
        written =
            w ∙ sym (sets-append table₀ 0 (segments_from cs n base i) (segment_for cs n (base + i) ∷ []))
            ∙ ap (sets table₀ 0) (joined_next (λ k. segment_for cs n (base + k) ∷ []) i);
      }

  pub tabled : (table₀ : Table) (i : ℕ) (table : Table) → Tabled table₀ i table → i ≡ min (n - base) (length table₀) → FillsTable cs n base table₀ table i
  tabled table₀ i table f e = record { many = e; written = f.written ∙ rw e }

  -- what is filled holds the segments
  pub window_filled : (table : Table) (k : ℕ) → k ≤ length table → InHand cs n (record { base = base; count = k }) (sets table 0 (segments_from cs n base k))
  window_filled table k h =
      let w : take k (sets table 0 (segments_from cs n base k)) ≡ segments_from cs n base k = take-sets table (segments_from cs n base k) k (first_long k) h in
      record {
        fits = omega (arith, length-sets table 0 (segments_from cs n base k));
        segments = record { each = λ i l. let j : i < k = omega (arith, l, ap length w, first_long k) in rw w (single_of (λ m. segment_for cs n (base + m)) [] k i j) };
      }

  -- a window filled, in the whole table or in its first part; and an empty one
  pub filled_window : (table₀ table : Table) (k : ℕ) → FillsTable cs n base table₀ table k → InHand cs n (record { base = base; count = k }) table
  filled_window table₀ table k f =
      let e : table ≡ sets table₀ 0 (segments_from cs n base k) = f.written ∙ rw (← f.many) in
      rw e (window_filled table₀ k (omega (arith, f.many)))

  pub filled_segments : (table₀ table : Table) (k : ℕ) → FillsTable cs n base table₀ table k → Segments cs n base (take k table)
  filled_segments table₀ table k f = (filled_window table₀ table k f).segments

  pub part_window : (table₀ table rest : Table) (k : ℕ) → FillsTable cs n base table₀ table k → InHand cs n (record { base = base; count = k }) (table ++ rest)
  part_window table₀ table rest k f =
      let h = filled_window table₀ table k f in
      record { fits = omega (arith, h.fits, length-append table rest); segments = rw (take-append-le k table rest h.fits) h.segments }

  pub no_segments : (table : Table) → Segments cs n base (take 0 table)
  no_segments table = record { each = λ k l. absurd (omega arith) }

  pub empty_window : (table : Table) → InHand cs n (record { base = base; count = 0 }) table
  empty_window table = record { fits = omega arith; segments = no_segments table }

  -- ---- a segment out of a table
  module _ (table : Table) (k : ℕ) where
    pub segment_before : k < base → segment_for cs n k ≡ segment_by cs n base table k
    unfolding segment_by
    segment_before b = rw (lt-ltb k base b)

    pub segment_there : base ≤ k → k - base < length table → get_or table (k - base) [] ≡ segment_by cs n base table k
    unfolding segment_by
    segment_there b h = rw (le-ltb k base b, lt-ltb (k - base) (length table) h)

    pub segment_made : base ≤ k → length table ≤ k - base → segment_for cs n k ≡ segment_by cs n base table k
    unfolding segment_by
    segment_made b h = rw (le-ltb k base b, le-ltb (k - base) (length table) h)

    pub segment_same : Segments cs n base table → segment_by cs n base table k ≡ segment_for cs n k
    segment_same w = go (dec_le base k) (dec_le (length table) (k - base))
      where
        go : Dec (base ≤ k) → Dec (length table ≤ k - base) → segment_by cs n base table k ≡ segment_for cs n k
        go (no b) _ = sym (segment_before (lt_of_not-le b))
        go (yes b) (yes h) = sym (segment_made b h)
        go (yes b) (no h) =
            let e : base + (k - base) ≡ k = omega arith in
            sym (segment_there b (lt_of_not-le h)) ∙ w.each (k - base) (lt_of_not-le h) ∙ ap (segment_for cs n) e
