-- Building a sharp ramp, by the tests that the code makes. Assumes nothing.
use mathlib.Core.Path.{◌≡◌, refl, sym, ◌∙◌, ap}
use mathlib.Core.Bool.{Bool, true, false, not, cond, ◌&&◌}
use mathlib.Core.List.{List, ◌++◌}
use Prim.Native.Nat.{ℕ, ◌+◌, ◌*◌, ◌/◌, ◌%◌, ◌≤◌, ◌<◌}
use native.Mathlib.Omega.{arith}
use lib.Dec.{leb, eqb}
use lib.ListN.{length, take, drop, length-take}
use lib.Seq.{take_at}
use lib.Ieee.{Float, inf, lt}
use lib.Ieee.Scale.{finite}
use borrow.Author.Tests.{eq-eqb, ne_eqb, lt-ltb, le-ltb, leb-true, eqb-true}
use Rattle.refusals.specs.Refusals.{misshapen, not_finite, not_built}
use Rattle.refusals.specs.Limits.{most_colours}
use Rattle.float.proofs.Flags.{both_l, both_r}
use Rattle.float.specs.F32.{◌⊕◌, ◌⊖◌, ◌⊗◌, ◌⊘◌, f4, tenth}
use Rattle.float.specs.Number.{clamp_of, count_of}
use Rattle.blend.specs.Points.{linspace_at}
use Rattle.blend.specs.Finite.{all_finite}
use Rattle.sharp_ramp.specs.Sharp.{softness_of, inset_of, band_at, listed, sharp_positions, band_channel, sharp_channels, domain_fits, roomy, bands, build_of, number_of_built, stops_of_built, after_building, Builds}
use Rattle.stops.specs.Stops.{steady}
use Rattle.sharp_ramp.specs.declared.Built.{Built}
use Rattle.sharp_ramp.specs.declared.Built.TheVariants.{Stops, Refused}
use Rattle.sharp_ramp.proofs.Filling.{length-listed}

-- ---- the softness
module _ (s : Float) {t : Bool} (e : t ≡ finite s) where
  pub soft_finite : {z : Float} → t ≡ true → z ≡ clamp_of s → z ≡ softness_of s
  unfolding softness_of
  soft_finite h c = c ∙ simp (sym e ∙ h)

  pub soft_other : t ≡ false → tenth ≡ softness_of s
  unfolding softness_of
  soft_other h = simp (sym e ∙ h)

pub inset_is : (min max s : Float) (n : ℕ) {x y : Float} → x ≡ softness_of s → y ≡ count_of n → x ⊗ (max ⊖ min) ⊘ y ⊘ f4 ≡ inset_of min max s n
unfolding inset_of
inset_is min max s n e f = simp (e, f)

-- ---- one stop
module _ (min max inset : Float) (n j : ℕ) {p : Float} where
  pub band_left : j % 2 ≡ 0 → p ≡ linspace_at min max (n + 1) (j / 2) → 0 < j → p ⊕ inset ≡ band_at min max inset n j
  unfolding band_at
  band_left a e h = ap (λ (x : Float). x ⊕ inset) e ∙ simp (eq-eqb (j % 2) 0 a, lt-ltb 0 j h)

  pub band_first : j % 2 ≡ 0 → p ≡ linspace_at min max (n + 1) (j / 2) → j ≤ 0 → p ≡ band_at min max inset n j
  unfolding band_at
  band_first a e h = e ∙ simp (eq-eqb (j % 2) 0 a, le-ltb 0 j h)

  pub band_right : (j % 2 ≡ 0 → ⊥) → p ≡ linspace_at min max (n + 1) (j / 2 + 1) → j + 1 < 2 * n → p ⊖ inset ≡ band_at min max inset n j
  unfolding band_at
  band_right a e h = ap (λ (x : Float). x ⊖ inset) e ∙ simp (ne_eqb (j % 2) 0 a, lt-ltb (j + 1) (2 * n) h)

  pub band_last : (j % 2 ≡ 0 → ⊥) → p ≡ linspace_at min max (n + 1) (j / 2 + 1) → 2 * n ≤ j + 1 → p ≡ band_at min max inset n j
  unfolding band_at
  band_last a e h = e ∙ simp (ne_eqb (j % 2) 0 a, le-ltb (j + 1) (2 * n) h)

-- ---- what the tests tell
pub record Few (n : ℕ) : Type 0 where
  pub least : 1 ≤ n
  pub most : n ≤ most_colours

pub few : (n : ℕ) (min max : Float) → domain_fits n min max ≡ true → Few n
unfolding domain_fits
few n min max h =
    let ab = both_l (leb 1 n && leb n most_colours) (finite min) (both_l (leb 1 n && leb n most_colours && finite min) (finite max) (both_l (leb 1 n && leb n most_colours && finite min && finite max) (not (lt max min)) h)) in
    record { least = leb-true 1 n (both_l (leb 1 n) (leb n most_colours) ab); most = leb-true n most_colours (both_r (leb 1 n) (leb n most_colours) ab) }

pub record Room (m n p c : ℕ) : Type 0 where
  pub whole : m ≡ 4 * n
  pub positions : 2 * n ≤ p
  pub channels : 8 * n ≤ c

pub room : (m n p c : ℕ) → roomy m n p c ≡ true → Room m n p c
unfolding roomy
room m n p c h =
    let ab = both_l (eqb m (4 * n) && leb (2 * n) p) (leb (8 * n) c) h in
    record { whole = eqb-true m (4 * n) (both_l (eqb m (4 * n)) (leb (2 * n) p) ab); positions = leb-true (2 * n) p (both_r (eqb m (4 * n)) (leb (2 * n) p) ab); channels = leb-true (8 * n) c (both_r (eqb m (4 * n) && leb (2 * n) p) (leb (8 * n) c) h) }

-- ---- the answer
module _ (colours : List Float) (min max s : Float) (p c : ℕ) where
  abbrev n : ℕ
  n = bands colours

  abbrev fit : Bool
  fit = steady max (inf true) (sharp_positions min max s n)

  pub build_domain : domain_fits n min max ≡ false → Refused not_built ≡ build_of colours min max s p c
  unfolding build_of
  build_domain a = simp a

  pub build_fit : fit ≡ false → domain_fits n min max ≡ true → Refused not_built ≡ build_of colours min max s p c
  unfolding build_of
  build_fit b a = simp (a, b)

  pub build_room : roomy (length colours) n p c ≡ false → fit ≡ true → domain_fits n min max ≡ true → Refused misshapen ≡ build_of colours min max s p c
  unfolding build_of
  build_room d b a = simp (a, b, d)

  pub build_finite : all_finite colours ≡ false → roomy (length colours) n p c ≡ true → fit ≡ true → domain_fits n min max ≡ true → Refused not_finite ≡ build_of colours min max s p c
  unfolding build_of
  build_finite e d b a = simp (a, b, d, e)

  pub build_stops : all_finite colours ≡ true → roomy (length colours) n p c ≡ true → fit ≡ true → domain_fits n min max ≡ true → Stops (2 * n) ≡ build_of colours min max s p c
  unfolding build_of
  build_stops e d b a = simp (a, b, d, e)

  -- what an answer of stops tells
  pub record Made (m : ℕ) : Type 0 where
    pub fits : domain_fits n min max ≡ true
    pub steadily : fit ≡ true
    pub room_for : roomy (length colours) n p c ≡ true
    pub all_finite_lem : all_finite colours ≡ true
    pub many : 2 * n ≡ m

  cases : (m : ℕ) (a b d e : Bool) → domain_fits n min max ≡ a → fit ≡ b → roomy (length colours) n p c ≡ d → all_finite colours ≡ e
      → cond (a && b) (cond d (cond e (Stops (2 * n)) (Refused not_finite)) (Refused misshapen)) (Refused not_built) ≡ Stops m → Made m
  cases m false b d e A B D E h = let z : ◌≡◌ {A = ℕ} 0 1 = cc in absurd (omega arith)
  cases m true false d e A B D E h = let z : ◌≡◌ {A = ℕ} 0 1 = cc in absurd (omega arith)
  cases m true true false e A B D E h = let z : ◌≡◌ {A = ℕ} 0 1 = cc in absurd (omega arith)
  cases m true true true false A B D E h = let z : ◌≡◌ {A = ℕ} 0 1 = cc in absurd (omega arith)
  cases m true true true true A B D E h = record { fits = A; steadily = B; room_for = D; all_finite_lem = E; many = cc }

  pub made : (m : ℕ) → build_of colours min max s p c ≡ Stops m → Made m
  unfolding build_of
  made m h = cases m (domain_fits n min max) fit (roomy (length colours) n p c) (all_finite colours) refl refl refl refl h

-- ---- the outputs
pub length_positions : (min max s : Float) (n : ℕ) → length (sharp_positions min max s n) ≡ 2 * n
unfolding sharp_positions
length_positions min max s n = length-listed (band_at min max (inset_of min max s n) n) (2 * n)

pub length_channels : (colours : List Float) (n : ℕ) → length (sharp_channels colours n) ≡ 8 * n
unfolding sharp_channels
length_channels colours n = length-listed (band_channel colours) (8 * n)

-- the positions, built in a longer list
pub positions_are : (min max s : Float) (n : ℕ) (rest : List Float) {inset : Float} {l : List Float} → inset ≡ inset_of min max s n
    → l ≡ listed (band_at min max inset n) (2 * n) ++ rest → take (2 * n) l ≡ sharp_positions min max s n
unfolding sharp_positions
positions_are min max s n rest {inset} e h =
    ap (λ (k : List Float). take (2 * n) k) h
    ∙ take_at (listed (band_at min max inset n) (2 * n)) rest (2 * n) (length-listed (band_at min max inset n) (2 * n))
    ∙ ap (λ (x : Float). listed (band_at min max x n) (2 * n)) e

pub longer : (k : ℕ) (l xs : List Float) → take k l ≡ xs → length xs ≡ k → k ≤ length l
longer k l xs e h = let q = sym (length-take k l) ∙ ap length e ∙ h in omega arith

pub channels_are : (colours : List Float) (n : ℕ) (rest : List Float) {l : List Float} → l ≡ listed (band_channel colours) (8 * n) ++ rest → l ≡ sharp_channels colours n ++ rest
unfolding sharp_channels
channels_are colours n rest h = h

pub after_refused : (k : ℕ) (written old : List Float) → old ≡ after_building (Refused k) written old
unfolding after_building
after_refused k written old = refl

pub after_stops : (m k : ℕ) (written old : List Float) → length written ≡ k → {l : List Float} → l ≡ written ++ drop k old → l ≡ after_building (Stops m) written old
unfolding after_building
after_stops m k written old h e = e ∙ ap (λ (j : ℕ). written ++ drop j old) (sym h)

-- all that `build` promises, from its answer and what that leaves
pub builds : {colours : List Float} {min max s : Float} {ps ps' cs cs' : List Float} {r : Built} → r ≡ build_of colours min max s (length ps) (length cs)
    → ps' ≡ after_building r (sharp_positions min max s (bands colours)) ps → cs' ≡ after_building r (sharp_channels colours (bands colours)) cs → Builds colours min max s ps ps' cs cs' r
builds e p q = record { answer = e; number = ap number_of_built e; stops = ap stops_of_built e; positions = rw e at p; channels = rw e at q }
