-- The points at which a list is weighed stand in the two arrays, and are no more than these hold. Assumes nothing.
use mathlib.Core.Path.{◌≡◌, refl, sym, ap, ap₂, ◌∙◌}
use mathlib.Core.Bool.{Bool, true, false, cond, ◌&&◌}
use lib.Dec.{leb, eqb}
use borrow.Author.Tests.{leb-true, eqb-true}
use Rattle.float.proofs.Flags.{both_l, both_r}
use Rattle.refusals.specs.Refusals.{misshapen}
use Rattle.refusals.specs.Limits.{most_stops}
use Rattle.gradient.specs.Gimp.{segments, gimp_shaped, all_carried, gimp_check}
use Rattle.gradient.proofs.Valid.{valid}
use mathlib.Core.List.{List, [], ◌∷◌, ◌++◌}
use Prim.Native.Nat.{ℕ, suc, ◌+◌, ◌*◌, ◌≤◌}
use native.Mathlib.Omega.{arith}
use lib.ListN.{length, length-append}
use lib.Seq.{sets}
use lib.Ieee.{Float}
use Rattle.stops.specs.declared.Checked.{Checked}
use Rattle.stops.specs.declared.Checked.TheVariants as checked
use Rattle.stops.specs.Lent.{Ramp}
use Rattle.gradient.specs.Ramp.{is_gimp, check_of, min_of, max_of}
use Rattle.places.specs.Places.{list_of, Ready}
use Rattle.places.proofs.Following.{list_most}
use Rattle.weighed.specs.Points.{Site, own_of, merged, sites_of}
use Rattle.weighed.specs.Gathered.{points_of, merged_of, gathered, times_of, marks_of, Gathers}
use Rattle.weighed.proofs.Coming.{without_max}
use Rattle.weighed.proofs.Counting.{own_length, merged-length}
use Rattle.weighed.proofs.Gathering.{gathered_ready}
use Rattle.within.specs.inner.Weighing.{sites_from}
use Rattle.within.proofs.Arrays.{sites_held}

-- ---- a checked ramp has at most 2,048 positions
shaped_few : (n p c k : ℕ) → gimp_shaped n p c k ≡ true → p ≤ 2048
unfolding gimp_shaped
shaped_few n p c k h =
    let a = both_l (leb 1 n && leb n 256 && eqb p (3 * n) && eqb c (8 * n)) (eqb k (2 * n)) h in
    let b = both_l (leb 1 n && leb n 256 && eqb p (3 * n)) (eqb c (8 * n)) a in
    let e = eqb-true p (3 * n) (both_r (leb 1 n && leb n 256) (eqb p (3 * n)) b) in
    let l = leb-true n 256 (both_r (leb 1 n) (leb n 256) (both_l (leb 1 n && leb n 256) (eqb p (3 * n)) b)) in
    omega arith

passed_by : (b : Bool) (x : Checked) → cond b x (checked.Refused misshapen) ≡ checked.Fine → b ≡ true
passed_by true x h = refl
passed_by false x h = let z : ◌≡◌ {A = ℕ} 0 1 = cc in absurd (omega arith)

pub positions_few : (ramp : Ramp) → check_of ramp ≡ checked.Fine → length ramp.positions ≤ 2048
unfolding check_of gimp_check most_stops
positions_few ramp h = go (is_gimp ramp.kind) refl
  where
    ps : List Float
    ps = ramp.positions

    go : (b : Bool) → is_gimp ramp.kind ≡ b → length ps ≤ 2048
    go false e = (valid ramp e h).sized.most
    go true e =
        let k = passed_by (gimp_shaped (segments ps) (length ps) (length ramp.channels) (length ramp.codes) && all_carried ramp.kind (segments ps) 0 ps ramp.codes) _ (rw e at h) in
        shaped_few (segments ps) (length ps) (length ramp.channels) (length ramp.codes) (both_l (gimp_shaped (segments ps) (length ps) (length ramp.channels) (length ramp.codes)) (all_carried ramp.kind (segments ps) 0 ps ramp.codes) k)

-- ---- the points
module _ (ramp : Ramp) (rows : List Float) (counts : List ℕ) (ok : Ready rows counts) (few : length ramp.positions ≤ 2048) where
  sites_are : gathered ramp.positions rows counts (min_of ramp) (max_of ramp) ≡ sites_of ramp (list_of rows counts (max_of ramp))
  unfolding sites_of merged_of list_of
  sites_are =
      let ts = points_of rows counts in
      let os = own_of ramp.positions in
      let n : length (ts ++ max_of ramp ∷ []) + length os ≡ suc (length ts + length os) = omega (arith, length-append ts (max_of ramp ∷ [])) in
      gathered_ready ramp.positions rows counts (min_of ramp) (max_of ramp) ok few
      ∙ sym (ap (λ (k : ℕ). merged (max_of ramp) k (min_of ramp) (ts ++ max_of ramp ∷ []) os) n ∙ without_max (max_of ramp) (length ts + length os) (min_of ramp) ts os (omega arith))

  sites_most : length (sites_of ramp (list_of rows counts (max_of ramp))) ≤ 10753
  unfolding sites_of
  sites_most =
      let ts = list_of rows counts (max_of ramp) in
      omega (arith, merged-length (max_of ramp) (length ts + length (own_of ramp.positions)) (min_of ramp) ts (own_of ramp.positions), own_length ramp.positions, list_most rows counts (max_of ramp) ok)

  -- they stand in the arrays
  module _ (lo hi : Float) (el : lo ≡ min_of ramp) (eh : hi ≡ max_of ramp) (ts ts' : List Float) (ms ms' : List ℕ) (n : ℕ) (w : Gathers (gathered ramp.positions rows counts lo hi) ts ms ts' ms' n) where
    abbrev sites : List Site
    sites = sites_of ramp (list_of rows counts (max_of ramp))

    all : gathered ramp.positions rows counts lo hi ≡ sites
    all = ap₂ (gathered ramp.positions rows counts) el eh ∙ sites_are

    pub count_is : n ≡ length sites
    count_is = w.many ∙ ap length all

    pub count_few : n ≤ 10752
    unfolding merged_of list_of
    count_few =
        let pts = points_of rows counts in
        omega (
          arith,
          w.many ∙ ap length (ap₂ (gathered ramp.positions rows counts) el eh ∙ gathered_ready ramp.positions rows counts (min_of ramp) (max_of ramp) ok few),
          merged-length (max_of ramp) (length pts + length (own_of ramp.positions)) (min_of ramp) pts (own_of ramp.positions),
          own_length ramp.positions,
          few,
          list_most rows counts (max_of ramp) ok,
          length-append pts (max_of ramp ∷ []),
        )

    pub sites_there : length ts ≡ 10753 → length ms ≡ 10753 → sites_from ts' ms' 0 n ≡ sites
    sites_there l m =
        ap₂ (λ (a : List Float) (b : List ℕ). sites_from a b 0 n) (w.times ∙ ap (λ (ss : List Site). sets ts 0 (times_of ss)) all) (w.marks ∙ ap (λ (ss : List Site). sets ms 0 (marks_of ss)) all)
        ∙ ap (sites_from (sets ts 0 (times_of sites)) (sets ms 0 (marks_of sites)) 0) count_is
        ∙ sites_held ts ms sites (omega (arith, sites_most, l)) (omega (arith, sites_most, m))
