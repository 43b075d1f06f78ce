-- Of points that rise, each is weighed by the very pair of kept points that the choice of document 01 finds for it. Assumes nothing.
use mathlib.Core.Path.{◌≡◌, refl, ap, ◌∙◌, subst}
use mathlib.Core.Bool.{Bool, true, false, not, cond}
use mathlib.Core.List.{List, [], ◌∷◌}
use Prim.Native.Nat.{ℕ, zero, suc, ◌+◌, ◌-◌, ◌≤◌, ◌<◌}
use native.Mathlib.Omega.{arith}
use borrow.Author.Tests.{leb-true, le-leb, leb-false}
use lib.Dec.{T, leb}
use lib.ListN.{length, take, drop, get_or, length-drop}
use lib.Seq.{get_or-drop}
use lib.Ieee.{Float, nan, le, lt}
use lib.Ieee.Bits.{is_true}
use Rattle.float.proofs.Flags.{both_l, both_r}
use Rattle.float.proofs.Order.{as_T, lt→le, lt-le_trans, le_refl, lt_is, no_nan_l, no_nan_r}
use Rattle.stops.specs.Stops.{pos_at}
use Rattle.stops.specs.Place.{first_at}
use Rattle.sampling.specs.Midpoints.{Gradient}
use Rattle.weighed.specs.Points.{Site, site, lent_mark}
use Rattle.within.specs.Shown.{Near, fairly, shows, point_after, shown_to}
use Rattle.within.specs.Kept.{Kept, step_from, kept_from, positions_of}
use Rattle.weighed.proofs.Merging.{Rises}
use Rattle.within.proofs.Reaching.{step_on}

abbrev pub site_in : List Site → ℕ → Site
site_in ss i = get_or ss i (site nan lent_mark)

pub lt_trans : (x y z : Float) → T (lt x y) → T (lt y z) → T (lt x z)
lt_trans x y z h k = lt-le_trans x y z h (lt→le y z k)

pub not-le : (a t : Float) → T (lt a t) → le t a ≡ false
not-le a t h = go (le t a) refl
  where
    go : (b : Bool) → le t a ≡ b → b ≡ false
    go true e =
        let n = lt-le_trans a t a h (as_T (le t a) e) in
        absurd (subst T (lt_is a a (no_nan_l a t (lt→le a t h)) (no_nan_l a t (lt→le a t h)) ∙ ap not (is_true (le a a) (le_refl a (no_nan_l a t (lt→le a t h))))) n)
    go false e = refl

module _ (max : Float) where
  pub below_max : (a : Float) (ss : List Site) → Rises max a ss → T (lt a max)
  below_max a [] w = w
  below_max a (s ∷ ss) w = lt_trans a s.t max w.0 (below_max s.t ss w.1)

  pub above_all : (a : Float) (ss : List Site) (i : ℕ) → Rises max a ss → i < length ss → T (lt a (site_in ss i).t)
  above_all a [] i w l = absurd (omega arith)
  above_all a (s ∷ ss) zero w l = w.0
  above_all a (s ∷ ss) (suc i) w l = lt_trans a s.t (site_in ss i).t w.0 (above_all s.t ss i w.1 (omega arith))

  pub all-below : (a : Float) (ss : List Site) (i : ℕ) → Rises max a ss → i < length ss → T (lt (site_in ss i).t max)
  all-below a [] i w l = absurd (omega arith)
  all-below a (s ∷ ss) zero w l = below_max s.t ss w.1
  all-below a (s ∷ ss) (suc i) w l = all-below s.t ss i w.1 (omega arith)

  -- the r-th, counted from 0
  abbrev pub point_in : List Site → ℕ → Float
  point_in ss r = (get_or ss r (site max lent_mark)).t

  pub after : (a : Float) (ss : List Site) (r : ℕ) → Rises max a ss → T (lt a (point_in ss r))
  after a [] r w = w
  after a (s ∷ ss) zero w = w.0
  after a (s ∷ ss) (suc r) w = lt_trans a s.t (point_in ss r) w.0 (after s.t ss r w.1)

  pub up_to : (a : Float) (ss : List Site) (i r : ℕ) → Rises max a ss → i < length ss → i ≤ r → T (le (site_in ss i).t (point_in ss r))
  up_to a [] i r w l k = absurd (omega arith)
  up_to a (s ∷ ss) zero zero w l k = le_refl s.t (no_nan_r a s.t (lt→le a s.t w.0))
  up_to a (s ∷ ss) zero (suc r) w l k = lt→le s.t (point_in ss r) (after s.t ss r w.1)
  up_to a (s ∷ ss) (suc i) zero w l k = absurd (omega arith)
  up_to a (s ∷ ss) (suc i) (suc r) w l k = up_to s.t ss i r w.1 (omega arith) (omega arith)

  pub rest_rises : (a : Float) (ss : List Site) (r : ℕ) → Rises max a ss → r < length ss → Rises max (point_in ss r) (drop (suc r) ss)
  rest_rises a [] r w l = absurd (omega arith)
  rest_rises a (s ∷ ss) zero w l = w.1
  rest_rises a (s ∷ ss) (suc r) w l = rest_rises s.t ss r w.1 (omega arith)

-- every pair of stops shows what it must
abbrev pub AllShown : List Kept → Type 0
AllShown [] = Unit {0}
AllShown (k ∷ ks) = (k.shown ≡ true) × AllShown ks

-- ---- of any colours and any test
module _ (g : Gradient) (near : Near) where
  shown_at : (a b : Float) (ss : List Site) (r i : ℕ) → shows g near a b (take r ss) ≡ true → i < r → i < length ss
      → fairly g near a b (site_in ss i) ≡ true
  unfolding shows
  shown_at a b [] r i h l k = absurd (omega arith)
  shown_at a b (s ∷ ss) zero i h l k = absurd (omega arith)
  shown_at a b (s ∷ ss) (suc r) zero h l k = both_l (fairly g near a b s) (shows g near a b (take r ss)) h
  shown_at a b (s ∷ ss) (suc r) (suc i) h l k =
      shown_at a b ss r i (both_r (fairly g near a b s) (shows g near a b (take r ss)) h) (omega arith) (omega arith)

  -- the pair of positions that document 01's choice finds for a point was weighed
  pub record Weighed (ps : List Float) (s : Site) : Type 0 where
    pub j : ℕ
    pub inside : suc j < length ps
    pub first : first_at s.t ps ≡ suc j
    pub fair : fairly g near (pos_at ps j) (pos_at ps (suc j)) s ≡ true

  -- a point up to the next one kept: the first pair is its own
  here : (a b : Float) (ps : List Float) (s : Site) → T (lt a s.t) → T (le s.t b) → fairly g near a b s ≡ true → Weighed (a ∷ b ∷ ps) s
  unfolding first_at
  here a b ps s lower upper h =
      record { j = 0; inside = omega arith; first = simp (not-le a s.t lower, is_true (le s.t b) upper); fair = h }

  -- a point after it: its pair among what follows
  later : (a : Float) (ps : List Float) (s : Site) → T (lt a s.t) → Weighed ps s → Weighed (a ∷ ps) s
  unfolding first_at
  later a ps s lower w =
      let k = w.inside in
      record { j = suc w.j; inside = omega arith; first = simp (not-le a s.t lower, w.first); fair = w.fair }

module _ (g : Gradient) (near : Near) (max : Float) where
  abbrev pub ended : ℕ → ℕ → Float → List Site → List Kept
  ended n r b rest = cond (leb r (length rest)) (kept_from g near max n b (drop r rest)) []

  abbrev Each : ℕ → Type 0
  Each n =
      (a : Float) (rest : List Site) → length rest < n → Rises max a rest → AllShown (kept_from g near max n a rest)
      → (i : ℕ) → i < length rest → Weighed g near (a ∷ positions_of (kept_from g near max n a rest)) (site_in rest i)

  -- one step of r points
  module _ (n : ℕ) (a : Float) (rest : List Site) (r : ℕ) (one : 1 ≤ r) (few : length rest < suc n) (w : Rises max a rest) where
    abbrev pub b : Float
    b = point_after max rest r

    pub goes_on : r ≤ length rest → Rises max b (drop r rest)
    goes_on l = let e : suc (r - 1) ≡ r = omega arith in subst (λ (k : ℕ). Rises max b (drop k rest)) e (rest_rises max a rest (r - 1) w (omega arith))

    step : shown_to g near max a rest r ≡ true → AllShown (ended n r b rest) → Each n → (i : ℕ) → i < length rest → Weighed g near (a ∷ b ∷ positions_of (ended n r b rest)) (site_in rest i)
    unfolding shown_to
    step shown all f i l = go (leb r i) refl
      where
        s : Site
        s = site_in rest i

        go : (late : Bool) → leb r i ≡ late → Weighed g near (a ∷ b ∷ positions_of (ended n r b rest)) s
        go true e =
            let k : r ≤ i = leb-true r i e in
            let yes : leb r (length rest) ≡ true = le-leb r (length rest) (omega arith) in
            let all' : AllShown (kept_from g near max n b (drop r rest)) = rw yes at all in
            let i' : r + (i - r) ≡ i = omega arith in
            let same : site_in (drop r rest) (i - r) ≡ s = get_or-drop r rest (i - r) (site nan lent_mark) ∙ ap (site_in rest) i' in
            let left : length (drop r rest) ≡ length rest - r = length-drop r rest in
            let found = f b (drop r rest) (omega (arith, left)) (goes_on (omega arith)) all' (i - r) (omega (arith, left)) in
            rw yes (later g near a (b ∷ positions_of (kept_from g near max n b (drop r rest))) s (above_all max a rest i w l)
            (subst (Weighed g near (b ∷ positions_of (kept_from g near max n b (drop r rest)))) same found))
        go false e =
            let k : i < r = leb-false r i e in
            here g near a b (positions_of (ended n r b rest)) s (above_all max a rest i w l) (up_to max a rest i (r - 1) w l (omega arith)) (shown_at g near a b rest r i shown k l)

  -- every point after a is weighed by its pair
  pub weighed : (n : ℕ) → Each n
  unfolding kept_from
  weighed zero a rest few w all i l = absurd (omega arith)
  weighed (suc n) a rest few w all i l =
      step n a rest (step_from g near max a rest) (step_on g near max a rest) few w all.0 all.1 (weighed n) i l
