-- The search for a pair by quarters of a power of two, turn by turn, and the place of t, test by test. Assumes nothing.
use mathlib.Core.Path.{◌≡◌, refl, sym, ◌∙◌, ap, subst}
use mathlib.Core.Bool.{true, false}
use mathlib.Core.List.{List}
use Prim.Native.Nat.{ℕ, zero, suc, ◌+◌, ◌-◌, ◌*◌, ◌/◌, ◌≤◌, ◌<◌, ◌^◌}
use native.Mathlib.Nat.{pow-succ'}
use native.Mathlib.Omega.{arith}
use lib.ListN.{length}
use lib.Ieee.{Float, le, ne}
use Rattle.float.proofs.Order.{ne_self}
use Rattle.blend.specs.declared.Rgba.{Rgba}
use Rattle.stops.specs.Stops.{pos_at}
use Rattle.stops.specs.Place.{Rising, first_at, is_below, place_of}
use Rattle.stops.specs.Pair.{colour_in}
use Rattle.stops.specs.Near.{is_between}
use Rattle.stops.specs.declared.Kind.{Kind}
use Rattle.stops.specs.declared.Place.{Place}
use Rattle.stops.specs.declared.Place.TheVariants.{End, Nowhere, Between}
use Rattle.stops.proofs.Choice.{rising_numbers, place_first, place_last, place_nan, place_between}
use Rattle.stops.proofs.Narrowing.{Bracket}
use Rattle.stops.proofs.Quarters.{first_part, quarter, ends_two, ends-one}
use Rattle.stops.proofs.Nearby.{near_pair, near_same}
use Rattle.stops.proofs.Valid.{pair_inside}
use Rattle.paint.specs.inner.Steps.{Span, Sought, Placed, stop_colour}

-- ---- powers of two
pub record Power (n : ℕ) : Type 0 where
  pub width : ℕ
  pub power : n ≡ 2 ^ width

pub one : Power 1
one = record { width = 0; power = refl }

twice : (m : ℕ) → m + m ≡ 2 * m
twice m = omega arith

pub doubled : (n : ℕ) → Power n → Power (n + n)
doubled n p = record { width = suc p.width; power = ap (λ (m : ℕ). m + m) p.power ∙ twice (2 ^ p.width) ∙ sym (pow-succ' 2 p.width) }

four : (m : ℕ) → 2 * (2 * m) ≡ 4 * m
four m = omega arith

pub quartered : (n : ℕ) → Power n → 2 < n → (n ≡ 4 * (n / 4)) × Power (n / 4)
quartered n p h = go p.width p.power
  where
    back : (m : ℕ) → n ≡ 4 * m → Power m → (n ≡ 4 * (n / 4)) × Power (n / 4)
    back m f p = let e : m ≡ n / 4 = omega arith in (omega arith, subst Power e p)

    go : (w : ℕ) → n ≡ 2 ^ w → (n ≡ 4 * (n / 4)) × Power (n / 4)
    go zero e = absurd (omega arith)
    go (suc zero) e = absurd (omega arith)
    go (suc (suc w)) e =
        let f : n ≡ 4 * 2 ^ w = e ∙ pow-succ' 2 (suc w) ∙ ap (λ (m : ℕ). 2 * m) (pow-succ' 2 w) ∙ four (2 ^ w) in
        back (2 ^ w) f (record { width = w; power = refl })

-- ---- the search
pub record Around (ps : List Float) (t : Float) (base size : ℕ) : Type 0 where
  pub bracket : Bracket ps t base size
  pub power : Power size

module _ (ps : List Float) (t : Float) (span : ℕ) (S : Sought ps t span) where
  pub started : {low b : ℕ} → low ≡ length ps - 1 - span → b ≡ is_below ps t low → Around ps t (low * b) span
  started {low} {b} e f =
      let i = S.spans.inside in
      let h = S.spans.half in
      record {
        bracket = subst (λ (n : ℕ). Bracket ps t (low * n) span) (sym f) (first_part ps t S.rising S.number (omega arith) S.past S.before low span (omega arith) (omega arith) (omega arith));
        power = record { width = S.spans.width; power = S.spans.power };
      }

  module _ (base size : ℕ) (A : Around ps t base size) where
    pub turned : 2 < size → {x y z : ℕ} → x ≡ is_below ps t (base + size / 4) → y ≡ is_below ps t (base + 2 * (size / 4)) → z ≡ is_below ps t (base + 3 * (size / 4)) → Around ps t (base + size / 4 * (x + y + z)) (size / 4)
    turned h {x} {y} {z} a b c =
        let p = quartered size A.power h in
        let q = size / 4 in
        let B = subst (λ (n : ℕ). Bracket ps t base n) p.0 A.bracket in
        let e : x + y + z ≡ is_below ps t (base + q) + is_below ps t (base + 2 * q) + is_below ps t (base + 3 * q) = cc in
        record {
          bracket = subst (λ (n : ℕ). Bracket ps t (base + q * n) q) (sym e) (quarter ps t S.rising S.number base q (omega (arith, p.0)) B);
          power = p.1;
        }

    pub ended_two : size ≤ 2 → 1 < size → {b : ℕ} → b ≡ is_below ps t (base + 1) → base + b + 1 ≡ first_at t ps
    ended_two h g e = ends_two ps t S.rising S.number base size A.bracket h g e

    pub ended_one : size ≤ 1 → base + 1 ≡ first_at t ps
    ended_one h = ends-one ps t S.rising S.number base size A.bracket h

-- ---- the place
pub at_least_two : (n size : ℕ) → Span n size → 2 ≤ n
at_least_two n size s = let i = s.inside in let h = s.half in omega arith

module _ (ps : List Float) (t : Float) where
  pub tried : (k span : ℕ) → Rising ps → Span (length ps) span → {b : _} → b ≡ is_between ps t k → b ≡ true → Between k ≡ place_of ps t
  tried k span R s e h = near_pair ps t k (sym e ∙ h) ∙ near_same ps (at_least_two (length ps) span s) R t k

  pub at_first : le t (pos_at ps 0) ≡ true → End 0 ≡ place_of ps t
  at_first a = sym (place_first ps t a)

  module _ (a : le t (pos_at ps 0) ≡ false) where
    pub at_last : le (pos_at ps (length ps - 1)) t ≡ true → End (length ps - 1) ≡ place_of ps t
    at_last b = sym (place_last ps t a b)

    module _ (b : le (pos_at ps (length ps - 1)) t ≡ false) where
      pub at_nan : ne t t ≡ true → Nowhere ≡ place_of ps t
      at_nan n = sym (place_nan ps t a b (sym (ne_self t) ∙ n))

      pub at_between : ne t t ≡ false → {k : ℕ} → k ≡ first_at t ps → Between k ≡ place_of ps t
      at_between n e = ap Between e ∙ sym (place_between ps t a b (sym (ne_self t) ∙ n))

      pub sought : (span : ℕ) → Rising ps → Span (length ps) span → ne t t ≡ false → Sought ps t span
      sought span R s n = record { rising = R; spans = s; past = a; before = b; number = sym (ne_self t) ∙ n }

-- ---- the colour
module _ (ps cs : List Float) (t : Float) {place : Place} (P : Placed ps cs t place) where
  pub placed_colour : (kind : Kind) (v : Place) → place ≡ v → {z : Rgba} → z ≡ colour_in kind ps cs t v → z ≡ stop_colour kind ps cs t
  placed_colour kind v h e = e ∙ ap (λ (w : Place). colour_in kind ps cs t w) (sym h ∙ P.found)

  pub placed_inside : (k : ℕ) → place ≡ Between k → (1 ≤ k) × (k < length ps)
  placed_inside k h = pair_inside ps P.two (rising_numbers ps P.rising) t k (sym P.found ∙ h)
