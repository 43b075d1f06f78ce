-- The verdict on a list's shape: test by test, and when there is nothing wrong with it. Assumes nothing.
use mathlib.Core.Path.{◌≡◌, refl, sym, ◌∙◌}
use mathlib.Core.Bool.{Bool, true, false, not, cond}
use mathlib.Core.List.{List}
use Prim.Native.Nat.{ℕ, ◌-◌, ◌≤◌, ◌<◌}
use native.Mathlib.Omega.{arith}
use lib.Dec.{ltb}
use lib.ListN.{length}
use lib.Ieee.{Float, eq, ne}
use borrow.Author.Tests.{lt-ltb, le-ltb, ltb-false, not-true, not-false}
use Rattle.stops.specs.Stops.{pos_at}
use Rattle.judge.specs.Lists.{Offer, sized, first_bad}
use Rattle.judge.specs.Verdicts.{number_of_verdict, ends_verdict, shape_verdict}
use Rattle.judge.specs.inner.Steps.{Sound}
use Rattle.judge.specs.declared.Verdict.{Verdict}
use Rattle.judge.specs.declared.Verdict.TheVariants.{Yes, WrongLength, BadStop, WrongFirst, WrongLast}
use Rattle.judge.proofs.Listing.{sound}
use Rattle.judge.proofs.Walking.{pick_number}

-- ---- values that are compared
ne_is : (x y : Float) → ne x y ≡ not (eq x y)
unfolding ne
ne_is x y = refl

equal : (x y : Float) → ne x y ≡ false → eq x y ≡ true
equal x y h = not-false (eq x y) (sym (ne_is x y) ∙ h)

equal_not : (x y : Float) → ne x y ≡ true → eq x y ≡ false
equal_not x y h = not-true (eq x y) (sym (ne_is x y) ∙ h)

-- ---- which way led to yes
taken : (b : Bool) (x y : Verdict) → (y ≡ Yes → ⊥) → cond b x y ≡ Yes → (b ≡ true) × (x ≡ Yes)
taken true x y never e = (refl, e)
taken false x y never e = absurd (never e)

left : (b : Bool) (x y : Verdict) → (x ≡ Yes → ⊥) → cond b x y ≡ Yes → (b ≡ false) × (y ≡ Yes)
left true x y never e = absurd (never e)
left false x y never e = (refl, e)

no_length : WrongLength ≡ Yes → ⊥
no_length e = let z : ◌≡◌ {A = ℕ} 0 1 = cc in omega arith

no_stop : (k : ℕ) → BadStop k ≡ Yes → ⊥
no_stop k e = let z : ◌≡◌ {A = ℕ} 0 1 = cc in omega arith

no_first : WrongFirst ≡ Yes → ⊥
no_first e = let z : ◌≡◌ {A = ℕ} 0 1 = cc in omega arith

no_last : WrongLast ≡ Yes → ⊥
no_last e = let z : ◌≡◌ {A = ℕ} 0 1 = cc in omega arith

module _ (lo hi : Float) (offer : Offer) where
  abbrev ps : List Float
  ps = offer.positions

  abbrev is_sized : Bool
  is_sized = sized (length ps) (length offer.channels)

  abbrev is_bad : Bool
  is_bad = ltb (first_bad offer) (length ps)

  -- ---- test by test
  module _ (after : Verdict) where
    pub wrong_length : is_sized ≡ false → WrongLength ≡ shape_verdict lo hi offer after
    unfolding shape_verdict
    wrong_length h = rw h

    module _ (s : is_sized ≡ true) (k : ℕ) (e : k ≡ first_bad offer) where
      pub bad_stop : k < length ps → BadStop k ≡ shape_verdict lo hi offer after
      unfolding shape_verdict
      bad_stop l = rw (s, ← e, lt-ltb k (length ps) l)

      module _ (past : length ps ≤ k) where
        pub wrong_first : ne (pos_at ps 0) lo ≡ true → WrongFirst ≡ shape_verdict lo hi offer after
        unfolding shape_verdict ends_verdict
        wrong_first h = rw (s, ← e, le-ltb k (length ps) past, equal_not (pos_at ps 0) lo h)

        module _ (h : ne (pos_at ps 0) lo ≡ false) where
          pub wrong_last : ne (pos_at ps (length ps - 1)) hi ≡ true → WrongLast ≡ shape_verdict lo hi offer after
          unfolding shape_verdict ends_verdict
          wrong_last l = rw (s, ← e, le-ltb k (length ps) past, equal (pos_at ps 0) lo h, equal_not (pos_at ps (length ps - 1)) hi l)

          pub nothing_wrong : ne (pos_at ps (length ps - 1)) hi ≡ false → after ≡ shape_verdict lo hi offer after
          unfolding shape_verdict ends_verdict
          nothing_wrong l = rw (s, ← e, le-ltb k (length ps) past, equal (pos_at ps 0) lo h, equal (pos_at ps (length ps - 1)) hi l)

    -- it is no refusal, where what follows is none
    pub shape_number : number_of_verdict after ≡ 0 → number_of_verdict (shape_verdict lo hi offer after) ≡ 0
    unfolding shape_verdict ends_verdict
    shape_number n =
        pick_number is_sized _ WrongLength
        (pick_number is_bad (BadStop (first_bad offer)) _ refl
        (pick_number (eq (pos_at ps 0) lo) _ WrongFirst (pick_number (eq (pos_at ps (length ps - 1)) hi) after WrongLast n refl) refl)) refl

  -- ---- nothing is wrong with it
  pub record Shaped : Type 0 where
    pub long : is_sized ≡ true
    pub stops : length ps ≤ first_bad offer
    pub first : eq (pos_at ps 0) lo ≡ true
    pub last : eq (pos_at ps (length ps - 1)) hi ≡ true

  pub shape_yes : (after : Verdict) → shape_verdict lo hi offer after ≡ Yes → Shaped × (after ≡ Yes)
  unfolding shape_verdict ends_verdict
  shape_yes after e =
      let b = taken is_sized _ WrongLength no_length e in
      let c = left is_bad (BadStop (first_bad offer)) _ (no_stop (first_bad offer)) b.1 in
      let d = taken (eq (pos_at ps 0) lo) _ WrongFirst no_first c.1 in
      let f = taken (eq (pos_at ps (length ps - 1)) hi) after WrongLast no_last d.1 in
      (record { long = b.0; stops = ltb-false (first_bad offer) (length ps) c.0; first = d.0; last = f.0 }, f.1)

  pub yes_shape : (after : Verdict) → Shaped → shape_verdict lo hi offer after ≡ after
  unfolding shape_verdict ends_verdict
  yes_shape after w = rw (w.long, le-ltb (first_bad offer) (length ps) w.stops, w.first, w.last)

  -- where something is, what follows is not asked for
  pub shape_no : (after : Verdict) → (Yes ≡ shape_verdict lo hi offer Yes → ⊥) → shape_verdict lo hi offer Yes ≡ shape_verdict lo hi offer after
  unfolding shape_verdict ends_verdict
  shape_no after never = go is_sized is_bad (eq (pos_at ps 0) lo) (eq (pos_at ps (length ps - 1)) hi) never
    where
      go : (a b c d : Bool) → (Yes ≡ cond a (cond b (BadStop (first_bad offer)) (cond c (cond d Yes WrongLast) WrongFirst)) WrongLength → ⊥)
          → cond a (cond b (BadStop (first_bad offer)) (cond c (cond d Yes WrongLast) WrongFirst)) WrongLength
          ≡ cond a (cond b (BadStop (first_bad offer)) (cond c (cond d after WrongLast) WrongFirst)) WrongLength
      go false b c d n = refl
      go true true c d n = refl
      go true false false d n = refl
      go true false true false n = refl
      go true false true true n = absurd (n refl)

  -- its colours are document 01's
  pub shape_sound : {v : Verdict} → v ≡ shape_verdict lo hi offer Yes → v ≡ Yes → Sound offer
  shape_sound e y = let w = (shape_yes Yes (sym e ∙ y)).0 in sound offer w.long w.stops
