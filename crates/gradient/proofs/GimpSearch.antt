-- The search for a GIMP segment, turn by turn. Assumes nothing.
use mathlib.Core.Path.{◌≡◌, refl, sym, ◌∙◌, ap}
use mathlib.Core.Bool.{Bool, true, false, cond}
use mathlib.Core.List.{List}
use Prim.Native.Nat.{ℕ, zero, suc, ◌+◌, ◌-◌, ◌*◌, ◌/◌, ◌≤◌, ◌<◌}
use native.Mathlib.Nat.{lt_of_not-le}
use native.Mathlib.Omega.{arith}
use native.Mathlib.Decide.{dec_le}
use lib.Dec.{T, ltb}
use lib.ListN.{length}
use lib.Ieee.{Float, le, lt}
use lib.Ieee.Bits.{is_true}
use borrow.Author.Tests.{ltb-true, lt-ltb, le-ltb}
use Rattle.float.proofs.Order.{le_trans, le_lt_trans, lt-le_trans, lt→le, not_lt_from_le, no_nan_l}
use Rattle.float.specs.F32.{f0, f1}
use Rattle.stops.specs.Stops.{pos_at}
use Rattle.stops.specs.Place.{Rising}
use Rattle.gradient.specs.Gimp.{segments, left_at, right_at, search, segment_found, off_domain}

-- one turn, at segment mid: up and down are what the two halves give
abbrev turn : Bool → Bool → Bool → ℕ → ℕ → ℕ → ℕ → ℕ
turn more above below up down mid tried = cond more (cond above up (cond below down mid)) tried

module _ (ps : List Float) (t : Float) where
  -- with enough tries left, how many does not matter
  enough : (n m tried low high : ℕ) → high - low ≤ n → high - low ≤ m → search n ps t tried low high ≡ search m ps t tried low high
  unfolding search
  enough zero zero tried low high a b = refl
  enough zero (suc m) tried low high a b = sym (simp (le-ltb low high (omega arith)))
  enough (suc n) zero tried low high a b = simp (le-ltb low high (omega arith))
  enough (suc n) (suc m) tried low high a b =
      let mid = (low + high) / 2 in
      both (ltb low high) (lt (right_at ps mid) t) (lt t (left_at ps mid)) mid refl
      (λ h. enough n m mid (mid + 1) high (omega arith) (omega arith))
      (λ h. enough n m mid low mid (omega arith) (omega arith))
    where
      both : (more above below : Bool) (mid : ℕ) {u u' d d' : ℕ} → ltb low high ≡ more → (low < high → u ≡ u') → (low < high → d ≡ d') → turn more above below u d mid tried ≡ turn more above below u' d' mid tried
      both true above below mid e u d = simp (u (ltb-true low high e), d (ltb-true low high e))
      both false above below mid e u d = refl

  module _ (tried low high : ℕ) where
    abbrev mid : ℕ
    mid = (low + high) / 2

    one_turn : low < high → search (high - low) ps t tried low high ≡ turn true (lt (right_at ps mid) t) (lt t (left_at ps mid)) (search (high - low - 1) ps t mid (mid + 1) high) (search (high - low - 1) ps t mid low mid) mid tried
    unfolding search
    one_turn h = let e : high - low ≡ suc (high - low - 1) = omega arith in ap (λ (n : ℕ). search n ps t tried low high) e ∙ simp (lt-ltb low high h)

    pub up : low < high → lt (right_at ps mid) t ≡ true → search (high - low) ps t tried low high ≡ search (high - (mid + 1)) ps t mid (mid + 1) high
    up h a = one_turn h ∙ simp a (enough (high - low - 1) (high - (mid + 1)) mid (mid + 1) high (omega arith) (omega arith))

    pub down : low < high → lt (right_at ps mid) t ≡ false → lt t (left_at ps mid) ≡ true → search (high - low) ps t tried low high ≡ search (mid - low) ps t mid low mid
    down h a b = one_turn h ∙ simp (a, b) (enough (high - low - 1) (mid - low) mid low mid (omega arith) (omega arith))

    pub hit : low < high → lt (right_at ps mid) t ≡ false → lt t (left_at ps mid) ≡ false → search (high - low) ps t tried low high ≡ mid
    hit h a b = one_turn h ∙ simp (a, b)

    pub met : high ≤ low → search (high - low) ps t tried low high ≡ tried
    unfolding search
    met h = let e : high - low ≡ 0 = omega arith in ap (λ (n : ℕ). search n ps t tried low high) e

  pub begun : search (segments ps - 0) ps t 0 0 (segments ps) ≡ segment_found ps t
  unfolding segment_found
  begun = let e : segments ps - 0 ≡ segments ps = omega arith in ap (λ (n : ℕ). search n ps t 0 0 (segments ps)) e

  -- a segment is found among those that there are
  within : (n tried low high top : ℕ) → tried ≤ top → high ≤ suc top → search n ps t tried low high ≤ top
  unfolding search
  within zero tried low high top a b = a
  within (suc n) tried low high top a b =
      let mid = (low + high) / 2 in
      each (ltb low high) (lt (right_at ps mid) t) (lt t (left_at ps mid)) refl
      (λ h. within n mid (mid + 1) high top (omega arith) b)
      (λ h. within n mid low mid top (omega arith) (omega arith))
      (λ h. omega arith)
    where
      each : (more above below : Bool) {u d mid : ℕ} → ltb low high ≡ more → (low < high → u ≤ top) → (low < high → d ≤ top) → (low < high → mid ≤ top) → turn more above below u d mid tried ≤ top
      each true true below e u d m = u (ltb-true low high e)
      each true false true e u d m = d (ltb-true low high e)
      each true false false e u d m = m (ltb-true low high e)
      each false above below e u d m = a

  pub found_within : segment_found ps t ≤ segments ps
  unfolding segment_found
  found_within = within (segments ps) 0 0 (segments ps) (segments ps) (omega arith) (omega arith)

  pub found_inside : 1 ≤ segments ps → segment_found ps t < segments ps
  unfolding segment_found
  found_inside h = let w = within (segments ps) 0 0 (segments ps) (segments ps - 1) (omega arith) (omega arith) in omega arith

  -- where the positions rise, a segment that t lies strictly inside is the one that is found
  module _ (R : Rising ps) (i : ℕ) (there : i < segments ps) (past : T (lt (left_at ps i) t)) (before : T (lt t (right_at ps i))) where
    passed : (m : ℕ) → m < i → lt (right_at ps m) t ≡ true
    passed m h = is_true (lt (right_at ps m) t) (le_lt_trans (right_at ps m) (left_at ps i) t (R (3 * m + 2) (3 * i) (omega arith) (omega arith)) past)

    not_passed : (m : ℕ) → i ≤ m → m < segments ps → lt (right_at ps m) t ≡ false
    not_passed m h l = not_lt_from_le (right_at ps m) t (lt→le t (right_at ps m) (lt-le_trans t (right_at ps i) (right_at ps m) before (R (3 * i + 2) (3 * m + 2) (omega arith) (omega arith))))

    ahead : (m : ℕ) → i < m → m < segments ps → lt t (left_at ps m) ≡ true
    ahead m h l = is_true (lt t (left_at ps m)) (lt-le_trans t (right_at ps i) (left_at ps m) before (R (3 * i + 2) (3 * m) (omega arith) (omega arith)))

    reached : lt t (left_at ps i) ≡ false
    reached = not_lt_from_le t (left_at ps i) (lt→le (left_at ps i) t past)

    strict : (n tried low high : ℕ) → high - low ≤ n → low ≤ i → i < high → high ≤ segments ps → search n ps t tried low high ≡ i
    unfolding search
    strict zero tried low high a b c d = absurd (omega arith)
    strict (suc n) tried low high a b c d =
        let mid = (low + high) / 2 in
        simp (lt-ltb low high (omega arith))
        (go mid (dec_le mid i) (dec_le i mid) (omega arith) (λ h. strict n mid (mid + 1) high (omega arith) (omega arith) c d) (λ h. strict n mid low mid (omega arith) b h (omega arith)))
      where
        go : (mid : ℕ) → Dec (mid ≤ i) → Dec (i ≤ mid) → mid < segments ps → {u v : ℕ} → (mid < i → u ≡ i) → (i < mid → v ≡ i)
            → cond (lt (right_at ps mid) t) u (cond (lt t (left_at ps mid)) v mid) ≡ i
        go mid (yes p) (yes q) l u v =
            let e : mid ≡ i = omega arith in
            simp (not_passed mid q l, ap (λ (m : ℕ). lt t (left_at ps m)) e ∙ reached) e
        go mid (yes p) (no q) l u v = let h = lt_of_not-le q in simp (passed mid h) (u h)
        go mid (no p) q l u v = let h = lt_of_not-le p in simp (not_passed mid (omega arith) l, ahead mid h l) (v h)

    pub strict_hit : segment_found ps t ≡ i
    unfolding segment_found
    strict_hit = strict (segments ps) 0 0 (segments ps) (omega arith) (omega arith) there (omega arith)

    -- and where they lie in the domain, so does t
    pub in_domain : T (le f0 (pos_at ps 0)) → T (le (pos_at ps (length ps - 1)) f1) → off_domain t ≡ false
    unfolding off_domain
    in_domain low high =
        let above : T (le f0 t) = lt→le f0 t (le_lt_trans f0 (left_at ps i) t (le_trans f0 (pos_at ps 0) (left_at ps i) low (R 0 (3 * i) (omega arith) (omega arith))) past) in
        let under : T (le t f1) = le_trans t (right_at ps i) f1 (lt→le t (right_at ps i) before) (le_trans (right_at ps i) (pos_at ps (length ps - 1)) f1 (R (3 * i + 2) (length ps - 1) (omega arith) (omega arith)) high) in
        simp (not_lt_from_le t f0 above, not_lt_from_le f1 t under, no_nan_l t f1 under)
