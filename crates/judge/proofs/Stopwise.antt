-- Two lists with the same stops are the same slices, or of no length that a list may have. Assumes nothing.
use mathlib.Core.Path.{◌≡◌, refl, sym, ap, ap₂, ◌∙◌}
use mathlib.Core.Bool.{Bool, true, false}
use mathlib.Core.Logic.{◌⊎◌, inl, inr}
use mathlib.Core.List.{List, [], ◌∷◌}
use Prim.Native.Nat.{ℕ, zero, suc, ◌+◌, ◌-◌, ◌*◌, ◌/◌, ◌<◌}
use native.Mathlib.Omega.{arith}
use lib.ListN.{length, get_or}
use lib.Ieee.{Float, nan}
use Rattle.blend.specs.declared.Stop.{Stop}
use Rattle.judge.specs.Lists.{Offer, offer_of, sized}
use Rattle.judge.specs.Conditions.{SameStops}
use Rattle.judge.proofs.Listing.{size}

same_items : (l k : List Float) → length l ≡ length k → ((i : ℕ) → i < length l → get_or l i nan ≡ get_or k i nan) → l ≡ k
same_items [] [] e h = refl
same_items [] (y ∷ k) e h = absurd (omega arith)
same_items (x ∷ l) [] e h = absurd (omega arith)
same_items (x ∷ l) (y ∷ k) e h = ap₂ ◌∷◌ (h 0 (omega arith)) (same_items l k (omega arith) (λ i b. h (suc i) (omega arith)))

module _ (one other : Offer) (four : length one.channels ≡ 4 * length one.positions) (w : SameStops one other) where
  -- channel j is one of the four of stop j / 4
  same_channel : (j : ℕ) → j < length one.channels → get_or one.channels j nan ≡ get_or other.channels j nan
  same_channel j l = go (j - 4 * (j / 4)) (omega arith) (omega arith)
    where
      i : ℕ
      i = j / 4

      here : i < length one.positions
      here = omega arith

      go : (r : ℕ) → j ≡ 4 * i + r → r < 4 → get_or one.channels j nan ≡ get_or other.channels j nan
      go zero e b = let k : j ≡ 4 * i = omega arith in rw k (ap (λ (s : Stop). s.colour.r) (w.each i here))
      go (suc zero) e b = let k : j ≡ 4 * i + 1 = omega arith in rw k (ap (λ (s : Stop). s.colour.g) (w.each i here))
      go (suc (suc zero)) e b = let k : j ≡ 4 * i + 2 = omega arith in rw k (ap (λ (s : Stop). s.colour.b) (w.each i here))
      go (suc (suc (suc zero))) e b = let k : j ≡ 4 * i + 3 = omega arith in rw k (ap (λ (s : Stop). s.colour.a) (w.each i here))
      go (suc (suc (suc (suc r)))) e b = absurd (omega arith)

  same_offer : one ≡ other
  same_offer =
      ap₂ offer_of
      (same_items one.positions other.positions w.as_many (λ i l. ap (λ (s : Stop). s.position) (w.each i l)))
      (same_items one.channels other.channels w.as_long same_channel)

-- or neither has a length that a list may have
pub same_or_unsized : (one other : Offer) → SameStops one other
    → (one ≡ other) ⊎ ((sized (length one.positions) (length one.channels) ≡ false) × (sized (length other.positions) (length other.channels) ≡ false))
same_or_unsized one other w = go (sized (length one.positions) (length one.channels)) refl
  where
    go : (b : Bool) → sized (length one.positions) (length one.channels) ≡ b
        → (one ≡ other) ⊎ ((sized (length one.positions) (length one.channels) ≡ false) × (sized (length other.positions) (length other.channels) ≡ false))
    go true e = inl (same_offer one other (size _ _ e).four w)
    go false e = inr (e, ap₂ sized (sym w.as_many) (sym w.as_long) ∙ e)
