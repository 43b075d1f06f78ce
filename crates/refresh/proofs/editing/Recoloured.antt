-- The channels with the colour of stop k changed: its colour is the new one, those of the other stops stay. So a ramp that passes the check
-- passes it with a finite colour changed. Assumes nothing.
use mathlib.Core.Path.{◌≡◌, refl, ap, ◌∙◌, subst}
use mathlib.Core.Bool.{true, false}
use mathlib.Core.List.{List, [], ◌∷◌}
use mathlib.Core.Logic.{◌⊎◌, inl, inr}
use Prim.Native.Nat.{ℕ, zero, suc, ◌+◌, ◌*◌, ◌≤◌, ◌<◌}
use native.Mathlib.Decide.{dec_le}
use native.Mathlib.Nat.{lt_of_not-le}
use native.Mathlib.Omega.{arith}
use lib.ListN.{length, get_or, set, length-set}
use lib.Seq.{sets, get_or-set_same, get_or-set_other, length-sets}
use lib.Ieee.{Float, nan}
use Rattle.blend.specs.declared.Rgba.{Rgba}
use Rattle.stops.specs.Lent.{Ramp}
use Rattle.stops.specs.Stops.{colour_at, finite_rgba}
use Rattle.stops.specs.declared.Checked.TheVariants.{Fine}
use Rattle.gradient.proofs.Valid.{valid, passes}
use Rattle.gradient.specs.Ramp.{is_gimp, check_of}
use Rattle.blend.specs.Channels.{channels_of}
use Rattle.refresh.specs.editing.Edited.{changed, edited}
use Rattle.refresh.specs.declared.editing.Edit.TheVariants.{Colour}

-- ---- the other stops' colours stay
sets_other : (l : List Float) (at : ℕ) (vs : List Float) (j : ℕ) (d : Float) → (j < at) ⊎ (at + length vs ≤ j) → get_or (sets l at vs) j d ≡ get_or l j d
sets_other l at [] j d h = refl
sets_other l at (v ∷ vs) j d (inl h) = sets_other (set l at v) (suc at) vs j d (inl (omega arith)) ∙ get_or-set_other l at j v d (λ e. omega arith)
sets_other l at (v ∷ vs) j d (inr h) = sets_other (set l at v) (suc at) vs j d (inr (omega arith)) ∙ get_or-set_other l at j v d (λ e. omega arith)

module _ (cs : List Float) (k : ℕ) (colour : Rgba) where
  channel_other : (i c : ℕ) → c < 4 → (i ≡ k → ⊥) → get_or (changed cs k colour) (4 * i + c) nan ≡ get_or cs (4 * i + c) nan
  unfolding changed
  channel_other i c l n = sets_other cs (4 * k) (channels_of colour) (4 * i + c) nan (go (dec_le k i))
    where
      go : Dec (k ≤ i) → (4 * i + c < 4 * k) ⊎ (4 * k + 4 ≤ 4 * i + c)
      go (no f) = let g : i < k = lt_of_not-le f in inl (omega arith)
      go (yes e) = inr (beyond (dec_le i k))
        where
          beyond : Dec (i ≤ k) → 4 * k + 4 ≤ 4 * i + c
          beyond (yes f) = absurd (n (omega arith))
          beyond (no f) = let g : k < i = lt_of_not-le f in omega arith

  pub colour_other : (i : ℕ) → (i ≡ k → ⊥) → colour_at (changed cs k colour) i ≡ colour_at cs i
  colour_other i n =
      let e : 4 * i + 0 ≡ 4 * i = omega arith in
      rw (subst (λ (j : ℕ). get_or (changed cs k colour) j nan ≡ get_or cs j nan) e (channel_other i 0 (omega arith) n), channel_other i 1 (omega arith) n, channel_other i 2 (omega arith) n, channel_other i 3 (omega arith) n)

-- ---- the changed ramp passes the check
sets-at : (l : List Float) (at : ℕ) (vs : List Float) (j : ℕ) (d : Float) → at + length vs ≤ length l → j < length vs → get_or (sets l at vs) (at + j) d ≡ get_or vs j d
sets-at l at [] j d h m = absurd (omega arith)
sets-at l at (v ∷ vs) zero d h m =
    let e : at + 0 ≡ at = omega arith in
    rw e (sets_other (set l at v) (suc at) vs at d (inl (omega arith)) ∙ get_or-set_same l at v d (omega arith))
sets-at l at (v ∷ vs) (suc j) d h m =
    let e : at + suc j ≡ suc at + j = omega arith in
    rw e (sets-at (set l at v) (suc at) vs j d (omega (arith, length-set l at v)) (omega arith))

pub colour_new : (cs : List Float) (k : ℕ) (colour : Rgba) → 4 * k + 4 ≤ length cs → colour_at (changed cs k colour) k ≡ colour
unfolding changed
colour_new cs k colour h =
    let e : 4 * k + 0 ≡ 4 * k = omega arith in
    let at : (j : ℕ) → j < 4 → get_or (sets cs (4 * k) (channels_of colour)) (4 * k + j) nan ≡ get_or (channels_of colour) j nan = λ j l. sets-at cs (4 * k) (channels_of colour) j nan h l in
    rw (subst (λ (j : ℕ). get_or (sets cs (4 * k) (channels_of colour)) j nan ≡ colour.r) e (at 0 (omega arith)), at 1 (omega arith), at 2 (omega arith), at 3 (omega arith))

pub changed-length : (cs : List Float) (k : ℕ) (colour : Rgba) → length (changed cs k colour) ≡ length cs
unfolding changed
changed-length cs k colour = length-sets cs (4 * k) (channels_of colour)

module _ (cs : List Float) (k : ℕ) (colour : Rgba) (room : 4 * k + 4 ≤ length cs) (fine : finite_rgba colour ≡ true) where
  finite_still : (i : ℕ) → finite_rgba (colour_at cs i) ≡ true → finite_rgba (colour_at (changed cs k colour) i) ≡ true
  finite_still i h = go (dec_le i k) (dec_le k i)
    where
      go : Dec (i ≤ k) → Dec (k ≤ i) → finite_rgba (colour_at (changed cs k colour) i) ≡ true
      go (yes a) (yes b) = let e : i ≡ k = omega arith in ap finite_rgba (ap (colour_at (changed cs k colour)) e ∙ colour_new cs k colour room) ∙ fine
      go (no a) d = ap finite_rgba (colour_other cs k colour i (λ e. a (omega arith))) ∙ h
      go (yes a) (no b) = ap finite_rgba (colour_other cs k colour i (λ e. b (omega arith))) ∙ h

pub recoloured_fine : (ramp : Ramp) (k : ℕ) (colour : Rgba) → 4 * k + 4 ≤ length ramp.channels → finite_rgba colour ≡ true → is_gimp ramp.kind ≡ false → check_of ramp ≡ Fine
    → check_of (edited ramp (Colour k colour)) ≡ Fine
recoloured_fine ramp k colour room fine s h =
    let v = valid ramp s h in
    passes (edited ramp (Colour k colour)) s
    (record {
      sized = rw (changed-length ramp.channels k colour) v.sized;
      finite_at = v.finite_at;
      colour_finite = λ i l. finite_still ramp.channels k colour room fine i (v.colour_finite i l);
      rising = v.rising;
    })
