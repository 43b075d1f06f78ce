-- Colours written one after the other from the start of a list. Assumes nothing.
use mathlib.Core.Path.{◌≡◌, refl, sym, ◌∙◌, ap}
use mathlib.Core.List.{List, [], ◌∷◌, ◌++◌}
use Prim.Native.Nat.{ℕ, ◌+◌, ◌*◌, ◌≤◌, ◌<◌}
use native.Mathlib.Numerals.{add-one}
use native.Mathlib.Omega.{arith}
use lib.ListN.{length, take, drop, get_or}
use lib.Seq.{sets, length-take-le, take-suc, take-length}
use lib.Ieee.{Float, nan}
use Rattle.slices.proofs.Stores.{sets_next}
use Rattle.blend.specs.Channels.{channels_of, colours_of}
use Rattle.blend.specs.declared.Rgba.{Rgba}
use Rattle.blend.proofs.Channels.{length_colours}

module _ (g : Float → Rgba) where
  colours_append : (xs ys : List Float) → colours_of g (xs ++ ys) ≡ colours_of g xs ++ colours_of g ys
  unfolding colours_of
  colours_append [] ys = refl
  colours_append (x ∷ xs) ys = ap (λ (r : List Float). channels_of (g x) ++ r) (colours_append xs ys)

  colours_one : (t : Float) → colours_of g (t ∷ []) ≡ channels_of (g t)
  unfolding colours_of
  colours_one t = refl

  module _ (ts out : List Float) (room : 4 * length ts ≤ length out) where
    pub colours_next : (i : ℕ) {c : Rgba} → i < length ts → c ≡ g (get_or ts i nan) → sets (colours_of g (take i ts) ++ drop (4 * i) out) (4 * i) (channels_of c) ≡ colours_of g (take (i + 1) ts) ++ drop (4 * (i + 1)) out
    colours_next i {c} h e =
        sets_next (colours_of g (take i ts)) (channels_of c) out (4 * i) (4 * (i + 1)) (length_colours g (take i ts) ∙ ap (λ (n : ℕ). 4 * n) (length-take-le i ts (omega arith))) (omega arith) (omega arith)
        ∙ ap (λ (r : List Float). r ++ drop (4 * (i + 1)) out)
        (ap (λ (d : Rgba). colours_of g (take i ts) ++ channels_of d) e ∙ ap (λ (r : List Float). colours_of g (take i ts) ++ r) (sym (colours_one (get_or ts i nan)))
        ∙ sym (colours_append (take i ts) (get_or ts i nan ∷ [])) ∙ ap (colours_of g) (sym (take-suc ts i nan h) ∙ ap (λ (n : ℕ). take n ts) (sym (add-one i))))

    pub colours_done : (i : ℕ) → i ≤ length ts → length ts ≤ i → colours_of g (take i ts) ++ drop (4 * i) out ≡ colours_of g ts ++ drop (4 * length ts) out
    colours_done i a b =
        let e : i ≡ length ts = omega arith in
        ap (λ (n : ℕ). colours_of g (take n ts) ++ drop (4 * n) out) e ∙ ap (λ (r : List Float). colours_of g r ++ drop (4 * length ts) out) (take-length ts)
