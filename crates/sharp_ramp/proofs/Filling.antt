-- A loop that stores f 0, f 1, .. into a lent slice: what the slice holds after j stores. Assumes nothing.
use mathlib.Core.Path.{◌≡◌, refl, sym, ◌∙◌, ap}
use mathlib.Core.Bool.{Bool, true, false}
use mathlib.Core.List.{List, [], ◌∷◌, ◌++◌, append_assoc}
use Prim.Native.Nat.{ℕ, zero, suc, ◌+◌, ◌≤◌, ◌<◌}
use native.Mathlib.Numerals.{add-one}
use native.Mathlib.Omega.{arith}
use lib.Dec.{ltb}
use lib.ListN.{length, length-drop, get_or, drop, set, length-append, get_or-append}
use lib.Seq.{sets, drop-cons, set_at, get_or_at}
use lib.Ieee.{Float, nan}
use borrow.Author.Tests.{ltb-true, ltb-false}
use Rattle.sharp_ramp.specs.Sharp.{listed}

module _ (f : ℕ → Float) where
  pub length-listed : (n : ℕ) → length (listed f n) ≡ n
  unfolding listed
  length-listed zero = refl
  length-listed (suc n) = simp (length-append, length-listed n) (omega arith)

  pub listed_at : (n j : ℕ) → j < n → get_or (listed f n) j nan ≡ f j
  unfolding listed
  listed_at zero j h = absurd (omega arith)
  listed_at (suc n) j h = go (ltb j n) refl (λ l. listed_at n j l)
    where
      go : (b : Bool) → ltb j n ≡ b → (j < n → get_or (listed f n) j nan ≡ f j) → get_or (listed f n ++ (f n ∷ [])) j nan ≡ f j
      go true e earlier =
          let l = ltb-true j n e in
          let k : j < length (listed f n) = omega (arith, length-listed n) in
          get_or-append (listed f n) (f n ∷ []) nan j k ∙ earlier l
      go false e earlier =
          let l = ltb-false j n e in
          let q : n ≡ j = omega arith in
          get_or_at (listed f n) (f n) [] nan j (length-listed n ∙ q) ∙ ap f q

  module _ (old : List Float) where
    pub fill_start : old ≡ listed f 0 ++ drop 0 old
    unfolding listed
    fill_start = refl

    pub fill_length : (j : ℕ) → j ≤ length old → length (listed f j ++ drop j old) ≡ length old
    fill_length j h = simp (length-append, length-drop, length-listed j) (omega arith)

    pub fill_step : (j : ℕ) → j < length old → {l : List Float} {x : Float} → l ≡ listed f j ++ drop j old → x ≡ f j → set l j x ≡ listed f (j + 1) ++ drop (j + 1) old
    unfolding listed
    fill_step j h {l} {x} e d =
        ap (λ (k : List Float). set k j x) e
        ∙ ap (λ (y : Float). set (listed f j ++ drop j old) j y) d
        ∙ ap (λ (k : List Float). set (listed f j ++ k) j (f j)) (drop-cons old j nan h)
        ∙ set_at (listed f j) (get_or old j nan) (drop (suc j) old) (f j) j (length-listed j)
        ∙ sym (append_assoc (listed f j) (f j ∷ []) (drop (suc j) old))
        ∙ ap (λ (k : ℕ). listed f k ++ drop k old) (sym (add-one j))

    -- several stores at once
    pub fill_part : (vs : List Float) (j : ℕ) → j + length vs ≤ length old → {l : List Float} → l ≡ listed f j ++ drop j old → ((t : ℕ) → t < length vs → get_or vs t nan ≡ f (j + t))
        → sets l j vs ≡ listed f (j + length vs) ++ drop (j + length vs) old
    fill_part [] j h e each = e ∙ ap (λ (k : ℕ). listed f k ++ drop k old) (omega arith)
    fill_part (v ∷ vs) j h {l} e each =
        let first : v ≡ f j = each 0 (omega arith) ∙ ap f (omega arith) in
        let one : set l j v ≡ listed f (suc j) ++ drop (suc j) old = fill_step j (omega arith) e first ∙ ap (λ (k : ℕ). listed f k ++ drop k old) (omega arith) in
        fill_part vs (suc j) (omega arith) one (λ t k. each (suc t) (omega arith) ∙ ap f (omega arith))
        ∙ ap (λ (k : ℕ). listed f k ++ drop k old) (omega arith)

    pub fill_end : (j n : ℕ) → j ≤ n → n ≤ j → {l : List Float} → l ≡ listed f j ++ drop j old → l ≡ listed f n ++ drop n old
    fill_end j n a b e = let q : j ≡ n = omega arith in e ∙ ap (λ (k : ℕ). listed f k ++ drop k old) q
