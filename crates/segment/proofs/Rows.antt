-- The segment of a row of numbers. Assumes nothing.
use Prim.Native.Nat.{ℕ, zero, suc, ◌-◌, ◌≤◌, ◌<◌}
use native.Mathlib.Omega.{arith}
use mathlib.Core.Path.{◌≡◌, refl, sym, ap, ◌∙◌}
use mathlib.Core.Bool.{Bool, true, false, cond, ◌||◌}
use mathlib.Core.List.{List, [], ◌∷◌, ◌++◌, append-nil}
use lib.ListN.{length, take, drop, replicate}
use lib.Dec.{eqb}
use lib.Ieee.{Float}
use borrow.Author.Tests.{eqb-true, ne_eqb}
use Rattle.refusals.specs.Refusals.{bad_segment}
use Rattle.float.specs.F32.{f0}
use Rattle.rows.specs.declared.Parting.TheVariants.{Spaces}
use Rattle.text.specs.Text.{lines, first_of}
use Rattle.rows.specs.Rows.{Numbers, all, none, parts_at, row_end, RowAt}
use Rattle.text.proofs.Bytes.{no}
use Rattle.text.proofs.Lines.{lines_after}
use Rattle.rows.proofs.Numbers.{row_is, row_not, row_next}
use Rattle.blend.specs.declared.Rgba.{Rgba}
use Rattle.segment.specs.declared.Rules.{Rules}
use Rattle.segment.specs.declared.SegmentRead.{SegmentRead}
use Rattle.segment.specs.declared.SegmentRead.TheVariants.{Fault}
use Rattle.segment.specs.Line.{notation_by, build, from_numbers, segment_on_line, number_of_segment, SegmentAt}
use Rattle.segment.specs.inner.Steps.{segment_length}

-- neither 13 numbers nor 15
not_segment : (rules : Rules) (fg bg : Rgba) (o : Numbers) → ((k : ℕ) → true ≡ segment_length k → (xs : List Float) → o ≡ all xs → length xs ≡ k → ⊥) → Fault bad_segment ≡ from_numbers rules fg bg o
unfolding from_numbers
not_segment rules fg bg none h = refl
not_segment rules fg bg (all xs) h = rw (ne_eqb (length xs) 13 (h 13 refl xs refl), ne_eqb (length xs) 15 (h 15 refl xs refl))

-- n numbers xs, and zeros after them
by_length : (rules : Rules) (fg bg : Rgba) (xs d : List Float) (n : ℕ) → length xs ≡ n → true ≡ segment_length n → d ≡ xs ++ replicate (15 - n) f0 → build rules fg bg d ≡ from_numbers rules fg bg (all xs)
unfolding from_numbers
by_length rules fg bg xs d n l h e = rw l (go (eqb n 13) refl (eqb n 15) refl h) where
  go : (t : Bool) → eqb n 13 ≡ t → (u : Bool) → eqb n 15 ≡ u → true ≡ (t || u) → build rules fg bg d ≡ cond t (build rules fg bg (xs ++ f0 ∷ f0 ∷ [])) (cond u (build rules fg bg xs) (Fault bad_segment))
  go true f u g i = ap (build rules fg bg) (e ∙ ap (λ (m : ℕ). xs ++ replicate (15 - m) f0) (eqb-true n 13 f))
  go false f true g i = ap (build rules fg bg) (e ∙ ap (λ (m : ℕ). xs ++ replicate (15 - m) f0) (eqb-true n 15 g) ∙ append-nil xs)
  go false f false g i = no i

module _ (rules : Rules) (fg bg : Rgba) {s : List ℕ} {at : ℕ} {d : List Float} {n next : ℕ} (w : RowAt (notation_by rules) Spaces s at d n next) {t : Bool} (e : t ≡ segment_length n) where
  pub segment_none : t ≡ false → SegmentAt rules fg bg s at (Fault bad_segment) next
  unfolding segment_on_line parts_at
  segment_none h = record {
    is = none_there;
    number = ap number_of_segment none_there;
    goes_on = w.goes_on;
    rest = λ g i. absurd (let z : ◌≡◌ {A = ℕ} 0 1 = cc in omega arith);
  } where
    most : (k : ℕ) → true ≡ segment_length k → k ≤ 15
    most k i = go (eqb k 13) refl (eqb k 15) refl i where
      go : (t : Bool) → eqb k 13 ≡ t → (u : Bool) → eqb k 15 ≡ u → true ≡ (t || u) → k ≤ 15
      go true f u g i = omega (arith, eqb-true k 13 f)
      go false f true g i = omega (arith, eqb-true k 15 g)
      go false f false g i = no i

    none_there : Fault bad_segment ≡ segment_on_line rules fg bg (first_of (lines (drop at s)))
    none_there = not_segment rules fg bg _ (λ k i. row_not w k (most k i) (λ q. no (i ∙ ap segment_length (sym q) ∙ sym e ∙ h)))

  some : t ≡ true → 0 < n
  some h = go n (sym h ∙ e) where
    go : (m : ℕ) → true ≡ segment_length m → 0 < m
    go zero i = no i
    go (suc m) i = omega arith

  pub segment_some : t ≡ true → (o : SegmentRead) → o ≡ build rules fg bg d → SegmentAt rules fg bg s at o next
  unfolding segment_on_line parts_at row_end
  segment_some h o b =
      let r = row_is w (some h) in
      let there : o ≡ segment_on_line rules fg bg (first_of (lines (drop at s))) = b ∙ by_length rules fg bg (take n d) d n r.1 (sym h ∙ e) r.2 ∙ ap (from_numbers rules fg bg) (sym r.0) in
      record {
        is = there;
        number = ap number_of_segment there;
        goes_on = w.goes_on;
        rest = λ g i. ap (λ (m : ℕ). lines (drop m s)) (row_next w (some h)) ∙ lines_after s at;
      }
