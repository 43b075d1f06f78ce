-- A line that holds a segment by document 01's rules holds the same by those for what GIMP saves. Assumes nothing.
use Prim.Native.Nat.{ℕ}
use mathlib.Core.Path.{◌≡◌, refl, ap, ◌∙◌}
use mathlib.Core.Bool.{Bool, true, false, cond}
use mathlib.Core.List.{List}
use lib.ListN.{length, get_or}
use lib.Dec.{eqb}
use lib.Ieee.{Float, nan}
use Rattle.refusals.specs.Refusals.{bad_segment, not_carried}
use Rattle.blend.specs.declared.Rgba.{Rgba}
use Rattle.gradient.specs.declared.gimp.Segment.{Segment}
use Rattle.gradient.proofs.Saved.{carried_too}
use Rattle.text.specs.Text.{words}
use Rattle.rows.specs.declared.Notation.TheVariants.{Short, Long}
use Rattle.rows.specs.Rows.{Numbers, all, none, numbers}
use Rattle.rows.proofs.Longer.{numbers_same}
use Rattle.segment.specs.declared.Rules.TheVariants.{Published, Saved}
use Rattle.segment.specs.declared.SegmentRead.TheVariants.{Valid, Fault}
use Rattle.segment.specs.Line.{carried_by, code_of, valid_codes, end_colour, judge, build, from_numbers, segment_on_line}
use Rattle.segment.proofs.Carried.{no_segment}

carried_same : (g : Segment) → carried_by Published g ≡ true → carried_by Saved g ≡ true
carried_same g e = carried_too g.blending g.colouring g.left g.middle g.right e

module _ (g : Segment) where
  judge_same : (h : Segment) → judge Published h ≡ Valid g → judge Saved h ≡ Valid g
  unfolding judge
  judge_same h e = go (carried_by Published h) refl e where
    go : (t : Bool) → carried_by Published h ≡ t → cond t (Valid h) (Fault not_carried) ≡ Valid g → cond (carried_by Saved h) (Valid h) (Fault not_carried) ≡ Valid g
    go true f i = ap (λ (u : Bool). cond u (Valid h) (Fault not_carried)) (carried_same h f) ∙ i
    go false f i = no_segment i refl

  build_same : (fg bg : Rgba) (xs : List Float) → build Published fg bg xs ≡ Valid g → build Saved fg bg xs ≡ Valid g
  unfolding build
  build_same fg bg xs e =
      let at : ℕ → Float = λ i. get_or xs i nan in
      go
      (valid_codes (code_of (at 11)) (code_of (at 12)) (code_of (at 13)) (code_of (at 14)))
      (record {
        left = at 0;
        middle = at 1;
        right = at 2;
        lcolor = end_colour (code_of (at 13)) (record { r = at 3; g = at 4; b = at 5; a = at 6 }) fg bg;
        rcolor = end_colour (code_of (at 14)) (record { r = at 7; g = at 8; b = at 9; a = at 10 }) fg bg;
        blending = code_of (at 11);
        colouring = code_of (at 12);
      })
      e where
        go : (t : Bool) (h : Segment) → cond t (judge Published h) (Fault bad_segment) ≡ Valid g → cond t (judge Saved h) (Fault bad_segment) ≡ Valid g
        go true h i = judge_same h i
        go false h i = i

  module _ (fg bg : Rgba) where
    from_same : (xs : List Float) → from_numbers Published fg bg (all xs) ≡ Valid g → from_numbers Saved fg bg (all xs) ≡ Valid g
    unfolding from_numbers
    from_same xs e = go (eqb (length xs) 13) (eqb (length xs) 15) _ e where
      go : (t u : Bool) (ys : List Float) → cond t (build Published fg bg ys) (cond u (build Published fg bg xs) (Fault bad_segment)) ≡ Valid g
          → cond t (build Saved fg bg ys) (cond u (build Saved fg bg xs) (Fault bad_segment)) ≡ Valid g
      go true u ys i = build_same fg bg ys i
      go false true ys i = build_same fg bg xs i
      go false false ys i = i

    pub line_same : (l : List ℕ) → segment_on_line Published fg bg l ≡ Valid g → segment_on_line Saved fg bg l ≡ Valid g
    unfolding segment_on_line from_numbers
    line_same l e = go (numbers Short (words l)) refl e where
      go : (o : Numbers) → numbers Short (words l) ≡ o → from_numbers Published fg bg o ≡ Valid g → from_numbers Saved fg bg (numbers Long (words l)) ≡ Valid g
      go none f i = no_segment i refl
      go (all xs) f i = ap (from_numbers Saved fg bg) (numbers_same (words l) xs f) ∙ from_same xs i
