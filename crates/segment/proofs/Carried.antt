-- A segment that is read is of a kind carried. Assumes nothing.
use Prim.Native.Nat.{ℕ}
use native.Mathlib.Omega.{arith}
use mathlib.Core.Path.{◌≡◌, refl, sym, ap, ◌∙◌}
use mathlib.Core.Bool.{Bool, true, false, cond}
use mathlib.Core.List.{List}
use lib.ListN.{length, get_or}
use lib.Dec.{eqb}
use lib.Ieee.{Float, nan}
use Rattle.refusals.specs.Refusals.{bad_segment, not_carried}
use Rattle.blend.specs.declared.Rgba.{Rgba}
use Rattle.gradient.specs.declared.gimp.Segment.{Segment}
use Rattle.rows.specs.Rows.{Numbers, all, none}
use Rattle.segment.specs.declared.Rules.{Rules}
use Rattle.segment.specs.declared.SegmentRead.{SegmentRead}
use Rattle.segment.specs.declared.SegmentRead.TheVariants.{Valid, Fault}
use Rattle.segment.specs.Line.{carried_by, code_of, valid_codes, end_colour, judge, build, from_numbers, segment_on_line}

pub no_segment : {X : Type 0} {g : Segment} {o : SegmentRead} {a : ℕ} → o ≡ Valid g → o ≡ Fault a → X
no_segment e f = absurd (let z : ◌≡◌ {A = ℕ} 0 1 = cc in omega arith)

judged : (rules : Rules) (h g : Segment) → judge rules h ≡ Valid g → carried_by rules g ≡ true
unfolding judge
judged rules h g e = go (carried_by rules h) refl e where
  go : (t : Bool) → carried_by rules h ≡ t → cond t (Valid h) (Fault not_carried) ≡ Valid g → carried_by rules g ≡ true
  go true f i = let q : h ≡ g = cc in ap (carried_by rules) (sym q) ∙ f
  go false f i = absurd (let z : ◌≡◌ {A = ℕ} 0 1 = cc in omega arith)

built : (rules : Rules) (fg bg : Rgba) (xs : List Float) (g : Segment) → build rules fg bg xs ≡ Valid g → carried_by rules g ≡ true
unfolding build
built rules fg bg xs g e =
    let at : ℕ → Float = λ i. get_or xs i nan in
    go
    (valid_codes (code_of (at 11)) (code_of (at 12)) (code_of (at 13)) (code_of (at 14)))
    (record {
      left = at 0;
      middle = at 1;
      right = at 2;
      lcolor = end_colour (code_of (at 13)) (record { r = at 3; g = at 4; b = at 5; a = at 6 }) fg bg;
      rcolor = end_colour (code_of (at 14)) (record { r = at 7; g = at 8; b = at 9; a = at 10 }) fg bg;
      blending = code_of (at 11);
      colouring = code_of (at 12);
    })
    e where
      go : (t : Bool) (h : Segment) → cond t (judge rules h) (Fault bad_segment) ≡ Valid g → carried_by rules g ≡ true
      go true h i = judged rules h g i
      go false h i = no_segment i refl

read_carried : (rules : Rules) (fg bg : Rgba) (o : Numbers) (g : Segment) → from_numbers rules fg bg o ≡ Valid g → carried_by rules g ≡ true
unfolding from_numbers
read_carried rules fg bg none g e = no_segment e refl
read_carried rules fg bg (all xs) g e = go (eqb (length xs) 13) (eqb (length xs) 15) _ e where
  go : (t u : Bool) (ys : List Float) → cond t (build rules fg bg ys) (cond u (build rules fg bg xs) (Fault bad_segment)) ≡ Valid g → carried_by rules g ≡ true
  go true u ys i = built rules fg bg ys g i
  go false true ys i = built rules fg bg xs g i
  go false false ys i = no_segment i refl

pub line_carried : (rules : Rules) (fg bg : Rgba) (l : List ℕ) (g : Segment) → segment_on_line rules fg bg l ≡ Valid g → carried_by rules g ≡ true
unfolding segment_on_line
line_carried rules fg bg l g e = read_carried rules fg bg _ g e
