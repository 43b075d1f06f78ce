-- What a file that is read gives: 1 to 256 segments, for which every lent output has room, each of a kind carried, joined from 0 to 1. Assumes nothing.
use Prim.Native.Nat.{ℕ, zero, suc, ◌≤◌, ◌<◌}
use native.Mathlib.Omega.{arith}
use mathlib.Core.Path.{◌≡◌, refl, sym, ap, ◌∙◌}
use mathlib.Core.Bool.{Bool, true, false, cond, ◌&&◌}
use mathlib.Core.List.{List, [], ◌∷◌}
use lib.ListN.{length}
use lib.Ieee.{Float, eq}
use Rattle.refusals.specs.Refusals.{not_a_text}
use Rattle.refusals.specs.Limits.{most_segments}
use Rattle.float.specs.F32.{f0, f1}
use Rattle.blend.specs.declared.Rgba.{Rgba}
use Rattle.stops.specs.Stops.{finite_rgba}
use Rattle.gradient.specs.declared.gimp.Segment.{Segment}
use Rattle.segment.specs.declared.Rules.{Rules}
use Rattle.segment.specs.declared.SegmentRead.{SegmentRead}
use Rattle.segment.specs.declared.SegmentRead.TheVariants.{Valid, Fault}
use Rattle.segment.specs.Line.{carried_by, segment_on_line}
use Rattle.segment.proofs.Carried.{line_carried}
use Rattle.header.specs.Head.{Head, counts, fails, head_of}
use Rattle.header.proofs.Fits.{head_fits}
use Rattle.ggr.specs.declared.Answer.TheVariants.{Read}
use Rattle.ggr.specs.File.{FileRead, found, refused, joins, joined_to, before, add_segment, segment_lines, fit_lines, from_head, fit_text, file_of, answer_of}
use Rattle.ggr.proofs.Weighing.{weighs}

-- each segment is of a kind carried
unfoldable pub all_carried : Rules → List Segment → Bool
all_carried rules [] = true
all_carried rules (g ∷ gs) = carried_by rules g && all_carried rules gs

-- each segment joins the one before, which ends at `end`, and the last ends at 1
unfoldable pub orderly : Float → List Segment → Bool
orderly end [] = eq end f1
orderly end (g ∷ gs) = joins end g && orderly g.right gs

pub record Given (rules : Rules) (room : ℕ) (gs : List Segment) : Type 0 where
  pub some : 0 < length gs
  pub most : length gs ≤ most_segments
  pub fits : length gs ≤ room
  pub kinds : all_carried rules gs ≡ true
  pub order : orderly f0 gs ≡ true

pub no_file : {X : Type 0} {gs : List Segment} {o : FileRead} {a b : ℕ} → o ≡ found gs → o ≡ refused a b → X
no_file e f = absurd (let z : ◌≡◌ {A = ℕ} 0 1 = cc in omega arith)

-- a test that leads on, or to a refusal
pub passed_test : (t : Bool) (o : FileRead) (a b : ℕ) (gs : List Segment) → cond t o (refused a b) ≡ found gs → (t ≡ true) × (o ≡ found gs)
passed_test true o a b gs e = (refl, e)
passed_test false o a b gs e = no_file e refl

-- ---- the segment lines
-- what n lines give, where the segment before them ends at `end`
record Run (rules : Rules) (end : Float) (n : ℕ) (gs : List Segment) : Type 0 where
  count : length gs ≡ n
  kinds : all_carried rules gs ≡ true
  order : orderly end gs ≡ true

ahead : (rules : Rules) (end : Float) (n : ℕ) (g : Segment) (o : FileRead) → carried_by rules g ≡ true → joins end g ≡ true
    → ((hs : List Segment) → o ≡ found hs → Run rules g.right n hs) → (gs : List Segment) → before g o ≡ found gs → Run rules end (suc n) gs
unfolding before all_carried orderly
ahead rules end n g (found hs) c j ih gs e =
    let q : gs ≡ g ∷ hs = cc in
    let w = ih hs refl in
    record {
      count = ap length q ∙ ap suc w.count;
      kinds = ap (all_carried rules) q ∙ ap (λ (t : Bool). t && all_carried rules hs) c ∙ w.kinds;
      order = ap (orderly end) q ∙ ap (λ (t : Bool). t && orderly g.right hs) j ∙ w.order;
    }
ahead rules end n g (refused a b) c j ih gs e = no_file e refl

module _ (rules : Rules) (end : Float) (n line : ℕ) (l : SegmentRead) (rest : Segment → FileRead) (c : (g : Segment) → l ≡ Valid g → carried_by rules g ≡ true)
    (ih : (g : Segment) (hs : List Segment) → rest g ≡ found hs → Run rules g.right n hs) where
  added : (r : SegmentRead) → r ≡ joined_to end l → (gs : List Segment) → add_segment line r rest ≡ found gs → Run rules end (suc n) gs
  unfolding add_segment
  added (Valid g) q gs e = let w = weighs end l g (sym q) in ahead rules end n g (rest g) (c g w.0) w.1 (ih g) gs e
  added (Fault a) q gs e = no_file e refl

all_read : (rules : Rules) (fg bg : Rgba) (n line : ℕ) (end : Float) (ls : List (List ℕ)) (gs : List Segment) → segment_lines rules fg bg n line end ls ≡ found gs → Run rules end n gs
unfolding segment_lines all_carried orderly
all_read rules fg bg zero line end ls gs e =
    let w = passed_test (eq end f1) (found []) _ _ gs e in
    let q : gs ≡ [] = cc in
    record { count = ap length q; kinds = ap (all_carried rules) q; order = ap (orderly end) q ∙ w.0 }
all_read rules fg bg (suc n) line end [] gs e = no_file e refl
all_read rules fg bg (suc n) line end (l ∷ ls) gs e =
    added rules end n line (segment_on_line rules fg bg l) (λ g. segment_lines rules fg bg n (suc line) g.right ls) (line_carried rules fg bg l)
    (λ g. all_read rules fg bg n (suc line) g.right ls) (joined_to end (segment_on_line rules fg bg l)) refl gs e

-- ---- the header
from_head_lem : (rules : Rules) (fg bg : Rgba) (room : ℕ) (s : List ℕ) (h : Head) → head_of room s ≡ h → (gs : List Segment) → from_head rules fg bg h ≡ found gs → Given rules room gs
unfolding from_head
from_head_lem rules fg bg room s (counts n ls) q gs e =
    let few = head_fits s q in
    let w = all_read rules fg bg n 4 f0 ls gs (passed_test (fit_lines rules n ls) (segment_lines rules fg bg n 4 f0 ls) _ _ gs e).1 in
    record { some = omega (arith, w.count, few); most = omega (arith, w.count, few); fits = omega (arith, w.count, few); kinds = w.kinds; order = w.order }
from_head_lem rules fg bg room s (fails a b) q gs e = no_file e refl

-- ---- the file
pub given : (rules : Rules) (fg bg : Rgba) (room : ℕ) (s : List ℕ) (gs : List Segment) → file_of rules room fg bg s ≡ found gs → Given rules room gs
unfolding file_of
given rules fg bg room s gs e =
    let w = passed_test (finite_rgba fg && finite_rgba bg) (cond (fit_text rules s) (from_head rules fg bg (head_of room s)) (refused not_a_text 0)) _ _ gs e in
    from_head_lem rules fg bg room s (head_of room s) refl gs (passed_test (fit_text rules s) (from_head rules fg bg (head_of room s)) _ _ gs w.1).1

pub found_by : (o : FileRead) (n : ℕ) → Read n ≡ answer_of o → (gs : List Segment) × (o ≡ found gs) × (length gs ≡ n)
found_by (found gs) n e = (gs, refl, cc)
found_by (refused a b) n e = absurd (let z : ◌≡◌ {A = ℕ} 0 1 = cc in omega arith)
