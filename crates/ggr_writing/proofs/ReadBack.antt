-- What was written is read, and gives the segments written, bit for bit. Assumes nothing.
use mathlib.Core.Path.{◌≡◌, refl, ap, ◌∙◌}
use mathlib.Core.Bool.{Bool, true, false, cond, ◌&&◌}
use mathlib.Core.List.{List, [], ◌∷◌, ◌++◌}
use Prim.Native.Nat.{ℕ, zero, suc, ◌+◌, ◌-◌, ◌*◌, ◌≤◌, ◌<◌}
use native.Mathlib.Nat.{zero-add}
use native.Mathlib.Omega.{arith}
use lib.Dec.{T, leb}
use lib.ListN.{length}
use lib.Ieee.{Float, inf, binary32, le, eq}
use lib.Ieee.Fits.{div-fits}
use borrow.Author.Rules.{rules}
use borrow.Author.Tests.{le-leb}
use Rattle.std.specs.Prelude.{Option}
use Rattle.refusals.specs.Refusals.{torn, too_many_segments, not_a_text, not_finite}
use Rattle.refusals.specs.Limits.{most_segments, most_text}
use Rattle.float.specs.F32.{◌⊕◌, ◌⊘◌, f0, f1, f2}
use Rattle.float.proofs.Flags.{both_l, both_r}
use Rattle.float.proofs.Order as order
use Rattle.blend.specs.declared.Rgba.{Rgba}
use Rattle.stops.specs.Stops.{pos_at, colour_at, stop_at, finite_rgba}
use Rattle.gradient.specs.declared.gimp.Segment.{Segment}
use Rattle.text.specs.Text.{every, ascii, unmark, lines, same, starts}
use Rattle.text.proofs.Bytes.{every_both}
use Rattle.segment.specs.declared.Rules.TheVariants.{Published}
use Rattle.segment.specs.declared.SegmentRead.{SegmentRead}
use Rattle.segment.specs.declared.SegmentRead.TheVariants.{Valid, Fault}
use Rattle.segment.specs.Line.{segment_on_line}
use Rattle.header.specs.Head.{counts, fails, or_empty, text_lines, from_count, counted, from_third, from_second, from_lines, head_of, title, name_tag}
use Rattle.ggr.specs.File.{found, refused, joins, joined_to, before, add_segment, segment_lines, from_head, fit_text, file_of}
use Rattle.numerals.specs.Written.{writable}
use Rattle.text.specs.Output.{count_text}
use Rattle.ggr_writing.specs.File.{segment_between, segments_from, segments_of, segments_text, file_text, heading, list_name, rises, writable_colour, writable_segment, writable_from, can_write, Singles}
use Rattle.ggr_writing.proofs.Parts.{Shown, shown_ascii, lines_line, count_read, count_shown}
use Rattle.ggr_writing.proofs.Row.{Single, line_of, line_is, line_shown, line_read, sound_colours}
use Rattle.ggr_writing.proofs.Orders.{writable_number, writable_within, rises_at, mid_high, mid_low}
use Rattle.ggr_writing.proofs.Final.{length_segments, length_file}

-- ---- one segment line, and those after it
step : (fg bg : Rgba) (n line : ℕ) (end : Float) (l : List ℕ) (ls : List (List ℕ)) (g : Segment) (gs : List Segment) → segment_on_line Published fg bg l ≡ Valid g → joins end g ≡ true
    → segment_lines Published fg bg n (suc line) g.right ls ≡ found gs → segment_lines Published fg bg (suc n) line end (l ∷ ls) ≡ found (g ∷ gs)
unfolding segment_lines add_segment joined_to before
step fg bg n line end l ls g gs e j r =
    ap (λ (o : SegmentRead). add_segment line (joined_to end o) (λ h. segment_lines Published fg bg n (suc line) h.right ls)) e
    ∙ ap (λ (b : Bool). add_segment line (cond b (Valid g) (Fault torn)) (λ h. segment_lines Published fg bg n (suc line) h.right ls)) j
    ∙ ap (before g) r

module _ (fg bg : Rgba) (ps cs : List Float) (one : Singles ps cs) (up : rises (inf true) ps ≡ true) where
  abbrev between : ℕ → Segment
  between i = segment_between (stop_at ps cs i) (stop_at ps cs (i + 1))

  single : (i : ℕ) → Single (colour_at cs i)
  single i = record { red = one.channels (4 * i); green = one.channels (4 * i + 1); blue = one.channels (4 * i + 2); alpha = one.channels (4 * i + 3) }

  here_read : (i : ℕ) → writable_segment (between i) ≡ true → segment_on_line Published fg bg (line_of (between i)) ≡ Valid (between i)
  here_read i w =
      let l = pos_at ps i in
      let r = pos_at ps (i + 1) in
      line_read fg bg l ((l ⊕ r) ⊘ f2) r (colour_at cs i) (colour_at cs (i + 1))
      (sound_colours l ((l ⊕ r) ⊘ f2) r (colour_at cs i) (colour_at cs (i + 1)) w (one.positions i) (div-fits binary32 (l ⊕ r) f2) (one.positions (i + 1)) (single i) (single (i + 1)))

  record Three (i : ℕ) : Type 0 where
    left : writable (pos_at ps i) ≡ true
    middle : writable ((pos_at ps i ⊕ pos_at ps (i + 1)) ⊘ f2) ≡ true
    right : writable (pos_at ps (i + 1)) ≡ true

  three : (i : ℕ) → writable_segment (between i) ≡ true → Three i
  unfolding writable_segment
  three i w =
      let l = writable (pos_at ps i) in
      let m = writable ((pos_at ps i ⊕ pos_at ps (i + 1)) ⊘ f2) in
      let r = writable (pos_at ps (i + 1)) in
      let a = writable_colour (colour_at cs i) in
      let b = writable_colour (colour_at cs (i + 1)) in
      let lmr = both_l (l && m && r) a (both_l (l && m && r && a) b w) in
      let lm = both_l (l && m) r lmr in
      record { left = both_l l m lm; middle = both_r l m lm; right = both_r (l && m) r lmr }

  as_true : (b : Bool) → T b → b ≡ true
  as_true true t = refl
  as_true false t = absurd t

  here_joins : (i : ℕ) (end : Float) → i + 1 < length ps → writable_segment (between i) ≡ true → eq (pos_at ps i) end ≡ true → joins end (between i) ≡ true
  unfolding joins
  here_joins i end h w e =
      let l = pos_at ps i in
      let r = pos_at ps (i + 1) in
      let t = three i w in
      let wl = writable_within l (one.positions i) t.left in
      let wr = writable_within r (one.positions (i + 1)) t.right in
      let nl = writable_number l t.left in
      let nr = writable_number r t.right in
      let lo = mid_low l r wl wr nl nr (rises_at (inf true) ps i up h) (writable_number ((l ⊕ r) ⊘ f2) t.middle) in
      let hi = mid_high l r wl wr nl nr (rises_at (inf true) ps i up h) in
      simp (e, as_true (le l ((l ⊕ r) ⊘ f2)) lo, as_true (le ((l ⊕ r) ⊘ f2) r) hi)

  same_value : (i : ℕ) → writable (pos_at ps i) ≡ true → eq (pos_at ps i) (pos_at ps i) ≡ true
  same_value i w = let n = order.le_refl (pos_at ps i) (writable_number (pos_at ps i) w) in as_true (eq (pos_at ps i) (pos_at ps i)) (order.le_antisym (pos_at ps i) (pos_at ps i) n n)

  -- n lines from segment i on, where the one before ends at `end`, which is position i by value
  rows_read : (n i line : ℕ) (end : Float) → i + n < length ps → writable_from n i ps cs ≡ true → (n ≡ 0 → eq end f1 ≡ true) → eq (pos_at ps i) end ≡ true → eq (pos_at ps (i + n)) f1 ≡ true
      → segment_lines Published fg bg n line end (lines (segments_text (segments_from n i ps cs))) ≡ found (segments_from n i ps cs)
  unfolding segment_lines writable_from segments_from segments_text lines
  rows_read zero i line end h w z e last = rw (z refl)
  rows_read (suc n) i line end h w z e last =
      let g = between i in
      let s = segments_text (segments_from n (i + 1) ps cs) in
      let w0 = both_l (writable_segment g) (writable_from n (i + 1) ps cs) w in
      let w1 = both_r (writable_segment g) (writable_from n (i + 1) ps cs) w in
      let k : i + 1 + n ≡ i + suc n = omega arith in
      ap (segment_lines Published fg bg (suc n) line end) (ap lines (line_is g s) ∙ lines_line (line_of g) s (line_shown g))
      ∙ step fg bg n line end (line_of g) (lines s) g (segments_from n (i + 1) ps cs) (here_read i w0) (here_joins i end (omega arith) w0 e)
      (rows_read n (i + 1) (suc line) (pos_at ps (i + 1)) (omega arith) w1 (λ (o : n ≡ 0). ap (λ (j : ℕ). eq (pos_at ps j) f1) (only o) ∙ last) (same_value (i + 1) (three i w0).right) (ap (λ (j : ℕ). eq (pos_at ps j) f1) k ∙ last))
    where
      only : n ≡ 0 → i + 1 ≡ i + suc n
      only o = omega arith

-- ---- the header
rows_ascii : (gs : List Segment) → every ascii (segments_text gs) ≡ true
unfolding segments_text every
rows_ascii [] = refl
rows_ascii (g ∷ gs) = ap (every ascii) (line_is g (segments_text gs)) ∙ every_both ascii (line_of g) (10 ∷ segments_text gs) (shown_ascii (line_of g) (line_shown g)) (rows_ascii gs)

file_ascii : (gs : List Segment) → every ascii (file_text gs) ≡ true
unfolding file_text every
file_ascii gs =
    every_both ascii heading (count_text (length gs) ++ (10 ∷ segments_text gs)) refl
    (every_both ascii (count_text (length gs)) (10 ∷ segments_text gs) (shown_ascii (count_text (length gs)) (count_shown 20 (length gs))) (rows_ascii gs))

file_unmarked : (gs : List Segment) → unmark (file_text gs) ≡ file_text gs
unfolding file_text unmark
file_unmarked gs = refl

file_fits : (gs : List Segment) → length gs ≤ 256 → fit_text Published (file_text gs) ≡ true
file_fits gs h =
    ap (λ (b : Bool). b && every ascii (unmark (file_text gs))) (le-leb (length (file_text gs)) most_text (omega (arith, length_file gs (omega arith))))
    ∙ ap (every ascii) (file_unmarked gs) ∙ file_ascii gs

abbrev name_line : List ℕ
name_line = name_tag ++ list_name

shown_title : Shown title
unfolding Shown
shown_title = search rules

shown_name : Shown name_line
unfolding Shown
shown_name = search rules

file_lines : (gs : List Segment) → lines (file_text gs) ≡ title ∷ name_line ∷ count_text (length gs) ∷ lines (segments_text gs)
unfolding file_text Shown
file_lines gs =
    lines_line title (name_line ++ (10 ∷ (count_text (length gs) ++ (10 ∷ segments_text gs)))) shown_title
    ∙ ap (λ (ls : List (List ℕ)). title ∷ ls) (lines_line name_line (count_text (length gs) ++ (10 ∷ segments_text gs)) shown_name)
    ∙ ap (λ (ls : List (List ℕ)). title ∷ name_line ∷ ls) (lines_line (count_text (length gs)) (segments_text gs) (count_shown 20 (length gs)))

head_read : (room m : ℕ) (gs : List Segment) → length gs ≡ suc m → length gs ≤ 256 → length gs ≤ room → head_of room (file_text gs) ≡ counts (length gs) (lines (segments_text gs))
unfolding file_text text_lines or_empty from_lines from_second from_third counted from_count same starts
head_read room m gs e h k =
    ap (λ (s : List ℕ). from_lines room (or_empty (lines s))) (file_unmarked gs)
    ∙ ap (λ (ls : List (List ℕ)). from_lines room (or_empty ls)) (file_lines gs)
    ∙ ap (λ (d : Option ℕ). counted room d (lines (segments_text gs))) (count_read (length gs) (omega arith))
    ∙ ap (λ (b : Bool). cond (b && leb (length gs) room) (from_count (length gs) (lines (segments_text gs))) (fails too_many_segments 3)) (le-leb (length gs) most_segments h)
    ∙ ap (λ (b : Bool). cond b (from_count (length gs) (lines (segments_text gs))) (fails too_many_segments 3)) (le-leb (length gs) room k)
    ∙ some m (length gs) e
  where
    some : (m n : ℕ) → n ≡ suc m → from_count n (lines (segments_text gs)) ≡ counts n (lines (segments_text gs))
    some m n e = rw e refl

-- ---- the file
both : (a b : Bool) → a ≡ true → b ≡ true → (a && b) ≡ true
both a b e f = rw (e, f)

pub file_read : (fg bg : Rgba) (room : ℕ) (ps cs : List Float) → Singles ps cs → finite_rgba fg ≡ true → finite_rgba bg ≡ true → 2 ≤ length ps → length ps ≤ 257 → length ps - 1 ≤ room
    → rises (inf true) ps ≡ true → can_write ps cs ≡ true → file_of Published room fg bg (file_text (segments_of ps cs)) ≡ found (segments_of ps cs)
unfolding file_of from_head can_write
file_read fg bg room ps cs one f g lo hi enough up can =
    let gs = segments_of ps cs in
    let n = length ps - 1 in
    let long : length gs ≡ n = length_segments n 0 ps cs in
    let first = eq (pos_at ps 0) f0 in
    let last = eq (pos_at ps n) f1 in
    let all = writable_from n 0 ps cs in
    let ends = both_l (first && last) all can in
    let some : length gs ≡ suc (n - 1) = omega arith in
    ap (λ (b : Bool). cond b (cond (fit_text Published (file_text gs)) (from_head Published fg bg (head_of room (file_text gs))) (refused not_a_text 0)) (refused not_finite 0)) (both (finite_rgba fg) (finite_rgba bg) f g)
    ∙ ap (λ (b : Bool). cond b (from_head Published fg bg (head_of room (file_text gs))) (refused not_a_text 0)) (file_fits gs (omega arith))
    ∙ ap (from_head Published fg bg) (head_read room (n - 1) gs some (omega arith) (omega arith))
    ∙ ap (λ (k : ℕ). segment_lines Published fg bg k 4 f0 (lines (segments_text gs))) long
    ∙ rows_read fg bg ps cs one up n 0 4 f0 (omega arith) (both_r (first && last) all can) (λ (z : n ≡ 0). absurd (none z)) (both_l first last ends)
    (ap (λ (k : ℕ). eq (pos_at ps k) f1) (zero-add n) ∙ both_r first last ends)
  where
    none : length ps - 1 ≡ 0 → ⊥
    none z = omega arith
