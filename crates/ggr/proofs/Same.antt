-- What is read by document 01's rules is read by those for what GIMP saves, and the same. Assumes nothing.
use Prim.Native.Nat.{ℕ, zero, suc}
use native.Mathlib.Omega.{arith}
use mathlib.Core.Path.{◌≡◌, refl, sym, ap, ap₂, ◌∙◌}
use mathlib.Core.Bool.{Bool, true, false, cond, ◌&&◌}
use mathlib.Core.List.{List, [], ◌∷◌}
use lib.ListN.{length}
use lib.Dec.{leb, eqb}
use lib.Ieee.{Float}
use borrow.Author.Tests.{le-leb, leb-true}
use Rattle.refusals.specs.Refusals.{not_a_text, torn}
use Rattle.refusals.specs.Limits.{most_segments, most_text}
use Rattle.float.specs.F32.{f0}
use Rattle.float.proofs.Flags.{both_l, both_r}
use Rattle.blend.specs.declared.Rgba.{Rgba}
use Rattle.stops.specs.Lent.{Change}
use Rattle.stops.specs.Stops.{finite_rgba}
use Rattle.gradient.specs.declared.gimp.Segment.{Segment}
use Rattle.text.specs.Text.{every, ascii, unmark, at_lf, on_first, lines, first_of, rest_of}
use Rattle.text.proofs.Characters.{ascii-utf8}
use Rattle.segment.specs.declared.Rules.TheVariants.{Published, Saved}
use Rattle.segment.specs.declared.SegmentRead.{SegmentRead}
use Rattle.segment.specs.declared.SegmentRead.TheVariants.{Valid, Fault}
use Rattle.segment.specs.Line.{segment_on_line}
use Rattle.segment.specs.Store.{Store}
use Rattle.segment.proofs.Both.{line_same}
use Rattle.header.specs.Head.{Head, counts, fails, or_empty, text_lines, head_of, saved_lines, name_in}
use Rattle.header.proofs.Fits.{head_rest}
use Rattle.ggr.specs.declared.Answer.{Answer}
use Rattle.ggr.specs.declared.Answer.TheVariants.{Read}
use Rattle.ggr.specs.File.{FileRead, found, refused, joins, joined_to, before, add_segment, segment_lines, fit_text, ascii_lines, from_head, file_of, answer_of, store_left, room_in, Reading, transparent, when_read, name_of}
use Rattle.ggr.proofs.Given.{no_file, passed_test, found_by}

-- ---- the lines of an ASCII text are ASCII
abbrev all_ascii : List (List ℕ) → Bool
all_ascii [] = true
all_ascii (l ∷ ls) = every ascii l && all_ascii ls

both : {a b : Bool} → a ≡ true → b ≡ true → (a && b) ≡ true
both e f = rw (e, f)

on_first_lem : (b : ℕ) (ls : List (List ℕ)) → ascii b ≡ true → all_ascii ls ≡ true → all_ascii (on_first b ls) ≡ true
unfolding on_first every
on_first_lem b [] h k = rw h
on_first_lem b (l ∷ ls) h k = rw h k

lines-ascii : (s : List ℕ) → every ascii s ≡ true → all_ascii (lines s) ≡ true
unfolding lines every
lines-ascii [] h = refl
lines-ascii (b ∷ s) h = go (eqb b 10) (at_lf s && eqb b 13) (lines-ascii s (both_r (ascii b) (every ascii s) h)) where
  go : (t u : Bool) → all_ascii (lines s) ≡ true → all_ascii (cond t ([] ∷ lines s) (cond u (lines s) (on_first b (lines s)))) ≡ true
  go true u k = k
  go false true k = k
  go false false k = on_first_lem b (lines s) (both_l (ascii b) (every ascii s) h) k

or_ascii : (ls : List (List ℕ)) → all_ascii ls ≡ true → all_ascii (or_empty ls) ≡ true
unfolding or_empty every
or_ascii [] h = refl
or_ascii (l ∷ ls) h = h

text_ascii : (s : List ℕ) → every ascii (unmark s) ≡ true → all_ascii (text_lines s) ≡ true
unfolding text_lines
text_ascii [] h = refl
text_ascii (b ∷ s) h = or_ascii (lines (unmark (b ∷ s))) (lines-ascii (unmark (b ∷ s)) h)

first_ascii : (ls : List (List ℕ)) → all_ascii ls ≡ true → every ascii (first_of ls) ≡ true
unfolding first_of every
first_ascii [] h = refl
first_ascii (l ∷ ls) h = both_l (every ascii l) (all_ascii ls) h

rest_ascii : (ls : List (List ℕ)) → all_ascii ls ≡ true → all_ascii (rest_of ls) ≡ true
unfolding rest_of
rest_ascii [] h = refl
rest_ascii (l ∷ ls) h = both_r (every ascii l) (all_ascii ls) h

-- so the bytes fit by the other rules too
saved_lines_lem : (ls : List (List ℕ)) → all_ascii ls ≡ true → saved_lines ls ≡ true
unfolding saved_lines
saved_lines_lem ls h =
    let k = rest_ascii ls h in
    both (first_ascii ls h) (both (ascii-utf8 (first_of (rest_of ls)) (first_ascii (rest_of ls) k)) (first_ascii (rest_of (rest_of ls)) (rest_ascii (rest_of ls) k)))

counted_ascii : (n : ℕ) (ls : List (List ℕ)) → all_ascii ls ≡ true → ascii_lines n ls ≡ true
unfolding ascii_lines
counted_ascii zero ls h = refl
counted_ascii (suc n) [] h = refl
counted_ascii (suc n) (l ∷ ls) h = both (both_l (every ascii l) (all_ascii ls) h) (counted_ascii n ls (both_r (every ascii l) (all_ascii ls) h))

-- ---- the segment lines
module _ (fg bg : Rgba) where
  line_on : (end : Float) (line : ℕ) (l : List ℕ) (f h : Segment → FileRead) (gs : List Segment) → ((g : Segment) (ks : List Segment) → f g ≡ found ks → h g ≡ found ks)
      → add_segment line (joined_to end (segment_on_line Published fg bg l)) f ≡ found gs → add_segment line (joined_to end (segment_on_line Saved fg bg l)) h ≡ found gs
  unfolding joined_to add_segment before
  line_on end line l f h gs k e = go (segment_on_line Published fg bg l) refl e where
    rest : (g : Segment) (a b : FileRead) → ((ks : List Segment) → a ≡ found ks → b ≡ found ks) → before g a ≡ found gs → before g b ≡ found gs
    rest g (found ks) b w i = ap (before g) (w ks refl) ∙ i
    rest g (refused x y) b w i = no_file i refl

    joined : (g : Segment) (t : Bool) → add_segment line (cond t (Valid g) (Fault torn)) f ≡ found gs → add_segment line (cond t (Valid g) (Fault torn)) h ≡ found gs
    joined g true i = rest g (f g) (h g) (k g) i
    joined g false i = no_file i refl

    go : (o : SegmentRead) → segment_on_line Published fg bg l ≡ o → add_segment line (joined_to end o) f ≡ found gs → add_segment line (joined_to end (segment_on_line Saved fg bg l)) h ≡ found gs
    go (Valid g) q i = ap (λ (o : SegmentRead). add_segment line (joined_to end o) h) (line_same g fg bg l q) ∙ joined g (joins end g) i
    go (Fault a) q i = no_file i refl

  lines_same : (n line : ℕ) (end : Float) (ls : List (List ℕ)) (gs : List Segment) → segment_lines Published fg bg n line end ls ≡ found gs → segment_lines Saved fg bg n line end ls ≡ found gs
  unfolding segment_lines
  lines_same zero line end ls gs e = e
  lines_same (suc n) line end [] gs e = e
  lines_same (suc n) line end (l ∷ ls) gs e =
      line_on end line l (λ g. segment_lines Published fg bg n (suc line) g.right ls) (λ g. segment_lines Saved fg bg n (suc line) g.right ls) gs
      (λ g. lines_same n (suc line) g.right ls) e

  -- ---- the header, and the file
  head_same : (room : ℕ) (s : List ℕ) (h : Head) → head_of room s ≡ h → all_ascii (text_lines s) ≡ true → (gs : List Segment) → from_head Published fg bg h ≡ found gs → from_head Saved fg bg h ≡ found gs
  unfolding from_head
  head_same room s (counts n ls) q a gs e =
      let k : all_ascii ls ≡ true = ap all_ascii (head_rest room s q) ∙ rest_ascii _ (rest_ascii _ (rest_ascii _ a)) in
      ap (λ (t : Bool). cond t (segment_lines Saved fg bg n 4 f0 ls) (refused not_a_text 0)) (counted_ascii n ls k) ∙ lines_same n 4 f0 ls gs e
  head_same room s (fails x y) q a gs e = no_file e refl

  pub file_same : (room : ℕ) (s : List ℕ) (gs : List Segment) → file_of Published room fg bg s ≡ found gs → file_of Saved room fg bg s ≡ found gs
  unfolding file_of
  file_same room s gs e =
      let w = passed_test (finite_rgba fg && finite_rgba bg) (cond (fit_text Published s) (from_head Published fg bg (head_of room s)) (refused not_a_text 0)) _ _ gs e in
      let v = passed_test (fit_text Published s) (from_head Published fg bg (head_of room s)) _ _ gs w.1 in
      let a = text_ascii s (both_r (leb (length s) most_text) (every ascii (unmark s)) v.0) in
      let few = leb-true (length s) most_text (both_l (leb (length s) most_text) (every ascii (unmark s)) v.0) in
      let z : fit_text Saved s ≡ true = both (le-leb (length s) 131072 (omega arith)) (saved_lines_lem (text_lines s) a) in
      rw (w.0, z) (head_same room s (head_of room s) refl a gs v.1)

-- ---- of the calls: where `read` reads, `read_saved` with the same lent reads the same, and leaves the same
module _ (fg bg : Rgba) (s : List ℕ) (one two : Change Store) (n : ℕ) (r : Answer) where
  pub reads_same : Reading Published fg bg s one (Read n) → Reading Saved fg bg s two r → one.entry ≡ two.entry → (r ≡ Read n) × (two.exit ≡ one.exit)
  reads_same p q e =
      let f = found_by (file_of Published (room_in one.entry) fg bg s) n p.answer in
      let m : file_of Saved (room_in two.entry) fg bg s ≡ file_of Published (room_in one.entry) fg bg s =
      ap (λ (x : Store). file_of Saved (room_in x) fg bg s) (sym e) ∙ file_same fg bg (room_in one.entry) s f.0 f.1 ∙ sym f.1 in (
        q.answer ∙ ap answer_of m ∙ sym p.answer,
        q.left ∙ ap₂ store_left m (sym e) ∙ sym p.left,
      )

-- and a name that `name` answers is the one that `name_saved` answers
pub names_same : (s : List ℕ) → (name_of Published s ≡ [] → ⊥) → name_of Saved s ≡ name_of Published s
unfolding name_of when_read
names_same s h = go (file_of Published most_segments transparent transparent s) refl h where
  go : (o : FileRead) → file_of Published most_segments transparent transparent s ≡ o → (when_read o (name_in s) ≡ [] → ⊥) → when_read (file_of Saved most_segments transparent transparent s) (name_in s) ≡ when_read o (name_in s)
  go (found gs) e k = ap (λ (o : FileRead). when_read o (name_in s)) (file_same transparent transparent most_segments s gs e)
  go (refused x y) e k = absurd (k refl)
