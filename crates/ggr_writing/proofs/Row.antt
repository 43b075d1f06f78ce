-- What a segment's line is read as: the segment. Assumes nothing.
use mathlib.Core.Path.{◌≡◌, refl, sym, ap, ◌∙◌}
use mathlib.Core.Bool.{true, ◌&&◌}
use mathlib.Core.List.{List, [], ◌∷◌, ◌++◌, append_assoc}
use Prim.Native.Nat.{ℕ}
use native.Mathlib.Omega.{arith}
use lib.Dec.{T}
use lib.Ieee.{Float, binary32, fits, of_bits, to_signed}
use lib.Ieee.Bits.{of_bits-fits}
use Rattle.float.specs.F32.{f0}
use Rattle.float.proofs.Flags.{both_l, both_r, parts4}
use Rattle.blend.specs.declared.Rgba.{Rgba}
use Rattle.decimal.specs.declared.Token.{Token}
use Rattle.decimal.specs.declared.Token.TheVariants.{Number}
use Rattle.decimal.specs.Decimal.{read_of}
use Rattle.rows.specs.declared.Notation.TheVariants.{Short}
use Rattle.rows.specs.Rows.{all, token_of, add_number, numbers}
use Rattle.text.specs.Text.{words, white, in_word, on_first}
use Rattle.gradient.specs.declared.gimp.Segment.{Segment}
use Rattle.gradient.specs.Gimp.{carried}
use Rattle.segment.specs.declared.Rules.TheVariants.{Published}
use Rattle.segment.specs.declared.SegmentRead.TheVariants.{Valid}
use Rattle.segment.specs.Line.{cut, code_of, valid_codes, end_colour, judge, build, from_numbers, segment_on_line}
use Rattle.numerals.specs.Written.{writable, signed, text_of}
use Rattle.numerals.proofs.Trip.{trip}
use Rattle.numerals.proofs.Marks.{text_marks, text_some}
use Rattle.ggr_writing.specs.File.{spaced_number, spaced_colour, segment_text, writable_colour, writable_segment}
use Rattle.ggr_writing.proofs.Parts.{Shown, shown_both, shown_marks, words_word}

-- ---- numbers, each with a space after it
fields_text : List Float → List ℕ
fields_text [] = []
fields_text (x ∷ xs) = spaced_number x ++ fields_text xs

texts_of : List Float → List (List ℕ)
texts_of [] = []
texts_of (x ∷ xs) = text_of x ∷ texts_of xs

-- a colour of f32
pub record Single (c : Rgba) : Type 0 where
  pub red : T (fits binary32 c.r)
  pub green : T (fits binary32 c.g)
  pub blue : T (fits binary32 c.b)
  pub alpha : T (fits binary32 c.a)

-- each is an f32, and can be written
unfoldable pub Sound : List Float → Type 0
Sound [] = Unit {0}
Sound (x ∷ xs) = T (fits binary32 x) × (writable x ≡ true) × Sound xs

words_fields : (xs : List Float) (s : List ℕ) → Sound xs → words (fields_text xs ++ s) ≡ texts_of xs ++ words s
unfolding fields_text texts_of Sound spaced_number
words_fields [] s h = refl
words_fields (x ∷ xs) s h =
    ap words (append_assoc (spaced_number x) (fields_text xs) s ∙ append_assoc (text_of x) (32 ∷ []) (fields_text xs ++ s))
    ∙ words_word (text_of x) (fields_text xs ++ s) (text_marks x) (text_some x h.1)
    ∙ ap (λ (ws : List (List ℕ)). text_of x ∷ ws) (words_fields xs s h.2)

numbers_of_lem : (xs : List Float) (ws : List (List ℕ)) (ys : List Float) → Sound xs → numbers Short ws ≡ all ys → numbers Short (texts_of xs ++ ws) ≡ all (xs ++ ys)
unfolding texts_of Sound numbers token_of add_number
numbers_of_lem [] ws ys h e = e
numbers_of_lem (x ∷ xs) ws ys h e =
    ap (λ (t : Token). add_number t (numbers Short (texts_of xs ++ ws))) (trip x h.0 h.1) ∙ ap (add_number (Number x)) (numbers_of_lem xs ws ys h.2 e)

shown_fields : (xs : List Float) → Shown (fields_text xs)
unfolding fields_text Shown spaced_number
shown_fields [] = tt
shown_fields (x ∷ xs) = shown_both (spaced_number x) (fields_text xs) (shown_both (text_of x) (32 ∷ []) (shown_marks (text_of x) (text_marks x)) (omega arith, omega arith, tt)) (shown_fields xs)

-- ---- the two codes
abbrev codes_text : List ℕ
codes_text = 48 ∷ 32 ∷ 48 ∷ []

zero-words : words codes_text ≡ (48 ∷ []) ∷ (48 ∷ []) ∷ []
unfolding words white in_word on_first
zero-words = refl

zero_text : text_of f0 ≡ 48 ∷ []
unfolding text_of of_bits signed
zero_text = refl

zero-writable : writable f0 ≡ true
unfolding writable of_bits
zero-writable = refl

zero_read : read_of (48 ∷ []) ≡ Number f0
zero_read = ap read_of (sym zero_text) ∙ trip f0 (of_bits-fits binary32 0) zero-writable

zero-numbers : numbers Short ((48 ∷ []) ∷ (48 ∷ []) ∷ []) ≡ all (f0 ∷ f0 ∷ [])
unfolding numbers token_of add_number
zero-numbers = simp zero_read

-- ---- a line
abbrev pub numbers_of : Segment → List Float
numbers_of g =
    g.left ∷ g.middle ∷ g.right ∷ g.lcolor.r ∷ g.lcolor.g ∷ g.lcolor.b ∷ g.lcolor.a
    ∷ g.rcolor.r ∷ g.rcolor.g ∷ g.rcolor.b ∷ g.rcolor.a ∷ []

-- the text of a segment without its LF
pub line_of : Segment → List ℕ
line_of g = fields_text (numbers_of g) ++ codes_text

pub line_is : (g : Segment) (s : List ℕ) → segment_text g ++ s ≡ line_of g ++ (10 ∷ s)
unfolding segment_text spaced_colour line_of fields_text
line_is g s = simp append_assoc

pub line_shown : (g : Segment) → Shown (line_of g)
unfolding line_of Shown
line_shown g = shown_both (fields_text (numbers_of g)) codes_text (shown_fields (numbers_of g)) (omega arith, omega arith, (omega arith, omega arith, (omega arith, omega arith, tt)))

line_numbers : (g : Segment) → Sound (numbers_of g) → numbers Short (words (line_of g)) ≡ all (numbers_of g ++ (f0 ∷ f0 ∷ []))
unfolding line_of
line_numbers g h =
    ap (numbers Short) (words_fields (numbers_of g) codes_text h ∙ ap (λ (ws : List (List ℕ)). texts_of (numbers_of g) ++ ws) zero-words)
    ∙ numbers_of_lem (numbers_of g) ((48 ∷ []) ∷ (48 ∷ []) ∷ []) (f0 ∷ f0 ∷ []) h zero-numbers

-- codes 0 are linear and RGB, with own colours
code_zero : code_of f0 ≡ 0
unfolding cut of_bits to_signed
code_zero = refl

abbrev pub linear : Float → Float → Float → Rgba → Rgba → Segment
linear l m r p q = record { left = l; middle = m; right = r; lcolor = p; rcolor = q; blending = 0; colouring = 0 }

build_of : (fg bg : Rgba) (l m r : Float) (p q : Rgba) → from_numbers Published fg bg (all (numbers_of (linear l m r p q) ++ (f0 ∷ f0 ∷ []))) ≡ Valid (linear l m r p q)
unfolding from_numbers build valid_codes end_colour judge carried
build_of fg bg l m r p q = simp code_zero

pub line_read : (fg bg : Rgba) (l m r : Float) (p q : Rgba) → Sound (numbers_of (linear l m r p q)) → segment_on_line Published fg bg (line_of (linear l m r p q)) ≡ Valid (linear l m r p q)
unfolding segment_on_line
line_read fg bg l m r p q h = ap (from_numbers Published fg bg) (line_numbers (linear l m r p q) h) ∙ build_of fg bg l m r p q

-- every number of a segment that can be written is sound, where each is an f32
pub sound_colours : (l m r : Float) (p q : Rgba) → writable_segment (linear l m r p q) ≡ true
    → T (fits binary32 l) → T (fits binary32 m) → T (fits binary32 r) → Single p → Single q → Sound (numbers_of (linear l m r p q))
unfolding writable_segment writable_colour Sound
sound_colours l m r p q h a b c s t =
    let wp = writable_colour p in
    let wq = writable_colour q in
    let h4 = both_l (writable l && writable m && writable r && wp) wq h in
    let h3 = both_l (writable l && writable m && writable r) wp h4 in
    let ps = parts4 (writable p.r) (writable p.g) (writable p.b) (writable p.a) (both_r (writable l && writable m && writable r) wp h4) in
    let qs = parts4 (writable q.r) (writable q.g) (writable q.b) (writable q.a) (both_r (writable l && writable m && writable r && wp) wq h) in
    let h2 = both_l (writable l && writable m) (writable r) h3 in (
      a,
      both_l (writable l) (writable m) h2,
      (
        b,
        both_r (writable l) (writable m) h2,
        (
          c,
          both_r (writable l && writable m) (writable r) h3,
          (
            s.red,
            ps.0,
            (
              s.green,
              ps.1,
              (
                s.blue,
                ps.2,
                (
                  s.alpha,
                  ps.3,
                  (t.red, qs.0, (t.green, qs.1, (t.blue, qs.2, (t.alpha, qs.3, tt)))),
                ),
              ),
            ),
          ),
        ),
      ),
    )
