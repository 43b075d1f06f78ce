-- Laws of a file's parts put one after the other. Assumes nothing.
use mathlib.Core.Path.{◌≡◌, sym, ap, ◌∙◌}
use mathlib.Core.List.{List, [], ◌∷◌, ◌++◌, append_assoc, append-nil}
use Prim.Native.Nat.{ℕ, suc, ◌+◌, ◌-◌, ◌≤◌, ◌<◌}
use native.Mathlib.Omega.{arith}
use lib.ListN.{length, take, replicate, length-append}
use lib.Ieee.{Float}
use Rattle.blend.specs.declared.Rgba.{Rgba}
use Rattle.blend.specs.declared.Stop.{Stop}
use Rattle.stops.specs.Stops.{stop_at}
use Rattle.gradient.specs.declared.gimp.Segment.{Segment}
use Rattle.numerals.specs.Written.{text_of, TextIs}
use Rattle.numerals.proofs.Marks.{text_short}
use Rattle.numerals.proofs.Theorems.{bytes_are}
use Rattle.text.specs.Output.{most_place, PutsFrom}
use Rattle.text.proofs.Putting.{from_nil, puts_then, from_as}
use Rattle.ggr_writing.specs.File.{spaced_number, spaced_colour, segment_text, segments_text, segment_between, segments_from, longest_line}

-- ---- how long they are
pub length_field : (x : Float) → length (spaced_number x) ≤ 19
unfolding spaced_number
length_field x = omega (arith, length-append (text_of x) (32 ∷ []), text_short x)

pub length_colour : (c : Rgba) → length (spaced_colour c) ≤ 76
unfolding spaced_colour
length_colour c =
    omega (
      arith,
      length-append (spaced_number c.r) (spaced_number c.g ++ (spaced_number c.b ++ spaced_number c.a)),
      length-append (spaced_number c.g) (spaced_number c.b ++ spaced_number c.a),
      length-append (spaced_number c.b) (spaced_number c.a),
      length_field c.r,
      length_field c.g,
      length_field c.b,
      length_field c.a,
    )

pub length_segment : (g : Segment) → length (segment_text g) ≤ longest_line
unfolding segment_text
length_segment g =
    let tail : List ℕ = 48 ∷ 32 ∷ 48 ∷ 10 ∷ [] in
    let right = spaced_colour g.rcolor ++ tail in
    let colours = spaced_colour g.lcolor ++ right in
    omega (
      arith,
      length-append (spaced_number g.left) (spaced_number g.middle ++ (spaced_number g.right ++ colours)),
      length-append (spaced_number g.middle) (spaced_number g.right ++ colours),
      length-append (spaced_number g.right) colours,
      length-append (spaced_colour g.lcolor) right,
      length-append (spaced_colour g.rcolor) tail,
      length_field g.left,
      length_field g.middle,
      length_field g.right,
      length_colour g.lcolor,
      length_colour g.rcolor,
    )

pub field_size : {bytes : List ℕ} {len : ℕ} (x : Float) → TextIs (text_of x) bytes len → length (take len bytes) ≡ len
field_size {bytes} {len} x t = ap length (bytes_are (text_of x) bytes len t) ∙ sym t.long

pub field_within : {bytes : List ℕ} {len : ℕ} (x : Float) → TextIs (text_of x) bytes len → len ≤ length bytes
field_within {bytes} {len} x t = omega (arith, t.long, ap length t.is ∙ length-append (text_of x) (replicate (18 - length (text_of x)) 0))

pub field_put : {out mid out' bytes : List ℕ} {at m r len : ℕ} (x : Float) → TextIs (text_of x) bytes len → PutsFrom out mid at (take len bytes) m → PutsFrom mid out' m (32 ∷ []) r → length out ≤ most_place → PutsFrom out out' at (spaced_number x) r
unfolding spaced_number
field_put {bytes = bytes} {len = len} x t p q k = puts_then (from_as p (bytes_are (text_of x) bytes len t)) (λ l. q) k

-- ---- segment by segment: the lines so far, and those that are left
pub record Rowed (out mid : List ℕ) (at next : ℕ) (n i : ℕ) (ps cs : List Float) : Type 0 where
  pub few : i ≤ n
  pub done : List ℕ
  pub put : PutsFrom out mid at done next
  pub left : done ++ segments_text (segments_from (n - i) i ps cs) ≡ segments_text (segments_from n 0 ps cs)

pub rowed_start : (out : List ℕ) (at n : ℕ) (ps cs : List Float) → at ≤ most_place → Rowed out out at at n 0 ps cs
rowed_start out at n ps cs h = record {
  few = omega arith;
  done = [];
  put = from_nil out at h;
  left = let e : n - 0 ≡ n = omega arith in ap (λ (m : ℕ). segments_text (segments_from m 0 ps cs)) e;
}

rows_step : (n i : ℕ) (ps cs : List Float) → i < n
    → segments_text (segments_from (n - i) i ps cs) ≡ segment_text (segment_between (stop_at ps cs i) (stop_at ps cs (i + 1))) ++ segments_text (segments_from (n - (i + 1)) (i + 1) ps cs)
unfolding segments_text segments_from
rows_step n i ps cs h = let e : n - i ≡ suc (n - (i + 1)) = omega arith in ap (λ (m : ℕ). segments_text (segments_from m i ps cs)) e

pub rowed_next : {out mid out' : List ℕ} {at next n i r : ℕ} {ps cs : List Float} {a b : Stop} → i < n → a ≡ stop_at ps cs i → b ≡ stop_at ps cs (i + 1) → Rowed out mid at next n i ps cs
    → PutsFrom mid out' next (segment_text (segment_between a b)) r → length out ≤ most_place → Rowed out out' at r n (i + 1) ps cs
rowed_next {out} {mid} {out'} {at} {next} {n} {i} {r} {ps} {cs} {a} {b} h e f w p k =
    let line = segment_text (segment_between a b) in
    let rest = segments_text (segments_from (n - (i + 1)) (i + 1) ps cs) in
    record {
      few = omega arith;
      done = w.done ++ line;
      put = puts_then w.put (λ l. p) k;
      left = append_assoc w.done line rest
          ∙ ap (λ (x : Stop). w.done ++ (segment_text (segment_between x b) ++ rest)) e
          ∙ ap (λ (x : Stop). w.done ++ (segment_text (segment_between (stop_at ps cs i) x) ++ rest)) f
          ∙ ap (λ (t : List ℕ). w.done ++ t) (sym (rows_step n i ps cs h)) ∙ w.left;
    }

pub rowed_done : {out mid : List ℕ} {at next n i : ℕ} {ps cs : List Float} → n ≤ i → Rowed out mid at next n i ps cs → PutsFrom out mid at (segments_text (segments_from n 0 ps cs)) next
unfolding segments_text segments_from
rowed_done {out} {mid} {at} {next} {n} {i} {ps} {cs} h w =
    let e : n - i ≡ 0 = omega arith in
    let t : w.done ≡ segments_text (segments_from n 0 ps cs) = sym (append-nil w.done) ∙ ap (λ (m : ℕ). w.done ++ segments_text (segments_from m i ps cs)) (sym e) ∙ w.left in
    from_as w.put t
