-- The loop over the segment lines: after i lines the outputs hold the items of i segments. Assumes nothing.
use Prim.Native.Nat.{ℕ, suc, ◌+◌, ◌-◌, ◌*◌, ◌≤◌, ◌<◌}
use native.Mathlib.Nat.{mul-zero, mul-suc, sub-zero}
use native.Mathlib.Numerals.{add-one}
use native.Mathlib.Omega.{arith}
use mathlib.Core.Path.{◌≡◌, refl, sym, ap, ap₂, ◌∙◌}
use mathlib.Core.Bool.{Bool, true, false, cond}
use mathlib.Core.List.{List, [], ◌∷◌, ◌++◌, append-nil, append_assoc}
use lib.ListN.{length, take, drop, length-append}
use lib.Seq.{sets, sets-eq, take_at, drop-append-add, drop-drop, length-sets}
use lib.Ieee.{Float, eq}
use Rattle.refusals.specs.Refusals.{few_lines, torn}
use Rattle.float.specs.F32.{f0, f1}
use Rattle.blend.specs.declared.Rgba.{Rgba}
use Rattle.stops.specs.Lent.{Change, change}
use Rattle.gradient.specs.declared.gimp.Segment.{Segment}
use Rattle.text.specs.Text.{lines, rest_of}
use Rattle.text.proofs.Lines.{no_lines, some_lines}
use Rattle.segment.specs.declared.Rules.{Rules}
use Rattle.segment.specs.declared.SegmentRead.{SegmentRead}
use Rattle.segment.specs.declared.SegmentRead.TheVariants.{Valid, Fault}
use Rattle.segment.specs.Line.{SegmentAt}
use Rattle.segment.specs.Store.{Store, store_of, segment_positions, segment_channels, segment_codes, Stores}
use Rattle.ggr.specs.declared.Answer.{Answer}
use Rattle.ggr.specs.declared.Answer.TheVariants.{Read, Refused}
use Rattle.ggr.specs.File.{FileRead, found, refused, joined_to, before, add_segment, segment_lines, answer_of, flat, at_front, store_left}
use Rattle.ggr.specs.inner.Steps.{Filled, closed_by}
use Rattle.ggr.proofs.Weighing.{weighs}

-- ---- items one after the other
module _ {A : Type 0} (f : Segment → List A) (w : ℕ) (each : (g : Segment) → length (f g) ≡ w) where
  pub flat_length : (gs : List Segment) → length (flat f gs) ≡ w * length gs
  unfolding flat
  flat_length [] = sym (mul-zero w)
  flat_length (g ∷ gs) = length-append (f g) (flat f gs) ∙ ap₂ ◌+◌ (each g) (flat_length gs) ∙ one_more w (length gs) where
    one_more : (w n : ℕ) → w + w * n ≡ w * suc n
    one_more w n = omega (arith, mul-suc w n)

  flat_snoc : (gs : List Segment) (g : Segment) → flat f (gs ++ g ∷ []) ≡ flat f gs ++ f g
  unfolding flat
  flat_snoc [] g = append-nil (f g)
  flat_snoc (h ∷ gs) g = ap (λ (x : List A). f h ++ x) (flat_snoc gs g) ∙ sym (append_assoc (f h) (flat f gs) (f g))

  module _ (gs : List Segment) (i : ℕ) (count : length gs ≡ i) (d p : List A) (now : p ≡ flat f gs ++ drop (w * i) d) where
    len : length (flat f gs) ≡ w * i
    len = flat_length gs ∙ ap (λ (n : ℕ). w * n) count

    put_flat : (g : Segment) → w * i + w ≤ length p → sets p (w * i) (f g) ≡ flat f (gs ++ g ∷ []) ++ drop (w * i + w) d
    put_flat g h =
        let e = each g in
        sets-eq (f g) p (w * i) (omega arith)
        ∙ ap₂ (λ (x y : List A). x ++ f g ++ y) (ap (take (w * i)) now ∙ take_at (flat f gs) (drop (w * i) d) (w * i) len)
        (ap₂ (λ (n : ℕ) (x : List A). drop n x) (ap₂ ◌+◌ (sym len) e) now ∙ drop-append-add (flat f gs) (drop (w * i) d) w ∙ drop-drop w (w * i) d)
        ∙ ap (λ (x : List A). x ++ drop (w * i + w) d) (sym (flat_snoc gs g))

    all_flat : p ≡ at_front f gs d
    all_flat = now ∙ ap (λ (n : ℕ). flat f gs ++ drop n d) (sym len)

pub each_p : (g : Segment) → length (segment_positions g) ≡ 3
unfolding segment_positions
each_p g = refl

each_c : (g : Segment) → length (segment_channels g) ≡ 8
unfolding segment_channels
each_c g = refl

each_k : (g : Segment) → length (segment_codes g) ≡ 2
unfolding segment_codes
each_k g = refl

-- ---- the outcome so far
unfoldable pub prepend_all : List Segment → FileRead → FileRead
prepend_all [] o = o
prepend_all (g ∷ gs) o = before g (prepend_all gs o)

prepend_snoc : (gs : List Segment) (g : Segment) (o : FileRead) → prepend_all gs (before g o) ≡ prepend_all (gs ++ g ∷ []) o
unfolding prepend_all
prepend_snoc [] g o = refl
prepend_snoc (h ∷ gs) g o = ap (before h) (prepend_snoc gs g o)

prepend_refused : (gs : List Segment) (a b : ℕ) → prepend_all gs (refused a b) ≡ refused a b
unfolding prepend_all before
prepend_refused [] a b = refl
prepend_refused (g ∷ gs) a b = ap (before g) (prepend_refused gs a b)

prepend_found : (gs hs : List Segment) → prepend_all gs (found hs) ≡ found (gs ++ hs)
unfolding prepend_all before
prepend_found [] hs = refl
prepend_found (g ∷ gs) hs = ap (before g) (prepend_found gs hs)

-- three lists make a store
by_parts : {s : Store} {p c : List Float} {k : List ℕ} → s.positions ≡ p → s.channels ≡ c → s.codes ≡ k → s ≡ store_of p c k
by_parts {s} e f g = rw (← e, ← f, ← g)

-- a refusal promises no output
pub filled_no : (o : FileRead) (a b : ℕ) (store : Change Store) → o ≡ refused a b → Filled o store (Refused a b)
filled_no o a b store e = record { answer = sym (ap answer_of e); left = λ gs f. differ gs (sym e ∙ f) } where
  differ : {X : Type 0} → (gs : List Segment) → refused a b ≡ found gs → X
  differ gs e = absurd (let z : ◌≡◌ {A = ℕ} 0 1 = cc in omega arith)

-- o is the outcome; s the text; kept what the outputs held
module _ (o : FileRead) (s : List ℕ) (rules : Rules) (fg bg : Rgba) (n : ℕ) (kept : Store) where
  -- i segments are written, the last of them ends at `end`, and the next line starts at `at`
  pub record Going (so_far : Store) (at : ℕ) (end : Float) (i : ℕ) : Type 0 where
    pub le : i ≤ n
    pub gs : List Segment
    pub count : length gs ≡ i
    pub rest : o ≡ prepend_all gs (segment_lines rules fg bg (n - i) (4 + i) end (lines (drop at s)))
    pub long_p : length so_far.positions ≡ length kept.positions
    pub long_c : length so_far.channels ≡ length kept.channels
    pub long_k : length so_far.codes ≡ length kept.codes
    pub in_p : so_far.positions ≡ flat segment_positions gs ++ drop (3 * i) kept.positions
    pub in_c : so_far.channels ≡ flat segment_channels gs ++ drop (8 * i) kept.channels
    pub in_k : so_far.codes ≡ flat segment_codes gs ++ drop (2 * i) kept.codes

  pub going_start : (at : ℕ) → o ≡ segment_lines rules fg bg n 4 f0 (lines (drop at s)) → Going kept at f0 0
  unfolding prepend_all flat
  going_start at e = record {
    le = omega arith;
    gs = [];
    count = refl;
    rest = e ∙ ap (λ (m : ℕ). segment_lines rules fg bg m 4 f0 (lines (drop at s))) (sym (sub-zero n));
    long_p = refl;
    long_c = refl;
    long_k = refl;
    in_p = refl;
    in_c = refl;
    in_k = refl;
  }

  module _ (so_far : Store) (at : ℕ) (end : Float) (i : ℕ) (G : Going so_far at end i) where
    pub short : i < n → length s ≤ at → Filled o (change kept so_far) (Refused few_lines 3)
    unfolding segment_lines
    short h e =
        let q : n - i ≡ suc (n - (i + 1)) = omega arith in
        filled_no o few_lines 3 _ (G.rest ∙ rw (q, no_lines s at e) (prepend_refused G.gs few_lines 3))

    module _ (h : i < n) (z : at < length s) (l r : SegmentRead) (after : ℕ) (w : SegmentAt rules fg bg s at l after) (v : r ≡ joined_to end l) where
      -- what follows a segment
      abbrev Rest : Segment → FileRead
      Rest g = segment_lines rules fg bg (n - (i + 1)) (suc (4 + i)) g.right (rest_of (lines (drop at s)))

      next : o ≡ prepend_all G.gs (add_segment (4 + i) r Rest)
      unfolding segment_lines
      next =
          let q : n - i ≡ suc (n - (i + 1)) = omega arith in
          G.rest ∙ ap (prepend_all G.gs) (ap₂ (λ (m : ℕ) (ls : List (List ℕ)). segment_lines rules fg bg m (4 + i) end ls) q (some_lines s at z)
          ∙ ap (λ (x : SegmentRead). add_segment (4 + i) x Rest) (ap (joined_to end) (sym w.is) ∙ sym v))

      pub bad : (number : ℕ) → r ≡ Fault number → Filled o (change kept so_far) (Refused number (4 + i))
      unfolding add_segment
      bad number e = filled_no o number (4 + i) _ (next ∙ rw e (prepend_refused G.gs number (4 + i)))

      module _ (fp : 3 * n ≤ length kept.positions) (fc : 8 * n ≤ length kept.channels) (fk : 2 * n ≤ length kept.codes) where
        pub going_on : (g : Segment) → r ≡ Valid g → (now : Store) → Stores i g (change so_far now) → Going now after g.right (i + 1)
        unfolding add_segment
        going_on g e now put =
            let ep = ap (λ (x : Store). x.positions) put in
            let ec = ap (λ (x : Store). x.channels) put in
            let ek = ap (λ (x : Store). x.codes) put in
            record {
              le = omega arith;
              gs = G.gs ++ g ∷ [];
              count = length-append G.gs (g ∷ []) ∙ ap (λ (m : ℕ). m + 1) G.count;
              rest =
                  next ∙ ap (λ (x : SegmentRead). prepend_all G.gs (add_segment (4 + i) x Rest)) e
                  ∙ prepend_snoc G.gs g (Rest g)
                  ∙ ap (prepend_all (G.gs ++ g ∷ [])) (ap₂ (λ (m : ℕ) (ls : List (List ℕ)). segment_lines rules fg bg (n - (i + 1)) m g.right ls) line_no (sym (w.rest g (weighs end l g (sym v ∙ e)).0)));
              long_p = ap length ep ∙ length-sets so_far.positions (3 * i) (segment_positions g) ∙ G.long_p;
              long_c = ap length ec ∙ length-sets so_far.channels (8 * i) (segment_channels g) ∙ G.long_c;
              long_k = ap length ek ∙ length-sets so_far.codes (2 * i) (segment_codes g) ∙ G.long_k;
              in_p = ep ∙ put_flat segment_positions 3 each_p G.gs i G.count kept.positions so_far.positions G.in_p g (omega (arith, G.long_p)) ∙ one_more 3 segment_positions kept.positions;
              in_c = ec ∙ put_flat segment_channels 8 each_c G.gs i G.count kept.channels so_far.channels G.in_c g (omega (arith, G.long_c)) ∙ one_more 8 segment_channels kept.channels;
              in_k = ek ∙ put_flat segment_codes 2 each_k G.gs i G.count kept.codes so_far.codes G.in_k g (omega (arith, G.long_k)) ∙ one_more 2 segment_codes kept.codes;
            } where
              line_no : suc (4 + i) ≡ 4 + (i + 1)
              line_no = omega arith

              one_more : {A : Type 0} (w : ℕ) (f : Segment → List A) (d : List A) → flat f (G.gs ++ g ∷ []) ++ drop (w * i + w) d ≡ flat f (G.gs ++ g ∷ []) ++ drop (w * (i + 1)) d
              one_more w f d =
                  let q : w * i + w ≡ w * (i + 1) = omega (arith, mul-suc w i, ap (λ (m : ℕ). w * m) (add-one i)) in
                  ap (λ (m : ℕ). flat f (G.gs ++ g ∷ []) ++ drop m d) q

    -- after the last line
    last : i ≡ n → o ≡ prepend_all G.gs (cond (eq end f1) (found []) (refused torn (3 + n)))
    unfolding segment_lines
    last e =
        let q : n - i ≡ 0 = omega arith in
        let m : 4 + i - 1 ≡ 3 + n = omega arith in
        G.rest ∙ rw q (ap (λ (x : ℕ). prepend_all G.gs (cond (eq end f1) (found []) (refused torn x))) m)

    ends_early : i ≡ n → eq end f1 ≡ false → Filled o (change kept so_far) (Refused torn (3 + n))
    ends_early e x = filled_no o torn (3 + n) _ (last e ∙ rw x (prepend_refused G.gs torn (3 + n)))

    full : i ≡ n → eq end f1 ≡ true → Filled o (change kept so_far) (Read n)
    unfolding store_left
    full e x =
        let f : o ≡ found G.gs = last e ∙ rw x (prepend_found G.gs [] ∙ ap found (append-nil G.gs)) in
        let p = all_flat segment_positions 3 each_p G.gs i G.count kept.positions so_far.positions G.in_p in
        let c = all_flat segment_channels 8 each_c G.gs i G.count kept.channels so_far.channels G.in_c in
        let k = all_flat segment_codes 2 each_k G.gs i G.count kept.codes so_far.codes G.in_k in
        record { answer = ap Read (sym e ∙ sym G.count) ∙ sym (ap answer_of f); left = λ hs j. by_parts p c k ∙ ap (λ (x : FileRead). store_left x kept) (sym f) }

    pub closed : i ≡ n → (r : Answer) → r ≡ closed_by end n → Filled o (change kept so_far) r
    closed e r q = go (eq end f1) refl q where
      go : (b : Bool) → eq end f1 ≡ b → r ≡ cond b (Read n) (Refused torn (3 + n)) → Filled o (change kept so_far) r
      go true x q = rw q (full e x)
      go false x q = rw q (ends_early e x)
