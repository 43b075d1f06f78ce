-- Lists with some items left out and others put in: what stands where, and the copy in three runs. Assumes nothing.
use mathlib.Core.Path.{◌≡◌, sym, ap, ◌∙◌}
use mathlib.Core.List.{List, [], ◌∷◌, ◌++◌, append_assoc}
use Prim.Native.Nat.{ℕ, ◌+◌, ◌-◌, ◌*◌, ◌≤◌, ◌<◌}
use native.Mathlib.Numerals.{add-one}
use native.Mathlib.Omega.{arith}
use lib.ListN.{length, get_or, set, take, drop, length-append, length-drop, get_or-append}
use lib.Seq.{sets, sets-eq, take-suc, length-take-le, get_or-take, get_or-drop, get_or-append-add, take_at, take_all}
use lib.Ieee.{Float, nan}
use Rattle.slices.proofs.Stores.{sets-append}
use Rattle.blend.specs.declared.Rgba.{Rgba}
use Rattle.blend.specs.Channels.{channels_of}
use Rattle.stops.specs.Stops.{colour_at}
use Rattle.refresh.specs.editing.Edited.{changed, spliced}

-- ---- what stands where
module _ (l : List Float) (at gone : ℕ) (items : List Float) (within : at ≤ length l) where
  abbrev past : (z : Float) (n : ℕ) → get_or (take at l ++ (items ++ drop (at + gone) l)) (at + n) z ≡ get_or (items ++ drop (at + gone) l) n z
  past z n =
      ap (λ (j : ℕ). get_or (take at l ++ (items ++ drop (at + gone) l)) (j + n) z) (sym (length-take-le at l within))
      ∙ get_or-append-add (take at l) (items ++ drop (at + gone) l) n z

  pub before_splice : (z : Float) (i : ℕ) → i < at → get_or (spliced l at gone items) i z ≡ get_or l i z
  unfolding spliced
  before_splice z i b = get_or-append (take at l) (items ++ drop (at + gone) l) z i (omega (arith, length-take-le at l within)) ∙ get_or-take at l i z b

  pub in_splice : (z : Float) (i : ℕ) → i < length items → get_or (spliced l at gone items) (at + i) z ≡ get_or items i z
  unfolding spliced
  in_splice z i b = past z i ∙ get_or-append items (drop (at + gone) l) z i b

  pub after_splice : (z : Float) (i : ℕ) → get_or (spliced l at gone items) (at + (length items + i)) z ≡ get_or l (at + (gone + i)) z
  unfolding spliced
  after_splice z i =
      let e : at + gone + i ≡ at + (gone + i) = omega arith in
      past z (length items + i) ∙ get_or-append-add items (drop (at + gone) l) i z ∙ get_or-drop (at + gone) l i z ∙ ap (λ (j : ℕ). get_or l j z) e

pub splice-length : (l : List Float) (at gone : ℕ) (items : List Float) → at + gone ≤ length l → length (spliced l at gone items) + gone ≡ length l + length items
unfolding spliced
splice-length l at gone items h =
    let within : at ≤ length l = omega arith in
    omega (arith, length-append (take at l) (items ++ drop (at + gone) l), length-append items (drop (at + gone) l), length-take-le at l within, length-drop (at + gone) l)

-- ---- the same of colours, four channels each
module _ (cs : List Float) (k gone put : ℕ) (items : List Float) (within : 4 * k ≤ length cs) (four : length items ≡ 4 * put) where
  abbrev new : List Float
  new = spliced cs (4 * k) (4 * gone) items

  channel_before : (i c : ℕ) → i < k → c < 4 → get_or new (4 * i + c) nan ≡ get_or cs (4 * i + c) nan
  channel_before i c h l = before_splice cs (4 * k) (4 * gone) items within nan (4 * i + c) (omega arith)

  channel_after : (i c : ℕ) → get_or new (4 * (k + (put + i)) + c) nan ≡ get_or cs (4 * (k + (gone + i)) + c) nan
  channel_after i c =
      let e : 4 * (k + (put + i)) + c ≡ 4 * k + (length items + (4 * i + c)) = omega arith in
      let f : 4 * k + (4 * gone + (4 * i + c)) ≡ 4 * (k + (gone + i)) + c = omega arith in
      ap (λ (j : ℕ). get_or new j nan) e ∙ after_splice cs (4 * k) (4 * gone) items within nan (4 * i + c) ∙ ap (λ (j : ℕ). get_or cs j nan) f

  first_of : (j : ℕ) → 4 * j + 0 ≡ 4 * j
  first_of j = omega arith

  pub colour_before : (i : ℕ) → i < k → colour_at new i ≡ colour_at cs i
  colour_before i h =
      rw (rw (first_of i) at (channel_before i 0 h (omega arith)), channel_before i 1 h (omega arith), channel_before i 2 h (omega arith), channel_before i 3 h (omega arith))

  pub colour_after : (i : ℕ) → colour_at new (k + (put + i)) ≡ colour_at cs (k + (gone + i))
  colour_after i =
      rw (rw (first_of (k + (put + i)), first_of (k + (gone + i))) at (channel_after i 0), channel_after i 1, channel_after i 2, channel_after i 3)

-- the colour that is put in
pub colour_in : (cs : List Float) (k gone : ℕ) (colour : Rgba) → 4 * k ≤ length cs → colour_at (spliced cs (4 * k) gone (channels_of colour)) k ≡ colour
colour_in cs k gone colour h =
    let at : (j : ℕ) → j < 4 → get_or (spliced cs (4 * k) gone (channels_of colour)) (4 * k + j) nan ≡ get_or (channels_of colour) j nan = λ j l. in_splice cs (4 * k) gone (channels_of colour) h nan j l in
    let e : 4 * k + 0 ≡ 4 * k = omega arith in
    rw (rw e at (at 0 (omega arith)), at 1 (omega arith), at 2 (omega arith), at 3 (omega arith))

-- ---- the copy
-- the rest of a list, as a part of a slice
pub part_is : (l : List Float) (n : ℕ) → take (length l - n) (drop n l) ≡ drop n l
part_is l n = take_all (length l - n) (drop n l) (omega (arith, length-drop n l))

-- three runs, one after the other
pub three_runs : (l f items : List Float) (at gone : ℕ) → at ≤ length f
    → sets (sets (sets l 0 (take at f)) at items) (at + length items) (drop (at + gone) f) ≡ sets l 0 (spliced f at gone items)
unfolding spliced
three_runs l f items at gone h =
    let d = drop (at + gone) f in
    let e : 0 + length (take at f) ≡ at = omega (arith, length-take-le at f h) in
    sym (
    sets-append l 0 (take at f) (items ++ d)
    ∙ sets-append (sets l 0 (take at f)) (0 + length (take at f)) items d
    ∙ ap (λ (n : ℕ). sets (sets (sets l 0 (take at f)) n items) (n + length items) d) e
    )

pub runs_joined : (l a b c f items : List Float) (at gone : ℕ) → at ≤ length f → a ≡ sets l 0 (take at f) → b ≡ sets a at items
    → c ≡ sets b (at + length items) (take (length f - (at + gone)) (drop (at + gone) f)) → c ≡ sets l 0 (spliced f at gone items)
runs_joined l a b c f items at gone h p q r =
    r ∙ rw (part_is f (at + gone), q, p) (three_runs l f items at gone h)

-- four channels that take the place of four are a change of colour
pub changed_splice : (cs : List Float) (k : ℕ) (colour : Rgba) → 4 * k + 4 ≤ length cs → spliced cs (4 * k) 4 (channels_of colour) ≡ changed cs k colour
unfolding spliced changed
changed_splice cs k colour h = sym (sets-eq (channels_of colour) cs (4 * k) h ∙ append_assoc (take (4 * k) cs) (channels_of colour) (drop (4 * k + 4) cs))

-- what was written from the start
pub written_is : (l xs : List Float) (n : ℕ) → length xs ≡ n → n ≤ length l → take n (sets l 0 xs) ≡ xs
written_is l xs n e h = ap (take n) (sets-eq xs l 0 (omega arith)) ∙ take_at xs (drop (0 + length xs) l) n e
