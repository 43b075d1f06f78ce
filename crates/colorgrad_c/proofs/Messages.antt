-- Texts by their numbers: the lines of a text that holds them all. Assumes nothing.
use mathlib.Core.Path.{◌≡◌, refl, sym, ap, ◌∙◌}
use mathlib.Core.Bool.{Bool, true, false, cond, ◌&&◌}
use mathlib.Core.List.{List, [], ◌∷◌, ◌++◌}
use Prim.Native.Nat.{ℕ, zero, suc, ◌+◌, ◌-◌, ◌≤◌, ◌<◌, min}
use Prim.Native.String.{String, [] as empty}
use native.Mathlib.Nat.{sub-zero}
use native.Mathlib.Omega.{arith}
use lib.Dec.{leb, ltb}
use lib.ListN.{length, get_or, take, drop}
use borrow.Author.Tests.{leb-true, ltb-true, ltb-false}
use Rattle.float.proofs.Flags.{both_l, both_r}
use Rattle.text.specs.Text.{every, lines, first_of, rest_of}
use Rattle.text.specs.Places.{LineAt}
use Rattle.ggr_writing.proofs.Parts.{Shown, lines_line}
use Rattle.colorgrad_c.specs.About.{bytes_in}

-- ---- line k of a text
rest_at : (ls : List (List ℕ)) (k : ℕ) → get_or (rest_of ls) k [] ≡ get_or ls (suc k) []
unfolding rest_of
rest_at [] k = refl
rest_at (l ∷ ls) k = refl

first_at : (ls : List (List ℕ)) → first_of ls ≡ get_or ls 0 []
unfolding first_of
first_at [] = refl
first_at (l ∷ ls) = refl

-- so far: line k is line k - i from `at` on
pub record Passed (s : List ℕ) (k at i : ℕ) : Type 0 where
  pub within : at ≤ length s
  pub left : i ≤ k
  pub line : get_or (lines (drop at s)) (k - i) [] ≡ get_or (lines s) k []

pub passed_none : (s : List ℕ) (k : ℕ) → Passed s k 0 0
passed_none s k = record { within = omega arith; left = omega arith; line = rw sub-zero }

pub passed_more : {s : List ℕ} {k at i end next : ℕ} → Passed s k at i → i < k → LineAt s at end next → Passed s k next (i + 1)
passed_more {s} {k} {at} {i} {end} {next} p h l =
    let e : k - i ≡ suc (k - (i + 1)) = omega arith in
    record {
      within = l.beyond p.within;
      left = omega arith;
      line = ap (λ (ls : List (List ℕ)). get_or ls (k - (i + 1)) []) l.rest ∙ rest_at (lines (drop at s)) (k - (i + 1)) ∙ ap (λ (m : ℕ). get_or (lines (drop at s)) m []) (sym e) ∙ p.line;
    }

pub passed_all : {s : List ℕ} {k at i end next : ℕ} → Passed s k at i → k ≤ i → LineAt s at end next → take (end - at) (drop at s) ≡ get_or (lines s) k []
passed_all {s} {k} {at} {i} {end} {next} p h l =
    let e : k - i ≡ 0 = omega arith in
    l.first ∙ first_at (lines (drop at s)) ∙ ap (λ (m : ℕ). get_or (lines (drop at s)) m []) (sym e) ∙ p.line

-- ---- texts, each with an LF after it
unfoldable pub joined_texts : List String → List ℕ
joined_texts [] = []
joined_texts (t ∷ ts) = bytes_in t ++ (10 ∷ joined_texts ts)

-- every byte of them shows
unfoldable pub all_show : List String → Bool
all_show [] = true
all_show (t ∷ ts) = every (λ b. leb 32 b && leb b 126) (bytes_in t) && all_show ts

shown_by : (s : List ℕ) → every (λ b. leb 32 b && leb b 126) s ≡ true → Shown s
unfolding every Shown
shown_by [] h = tt
shown_by (b ∷ s) h =
    let f = both_l (leb 32 b && leb b 126) (every (λ b. leb 32 b && leb b 126) s) h in
    (leb-true 32 b (both_l (leb 32 b) (leb b 126) f), leb-true b 126 (both_r (leb 32 b) (leb b 126) f), shown_by s (both_r (leb 32 b && leb b 126) (every (λ b. leb 32 b && leb b 126) s) h))

line_is : (ts : List String) (k : ℕ) → all_show ts ≡ true → get_or (lines (joined_texts ts)) k [] ≡ bytes_in (get_or ts k empty)
unfolding joined_texts all_show lines bytes_in
line_is [] k h = refl
line_is (t ∷ ts) zero h = ap (λ (ls : List (List ℕ)). get_or ls 0 []) (lines_line (bytes_in t) (joined_texts ts) (shown_by (bytes_in t) (both_l (every (λ b. leb 32 b && leb b 126) (bytes_in t)) (all_show ts) h)))
line_is (t ∷ ts) (suc k) h =
    ap (λ (ls : List (List ℕ)). get_or ls (suc k) []) (lines_line (bytes_in t) (joined_texts ts) (shown_by (bytes_in t) (both_l (every (λ b. leb 32 b && leb b 126) (bytes_in t)) (all_show ts) h)))
    ∙ line_is ts k (both_r (every (λ b. leb 32 b && leb b 126) (bytes_in t)) (all_show ts) h)

-- ---- a text by its number, and another for the numbers that have none
among : (ts : List String) (other : String) (n : ℕ) → n < length ts → get_or (ts ++ (other ∷ [])) n empty ≡ get_or ts n other
among [] other n h = absurd (omega arith)
among (t ∷ ts) other zero h = refl
among (t ∷ ts) other (suc n) h = among ts other n (omega arith)

other_last : (ts : List String) (other : String) → get_or (ts ++ (other ∷ [])) (length ts) empty ≡ other
other_last [] other = refl
other_last (t ∷ ts) other = other_last ts other

past : (ts : List String) (other : String) (n : ℕ) → length ts ≤ n → get_or ts n other ≡ other
past [] other n h = refl
past (t ∷ ts) other zero h = absurd (omega arith)
past (t ∷ ts) other (suc n) h = past ts other n (omega arith)

chosen : (ts : List String) (other : String) (n : ℕ) → get_or (ts ++ (other ∷ [])) (cond (ltb n (length ts)) n (length ts)) empty ≡ get_or ts n other
chosen ts other n = go (ltb n (length ts)) refl where
  go : (t : Bool) → ltb n (length ts) ≡ t → get_or (ts ++ (other ∷ [])) (cond t n (length ts)) empty ≡ get_or ts n other
  go true e = among ts other n (ltb-true n (length ts) e)
  go false e = other_last ts other ∙ sym (past ts other n (ltb-false n (length ts) e))

pub text_least : (n most : ℕ) → min n most ≡ cond (ltb n most) n most
text_least n most = go (ltb n most) refl where
  go : (t : Bool) → ltb n most ≡ t → min n most ≡ cond t n most
  go true e = omega (arith, ltb-true n most e)
  go false e = omega (arith, ltb-false n most e)

-- line k of texts is the text of the number n
pub text_is : (ts : List String) (other : String) (n : ℕ) {k : ℕ} (all : List ℕ) → all ≡ joined_texts (ts ++ (other ∷ [])) → all_show (ts ++ (other ∷ [])) ≡ true
    → k ≡ cond (ltb n (length ts)) n (length ts) → get_or (lines all) k [] ≡ bytes_in (get_or ts n other)
text_is ts other n {k} all e shows f =
    ap (λ (s : List ℕ). get_or (lines s) k []) e ∙ line_is (ts ++ (other ∷ [])) k shows ∙ ap (λ (i : ℕ). bytes_in (get_or (ts ++ (other ∷ [])) i empty)) f ∙ ap bytes_in (chosen ts other n)
