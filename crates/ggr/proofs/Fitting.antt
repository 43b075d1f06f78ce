-- The loop over the lines that are to be ASCII. Assumes nothing.
use Prim.Native.Nat.{ℕ, zero, suc, ◌+◌, ◌-◌, ◌≤◌, ◌<◌}
use native.Mathlib.Nat.{sub-zero}
use native.Mathlib.Omega.{arith}
use mathlib.Core.Path.{◌≡◌, refl, sym, ap, ap₂, ◌∙◌}
use mathlib.Core.Bool.{Bool, true, false, ◌&&◌}
use mathlib.Core.List.{List, []}
use lib.ListN.{length, take, drop}
use Rattle.text.specs.Text.{every, ascii, lines}
use Rattle.text.specs.Places.{LineAt}
use Rattle.text.proofs.Lines.{no_lines, some_lines}
use Rattle.ggr.specs.File.{ascii_lines}

-- the lines left are as the whole
abbrev pub Left : List ℕ → ℕ → ℕ → ℕ → ℕ → Type 0
Left s from n at i = ascii_lines (n - i) (lines (drop at s)) ≡ ascii_lines n (lines (drop from s))

pub left_start : (s : List ℕ) (from n : ℕ) → Left s from n from 0
left_start s from n = ap (λ (m : ℕ). ascii_lines m (lines (drop from s))) (sub-zero n)

none_there : (n : ℕ) → ascii_lines n [] ≡ true
unfolding ascii_lines
none_there zero = refl
none_there (suc n) = refl

module _ (s : List ℕ) (from n at i : ℕ) (inv : Left s from n at i) where
  pub left_end : length s ≤ at → true ≡ ascii_lines n (lines (drop from s))
  left_end h = sym (none_there (n - i)) ∙ ap (ascii_lines (n - i)) (sym (no_lines s at h)) ∙ inv

  pub left_none : n ≤ i → true ≡ ascii_lines n (lines (drop from s))
  unfolding ascii_lines
  left_none h = let q : 0 ≡ n - i = omega arith in ap (λ (m : ℕ). ascii_lines m (lines (drop at s))) q ∙ inv

  module _ (h : i < n) (z : at < length s) {end next : ℕ} (w : LineAt s at end next) {t : Bool} (e : t ≡ every ascii (take (end - at) (drop at s))) where
    next_line : (t && ascii_lines (n - (i + 1)) (lines (drop next s))) ≡ ascii_lines n (lines (drop from s))
    unfolding ascii_lines
    next_line =
        let q : suc (n - (i + 1)) ≡ n - i = omega arith in
        ap₂ ◌&&◌ (e ∙ ap (every ascii) w.first) (ap (ascii_lines (n - (i + 1))) w.rest)
        ∙ ap₂ ascii_lines q (sym (some_lines s at z)) ∙ inv

    pub left_bad : t ≡ false → false ≡ ascii_lines n (lines (drop from s))
    left_bad f = rw f at next_line

    pub left_on : t ≡ true → Left s from n next (i + 1)
    left_on f = rw f at next_line
