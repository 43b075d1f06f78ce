-- The table keeps its rule: one test, computed over all entries. Assumes nothing.
use mathlib.Core.Path.{◌≡◌, refl, sym, subst}
use mathlib.Core.Bool.{Bool, true, cond, ◌&&◌}
use Prim.Native.Nat.{ℕ, suc, ◌+◌, ◌-◌, ◌*◌, ◌^◌, ◌≤◌, ◌<◌}
use native.Mathlib.Omega.{arith}
use lib.Dec.{T, leb, ltb, eqb, leb→le, eqb→eq}
use lib.Ieee.Fits.{and_l, and_r}
use lib.IntN.{pos, ◌-ℤ◌, ◌*ℤ◌}
use lib.ListN.{length}
use lib.Signed.{mag}
use borrow.Author.Tests.{lt-ltb, le-leb}
use Rattle.sine.specs.Table.{table, entry, cosine, Rule}
use Rattle.sine.proofs.Every.{every, at}

-- how far the rule of doubling is missed at i
abbrev missed : ℕ → ℕ
missed i = mag (pos (2 ^ 24) *ℤ cosine (2 * i) -ℤ (pos 2 *ℤ (cosine i *ℤ cosine i) -ℤ pos (2 ^ 48)))

-- what is asked of entry i, which is x
abbrev rises : ℕ → ℕ → Bool
rises i x = cond (ltb i 1024) (leb x (entry (suc i))) true

abbrev mirrors : ℕ → ℕ → Bool
mirrors i x = eqb (x + entry (1024 - i)) (2 ^ 24)

abbrev doubles : ℕ → Bool
doubles i = cond (leb i 512) (leb (missed i) (5 * 2 ^ 24 + 2)) true

unfoldable ruled : ℕ → ℕ → Bool
ruled i x = rises i x && (mirrors i x && doubles i)

long : length table ≡ 1025
unfolding table
long = refl

all_ruled : T (every ruled 0 table)
unfolding table every ruled
all_ruled = tt

asked : (i : ℕ) → i ≤ 1024 → T (rises i (entry i)) × T (mirrors i (entry i)) × T (doubles i)
unfolding ruled
asked i h =
    let t = at ruled table all_ruled i (subst (λ (n : ℕ). i < n) (sym long) (omega arith)) in
    let u = and_r (rises i (entry i)) (mirrors i (entry i) && doubles i) t in
    (and_l (rises i (entry i)) (mirrors i (entry i) && doubles i) t, and_l (mirrors i (entry i)) (doubles i) u, and_r (mirrors i (entry i)) (doubles i) u)

given : (b x : Bool) → b ≡ true → T (cond b x true) → T x
given b x e t = subst (λ (c : Bool). T (cond c x true)) e t

starting : entry 0 ≡ 0
unfolding table
starting = refl

pub rule : Rule
rule = record {
  starts = starting;
  never_falls = λ i h.
      leb→le (entry i) (entry (suc i)) (given (ltb i 1024) (leb (entry i) (entry (suc i))) (lt-ltb i 1024 h) (asked i (omega arith)).0);
  mirrored = λ i h. eqb→eq (entry i + entry (1024 - i)) (2 ^ 24) (asked i h).1;
  doubling = λ i h.
      leb→le (missed i) (5 * 2 ^ 24 + 2) (given (leb i 512) (leb (missed i) (5 * 2 ^ 24 + 2)) (le-leb i 512 h) (asked i (omega arith)).2);
}

-- no entry is above 2 ^ 24
pub entry_most : (i : ℕ) → i ≤ 1024 → entry i ≤ 2 ^ 24
entry_most i h = let e = rule.mirrored i h in omega arith
