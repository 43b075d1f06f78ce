-- `decimal::long::ten_times` meets its contract: from a tenth of the bound on it stays at the bound. Assumes nothing.
use mathlib.Core.Path.{ap}
use mathlib.Core.Logic.{inl, inr}
use Prim.Native.Nat.{ℕ, ◌+◌, ◌-◌, ◌*◌, ◌≤◌, ◌<◌}
use native.Mathlib.Omega.{arith}
use Rattle.decimal.specs.inner.Counted.{huge, TenTimes}
use Rattle.decimal.proofs.long.ten_times.Goals as goal

full : (v b : ℕ) → 1000000000000000000 ≤ v → TenTimes v b huge
full v b h e (inl f) = inr (omega arith, omega arith)
full v b h e (inr f) = inr (omega arith, omega arith)

more : (v b : ℕ) → v < 1000000000000000000 → TenTimes v b (v * 10 + (b - 48))
more v b h e (inl f) = inl (ap (λ (x : ℕ). x * 10 + (b - 48)) f)
more v b h e (inr f) = absurd (never v h f.0)
  where
    never : (x : ℕ) → x < 1000000000000000000 → huge ≤ x → ⊥
    never x h g = omega arith

pub returns-then-value : goal.returns-then-value
returns-then-value c = full _ _ c.if-value.true

pub returns : goal.returns
returns c = more _ _ c.if-value.false
