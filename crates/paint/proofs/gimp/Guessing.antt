-- A guess by quarters. Assumes nothing.
use Prim.Native.Nat.{ℕ, ◌+◌, ◌*◌, ◌≤◌}
use native.Mathlib.Nat.{mul-le-mul_left}
use native.Mathlib.Omega.{arith}

-- at most three quarters are passed over
pub passed_over : (q x y z : ℕ) → x ≤ 1 → y ≤ 1 → z ≤ 1 → q * (x + y + z) ≤ q * 3
passed_over q x y z a b c = mul-le-mul_left q (omega arith)
