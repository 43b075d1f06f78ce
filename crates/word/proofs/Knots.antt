-- A knot is a place where a ramp's rounded colour and a list's are known, on a line from P to Q and on one from S to E. Between two knots that are near the two are near. Over whole numbers. Assumes nothing.
use mathlib.Core.Path.{◌≡◌}
use Prim.Native.Nat.{ℕ, ◌+◌, ◌*◌, ◌≤◌, ◌<◌}
use native.Mathlib.Nat.{le_dest, le_of_lt}
use native.Mathlib.Omega.{arith}
use Rattle.difference.proofs.Legs.{Four}
use Rattle.word.proofs.TwoLines.{MixedFour, ApartBy}
use Rattle.word.proofs.ThreePlaces.{near_between}

module _ (u : ℕ) (P Q S E : ℕ) (a b A B : Four) where
  pub record Knot (at : ℕ) (r l : Four) : Type 0 where
    pub ramp : (τ σ : ℕ) → P + τ ≡ at → at + σ ≡ Q → MixedFour u τ σ a b r
    pub list : (τ σ : ℕ) → S + τ ≡ at → at + σ ≡ E → MixedFour u τ σ A B l

  -- a knot before t, and one from t on
  pub record First (m t : ℕ) : Type 0 where
    pub at : ℕ
    pub r : Four
    pub l : Four
    pub knot : Knot at r l
    pub near : ApartBy m l r
    pub from_ramp : P ≤ at
    pub from_list : S ≤ at
    pub before : at < t

  pub record Last (m t : ℕ) : Type 0 where
    pub at : ℕ
    pub r : Four
    pub l : Four
    pub knot : Knot at r l
    pub near : ApartBy m l r
    pub to_ramp : at ≤ Q
    pub to_list : at ≤ E
    pub after : t ≤ at

  three : (x y z w j k l : ℕ) → x + j ≡ y → y + k ≡ z → z + l ≡ w → x + (j + k + l) ≡ w
  three x y z w j k l e f g = omega arith

  two : (x y z j k : ℕ) → x + j ≡ y → y + k ≡ z → x + (j + k) ≡ z
  two x y z j k e f = omega arith

  pub between_knots : (m t : ℕ) → 0 < m → 0 < u → (f : First m t) (o : Last m t) (r l : Four) → Knot t r l → ApartBy (m + 816 * u) l r
  between_knots m t M U f o r l knot =
      let i = le_dest f.from_ramp in
      let i' = le_dest f.from_list in
      let j = le_dest (le_of_lt f.before) in
      let k = le_dest o.after in
      let n = le_dest o.to_ramp in
      let n' = le_dest o.to_list in
      near_between u a b A B i.0 j.0 k.0 n.0 i'.0 n'.0 U (some f.at t j.0 f.before j.1) m M f.r f.l o.r o.l r l
      (f.knot.ramp i.0 (j.0 + k.0 + n.0) i.1 (three f.at t o.at Q j.0 k.0 n.0 j.1 k.1 n.1))
      (f.knot.list i'.0 (j.0 + k.0 + n'.0) i'.1 (three f.at t o.at E j.0 k.0 n'.0 j.1 k.1 n'.1))
      (o.knot.ramp (i.0 + j.0 + k.0) n.0 (three P f.at t o.at i.0 j.0 k.0 i.1 j.1 k.1) n.1)
      (o.knot.list (i'.0 + j.0 + k.0) n'.0 (three S f.at t o.at i'.0 j.0 k.0 i'.1 j.1 k.1) n'.1)
      (knot.ramp (i.0 + j.0) (k.0 + n.0) (two P f.at t i.0 j.0 i.1 j.1) (two t o.at Q k.0 n.0 k.1 n.1))
      (knot.list (i'.0 + j.0) (k.0 + n'.0) (two S f.at t i'.0 j.0 i'.1 j.1) (two t o.at E k.0 n'.0 k.1 n'.1))
      f.near o.near
    where
      some : (x y j : ℕ) → x < y → x + j ≡ y → 0 < j
      some x y j h e = omega arith
