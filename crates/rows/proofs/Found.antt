-- What is to be shown of a field that is there, and of none. Assumes nothing.
use Prim.Native.Nat.{ℕ, ◌+◌, ◌-◌, ◌≤◌, ◌<◌}
use mathlib.Core.Path.{◌≡◌, sym}
use mathlib.Core.Bool.{true, false}
use mathlib.Core.List.{List, [], ◌∷◌}
use lib.ListN.{length, take, drop}
use Rattle.text.proofs.Bytes.{no}
use Rattle.rows.specs.declared.Parting.{Parting}
use Rattle.rows.specs.Rows.{parts_at, row_end}
use Rattle.rows.specs.inner.Steps.{FieldAt}

module _ (by : Parting) (s : List ℕ) (from at end next : ℕ) where
  pub no_field : parts_at by s from ≡ [] → next ≡ row_end by s from → FieldAt by s from false at end next
  no_field p e = record {
    no_part = λ z. p;
    follows = λ z. e;
    order = λ z. no (sym z);
    within = λ z. no (sym z);
    further = λ z. no (sym z);
    inside = λ z. no (sym z);
    a_part = λ z. no (sym z);
    same_end = λ z. no (sym z);
  }

  pub a_field : at ≤ end → end ≤ length s → from < next → next ≤ length s + 1 → parts_at by s from ≡ take (end - at) (drop at s) ∷ parts_at by s next → row_end by s from ≡ row_end by s next → FieldAt by s from true at end next
  a_field o w f i p e = record {
    no_part = λ z. no z;
    follows = λ z. no z;
    order = λ z. o;
    within = λ z. w;
    further = λ z. f;
    inside = λ z. i;
    a_part = λ z. p;
    same_end = λ z. e;
  }
