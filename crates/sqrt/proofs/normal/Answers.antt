-- `sqrt::normal` meets its contract: its n and k are what `proofs/Shift.antt` takes of its pattern. Assumes nothing.
use native.Mathlib.Omega.{arith}
use mathlib.Core.Path.{◌≡◌, sym, ◌∙◌}
use Prim.Native.Nat.{◌+◌, ◌-◌, ◌*◌, ◌/◌}
use Rattle.sqrt.proofs.Cases.{at_normal}
use Rattle.sqrt.proofs.Shift.{zeros, scaled, digits, still, scaled_even, scaled_odd, taken, same_root}
use Rattle.sqrt.proofs.normal.Goals as goal
use Rattle.sqrt.proofs.normal.Lts
use Rattle.sqrt.proofs.normal.Reads
use Rattle.sqrt.proofs.normal.Goals.{then-s-lt-FIELD, else-s-lt-FIELD}

abbrev At-Joined-s-lt-FIELD : Type 0
At-Joined-s-lt-FIELD = Lts.Joined1 Reads.Pre Reads.Post

n_is : (c : At-Joined-s-lt-FIELD) → c.if-s-lt-FIELD.s * 8388608 ≡ scaled (digits c.args.b) (c.args.b / 8388608 + 127 - zeros (digits c.args.b))
n_is c =
    let b = c.args.b in
    elim c.if-s-lt-FIELD.branch [ then-s-lt-FIELD w ↦ scaled_even b c.if-s-lt-FIELD.s w.if-s-lt-FIELD.true w.s-is | else-s-lt-FIELD w ↦ scaled_odd b c.if-s-lt-FIELD.s w.if-s-lt-FIELD.false w.s-is ]

pub returns : goal.returns
returns c =
    let b = c.args.b in
    let f = b / 8388608 in
    let e = still b in
    record {
      fit = taken (digits b) f _ _ (omega arith) (omega arith) (omega arith) (omega arith) (n_is c.before) (omega arith);
      is = same_root (digits b) f _ _ (omega arith) (omega arith) (omega arith) (n_is c.before) (omega arith) ∙ sym (at_normal b c.requires.0 c.requires.1);
    }
