-- `write_name` meets its contract: all of the name, or nothing of it. Assumes nothing.
use mathlib.Core.Path.{ap}
use mathlib.Core.List.{List, ◌++◌}
use Prim.Native.Nat.{ℕ}
use lib.ListN.{length, drop}
use Rattle.colorgrad_c.proofs.plain.Writing.{name_out, name_in}
use Rattle.colorgrad_c.proofs.plain.name.write_name.Goals as goal

pub returns-then-name-out-clause-out_after : goal.returns-then-name-out-clause-out_after
returns-then-name-out-clause-out_after c =
    let name = c.args.name.now in
    let out = c.args.out.now in
    name_in name out c.if-name-out.true (ap (λ (x : List ℕ). x ++ drop (length name) out) c.copy_from_slice.ensures.after)

pub returns-else-name-out-clause-out_after : goal.returns-else-name-out-clause-out_after
returns-else-name-out-clause-out_after c = name_out c.args.name.now c.args.out.now c.if-name-out.false
