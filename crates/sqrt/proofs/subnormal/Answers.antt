-- `sqrt::subnormal` meets its contract: its shifts are exact, and its n and k are what `proofs/Shift.antt` takes of its units. Assumes nothing.
use native.Mathlib.Nat.{mul-one}
use native.Mathlib.Omega.{arith}
use mathlib.Core.Path.{refl, sym, ap, ◌∙◌}
use Prim.Native.Nat.{ℕ, ◌-◌, ◌*◌, ◌^◌, ◌<◌}
use Rattle.sqrt.specs.Root.{nearest_root}
use Rattle.sqrt.proofs.Cases.{at_subnormal}
use Rattle.sqrt.proofs.Shift.{Moved, moved, zeros, exact, moved_exact, taken, same_root}
use Rattle.sqrt.proofs.subnormal.Goals as goal
use Rattle.sqrt.proofs.subnormal.Lts
use Rattle.sqrt.proofs.subnormal.Reads

abbrev At-Start : Type 0
At-Start = Lts.Start Reads.Pre Reads.Post

few : (c : At-Start) → c.args.b < 2 ^ 24
few c = omega arith

shift : (c : At-Start) → Moved c.args.b
shift c = moved c.args.b c.requires.0 (few c)

pub overflow_sub-z : goal.overflow_sub-z
overflow_sub-z c = let h = (shift c).enough in omega arith

pub overflow_add-result-2 : goal.overflow_add-result-2
overflow_add-result-2 c = let h = (shift c).high in let e = moved_exact c.args.b c.requires.0 (few c) in omega arith

pub returns : goal.returns
returns c =
    let b = c.args.b in
    let p = c.requires.0 in
    let n_is = exact b (128 - zeros b) p (few c) in
    record {
      fit = taken b 1 _ _ p (few c) (omega arith) (omega arith) n_is refl;
      is = same_root b 1 _ _ p (few c) (omega arith) n_is refl ∙ ap (λ (n : ℕ). nearest_root (n * 2 ^ 149)) (mul-one b) ∙ sym (at_subnormal b p c.requires.1);
    }
