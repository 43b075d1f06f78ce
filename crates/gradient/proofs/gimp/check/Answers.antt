-- `gimp::check` meets its contract: each answer follows from what the calls before it ensure. Assumes nothing.
use lib.ListN.{length}
use Prim.Native.Nat.{◌/◌}
use Rattle.std.proofs.Common.{rules}
use Rattle.float.proofs.Flags.{passed}
use Rattle.stops.proofs.Checking.{checks}
use Rattle.gradient.specs.Gimp.{gimp_check}
use Rattle.gradient.proofs.GimpLaws.{shape}
use Rattle.gradient.proofs.gimp.check.Goals as goal

pub are_carried-requires : goal.are_carried-requires
are_carried-requires c =
    let a = c.args in
    let s = shape (length a.positions.now / 3) (length a.positions.now) (length a.channels.now) (length a.codes.now) (passed c.if-not-is_shaped.false c.is_shaped.ensures) in
    (s.most, s.positions, s.codes)

pub returns-then-not-are_carried : goal.returns-then-not-are_carried
unfolding gimp_check
returns-then-not-are_carried c = checks (search rules)

pub returns-then-not-all_finite-2 : goal.returns-then-not-all_finite-2
unfolding gimp_check
returns-then-not-all_finite-2 c = checks (search rules)

pub returns-else-not-all_finite-2 : goal.returns-else-not-all_finite-2
unfolding gimp_check
returns-else-not-all_finite-2 c = checks (search rules)
