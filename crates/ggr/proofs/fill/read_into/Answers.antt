-- `read_into` meets its contract: the refusals in their order, then what the header leads to. Assumes nothing.
use Prim.Native.Nat.{◌≤◌}
use native.Mathlib.Omega.{arith}
use lib.ListN.{length}
use Rattle.float.proofs.Flags.{failed, passed}
use Rattle.ggr.specs.File.{segment_room}
use Rattle.ggr.proofs.Filling.{filled_no}
use Rattle.ggr.proofs.Finish.{file_fg, file_bg, file_text, file_refuse, file_unfit, file_counted, filled_as, lead_fits_lem, room_fits}
use Rattle.ggr.proofs.fill.read_into.Goals as goal

pub returns-then-not-is_finite_colour : goal.returns-then-not-is_finite_colour
returns-then-not-is_finite_colour c = filled_no _ _ _ _ (file_fg _ _ _ _ _ (failed c.if-not-is_finite_colour.true c.is_finite_colour.ensures))

pub returns-then-not-is_finite_colour-2 : goal.returns-then-not-is_finite_colour-2
returns-then-not-is_finite_colour-2 c =
    filled_no _ _ _ _ (file_bg _ _ _ _ _ (passed c.if-not-is_finite_colour.false c.is_finite_colour.ensures) (failed c.if-not-is_finite_colour-2.true c.is_finite_colour-2.ensures))

pub returns-then-not-is_fit_text : goal.returns-then-not-is_fit_text
returns-then-not-is_fit_text c =
    filled_no _ _ _ _ (file_text _ _ _ _ _ (passed c.if-not-is_finite_colour.false c.is_finite_colour.ensures) (passed c.if-not-is_finite_colour-2.false c.is_finite_colour-2.ensures) (failed c.if-not-is_fit_text.true c.is_fit_text.ensures))

pub returns-else-are_fit_lines : goal.returns-else-are_fit_lines
returns-else-are_fit_lines c =
    let a = c.args in
    filled_no _ _ _ _ (file_unfit a.rules a.fg a.bg a.s.now c.room_of-room.ensures (passed c.if-not-is_finite_colour.false c.is_finite_colour.ensures) (passed c.if-not-is_finite_colour-2.false c.is_finite_colour-2.ensures) (passed c.if-not-is_fit_text.false c.is_fit_text.ensures) c.read_header.ensures _ _ c.in-Counted.is c.are_fit_lines.ensures (c.if-are_fit_lines.false))

pub fill-requires : goal.fill-requires
fill-requires c =
    let a = c.args in
    let f = lead_fits_lem c.read_header.ensures _ _ c.in-Counted.is in
    let q : c.in-Counted.n ≤ segment_room (length a.p.now) (length a.c.now) (length a.k.now) = omega (arith, f, c.room_of-room.ensures) in
    let r = room_fits _ _ _ _ q in
    (f.0, r.0, r.1, r.2)

pub returns-in-Refuse : goal.returns-in-Refuse
returns-in-Refuse c =
    let a = c.args in
    filled_no _ _ _ _ (file_refuse a.rules a.fg a.bg a.s.now c.room_of-room.ensures (passed c.if-not-is_finite_colour.false c.is_finite_colour.ensures) (passed c.if-not-is_finite_colour-2.false c.is_finite_colour-2.ensures) (passed c.if-not-is_fit_text.false c.is_fit_text.ensures) c.read_header.ensures _ _ c.in-Refuse.is)

pub returns-then-are_fit_lines : goal.returns-then-are_fit_lines
returns-then-are_fit_lines c =
    let a = c.args in
    filled_as _ _ _ _ (file_counted a.rules a.fg a.bg a.s.now c.room_of-room.ensures (passed c.if-not-is_finite_colour.false c.is_finite_colour.ensures) (passed c.if-not-is_finite_colour-2.false c.is_finite_colour-2.ensures) (passed c.if-not-is_fit_text.false c.is_fit_text.ensures) c.read_header.ensures _ _ c.in-Counted.is c.are_fit_lines.ensures (c.if-are_fit_lines.true)) c.fill.ensures
