-- `write` meets its contract: a case for each refusal. Assumes nothing.
use Rattle.float.proofs.Flags.{failed, passed}
use Rattle.ggr_writing.proofs.Final.{not_shaped, not_rising, not_writable, no_room_lem, has_room, shaped_few}
use Rattle.ggr_writing.proofs.write.Goals as goal

pub returns-then-not-is_shaped : goal.returns-then-not-is_shaped
returns-then-not-is_shaped c = let a = c.args in not_shaped a.positions.now a.channels.now a.text.now (failed c.if-not-is_shaped.true c.is_shaped.ensures)

pub returns-then-not-never_falls : goal.returns-then-not-never_falls
returns-then-not-never_falls c = let a = c.args in not_rising a.positions.now a.channels.now a.text.now (passed c.if-not-is_shaped.false c.is_shaped.ensures) (failed c.if-not-never_falls.true c.never_falls.ensures)

pub returns-then-not-can_write : goal.returns-then-not-can_write
returns-then-not-can_write c =
    let a = c.args in
    not_writable a.positions.now a.channels.now a.text.now
    (passed c.if-not-is_shaped.false c.is_shaped.ensures)
    (passed c.if-not-never_falls.false c.never_falls.ensures)
    (failed c.if-not-can_write.true c.can_write.ensures)
    c.zero_bytes.ensures

pub put_file-end-requires : goal.put_file-end-requires
put_file-end-requires c =
    shaped_few _ _ (passed c.if-not-is_shaped.false c.is_shaped.ensures)

pub returns-then-text-end : goal.returns-then-text-end
returns-then-text-end c =
    let a = c.args in
    no_room_lem a.positions.now a.channels.now a.text.now
    (passed c.if-not-is_shaped.false c.is_shaped.ensures)
    (passed c.if-not-never_falls.false c.never_falls.ensures)
    (passed c.if-not-can_write.false c.can_write.ensures)
    c.put_file-end.ensures
    c.if-text-end.true
    c.zero_bytes-then-text-end.ensures

pub returns : goal.returns
returns c =
    let a = c.args in
    has_room a.positions.now a.channels.now a.text.now
    (passed c.if-not-is_shaped.false c.is_shaped.ensures)
    (passed c.if-not-never_falls.false c.never_falls.ensures)
    (passed c.if-not-can_write.false c.can_write.ensures)
    c.put_file-end.ensures
    c.if-text-end.false
