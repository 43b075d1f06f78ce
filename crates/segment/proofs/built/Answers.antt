-- `built` meets its contract: the codes are valid or not, and the kind is carried or not. Assumes nothing.
use Rattle.float.proofs.Flags.{failed, passed}
use Rattle.segment.proofs.Codes.{build_invalid, build_valid, build_not}
use Rattle.segment.proofs.built.Goals as goal

pub returns-then-not-valid_codes : goal.returns-then-not-valid_codes
returns-then-not-valid_codes c = let a = c.args in
    build_invalid a.rules a.fg a.bg _ _ _ _ _ c.code-blending.ensures c.code-colouring.ensures c.code-left_code.ensures c.code-right_code.ensures (failed c.if-not-valid_codes.true c.valid_codes.ensures)

pub returns-then-is_carried : goal.returns-then-is_carried
returns-then-is_carried c = let a = c.args in
    build_valid a.rules a.fg a.bg _ _ _ _ _ c.code-blending.ensures c.code-colouring.ensures c.code-left_code.ensures c.code-right_code.ensures (passed c.if-not-valid_codes.false c.valid_codes.ensures) _ _ c.colour-lcolor.ensures c.colour-rcolor.ensures c.kind.ensures c.is_carried.ensures c.if-is_carried.true

pub returns-else-is_carried : goal.returns-else-is_carried
returns-else-is_carried c = let a = c.args in
    build_not a.rules a.fg a.bg _ _ _ _ _ c.code-blending.ensures c.code-colouring.ensures c.code-left_code.ensures c.code-right_code.ensures (passed c.if-not-valid_codes.false c.valid_codes.ensures) _ _ c.colour-lcolor.ensures c.colour-rcolor.ensures c.kind.ensures c.is_carried.ensures c.if-is_carried.false
