-- `merge_step` meets its contract: of the next two one is passed over or taken. Assumes nothing.
use Rattle.weighed.proofs.Stepping.{passed_record, passed_own, took_own, took_record, later_some, later_none}
use Rattle.weighed.proofs.merge_step.Goals as goal
use Rattle.weighed.proofs.merge_step.Goals.{in-Some+else-not-is_inside+else-not-t-u, in_default}

pub returns-then-place-is_inside : goal.returns-then-place-is_inside
returns-then-place-is_inside c =
    passed_record _ _ _ _ _ c.requires _ c.point_at-t.ensures _ c.is_inside.ensures _ c.next_place.ensures _ _ c.if-place-is_inside.true

pub returns-then-not-is_inside : goal.returns-then-not-is_inside
returns-then-not-is_inside c =
    passed_own _ _ _ _ _ c.requires _ c.point_at-t.ensures _ c.is_inside.ensures c.if-place-is_inside.false _ c.in-Some.is _ c.is_inside-in-Some.ensures _ c.next_own.ensures _ _ c.if-not-is_inside.true

pub returns-then-not-t-u : goal.returns-then-not-t-u
returns-then-not-t-u c =
    took_own _ _ _ _ _ c.requires _ c.point_at-t.ensures _ c.is_inside.ensures c.if-place-is_inside.false _ c.in-Some.is _ c.is_inside-in-Some.ensures _ c.next_own-then-not-t-u.ensures c.if-not-is_inside.false c.if-not-t-u.true _ _

pub returns : goal.returns
returns c =
    let r = c.requires in
    let t = c.point_at-t.ensures in
    elim c.match-next.branch [
      | in-Some+else-not-is_inside+else-not-t-u w ↦
          rw (w.next-is, ← w.in-Some.is)
          (took_record _ _ _ _ _ r _ t _ c.is_inside.ensures _ c.next_place-2.ensures c.if-place-is_inside.false
          (later_some _ _ _ _ _ r _ t _ w.in-Some.is _ w.is_inside-in-Some.ensures w.if-not-is_inside.false w.if-not-t-u.false) _ _)
      | in_default w ↦
          rw w.next-is
          (took_record _ _ _ _ _ r _ t _ c.is_inside.ensures _ c.next_place-2.ensures c.if-place-is_inside.false
          (later_none _ _ _ _ _ r _ t w.in_default.not-Some) _ _)
    ]
