use Rattle.std.proofs.Common.{arith, rules}
use Rattle.runs.specs.declared.calls.Call.TheVariants as call
use Rattle.runs.proofs.Turns.{next_within, going_on, gone}
use Rattle.runs.proofs.run.run_all.Goals as goal

pub overflow_add-at : goal.overflow_add-at
overflow_add-at g c = omega (arith, next_within c.loop-j.invariant (call.Bar 0) c.loop-j-test.true, c.room-n.ensures)

pub offset_bounds-room-at : goal.offset_bounds-room-at
offset_bounds-room-at g c = omega (arith, next_within c.loop-j.invariant (call.Bar 0) c.loop-j-test.true)

pub slice_bounds-one-end : goal.slice_bounds-one-end
slice_bounds-one-end g c = omega (arith, next_within c.loop-j.invariant (call.Bar 0) c.loop-j-test.true, c.room-n.ensures)

pub loop-j-preserved : goal.loop-j-preserved
loop-j-preserved g c =
    going_on _ _ _ c.args.calls.now c.args.room.now c.loop-j.room c.loop-j.answers c.loop-j.at c.loop-j.j _
    c.loop-j.invariant c.loop-j-test.true (omega arith) (omega arith) (omega arith) (call.Bar 0) c.room-n.result c.room-n.ensures
    c.one-answer.result c.one-answer.new.out (search rules) _ c.one-answer.ensures

pub returns-clause-continued : goal.returns-clause-continued
returns-clause-continued g c = (gone c.loop-j.invariant c.loop-j-test.false (omega arith)).1
