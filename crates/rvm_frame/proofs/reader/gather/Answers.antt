use Rattle.std.proofs.Common.{Some, Ok}
use Rattle.rvm_frame.proofs.Gather.{rest_is, turn_decides, turn_kept, turn_open, turn_refused, turn_within}
use Rattle.rvm_frame.proofs.reader.gather.Goals as goal

pub loop-used-preserved : goal.loop-used-preserved
loop-used-preserved c =
    let i = c.loop-used.invariant in
    let old = c.args.bytes.now in
    let piece = c.args.piece.now in
    let used = c.loop-used.used in
    let n = c.in-Ok-default-None.count in
    let rest = rest_is used piece in
    let s = rw c.in-Ok-default-None.field-0-1-is at c.in-Ok-default-None.ensures.step in
    let next = rw c.in-Ok-default-None.field-0-1-is at c.in-Ok-default-None.ensures.next in
    record {
      so_far = turn_kept old c.loop-used.bytes c.step.new.self piece _ used n i.so_far rest next;
      within = (turn_within c.loop-used.bytes piece _ used n rest i.within s).1;
      undecided = turn_open old c.loop-used.bytes piece _ used n i.so_far rest i.undecided s;
    }

pub returns-in-Ok-default-Some-clause-decides : goal.returns-in-Ok-default-Some-clause-decides
returns-in-Ok-default-Some-clause-decides c =
    let i = c.loop-used.invariant in
    let piece = c.args.piece.now in
    let used = c.loop-used.used in
    let s = rw c.in-Ok-default-Some.field-0-1-is at c.in-Ok-default-Some.ensures.step in
    turn_decides c.args.bytes.now c.loop-used.bytes piece _ used c.in-Ok-default-Some.count (Ok (Some c.in-Ok-default-Some.received)) i.so_far (rest_is used piece) i.within i.undecided s

pub returns-in-Err-clause-refused : goal.returns-in-Err-clause-refused
returns-in-Err-clause-refused c =
    let i = c.loop-used.invariant in
    let piece = c.args.piece.now in
    let used = c.loop-used.used in
    turn_refused c.args.bytes.now c.loop-used.bytes piece _ used c.in-Err.fault i.so_far (rest_is used piece) i.within i.undecided c.in-Err.ensures.step
