use Rattle.std.proofs.Common.{subst}
use Rattle.rvm_recorder.specs.Calls.{IsSliceCalled}
use Rattle.rvm_recorder.specs.Runs.{all_of}
use Rattle.rvm_recorder.specs.Seats.{seat_of}
use Rattle.rvm_recorder.proofs.Receipts.{slice_is_whole}
use Rattle.rvm_recorder.proofs.Slicing.{slice_made}
use Rattle.rvm_recorder.proofs.locked.Locked.call_slice.Goals as goal

pub returns-clause-called : goal.returns-clause-called
returns-clause-called g c =
    let a = c.args in
    let old = c.self.inside.recorded in
    let seat = seat_of c.seat.inside.id c.seat.inside.count in
    let room = c.in_ok-most.ensures in
    let made = c.record_receipts-steps in
    let rs = all_of made.new.receipts.items in
    let called : IsSliceCalled old seat a.turn a.harts a.n rs made.new.recorded =
    slice_made old c.room_for_slice.new.self made.new.recorded seat a.turn a.harts a.n c.in_ok-most.most rs room.most room.room
    made.ensures.steps made.ensures.receipts in
    subst (λ s. IsSliceCalled a.self.now s a.turn a.harts a.n rs made.new.recorded) c.seat.view_is
    (subst (λ r. IsSliceCalled r seat a.turn a.harts a.n rs made.new.recorded) c.self.view_is called)

pub returns-clause-whole : goal.returns-clause-whole
returns-clause-whole g c =
    let a = c.args in
    let old = c.self.inside.recorded in
    let seat = seat_of c.seat.inside.id c.seat.inside.count in
    let room = c.in_ok-most.ensures in
    let made = c.record_receipts-steps in
    let rs = all_of made.new.receipts.items in
    slice_is_whole old made.new.recorded seat g.L.Seating.capacity a.turn a.harts a.n rs c.self.invariant.4
    (slice_made old c.room_for_slice.new.self made.new.recorded seat a.turn a.harts a.n c.in_ok-most.most rs room.most room.room
    made.ensures.steps made.ensures.receipts)
