use Rattle.std.proofs.Common.{◌∙◌, ap, sym}
use Rattle.rvm_message.specs.Replies.{reply_of}
use Rattle.rvm_precopy.specs.Policies.{policy_of}
use Rattle.rvm_core.specs.Driving.{WasLeft}
use Rattle.rvm_core.specs.Worlds.{kept_of, world_of}
use Rattle.rvm_core.proofs.Drives.{on_err}
use Rattle.rvm_core.proofs.Endings.{declined, left_answering, left_at_once, left_offering, left_sending, moved, refused}
use Rattle.rvm_core.proofs.Opening.{begins_or_is_refused}
use Rattle.rvm_core.proofs.Runs.{map_length}
use Rattle.rvm_core.proofs.drive.drive_move.Goals as goal

pub move_begun-requires : goal.move_begun-requires
move_begun-requires g c =
    begins_or_is_refused (world_of c.args.world.now) c.args.from c.args.to (policy_of c.args.policy)
    (reply_of c.in_ok-begin.begin.reply) c.in_ok-begin.ensures.reply

pub returns-in-Err-clause-ends : goal.returns-in-Err-clause-ends
returns-in-Err-clause-ends g c =
    let old = c.args.world.now in
    refused (world_of old) c.args.from c.args.to c.sent-first.result (policy_of c.args.policy) c.reached.ensures
    (c.sent-first.ensures.count ∙ sym (map_length (kept_of old.version) old.sent)) (world_of c.apply.new.self)
    (reply_of c.in_ok-begin.begin.reply) c.move_begun.result c.in-Err.why
    (record {
      reply = c.in_ok-begin.ensures.reply;
      begun = c.move_begun.ensures.begun;
      refused = c.move_begun.ensures.refused;
    }) c.in-Err.is c.in_ok-begin.ensures.next

pub returns-in-Some-clause-ends : goal.returns-in-Some-clause-ends
returns-in-Some-clause-ends g c =
    let old = c.args.world.now in
    declined (world_of old) c.args.from c.args.to c.sent-first.result (policy_of c.args.policy) c.reached.ensures
    (c.sent-first.ensures.count ∙ sym (map_length (kept_of old.version) old.sent)) (world_of c.apply.new.self)
    (world_of c.apply-2.new.self) (world_of c.apply-3.new.self) (reply_of c.in_ok-begin.begin.reply)
    (reply_of c.in_ok-answer.answer.reply) c.move_begun.result c.in-Ok.move_number c.in-Some.limit
    (record {
      reply = c.in_ok-begin.ensures.reply;
      begun = c.move_begun.ensures.begun;
      refused = c.move_begun.ensures.refused;
    }) c.in-Ok.is c.in_ok-answer.ensures.reply (sym c.limit_told.ensures ∙ c.in-Some.is) c.in_ok-begin.ensures.next
    c.in_ok-answer.ensures.next c.in_ok-apply.ensures.next

pub returns-clause-ends : goal.returns-clause-ends
returns-clause-ends g c =
    let old = c.args.world.now in
    moved (world_of old) c.args.from c.args.to c.sent-first.result (policy_of c.args.policy) c.reached.ensures
    (c.sent-first.ensures.count ∙ sym (map_length (kept_of old.version) old.sent)) (world_of c.apply.new.self)
    (world_of c.apply-2.new.self) (world_of c.apply-3.new.self) (world_of c.send_guest.new.world)
    (reply_of c.in_ok-begin.begin.reply) (reply_of c.in_ok-answer.answer.reply) c.move_begun.result
    c.in-Ok.move_number c.in_ok-events.events
    (record {
      reply = c.in_ok-begin.ensures.reply;
      begun = c.move_begun.ensures.begun;
      refused = c.move_begun.ensures.refused;
    }) c.in-Ok.is c.in_ok-answer.ensures.reply (sym c.limit_told.ensures ∙ c.in_default.is) c.in_ok-begin.ensures.next
    c.in_ok-answer.ensures.next c.in_ok-apply.ensures.next c.in_ok-events.ensures.sent

pub returns-in_err-begin-clause-err : goal.returns-in_err-begin-clause-err
returns-in_err-begin-clause-err g c =
    let old = c.args.world.now in
    let w0 = world_of old in
    let place = c.sent-first.ensures.count ∙ sym (map_length (kept_of old.version) old.sent) in
    let policy = policy_of c.args.policy in
    let new = world_of c.apply.new.self in
    on_err c.from_residual.result (WasLeft w0 new c.args.from c.args.to policy)
    (left_at_once w0 c.args.from c.args.to c.sent-first.result policy c.reached.ensures place new
    (ap world_of c.in_err-begin.ensures.err))

pub returns-in_err-answer-clause-err : goal.returns-in_err-answer-clause-err
returns-in_err-answer-clause-err g c =
    let old = c.args.world.now in
    let w0 = world_of old in
    let place = c.sent-first.ensures.count ∙ sym (map_length (kept_of old.version) old.sent) in
    let policy = policy_of c.args.policy in
    let new = world_of c.apply-2.new.self in
    on_err c.from_residual-in_err-answer.result (WasLeft w0 new c.args.from c.args.to policy)
    (left_offering w0 c.args.from c.args.to c.sent-first.result policy c.reached.ensures place
    (world_of c.apply.new.self) new (reply_of c.in_ok-begin.begin.reply) c.move_begun.result c.in-Ok.move_number
    (record {
      reply = c.in_ok-begin.ensures.reply;
      begun = c.move_begun.ensures.begun;
      refused = c.move_begun.ensures.refused;
    }) c.in-Ok.is c.in_ok-begin.ensures.next (ap world_of c.in_err-answer.ensures.err))

pub returns-in_err-apply-clause-err : goal.returns-in_err-apply-clause-err
returns-in_err-apply-clause-err g c =
    let old = c.args.world.now in
    let w0 = world_of old in
    let place = c.sent-first.ensures.count ∙ sym (map_length (kept_of old.version) old.sent) in
    let policy = policy_of c.args.policy in
    let new = world_of c.apply-3.new.self in
    on_err c.from_residual-in_err-apply.result (WasLeft w0 new c.args.from c.args.to policy)
    (left_answering w0 c.args.from c.args.to c.sent-first.result policy c.reached.ensures place
    (world_of c.apply.new.self) (world_of c.apply-2.new.self) new (reply_of c.in_ok-begin.begin.reply)
    c.move_begun.result c.in-Ok.move_number
    (record {
      reply = c.in_ok-begin.ensures.reply;
      begun = c.move_begun.ensures.begun;
      refused = c.move_begun.ensures.refused;
    }) c.in-Ok.is c.in_ok-begin.ensures.next c.in_ok-answer.ensures.next (ap world_of c.in_err-apply.ensures.err))

pub returns-in_err-events-clause-err : goal.returns-in_err-events-clause-err
returns-in_err-events-clause-err g c =
    let old = c.args.world.now in
    let w0 = world_of old in
    let place = c.sent-first.ensures.count ∙ sym (map_length (kept_of old.version) old.sent) in
    let policy = policy_of c.args.policy in
    let new = world_of c.send_guest.new.world in
    on_err c.from_residual-in_err-events.result (WasLeft w0 new c.args.from c.args.to policy)
    (left_sending w0 c.args.from c.args.to c.sent-first.result policy c.reached.ensures place
    (world_of c.apply.new.self) (world_of c.apply-2.new.self) (world_of c.apply-3.new.self) new
    (reply_of c.in_ok-begin.begin.reply) (reply_of c.in_ok-answer.answer.reply) c.move_begun.result
    c.in-Ok.move_number
    (record {
      reply = c.in_ok-begin.ensures.reply;
      begun = c.move_begun.ensures.begun;
      refused = c.move_begun.ensures.refused;
    }) c.in-Ok.is c.in_ok-answer.ensures.reply (sym c.limit_told.ensures ∙ c.in_default.is) c.in_ok-begin.ensures.next
    c.in_ok-answer.ensures.next c.in_ok-apply.ensures.next c.in_err-events.ensures.left)
