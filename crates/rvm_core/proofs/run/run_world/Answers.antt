use Rattle.std.proofs.Common.{◌≡◌, ◌∙◌, [], ◌∷◌, ◌++◌, ap, subst, sym}
use Rattle.rvm_guest.specs.TheGuest.{board}
use Rattle.rvm_core.specs.Worlds.{meant, said, world_of}
use Rattle.rvm_core.proofs.Places.{Placing, all_placed, none_placed, one_placed}
use Rattle.rvm_core.proofs.Runs.{Running, all_run, all_said, begins, err_part, one_more}
use Rattle.rvm_core.proofs.run.run_world.Goals as goal

pub loop-event-init : goal.loop-event-init
loop-event-init g c =
    let w = world_of c.args.world.now in
    let events = c.args.events.now in
    let none = sym c.new-replies.ensures.items in
    record {
      runs = subst (λ z. Running board meant said w w events 0 z) none (begins board meant said w events);
      places = subst (λ z. Placing w w events 0 z) none (none_placed w events);
    }

pub returns-in_err-reserve-clause-err : goal.returns-in_err-reserve-clause-err
returns-in_err-reserve-clause-err g c =
    err_part c.from_residual.result meant (world_of c.args.world.now) (world_of c.loop-event.world) c.args.events.now
    c.loop-event.event-index c.loop-event-test.true c.loop-event.invariant.runs.made

pub returns-in_err-reply-clause-err : goal.returns-in_err-reply-clause-err
returns-in_err-reply-clause-err g c =
    err_part c.from_residual-in_err-reply.result meant (world_of c.args.world.now) (world_of c.apply.new.self)
    c.args.events.now c.loop-event.event-index c.loop-event-test.true
    (ap world_of c.in_err-reply.ensures.err ∙ c.loop-event.invariant.runs.made)

pub loop-event-preserved : goal.loop-event-preserved
loop-event-preserved g c =
    let more : c.push_reserved.new.self.items ≡ c.loop-event.replies.items ++ c.in_ok-reply.reply ∷ [] =
    c.push_reserved.ensures.items ∙ ap (λ z. z ++ c.in_ok-reply.reply ∷ []) c.in_ok-reserve.ensures.items
    in
    record {
      runs = one_more board meant said (world_of c.args.world.now) (world_of c.loop-event.world)
          (world_of c.apply.new.self) c.args.events.now c.loop-event.event-index c.loop-event.replies.items
          c.push_reserved.new.self.items c.event-item.result c.in_ok-reply.reply c.loop-event.invariant.runs
          c.loop-event-test.true c.event-item.is c.in_ok-reply.ensures.reply c.in_ok-reply.ensures.next more;
      places = one_placed (world_of c.args.world.now) c.loop-event.world c.apply.new.self c.args.events.now
          c.loop-event.event-index c.loop-event.replies.items c.push_reserved.new.self.items c.event-item.result
          c.in_ok-reply.reply c.loop-event.invariant.places c.loop-event-test.true c.event-item.is
          c.in_ok-reply.ensures.place c.in_ok-reply.ensures.next more;
    }

pub returns-clause-replies : goal.returns-clause-replies
returns-clause-replies g c =
    all_said board meant said (world_of c.args.world.now) (world_of c.loop-event.world) c.args.events.now
    c.loop-event.event-index c.loop-event.replies.items c.loop-event.invariant.runs c.loop-event-test.false

pub returns-clause-world : goal.returns-clause-world
returns-clause-world g c =
    all_run board meant said (world_of c.args.world.now) (world_of c.loop-event.world) c.args.events.now
    c.loop-event.event-index c.loop-event.replies.items c.loop-event.invariant.runs c.loop-event-test.false

pub returns-clause-places : goal.returns-clause-places
returns-clause-places g c =
    all_placed (world_of c.args.world.now) (world_of c.loop-event.world) c.args.events.now c.loop-event.event-index
    c.loop-event.replies.items c.loop-event.invariant.places c.loop-event-test.false
