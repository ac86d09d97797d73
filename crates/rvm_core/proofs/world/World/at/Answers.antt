use Rattle.std.proofs.Common.{◌≡◌, true, ◌<◌, ◌≤◌, ◌++◌, ◌∙◌, ap, arith, subst, sym, vec_capacity}
use Rattle.rvm_guest.specs.TheGuest.{board}
use Rattle.rvm_message.specs.Events.{command_of}
use Rattle.rvm_message.specs.Replies.{reply_of}
use Rattle.rvm_protocol.specs.Commands.{Do}
use Rattle.rvm_protocol.specs.Replies.{BadHost, Refused}
use Rattle.rvm_protocol.specs.World.{At, reply_to, step}
use Rattle.rvm_host.specs.Bounds.{frame_bound}
use Rattle.rvm_host.specs.Hosts.{PlainHost}
use Rattle.rvm_core.specs.Worlds.{IsHeeded, IsWorld, PlainWorld, asks_memory, posted, world_of}
use Rattle.rvm_core.proofs.Happenings.{at_becomes, at_heeded, at_refused, bound_asks, bound_heeds, is_host, on_err, unchanged, with_host}
use Rattle.rvm_core.proofs.Keeping.{can_be_kept}
use Rattle.rvm_core.proofs.world.World.at.Goals as goal

pub returns-then-host-len-clause-reply : goal.returns-then-host-len-clause-reply
returns-then-host-len-clause-reply g c =
    let f = c.self.inside in
    let w : PlainWorld = record { version = f.version; hosts = f.hosts.items; sent = f.sent.items; current = f.current } in
    let ev = At c.args.host (command_of c.args.command.now) in
    let past = subst (λ z. z ≤ c.args.host) (c.len.ensures ∙ f.hosts.ok.0) c.if-host-len.true in
    ap reply_of c.refused.ensures.reply
    ∙ subst (λ z. Refused BadHost ≡ reply_to board (world_of z) ev) c.self.view_is
    (at_refused w c.args.host (command_of c.args.command.now) past).replied

pub returns-then-host-len-clause-next : goal.returns-then-host-len-clause-next
returns-then-host-len-clause-next g c =
    let f = c.self.inside in
    let w : PlainWorld = record { version = f.version; hosts = f.hosts.items; sent = f.sent.items; current = f.current } in
    let past = subst (λ z. z ≤ c.args.host) (c.len.ensures ∙ f.hosts.ok.0) c.if-host-len.true in
    subst (λ z. world_of z ≡ step board (world_of z) (At c.args.host (command_of c.args.command.now))) c.self.view_is
    (at_refused w c.args.host (command_of c.args.command.now) past).turned

pub invariant_of-self-in_err-reply : goal.invariant_of-self-in_err-reply
invariant_of-self-in_err-reply g c =
    let f = c.self.inside in
    let w : PlainWorld = record { version = f.version; hosts = f.hosts.items; sent = f.sent.items; current = f.current } in
    let back = unchanged w c.args.host c.index_mut-host.result.now c.obey.new.self c.make_room.new.sent.items
    c.in_err-reply.ensures.err c.index_mut-host.ensures.value c.make_room.ensures.sent in
    subst IsWorld (sym back) c.self.invariant

pub returns-in_err-reply-clause-err : goal.returns-in_err-reply-clause-err
returns-in_err-reply-clause-err g c =
    let f = c.self.inside in
    let w : PlainWorld = record { version = f.version; hosts = f.hosts.items; sent = f.sent.items; current = f.current } in
    let back = unchanged w c.args.host c.index_mut-host.result.now c.obey.new.self c.make_room.new.sent.items
    c.in_err-reply.ensures.err c.index_mut-host.ensures.value c.make_room.ensures.sent in
    on_err c.from_residual-in_err-reply.result _ (back ∙ c.self.view_is)

pub post-frame-requires-clause-fits : goal.post-frame-requires-clause-fits
post-frame-requires-clause-fits g c =
    let f = c.self.inside in
    let e = Do (command_of c.args.command.now) in
    let old = c.index_mut-host.result.now in
    let room = vec_capacity c.in_ok-bytes.bytes in
    let lt = subst (λ z. c.args.host < z) (c.len.ensures ∙ f.hosts.ok.0) c.if-host-len.false in
    let one = is_host f.hosts.items c.args.host old lt c.index_mut-host.ensures.value in
    let two = is_host f.hosts.items c.args.host c.index.result.now lt c.index.ensures in
    let bound = c.command_bound-bound.ensures ∙ ap (λ (h : PlainHost). frame_bound h e) (two ∙ sym one) in
    can_be_kept old f.version (frame_bound old e) room _ c.in_ok-reply.frame
    (ap (λ (h : PlainHost). h.version) one ∙ (c.self.invariant.placed c.args.host lt).writes)
    c.in_ok-reply.ensures.sent
    (subst (λ z. z ≤ room) bound c.in_ok-bytes.ensures.bytes)
    (λ some. let place = c.in_ok-bytes.ensures.place (subst (λ z. 0 < z) (sym bound) some) in omega (arith, place))

pub invariant_of-self-2 : goal.invariant_of-self-2
invariant_of-self-2 g c =
    let f = c.self.inside in
    let w : PlainWorld = record { version = f.version; hosts = f.hosts.items; sent = f.sent.items; current = f.current } in
    let k = command_of c.args.command.now in
    let r = c.in_ok-reply in
    let old = c.index_mut-host.result.now in
    let lt = subst (λ z. c.args.host < z) (c.len.ensures ∙ f.hosts.ok.0) c.if-host-len.false in
    let all = c.post-frame.ensures.sent ∙ ap (λ z. z ++ posted f.version r.frame) c.make_room.ensures.sent in
    (at_becomes w c.post-frame.new.sent.items c.args.host (frame_bound old (Do k)) k (r.reply, r.frame) old
    c.obey.new.self c.self.invariant lt c.index_mut-host.ensures.value r.ensures.steps r.ensures.sent all).stays

pub returns-clause-reply : goal.returns-clause-reply
returns-clause-reply g c =
    let f = c.self.inside in
    let w : PlainWorld = record { version = f.version; hosts = f.hosts.items; sent = f.sent.items; current = f.current } in
    let k = command_of c.args.command.now in
    let r = c.in_ok-reply in
    let old = c.index_mut-host.result.now in
    let lt = subst (λ z. c.args.host < z) (c.len.ensures ∙ f.hosts.ok.0) c.if-host-len.false in
    let all = c.post-frame.ensures.sent ∙ ap (λ z. z ++ posted f.version r.frame) c.make_room.ensures.sent in
    subst (λ z. reply_of r.reply ≡ reply_to board (world_of z) (At c.args.host k)) c.self.view_is
    (at_becomes w c.post-frame.new.sent.items c.args.host (frame_bound old (Do k)) k (r.reply, r.frame) old
    c.obey.new.self c.self.invariant lt c.index_mut-host.ensures.value r.ensures.steps r.ensures.sent all).replied

pub returns-clause-next : goal.returns-clause-next
returns-clause-next g c =
    let f = c.self.inside in
    let w : PlainWorld = record { version = f.version; hosts = f.hosts.items; sent = f.sent.items; current = f.current } in
    let k = command_of c.args.command.now in
    let r = c.in_ok-reply in
    let old = c.index_mut-host.result.now in
    let new = with_host w c.args.host c.obey.new.self c.post-frame.new.sent.items f.current in
    let lt = subst (λ z. c.args.host < z) (c.len.ensures ∙ f.hosts.ok.0) c.if-host-len.false in
    let all = c.post-frame.ensures.sent ∙ ap (λ z. z ++ posted f.version r.frame) c.make_room.ensures.sent in
    subst (λ z. world_of new ≡ step board (world_of z) (At c.args.host k)) c.self.view_is
    (at_becomes w c.post-frame.new.sent.items c.args.host (frame_bound old (Do k)) k (r.reply, r.frame) old
    c.obey.new.self c.self.invariant lt c.index_mut-host.ensures.value r.ensures.steps r.ensures.sent all).turned

pub returns-in_err-bytes-clause-refused : goal.returns-in_err-bytes-clause-refused
returns-in_err-bytes-clause-refused g c =
    let f = c.self.inside in
    let w : PlainWorld = record { version = f.version; hosts = f.hosts.items; sent = f.sent.items; current = f.current } in
    let k = command_of c.args.command.now in
    let old = c.index.result.now in
    let lt = subst (λ z. c.args.host < z) (c.len.ensures ∙ f.hosts.ok.0) c.if-host-len.false in
    let some = subst (λ z. 0 < z) c.command_bound-bound.ensures c.in_err-bytes.ensures.err in
    on_err c.from_residual.result (IsHeeded (world_of c.args.self.now) (At c.args.host k))
    (subst (λ z. IsHeeded (world_of z) (At c.args.host k)) c.self.view_is
    (at_heeded w c.args.host k old c.self.invariant lt c.index.ensures (bound_heeds old k some)))

pub returns-in_err-reply-clause-refused : goal.returns-in_err-reply-clause-refused
returns-in_err-reply-clause-refused g c =
    let f = c.self.inside in
    let w : PlainWorld = record { version = f.version; hosts = f.hosts.items; sent = f.sent.items; current = f.current } in
    let k = command_of c.args.command.now in
    let old = c.index_mut-host.result.now in
    let lt = subst (λ z. c.args.host < z) (c.len.ensures ∙ f.hosts.ok.0) c.if-host-len.false in
    on_err c.from_residual-in_err-reply.result (IsHeeded (world_of c.args.self.now) (At c.args.host k))
    (subst (λ z. IsHeeded (world_of z) (At c.args.host k)) c.self.view_is
    (at_heeded w c.args.host k old c.self.invariant lt c.index_mut-host.ensures.value c.in_err-reply.ensures.refused))

pub returns-in_err-bytes-clause-memory : goal.returns-in_err-bytes-clause-memory
returns-in_err-bytes-clause-memory g c =
    let k = command_of c.args.command.now in
    let some = subst (λ z. 0 < z) c.command_bound-bound.ensures c.in_err-bytes.ensures.err in
    on_err c.from_residual.result (asks_memory (At c.args.host k) ≡ true) (bound_asks c.index.result.now c.args.host k some)
