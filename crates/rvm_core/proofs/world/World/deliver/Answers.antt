use Rattle.std.proofs.Common.{◌≤◌, vec_capacity, ◌≡◌, ◌<◌, ◌∙◌, ◌++◌, length, sym, ap, subst, arith}
use Rattle.rvm_guest.specs.TheGuest.{board}
use Rattle.rvm_message.specs.Frames.{frame_heard}
use Rattle.rvm_message.specs.Replies.{reply_of}
use Rattle.rvm_protocol.specs.Commands.{Came}
use Rattle.rvm_protocol.specs.Replies.{Refused, NoFrame}
use Rattle.rvm_protocol.specs.World.{Deliver, reply_to, step}
use Rattle.rvm_host.specs.Bounds.{frame_bound}
use Rattle.rvm_host.specs.Hosts.{PlainHost}
use Rattle.rvm_core.specs.Worlds.{IsHeeded, PlainWorld, IsWorld, kept_of, posted, world_of}
use Rattle.rvm_core.proofs.Happenings.{deliver_becomes, deliver_heeded, deliver_refused, is_host, is_kept, on_err, unchanged, with_host}
use Rattle.rvm_core.proofs.Keeping.{can_be_kept, can_be_read}
use Rattle.rvm_core.proofs.world.World.deliver.Goals as goal

pub returns-then-place-len-clause-reply : goal.returns-then-place-len-clause-reply
returns-then-place-len-clause-reply g c =
    let f = c.self.inside in
    let w : PlainWorld = record { version = f.version; hosts = f.hosts.items; sent = f.sent.items; current = f.current } in
    let past = subst (λ z. z ≤ c.args.place) (c.len.ensures ∙ f.sent.ok.0) c.if-place-len.true in
    ap reply_of c.refused.ensures.reply
    ∙ subst (λ z. Refused NoFrame ≡ reply_to board (world_of z) (Deliver c.args.place)) c.self.view_is
    (deliver_refused w c.args.place past).replied

pub returns-then-place-len-clause-next : goal.returns-then-place-len-clause-next
returns-then-place-len-clause-next g c =
    let f = c.self.inside in
    let w : PlainWorld = record { version = f.version; hosts = f.hosts.items; sent = f.sent.items; current = f.current } in
    let past = subst (λ z. z ≤ c.args.place) (c.len.ensures ∙ f.sent.ok.0) c.if-place-len.true in
    subst (λ z. world_of z ≡ step board (world_of z) (Deliver c.args.place)) c.self.view_is
    (deliver_refused w c.args.place past).turned

pub read-requires : goal.read-requires
read-requires g c =
    let f = c.self.inside in
    let w : PlainWorld = record { version = f.version; hosts = f.hosts.items; sent = f.sent.items; current = f.current } in
    let lt = subst (λ z. c.args.place < z) (c.len.ensures ∙ f.sent.ok.0) c.if-place-len.false in
    let kept = c.index-sent.result.now in
    can_be_read f.version (kept_of f.version kept) kept.bytes
    (is_kept w c.args.place kept c.self.invariant lt c.index-sent.ensures).spelled

pub index-requires : goal.index-requires
index-requires g c =
    let f = c.self.inside in
    let w : PlainWorld = record { version = f.version; hosts = f.hosts.items; sent = f.sent.items; current = f.current } in
    let lt = subst (λ z. c.args.place < z) (c.len.ensures ∙ f.sent.ok.0) c.if-place-len.false in
    let is = is_kept w c.args.place c.index-sent.result.now c.self.invariant lt c.index-sent.ensures in
    let there = subst (λ z. z < length f.hosts.items) (sym c.receiver-to.ensures) is.receiver in
    subst (λ z. c.receiver-to.result < z) (sym f.hosts.ok.0) there

pub index_mut-host-requires : goal.index_mut-host-requires
index_mut-host-requires g c =
    let f = c.self.inside in
    let w : PlainWorld = record { version = f.version; hosts = f.hosts.items; sent = f.sent.items; current = f.current } in
    let lt = subst (λ z. c.args.place < z) (c.len.ensures ∙ f.sent.ok.0) c.if-place-len.false in
    let is = is_kept w c.args.place c.index-sent.result.now c.self.invariant lt c.index-sent.ensures in
    let there = subst (λ z. z < length f.hosts.items) (sym c.receiver-to.ensures) is.receiver in
    subst (λ z. c.receiver-to.result < z) (sym f.hosts.ok.0) there

pub invariant_of-self-in_err-reply : goal.invariant_of-self-in_err-reply
invariant_of-self-in_err-reply g c =
    let f = c.self.inside in
    let w : PlainWorld = record { version = f.version; hosts = f.hosts.items; sent = f.sent.items; current = f.current } in
    let back = unchanged w c.receiver-to.result c.index_mut-host.result.now c.came.new.self
    c.make_room.new.sent.items c.in_err-reply.ensures.err c.index_mut-host.ensures.value c.make_room.ensures.sent in
    subst IsWorld (sym back) c.self.invariant

pub returns-in_err-reply-clause-err : goal.returns-in_err-reply-clause-err
returns-in_err-reply-clause-err g c =
    let f = c.self.inside in
    let w : PlainWorld = record { version = f.version; hosts = f.hosts.items; sent = f.sent.items; current = f.current } in
    let back = unchanged w c.receiver-to.result c.index_mut-host.result.now c.came.new.self
    c.make_room.new.sent.items c.in_err-reply.ensures.err c.index_mut-host.ensures.value c.make_room.ensures.sent in
    on_err c.from_residual-in_err-reply.result _ (back ∙ c.self.view_is)

pub post-frame-requires-clause-fits : goal.post-frame-requires-clause-fits
post-frame-requires-clause-fits g c =
    let f = c.self.inside in
    let w : PlainWorld = record { version = f.version; hosts = f.hosts.items; sent = f.sent.items; current = f.current } in
    let e = Came c.sender-from.result (frame_heard c.in_ok-frame.frame) in
    let old = c.index_mut-host.result.now in
    let to = c.receiver-to.result in
    let lt = subst (λ z. c.args.place < z) (c.len.ensures ∙ f.sent.ok.0) c.if-place-len.false in
    let is = is_kept w c.args.place c.index-sent.result.now c.self.invariant lt c.index-sent.ensures in
    let there = subst (λ z. z < length f.hosts.items) (sym c.receiver-to.ensures) is.receiver in
    let one = is_host f.hosts.items to old there c.index_mut-host.ensures.value in
    let two = is_host f.hosts.items to c.index.result.now there c.index.ensures in
    let same = ap (λ (h : PlainHost). frame_bound h e) (two ∙ sym one) in
    let bound = c.came_bound-bound.ensures c.sender-from.result ∙ same in
    can_be_kept old f.version (frame_bound old e) (vec_capacity c.in_ok-bytes.bytes) _ c.in_ok-reply.made
    (ap (λ (h : PlainHost). h.version) one ∙ (c.self.invariant.placed to there).writes)
    c.in_ok-reply.ensures.sent
    (subst (λ z. z ≤ vec_capacity c.in_ok-bytes.bytes) bound c.in_ok-bytes.ensures.bytes)
    (λ some. let place = c.in_ok-bytes.ensures.place (subst (λ z. 0 < z) (sym bound) some) in omega (arith, place))

pub invariant_of-self-2 : goal.invariant_of-self-2
invariant_of-self-2 g c =
    let f = c.self.inside in
    let w : PlainWorld = record { version = f.version; hosts = f.hosts.items; sent = f.sent.items; current = f.current } in
    let frame = frame_heard c.in_ok-frame.frame in
    let from = c.sender-from.result in
    let to = c.receiver-to.result in
    let r = c.in_ok-reply in
    let old = c.index_mut-host.result.now in
    let kept = c.index-sent.result.now in
    let lt = subst (λ z. c.args.place < z) (c.len.ensures ∙ f.sent.ok.0) c.if-place-len.false in
    let is = is_kept w c.args.place kept c.self.invariant lt c.index-sent.ensures in
    let there = subst (λ z. z < length f.hosts.items) (sym c.receiver-to.ensures) is.receiver in
    let all = c.post-frame.ensures.sent ∙ ap (λ z. z ++ posted f.version r.made) c.make_room.ensures.sent in
    (deliver_becomes w c.post-frame.new.sent.items c.args.place kept from to (frame_bound old (Came from frame))
    c.current_after-self-inside.result frame (r.reply, r.made) old c.came.new.self c.self.invariant lt c.index-sent.ensures c.sender-from.ensures
    c.receiver-to.ensures c.in_ok-frame.ensures there c.index_mut-host.ensures.value r.ensures.steps r.ensures.sent
    all (c.current_after-self-inside.ensures frame)).stays

pub returns-clause-reply : goal.returns-clause-reply
returns-clause-reply g c =
    let f = c.self.inside in
    let w : PlainWorld = record { version = f.version; hosts = f.hosts.items; sent = f.sent.items; current = f.current } in
    let frame = frame_heard c.in_ok-frame.frame in
    let from = c.sender-from.result in
    let to = c.receiver-to.result in
    let r = c.in_ok-reply in
    let old = c.index_mut-host.result.now in
    let kept = c.index-sent.result.now in
    let lt = subst (λ z. c.args.place < z) (c.len.ensures ∙ f.sent.ok.0) c.if-place-len.false in
    let is = is_kept w c.args.place kept c.self.invariant lt c.index-sent.ensures in
    let there = subst (λ z. z < length f.hosts.items) (sym c.receiver-to.ensures) is.receiver in
    let all = c.post-frame.ensures.sent ∙ ap (λ z. z ++ posted f.version r.made) c.make_room.ensures.sent in
    subst (λ z. reply_of r.reply ≡ reply_to board (world_of z) (Deliver c.args.place)) c.self.view_is
    (deliver_becomes w c.post-frame.new.sent.items c.args.place kept from to (frame_bound old (Came from frame))
    c.current_after-self-inside.result frame (r.reply, r.made) old c.came.new.self c.self.invariant lt c.index-sent.ensures c.sender-from.ensures
    c.receiver-to.ensures c.in_ok-frame.ensures there c.index_mut-host.ensures.value r.ensures.steps r.ensures.sent
    all (c.current_after-self-inside.ensures frame)).replied

pub returns-clause-next : goal.returns-clause-next
returns-clause-next g c =
    let f = c.self.inside in
    let w : PlainWorld = record { version = f.version; hosts = f.hosts.items; sent = f.sent.items; current = f.current } in
    let frame = frame_heard c.in_ok-frame.frame in
    let from = c.sender-from.result in
    let to = c.receiver-to.result in
    let r = c.in_ok-reply in
    let old = c.index_mut-host.result.now in
    let kept = c.index-sent.result.now in
    let lt = subst (λ z. c.args.place < z) (c.len.ensures ∙ f.sent.ok.0) c.if-place-len.false in
    let is = is_kept w c.args.place kept c.self.invariant lt c.index-sent.ensures in
    let there = subst (λ z. z < length f.hosts.items) (sym c.receiver-to.ensures) is.receiver in
    let all = c.post-frame.ensures.sent ∙ ap (λ z. z ++ posted f.version r.made) c.make_room.ensures.sent in
    let new = with_host w to c.came.new.self c.post-frame.new.sent.items c.current_after-self-inside.result in
    subst (λ z. world_of new ≡ step board (world_of z) (Deliver c.args.place)) c.self.view_is
    (deliver_becomes w c.post-frame.new.sent.items c.args.place kept from to (frame_bound old (Came from frame))
    c.current_after-self-inside.result frame (r.reply, r.made) old c.came.new.self c.self.invariant lt c.index-sent.ensures c.sender-from.ensures
    c.receiver-to.ensures c.in_ok-frame.ensures there c.index_mut-host.ensures.value r.ensures.steps r.ensures.sent
    all (c.current_after-self-inside.ensures frame)).turned

pub returns-in_err-frame-clause-refused : goal.returns-in_err-frame-clause-refused
returns-in_err-frame-clause-refused g c =
    let f = c.self.inside in
    let w : PlainWorld = record { version = f.version; hosts = f.hosts.items; sent = f.sent.items; current = f.current } in
    let lt = subst (λ z. c.args.place < z) (c.len.ensures ∙ f.sent.ok.0) c.if-place-len.false in
    on_err c.from_residual.result (IsHeeded (world_of c.args.self.now) (Deliver c.args.place))
    (subst (λ z. IsHeeded (world_of z) (Deliver c.args.place)) c.self.view_is (deliver_heeded w c.args.place lt))

pub returns-in_err-bytes-clause-refused : goal.returns-in_err-bytes-clause-refused
returns-in_err-bytes-clause-refused g c =
    let f = c.self.inside in
    let w : PlainWorld = record { version = f.version; hosts = f.hosts.items; sent = f.sent.items; current = f.current } in
    let lt = subst (λ z. c.args.place < z) (c.len.ensures ∙ f.sent.ok.0) c.if-place-len.false in
    on_err c.from_residual-in_err-bytes.result (IsHeeded (world_of c.args.self.now) (Deliver c.args.place))
    (subst (λ z. IsHeeded (world_of z) (Deliver c.args.place)) c.self.view_is (deliver_heeded w c.args.place lt))

pub returns-in_err-reply-clause-refused : goal.returns-in_err-reply-clause-refused
returns-in_err-reply-clause-refused g c =
    let f = c.self.inside in
    let w : PlainWorld = record { version = f.version; hosts = f.hosts.items; sent = f.sent.items; current = f.current } in
    let lt = subst (λ z. c.args.place < z) (c.len.ensures ∙ f.sent.ok.0) c.if-place-len.false in
    on_err c.from_residual-in_err-reply.result (IsHeeded (world_of c.args.self.now) (Deliver c.args.place))
    (subst (λ z. IsHeeded (world_of z) (Deliver c.args.place)) c.self.view_is (deliver_heeded w c.args.place lt))
