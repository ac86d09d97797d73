use Rattle.std.proofs.Common.{rules, [], Err, ap, subst, sym}
use Rattle.std.specs.Prelude.{IfSome}
use Rattle.rvm_frame.specs.Reader.{at_start}
use Rattle.rvm_cell.specs.Heard.{IsHeardUpTo, IsWholeStream}
use Rattle.rvm_cell.specs.declared.end.WorkEnd.TheVariants.{LinkFault}
use Rattle.rvm_cell.proofs.Heard.{ends_heard, hears_more, hears_up_to, receiver_end, waits_hears, whole_heard}
use Rattle.rvm_cell.proofs.receiver.hear.Goals as goal

pub hear_once-requires-clause-waits : goal.hear_once-requires-clause-waits
hear_once-requires-clause-waits g c =
    waits_hears c.args.hearing.now.from c.args.hearing.now.to (g.I.Link.remaining c.args.link.now) (g.I.Link.remaining c.loop-read.link) []
    c.loop-read.hearing.heard c.loop-read.stream.reader c.loop-read.invariant.heard

pub returns-in-Err-clause-heard : goal.returns-in-Err-clause-heard
returns-in-Err-clause-heard g c =
    let more : IfSome (g.I.Link.remaining c.loop-read.link) (λ bytes. IsHeardUpTo c.args.hearing.now.from c.args.hearing.now.to c.in-Err.end c.loop-read.stream.reader bytes
    c.loop-read.hearing.heard c.hear_once.new.hearing.heard) = search rules in
    hears_up_to c.args.hearing.now.from c.args.hearing.now.to c.in-Err.end (g.I.Link.remaining c.args.link.now) (g.I.Link.remaining c.loop-read.link) at_start c.loop-read.stream.reader
    [] c.loop-read.hearing.heard c.hear_once.new.hearing.heard c.loop-read.invariant.heard more

pub returns-in-Err-clause-end : goal.returns-in-Err-clause-end
returns-in-Err-clause-end g c =
    let first = g.I.Link.remaining c.args.link.now in
    let old = c.loop-read.hearing.heard in
    let new = c.hear_once.new.hearing.heard in
    receiver_end c.args.hearing.now.from c.args.hearing.now.to c.in-Err.end c.hear_once.new.hearing.last first new c.in-Err.ensures.end (λ is.
    (let all = c.in-Err.ensures.ended (ap Err is) in
    let whole = whole_heard c.args.hearing.now.from c.args.hearing.now.to first (g.I.Link.remaining c.loop-read.link) old c.loop-read.stream.reader
    c.loop-read.invariant.heard all.0 all.2 in
    subst (λ h. IfSome first (λ bytes. IsWholeStream c.args.hearing.now.from c.args.hearing.now.to bytes h)) (ap (λ h. h.heard) (sym all.1)) whole))

pub returns-then-idle-ge-IDLE_READS-clause-heard : goal.returns-then-idle-ge-IDLE_READS-clause-heard
returns-then-idle-ge-IDLE_READS-clause-heard g c =
    let all = hears_more c.args.hearing.now.from c.args.hearing.now.to (g.I.Link.remaining c.args.link.now) (g.I.Link.remaining c.loop-read.link) (g.I.Link.remaining c.hear_once.new.link)
    at_start c.loop-read.stream.reader c.hear_once.new.stream.reader [] c.loop-read.hearing.heard
    c.hear_once.new.hearing.heard c.loop-read.invariant.heard (search rules) in
    hears_up_to c.args.hearing.now.from c.args.hearing.now.to LinkFault (g.I.Link.remaining c.args.link.now) (g.I.Link.remaining c.hear_once.new.link) at_start c.hear_once.new.stream.reader
    [] c.hear_once.new.hearing.heard c.hear_once.new.hearing.heard all
    (ends_heard c.args.hearing.now.from c.args.hearing.now.to LinkFault (g.I.Link.remaining c.hear_once.new.link) c.hear_once.new.stream.reader c.hear_once.new.hearing.heard)
