use Rattle.std.proofs.Common.{inl, length, refl}
use Rattle.std.proofs.lemmas.Option.{slice_get_read}
use Rattle.rvm_recorder.proofs.Spans.{drop_at}
use Rattle.rvm_audit.proofs.Gets.{drop_end}
use Rattle.rvm_audit.proofs.Taken.{next_is}
use Rattle.rvm_audit.proofs.merge.Merge.take_next.Goals as goal

pub returns-in-None : goal.returns-in-None
returns-in-None c = inl (drop_end c.args.items.now c.args.index c.in-None.ensures.lookup.3, refl)

pub returns-in-Some : goal.returns-in-Some
returns-in-Some c =
    let items = c.args.items.now in
    let item = c.in-Some.item.now in
    let there = c.in-Some.ensures.lookup in
    next_is c.args.version c.args.count c.args.host _ _ item c.look.result c.args.self.now _
    (drop_at items c.args.index item (slice_get_read items (length items) c.args.index item refl there.3.0 there.1))
    c.look.ensures c.take_item.result c.take_item.ensures
