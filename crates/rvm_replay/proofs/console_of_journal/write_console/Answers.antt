use Rattle.std.proofs.Common.{rules, ◌≡◌, take, get_or, subst, sym}
use Rattle.std.specs.Io.KnownBytes.{Appends}
use Rattle.rvm_recorder.specs.Items.{all_of}
use Rattle.rvm_replay.specs.Consoles.{console_of}
use Rattle.std.proofs.KnownBytes.{Appends-trans}
use Rattle.rvm_replay.proofs.Showing.{one_more}
use Rattle.rvm_replay.proofs.console_of_journal.write_console.Goals as goal

pub loop-item-preserved : goal.loop-item-preserved
loop-item-preserved g c =
    let items = c.args.items.now in
    let i = c.loop-item.item-index in
    let x = c.item-item.result in
    let before = g.O.Write.contents c.args.output.now in
    let mid = g.O.Write.contents c.loop-item.output in
    let after = g.O.Write.contents c.write_item.new.output in
    let is : get_or items i x ≡ x = sym c.item-item.is in
    let more = one_more items i x c.loop-item-test.true is in
    let written : Appends mid after (console_of x) = search rules in
    subst (Appends before after) (sym more) (Appends-trans before mid after (console_of (all_of (take i items))) (console_of x) c.loop-item.invariant written)
