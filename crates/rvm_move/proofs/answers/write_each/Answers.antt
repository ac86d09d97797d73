use Rattle.std.proofs.Common.{rules, ◌≡◌, take, get_or, subst, sym}
use Rattle.std.specs.Io.KnownBytes.{Appends}
use Rattle.rvm_recorder.specs.Items.{all_of}
use Rattle.rvm_move.specs.Answers.{answers_text}
use Rattle.std.proofs.KnownBytes.{Appends-trans}
use Rattle.rvm_move.proofs.Answered.{one_more}
use Rattle.rvm_move.proofs.answers.write_each.Goals as goal

pub loop-item-preserved : goal.loop-item-preserved
loop-item-preserved g c =
    let items = c.args.items.now in
    let i = c.loop-item.item-index in
    let x = c.item-item.result in
    let before = g.E.Write.contents c.args.errors.now in
    let mid = g.E.Write.contents c.loop-item.errors in
    let after = g.E.Write.contents c.write_item.new.errors in
    let is : get_or items i x ≡ x = sym c.item-item.is in
    let more = one_more items i x c.loop-item-test.true is in
    let written : Appends mid after (answers_text x) = search rules in
    subst (Appends before after) (sym more) (Appends-trans before mid after (answers_text (all_of (take i items))) (answers_text x) c.loop-item.invariant written)
