use Rattle.std.proofs.Common.{rules, ◌≡◌, take, get_or, subst, sym}
use Rattle.std.specs.Io.KnownBytes.{Appends, append_known}
use Rattle.rvm_recorder.specs.Items.{all_of}
use Rattle.rvm_move.specs.Answers.{answers_text}
use Rattle.std.proofs.KnownBytes.{Appends-trans}
use Rattle.rvm_move.proofs.Answered.{one_more}
use Rattle.rvm_move.proofs.answers.write_together.Goals as goal

pub loop-item-preserved : goal.loop-item-preserved
loop-item-preserved g c =
    let items = c.args.items.now in
    let i = c.loop-item.item-index in
    let x = c.item-item.result in
    let before = append_known (g.E.Write.contents c.args.errors.now) c.args.piece.items in
    let mid = append_known (g.E.Write.contents c.loop-item.errors) c.loop-item.piece.items in
    let after = append_known (g.E.Write.contents c.put.new.errors) c.put.new.piece.items in
    let is : get_or items i x ≡ x = sym c.item-item.is in
    let more = one_more items i x c.loop-item-test.true is in
    let written : Appends mid after (answers_text x) = search rules in
    subst (Appends before after) (sym more) (Appends-trans before mid after (answers_text (all_of (take i items))) (answers_text x) c.loop-item.invariant written)
