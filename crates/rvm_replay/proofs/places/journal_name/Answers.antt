use Rattle.std.proofs.Common.{◌∙◌, refl, sym}
use Rattle.rvm_replay.proofs.PlaceLines.{further, here, nowhere}
use Rattle.rvm_replay.proofs.places.journal_name.Goals as goal

pub loop-file-init : goal.loop-file-init
loop-file-init c = refl

pub loop-file-preserved : goal.loop-file-preserved
loop-file-preserved c =
    c.loop-file.invariant
    ∙ further c.args.host c.args.files.now c.loop-file.file-index c.file-item.result c.loop-file-test.true (sym c.file-item.is)
    (sym c.is_of.ensures ∙ c.if-is_of.false)

pub returns-then-is_of : goal.returns-then-is_of
returns-then-is_of c =
    sym (c.loop-file.invariant
    ∙ here c.args.host c.args.files.now c.loop-file.file-index c.file-item.result c.loop-file-test.true (sym c.file-item.is)
    (sym c.is_of.ensures ∙ c.if-is_of.true) ∙ sym c.name.ensures)

pub returns : goal.returns
returns c = sym (c.loop-file.invariant ∙ nowhere c.args.host c.args.files.now c.loop-file.file-index c.loop-file-test.false)
