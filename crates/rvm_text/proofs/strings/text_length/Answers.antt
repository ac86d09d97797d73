use Rattle.std.proofs.Common.{arith, ◌∙◌, get_or, refl}
use Rattle.rvm_text.proofs.Texts.{taken_escaped, taken_plain, taken_escape}
use Rattle.rvm_text.proofs.strings.text_length.Goals.{then-escaped, else-escaped+then-b-eq92, else-escaped+else-b-eq92}
use Rattle.rvm_text.proofs.strings.text_length.Goals as goal

pub loop-b-preserved : goal.loop-b-preserved
loop-b-preserved c = record {
  all = elim c.if-escaped.branch [
    | then-escaped w ↦ taken_escaped c.loop-b.length c.if-escaped.length c.loop-b.b-index c.args.written.now c.loop-b.escaped c.if-escaped.escaped c.loop-b-test.true w.if-escaped.true w.length-is w.escaped-is ∙ c.loop-b.invariant.all
    | else-escaped+then-b-eq92 w ↦ taken_escape c.loop-b.length c.if-escaped.length c.loop-b.b-index c.args.written.now c.loop-b.escaped c.if-escaped.escaped (get_or c.args.written.now c.loop-b.b-index 0) c.loop-b-test.true w.if-escaped.false refl w.if-b-eq92.true w.length-is w.escaped-is ∙ c.loop-b.invariant.all
    | else-escaped+else-b-eq92 w ↦ taken_plain c.loop-b.length c.if-escaped.length c.loop-b.b-index c.args.written.now c.loop-b.escaped c.if-escaped.escaped (get_or c.args.written.now c.loop-b.b-index 0) c.loop-b-test.true w.if-escaped.false refl w.if-b-eq92.false w.length-is w.escaped-is ∙ c.loop-b.invariant.all
  ];
  at_most = elim c.if-escaped.branch [
    | then-escaped w ↦ omega (arith, w.length-is)
    | else-escaped+then-b-eq92 w ↦ omega (arith, w.length-is)
    | else-escaped+else-b-eq92 w ↦ omega (arith, w.length-is)
  ];
}
