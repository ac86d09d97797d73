use Rattle.rvm_asm.proofs.Lines.{text_refused}
use Rattle.rvm_asm.proofs.assembler.assemble.Goals as goal

pub returns-clause-refused : goal.returns-clause-refused
returns-clause-refused c =
    text_refused c.args.text.now c.in_ok-texts.texts.items c.assemble_lines.result c.in_ok-texts.ensures (rw c.deref.ensures.value at c.in_ok-check_lines.ensures.read) (rw c.deref-2.ensures.value at c.assemble_lines.ensures.refused)
