use Rattle.std.proofs.Common.{rules}
use Rattle.rvm_asm.specs.Images.{pieces_of}
use Rattle.rvm_command.proofs.Refusals.{image_refused}
use Rattle.rvm_command.proofs.asm_command.assembled.Goals as goal

-- src/asm_command.rt:58:1
pub returns-clause-refused : goal.returns-clause-refused
returns-clause-refused c =
    image_refused c.args.source.now c.in_ok-image.image.entry (pieces_of c.in_ok-image.image.segments.items) c.in-Err-written.error c.from.result (search rules) c.in-Err-written.ensures.refused c.from.ensures
