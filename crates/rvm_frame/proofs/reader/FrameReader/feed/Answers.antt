use Rattle.std.proofs.Common.{Some, Ok, arith}
use Rattle.rvm_frame.specs.Verdict.{Decides}
use Rattle.rvm_frame.proofs.Gather.{spelled_at}
use Rattle.rvm_frame.proofs.reader.FrameReader.feed.Goals as goal

pub returns-in-Ok-default-Some-clause-whole : goal.returns-in-Ok-default-Some-clause-whole
returns-in-Ok-default-Some-clause-whole c =
    let d : Decides c.self.inside.unfinished.version c.self.inside.unfinished.bytes c.args.piece.now c.in-Ok-default-Some.used (Ok (Some c.in-Ok-default-Some.received)) = rw (← c.in-Ok-default-Some.field-0-1-is) c.in-Ok-default-Some.ensures.decides in
    rw (← c.self.view_is) (spelled_at c.self.inside.unfinished.version c.self.inside.unfinished.bytes c.args.piece.now c.in-Ok-default-Some.used c.in-Ok-default-Some.received c.self.invariant.1 (λ i. omega (arith, c.type_inv.piece i)) d)
