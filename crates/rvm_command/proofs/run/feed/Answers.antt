use Rattle.std.proofs.Common.{◌+◌, drop, get_or, refl, arith}
use Rattle.std.proofs.lemmas.List.{drop_all, drop_more}
use Rattle.rvm_command.proofs.Runs.{byte_kept, byte_none, byte_taken}
use Rattle.rvm_command.proofs.run.feed.Goals as goal

pub returns-then-next-input-clause-fed : goal.returns-then-next-input-clause-fed
returns-then-next-input-clause-fed g c =
    byte_none (drop c.args.next c.args.input.now) c.args.guest.now (drop_all c.args.next c.args.input.now (omega arith))

pub returns-in-Ok-clause-fed : goal.returns-in-Ok-clause-fed
returns-in-Ok-clause-fed g c =
    byte_taken (drop c.args.next c.args.input.now) (drop (c.args.next + 1) c.args.input.now) (get_or c.args.input.now c.args.next 0) c.args.guest.now c.input.new.self (drop_more c.args.input.now c.args.next 0 (omega arith)) c.in-Ok.ensures.full.1 c.in-Ok.ensures.taken

pub returns-in-Err-clause-fed : goal.returns-in-Err-clause-fed
returns-in-Err-clause-fed g c =
    byte_kept (drop c.args.next c.args.input.now) (drop (c.args.next + 1) c.args.input.now) (get_or c.args.input.now c.args.next 0) c.args.guest.now c.input.new.self (drop_more c.args.input.now c.args.next 0 (omega arith)) (c.in-Err.ensures.full.0 refl) c.in-Err.ensures.err
