use Rattle.rvm_program.specs.Ended.{written}
use Rattle.rvm_program.proofs.Statuses.{asked_for, failed, has_ended_so}
use Rattle.rvm_program.proofs.do_command.Goals as goal

pub returns-clause-status : goal.returns-clause-status
returns-clause-status g c =
    (asked_for (g.F.NamedFiles.bytes_of c.args.files.now) (g.F.NamedFiles.created_of c.args.files.now) c.args.arguments.now (g.I.Read.remaining c.args.input.now)
    (written (g.O.Write.contents c.args.output.now) (g.O.Write.contents c.tell_end.new.output))
    (written (g.E.Write.contents c.args.errors.now) (g.E.Write.contents c.tell_end.new.errors))
    c.status_of.result c.tell_end.result c.tell_end.ensures.told c.status_of.ensures.told c.status_of.ensures.untold).judged

pub returns-clause-lost : goal.returns-clause-lost
returns-clause-lost g c =
    (asked_for (g.F.NamedFiles.bytes_of c.args.files.now) (g.F.NamedFiles.created_of c.args.files.now) c.args.arguments.now (g.I.Read.remaining c.args.input.now)
    (written (g.O.Write.contents c.args.output.now) (g.O.Write.contents c.tell_end.new.output))
    (written (g.E.Write.contents c.args.errors.now) (g.E.Write.contents c.tell_end.new.errors))
    c.status_of.result c.tell_end.result c.tell_end.ensures.told c.status_of.ensures.told c.status_of.ensures.untold).lost

pub returns-clause-passed : goal.returns-clause-passed
returns-clause-passed g c =
    (asked_for (g.F.NamedFiles.bytes_of c.args.files.now) (g.F.NamedFiles.created_of c.args.files.now) c.args.arguments.now (g.I.Read.remaining c.args.input.now)
    (written (g.O.Write.contents c.args.output.now) (g.O.Write.contents c.tell_end.new.output))
    (written (g.E.Write.contents c.args.errors.now) (g.E.Write.contents c.tell_end.new.errors))
    c.status_of.result c.tell_end.result c.tell_end.ensures.told c.status_of.ensures.told c.status_of.ensures.untold).passing

pub returns-clause-others : goal.returns-clause-others
returns-clause-others g c =
    has_ended_so (g.F.NamedFiles.bytes_of c.args.files.now) (g.F.NamedFiles.created_of c.args.files.now) c.args.arguments.now (g.I.Read.remaining c.args.input.now)
    (written (g.O.Write.contents c.args.output.now) (g.O.Write.contents c.tell_end.new.output))
    (written (g.E.Write.contents c.args.errors.now) (g.E.Write.contents c.tell_end.new.errors))
    c.status_of.result c.tell_end.result c.tell_end.ensures.told c.status_of.ensures.told c.status_of.ensures.untold

pub returns-clause-refused : goal.returns-clause-refused
returns-clause-refused g c =
    failed (g.F.NamedFiles.bytes_of c.args.files.now) (g.F.NamedFiles.created_of c.args.files.now) c.args.arguments.now
    (g.I.Read.remaining c.args.input.now)
    (written (g.O.Write.contents c.args.output.now) (g.O.Write.contents c.tell_end.new.output))
    (written (g.E.Write.contents c.args.errors.now) (g.E.Write.contents c.tell_end.new.errors))
    c.status_of.result c.tell_end.result c.tell_end.ensures.told c.tell_end.ensures.untold c.status_of.ensures.told
