use Rattle.rvm_program.proofs.journals.audit_journals.Goals as goal

pub returns-in-Some-clause-ended : goal.returns-in-Some-clause-ended
returns-in-Some-clause-ended g c = c.draw_journals.ensures.ended (g.O.Write.contents c.args.output.now)

pub returns-in-Some-clause-untold : goal.returns-in-Some-clause-untold
returns-in-Some-clause-untold g c = c.draw_journals.ensures.untold (g.O.Write.contents c.args.output.now)
