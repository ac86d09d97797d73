use Rattle.rvm_command_line.proofs.reading.read_report.Goals as goal

pub returns-in-Some : goal.returns-in-Some
returns-in-Some c = c.read_saved.ensures c.args.pages
