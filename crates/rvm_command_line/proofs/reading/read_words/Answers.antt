use Rattle.std.proofs.Common.{map, inl, inr}
use Rattle.rvm_command_line.proofs.Faults.{found, handed_on, taken, valueless}
use Rattle.rvm_command_line.proofs.Rows.{asked_of, explained_of}
use Rattle.rvm_command_line.proofs.reading.read_words.Goals as goal

-- src/reading.rt:52:1
pub returns-in-Ok-clause-asked : goal.returns-in-Ok-clause-asked
returns-in-Ok-clause-asked g c =
    asked_of _ _ c.in_ok-matches.matches c.in-Ok.line.arguments c.in_ok-matches.ensures.ok.2 c.requires c.in-Ok.ensures.asked

pub returns-in-Ok-clause-explained : goal.returns-in-Ok-clause-explained
returns-in-Ok-clause-explained g c =
    explained_of _ _ c.in_ok-matches.matches c.in-Ok.line.explain c.in_ok-matches.ensures.ok.2 c.requires c.in-Ok.ensures.explained

pub returns-in-Ok-clause-taken : goal.returns-in-Ok-clause-taken
returns-in-Ok-clause-taken g c = taken _ _ c.requires c.in_ok-matches.ensures.kinds

pub returns-in-Ok-clause-fault : goal.returns-in-Ok-clause-fault
returns-in-Ok-clause-fault g c = tt

pub returns-in_err-matches-clause-fault : goal.returns-in_err-matches-clause-fault
returns-in_err-matches-clause-fault g c =
    handed_on (map g.S.AsStr.text c.args.words.now) c.in_err-matches.field-0.0 c.from_residual.result
    c.from_residual.ensures.1
    (found _ _ c.in_err-matches.field-0.0 c.requires c.in_err-matches.ensures.kinds)

pub returns-clause-fault : goal.returns-clause-fault
returns-clause-fault g c =
    valueless (map g.S.AsStr.text c.args.words.now) c.in_ok-error-in-Err.field-0
    (taken _ _ c.requires c.in_ok-matches.ensures.kinds)
    (inr (inl c.in_ok-error-in-Err.ensures.kind))
