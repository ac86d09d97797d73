use Rattle.rvm_debug.proofs.Reading.{is_done}
use Rattle.rvm_debug.proofs.words.Words.next.Goals as goal

pub returns-then-is_empty : goal.returns-then-is_empty
returns-then-is_empty c =
    let done =
    is_done c.behind_blanks-rest.result.now c.self.inside.rest.now c.args.self.now c.is_empty.result
    c.behind_blanks-rest.ensures.begins c.behind_blanks-rest.ensures.words c.self.view_is c.is_empty.ensures in
    done.0 c.if-is_empty.true
