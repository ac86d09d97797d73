use Rattle.rvm_debug.proofs.Reading.{is_done}
use Rattle.rvm_debug.proofs.words.Words.is_empty.Goals as goal

pub returns : goal.returns
returns c =
    is_done c.behind_blanks.result.now c.self.inside.rest.now c.args.self.now c.is_empty.result
    c.behind_blanks.ensures.begins c.behind_blanks.ensures.words c.self.view_is c.is_empty.ensures
