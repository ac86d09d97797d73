use Rattle.std.proofs.Common.{◌≡◌, ◌<◌, false, length, take, sym, ◌∙◌}
use Rattle.std.specs.List.{list_any}
use Rattle.rvm_res.specs.Reservations.{is_of, word_of}
use Rattle.rvm_res.proofs.Words.{stored-other, take-stored}
use Rattle.rvm_res.proofs.reservations.Reservations.end_others.Goals as goal

pub returns-then-not-is_reserved : goal.returns-then-not-is_reserved
returns-then-not-is_reserved c =
    let none : list_any (is_of (word_of c.args.address)) c.args.self.now ≡ false =
    rw (← c.self.view_is, ← c.word_of-word.ensures) (sym c.is_reserved.ensures ∙ c.if-not-is_reserved.true) in
    sym (stored-other c.args.hart c.args.address c.args.self.now none)

pub returns : goal.returns
returns c =
    let within : c.args.hart < length (take c.self.inside.harts c.self.inside.words) =
    rw c.self.view_is c.requires in
    rw (c.end_word.ensures, c.word_of-word.ensures, ← c.self.view_is)
    (take-stored c.self.inside.harts c.args.hart c.args.address c.self.inside.words within)
