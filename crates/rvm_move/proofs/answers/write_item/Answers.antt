use Rattle.std.proofs.Common.{rules, ◌≡◌, ◌∙◌, ℕ, List, [], ap, sym, subst}
use Rattle.std.specs.Io.KnownBytes.{Appends}
use Rattle.rvm_recorder.specs.Items.{entries_at}
use Rattle.rvm_move.specs.Answers.{answers_text}
use Rattle.rvm_move.proofs.Answered.{no_text, none_in_rounds}
use Rattle.rvm_move.proofs.answers.write_item.Goals as goal

pub returns-in-Steps : goal.returns-in-Steps
returns-in-Steps g c =
    let s = c.in-Steps._steps in
    let at = g.E.Write.contents c.args.errors.now in
    let text : answers_text c.args.item.now ≡ [] =
    ap answers_text (sym c.look.ensures ∙ ap entries_at c.in-Steps.is) ∙ no_text s.turn s.harts s.count in
    let none : Appends at at [] = search rules in
    subst (λ (t : List ℕ). Appends at at t) (sym text) none

pub returns-in-Rounds : goal.returns-in-Rounds
returns-in-Rounds g c =
    let r = c.in-Rounds._rounds in
    let at = g.E.Write.contents c.args.errors.now in
    let text : answers_text c.args.item.now ≡ [] =
    ap answers_text (sym c.look.ensures ∙ ap entries_at c.in-Rounds.is) ∙ none_in_rounds r.count r.turn r.harts r.steps r.drain in
    let none : Appends at at [] = search rules in
    subst (λ (t : List ℕ). Appends at at t) (sym text) none
