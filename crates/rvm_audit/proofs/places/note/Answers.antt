use Rattle.std.proofs.Common.{◌≡◌, ◌∙◌, None, sym, ap}
use Rattle.rvm_audit.specs.Merging.{places_of}
use Rattle.rvm_audit.proofs.Keys.{none_is, noted_now}
use Rattle.rvm_audit.proofs.places.note.Goals as goal

pub returns-in_ok-insert : goal.returns-in_ok-insert
returns-in_ok-insert c =
    let none : places_of c.args.places.now c.args.key.items ≡ None =
    sym (c.lookup.ensures ∙ ap (places_of c.args.places.now) c.as_slice.ensures.value) ∙ none_is c.lookup.result c.if-is_none.ensures
    in
    noted_now c.args.key.items c.args.place (places_of c.args.places.now) _ none c.in_ok-insert.ensures
