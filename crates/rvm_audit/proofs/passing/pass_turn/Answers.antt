use Rattle.std.proofs.Common.{arith, length, refl}
use Rattle.std.proofs.lemmas.Option.{slice_get_read}
use Rattle.rvm_audit.proofs.Passed.{end_blocked, end_passing, next_item_is, none_blocked, none_passing, pass_turn_of, some_blocked, some_entries_within, some_items_left, some_passing}
use Rattle.rvm_audit.proofs.passing.pass_turn.Goals as goal

pub returns-in_default-clause-passing : goal.returns-in_default-clause-passing
returns-in_default-clause-passing c =
    let t =
    pass_turn_of c.args.parts.now c.args.cuts.now c.args.places.now.items c.args.known.now c.args.host c.index-parts-host.result
    c.index-place.result.now c.requires.passing c.requires.blocked c.requires.there c.index-parts-host.is c.index-place.ensures
    in
    end_passing c.args.parts.now c.args.cuts.now c.args.places.now.items c.args.known.now c.end_journal.new.known c.args.host
    c.index-parts-host.result c.index-place.result.now t c.in_default.ensures.lookup.3 c.end_journal.result _ refl
    c.end_journal.ensures

pub returns-in_default-clause-blocked : goal.returns-in_default-clause-blocked
returns-in_default-clause-blocked c =
    let t =
    pass_turn_of c.args.parts.now c.args.cuts.now c.args.places.now.items c.args.known.now c.args.host c.index-parts-host.result
    c.index-place.result.now c.requires.passing c.requires.blocked c.requires.there c.index-parts-host.is c.index-place.ensures
    in
    end_blocked c.args.parts.now c.args.cuts.now c.args.places.now.items c.args.known.now c.end_journal.new.known c.args.host
    c.index-parts-host.result c.index-place.result.now t c.in_default.ensures.lookup.3 c.end_journal.result _ refl
    c.end_journal.ensures

pub overflow_add-place : goal.overflow_add-place
overflow_add-place c =
    let t =
    pass_turn_of c.args.parts.now c.args.cuts.now c.args.places.now.items c.args.known.now c.args.host c.index-parts-host.result
    c.index-place.result.now c.requires.passing c.requires.blocked c.requires.there c.index-parts-host.is c.index-place.ensures
    in
    let items = c.index-parts-host.result.items.now in
    let there = c.in-Some.ensures.lookup in
    let next =
    next_item_is c.index-parts-host.result c.index-place.result.now c.in-Some.stretch.now c.look.result
    (slice_get_read items (length items) c.index-place.result.now.items c.in-Some.stretch.now refl there.3.0 there.1) c.look.ensures
    in
    let less =
    some_items_left c.args.parts.now c.args.cuts.now c.args.places.now.items c.args.known.now c.pass_stretch.new.self c.args.host
    c.index-parts-host.result c.index-place.result.now t c.look.result next c.in_ok-pass_stretch.field-0 c.in_ok-pass_stretch.ensures
    c.in-Some-2.passed c.in-Some-2.is
    in
    let sized = c.requires.sized c.args.host c.index-parts-host.result t.here in
    let most = sized.items in
    omega (arith, less, most)

pub overflow_add-place-in-Some-2 : goal.overflow_add-place-in-Some-2
overflow_add-place-in-Some-2 c =
    let t =
    pass_turn_of c.args.parts.now c.args.cuts.now c.args.places.now.items c.args.known.now c.args.host c.index-parts-host.result
    c.index-place.result.now c.requires.passing c.requires.blocked c.requires.there c.index-parts-host.is c.index-place.ensures
    in
    let items = c.index-parts-host.result.items.now in
    let there = c.in-Some.ensures.lookup in
    let next =
    next_item_is c.index-parts-host.result c.index-place.result.now c.in-Some.stretch.now c.look.result
    (slice_get_read items (length items) c.index-place.result.now.items c.in-Some.stretch.now refl there.3.0 there.1) c.look.ensures
    in
    let less =
    some_entries_within c.args.parts.now c.args.cuts.now c.args.places.now.items c.args.known.now c.pass_stretch.new.self c.args.host
    c.index-parts-host.result c.index-place.result.now t c.look.result next c.in_ok-pass_stretch.field-0 c.in_ok-pass_stretch.ensures
    c.in-Some-2.passed c.in-Some-2.is
    in
    let sized = c.requires.sized c.args.host c.index-parts-host.result t.here in
    let most = sized.entries in
    omega (arith, less, most)

pub returns-in-None-clause-passing : goal.returns-in-None-clause-passing
returns-in-None-clause-passing c =
    let t =
    pass_turn_of c.args.parts.now c.args.cuts.now c.args.places.now.items c.args.known.now c.args.host c.index-parts-host.result
    c.index-place.result.now c.requires.passing c.requires.blocked c.requires.there c.index-parts-host.is c.index-place.ensures
    in
    let items = c.index-parts-host.result.items.now in
    let there = c.in-Some.ensures.lookup in
    let next =
    next_item_is c.index-parts-host.result c.index-place.result.now c.in-Some.stretch.now c.look.result
    (slice_get_read items (length items) c.index-place.result.now.items c.in-Some.stretch.now refl there.3.0 there.1) c.look.ensures
    in
    none_passing c.args.parts.now c.args.cuts.now c.args.places.now.items c.args.known.now c.pass_stretch.new.self c.args.host
    c.index-parts-host.result c.index-place.result.now t c.look.result next c.in_ok-pass_stretch.field-0 c.in_ok-pass_stretch.ensures
    c.in-None.is

pub returns-in-None-clause-blocked : goal.returns-in-None-clause-blocked
returns-in-None-clause-blocked c =
    let t =
    pass_turn_of c.args.parts.now c.args.cuts.now c.args.places.now.items c.args.known.now c.args.host c.index-parts-host.result
    c.index-place.result.now c.requires.passing c.requires.blocked c.requires.there c.index-parts-host.is c.index-place.ensures
    in
    let items = c.index-parts-host.result.items.now in
    let there = c.in-Some.ensures.lookup in
    let next =
    next_item_is c.index-parts-host.result c.index-place.result.now c.in-Some.stretch.now c.look.result
    (slice_get_read items (length items) c.index-place.result.now.items c.in-Some.stretch.now refl there.3.0 there.1) c.look.ensures
    in
    none_blocked c.args.parts.now c.args.cuts.now c.args.places.now.items c.args.known.now c.pass_stretch.new.self c.args.host
    c.index-parts-host.result c.index-place.result.now t c.look.result next c.in_ok-pass_stretch.field-0 c.in_ok-pass_stretch.ensures
    c.in-None.is

pub returns-in-Some-2-clause-passing : goal.returns-in-Some-2-clause-passing
returns-in-Some-2-clause-passing c =
    let t =
    pass_turn_of c.args.parts.now c.args.cuts.now c.args.places.now.items c.args.known.now c.args.host c.index-parts-host.result
    c.index-place.result.now c.requires.passing c.requires.blocked c.requires.there c.index-parts-host.is c.index-place.ensures
    in
    let items = c.index-parts-host.result.items.now in
    let there = c.in-Some.ensures.lookup in
    let next =
    next_item_is c.index-parts-host.result c.index-place.result.now c.in-Some.stretch.now c.look.result
    (slice_get_read items (length items) c.index-place.result.now.items c.in-Some.stretch.now refl there.3.0 there.1) c.look.ensures
    in
    some_passing c.args.parts.now c.args.cuts.now c.args.places.now.items c.args.known.now c.pass_stretch.new.self c.args.host
    c.index-parts-host.result c.index-place.result.now t c.look.result next c.in_ok-pass_stretch.field-0 c.in_ok-pass_stretch.ensures
    c.in-Some-2.passed c.in-Some-2.is

pub returns-in-Some-2-clause-blocked : goal.returns-in-Some-2-clause-blocked
returns-in-Some-2-clause-blocked c =
    let t =
    pass_turn_of c.args.parts.now c.args.cuts.now c.args.places.now.items c.args.known.now c.args.host c.index-parts-host.result
    c.index-place.result.now c.requires.passing c.requires.blocked c.requires.there c.index-parts-host.is c.index-place.ensures
    in
    let items = c.index-parts-host.result.items.now in
    let there = c.in-Some.ensures.lookup in
    let next =
    next_item_is c.index-parts-host.result c.index-place.result.now c.in-Some.stretch.now c.look.result
    (slice_get_read items (length items) c.index-place.result.now.items c.in-Some.stretch.now refl there.3.0 there.1) c.look.ensures
    in
    some_blocked c.args.parts.now c.args.cuts.now c.args.places.now.items c.args.known.now c.pass_stretch.new.self c.args.host
    c.index-parts-host.result c.index-place.result.now t c.look.result next c.in_ok-pass_stretch.field-0 c.in_ok-pass_stretch.ensures
    c.in-Some-2.passed c.in-Some-2.is c.woken.result c.woken.ensures
