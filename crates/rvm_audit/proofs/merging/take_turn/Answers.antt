use Rattle.std.proofs.Common.{arith}
use Rattle.std.proofs.lemmas.Bool.{eqb-true}
use Rattle.rvm_audit.proofs.Parts.{entries_fit, few_frames, goes_on, items_fit, lower_wait, one_more_waits, still_stands, turn}
use Rattle.rvm_audit.proofs.merging.take_turn.Goals as goal

pub overflow_add-place : goal.overflow_add-place
overflow_add-place c =
    let t =
    turn c.args.parts.now c.args.places.now.items c.args.merge.now c.args.host c.index-parts-host.result c.index-place.result.now
    c.requires.stands c.requires.waits c.requires.there c.index-parts-host.is c.index-place.ensures
    in
    let less =
    items_fit c.args.parts.now c.args.places.now.items c.args.merge.now c.take_next.new.self c.args.host c.index-parts-host.result
    c.index-place.result.now t c.in_ok-take_next.field-0 c.in_ok-take_next.ensures c.in-Some.entries c.in-Some.is
    in
    let sized = c.requires.sized c.args.host c.index-parts-host.result t.here in
    let most = sized.items in
    omega (arith, less, most)

pub overflow_add-place-in-Some : goal.overflow_add-place-in-Some
overflow_add-place-in-Some c =
    let t =
    turn c.args.parts.now c.args.places.now.items c.args.merge.now c.args.host c.index-parts-host.result c.index-place.result.now
    c.requires.stands c.requires.waits c.requires.there c.index-parts-host.is c.index-place.ensures
    in
    let less =
    entries_fit c.args.parts.now c.args.places.now.items c.args.merge.now c.take_next.new.self c.args.host c.index-parts-host.result
    c.index-place.result.now t c.in_ok-take_next.field-0 c.in_ok-take_next.ensures c.in-Some.entries c.in-Some.is
    in
    let sized = c.requires.sized c.args.host c.index-parts-host.result t.here in
    let most = sized.entries in
    omega (arith, less, most)

pub returns-in-None-clause-stands : goal.returns-in-None-clause-stands
returns-in-None-clause-stands c =
    let t =
    turn c.args.parts.now c.args.places.now.items c.args.merge.now c.args.host c.index-parts-host.result c.index-place.result.now
    c.requires.stands c.requires.waits c.requires.there c.index-parts-host.is c.index-place.ensures
    in
    still_stands c.args.parts.now c.args.places.now.items c.args.merge.now c.take_next.new.self c.args.host c.index-parts-host.result
    c.index-place.result.now t c.in_ok-take_next.field-0 c.in_ok-take_next.ensures c.in-None.is

pub returns-in-None-clause-waits : goal.returns-in-None-clause-waits
returns-in-None-clause-waits c =
    let t =
    turn c.args.parts.now c.args.places.now.items c.args.merge.now c.args.host c.index-parts-host.result c.index-place.result.now
    c.requires.stands c.requires.waits c.requires.there c.index-parts-host.is c.index-place.ensures
    in
    one_more_waits c.args.parts.now c.args.places.now.items c.args.merge.now c.take_next.new.self c.args.host c.index-parts-host.result
    c.index-place.result.now t c.in_ok-take_next.field-0 c.in_ok-take_next.ensures c.in-None.is

pub returns-in-Some-clause-made : goal.returns-in-Some-clause-made
returns-in-Some-clause-made c =
    let t =
    turn c.args.parts.now c.args.places.now.items c.args.merge.now c.args.host c.index-parts-host.result c.index-place.result.now
    c.requires.stands c.requires.waits c.requires.there c.index-parts-host.is c.index-place.ensures
    in
    few_frames c.args.parts.now c.args.places.now.items c.args.merge.now c.take_next.new.self c.args.host c.index-parts-host.result
    c.index-place.result.now t c.in_ok-take_next.field-0 c.in_ok-take_next.ensures c.in-Some.entries c.in-Some.is

pub returns-in-Some-clause-stands : goal.returns-in-Some-clause-stands
returns-in-Some-clause-stands c =
    let t =
    turn c.args.parts.now c.args.places.now.items c.args.merge.now c.args.host c.index-parts-host.result c.index-place.result.now
    c.requires.stands c.requires.waits c.requires.there c.index-parts-host.is c.index-place.ensures
    in
    goes_on c.args.parts.now c.args.places.now.items c.args.merge.now c.take_next.new.self c.args.host c.index-parts-host.result
    c.index-place.result.now t c.in_ok-take_next.field-0 c.in_ok-take_next.ensures c.in-Some.entries c.in-Some.is

pub returns-in-Some-clause-waits : goal.returns-in-Some-clause-waits
returns-in-Some-clause-waits c =
    let t =
    turn c.args.parts.now c.args.places.now.items c.args.merge.now c.args.host c.index-parts-host.result c.index-place.result.now
    c.requires.stands c.requires.waits c.requires.there c.index-parts-host.is c.index-place.ensures
    in
    lower_wait c.args.parts.now c.args.places.now.items c.args.merge.now c.take_next.new.self c.args.host c.index-parts-host.result
    c.index-place.result.now t c.in_ok-take_next.field-0 c.in_ok-take_next.ensures c.in-Some.entries c.in-Some.is _
    c.woken.result (eqb-true c.take_next.new.self.made c.args.merge.now.made) c.woken.ensures
