use Rattle.std.proofs.Common.{◌≡◌, ◌∙◌, ◌≤◌, ◌<◌, Some, ap, arith, length, subst, sym}
use Rattle.std.specs.Prelude.{slice_get}
use Rattle.std.proofs.lemmas.Option.{slice_get-get_or}
use Rattle.rvm_replay.specs.Turns.{turns_of}
use Rattle.rvm_replay.proofs.PlacedTurns.{has_journal, is_counted, is_host, is_told, placed}
use Rattle.rvm_replay.proofs.turns.find_turn.Goals as goal

pub bounds-all-number : goal.bounds-all-number
bounds-all-number g c =
    subst (λ n. n < length c.args.all.now) (sym c.from-number.ensures)
    (is_host c.args.all.now c.args.order.now c.requires.merge c.args.turn c.in_ok-host.host c.requires.some c.in_ok-host.ensures.host)

pub offset_bounds-all-number : goal.offset_bounds-all-number
offset_bounds-all-number g c =
    let host = is_host c.args.all.now c.args.order.now c.requires.merge c.args.turn c.in_ok-host.host c.requires.some
    c.in_ok-host.ensures.host in
    let number = c.from-number.ensures in
    omega (arith, host, number)

pub count_to_turn-count-requires-clause-some : goal.count_to_turn-count-requires-clause-some
count_to_turn-count-requires-clause-some g c =
    subst (λ n. 1 ≤ n) (sym c.turns_of_host-own.ensures)
    (is_counted c.args.all.now c.args.order.now c.requires.merge c.args.turn c.in_ok-host.host c.requires.some c.in_ok-host.ensures.host)

pub count_to_turn-count-requires-clause-told : goal.count_to_turn-count-requires-clause-told
count_to_turn-count-requires-clause-told g c =
    let all = c.args.all.now in
    let r = c.index-all-number.result in
    let host = is_host all c.args.order.now c.requires.merge c.args.turn c.in_ok-host.host c.requires.some c.in_ok-host.ensures.host in
    let there = slice_get-get_or all c.from-number.result r (subst (λ n. n < length all) (sym c.from-number.ensures) host)
    ∙ ap Some (sym c.index-all-number.is) in
    subst (λ n. n ≤ turns_of r.journal.entries) (sym c.turns_of_host-own.ensures)
    (is_told all c.args.order.now c.requires.merge c.args.turn c.in_ok-host.host c.requires.some c.in_ok-host.ensures.host r
    (subst (λ n. slice_get all n ≡ Some r) c.from-number.ensures there))

pub unreachable-requires : goal.unreachable-requires
unreachable-requires g c =
    let all = c.args.all.now in
    let r = c.index-all-number.result in
    let host = is_host all c.args.order.now c.requires.merge c.args.turn c.in_ok-host.host c.requires.some c.in_ok-host.ensures.host in
    let there = slice_get-get_or all c.from-number.result r (subst (λ n. n < length all) (sym c.from-number.ensures) host)
    ∙ ap Some (sym c.index-all-number.is) in
    has_journal c.args.files.now c.requires.replayed.0 all c.in_ok-host.host c.turns_of_host-own.result c.count_to_turn-count.result r
    c.requires.replayed.1 (subst (λ n. slice_get all n ≡ Some r) c.from-number.ensures there) c.count_to_turn-count.ensures
    c.in-None.ensures.none

pub returns-clause-place : goal.returns-clause-place
returns-clause-place g c =
    let all = c.args.all.now in
    let r = c.index-all-number.result in
    let host = is_host all c.args.order.now c.requires.merge c.args.turn c.in_ok-host.host c.requires.some c.in_ok-host.ensures.host in
    let there = slice_get-get_or all c.from-number.result r (subst (λ n. n < length all) (sym c.from-number.ensures) host)
    ∙ ap Some (sym c.index-all-number.is) in
    placed c.args.files.now all c.args.order.now c.args.turn c.in_ok-host.host c.turns_of_host-own.result
    c.count_to_turn-count.result c.in-Some.index r c.in_ok-host.ensures.host c.turns_of_host-own.ensures
    (subst (λ n. slice_get all n ≡ Some r) c.from-number.ensures there) c.count_to_turn-count.ensures
    c.in-Some.ensures.of_host
