use Rattle.std.proofs.Common.{◌<◌, option_map, refl, sym, ap, subst, ◌∙◌, arith}
use Rattle.rvm_board.specs.Guest.{Guest}
use Rattle.rvm_board.specs.State.{guest_of}
use Rattle.rvm_state.specs.Spelling.{Spells}
use Rattle.rvm_board.specs.Snapshot.{state_in}
use Rattle.rvm_state.proofs.Reading.{can_restore, spells, spells_none}
use Rattle.rvm_state.proofs.read.read_state.Goals as goal

pub returns-in_default-clause-bad : goal.returns-in_default-clause-bad
returns-in_default-clause-bad g c =
    let none = sym (ap (option_map state_in) c.in_default.is) ∙ c.snapshot_of.ensures in
    (λ _. spells_none c.args.bytes.now (g.M.Memory.bytes c.args.ram) c.len-size.result c.len-size.ensures.length none, λ _. refl)

pub restore-requires-clause-held : goal.restore-requires-clause-held
restore-requires-clause-held g c =
    let there = sym (ap (option_map state_in) c.in-Some.is) ∙ c.snapshot_of.ensures in
    can_restore c.args.bytes.now (g.M.Memory.bytes c.args.ram) c.len-size.result (state_in c.in-Some.snapshot) (λ i. omega (arith, c.type_inv.bytes i)) c.len-size.ensures.length there

pub returns-in-Ok-clause-found : goal.returns-in-Ok-clause-found
returns-in-Ok-clause-found g c =
    let there = sym (ap (option_map state_in) c.in-Some.is) ∙ c.snapshot_of.ensures in
    let some : 0 < c.len-size.result = omega (arith, c.if-size-eq0.false) in
    subst (λ (x : Guest). Spells c.args.bytes.now (g.M.Memory.bytes c.args.ram) x)
    (sym c.in-Ok.ensures.guest)
    (spells c.args.bytes.now (g.M.Memory.bytes c.args.ram) c.len-size.result (state_in c.in-Some.snapshot) (λ i. omega (arith, c.type_inv.bytes i)) some c.len-size.ensures.length there)

pub returns-in-Err-clause-bad : goal.returns-in-Err-clause-bad
returns-in-Err-clause-bad g c =
    let there = sym (ap (option_map state_in) c.in-Some.is) ∙ c.snapshot_of.ensures in
    let some : 0 < c.len-size.result = omega (arith, c.if-size-eq0.false) in
    let one = spells c.args.bytes.now (g.M.Memory.bytes c.args.ram) c.len-size.result (state_in c.in-Some.snapshot) (λ i. omega (arith, c.type_inv.bytes i)) some c.len-size.ensures.length there in
    (λ e. absurd cc, λ none. absurd (none (guest_of (g.M.Memory.bytes c.args.ram) (state_in c.in-Some.snapshot)) one))

pub returns-in-Err-clause-memory : goal.returns-in-Err-clause-memory
returns-in-Err-clause-memory g c =
    let there = sym (ap (option_map state_in) c.in-Some.is) ∙ c.snapshot_of.ensures in
    let some : 0 < c.len-size.result = omega (arith, c.if-size-eq0.false) in
    λ _. (
      guest_of (g.M.Memory.bytes c.args.ram) (state_in c.in-Some.snapshot),
      spells c.args.bytes.now (g.M.Memory.bytes c.args.ram) c.len-size.result (state_in c.in-Some.snapshot) (λ i. omega (arith, c.type_inv.bytes i)) some c.len-size.ensures.length there,
    )
