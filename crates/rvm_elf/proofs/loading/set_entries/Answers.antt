use Rattle.std.proofs.Common.{◌≡◌, ◌-◌, ◌%◌, get_or, set, ap, ◌∙◌, arith}
use Rattle.rvm_board.specs.Board.{BoardState, new_hart}
use Rattle.rvm_board.specs.Pokes.{register_poked}
use Rattle.rvm_elf.specs.Load.{at_entry}
use Rattle.rvm_elf.specs.Placing.{with_harts}
use Rattle.rvm_elf.proofs.Placing.{entries_more}
use Rattle.rvm_elf.proofs.loading.set_entries.Goals as goal

pub loop-hart-preserved : goal.loop-hart-preserved
loop-hart-preserved g c =
    let h = c.loop-hart.hart in
    let entry = c.args.entry in
    let old = c.args.board.now in
    let mid = c.loop-hart.board in
    let poked : c.poke_reg.new.self ≡ record mid { plain = register_poked h 32 entry mid.plain } = grind (arith, c.poke_reg.ensures.poked) in
    let aligned : entry - entry % 4 ≡ entry = omega (arith, c.requires) in
    poked
    ∙ ap (λ pc. with_harts (set mid.plain.harts h (record (get_or mid.plain.harts h (new_hart 0 0)) { pc = pc })) mid) aligned
    ∙ ap (λ (b : BoardState). with_harts (set b.plain.harts h (at_entry entry (get_or b.plain.harts h (new_hart 0 0)))) b) c.loop-hart.invariant
    ∙ ap (λ hs. with_harts hs old) (entries_more (at_entry entry) old.plain.harts h (new_hart 0 0) (omega (arith, c.harts-hart-end.ensures.count)))
