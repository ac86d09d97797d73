use Rattle.std.proofs.Common.{◌≡◌, ◌∙◌, arith}
use Rattle.rvm_board.specs.Pokes.{memory_poked}
use Rattle.rvm_elf.proofs.Blank.{poked_blank}
use Rattle.rvm_elf.proofs.loading.poke.Goals as goal

pub returns : goal.returns
returns g c =
    let written : c.poke_mem.new.self ≡ memory_poked c.args.address c.args.bytes.now c.args.board.now = grind (arith, c.poke_mem.ensures.poked) in
    written ∙ poked_blank c.args.address c.args.bytes.now c.args.board.now c.requires.blank
