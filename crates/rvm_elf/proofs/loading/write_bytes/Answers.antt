use Rattle.std.proofs.Common.{◌≡◌, ◌+◌, ◌-◌, ◌++◌, length, ap, sym, ◌∙◌, take, drop, slice_range, arith}
use Rattle.std.proofs.lemmas.List.{length-take, length-drop}
use Rattle.std.proofs.Math.Seq.{take-add}
use Rattle.rvm_elf.proofs.Placing.{then_written, lies_in_ram}
use Rattle.rvm_elf.proofs.loading.write_bytes.Goals as goal

pub loop-done-preserved : goal.loop-done-preserved
loop-done-preserved g c =
    let bytes = c.args.bytes.now in
    let done = c.loop-done.done in
    let end = c.min-end.result in
    let inside = lies_in_ram (length bytes) c.args.address c.args.board.now.plain.shared.bytes c.requires.inside in
    let order : done + (end - done) ≡ end = omega arith in
    let front : length (take done bytes) ≡ done = omega (arith, length-take done bytes) in
    let next : length (slice_range bytes done end) ≡ end - done = omega (arith, length-take (end - done) (drop done bytes), length-drop done bytes) in
    let both : take end bytes ≡ take done bytes ++ slice_range bytes done end = ap (λ n. take n bytes) (sym order) ∙ take-add done (end - done) bytes in
    record {
      board =
          then_written c.args.address (c.args.address + done) (take done bytes) (slice_range bytes done end) (take end bytes) c.args.board.now c.loop-done.board c.poke.new.board
          inside.low (omega (arith, front)) (omega (arith, next, inside.high)) both c.loop-done.invariant.board c.poke.ensures;
      most = omega arith;
    }
