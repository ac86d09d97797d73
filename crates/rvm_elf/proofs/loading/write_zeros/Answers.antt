use Rattle.std.proofs.Common.{◌≡◌, ◌+◌, ℕ, length, sym, replicate, arith}
use Rattle.std.proofs.lemmas.List.{length-replicate, replicate-append-replicate}
use Rattle.rvm_elf.proofs.Placing.{then_written, lies_in_ram}
use Rattle.rvm_elf.proofs.loading.write_zeros.Goals as goal

pub loop-done-preserved : goal.loop-done-preserved
loop-done-preserved g c =
    let done = c.loop-done.done in
    let more = c.min-more.result in
    let inside = lies_in_ram c.args.count c.args.address c.args.board.now.plain.shared.bytes c.requires.inside in
    let front : length (replicate {A = ℕ} done 0) ≡ done = length-replicate {A = ℕ} done 0 in
    let next : length (replicate {A = ℕ} more 0) ≡ more = length-replicate {A = ℕ} more 0 in
    record {
      board =
          then_written c.args.address (c.args.address + done) (replicate done 0) (replicate more 0) (replicate (done + more) 0) c.args.board.now c.loop-done.board c.poke_zeros.new.board
          inside.low (omega (arith, front)) (omega (arith, next, inside.high)) (sym (replicate-append-replicate done more 0)) c.loop-done.invariant.board c.poke_zeros.ensures;
      most = omega arith;
    }
