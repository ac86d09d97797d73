use Rattle.std.proofs.Common.{◌≡◌, ◌<◌, ◌+◌, ◌-◌, ◌++◌, ℕ, length, replicate, refl, ap, ◌∙◌, arith}
use Rattle.std.proofs.lemmas.List.{length-replicate}
use Rattle.rvm_mem.specs.Bytes.{replaced}
use Rattle.rvm_hart.specs.Bus.{ram_base}
use Rattle.rvm_asm.specs.Images.{size, piece_of}
use Rattle.rvm_elf.specs.Placing.{with_ram}
use Rattle.rvm_elf.proofs.Placing.{then_written}
use Rattle.rvm_elf.proofs.Loaded.{some_inside}
use Rattle.rvm_elf.proofs.loading.write_segment.Goals as goal
use Rattle.rvm_elf.proofs.loading.write_segment.Goals.{else-is_empty-via-then-is_empty+else-segment-eq0, else-is_empty-via-else-is_empty}

pub returns : goal.returns
returns g c =
    let s = c.args.segment.now in
    let old = c.args.board.now in
    let some : 0 < size (piece_of s) =
    elim c.else-is_empty.branch [ else-is_empty-via-then-is_empty+else-segment-eq0 w ↦ grind (arith, w) | else-is_empty-via-else-is_empty w ↦ grind (arith, w) ] in
    let is = some_inside (piece_of s) (length old.plain.shared.bytes) c.requires.inside some in
    let zeros : length (replicate {A = ℕ} s.zeros 0) ≡ s.zeros = length-replicate {A = ℕ} s.zeros 0 in
    then_written s.address (s.address + c.len.result) s.bytes.items (replicate s.zeros 0) (s.bytes.items ++ replicate s.zeros 0) old c.write_bytes.new.board c.write_zeros.new.board
    is.low (omega arith) (omega (arith, zeros, is.high)) refl
    (c.write_bytes.ensures ∙ ap (λ bytes. with_ram (replaced (s.address - ram_base) bytes old.plain.shared.bytes) old) c.deref.ensures.value)
    c.write_zeros.ensures
