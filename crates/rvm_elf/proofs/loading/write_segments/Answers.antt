use Rattle.std.proofs.Common.{◌≡◌, true, ◌+◌, length, ap, sym, ◌∙◌, drop, arith}
use Rattle.rvm_asm.specs.Images.{piece_of, pieces_of}
use Rattle.rvm_elf.specs.Load.{piece_fits}
use Rattle.rvm_elf.specs.Placing.{with_ram, placed, placed_all}
use Rattle.rvm_elf.proofs.Placing.{and_first, and_second, fit_more, place_more, place_none, ram_alone}
use Rattle.rvm_elf.proofs.Loaded.{length-placed}
use Rattle.rvm_elf.proofs.loading.write_segments.Goals as goal

pub write_segment-requires-clause-inside : goal.write_segment-requires-clause-inside
write_segment-requires-clause-inside g c =
    let size = length c.args.board.now.plain.shared.bytes in
    let one = fit_more c.args.segments.now c.loop-segment.segment-index size c.segment-item.result c.loop-segment-test.true c.segment-item.is in
    ap (piece_fits (piece_of c.segment-item.result)) c.loop-segment.invariant.size ∙ and_first _ _ (sym one ∙ c.loop-segment.invariant.fits)

pub loop-segment-preserved : goal.loop-segment-preserved
loop-segment-preserved g c =
    let size = length c.args.board.now.plain.shared.bytes in
    let mid = c.loop-segment.board.plain.shared.bytes in
    let p = piece_of c.segment-item.result in
    let rest = pieces_of (drop (c.loop-segment.segment-index + 1) c.args.segments.now) in
    let one = fit_more c.args.segments.now c.loop-segment.segment-index size c.segment-item.result c.loop-segment-test.true c.segment-item.is in
    let fits : piece_fits p (length mid) ≡ true = ap (piece_fits p) c.loop-segment.invariant.size ∙ and_first _ _ (sym one ∙ c.loop-segment.invariant.fits) in
    let ram : c.write_segment.new.board.plain.shared.bytes ≡ placed p mid = ap (λ b. b.plain.shared.bytes) c.write_segment.ensures in
    record {
      board = ram_alone c.args.board.now c.loop-segment.board c.write_segment.new.board (placed p mid) c.loop-segment.invariant.board c.write_segment.ensures;
      size = ap (λ xs. length xs) ram ∙ length-placed p mid fits ∙ c.loop-segment.invariant.size;
      ram =
          ap (placed_all rest) ram
          ∙ sym (place_more c.args.segments.now c.loop-segment.segment-index c.segment-item.result mid c.loop-segment-test.true c.segment-item.is)
          ∙ c.loop-segment.invariant.ram;
      fits = and_second _ _ (sym one ∙ c.loop-segment.invariant.fits);
    }

pub returns : goal.returns
returns g c =
    c.loop-segment.invariant.board
    ∙ ap (λ ram. with_ram ram c.args.board.now)
    (sym (place_none c.args.segments.now c.loop-segment.segment-index c.loop-segment.board.plain.shared.bytes (omega arith)) ∙ c.loop-segment.invariant.ram)
