use Rattle.std.proofs.Common.{◌++◌, ap, ◌∙◌, arith}
use Rattle.std.specs.Option.{option_to_list}
use Rattle.rvm_asm.specs.Images.{pieces_of}
use Rattle.rvm_elf.specs.File.{header_checked, piece_of_header}
use Rattle.rvm_elf.proofs.Headers.{header_is_checked, rest_is_checked, pieces_step, no_pieces_left}
use Rattle.rvm_elf.proofs.read.segments.Goals as goal

pub add_segment-requires : goal.add_segment-requires
add_segment-requires c =
    ap (λ h. header_checked h c.args.file.now) c.header_at-header.ensures
    ∙ header_is_checked c.args.count c.loop-i.i c.args.first c.args.file.now c.loop-i-test.true c.loop-i.invariant.checked

pub loop-i-preserved : goal.loop-i-preserved
loop-i-preserved c =
    let same = ap (λ h. pieces_of c.loop-i.segments.items ++ option_to_list (piece_of_header h c.args.file.now)) c.header_at-header.ensures in
    record {
      pieces =
          pieces_step c.args.count c.loop-i.i c.args.first c.args.file.now (pieces_of c.loop-i.segments.items) (pieces_of c.add_segment.new.segments.items) c.loop-i-test.true (c.in_ok-add_segment.ensures ∙ same)
          ∙ c.loop-i.invariant.pieces;
      checked = rest_is_checked c.args.count c.loop-i.i c.args.first c.args.file.now c.loop-i-test.true c.loop-i.invariant.checked;
    }

pub returns : goal.returns
returns c =
    no_pieces_left c.args.count c.loop-i.i c.args.first c.args.file.now (pieces_of c.loop-i.segments.items) (omega arith) ∙ c.loop-i.invariant.pieces
