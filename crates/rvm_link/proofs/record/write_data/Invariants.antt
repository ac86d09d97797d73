use Rattle.std.proofs.Common.{◌≡◌}
use Rattle.std.specs.Slice.Iter.{chunks_rest, chunks_size}
use Rattle.rvm_link.proofs.Records.{IsUnderWay}
use Rattle.rvm_link.proofs.record.write_data.Given as goal

abbrev pub invariant-loop-piece : goal.invariant-loop-piece
invariant-loop-piece g l = record {
  can_next : (goal.iterator-loop-piece g).can_next l.piece-iterator;
  is_finite : (goal.iterator-loop-piece g).is_finite l.piece-iterator;
  size : chunks_size l.piece-iterator ≡ 65535;
  written : IsUnderWay l.bytes (chunks_rest l.piece-iterator)
      (g.W.Write.contents l.initial.output) (g.W.Write.contents l.output);
}
