use Rattle.std.proofs.Common.{◌∙◌, [], arith, rules}
use Rattle.std.specs.Slice.Iter.{chunks_rest}
use Rattle.rvm_link.proofs.Records.{goes_on, is_done, none_written}
use Rattle.rvm_link.proofs.record.write_data.Goals as goal

pub loop-piece-init : goal.loop-piece-init
loop-piece-init g c = record {
  can_next = search rules;
  is_finite = tt;
  size = search rules;
  written = record { done = []; carries = none_written _; parts = search rules };
}

pub loop-piece-preserved : goal.loop-piece-preserved
loop-piece-preserved g c =
    let steps = c.in-Some.ensures.steps in
    let size = steps.0 ∙ c.loop-piece.invariant.size in
    let fits = rw c.loop-piece.invariant.size at steps.1.1 in
    record {
      can_next = rw size (omega arith);
      is_finite = tt;
      size = size;
      written =
          goes_on _ _ _ (chunks_rest c.next.new.self) _ _ _ steps.1.0 (omega (arith, fits))
          c.loop-piece.invariant.written c.in_ok-write_piece.ensures;
    }

pub returns : goal.returns
returns g c = is_done _ _ _ _ c.in-None.ensures.steps.1.0 c.loop-piece.invariant.written
