use Rattle.std.proofs.Common.{◌∙◌}
use Rattle.rvm_elf.proofs.Headers.{header_passed}
use Rattle.rvm_files.proofs.OneMore.{all_left, counted_on, header_found, no_headers}
use Rattle.rvm_files.proofs.headers.first_header_fault.Goals as goal

pub loop-index-init : goal.loop-index-init
loop-index-init c = (no_headers c.args.first c.args.file.now, all_left c.args.count c.args.first c.args.file.now)

pub returns-in-Some : goal.returns-in-Some
returns-in-Some c =
    header_found c.args.count c.loop-index.index c.args.first c.args.file.now c.in-Some.fault c.loop-index-test.true
    c.loop-index.invariant.0 c.loop-index.invariant.1 c.in-Some.ensures.0 c.in-Some.ensures.1

pub loop-index-preserved : goal.loop-index-preserved
loop-index-preserved c = (
  counted_on c.loop-index.index c.args.first c.args.file.now c.loop-index.invariant.0 c.in_default.ensures,
  header_passed c.args.count c.loop-index.index c.args.first c.args.file.now c.loop-index-test.true c.in_default.ensures
      ∙ c.loop-index.invariant.1,
)
