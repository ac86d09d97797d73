use Rattle.std.proofs.Common.{sym, ap, ◌∙◌, arith}
use Rattle.std.proofs.lemmas.Result.{err_from_is_err_and}
use Rattle.rvm_elf.specs.File.{header_checked}
use Rattle.rvm_elf.proofs.Headers.{header_passed, header_failed, none_left}
use Rattle.rvm_elf.proofs.read.check_headers.Goals as goal

pub returns-in_err-check_header : goal.returns-in_err-check_header
returns-in_err-check_header c =
    let p = err_from_is_err_and c.from_residual.result c.from_residual.ensures.1 in
    let same = ap (λ h. header_checked h c.args.file.now) c.header_at.ensures in
    rw (p.1, p.2)
    (sym (header_failed c.args.count c.loop-i.i c.args.first c.args.file.now c.in_err-check_header.field-0.0 c.loop-i-test.true (sym (c.in_err-check_header.ensures ∙ same)))
    ∙ c.loop-i.invariant)

pub loop-i-preserved : goal.loop-i-preserved
loop-i-preserved c =
    let same = ap (λ h. header_checked h c.args.file.now) c.header_at.ensures in
    header_passed c.args.count c.loop-i.i c.args.first c.args.file.now c.loop-i-test.true (sym (c.in_ok-check_header.ensures ∙ same))
    ∙ c.loop-i.invariant

pub returns : goal.returns
returns c = sym (none_left c.args.count c.loop-i.i c.args.first c.args.file.now (omega arith)) ∙ c.loop-i.invariant
