use Rattle.std.proofs.Common.{inl, refl, subst, sym}
use Rattle.std.proofs.lemmas.Result.{err_from_is_err_and}
use Rattle.rvm_command.specs.Ends.{IsTextRefusal}
use Rattle.rvm_command.proofs.asm_command.assemble_to.Goals as goal

pub returns-in_err-file-clause-end : goal.returns-in_err-file-clause-end
returns-in_err-file-clause-end g c =
    let p = err_from_is_err_and c.from_residual.result c.from_residual.ensures.1 in
    rw p.1 (inl (subst (IsTextRefusal c.args.source.now) (sym p.2) c.in_err-file.ensures.refused, refl))
