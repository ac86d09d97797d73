-- Faults of a line, as `?` returns them.
use Rattle.std.proofs.Common.{◌≡◌, ℕ, List, Option, Result, Ok, Err, refl, sym, subst}
use Rattle.std.specs.Result.{IsErrAnd}
use Rattle.rvm_core.specs.Worlds.{BoardWorld}
use Rattle.rvm_core.specs.declared.script_lines.LineFault.{LineFault}
use Rattle.rvm_core.specs.declared.script_lines.LineFault.TheVariants as fault
use Rattle.rvm_core.specs.Runs.{IsDone}
use Rattle.rvm_core.specs.WorldScript.{Replied}

-- the answer was not written
pub link_failed : (r : Result (Unit {0}) LineFault) (d : Replied) (spent : Type 0) (new : BoardWorld)
    (before after : Option (List ℕ)) → IsErrAnd r (λ e. e ≡ fault.LinkFault) → new ≡ d.standing.world
    → IsDone r d spent new before after
link_failed (Ok u) d spent new before after failed made = absurd failed
link_failed (Err e) d spent new before after failed made =
    subst (λ f. IsDone (Err f) d spent new before after) (sym failed) made

-- memory ran out before the answer
pub memory_ran_out : (r : Result (Unit {0}) LineFault) (d : Replied) (spent : Type 0) (new : BoardWorld)
    (before : Option (List ℕ)) → IsErrAnd r (λ e. e ≡ fault.OutOfMemory) → spent → IsDone r d spent new before before
memory_ran_out (Ok u) d spent new before failed left = absurd failed
memory_ran_out (Err e) d spent new before failed left =
    subst (λ f. IsDone (Err f) d spent new before before) (sym failed) (left, refl)
