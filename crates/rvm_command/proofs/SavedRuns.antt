-- How runs of saved guests begin and end.
use Rattle.std.proofs.Common.{◌≡◌, ◌⊎◌, inl, inr, ℕ, ◌*◌, ◌/◌, ◌^◌, ◌≤◌, Bool, true, false, List, [], length, replicate, Option, Result, refl, sym, ap, subst, arith, ◌∙◌}
use Rattle.std.proofs.lemmas.List.{length-replicate}
use Rattle.rvm_arguments.specs.declared.arguments.ReportArguments.{ReportArguments}
use Rattle.rvm_arguments.specs.declared.arguments.RunArguments.{RunArguments}
use Rattle.rvm_asm.specs.declared.image.Segment.{Segment}
use Rattle.rvm_command.specs.Counting.{Covers}
use Rattle.rvm_elf.specs.Load.{pieces_fit}
use Rattle.rvm_command.specs.declared.refused.Refused.{Refused}
use Rattle.rvm_command.specs.declared.run.Ended.{Ended}
use Rattle.rvm_command.specs.Ends.{CanBegin, CanBeginAs, CanRun, CanRunSaved, IsBroken, IsFaultOf, IsImageRunEnd, IsRunEnd, IsRunEndOf, IsSavedRefusal, IsSavedRunEnd}
use Rattle.rvm_command.specs.Refusals.{refused}
use Rattle.rvm_refusal.specs.declared.refusal.Refusal.TheVariants.{OutOfMemory}
use Rattle.rvm_command.specs.declared.saved_fault.RestoreFault.{RestoreFault}
use Rattle.rvm_command.specs.declared.saved_fault.RestoreFault.TheVariants as restore
use Rattle.rvm_command.specs.declared.saved_fault.SaveFault.{SaveFault}
use Rattle.rvm_command.specs.declared.saved_fault.SaveFault.TheVariants as save
use Rattle.rvm_command.specs.Restoring.{IsRefused}
use Rattle.rvm_command.specs.SavedRefusals.{restore_refusal, save_refusal}
use Rattle.rvm_command.specs.Saved.{IsSavedGuest, is_saved}

pub ended_saved : (a : RunArguments) (file input symbols : List ℕ) (r : Result Ended Refused)
    (before after trace_before trace_after report_before report_after : Option (List ℕ)) → is_saved a.guest.raw file ≡ true
    → IsSavedRunEnd a file input symbols r before after trace_before trace_after report_before report_after
    → IsRunEnd a file input symbols r before after trace_before trace_after report_before report_after
ended_saved a file input symbols r before after trace_before trace_after report_before report_after is e =
    subst (λ (b : Bool). IsRunEndOf b a file input symbols r before after trace_before trace_after report_before report_after)
    (sym is) e

pub ended_image : (a : RunArguments) (file input symbols : List ℕ) (r : Result Ended Refused)
    (before after trace_before trace_after report_before report_after : Option (List ℕ)) → is_saved a.guest.raw file ≡ false
    → IsImageRunEnd a file input symbols r before after trace_before trace_after report_before report_after
    → IsRunEnd a file input symbols r before after trace_before trace_after report_before report_after
ended_image a file input symbols r before after trace_before trace_after report_before report_after is e =
    subst (λ (b : Bool). IsRunEndOf b a file input symbols r before after trace_before trace_after report_before report_after)
    (sym is) e

pub begins_saved : (X : Type 0) (a : RunArguments) (file symbols : List ℕ) → is_saved a.guest.raw file ≡ true
    → CanRunSaved file symbols ⊎ X → CanBegin a file symbols ⊎ X
begins_saved X a file symbols is (inl can) = inl (subst (λ (b : Bool). CanBeginAs b a file symbols) (sym is) can)
begins_saved X a file symbols is (inr same) = inr same

pub begins_image : (X : Type 0) (a : RunArguments) (file symbols : List ℕ) → is_saved a.guest.raw file ≡ false
    → CanRun a file symbols ⊎ X → CanBegin a file symbols ⊎ X
begins_image X a file symbols is (inl can) = inl (subst (λ (b : Bool). CanBeginAs b a file symbols) (sym is) can)
begins_image X a file symbols is (inr same) = inr same

-- a saved guest that was not read
pub not_read : (file : List ℕ) (f : RestoreFault) (r : Refused) → r ≡ refused (restore_refusal f)
    → IsRefused (IsSavedGuest file) f → IsSavedRefusal file r
not_read file f r is why = (f, is, why)

-- no room for numbers of its words
pub no_room : (file : List ℕ) (r : Refused) → r ≡ refused OutOfMemory → IsSavedRefusal file r
no_room file r is = (restore.OutOfMemory, is, inl refl)

-- a run that broke off
pub broken : (report : Option ReportArguments) (f : SaveFault) (r : Refused) → r ≡ refused (save_refusal f)
    → IsFaultOf report f → IsBroken report r
broken report save.LinkFault r is why = inl is
broken report save.OutOfMemory r is why = inr (is, why)

-- RAM of at most 2^24 bytes has at most 4096 pages
pub few_pages : (n : ℕ) → n ≤ 2 ^ 24 → n / 4096 ≤ 4096
few_pages n few = omega (arith, few)

-- numbers of the words of a guest that has no image
pub counts_cover : (pages n : ℕ) (counts : List ℕ) (segments : List Segment) → segments ≡ [] → n ≡ pages
    → counts ≡ replicate (1024 * n) 0 → n ≤ 4096 → Covers pages counts segments []
unfolding pieces_fit
counts_cover pages n counts segments none same zeros few =
    let size : length counts ≡ 1024 * n = ap length zeros ∙ length-replicate (1024 * n) 0 in
    subst (λ (k : ℕ). Covers k counts segments []) same (
    subst (λ (s : List Segment). Covers n counts s []) (sym none)
    (record { listed = refl; size = size; few = omega (arith, size, few); inside = refl })
    )
