-- How a session that was answered and flushed ended.
use Rattle.std.proofs.Common.{◌≡◌, ℕ, Bool, true, false, List, Result, Ok, Err, Option, Some, None, ◌<◌, ◌^◌, length, refl, IfSome}
use Rattle.std.specs.Io.KnownBytes.{Keeps}
use Rattle.rvm_board.specs.Guest.{Guest, GuestState}
use Rattle.rvm_debug.specs.declared.script.ScriptError.{ScriptError}
use Rattle.rvm_debug.specs.declared.script.ScriptError.TheVariants.{OutOfMemory, TooLong, BadToken, LinkFault}
use Rattle.rvm_debug.specs.Words.{lines}
use Rattle.rvm_command.specs.Ends.{IsExtendedEndOf, IsScriptEnd, IsSessionEndOf}
use Rattle.rvm_command.specs.ExtendedRuns.{IsRunOf, IsSession, session_told}
use Rattle.rvm_command.proofs.Refusals.{appends_kept, link_failed, script_ended, still_kept}

-- a session that was answered and flushed
ended_told : (s : List ℕ) (answered : Result (Unit {0}) ScriptError) (old new : GuestState) (before mid after : Option (List ℕ))
    → IsSession answered (lines s) old new before mid
    → (answered ≡ Err TooLong → 2 ^ 26 < length s)
    → Keeps mid after → IsScriptEnd s (session_told (lines s) old.guest) answered before after
ended_told s (Ok u) old new before mid after run long kept =
    (run.0, appends_kept before mid after (session_told (lines s) old.guest).text run.1.text kept)
ended_told s (Err (BadToken n)) old new before mid after run long kept =
    (run.0, appends_kept before mid after (session_told (lines s) old.guest).text run.1.text kept)
ended_told s (Err TooLong) old new before mid after run long kept = (long refl, still_kept before mid after run.1 kept)
ended_told s (Err OutOfMemory) old new before mid after run long kept = still_kept before mid after run.1 kept
ended_told s (Err LinkFault) old new before mid after run long kept = tt

-- the same of a reader's session, if that is known
session_ended : (remaining : Option (List ℕ)) (answered : Result (Unit {0}) ScriptError) (old new : GuestState) (before mid after : Option (List ℕ))
    → IfSome remaining (λ s. IsSession answered (lines s) old new before mid)
    → (answered ≡ Err TooLong → IfSome remaining (λ s. 2 ^ 26 < length s))
    → Keeps mid after → IsExtendedEndOf remaining old.guest answered before after
session_ended None answered old new before mid after run long kept = tt
session_ended (Some s) answered old new before mid after run long kept = ended_told s answered old new before mid after run long kept

-- of a session whose reader or writer failed nothing is said
session_link_failed : (remaining : Option (List ℕ)) (guest : Guest) (before after : Option (List ℕ)) → IsExtendedEndOf remaining guest (Err LinkFault) before after
session_link_failed None guest before after = tt
session_link_failed (Some s) guest before after = tt

-- the same of both
pub either_ended : (extended : Bool) (remaining : Option (List ℕ)) (answered : Result (Unit {0}) ScriptError) (old new : GuestState) (before mid after : Option (List ℕ))
    → IfSome remaining (λ s. IsRunOf extended answered (lines s) old new before mid)
    → (answered ≡ Err TooLong → IfSome remaining (λ s. 2 ^ 26 < length s))
    → Keeps mid after → IsSessionEndOf extended remaining old.guest answered before after
either_ended true remaining answered old new before mid after run long kept = session_ended remaining answered old new before mid after run long kept
either_ended false remaining answered old new before mid after run long kept = script_ended remaining answered old new before mid after run long kept

pub either_failed : (extended : Bool) (remaining : Option (List ℕ)) (guest : Guest) (before after : Option (List ℕ)) → IsSessionEndOf extended remaining guest (Err LinkFault) before after
either_failed true remaining guest before after = session_link_failed remaining guest before after
either_failed false remaining guest before after = link_failed remaining guest before after
