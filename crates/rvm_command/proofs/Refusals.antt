-- Errors of files, images and scripts, by cases.
use Rattle.std.proofs.Common.{◌≡◌, ◌∙◌, ◌<◌, ◌≤◌, ◌^◌, ℕ, suc, false, List, [], ◌∷◌, length, Option, Some, None, refl, sym, ap, subst, inl, inr}
use Rattle.std.specs.Prelude.{Result, Ok, Err, IfErr, IfSome, ◌↔◌}
use Rattle.std.specs.Io.KnownBytes.{Appends, Keeps}
use Rattle.rvm_asm.specs.Images.{Piece, pieces_of}
use Rattle.rvm_asm.specs.declared.image.Segment.{Segment}
use Rattle.rvm_elf.specs.declared.error.ReadError.{ReadError}
use Rattle.rvm_elf.specs.declared.error.ReadError.TheVariants as file
use Rattle.rvm_elf.specs.declared.error.WriteError.{WriteError}
use Rattle.rvm_elf.specs.declared.error.WriteError.TheVariants as image
use Rattle.rvm_elf.specs.File.{Refuses}
use Rattle.rvm_elf.specs.Spelling.{in_reach}
use Rattle.rvm_asm.specs.Assembly.{IsAssembly}
use Rattle.rvm_board.specs.Guest.{Guest, GuestState}
use Rattle.rvm_debug.specs.declared.script.ScriptError.{ScriptError}
use Rattle.rvm_debug.specs.declared.script.ScriptError.TheVariants as script
use Rattle.rvm_debug.specs.Runs.{IsRun}
use Rattle.rvm_debug.specs.Script.{script_of}
use Rattle.rvm_debug.specs.Words.{lines}
use Rattle.rvm_command.specs.declared.refused.Refused.{Refused}
use Rattle.rvm_command.specs.Command.{FileImage}
use Rattle.rvm_command.specs.Ends.{IsFileRefusal, IsLoadRefusal, IsTextRefusal, IsUnwritable, IsScriptEnd, IsScriptEndOf}
use Rattle.rvm_command.specs.Refusals.{refused}
use Rattle.rvm_elf.specs.Refusals.{refusal_of_file, refusal_of_image}

-- an error of a file as a refusal
pub file_refused : (e : ReadError) (i : FileImage) (r : Refused) → Refuses e i → r ≡ refused (refusal_of_file e) → IsFileRefusal i r
file_refused file.OutOfMemory (Ok x) r h is = is
file_refused file.OutOfMemory (Err x) r h is = cc
file_refused file.BadMagic i r h is = rw h is
file_refused file.NotRiscV32 i r h is = rw h is
file_refused file.Truncated i r h is = rw h is
file_refused file.TooMany i r h is = rw h is

-- a guest without its file
pub file_not_loaded : (i : FileImage) (pages : ℕ) (r : Refused) → IsFileRefusal i r → IsLoadRefusal i pages r
file_not_loaded (Err e) pages r h = h
file_not_loaded (Ok x) pages r h = inl h

-- the refusal of a guest is at no line
pub not_loaded_at_no_line : (i : FileImage) (pages : ℕ) (r : Refused) → IsLoadRefusal i pages r → r.line ≡ None
not_loaded_at_no_line (Err e) pages r h = ap (λ (r : Refused). r.line) h
not_loaded_at_no_line (Ok x) pages r (inl h) = ap (λ (r : Refused). r.line) h
not_loaded_at_no_line (Ok x) pages r (inr h) = ap (λ (r : Refused). r.line) h.0

-- bytes that went out and stay
pub appends_kept : (a b c : Option (List ℕ)) (bs : List ℕ) → Appends a b bs → Keeps b c → Appends a c bs
appends_kept None b c bs h k = tt
appends_kept (Some x) None c bs h k = absurd h
appends_kept (Some x) (Some y) None bs h k = absurd k
appends_kept (Some x) (Some y) (Some z) bs h k = k ∙ h

pub still_kept : (a b c : Option (List ℕ)) → b ≡ a → Keeps b c → Keeps a c
still_kept a b c e k = subst (λ (o : Option (List ℕ)). Keeps o c) e k

-- a script that was answered and flushed
ended_told : (s : List ℕ) (answered : Result (Unit {0}) ScriptError) (old new : GuestState) (before mid after : Option (List ℕ))
    → IsRun answered (lines s) old new before mid
    → (answered ≡ Err script.TooLong → 2 ^ 26 < length s)
    → Keeps mid after → IsScriptEnd s (script_of (lines s) 1 old.guest) answered before after
ended_told s (Ok u) old new before mid after run long kept =
    (run.0, appends_kept before mid after (script_of (lines s) 1 old.guest).text run.1.text kept)
ended_told s (Err (script.BadToken n)) old new before mid after run long kept =
    (run.0, appends_kept before mid after (script_of (lines s) 1 old.guest).text run.1.text kept)
ended_told s (Err script.TooLong) old new before mid after run long kept = (long refl, still_kept before mid after run.1 kept)
ended_told s (Err script.OutOfMemory) old new before mid after run long kept = still_kept before mid after run.1 kept
ended_told s (Err script.LinkFault) old new before mid after run long kept = tt

-- the same of a reader's script, if that is known
pub script_ended : (remaining : Option (List ℕ)) (answered : Result (Unit {0}) ScriptError) (old new : GuestState) (before mid after : Option (List ℕ))
    → IfSome remaining (λ s. IsRun answered (lines s) old new before mid)
    → (answered ≡ Err script.TooLong → IfSome remaining (λ s. 2 ^ 26 < length s))
    → Keeps mid after → IsScriptEndOf remaining old.guest answered before after
script_ended None answered old new before mid after run long kept = tt
script_ended (Some s) answered old new before mid after run long kept = ended_told s answered old new before mid after run long kept

-- of a script whose reader or writer failed nothing is said
pub link_failed : (remaining : Option (List ℕ)) (guest : Guest) (before after : Option (List ℕ)) → IsScriptEndOf remaining guest (Err script.LinkFault) before after
link_failed None guest before after = tt
link_failed (Some s) guest before after = tt

count_pieces : (ss : List Segment) → length (pieces_of ss) ≡ length ss
count_pieces [] = refl
count_pieces (s ∷ ss) = ap suc (count_pieces ss)

-- an image without a file
pub image_unwritable : {T : Type 0} (ss : List Segment) (result : Result T WriteError)
    → ((result ≡ Err image.TooMany) ↔ (16 < length ss))
    → ((result ≡ Err image.OutOfReach) ↔ ((length ss ≤ 16) × (in_reach (pieces_of ss) ≡ false)))
    → IfErr result (IsUnwritable (pieces_of ss))
image_unwritable ss (Ok v) many shared = tt
image_unwritable ss (Err image.OutOfMemory) many shared = tt
image_unwritable ss (Err image.TooMany) many shared = subst (λ n. 16 < n) (sym (count_pieces ss)) (many.0 refl)
image_unwritable ss (Err image.OutOfReach) many reach =
    let h = reach.0 refl in (subst (λ n. n ≤ 16) (sym (count_pieces ss)) h.0, h.1)

-- an assembly without a file
pub image_refused : (text : List ℕ) (entry : ℕ) (pieces : List Piece) (e : WriteError) (r : Refused) → IsAssembly text entry pieces → IsUnwritable pieces e
    → r ≡ refused (refusal_of_image e) → IsTextRefusal text r
image_refused text entry pieces e r made h is = inr (inr (e, entry, pieces, made, h, is))
