-- How scripts end, by cases.
use Rattle.std.proofs.Common.{◌≡◌, ◌∙◌, ℕ, ◌^◌, ◌<◌, List, Option, Some, None, refl, sym, ap, subst, inl, inr, true, false, Bool, ◌≤◌, length, take, replicate}
use Rattle.std.specs.Prelude.{Result, Ok, Err, IfOk, IfSome, ◌↔◌}
use Rattle.std.specs.Io.KnownBytes.{Appends, Keeps}
use Rattle.std.proofs.lemmas.List.{length-replicate, take-replicate}
use Rattle.rvm_arguments.specs.declared.arguments.ScriptArguments.{ScriptArguments}
use Rattle.rvm_command.proofs.Refusals.{not_loaded_at_no_line}
use Rattle.rvm_command.specs.Command.{FileImage, guest_of, image_of}
use Rattle.rvm_board.specs.Guest.{Guest}
use Rattle.rvm_guest.specs.TheGuest.{board}
use Rattle.rvm_protocol.specs.Shown.{Shown}
use Rattle.rvm_protocol.specs.Told.{Told, at_start}
use Rattle.rvm_protocol.specs.World.{new_world}
use Rattle.rvm_command.specs.declared.refused.Refused.{Refused}
use Rattle.rvm_command.specs.Refusals.{refused}
use Rattle.rvm_debug.specs.Words.{lines}
use Rattle.rvm_core.specs.Refusals.{refusal_of_world}
use Rattle.rvm_core.specs.Worlds.{BoardWorld, is_sized, limit_at}
use Rattle.rvm_core.specs.declared.error.WorldError.{WorldError}
use Rattle.rvm_core.specs.declared.error.WorldError.TheVariants as world
use Rattle.rvm_move.specs.ScriptEnds.{IsBeginRefusal, IsWorldRefusal, IsWorldScriptEnd, IsWorldScriptEndOf}
use Rattle.rvm_move.specs.FirstWorld.{at_first, limits_of}
use Rattle.rvm_core.proofs.Spending.{line_asks}
use Rattle.rvm_core.specs.declared.script.WorldScriptError.{WorldScriptError}
use Rattle.rvm_core.specs.declared.script.WorldScriptError.TheVariants as script
use Rattle.rvm_core.specs.Runs.{IsWorldRun, standing}
use Rattle.rvm_core.specs.WorldScript.{Standing, world_script_of}

-- the refusal of a guest, or of a world for it, is at no line
pub not_begun_at_no_line : (a : ScriptArguments) (file : List ℕ) (r : Refused) → IsBeginRefusal a file r → r.line ≡ None
not_begun_at_no_line a file r (inl h) = not_loaded_at_no_line (image_of a.guest.raw file) a.guest.pages r h
not_begun_at_no_line a file r (inr (begun, inl h)) = ap (λ (r : Refused). r.line) h.0
not_begun_at_no_line a file r (inr (begun, inr h)) = ap (λ (r : Refused). r.line) h.0

-- bytes that went out and stay
appends_kept : (a b c : Option (List ℕ)) (bs : List ℕ) → Appends a b bs → Keeps b c → Appends a c bs
appends_kept None b c bs h k = tt
appends_kept (Some x) None c bs h k = absurd h
appends_kept (Some x) (Some y) None bs h k = absurd k
appends_kept (Some x) (Some y) (Some z) bs h k = k ∙ h

still_kept : (a b c : Option (List ℕ)) → b ≡ a → Keeps b c → Keeps a c
still_kept a b c e k = subst (λ (o : Option (List ℕ)). Keeps o c) e k

-- a script that was run and flushed
ended_run : (text : List ℕ) (s : Standing) (answered : Result (Unit {0}) WorldScriptError) (new : BoardWorld) (before mid after : Option (List ℕ))
    → (answered ≡ Err script.TooLong → 2 ^ 26 < length text)
    → IsWorldRun answered (lines text) s new before mid → Keeps mid after → IsWorldScriptEnd text s answered before after
ended_run text s (Ok u) new before mid after long run kept =
    (run.0, appends_kept before mid after (world_script_of (lines text) 1 s).text run.2 kept)
ended_run text s (Err (script.BadToken n)) new before mid after long run kept =
    (run.0, appends_kept before mid after (world_script_of (lines text) 1 s).text run.2 kept)
ended_run text s (Err (script.LineOutOfMemory n)) new before mid after long run kept =
    record {
      done = run.done;
      line = run.line;
      left = run.left;
      whole = run.whole;
      number = run.number;
      on = run.on;
      asks = line_asks run.line (world_script_of run.done 1 s).standing new run.spent;
      text = appends_kept before mid after (world_script_of run.done 1 s).text run.text kept;
    }
ended_run text s (Err script.TooLong) new before mid after long run kept =
    (long refl, still_kept before mid after run.1 kept)
ended_run text s (Err script.OutOfMemory) new before mid after long run kept = still_kept before mid after run.1 kept
ended_run text s (Err script.LinkFault) new before mid after long run kept = tt

-- the same of a reader's script, if that is known
pub script_ended : (remaining : Option (List ℕ)) (s : Standing) (answered : Result (Unit {0}) WorldScriptError) (new : BoardWorld) (before mid after : Option (List ℕ))
    → (answered ≡ Err script.TooLong → IfSome remaining (λ text. 2 ^ 26 < length text))
    → IfSome remaining (λ text. IsWorldRun answered (lines text) s new before mid)
    → Keeps mid after → IsWorldScriptEndOf remaining s answered before after
script_ended None s answered new before mid after long run kept = tt
script_ended (Some text) s answered new before mid after long run kept =
    ended_run text s answered new before mid after long run kept

-- of a script whose reader or writer failed nothing is said
pub link_failed : (remaining : Option (List ℕ)) (s : Standing) (before after : Option (List ℕ)) → IsWorldScriptEndOf remaining s (Err script.LinkFault) before after
link_failed None s before after = tt
link_failed (Some text) s before after = tt

no_other : (b : Bool) → (b ≡ false → ⊥) → b ≡ true
no_other true h = refl
no_other false h = absurd (h refl)

-- the error of a world with these limits as a refusal
pub no_world : (e : WorldError) (version hosts : ℕ) (limits : List ℕ) (r : Refused) → limits ≡ limits_of hosts
    → ((e ≡ world.BadSize) ↔ (is_sized version limits ≡ false)) → r ≡ refused (refusal_of_world e) → IsWorldRefusal version hosts r
no_world world.BadSize version hosts limits r all size told =
    inl (told, ap (is_sized version) (sym all) ∙ size.0 refl)
no_world world.OutOfMemory version hosts limits r all size told =
    inr (told, ap (is_sized version) (sym all) ∙ no_other (is_sized version limits) (λ h. let e : world.OutOfMemory ≡ world.BadSize = size.1 h in cc))

-- this many of eight limits are those of this many hosts
pub sized_hosts : (version hosts : ℕ) → hosts ≤ 8 → is_sized version (take hosts (replicate 8 4096)) ≡ true
    → is_sized version (limits_of hosts) ≡ true
sized_hosts version hosts few sized = ap (is_sized version) (sym (take-replicate hosts 8 4096 few)) ∙ sized

pub world_of_hosts : (w : BoardWorld) (version hosts : ℕ) (g : Guest) → hosts ≤ 8
    → w ≡ new_world board version 0 g (length {A = ℕ} (take hosts (replicate 8 4096))) (limit_at (take hosts (replicate 8 4096)))
    → w ≡ new_world board version 0 g hosts (limit_at (limits_of hosts))
world_of_hosts w version hosts g few made =
    made ∙ ap (λ (l : List ℕ). new_world board version 0 g (length {A = ℕ} l) (limit_at l)) (take-replicate hosts 8 4096 few)
    ∙ ap (λ (n : ℕ). new_world board version 0 g n (limit_at (limits_of hosts))) (length-replicate hosts 4096)

-- what a script is answered in a new world with the guest of an image
pub answered_first : (image : FileImage) (harts pages version hosts : ℕ) (w : BoardWorld) (remaining : Option (List ℕ)) (answered : Result (Unit {0}) WorldScriptError) (before after : Option (List ℕ))
    → IfOk image (λ i. w ≡ new_world board version 0 (guest_of harts pages i.0 i.1) hosts (limit_at (limits_of hosts)))
    → IfOk image (λ i. Shown w.hosts (at_start 0 (guest_of harts pages i.0 i.1)))
    → ((t : Told Guest) → Shown w.hosts t → IsWorldScriptEndOf remaining (standing w t) answered before after)
    → IfOk image (λ i. IsWorldScriptEndOf remaining (at_first version hosts (guest_of harts pages i.0 i.1)) answered before after)
answered_first (Err e) harts pages version hosts w remaining answered before after made shown run = tt
answered_first (Ok i) harts pages version hosts w remaining answered before after made shown run =
    let g = guest_of harts pages i.0 i.1 in
    subst (λ (v : BoardWorld). IsWorldScriptEndOf remaining (standing v (at_start 0 g)) answered before after) made (run (at_start 0 g) shown)
