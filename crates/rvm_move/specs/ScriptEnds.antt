-- How `script` ends, and what it wrote to its output until then.
use Rattle.std.specs.Prelude.{◌≡◌, ◌⊎◌, ℕ, ◌+◌, ◌^◌, ◌<◌, true, false, List, ◌∷◌, ◌++◌, length, Option, Some, None, Result, Ok, Err, IfOk, IfSome}
use Rattle.std.specs.Io.KnownBytes.{Appends, Keeps}
use Rattle.rvm_arguments.specs.declared.arguments.ScriptArguments.{ScriptArguments}
use Rattle.rvm_command.specs.declared.refused.Refused.{Refused}
use Rattle.rvm_command.specs.Command.{guest_of, image_of}
use Rattle.rvm_command.specs.Ends.{IsLoadable, IsLoadRefusal}
use Rattle.rvm_command.specs.Refusals.{refused}
use Rattle.rvm_refusal.specs.declared.refusal.Refusal.TheVariants.{BadSize, OutOfMemory}
use Rattle.rvm_debug.specs.Words.{lines}
use Rattle.rvm_core.specs.Worlds.{is_sized}
use Rattle.rvm_move.specs.FirstWorld.{at_first, limits_of, version_asked}
use Rattle.rvm_move.specs.ScriptRefusals.{refused_of_world_script}
use Rattle.rvm_core.specs.declared.script.WorldScriptError.{WorldScriptError}
use Rattle.rvm_core.specs.declared.script.WorldScriptError.TheVariants as script
use Rattle.rvm_core.specs.Runs.{AsksMemoryIn}
use Rattle.rvm_core.specs.WorldScript.{Standing, world_script_of}

-- a world is refused: since this many hosts do not speak this version, or since memory ran out
abbrev pub IsWorldRefusal : (version hosts : ℕ) → Refused → Type 0
IsWorldRefusal version hosts r =
    ((r ≡ refused BadSize) × (is_sized version (limits_of hosts) ≡ false))
    ⊎ ((r ≡ refused OutOfMemory) × (is_sized version (limits_of hosts) ≡ true))

-- a script is refused before its first line: its guest is refused, or the world for it
abbrev pub IsBeginRefusal : ScriptArguments → (file : List ℕ) → Refused → Type 0
IsBeginRefusal a file r =
    IsLoadRefusal (image_of a.guest.raw file) a.guest.pages r
    ⊎ (IsLoadable (image_of a.guest.raw file) a.guest.pages × IsWorldRefusal (version_asked a) a.hosts r)

-- memory ran out in the line with this number, which is one that asks for memory; the lines before it were done, and
-- their answers written
pub record IsCutShort (n : ℕ) (lines : List (List ℕ)) (s : Standing) (before after : Option (List ℕ)) : Type 0 where
  pub done : List (List ℕ)
  pub line : List ℕ
  pub left : List (List ℕ)
  pub whole : done ++ line ∷ left ≡ lines
  pub number : length done + 1 ≡ n
  pub on : (world_script_of done 1 s).end ≡ None
  pub asks : AsksMemoryIn line (world_script_of done 1 s).standing
  pub text : Appends before after (world_script_of done 1 s).text

-- the lines were answered to their end, up to the first that is not in the grammar, or up to one for which memory ran
-- out; or nothing was answered, since the script is too long or memory ran out; or a read or a write failed
abbrev pub IsWorldScriptEnd : (text : List ℕ) → Standing → Result (Unit {0}) WorldScriptError
    → (before after : Option (List ℕ)) → Type 0
IsWorldScriptEnd text s (Ok done) before after =
    let a = world_script_of (lines text) 1 s in (a.end ≡ None) × Appends before after a.text
IsWorldScriptEnd text s (Err (script.BadToken n)) before after =
    let a = world_script_of (lines text) 1 s in (a.end ≡ Some n) × Appends before after a.text
IsWorldScriptEnd text s (Err (script.LineOutOfMemory n)) before after = IsCutShort n (lines text) s before after
IsWorldScriptEnd text s (Err script.TooLong) before after = (2 ^ 26 < length text) × Keeps before after
IsWorldScriptEnd text s (Err script.OutOfMemory) before after = Keeps before after
IsWorldScriptEnd text s (Err script.LinkFault) before after = Unit {0}

-- the script that a reader gives, if that is known, ended so
abbrev pub IsWorldScriptEndOf : Option (List ℕ) → Standing → Result (Unit {0}) WorldScriptError
    → (before after : Option (List ℕ)) → Type 0
IsWorldScriptEndOf remaining s result before after =
    IfSome remaining (λ text. IsWorldScriptEnd text s result before after)

-- the script ended so in the world that begins with the guest of a file
abbrev pub IsAnswered : ScriptArguments → (file : List ℕ) → (script : Option (List ℕ)) → Result (Unit {0}) WorldScriptError
    → (before after : Option (List ℕ)) → Type 0
IsAnswered a file text result before after =
    IfOk (image_of a.guest.raw file) (λ i.
    IsWorldScriptEndOf text (at_first (version_asked a) a.hosts (guest_of a.guest.harts a.guest.pages i.0 i.1))
    result before after)

-- a file has a guest, and there is a world for it
abbrev pub IsBegun : ScriptArguments → (file : List ℕ) → Type 0
IsBegun a file =
    IsLoadable (image_of a.guest.raw file) a.guest.pages
    × (is_sized (version_asked a) (limits_of a.hosts) ≡ true)

-- a script for hosts was answered to its end, or was refused: before its first line, or after it began
abbrev pub IsScriptEnd : ScriptArguments → (file : List ℕ) → (script : Option (List ℕ)) → Result (Unit {0}) Refused
    → (before after : Option (List ℕ)) → Type 0
IsScriptEnd a file text (Ok done) before after = IsBegun a file × IsAnswered a file text (Ok done) before after
IsScriptEnd a file text (Err r) before after =
    (IsBeginRefusal a file r × (after ≡ before))
    ⊎ (IsBegun a file × ((e : WorldScriptError) × (r ≡ refused_of_world_script e)
    × IsAnswered a file text (Err e) before after))
