-- What is reported if a command is refused.
use Rattle.std.specs.Prelude.{ℕ, List, ◌++◌, Option, Some, None, codes}
use Rattle.std.specs.Io.KnownBytes.{Appends}
use Rattle.rvm_asm.specs.LineRefusals.{refusal_of_fault}
use Rattle.rvm_asm.specs.declared.error.AsmError.{AsmError}
use Rattle.rvm_asm.specs.declared.error.AsmError.TheVariants as text
use Rattle.rvm_debug.specs.declared.script.ScriptError.{ScriptError}
use Rattle.rvm_debug.specs.declared.script.ScriptError.TheVariants as script
use Rattle.rvm_refusal.specs.declared.refusal.Refusal.{Refusal}
use Rattle.rvm_refusal.specs.declared.refusal.Refusal.TheVariants.{OutOfMemory, BadToken, OutOfReach, TooLong, TooMany, LinkFault}
use Rattle.rvm_command.specs.declared.refused.Refused.{Refused}
use Rattle.rvm_command.specs.Command.{refused_text}

-- a refusal at no line
abbrev pub refused : Refusal → Refused
refused r = record { line = None; refusal = r }

-- a refusal at the line with this number
abbrev pub refused_at : ℕ → Refusal → Refused
refused_at n r = record { line = Some n; refusal = r }

-- the refusal of an assembly text: at the line of its fault, or at no line for its size or if memory ran out
abbrev pub refused_of_text : AsmError → Refused
refused_of_text text.OutOfMemory = refused OutOfMemory
refused_of_text (text.Line n fault) = refused_at n (refusal_of_fault fault)
refused_of_text text.TooLarge = refused OutOfReach
refused_of_text text.TooMany = refused TooMany

-- the refusal of a debugger's script: at the line that is not in the grammar, or at no line
abbrev pub refused_of_script : ScriptError → Refused
refused_of_script script.OutOfMemory = refused OutOfMemory
refused_of_script script.TooLong = refused TooLong
refused_of_script (script.BadToken n) = refused_at n BadToken
refused_of_script script.LinkFault = refused LinkFault

-- the line of a refusal was written
abbrev pub IsTold : Refused → (before after : Option (List ℕ)) → Type 0
IsTold r before after = Appends before after (refused_text r ++ codes "\n")
