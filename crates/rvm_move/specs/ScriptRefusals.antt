-- What is reported if a script for hosts is refused.
use Rattle.rvm_command.specs.declared.refused.Refused.{Refused}
use Rattle.rvm_command.specs.Refusals.{refused, refused_at}
use Rattle.rvm_refusal.specs.declared.refusal.Refusal.TheVariants as refusal
use Rattle.rvm_core.specs.declared.script.WorldScriptError.{WorldScriptError}
use Rattle.rvm_core.specs.declared.script.WorldScriptError.TheVariants as script

-- the refusal of a script for hosts: at the line that is not in the grammar or for which memory ran out, or at no line
abbrev pub refused_of_world_script : WorldScriptError → Refused
refused_of_world_script script.OutOfMemory = refused refusal.OutOfMemory
refused_of_world_script (script.LineOutOfMemory n) = refused_at n refusal.OutOfMemory
refused_of_world_script script.TooLong = refused refusal.TooLong
refused_of_world_script (script.BadToken n) = refused_at n refusal.BadToken
refused_of_world_script script.LinkFault = refused refusal.LinkFault
