-- A command that is made word by word.
use Rattle.std.specs.Prelude.{◌≡◌, false, Result, IfErr, IfOk}
use Rattle.clap.specs.Simple.{App, app_of}
use Rattle.clap.specs.Words.{kind_of}
use Rattle.clap.specs.declared.builder.command.Command.{Command}
use Rattle.clap.specs.declared.builder.command.Command.TheViews.{out-Command as fields_of}
use Rattle.clap.specs.declared.error.Error.{Error}
use Rattle.clap.specs.declared.error.kind.ErrorKind.TheVariants as kind

-- a command was made that is this one, and none of its words is one of all commands; or memory ran out
pub record IsMade (command : Result Command Error) (app : App) : Type 0 where
  pub made : IfOk command (λ c. app_of c ≡ app)
  pub own : IfOk command (λ c. (fields_of c).has_globals ≡ false)
  pub memory : IfErr command (λ e. kind_of e ≡ kind.OutOfMemory)
