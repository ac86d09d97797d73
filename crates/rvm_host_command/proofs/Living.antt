-- What a live run shows is told by how it ended, or that it did not begin.
use Rattle.std.proofs.Common.{◌≡◌, ℕ, true, List, Option, None, Some, Result, Ok, Err}
use Rattle.std.specs.Option.{option_map}
use Rattle.std.specs.Prelude.{IfErr, IfOk, is_some}
use Rattle.std.specs.Result.{result_ok}
use Rattle.rvm_arguments.specs.declared.arguments.LiveArguments.{LiveArguments}
use Rattle.rvm_station.specs.declared.host_harts.HartsEnd.{HartsEnd}
use Rattle.rvm_host_command.specs.Live.{IsLiveEnd, IsLiveRun}

-- a run that ended is one, and of one that did not begin nothing was written
pub live_end : {F : Type 0} (a : LiveArguments) (image : List ℕ) (before now : Option (List ℕ)) (ended : Result HartsEnd F)
    → IfOk ended (λ end. IsLiveRun a image end before now) → IfErr ended (λ fault. now ≡ before)
    → IsLiveEnd a image (result_ok ended) before now
live_end a image before now (Ok end) run same = run
live_end a image before now (Err fault) run same = same

-- there is a limit if there is one that is read from it
pub limit_of : {A B : Type 0} (f : A → B) (o : Option A) → is_some (option_map f o) ≡ true → is_some o ≡ true
limit_of f (Some x) is = is
limit_of f None is = is
