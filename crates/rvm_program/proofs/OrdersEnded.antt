-- How `run --orders` ends that was given its files.
use Rattle.std.proofs.Common.{◌≡◌, ℕ, List, ◌++◌, Option, None, Some, Result, Ok, Err, codes, inl, inr, refl, subst, sym}
use Rattle.std.specs.Fmt.{decimal}
use Rattle.std.specs.Prelude.{OnErr}
use Rattle.std.specs.Result.{IfOk}
use Rattle.rvm_arguments.specs.declared.arguments.OrdersArguments.{OrdersArguments}
use Rattle.rvm_arguments.specs.declared.arguments.StatusOf.TheVariants.{Verdict}
use Rattle.rvm_command.specs.declared.orders_command.FailedRun.{FailedRun}
use Rattle.rvm_command.specs.declared.refused.Refused.{Refused}
use Rattle.rvm_command.specs.Command.{end_text, refused_text}
use Rattle.rvm_command.specs.Ends.{run_status}
use Rattle.rvm_command.specs.Seeds.{IsOrdersEnd, OrdersHaveStatus}
use Rattle.rvm_program.specs.Ended.{OrdersEnded, ToTell, Written}
use Rattle.rvm_files.specs.Files.{IsFile, IsFirstInput, Named}

-- what runs by several seeds were to tell that ended so
to_tell : (a : OrdersArguments) (End : Result (Option FailedRun) Refused → Type 0)
    → (end : Result (Option FailedRun) Refused) × End end
    → ToTell (λ status errors. OrdersHaveStatus a status End errors.before errors.after)
to_tell a End (Ok (Some failed), is) = (
  run_status Verdict failed.ended,
  codes "order " ++ decimal failed.seed ++ codes "\n" ++ (end_text failed.ended ++ codes "\n"),
  inl (failed, refl, is, refl),
)
to_tell a End (Ok None, is) = (0, decimal a.orders ++ codes " orders passed\n", inr (inl (refl, is, refl)))
to_tell a End (Err r, is) = (1, refused_text r ++ codes "\n", inr (inr (r, refl, is, refl)))

-- they ended so
pub orders_ended : {F : Type 0} (files : Named) (errors : Written) (a : OrdersArguments) (image bytes input given : List ℕ)
    (output : Written) (r : Result ℕ F) → image ≡ bytes → input ≡ given
    → IsFile (files a.guest.image.now) bytes → IsFirstInput files a.input a.steps given
    → IfOk r (λ status. OrdersHaveStatus a status (λ end. IsOrdersEnd a image input end output.before output.after)
    errors.before errors.after)
    → IfOk r (λ status. OrdersEnded files a status output errors)
orders_ended files errors a image bytes input given output (Err e) same given_same is given_is ended = tt
orders_ended files errors a image bytes input given output (Ok status) same given_same is given_is ended = record {
  image = image;
  input = input;
  image_is = subst (IsFile (files a.guest.image.now)) (sym same) is;
  input_is = subst (IsFirstInput files a.input a.steps) (sym given_same) given_is;
  ended = ended;
}

-- and so if that could not be told
pub orders_untold : {F : Type 0} (files : Named) (a : OrdersArguments) (image bytes input given : List ℕ)
    (output : Written) (r : Result ℕ F) → image ≡ bytes → input ≡ given
    → IsFile (files a.guest.image.now) bytes → IsFirstInput files a.input a.steps given
    → (end : Result (Option FailedRun) Refused) × IsOrdersEnd a image input end output.before output.after
    → OnErr r (ToTell (λ status errors. OrdersEnded files a status output errors))
orders_untold files a image bytes input given output (Ok status) same given_same is given_is end = tt
orders_untold files a image bytes input given output (Err e) same given_same is given_is end =
    let told = to_tell a (λ end. IsOrdersEnd a image input end output.before output.after) end in (
      told.0,
      told.1,
      record {
        image = image;
        input = input;
        image_is = subst (IsFile (files a.guest.image.now)) (sym same) is;
        input_is = subst (IsFirstInput files a.input a.steps) (sym given_same) given_is;
        ended = told.2;
      },
    )
