-- Runs of a guest by one seed after the other, up to the first whose verdict is not 0.
use Rattle.std.specs.Prelude.{◌≡◌, ◌⊎◌, ℕ, ◌<◌, List, ◌∷◌, ◌++◌, [], Option, Some, None, Result, Ok, Err, IfOk, IsOk, length, codes}
use Rattle.std.specs.Fmt.{decimal}
use Rattle.std.specs.Io.KnownBytes.{Appends}
use Rattle.rvm_asm.specs.Images.{Piece}
use Rattle.rvm_refusal.specs.declared.refusal.Refusal.TheVariants.{LinkFault}
use Rattle.rvm_arguments.specs.declared.arguments.OrdersArguments.{OrdersArguments}
use Rattle.rvm_arguments.specs.declared.arguments.StatusOf.TheVariants.{Verdict}
use Rattle.rvm_command.specs.declared.orders_command.FailedRun.{FailedRun}
use Rattle.rvm_command.specs.declared.refused.Refused.{Refused}
use Rattle.rvm_command.specs.declared.run.Ended.{Ended}
use Rattle.rvm_command.specs.Command.{end_text, guest_of, image_of}
use Rattle.rvm_command.specs.Ends.{IsLoadRefusal, IsLoadable, run_status}
use Rattle.rvm_command.specs.Refusals.{IsTold, refused}
use Rattle.rvm_command.specs.Watched.{Watched, run_with}

-- the run of the guest of an image by a seed
abbrev pub seeded_run : OrdersArguments → (image : ℕ × List Piece) → (input : List ℕ) → (seed : ℕ) → Watched
seeded_run a image input seed =
    run_with (Some seed) a.stop_at_fault None a.steps input (guest_of a.guest.harts a.guest.pages image.0 image.1)

-- the verdict on it
abbrev pub verdict_of : OrdersArguments → (image : ℕ × List Piece) → (input : List ℕ) → (seed : ℕ) → ℕ
verdict_of a image input seed = run_status Verdict (seeded_run a image input seed).ended

-- the runs by all seeds below this one pass: their verdict is 0
abbrev pub PassBelow : OrdersArguments → (image : ℕ × List Piece) → (input : List ℕ) → (seed : ℕ) → Type 0
PassBelow a image input seed = (earlier : ℕ) → earlier < seed → verdict_of a image input earlier ≡ 0

-- the first seed whose run does not pass, among those that are asked for; or none, and all of them pass
abbrev pub IsFirstFailure : OrdersArguments → (image : ℕ × List Piece) → (input : List ℕ) → Option ℕ → Type 0
IsFirstFailure a image input None = PassBelow a image input a.orders
IsFirstFailure a image input (Some seed) =
    (seed < a.orders) × PassBelow a image input seed × (verdict_of a image input seed ≡ 0 → ⊥)

-- runs are refused since a write of one of them failed, which had something to write
abbrev pub AreUnwritten : OrdersArguments → (file input : List ℕ) → Refused → Type 0
AreUnwritten a file input r =
    (r ≡ refused LinkFault) × IsLoadable (image_of a.guest.raw file) a.guest.pages
    × IfOk (image_of a.guest.raw file) (λ i. (seed : ℕ) × (seed < a.orders) × (0 < length (seeded_run a i input seed).written))

-- the run by a seed has made its last turn, and was written; or it was refused, before its first turn or since a write
-- failed
abbrev pub IsSeededEnd : OrdersArguments → (file input : List ℕ) → (seed : ℕ) → Result Ended Refused
    → (before after : Option (List ℕ)) → Type 0
IsSeededEnd a file input seed (Ok ended) before after =
    IsLoadable (image_of a.guest.raw file) a.guest.pages
    × IfOk (image_of a.guest.raw file) (λ i.
    (ended ≡ (seeded_run a i input seed).ended) × Appends before after (seeded_run a i input seed).written)
IsSeededEnd a file input seed (Err r) before after =
    (IsLoadRefusal (image_of a.guest.raw file) a.guest.pages r × (after ≡ before)) ⊎ AreUnwritten a file input r

-- the runs came to the first that does not pass, whose output was written, or to their last; or they were refused,
-- since the guest is not loaded or a write failed
abbrev pub IsOrdersEnd : OrdersArguments → (file input : List ℕ) → Result (Option FailedRun) Refused
    → (before after : Option (List ℕ)) → Type 0
IsOrdersEnd a file input (Ok None) before after =
    IsLoadable (image_of a.guest.raw file) a.guest.pages
    × IfOk (image_of a.guest.raw file) (λ i. IsFirstFailure a i input None) × (after ≡ before)
IsOrdersEnd a file input (Ok (Some failed)) before after =
    IsLoadable (image_of a.guest.raw file) a.guest.pages
    × IfOk (image_of a.guest.raw file) (λ i. IsFirstFailure a i input (Some failed.seed)
    × (failed.ended ≡ (seeded_run a i input failed.seed).ended)
    × Appends before after (seeded_run a i input failed.seed).written)
IsOrdersEnd a file input (Err r) before after =
    (IsLoadRefusal (image_of a.guest.raw file) a.guest.pages r × (after ≡ before)) ⊎ AreUnwritten a file input r

-- the status of the command `run --orders`: the verdict on the first run that does not pass, of which `errors` gets the
-- seed and the end; 0 if all pass, of which `errors` gets the number; or 1 if the runs were refused, with the refusal there
abbrev pub OrdersHaveStatus : OrdersArguments → (status : ℕ) → (End : Result (Option FailedRun) Refused → Type 0)
    → (before after : Option (List ℕ)) → Type 0
OrdersHaveStatus a status End before after =
    ((failed : FailedRun) × (status ≡ run_status Verdict failed.ended) × End (Ok (Some failed))
    × Appends before after (codes "order " ++ decimal failed.seed ++ codes "\n" ++ (end_text failed.ended ++ codes "\n")))
    ⊎ (((status ≡ 0) × End (Ok None) × Appends before after (decimal a.orders ++ codes " orders passed\n"))
    ⊎ ((r : Refused) × (status ≡ 1) × End (Err r) × IsTold r before after))
