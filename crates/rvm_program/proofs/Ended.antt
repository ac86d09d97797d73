-- How commands end that were given their files.
use Rattle.std.proofs.Common.{◌≡◌, ◌⊎◌, ◌∙◌, true, ℕ, zero, suc, List, [], ◌++◌, Option, None, Some, Result, Ok, Err, codes, inl, inr, arith, refl, subst, sym, take}
use Rattle.std.specs.Borrow.{Bor}
use Rattle.std.specs.Prelude.{◌≢◌, OnErr}
use Rattle.std.specs.Result.{IfOk}
use Rattle.rvm_arguments.specs.declared.arguments.AsmArguments.{AsmArguments}
use Rattle.rvm_arguments.specs.declared.arguments.DebugArguments.{DebugArguments}
use Rattle.rvm_arguments.specs.declared.arguments.DisArguments.{DisArguments}
use Rattle.rvm_arguments.specs.declared.arguments.HostArguments.{HostArguments}
use Rattle.rvm_arguments.specs.declared.arguments.LiveArguments.{LiveArguments}
use Rattle.rvm_arguments.specs.declared.arguments.MoveArguments.{MoveArguments}
use Rattle.rvm_arguments.specs.declared.arguments.RunArguments.{RunArguments}
use Rattle.rvm_arguments.specs.declared.arguments.ScriptArguments.{ScriptArguments}
use Rattle.rvm_arguments.specs.declared.arguments.StatusOf.{StatusOf}
use Rattle.rvm_command.specs.declared.refused.Refused.{Refused}
use Rattle.rvm_command.specs.declared.run.Ended.{Ended}
use Rattle.rvm_command.specs.Command.{end_text, image_of, refused_text}
use Rattle.rvm_command.specs.Ends.{HasStatus, IsAsmEnd, IsDebugEnd, IsListEnd, IsRunEnd, RunHasStatus, run_status}
use Rattle.rvm_station.specs.declared.host_harts.HartsEnd.{HartsEnd}
use Rattle.rvm_host_command.specs.Hosted.{IsHostedTo}
use Rattle.rvm_host_command.specs.Live.{IsLiveEnd, IsLiveTo, live_status}
use Rattle.rvm_move.specs.Ended.{IsMoved, IsNotMoved, IsUntold}
use Rattle.rvm_move.specs.Orders.{IsAudited, IsNotAudited}
use Rattle.rvm_program.specs.Ended.{AsmEnded, AuditEnded, DebugEnded, DisEnded, HasHosted, HasRunTo, HostEnded, IsNamedFile, LiveEnded, MoveEnded, RunEnded, ScriptEnded, TellEnded, ToTell, Written, report_name, trace_name, written}
use Rattle.rvm_command.proofs.Inputs.{ends_so}
use Rattle.rvm_files.specs.Files.{IsApart, IsCreated, IsFile, IsFirst, IsFirstInput, IsImage, IsInput, IsOpened, Named, symbols_name}
use Rattle.rvm_move.specs.ScriptEnds.{IsScriptEnd}

-- neither 0 nor 1
abbrev IsMore : ℕ → Type 0
IsMore zero = ⊥
IsMore (suc zero) = ⊥
IsMore (suc (suc n)) = Unit {0}

-- there is no third status
no_third : (n : ℕ) → (suc (suc n) ≡ 0) ⊎ (suc (suc n) ≡ 1) → ⊥
no_third n (inl none) = subst IsMore none tt
no_third n (inr one) = subst IsMore one tt

-- what a command was to tell that ended so
to_tell : (End : Result (Unit {0}) Refused → Type 0) → (end : Result (Unit {0}) Refused) × End end
    → ToTell (λ status errors. HasStatus status End errors.before errors.after)
to_tell End (Ok tt, is) = (0, [], (is, refl))
to_tell End (Err r, is) = (1, refused_text r ++ codes "\n", (r, is, refl))

-- and a run, which tells its end
run_to_tell : (asked : StatusOf) (End : Result Ended Refused → Type 0) → (end : Result Ended Refused) × End end
    → ToTell (λ status errors. RunHasStatus asked status End errors.before errors.after)
run_to_tell asked End (Ok ended, is) =
    (run_status asked ended, end_text ended ++ codes "\n", inl (ended, refl, is, refl))
run_to_tell asked End (Err r, is) = (1, refused_text r ++ codes "\n", inr (r, refl, is, refl))

-- a run was given all of its input, or the bytes that its turns can take
abbrev IsEnough : (steps : ℕ) → (given input : List ℕ) → Type 0
IsEnough steps given input = (given ≡ input) ⊎ (given ≡ take steps input)

-- the file of an input, of which these are the first bytes
whole_file : (known : Option (List ℕ)) (steps : ℕ) (given : List ℕ) → IsFirst known steps given
    → (input : List ℕ) × IsFile known input × IsEnough steps given input
whole_file None steps given is = (given, tt, inl refl)
whole_file (Some all) steps given is = (all, refl, inr is)

-- the input of a run, of which these are the first bytes
whole_input : (files : Named) (name : Option (Bor (List ℕ))) (steps : ℕ) (given : List ℕ) → IsFirstInput files name steps given
    → (input : List ℕ) × IsInput files name input × IsEnough steps given input
whole_input files None steps given none = ([], refl, inl none)
whole_input files (Some name) steps given is = whole_file (files name.now) steps given is

-- how a run ended that was given enough, so it ends with all of its input
ends_with : (created : Named) (a : RunArguments) (image begun given input symbols : List ℕ) (output : Written)
    (end : Result Ended Refused) → begun ≡ given → IsEnough a.steps given input
    → HasRunTo created a image begun symbols end output → HasRunTo created a image input symbols end output
ends_with created a image begun given input symbols output end same (inl all) is =
    subst (λ i. HasRunTo created a image i symbols end output) (same ∙ all) is
ends_with created a image begun given input symbols output end same (inr part) is = record {
  trace = is.trace;
  report = is.report;
  trace_is = is.trace_is;
  report_is = is.report_is;
  ended = ends_so a image begun input symbols end output.before output.after is.trace.before is.trace.after
      is.report.before is.report.after (same ∙ part) is.ended;
}

-- a run that ended so has its status of each end that it has, too
ended_so : (asked : StatusOf) (status : ℕ) (errors : Written) (P Q : Result Ended Refused → Type 0)
    → ((end : Result Ended Refused) → P end → Q end) → RunHasStatus asked status P errors.before errors.after
    → RunHasStatus asked status Q errors.before errors.after
ended_so asked status errors P Q f (inl (e, is, end, told)) = inl (e, is, f (Ok e) end, told)
ended_so asked status errors P Q f (inr (r, is, end, told)) = inr (r, is, f (Err r) end, told)

module _ (created : Named) (a : RunArguments) (image input symbols : List ℕ) (output trace report : Written)
    (trace_is : IsNamedFile created (trace_name a.trace) trace.before)
    (report_is : IsNamedFile created (report_name a.report) report.before) where
  -- how a run ended that wrote to these files
  abbrev pub EndsWith : Result Ended Refused → Type 0
  EndsWith end =
      IsRunEnd a image input symbols end output.before output.after trace.before trace.after report.before report.after

  -- a run that wrote to the files of its trace and its report, if it has them
  ends_in : (end : Result Ended Refused) → EndsWith end → HasRunTo created a image input symbols end output
  ends_in end is =
      record { trace = trace; report = report; trace_is = trace_is; report_is = report_is; ended = is }

  -- the same of its end
  pub end_written : (end : Result Ended Refused) × EndsWith end
      → (end : Result Ended Refused) × HasRunTo created a image input symbols end output
  end_written end = (end.0, ends_in end.0 end.1)

  -- the same of its status
  pub status_written : {F : Type 0} (errors : Written) (r : Result ℕ F)
      → IfOk r (λ status. RunHasStatus a.status status EndsWith errors.before errors.after)
      → IfOk r (λ status. RunHasStatus a.status status (λ end. HasRunTo created a image input symbols end output)
      errors.before errors.after)
  status_written errors (Err e) told = tt
  status_written errors (Ok status) told =
      ended_so a.status status errors EndsWith (λ end. HasRunTo created a image input symbols end output) ends_in told

-- what a call returned, if it began, has whatever follows from what it has
pub begun_so : {T E : Type 0} (r : Result T E) (P Q : T → Type 0) → ((t : T) → P t → Q t) → IfOk r P → IfOk r Q
begun_so (Ok t) P Q f is = f t is
begun_so (Err e) P Q f is = tt

module _ {F : Type 0} (files : Named) (errors : Written) where
  -- `run` was given the image of its file, and of its input the bytes that its turns can take
  pub run_ended : (created : Named) (a : RunArguments) (image bytes begun given symbols names : List ℕ) (output : Written) (r : Result ℕ F)
      → image ≡ bytes → begun ≡ given → symbols ≡ names → IsFile (files a.guest.image.now) bytes → IsFirstInput files a.input a.steps given
      → IsInput files (symbols_name a.report) names
      → IfOk r (λ status. RunHasStatus a.status status (λ end. HasRunTo created a image begun symbols end output)
      errors.before errors.after)
      → IfOk r (λ status. RunEnded files created a status output errors)
  run_ended created a image bytes begun given symbols names output (Err e) same begun_same names_same is given_is names_are ended = tt
  run_ended created a image bytes begun given symbols names output (Ok status) same begun_same names_same is given_is names_are ended =
      let whole = whole_input files a.input a.steps given given_is in record {
        image = image;
        input = whole.0;
        symbols = symbols;
        image_is = subst (IsFile (files a.guest.image.now)) (sym same) is;
        input_is = whole.1;
        symbols_are = subst (IsInput files (symbols_name a.report)) (sym names_same) names_are;
        ended = ended_so a.status status errors (λ end. HasRunTo created a image begun symbols end output)
            (λ end. HasRunTo created a image whole.0 symbols end output)
            (λ end. ends_with created a image begun given whole.0 symbols output end begun_same whole.2) ended;
      }

  -- `asm` was given the text of its file, and wrote to its output file
  pub asm_ended : (created : Named) (a : AsmArguments) (text bytes : List ℕ) (file : Written) (r : Result ℕ F)
      → text ≡ bytes → IsFile (files a.source.now) bytes → IsApart (files a.output.now) text
      → IsCreated (created a.output.now) file.before
      → IfOk r (λ status. HasStatus status (λ end. IsAsmEnd text end file.before file.after) errors.before errors.after)
      → IfOk r (λ status. AsmEnded files created a status errors)
  asm_ended created a text bytes file (Err e) same is apart to ended = tt
  asm_ended created a text bytes file (Ok status) same is apart to ended = record {
    text = text;
    file = file;
    text_is = subst (IsFile (files a.source.now)) (sym same) is;
    apart = apart;
    file_is = to;
    ended = ended;
  }

  module _ (image bytes : List ℕ) (output held told : Option (List ℕ)) (same : image ≡ bytes) (begun : held ≡ output)
    where
      -- `dis` was given the image of its file, and an empty buffer
      pub dis_ended : (a : DisArguments) (r : Result ℕ F) → IsFile (files a.image.now) bytes
          → IfOk r (λ status. HasStatus status (λ end. IsListEnd (image_of a.raw image) end held told)
          errors.before errors.after)
          → IfOk r (λ status. DisEnded files a status output errors)
      dis_ended a (Err e) is ended = tt
      dis_ended a (Ok status) is ended = record {
        image = image;
        told = told;
        image_is = subst (IsFile (files a.image.now)) (sym same) is;
        ended = subst (λ before. HasStatus status (λ end. IsListEnd (image_of a.raw image) end before told)
            errors.before errors.after) begun ended;
      }

      -- and so `debug`
      pub debug_ended : (a : DebugArguments) (script : Option (List ℕ)) (r : Result ℕ F)
          → IsFile (files a.guest.image.now) bytes
          → IfOk r (λ status. HasStatus status (λ end. IsDebugEnd a image script end held told)
          errors.before errors.after)
          → IfOk r (λ status. DebugEnded files a status script output errors)
      debug_ended a script (Err e) is ended = tt
      debug_ended a script (Ok status) is ended = record {
        image = image;
        told = told;
        image_is = subst (IsFile (files a.guest.image.now)) (sym same) is;
        ended = subst (λ before. HasStatus status (λ end. IsDebugEnd a image script end before told)
            errors.before errors.after) begun ended;
      }

      -- and so `script`, with the script of its file
      pub script_ended : (a : ScriptArguments) (script : Option (List ℕ)) (r : Result ℕ F)
          → IsFile (files a.guest.image.now) bytes → IsOpened (files a.script.now) script
          → IfOk r (λ status. HasStatus status (λ end. IsScriptEnd a image script end held told)
          errors.before errors.after)
          → IfOk r (λ status. ScriptEnded files a status output errors)
      script_ended a script (Err e) is opened ended = tt
      script_ended a script (Ok status) is opened ended = record {
        image = image;
        script = script;
        told = told;
        image_is = subst (IsFile (files a.guest.image.now)) (sym same) is;
        script_is = opened;
        ended = subst (λ before. HasStatus status (λ end. IsScriptEnd a image script end before told)
            errors.before errors.after) begun ended;
      }

      -- and so `audit`
      pub audit_ended : (a : MoveArguments) (r : Result ℕ F) → IsFile (files a.guest.image.now) bytes
          → IfOk r (λ status. (status ≡ 0) ⊎ (status ≡ 1))
          → IfOk r (λ status. status ≡ 0 → IsAudited a image held told)
          → IfOk r (λ status. status ≡ 0 → errors.after ≡ errors.before)
          → IfOk r (λ status. status ≡ 1 → IsNotAudited a image errors.before errors.after)
          → IfOk r (λ status. AuditEnded files a status output errors)
      audit_ended a (Err e) is two done silent failed = tt
      audit_ended a (Ok zero) is two done silent failed = record {
        image = image;
        told = told;
        image_is = subst (IsFile (files a.guest.image.now)) (sym same) is;
        ended = (subst (λ before. IsAudited a image before told) begun (done refl), silent refl);
      }
      audit_ended a (Ok (suc zero)) is two done silent failed = record {
        image = image;
        told = told;
        image_is = subst (IsFile (files a.guest.image.now)) (sym same) is;
        ended = failed refl;
      }
      audit_ended a (Ok (suc (suc n))) is two done silent failed = absurd (no_third n two)

-- whether a status is 1
one_or_other : (s : ℕ) → (s ≡ 1) ⊎ (s ≢ 1)
one_or_other zero = inr (λ is. (let it : 0 ≡ 1 = is in absurd (omega (arith, it))))
one_or_other (suc zero) = inl refl
one_or_other (suc (suc n)) = inr (λ is. subst IsMore is tt)

-- `move` was given the image of its file
pub move_ended : {F : Type 0} (files : Named) (output errors : Written) (image bytes : List ℕ) (a : MoveArguments)
    (r : Result ℕ F) → image ≡ bytes → IsFile (files a.guest.image.now) bytes
    → IfOk r (λ status. status ≢ 1 → IsMoved a image status errors.before errors.after output.before output.after)
    → IfOk r (λ status. status ≡ 1 → IsNotMoved a image errors.before errors.after)
    → IfOk r (λ status. MoveEnded files a status output errors)
move_ended files output errors image bytes a (Err e) same is done failed = tt
move_ended files output errors image bytes a (Ok status) same is done failed = record {
  image = image;
  image_is = subst (IsFile (files a.guest.image.now)) (sym same) is;
  ended = elim (one_or_other status) [
    | inl one ↦ inr (one, failed one)
    | inr other ↦ inl (done other)
  ];
}

-- what the same commands were to report if a write to the errors failed
module _ {F : Type 0} (files : Named) where
  pub run_untold : (created : Named) (a : RunArguments) (image bytes begun given symbols names : List ℕ) (output : Written) (r : Result ℕ F)
      → image ≡ bytes → begun ≡ given → symbols ≡ names → IsFile (files a.guest.image.now) bytes → IsFirstInput files a.input a.steps given
      → IsInput files (symbols_name a.report) names
      → (end : Result Ended Refused) × HasRunTo created a image begun symbols end output
      → OnErr r (ToTell (λ status errors. RunEnded files created a status output errors))
  run_untold created a image bytes begun given symbols names output (Ok s) same begun_same names_same is given_is names_are end = tt
  run_untold created a image bytes begun given symbols names output (Err e) same begun_same names_same is given_is names_are end =
      let whole = whole_input files a.input a.steps given given_is in
      let t = run_to_tell a.status (λ e. HasRunTo created a image whole.0 symbols e output)
      (end.0, ends_with created a image begun given whole.0 symbols output end.0 begun_same whole.2 end.1) in (
        t.0,
        t.1,
        record {
          image = image;
          input = whole.0;
          symbols = symbols;
          image_is = subst (IsFile (files a.guest.image.now)) (sym same) is;
          input_is = whole.1;
          symbols_are = subst (IsInput files (symbols_name a.report)) (sym names_same) names_are;
          ended = t.2;
        },
      )

  pub asm_untold : (created : Named) (a : AsmArguments) (text bytes : List ℕ) (file : Written) (r : Result ℕ F) → text ≡ bytes
      → IsFile (files a.source.now) bytes → IsApart (files a.output.now) text
      → IsCreated (created a.output.now) file.before → (end : Result (Unit {0}) Refused) × IsAsmEnd text end file.before file.after
      → OnErr r (ToTell (λ status errors. AsmEnded files created a status errors))
  asm_untold created a text bytes file (Ok s) same is apart to end = tt
  asm_untold created a text bytes file (Err e) same is apart to end =
      let t = to_tell (λ e. IsAsmEnd text e file.before file.after) end in (
        t.0,
        t.1,
        record {
          text = text;
          file = file;
          text_is = subst (IsFile (files a.source.now)) (sym same) is;
          apart = apart;
          file_is = to;
          ended = t.2;
        },
      )

  module _ (image bytes : List ℕ) (output held told : Option (List ℕ)) (same : image ≡ bytes) (begun : held ≡ output)
    where
      pub dis_untold : (a : DisArguments) (r : Result ℕ F) → IsFile (files a.image.now) bytes
          → (end : Result (Unit {0}) Refused) × IsListEnd (image_of a.raw image) end held told
          → OnErr r (ToTell (λ status errors. DisEnded files a status output errors))
      dis_untold a (Ok s) is end = tt
      dis_untold a (Err e) is end =
          let t = to_tell (λ e. IsListEnd (image_of a.raw image) e output told)
          (subst (λ before. (end : Result (Unit {0}) Refused) × IsListEnd (image_of a.raw image) end before told) begun end) in (
            t.0,
            t.1,
            record {
              image = image;
              told = told;
              image_is = subst (IsFile (files a.image.now)) (sym same) is;
              ended = t.2;
            },
          )

      pub debug_untold : (a : DebugArguments) (script : Option (List ℕ)) (r : Result ℕ F) → IsFile (files a.guest.image.now) bytes
          → (end : Result (Unit {0}) Refused) × IsDebugEnd a image script end held told
          → OnErr r (ToTell (λ status errors. DebugEnded files a status script output errors))
      debug_untold a script (Ok s) is end = tt
      debug_untold a script (Err e) is end =
          let t = to_tell (λ e. IsDebugEnd a image script e output told)
          (subst (λ before. (end : Result (Unit {0}) Refused) × IsDebugEnd a image script end before told) begun end) in (
            t.0,
            t.1,
            record {
              image = image;
              told = told;
              image_is = subst (IsFile (files a.guest.image.now)) (sym same) is;
              ended = t.2;
            },
          )

      pub script_untold : (a : ScriptArguments) (script : Option (List ℕ)) (r : Result ℕ F)
          → IsFile (files a.guest.image.now) bytes → IsOpened (files a.script.now) script
          → (end : Result (Unit {0}) Refused) × IsScriptEnd a image script end held told
          → OnErr r (ToTell (λ status errors. ScriptEnded files a status output errors))
      script_untold a script (Ok s) is opened end = tt
      script_untold a script (Err e) is opened end =
          let t = to_tell (λ e. IsScriptEnd a image script e output told)
          (subst (λ before. (end : Result (Unit {0}) Refused) × IsScriptEnd a image script end before told) begun end) in (
            t.0,
            t.1,
            record {
              image = image;
              script = script;
              told = told;
              image_is = subst (IsFile (files a.guest.image.now)) (sym same) is;
              script_is = opened;
              ended = t.2;
            },
          )

      pub audit_untold : (a : MoveArguments) (r : Result ℕ F) → IsFile (files a.guest.image.now) bytes
          → OnErr r (IsUntold (IsNotAudited a image))
          → OnErr r (ToTell (λ status errors. AuditEnded files a status output errors))
      audit_untold a (Ok s) is untold = tt
      audit_untold a (Err e) is untold = (
        1,
        untold.0,
        record {
          image = image;
          told = told;
          image_is = subst (IsFile (files a.guest.image.now)) (sym same) is;
          ended = untold.1;
        },
      )

  pub move_untold : (output : Written) (image bytes : List ℕ) (a : MoveArguments) (r : Result ℕ F) → image ≡ bytes
      → IsFile (files a.guest.image.now) bytes
      → OnErr r (IsUntold (λ before after.
      ((status : ℕ) × IsMoved a image status before after output.before output.after) ⊎ IsNotMoved a image before after))
      → OnErr r (ToTell (λ status errors. MoveEnded files a status output errors))
  move_untold output image bytes a (Ok s) same is untold = tt
  move_untold output image bytes a (Err e) same is untold =
      let image_is = subst (IsFile (files a.guest.image.now)) (sym same) is in
      elim untold.1 [
        | inl moved ↦ (moved.0, untold.0, record { image = image; image_is = image_is; ended = inl moved.1 })
        | inr failed ↦ (1, untold.0, record { image = image; image_is = image_is; ended = inr (refl, failed) })
      ]

-- `host` has a status of a host that did what it was asked, or of one that did not
pub host_ended : {F : Type 0} (files : Named) (a : HostArguments) (peers image : List ℕ) (output : Written) (r : Result ℕ F)
    → IsFile (files a.peers.now) peers → IsImage files a.guest image
    → IfOk r (λ status. (status ≡ 0) ⊎ (status ≡ 1) ⊎ ((status ≡ 3) × (a.verdict ≡ true)))
    → IfOk r (λ status. status ≢ 1 → IsHostedTo a peers image status output.before output.after)
    → IfOk r (λ status. HostEnded files a status output)
host_ended files a peers image output (Err fault) peers_is image_is status done = tt
host_ended files a peers image output (Ok s) peers_is image_is status done = elim status [
  | inl none ↦ subst (λ n. HostEnded files a n output) (sym none)
      (subst (λ n. HasHosted files a n output) none (has (λ one. omega (arith, none, one))))
  | inr (inl one) ↦ subst (λ n. HostEnded files a n output) (sym one) tt
  | inr (inr three) ↦ subst (λ n. HostEnded files a n output) (sym three.0)
      (three.1, subst (λ n. HasHosted files a n output) three.0 (has (λ one. omega (arith, three.0, one))))
] where
  has : s ≢ 1 → HasHosted files a s output
  has other = record {
    peers = peers;
    image = image;
    peers_is = peers_is;
    image_is = image_is;
    hosted = done other;
  }

-- where it is not told how a host ended, it did not do what it was asked
pub host_untold : {F : Type 0} (files : Named) (a : HostArguments) (output : Written) (r : Result ℕ F)
    → OnErr r (ToTell (λ status errors. HostEnded files a status output))
host_untold files a output (Ok status) = tt
host_untold files a output (Err fault) = (1, [], tt)

-- what `tell` was to report if a write to the errors failed
pub tell_untold : {F : Type 0} (r : Result ℕ F) → OnErr r (ToTell (λ status errors. TellEnded status))
tell_untold (Ok status) = tt
tell_untold (Err fault) = (1, [], inr (inl refl))

-- a live run was given its files
pub live_ended : {F : Type 0} (files : Named) (a : LiveArguments) (image : List ℕ) (output : Written) (r : Result ℕ F)
    → IsFile (files a.guest.image.now) image → IfOk r (λ s. IsLiveTo a image s output.before output.after)
    → IfOk r (λ s. LiveEnded files a s output)
live_ended files a image output (Err fault) image_is ended = tt
live_ended files a image output (Ok s) image_is ended = inl (record { image = image; image_is = image_is; ended = ended })

-- it is known what it wrote where it is not told how it ended
pub live_untold : {F : Type 0} (files : Named) (a : LiveArguments) (image : List ℕ) (output : Written) (r : Result ℕ F)
    → IsFile (files a.guest.image.now) image
    → (end : Option HartsEnd) × IsLiveEnd a image end output.before output.after
    → OnErr r (ToTell (λ s errors. LiveEnded files a s output))
live_untold files a image output (Ok s) image_is ends = tt
live_untold files a image output (Err fault) image_is ends = (
  live_status a.status ends.0,
  [],
  inl (record { image = image; image_is = image_is; ended = (ends.0, refl, ends.1) }),
)

-- one whose files were refused wrote nothing
pub live_unread : {F : Type 0} (files : Named) (a : LiveArguments) (before : Option (List ℕ)) (r : Result ℕ F)
    → OnErr r (ToTell (λ s errors. LiveEnded files a s (written before before)))
live_unread files a before (Ok s) = tt
live_unread files a before (Err fault) = (1, [], inr (refl, refl))
