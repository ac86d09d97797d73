-- How a command ended whose report was kept in memory, and a host that is explained.
use Rattle.std.proofs.Common.{◌≡◌, ◌<◌, true, ℕ, zero, suc, List, [], Option, Some, Result, Ok, Err, inl, inr, refl, subst, sym, arith}
use Rattle.std.specs.Prelude.{IfOk, OnErr}
use Rattle.rvm_arguments.specs.declared.arguments.Arguments.{Arguments}
use Rattle.rvm_arguments.specs.declared.arguments.CommandLine.{CommandLine}
use Rattle.rvm_arguments.specs.declared.arguments.HostArguments.{HostArguments}
use Rattle.rvm_program.specs.Ended.{HasEnded, HostEnded, Written, written}
use Rattle.rvm_files.specs.Files.{Named}
use Rattle.rvm_program.specs.Performed.{HasEndedEither, HasEndedSo, HasFailed, HasFailedEither, HasFailedSo}

-- if its report may not have been written as a whole, it failed to report how it ended
unpassed_empty : (files created : Named) (a : Arguments) (script : Option (List ℕ)) (output errors : Written) (report : List ℕ)
    (status : ℕ)
    → (status ≡ 0 → HasEnded files created a 0 script output (written (Some []) (Some report)))
    → (1 < status → HasEnded files created a status script output (written (Some []) (Some report)))
    → (status ≡ 1 → HasFailed files created a script output (written (Some []) (Some report)))
    → HasFailedEither files created a script output errors
unpassed_empty files created a script output errors report zero done others failed =
    inl (inr (inr (0, report, inl (done refl))))
unpassed_empty files created a script output errors report (suc zero) done others failed =
    inr (record { report = report; failed = failed refl })
unpassed_empty files created a script output errors report (suc (suc n)) done others failed =
    inl (inr (inr (suc (suc n), report, inl (others (omega arith)))))

-- the same of a buffer that held nothing before
pub unpassed : (files created : Named) (a : Arguments) (script : Option (List ℕ)) (output errors : Written)
    (held report : List ℕ) (status : ℕ) → held ≡ []
    → (status ≡ 0 → HasEnded files created a 0 script output (written (Some held) (Some report)))
    → (1 < status → HasEnded files created a status script output (written (Some held) (Some report)))
    → (status ≡ 1 → HasFailed files created a script output (written (Some held) (Some report)))
    → HasFailedEither files created a script output errors
unpassed files created a script output errors held report status none done others failed =
    unpassed_empty files created a script output errors report status
    (subst (λ h. status ≡ 0 → HasEnded files created a 0 script output (written (Some h) (Some report))) none done)
    (subst (λ h. 1 < status → HasEnded files created a status script output (written (Some h) (Some report))) none others)
    (subst (λ h. status ≡ 1 → HasFailed files created a script output (written (Some h) (Some report))) none failed)

-- a host whose report was written has the status that it returned, and one whose report was not has the status 1
pub host_has_ended : {F : Type 0} (files : Named) (a : HostArguments) (output : Written) (s : ℕ) (told : Result ℕ F)
    → IfOk told (λ status. HostEnded files a status output) → IfOk told (λ status. s ≡ status) → OnErr told (s ≡ 1)
    → HostEnded files a s output
host_has_ended files a output s (Ok status) ended is none = subst (λ n. HostEnded files a n output) (sym is) ended
host_has_ended files a output s (Err fault) none is one = subst (λ n. HostEnded files a n output) (sym one) tt

-- a command whose refusal is explained has ended as its command line asks
pub ended_so : (files created : Named) (line : CommandLine) (status : ℕ) (script : Option (List ℕ)) (output errors : Written)
    → line.explain ≡ true → HasEndedEither files created line.arguments status script output errors
    → HasEndedSo files created line status script output errors
ended_so files created line status script output errors explain (inl ended) = inl ended
ended_so files created line status script output errors explain (inr reported) = inr (explain, reported)

-- and so has one with the status 1
pub failed_so : (files created : Named) (line : CommandLine) (script : Option (List ℕ)) (output errors : Written)
    → line.explain ≡ true → HasFailedEither files created line.arguments script output errors
    → HasFailedSo files created line script output errors
failed_so files created line script output errors explain (inl failed) = inl failed
failed_so files created line script output errors explain (inr explained) = inr (explain, explained)
