-- A trace that is flushed.
use Rattle.std.proofs.Common.{◌⊎◌, ◌<◌, arith, ℕ, List, Option, None, Some, Bool, length, inl, inr}
use Rattle.std.specs.Io.KnownBytes.{Keeps}
use Rattle.rvm_arguments.specs.declared.arguments.ReportArguments.{ReportArguments}
use Rattle.rvm_arguments.specs.declared.arguments.TraceArguments.{TraceArguments}
use Rattle.rvm_board.specs.Guest.{Guest, GuestState}
use Rattle.rvm_command.specs.declared.run.Ended.{Ended}
use Rattle.rvm_command.proofs.Refusals.{appends_kept}
use Rattle.rvm_command.specs.Ends.{Writes}
use Rattle.rvm_command.specs.Watched.{HasRun, Watched, run_with, traced_of}

-- a run whose trace was flushed
pub flushed : (r : Watched) (end : Ended) (old new : GuestState) (before after trace_before mid trace_after : Option (List ℕ))
    → HasRun r end old new before after trace_before mid → Keeps mid trace_after
    → HasRun r end old new before after trace_before trace_after
flushed r end old new before after trace_before mid trace_after run kept =
    record {
      written = run.written;
      guest = run.guest;
      dirty = run.dirty;
      ended = run.ended;
      traced = appends_kept trace_before mid trace_after _ run.traced kept;
    }

-- a run that wrote something, to its output or its trace, writes
pub writes : (trace : Option TraceArguments) (report : Option ReportArguments) (seed : Option ℕ) (stop : Bool) (steps : ℕ) (input : List ℕ) (g : Guest)
    → let r = run_with seed stop (traced_of trace) steps input g in (0 < length r.written) ⊎ (0 < length r.lines) → Writes r trace report
writes trace report seed stop steps input g (inl some) = inl some
writes None report seed stop steps input g (inr some) = let it : 0 < 0 = some in absurd (omega (arith, it))
writes (Some trace) report seed stop steps input g (inr some) = inr (inl tt)
