use Rattle.std.proofs.Common.{drop}
use Rattle.rvm_journal.specs.Meetings.{AllMeetings, SomeMeeting}
use Rattle.rvm_replay.specs.declared.file.FileFault.{FileFault}
use Rattle.rvm_replay.specs.Meetings.{Agrees}
use Rattle.rvm_replay.specs.Unaudited.{IsOtherMeeting}
use Rattle.rvm_replay.proofs.meetings.fault_in.Given as goal

-- all meetings agree if those that are left do, and one of theirs is one of all
abbrev pub invariant-loop-index : goal.invariant-loop-index
invariant-loop-index l =
    record {
      all : AllMeetings (Agrees l.files l.opening.world) (drop l.index l.meetings)
          → AllMeetings (Agrees l.files l.opening.world) l.meetings;
      some : (why : FileFault) → SomeMeeting (IsOtherMeeting l.files l.opening why) (drop l.index l.meetings)
          → SomeMeeting (IsOtherMeeting l.files l.opening why) l.meetings;
    }
