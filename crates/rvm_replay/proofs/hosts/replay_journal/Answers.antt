use Rattle.std.proofs.Common.{subst}
use Rattle.rvm_debug.specs.Words.{lines}
use Rattle.rvm_journal.specs.Recorders.{room_of}
use Rattle.rvm_journal.specs.Replaying.{IsJournalFault, IsReplayedTo}
use Rattle.rvm_replay.proofs.Replayed.{host_after, lines_fault}
use Rattle.rvm_replay.proofs.hosts.replay_journal.Goals as goal

pub returns-in-Ok-clause-host : goal.returns-in-Ok-clause-host
returns-in-Ok-clause-host g c =
    let read = c.in-Ok.ensures.told in
    let old = g.R.Recorder.recording c.args.recorder.now in
    let new = g.R.Recorder.recording c.replay.new.recorder in (
      read.0,
      read.1,
      read.2,
      host_after c.args.most c.args.reader.header read.0 c.args.image.now old new c.requires.opening c.requires.empty
          (subst (λ h. IsReplayedTo c.args.most h.hosts h.host read.0 old new) c.header-header.ensures.header read.3)
          c.know_answers.ensures,
    )

pub returns-in-Err-clause-fault : goal.returns-in-Err-clause-fault
returns-in-Err-clause-fault g c =
    let bad = c.in-Err.ensures.fault in
    let old = g.R.Recorder.recording c.args.recorder.now in (
      bad.0,
      bad.1,
      lines_fault c.in-Err.fault c.args.most c.args.reader.header bad.0 c.args.image.now old c.requires.empty
          (subst (λ h. IsJournalFault c.in-Err.fault c.args.most h.hosts h.host (lines bad.0) old.capacity (room_of old))
          c.header-header.ensures.header bad.2),
    )
