use Rattle.std.proofs.Common.{inl, inr, subst, sym}
use Rattle.rvm_journal.specs.Meetings.{AllMeetings, SomeMeeting}
use Rattle.rvm_replay.specs.Meetings.{Agrees}
use Rattle.rvm_replay.specs.Unaudited.{IsOtherMeeting}
use Rattle.rvm_replay.proofs.OtherMeetings.{blank, next_meeting, no_meeting}
use Rattle.rvm_replay.proofs.meetings.fault_in.Goals as goal

pub returns-in-Some-clause-some : goal.returns-in-Some-clause-some
returns-in-Some-clause-some c =
    let l = c.loop-index in
    l.invariant.some c.in-Some.fault
    (subst (SomeMeeting (IsOtherMeeting c.args.files.now c.args.opening.now c.in-Some.fault))
    (sym (next_meeting c.args.meetings.now l.index _ c.loop-index-test.true))
    (inl c.in-Some.ensures.some))

pub loop-index-preserved : goal.loop-index-preserved
loop-index-preserved c =
    let l = c.loop-index in
    record {
      all = λ rest. l.invariant.all
          (subst (AllMeetings (Agrees c.args.files.now c.args.opening.now.world)) (sym (next_meeting c.args.meetings.now l.index _ c.loop-index-test.true))
          (c.in_default.ensures.none, rest));
      some = λ why rest. l.invariant.some why
          (subst (SomeMeeting (IsOtherMeeting c.args.files.now c.args.opening.now why)) (sym (next_meeting c.args.meetings.now l.index blank c.loop-index-test.true))
          (inr rest));
    }

pub returns-clause-none : goal.returns-clause-none
returns-clause-none c =
    c.loop-index.invariant.all
    (subst (AllMeetings (Agrees c.args.files.now c.args.opening.now.world))
    (sym (no_meeting c.args.meetings.now c.loop-index.index c.loop-index-test.false)) tt)
