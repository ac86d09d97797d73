use Rattle.std.proofs.Common.{arith, rules}
use Rattle.std.specs.Io.KnownBytes.{Appends}
use Rattle.std.specs.Prelude.{◌≡◌}
use Rattle.rvm_recorder.specs.Replay.{IsReplay}
use Rattle.rvm_move.specs.Answers.{answers_text}
use Rattle.rvm_move.specs.Ended.{IsFailureOf, IsSound, end_line}
use Rattle.rvm_move.proofs.Failed.{failure_told}
use Rattle.rvm_move.proofs.MovesTold.{end_answered, never_one}
use Rattle.rvm_move.proofs.ended.tell_moved.Goals as goal

pub returns-then-failure-ne0-clause-failed : goal.returns-then-failure-ne0-clause-failed
returns-then-failure-ne0-clause-failed g c =
    let m = c.args.moved.now in
    let before = g.E.Write.contents c.args.errors.now in
    let one = g.E.Write.contents c.write_answers.new.errors in
    let two = g.E.Write.contents c.write_answers-2.new.errors in
    let three = g.E.Write.contents c.tell_failure.new.errors in
    let of_first : Appends before one (answers_text m.a.recorded.journal.entries) = search rules in
    let of_second : Appends one two (answers_text m.b.recorded.journal.entries) = search rules in
    let replay_a : IsReplay m.a.recorded.journal.opening m.a.recorded.journal.entries = search rules in
    let replay_b : IsReplay m.b.recorded.journal.opening m.b.recorded.journal.entries = search rules in
    λ is. failure_told m.ends m.a.fault m.b.fault m.a.recorded.journal m.b.recorded.journal before one two three replay_a replay_b
    of_first of_second c.in_ok-failure.ensures.told
    (λ sound. (let zero = c.in_ok-failure.ensures.sound.1 sound in absurd (omega (arith, zero, is))))

pub returns-clause-told : goal.returns-clause-told
returns-clause-told g c =
    let m = c.args.moved.now in
    let before = g.E.Write.contents c.args.errors.now in
    let one = g.E.Write.contents c.write_answers.new.errors in
    let two = g.E.Write.contents c.write_answers-2.new.errors in
    let three = g.E.Write.contents c.tell_failure.new.errors in
    let of_first : Appends before one (answers_text m.a.recorded.journal.entries) = search rules in
    let of_second : Appends one two (answers_text m.b.recorded.journal.entries) = search rules in
    let replay_a : IsReplay m.a.recorded.journal.opening m.a.recorded.journal.entries = search rules in
    let replay_b : IsReplay m.b.recorded.journal.opening m.b.recorded.journal.entries = search rules in
    let sound : IsSound m.ends m.a.fault m.b.fault = search rules in
    let silent : three ≡ two = search rules in
    end_answered c.tell_turns.result c.args.verdict m.ends m.a.fault m.b.fault m.a.recorded.journal m.b.recorded.journal
    before one two three (g.E.Write.contents c.tell_turns.new.errors) replay_a replay_b of_first of_second silent sound
    c.tell_turns.ensures

pub returns-clause-failed : goal.returns-clause-failed
returns-clause-failed g c =
    let m = c.args.moved.now in
    let three = g.E.Write.contents c.tell_failure.new.errors in
    let sound : IsSound m.ends m.a.fault m.b.fault = search rules in
    never_one c.tell_turns.result c.args.verdict m.ends m.a.fault m.b.fault
    (λ s end. Appends three (g.E.Write.contents c.tell_turns.new.errors) (end_line c.args.verdict end))
    (IsFailureOf m.ends m.a.fault m.b.fault m.a.recorded.journal m.b.recorded.journal (g.E.Write.contents c.args.errors.now)
    (g.E.Write.contents c.tell_turns.new.errors)) sound c.tell_turns.ensures
