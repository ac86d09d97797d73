use Rattle.std.proofs.Common.{List, ℕ, ◌<◌, Option, Result, arith, inr, length, subst, sym}
use Rattle.std.specs.Io.Buffered.{writer_contents}
use Rattle.std.specs.Prelude.{IfOk}
use Rattle.rvm_replay.specs.Audited.{AreReplayed}
use Rattle.rvm_replay.specs.Journals.{AreTexts, known_in}
use Rattle.rvm_replay.specs.Turns.{IsLooked, IsNoTurn, IsTurnSession}
use Rattle.rvm_replay.specs.declared.turns.TurnPlace.{TurnPlace}
use Rattle.rvm_replay.proofs.TurnEnds.{texts_ended, texts_refused, texts_refused_untold, texts_unended, with_session, with_session_untold, without_session}
use Rattle.rvm_replay.proofs.UntoldReplays.{on_error}
use Rattle.rvm_replay.proofs.Worlds.{texts_long}
use Rattle.rvm_replay.proofs.turn_session.replay_turns.Goals as goal

pub look_for-looked-requires-clause-replayed : goal.look_for-looked-requires-clause-replayed
look_for-looked-requires-clause-replayed g c =
    let names = c.args.names.now in
    let known = known_in c.args.journals.now in
    let image = c.args.image.now in
    let files = c.as_slice-files.result.now in
    let texts : AreTexts names known files = subst (AreTexts names known) (sym c.as_slice-files.ensures.value) c.in-Ok.ensures.texts in
    let are : AreReplayed files image c.as_slice.result.now =
    subst (λ fs. AreReplayed fs image c.as_slice.result.now) (sym c.as_slice-files.ensures.value)
    (subst (AreReplayed c.in-Ok.world.files.items image) (sym c.as_slice.ensures.value) c.in-Ok.ensures.replayed) in
    (image, are)

pub answer_at-requires : goal.answer_at-requires
answer_at-requires g c =
    let names = c.args.names.now in
    let known = known_in c.args.journals.now in
    let image = c.args.image.now in
    let files = c.as_slice-files.result.now in
    let texts : AreTexts names known files = subst (AreTexts names known) (sym c.as_slice-files.ensures.value) c.in-Ok.ensures.texts in
    let there : c.in-Ok-2.place.index < length files =
    subst (λ (r : Result TurnPlace ℕ). IfOk r (λ p. p.index < length files)) c.in-Ok-2.is c.in_ok-place-in-Ok.ensures.there in
    let size = texts_long names known files texts in
    let named = c.requires.named in
    record { there = (omega (arith, there, size), omega (arith, there, size, named)) }

pub returns-in_err-place-in-Ok-clause-untold : goal.returns-in_err-place-in-Ok-clause-untold
returns-in_err-place-in-Ok-clause-untold g c =
    let names = c.args.names.now in
    let known = known_in c.args.journals.now in
    let image = c.args.image.now in
    let files = c.as_slice-files.result.now in
    let texts : AreTexts names known files = subst (AreTexts names known) (sym c.as_slice-files.ensures.value) c.in-Ok.ensures.texts in
    let are : AreReplayed files image c.as_slice.result.now =
    subst (λ fs. AreReplayed fs image c.as_slice.result.now) (sym c.as_slice-files.ensures.value)
    (subst (AreReplayed c.in-Ok.world.files.items image) (sym c.as_slice.ensures.value) c.in-Ok.ensures.replayed) in
    on_error c.from_residual.result _ (
      files,
      texts,
      without_session files image c.args.turn (g.R.Read.remaining c.args.reader.now)
          (writer_contents g.O.Write.contents c.args.output.now) (c.in_err-place-in-Ok.ensures.untold image are),
    )

pub returns-in_ok-tell_fault-in-Err-clause-status : goal.returns-in_ok-tell_fault-in-Err-clause-status
returns-in_ok-tell_fault-in-Err-clause-status g c =
    texts_refused c.args.names.now (known_in c.args.journals.now) c.args.image.now c.args.turn
    (g.R.Read.remaining c.args.reader.now) (writer_contents g.O.Write.contents c.args.output.now) c.in-Err.fault
    c.in-Err.ensures.fault (g.E.Write.contents c.args.errors.now) (g.E.Write.contents c.tell_fault.new.errors)
    c.in_ok-tell_fault-in-Err.ensures

pub returns-in_err-tell_fault-in-Err-clause-untold : goal.returns-in_err-tell_fault-in-Err-clause-untold
returns-in_err-tell_fault-in-Err-clause-untold g c =
    on_error c.from_residual-in_err-tell_fault-in-Err.result _
    (texts_refused_untold c.args.names.now (known_in c.args.journals.now) c.args.image.now c.args.turn
    (g.R.Read.remaining c.args.reader.now) (writer_contents g.O.Write.contents c.args.output.now) c.in-Err.fault
    c.in-Err.ensures.fault)

pub returns-in-Ok-2-clause-status : goal.returns-in-Ok-2-clause-status
returns-in-Ok-2-clause-status g c =
    let names = c.args.names.now in
    let known = known_in c.args.journals.now in
    let image = c.args.image.now in
    let files = c.as_slice-files.result.now in
    let texts : AreTexts names known files = subst (AreTexts names known) (sym c.as_slice-files.ensures.value) c.in-Ok.ensures.texts in
    let are : AreReplayed files image c.as_slice.result.now =
    subst (λ fs. AreReplayed fs image c.as_slice.result.now) (sym c.as_slice-files.ensures.value)
    (subst (AreReplayed c.in-Ok.world.files.items image) (sym c.as_slice.ensures.value) c.in-Ok.ensures.replayed) in
    let errors = g.E.Write.contents c.args.errors.now in
    let mid = g.E.Write.contents c.look_for-looked.new.errors in
    let looked = subst (λ (r : Result TurnPlace ℕ). IsLooked files image c.args.turn r errors mid) c.in-Ok-2.is
    (c.in_ok-place-in-Ok.ensures.looked image are) in
    let turn = c.args.turn in
    let session = g.R.Read.remaining c.args.reader.now in
    let out = writer_contents g.O.Write.contents c.args.output.now in
    let out' = writer_contents g.O.Write.contents c.answer_at.new.output in
    let errors' = g.E.Write.contents c.answer_at.new.errors in
    texts_ended names known image turn session out out' c.answer_at.result files errors errors' texts
    (with_session files image turn session out out' c.answer_at.result errors errors'
    (subst (λ (e : Option (List ℕ)). IfOk c.answer_at.result (λ s. IsTurnSession files image turn s session out out' e errors'))
    looked.1 (c.answer_at.ensures.status files turn texts looked.0)))

pub returns-in-Ok-2-clause-untold : goal.returns-in-Ok-2-clause-untold
returns-in-Ok-2-clause-untold g c =
    let names = c.args.names.now in
    let known = known_in c.args.journals.now in
    let image = c.args.image.now in
    let files = c.as_slice-files.result.now in
    let texts : AreTexts names known files = subst (AreTexts names known) (sym c.as_slice-files.ensures.value) c.in-Ok.ensures.texts in
    let are : AreReplayed files image c.as_slice.result.now =
    subst (λ fs. AreReplayed fs image c.as_slice.result.now) (sym c.as_slice-files.ensures.value)
    (subst (AreReplayed c.in-Ok.world.files.items image) (sym c.as_slice.ensures.value) c.in-Ok.ensures.replayed) in
    let errors = g.E.Write.contents c.args.errors.now in
    let mid = g.E.Write.contents c.look_for-looked.new.errors in
    let looked = subst (λ (r : Result TurnPlace ℕ). IsLooked files image c.args.turn r errors mid) c.in-Ok-2.is
    (c.in_ok-place-in-Ok.ensures.looked image are) in
    let turn = c.args.turn in
    let session = g.R.Read.remaining c.args.reader.now in
    let out = writer_contents g.O.Write.contents c.args.output.now in
    let out' = writer_contents g.O.Write.contents c.answer_at.new.output in
    texts_unended names known image turn session out out' c.answer_at.result files texts
    (with_session_untold files image turn session out out' c.answer_at.result
    (c.answer_at.ensures.untold files turn texts looked.0))

pub returns-in-Err-2-clause-status : goal.returns-in-Err-2-clause-status
returns-in-Err-2-clause-status g c =
    let names = c.args.names.now in
    let known = known_in c.args.journals.now in
    let image = c.args.image.now in
    let files = c.as_slice-files.result.now in
    let texts : AreTexts names known files = subst (AreTexts names known) (sym c.as_slice-files.ensures.value) c.in-Ok.ensures.texts in
    let are : AreReplayed files image c.as_slice.result.now =
    subst (λ fs. AreReplayed fs image c.as_slice.result.now) (sym c.as_slice-files.ensures.value)
    (subst (AreReplayed c.in-Ok.world.files.items image) (sym c.as_slice.ensures.value) c.in-Ok.ensures.replayed) in
    let errors = g.E.Write.contents c.args.errors.now in
    let mid = g.E.Write.contents c.look_for-looked.new.errors in
    let looked = subst (λ (r : Result TurnPlace ℕ). IsLooked files image c.args.turn r errors mid) c.in-Err-2.is
    (c.in_ok-place-in-Ok.ensures.looked image are) in
    (files, texts, inr (looked (writer_contents g.O.Write.contents c.args.output.now)))

pub returns-in-Err-2-clause-out : goal.returns-in-Err-2-clause-out
returns-in-Err-2-clause-out g c zero =
    let names = c.args.names.now in
    let known = known_in c.args.journals.now in
    let image = c.args.image.now in
    let files = c.as_slice-files.result.now in
    let texts : AreTexts names known files = subst (AreTexts names known) (sym c.as_slice-files.ensures.value) c.in-Ok.ensures.texts in
    let are : AreReplayed files image c.as_slice.result.now =
    subst (λ fs. AreReplayed fs image c.as_slice.result.now) (sym c.as_slice-files.ensures.value)
    (subst (AreReplayed c.in-Ok.world.files.items image) (sym c.as_slice.ensures.value) c.in-Ok.ensures.replayed) in
    let errors = g.E.Write.contents c.args.errors.now in
    let mid = g.E.Write.contents c.look_for-looked.new.errors in
    let looked = subst (λ (r : Result TurnPlace ℕ). IsLooked files image c.args.turn r errors mid) c.in-Err-2.is
    (c.in_ok-place-in-Ok.ensures.looked image are) in
    let out = writer_contents g.O.Write.contents c.args.output.now in
    absurd (subst (λ n. IsNoTurn n files image c.args.turn out out errors mid) zero (looked out))
