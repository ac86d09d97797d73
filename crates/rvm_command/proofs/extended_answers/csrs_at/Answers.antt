use Rattle.rvm_command.proofs.Showing.{csrs_held, csrs_shown, in_guest, kept_at}
use Rattle.rvm_command.proofs.extended_answers.csrs_at.Goals as goal

pub restored-requires : goal.restored-requires
restored-requires c =
    csrs_held _ c.args.hart c.as_slice.result.now c.args.snapshot.now.harts.items _ c.requires.hart c.as_slice.ensures.value c.requires.guest.1.held.held

pub returns-clause-csrs : goal.returns-clause-csrs
returns-clause-csrs c = λ guest is.
    csrs_shown c.args.hart guest guest.board.shared.bytes _ c.restored.result (in_guest c.args.hart guest c.args.snapshot.now is c.requires.hart) is.whole
    (kept_at c.args.hart guest c.args.snapshot.now c.as_slice.result.now _ is c.requires.hart c.as_slice.ensures.value)
    c.restored.ensures
