use Rattle.rvm_source.proofs.Sending.{state_is}
use Rattle.rvm_source.proofs.state.body_of.Goals as goal

pub returns-clause-bytes : goal.returns-clause-bytes
returns-clause-bytes g c =
    state_is (λ bytes. bytes.items) c.args.guest.now.guest c.write_state.result c.write_state.ensures.bytes c.write_state.ensures.told
