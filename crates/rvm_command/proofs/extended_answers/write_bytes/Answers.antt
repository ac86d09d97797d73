use Rattle.rvm_command.proofs.Showing.{encoded_more}
use Rattle.rvm_command.proofs.extended_answers.write_bytes.Goals as goal

pub loop-rest-preserved : goal.loop-rest-preserved
loop-rest-preserved g c =
    encoded_more c.args.bytes.now c.loop-rest.rest.now c.split_at.result.0.now c.split_at.result.1.now 256 _ _ _
    c.split_at.ensures.front c.split_at.ensures.back c.loop-rest.invariant c.in_ok-write_hex.ensures
