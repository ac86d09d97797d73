use Rattle.std.proofs.Common.{Global, Some, Vec, ℕ, arith}
use Rattle.std.proofs.lemmas.List.{length-map}
use Rattle.rvm_replay.specs.Journals.{known_in}
use Rattle.rvm_replay.proofs.Worlds.{any_texts}
use Rattle.rvm_replay.proofs.turn_session.replay_bytes.Goals as goal

pub returns-in-Err-clause-fault : goal.returns-in-Err-clause-fault
returns-in-Err-clause-fault g c =
    let long = c.requires in
    let any = any_texts c.args.names.now (known_in c.args.journals.now)
    (omega (arith, long, length-map c.args.journals.now (λ (v : Vec ℕ Global). Some v.items))) in
    (any.0, any.1, tt)
