use Rattle.std.proofs.Common.{◌≡◌, is_some, sym, arith, count_by}
use Rattle.rvm_res.specs.Reservations.{word_of}
use Rattle.rvm_res.proofs.Words.{map-without-none, none-counted}
use Rattle.rvm_res.proofs.reservations.Reservations.poked.Goals as goal

pub returns-else-self-gt0 : goal.returns-else-self-gt0
returns-else-self-gt0 c =
    let counted : count_by is_some c.args.self.now ≡ 0 =
    rw (← c.self.view_is) (omega (arith, c.self.invariant.1)) in
    sym (map-without-none (word_of c.args.address) c.args.self.now (none-counted c.args.self.now counted))
