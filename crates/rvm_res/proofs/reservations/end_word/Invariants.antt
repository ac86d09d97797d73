use Rattle.std.proofs.Common.{◌≡◌, ◌++◌, map, take, drop}
use Rattle.rvm_res.specs.Reservations.{without}
use Rattle.rvm_res.proofs.reservations.end_word.Given as goal

abbrev pub invariant-loop-held : goal.invariant-loop-held
invariant-loop-held l =
    l.words ≡
    map (without l.word) (take l.held-index l.initial.words) ++ drop l.held-index l.initial.words
