use Rattle.std.proofs.Common.{◌≡◌, take, drop}
use Rattle.rvm_debug.specs.Words.{words, words_from}
use Rattle.rvm_debug.proofs.words.word_length.Given as goal

-- the bytes so far are of one word
abbrev pub invariant-loop-at : goal.invariant-loop-at
invariant-loop-at l = words_from (drop l.at l.bytes) (take l.at l.bytes) ≡ words l.bytes
