use Rattle.std.proofs.Common.{◌≡◌, drop}
use Rattle.rvm_text.specs.Registers.{place_from, texts_of}
use Rattle.rvm_text.proofs.registers.place.Given as goal

-- the names so far are others
abbrev pub invariant-loop-name : goal.invariant-loop-name
invariant-loop-name l = record {
  number : l.number ≡ l.name-index;
  left : place_from l.number (texts_of (drop l.name-index l.names)) l.word ≡ place_from 0 (texts_of l.names) l.word;
}
