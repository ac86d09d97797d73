use Rattle.std.proofs.Common.{◌≡◌, ◌+◌, ◌≤◌, drop, length}
use Rattle.rvm_text.specs.Strings.{text_of, text_behind}
use Rattle.rvm_text.proofs.strings.text_length.Given as goal

-- the length so far and that of what is left are all of it
abbrev pub invariant-loop-b : goal.invariant-loop-b
invariant-loop-b l = record {
  all : l.length + length (text_behind l.escaped (drop l.b-index l.written)) ≡ length (text_of l.written);
  at_most : l.length ≤ l.b-index;
}
