use Rattle.std.proofs.Common.{◌≡◌, ◌++◌, drop}
use Rattle.rvm_text.specs.Strings.{text_of, text_behind}
use Rattle.rvm_text.proofs.strings.unescape.Given as goal

-- the text so far and that of what is left are all
abbrev pub invariant-loop-b : goal.invariant-loop-b
invariant-loop-b l = l.text.items ++ text_behind l.escaped (drop l.b-index l.written) ≡ text_of l.written
