use Rattle.std.proofs.Common.{◌≡◌, ◌++◌, take}
use Rattle.rvm_recorder.specs.Items.{all_of}
use Rattle.rvm_audit.proofs.past.Past.extend.Given as goal

abbrev pub invariant-loop-item : goal.invariant-loop-item
invariant-loop-item l = l.self ≡ l.fn.self ++ all_of (take l.item-index l.items)
