-- What the console of a host showed, by its journal.
use Rattle.std.specs.Prelude.{ℕ, List}
use Rattle.std.specs.List.{flat_map}
use Rattle.rvm_message.specs.Taken.{taken_by}
use Rattle.rvm_recorder.specs.Entries.{PlainEntry}

-- the bytes that an entry took, if its event was a drain
abbrev pub taken_in : PlainEntry → List ℕ
taken_in e = taken_by e.event e.reply

-- the bytes that the drains among entries took, in order
abbrev pub console_of : List PlainEntry → List ℕ
console_of = flat_map taken_in
