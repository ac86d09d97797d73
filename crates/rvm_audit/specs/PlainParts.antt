-- What is read of a journal, as contracts see it.
use Rattle.std.specs.Prelude.{List}
use Rattle.rvm_recorder.specs.Entries.{PlainEntry}
use Rattle.rvm_audit.specs.declared.part.Part.{Part}

-- a part, whose items, or stretches, are lists of entries
abbrev pub PlainPart : Type 0
PlainPart = Part (List PlainEntry)
