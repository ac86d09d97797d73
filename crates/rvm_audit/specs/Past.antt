-- Entries of which only contracts know.
use Rattle.std.specs.Prelude.{◌<◌, List, [], ◌++◌, length}
use Rattle.rvm_recorder.specs.Entries.{PlainEntry}
use Rattle.rvm_audit.specs.declared.past.Link.{Link}
use Rattle.rvm_audit.specs.declared.past.Link.TheVariants as link

-- no entries, or those of an item after others
abbrev pub entries_of : Link → List PlainEntry
entries_of link.None = []
entries_of (link.After before item) = before.value ++ item.value

-- an item that comes after others has an entry
abbrev pub HasEntries : Link → Type 0
HasEntries link.None = Unit {0}
HasEntries (link.After before item) = 0 < length item.value
