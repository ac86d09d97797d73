-- What is kept of entries of which only the frames are asked for.
use Rattle.std.specs.Prelude.{List, [], ◌∷◌}
use Rattle.rvm_recorder.specs.Entries.{PlainEntry}
use Rattle.rvm_audit.specs.declared.stretch.Kind.{Kind}
use Rattle.rvm_audit.specs.declared.stretch.Kind.TheVariants as kind
use Rattle.rvm_audit.specs.declared.stretch.StretchRef.{StretchRef}
use Rattle.rvm_audit.specs.declared.stretch.StretchRef.TheVariants as look

-- the entries that are kept in this way
abbrev pub entries_of : Kind → List PlainEntry
entries_of (kind.Quiet ns) = ns
entries_of (kind.Framed n) = n ∷ []

-- the entries that a view shows
abbrev pub entries_at : StretchRef → List PlainEntry
entries_at (look.Quiet q) = q.now
entries_at (look.Framed f) = f.now ∷ []
