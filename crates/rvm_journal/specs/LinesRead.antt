-- The lines that were read of a journal.
use Rattle.std.specs.Prelude.{ℕ, List, [], ◌++◌, codes}
use Rattle.rvm_journal.specs.declared.lines_read.Link.{Link}
use Rattle.rvm_journal.specs.declared.lines_read.Link.TheVariants as link

-- no lines, or one line after others, each with its line feed
abbrev pub text_of : Link → List ℕ
text_of link.None = []
text_of (link.After before line) = before.value ++ (line.value.items ++ codes "\n")
