use Rattle.std.proofs.Common.{◌≡◌}
use Rattle.rvm_text.specs.Tokens.{lexemes_of}
use Rattle.rvm_asm.specs.Contents.{list_bytes}
use Rattle.rvm_asm.specs.Reading.{parts}
use Rattle.rvm_asm.specs.LineViews.{names_of, seen_parts, tokens_left}
use Rattle.rvm_asm.proofs.Parts.{before}
use Rattle.rvm_asm.proofs.content.list.Given as goal

-- the bytes so far and those of the parts that are left are all
abbrev pub invariant-loop-left : goal.invariant-loop-left
invariant-loop-left l =
    before l.bytes.items (list_bytes (names_of l.symbols) l.width (seen_parts l.left)) ≡ list_bytes (names_of l.symbols) l.width (parts (lexemes_of l.tokens))

abbrev pub decreases-loop-left : goal.decreases-loop-left
decreases-loop-left l = tokens_left l.left
