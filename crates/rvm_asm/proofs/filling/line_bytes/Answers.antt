use Rattle.std.proofs.Common.{sym, get_or}
use Rattle.rvm_asm.specs.LineViews.{names_of}
use Rattle.rvm_asm.specs.Views.{lines_of, texts_of}
use Rattle.rvm_asm.proofs.Claims.{bytes_are, text_bytes}
use Rattle.rvm_asm.proofs.Lines.{text_read}
use Rattle.rvm_asm.proofs.filling.line_bytes.Goals as goal

pub line_bytes-requires : goal.line_bytes-requires
line_bytes-requires c = text_read c.args.texts.now _ c.args.line c.requires.read c.requires.inside

pub returns-in-Ok : goal.returns-in-Ok
returns-in-Ok c = sym (bytes_are (lines_of (texts_of c.args.texts.now)) (names_of c.args.symbols.now) c.args.places.now c.args.line c.in-Ok.bytes.items (text_bytes c.args.texts.now _ (names_of c.args.symbols.now) (get_or c.args.places.now c.args.line 0) c.args.line _ c.requires.inside c.in-Ok.ensures))
