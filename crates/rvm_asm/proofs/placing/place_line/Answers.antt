use Rattle.std.proofs.Common.{◌≡◌, ◌+◌, arith, get_or, length, subst, sym}
use Rattle.std.proofs.lemmas.Result.{err_from_is_err_and}
use Rattle.rvm_asm.specs.LineViews.{names_of}
use Rattle.rvm_asm.specs.Refusals.{IsErrorOf, error_at}
use Rattle.rvm_asm.specs.Views.{lines_of, texts_of}
use Rattle.rvm_asm.proofs.Claims.{text_count, text_fault, text_fits, text_placed, text_taken}
use Rattle.rvm_asm.proofs.Lines.{text_read}
use Rattle.rvm_asm.proofs.placing.place_line.Goals as goal

pub line_bytes-requires : goal.line_bytes-requires
line_bytes-requires c = text_read c.args.texts.now _ c.args.index c.requires.read c.requires.inside

pub claim-requires : goal.claim-requires
claim-requires c =
    let count : c.len-count.result ≡ length c.in_ok-line_bytes.field-0.items = omega (arith, c.len-count.ensures, c.in_ok-line_bytes.field-0.ok.0) in
    text_fits c.args.texts.now _ (names_of c.args.symbols.now) c.args.places.now c.args.index c.len-count.result c.in_ok-line_bytes.field-0.items c.requires.inside c.requires.laid c.in_ok-line_bytes.ensures count

pub returns-clause-placed : goal.returns-clause-placed
returns-clause-placed c =
    let count : c.len-count.result ≡ length c.in_ok-line_bytes.field-0.items = omega (arith, c.len-count.ensures, c.in_ok-line_bytes.field-0.ok.0) in
    text_placed c.args.texts.now _ (names_of c.args.symbols.now) c.args.places.now c.args.index c.len-count.result c.in_ok-line_bytes.field-0.items c.args.extents.now c.claim.new.extents c.in_ok-claim.field-0 c.requires.inside c.requires.placed c.in_ok-line_bytes.ensures count c.in_ok-claim.ensures

pub returns-clause-count : goal.returns-clause-count
returns-clause-count c =
    let count : c.len-count.result ≡ length c.in_ok-line_bytes.field-0.items = omega (arith, c.len-count.ensures, c.in_ok-line_bytes.field-0.ok.0) in
    text_count c.args.texts.now _ (names_of c.args.symbols.now) (get_or c.args.places.now c.args.index 0) c.args.index c.len-count.result c.in_ok-line_bytes.field-0.items c.requires.inside c.in_ok-line_bytes.ensures count

pub returns-in_err-line_bytes-clause-refused : goal.returns-in_err-line_bytes-clause-refused
returns-in_err-line_bytes-clause-refused c =
    let p = err_from_is_err_and c.from_residual.result c.from_residual.ensures.1 in
    rw p.1 (subst (λ e. IsErrorOf (lines_of (texts_of c.args.texts.now)) (error_at (c.args.index + 1) e)) (sym p.2)
    (text_fault c.args.texts.now _ (names_of c.args.symbols.now) c.args.places.now c.args.index c.args.extents.now c.in_err-line_bytes.field-0.0 c.requires.inside c.requires.laid c.requires.placed c.in_err-line_bytes.ensures))

pub returns-in_err-claim-clause-refused : goal.returns-in_err-claim-clause-refused
returns-in_err-claim-clause-refused c =
    let count : c.len-count.result ≡ length c.in_ok-line_bytes.field-0.items = omega (arith, c.len-count.ensures, c.in_ok-line_bytes.field-0.ok.0) in
    let p = err_from_is_err_and c.from_residual-in_err-claim.result c.from_residual-in_err-claim.ensures.1 in
    rw p.1 (subst (λ e. IsErrorOf (lines_of (texts_of c.args.texts.now)) (error_at (c.args.index + 1) e)) (sym p.2)
    (text_taken c.args.texts.now _ (names_of c.args.symbols.now) c.args.places.now c.args.index c.len-count.result c.in_ok-line_bytes.field-0.items c.args.extents.now c.claim.new.extents c.in_err-claim.field-0.0 c.requires.inside c.requires.laid c.requires.placed c.in_ok-line_bytes.ensures count c.in_err-claim.ensures))
