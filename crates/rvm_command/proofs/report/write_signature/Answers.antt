use Rattle.std.proofs.Common.{◌≡◌, ◌∙◌, ◌++◌, ◌+◌, ◌-◌, ◌%◌, ◌^◌, [], sym, ap, arith, refl, append_assoc, append-nil, subst}
use Rattle.std.specs.Io.KnownBytes.{Appends}
use Rattle.rvm_board.specs.Guest.{GuestState}
use Rattle.rvm_command.specs.Reports.{word_row, word_rows}
use Rattle.rvm_command.specs.WordAt.{word_at}
use Rattle.rvm_command.proofs.Reporting.{rows_more, rows_none}
use Rattle.rvm_command.proofs.Runs.{appends_more, appends_none}
use Rattle.rvm_command.proofs.report.write_signature.Goals as goal

pub loop-left-init : goal.loop-left-init
loop-left-init g c = ([], refl, appends_none _, refl)

pub loop-left-preserved : goal.loop-left-preserved
loop-left-preserved g c =
    let so_far = c.loop-left.invariant in
    let a = c.loop-left.address in
    let n = c.loop-left.left in
    let guest = c.args.guest.now.guest in
    let line = word_row c.word_at-word.result in
    let rest = word_rows (n - 1) ((a + 4) % 2 ^ 32) guest in
    let word : c.word_at-word.result ≡ word_at a guest =
    c.word_at-word.ensures.word ∙ ap (λ (x : GuestState). word_at a x.guest) so_far.1 in
    let lines : line ++ rest ≡ word_rows n a guest =
    ap (λ w. word_row w ++ rest) word ∙ sym (rows_more n a guest c.loop-left-test.true) in (
      so_far.0 ++ line,
      c.word_at-word.ensures.guest ∙ so_far.1,
      appends_more _ _ _ so_far.0 line so_far.2 c.in_ok-write_row.ensures,
      append_assoc so_far.0 line rest ∙ ap (λ l. so_far.0 ++ l) lines ∙ so_far.3,
    )

pub returns-clause-text : goal.returns-clause-text
returns-clause-text g c =
    let so_far = c.loop-left.invariant in
    let none = rows_none c.loop-left.left c.loop-left.address c.args.guest.now.guest
    (λ more. omega (arith, more, c.loop-left-test.false)) in
    subst (Appends (g.W.Write.contents c.args.writer.now) (g.W.Write.contents c.loop-left.writer))
    (sym (append-nil so_far.0) ∙ ap (λ l. so_far.0 ++ l) (sym none) ∙ so_far.3) so_far.2
