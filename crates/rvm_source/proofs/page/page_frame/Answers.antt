use Rattle.std.proofs.Common.{◌∙◌, ◌*◌, ◌++◌, length, ap, sym}
use Rattle.rvm_source.proofs.Frames.{page_at_is, zero_frame, old_frame, page_frame, zeros_are}
use Rattle.rvm_source.proofs.page.page_frame.Goals as goal
use Rattle.rvm_source.proofs.page.page_frame.Goals.{else-version-ge2-via-then-version-ge2+else-is_zeros, else-version-ge2-via-else-version-ge2}

pub returns-then-is_zeros-clause-frame : goal.returns-then-is_zeros-clause-frame
returns-then-is_zeros-clause-frame g c =
    let guest = c.args.guest.now in
    let a = c.len-size.ensures.length ∙ ap length c.memory.ensures.bytes in
    let b = c.len-size.ensures.pages ∙ ap (λ xs. 4096 * length xs) c.memory.ensures.dirty in
    let filled = c.into_page-bytes.ensures ∙ c.fill.ensures ∙ ap (λ xs. xs ++ c.page-copy.result.now) c.requires.empty in
    let same = filled ∙ page_at_is guest.guest c.args.page c.from.result (length guest.dirty) c.len-size.result c.page-copy.result.now _ c.page-copy.ensures c.memory-2.ensures.bytes a b c.from.ensures c.requires.page in
    zero_frame c.args.version c.args.move_number c.args.page c.args.copy_number guest.guest c.into_page-bytes.result same
    c.if-version-ge2.true (sym (zeros_are c.into_page-bytes.result c.is_zeros.result c.is_zeros.ensures) ∙ c.if-is_zeros.true)

pub returns-clause-frame : goal.returns-clause-frame
returns-clause-frame g c =
    let guest = c.args.guest.now in
    let a = c.len-size.ensures.length ∙ ap length c.memory.ensures.bytes in
    let b = c.len-size.ensures.pages ∙ ap (λ xs. 4096 * length xs) c.memory.ensures.dirty in
    let filled = c.into_page-bytes.ensures ∙ c.fill.ensures ∙ ap (λ xs. xs ++ c.page-copy.result.now) c.requires.empty in
    let same = filled ∙ page_at_is guest.guest c.args.page c.from.result (length guest.dirty) c.len-size.result c.page-copy.result.now _ c.page-copy.ensures c.memory-2.ensures.bytes a b c.from.ensures c.requires.page in
    elim c.else-version-ge2.branch [
      | else-version-ge2-via-then-version-ge2+else-is_zeros w ↦
          page_frame c.args.version c.args.move_number c.args.page c.args.copy_number guest.guest c.into_page-bytes.result same
          w.if-version-ge2.true (sym (zeros_are c.into_page-bytes.result w.is_zeros.result w.is_zeros.ensures) ∙ w.if-is_zeros.false)
      | else-version-ge2-via-else-version-ge2 w ↦
          old_frame c.args.version c.args.move_number c.args.page c.args.copy_number guest.guest c.into_page-bytes.result same
          w.if-version-ge2.false
    ]
