use Rattle.std.proofs.Common.{◌≡◌, ◌*◌, ap, length, sym, ◌∙◌, arith}
use Rattle.rvm_guest.specs.Pages.{count_of}
use Rattle.rvm_command.proofs.Saving.{all_put, pages_are, saved_back}
use Rattle.rvm_command.proofs.save.save_guest.Goals as goal

pub returns-clause-text : goal.returns-clause-text
returns-clause-text g c =
    let guest = c.args.guest.now.guest in
    let pages = c.pages-pages.result in
    let size = c.len-size.ensures.length ∙ ap length c.memory.ensures.bytes in
    let dirty : pages ≡ length c.args.guest.now.dirty = c.pages-pages.ensures.pages ∙ ap length c.memory-2.ensures.dirty in
    let same : pages ≡ count_of guest = pages_are guest c.len-size.result pages size
    (c.len-size.ensures.pages ∙ ap (λ d. 4096 * length d) c.memory.ensures.dirty ∙ ap (λ n. 4096 * n) (sym dirty)) in
    (all_put _ _ _ _ _ _ guest pages c.harts-harts.result same c.harts-harts.ensures.count c.in_ok-put_opening.ensures
    c.in_ok-put_pages.ensures c.in_ok-put_end.ensures c.in_ok-put_state.ensures.text c.in_ok-put_commit.ensures).text

pub returns-clause-back : goal.returns-clause-back
returns-clause-back g c =
    let guest = c.args.guest.now.guest in
    let pages = c.pages-pages.result in
    let size = c.len-size.ensures.length ∙ ap length c.memory.ensures.bytes in
    let dirty : pages ≡ length c.args.guest.now.dirty = c.pages-pages.ensures.pages ∙ ap length c.memory-2.ensures.dirty in
    let whole = c.len-size.ensures.pages ∙ ap (λ d. 4096 * length d) c.memory.ensures.dirty ∙ ap (λ n. 4096 * n) (sym dirty) in
    let same : pages ≡ count_of guest = pages_are guest c.len-size.result pages size whole in
    let some = c.memory.ensures.some in
    saved_back _ _ guest pages
    (all_put _ _ _ _ _ _ guest pages c.harts-harts.result same c.harts-harts.ensures.count c.in_ok-put_opening.ensures
    c.in_ok-put_pages.ensures c.in_ok-put_end.ensures c.in_ok-put_state.ensures.text c.in_ok-put_commit.ensures)
    c.valid_guest.ensures c.in_ok-put_state.ensures.told same (omega (arith, size, whole, some)) c.pages-pages.ensures.bound
