use Rattle.std.proofs.Common.{arith, refl, ◌+◌, length, ap, ◌∙◌, ◌≡◌, None, Some}
use Rattle.rvm_frame.specs.Kinds.{header_len, names_hosts}
use Rattle.rvm_frame.proofs.Parts.{page_less, page_short, page_whole}
use Rattle.rvm_frame.proofs.unfinished.page_step.Goals as goal

-- a head that is not full yet
pub returns-then-len-full-clause-step : goal.returns-then-len-full-clause-step
returns-then-len-full-clause-step c =
    let k = c.requires.kept in
    let t = c.take_head-count.ensures in
    let room = c.requires.room in
    let full : c.header_len-full.result ≡ header_len (names_hosts c.args.version) = c.header_len-full.ensures ∙ ap header_len c.names_hosts-named.ensures in
    page_less c.args.version c.args.head.now.items c.args.part c.args.piece.now c.take_head-count.result k.3 k.0 t.moves t.count (omega (arith, t.fits, room, full)) c.requires.waits

pub returns-then-len-lt-PAGE_SIZE-clause-step : goal.returns-then-len-lt-PAGE_SIZE-clause-step
returns-then-len-lt-PAGE_SIZE-clause-step c =
    let k = c.requires.kept in
    let t = c.take_page-count.ensures in
    page_short c.args.version c.args.head.now.items c.args.part c.args.piece.now c.take_page-count.new.part c.take_page-count.result k.3 k.0 k.1 t.items (search (arith)) t.moves t.count c.requires.waits

pub returns-in-Ok-clause-step : goal.returns-in-Ok-clause-step
returns-in-Ok-clause-step c =
    let k = c.requires.kept in
    let t = c.take_page-count.ensures in
    let full : c.header_len-full.result ≡ header_len (names_hosts c.args.version) = c.header_len-full.ensures ∙ ap header_len c.names_hosts-named.ensures in
    let most = k.1 in
    let hl : length c.args.head.now.items ≡ header_len (names_hosts c.args.version) + 6 = omega (arith, full, c.len.ensures.value, c.if-len-full.false, most) in
    let pl : length c.take_page-count.new.part ≡ 4096 = omega (arith, c.len-2.ensures.value, c.if-len-lt-PAGE_SIZE.false, c.len-2.ensures.small) in
    let made = (rw c.names_hosts-named.ensures at c.in-Ok.ensures.value) in
    page_whole c.args.version c.args.head.now.items c.args.part c.args.piece.now c.take_page-count.new.part c.as_slice.result.now c.take_page-count.result (Some c.in-Ok.received) c.as_slice.ensures.value k.3 hl t.items pl t.moves t.count made c.requires.waits

pub returns-in-Err-clause-step : goal.returns-in-Err-clause-step
returns-in-Err-clause-step c =
    let k = c.requires.kept in
    let t = c.take_page-count.ensures in
    let full : c.header_len-full.result ≡ header_len (names_hosts c.args.version) = c.header_len-full.ensures ∙ ap header_len c.names_hosts-named.ensures in
    let most = k.1 in
    let hl : length c.args.head.now.items ≡ header_len (names_hosts c.args.version) + 6 = omega (arith, full, c.len.ensures.value, c.if-len-full.false, most) in
    let pl : length c.take_page-count.new.part ≡ 4096 = omega (arith, c.len-2.ensures.value, c.if-len-lt-PAGE_SIZE.false, c.len-2.ensures.small) in
    let made = (rw c.names_hosts-named.ensures at c.in-Err.ensures.err.1) in
    (c.take_page-count.result, page_whole c.args.version c.args.head.now.items c.args.part c.args.piece.now c.take_page-count.new.part c.as_slice.result.now c.take_page-count.result None c.as_slice.ensures.value k.3 hl t.items pl t.moves t.count (rw made refl) c.requires.waits)
