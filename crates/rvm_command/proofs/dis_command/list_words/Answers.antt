use Rattle.std.proofs.Common.{◌≡◌, ◌∙◌, ◌++◌, ◌+◌, ◌%◌, ◌^◌, codes, [], sym, ap, arith, refl, append_assoc, append-nil, subst, take}
use Rattle.std.specs.Io.KnownBytes.{Appends}
use Rattle.byteorder.specs.Endian.{little_number}
use Rattle.rvm_dis.specs.Disassembly.{line_at}
use Rattle.rvm_command.specs.Command.{word_lines}
use Rattle.rvm_command.proofs.Listings.{lines_more, lines_none}
use Rattle.rvm_command.proofs.Runs.{appends_more, appends_none}
use Rattle.rvm_command.proofs.dis_command.list_words.Goals as goal

-- src/dis_command.rt:78:5
pub loop-bytes-init : goal.loop-bytes-init
loop-bytes-init g c = ([], appends_none _, refl)

-- src/dis_command.rt:78:5
pub loop-bytes-smaller : goal.loop-bytes-smaller
loop-bytes-smaller g c = omega (arith, c.split_at.ensures.back_len, c.loop-bytes-test.true)

-- src/dis_command.rt:78:5
pub loop-bytes-preserved : goal.loop-bytes-preserved
loop-bytes-preserved g c =
    let so_far = c.loop-bytes.invariant in
    let a = c.loop-bytes.address in
    let bs = c.loop-bytes.bytes.now in
    let line = line_at a c.read_u32.result ++ codes "\n" in
    let word : c.read_u32.result ≡ little_number 4 (take 4 bs) =
    c.read_u32.ensures ∙ ap (little_number 4) c.split_at.ensures.front in
    let next = (a + 4) % 2 ^ 32 in
    let lines : line ++ word_lines next c.split_at.result.1.now ≡ word_lines a bs =
    ap (λ w. (line_at a w ++ codes "\n") ++ word_lines next c.split_at.result.1.now) word
    ∙ ap (λ r. (line_at a (little_number 4 (take 4 bs)) ++ codes "\n") ++ word_lines next r) c.split_at.ensures.back
    ∙ sym (lines_more a bs c.loop-bytes-test.true) in (
      so_far.0 ++ line,
      appends_more _ _ _ so_far.0 line so_far.1 c.in_ok-list_word.ensures,
      append_assoc so_far.0 line (word_lines next c.split_at.result.1.now) ∙ ap (λ l. so_far.0 ++ l) lines ∙ so_far.2,
    )

-- src/dis_command.rt:72:1
pub returns : goal.returns
returns g c =
    let so_far = c.loop-bytes.invariant in
    let none = lines_none c.loop-bytes.address c.loop-bytes.bytes.now (omega (arith, c.loop-bytes-test.false)) in
    subst (Appends (g.O.Write.contents c.args.output.now) (g.O.Write.contents c.loop-bytes.output))
    (sym (append-nil so_far.0) ∙ ap (λ l. so_far.0 ++ l) (sym none) ∙ so_far.2) so_far.1
