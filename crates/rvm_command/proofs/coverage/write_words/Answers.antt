use Rattle.std.proofs.Common.{◌≡◌, ◌∙◌, ◌++◌, ◌+◌, ◌%◌, ◌^◌, [], sym, ap, arith, refl, append_assoc, append-nil, subst, take}
use Rattle.std.specs.Io.KnownBytes.{Appends}
use Rattle.byteorder.specs.Endian.{little_number}
use Rattle.rvm_command.specs.Counting.{number_at}
use Rattle.rvm_command.specs.Coverage.{counted_line, counted_lines}
use Rattle.rvm_command.proofs.Covering.{counted_lines_more, counted_lines_none}
use Rattle.rvm_command.proofs.Runs.{appends_more, appends_none}
use Rattle.rvm_command.proofs.coverage.write_words.Goals as goal

pub loop-bytes-init : goal.loop-bytes-init
loop-bytes-init g c = ([], appends_none _, refl)

pub loop-bytes-smaller : goal.loop-bytes-smaller
loop-bytes-smaller g c = omega (arith, c.split_at.ensures.back_len, c.loop-bytes-test.true)

pub loop-bytes-preserved : goal.loop-bytes-preserved
loop-bytes-preserved g c =
    let so_far = c.loop-bytes.invariant in
    let number = number_at c.args.counts.now in
    let a = c.loop-bytes.address in
    let bs = c.loop-bytes.bytes.now in
    let line = counted_line c.number_at-count.result a c.read_u32.result in
    let word : c.read_u32.result ≡ little_number 4 (take 4 bs) =
    c.read_u32.ensures ∙ ap (little_number 4) c.split_at.ensures.front in
    let next = (a + 4) % 2 ^ 32 in
    let lines : line ++ counted_lines number next c.split_at.result.1.now ≡ counted_lines number a bs =
    ap (λ k. counted_line k a c.read_u32.result ++ counted_lines number next c.split_at.result.1.now) c.number_at-count.ensures
    ∙ ap (λ w. counted_line (number a) a w ++ counted_lines number next c.split_at.result.1.now) word
    ∙ ap (λ r. counted_line (number a) a (little_number 4 (take 4 bs)) ++ counted_lines number next r) c.split_at.ensures.back
    ∙ sym (counted_lines_more number a bs c.loop-bytes-test.true) in (
      so_far.0 ++ line,
      appends_more _ _ _ so_far.0 line so_far.1 c.in_ok-write_counted.ensures,
      append_assoc so_far.0 line (counted_lines number next c.split_at.result.1.now) ∙ ap (λ l. so_far.0 ++ l) lines ∙ so_far.2,
    )

pub returns : goal.returns
returns g c =
    let so_far = c.loop-bytes.invariant in
    let none = counted_lines_none (number_at c.args.counts.now) c.loop-bytes.address c.loop-bytes.bytes.now (omega (arith, c.loop-bytes-test.false)) in
    subst (Appends (g.O.Write.contents c.args.output.now) (g.O.Write.contents c.loop-bytes.output))
    (sym (append-nil so_far.0) ∙ ap (λ l. so_far.0 ++ l) (sym none) ∙ so_far.2) so_far.1
