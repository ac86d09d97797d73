use Rattle.std.proofs.Common.{◌≡◌, ◌∙◌, ◌∷◌, ◌++◌, [], sym, ap, append_assoc, append-nil, subst}
use Rattle.std.specs.Io.KnownBytes.{Appends}
use Rattle.std.specs.Prelude.{List}
use Rattle.rvm_command.specs.Counting.{sum_between}
use Rattle.rvm_command.specs.Profile.{end_before, symbol_line, symbol_lines}
use Rattle.rvm_command.specs.Symbols.{Symbol}
use Rattle.rvm_command.proofs.Profiling.{ends_at, left_of, symbol_lines_more, symbol_lines_none, taken_is}
use Rattle.rvm_command.proofs.Runs.{appends_more}
use Rattle.rvm_command.proofs.profile.write_profile.Goals as goal

pub loop-open-preserved : goal.loop-open-preserved
loop-open-preserved g c =
    let so_far = c.loop-open.invariant in
    let number = sum_between c.args.counts.now in
    let s = c.in-Some.symbol in
    let o = c.next-next.result in
    let after = left_of o c.next-next.new.self in
    let line = symbol_line (number s.address c.end_before.result) s.name in
    let rest = symbol_lines number after in
    let one : line ≡ symbol_line (number s.address (end_before after)) s.name =
    ap (λ e. symbol_line (number s.address e) s.name) (c.end_before.ensures ∙ ends_at o c.next-next.new.self) in
    let here : s ∷ after ≡ left_of c.loop-open.open c.loop-open.symbols =
    ap (λ (l : List Symbol). s ∷ l) (sym (taken_is o c.loop-open.symbols c.next-next.new.self c.next-next.ensures))
    ∙ ap (λ x. left_of x c.loop-open.symbols) (sym c.in-Some.is) in
    let lines : line ++ rest ≡ symbol_lines number (left_of c.loop-open.open c.loop-open.symbols) =
    ap (λ l. l ++ rest) one ∙ sym (symbol_lines_more number s after) ∙ ap (symbol_lines number) here in (
      so_far.0 ++ line,
      appends_more _ _ _ so_far.0 line so_far.1 c.in_ok-write_symbol.ensures,
      append_assoc so_far.0 line rest ∙ ap (λ l. so_far.0 ++ l) lines ∙ so_far.2,
    )

pub returns : goal.returns
returns g c =
    let so_far = c.loop-open.invariant in
    let number = sum_between c.args.counts.now in
    let none : left_of c.loop-open.open c.loop-open.symbols ≡ [] = ap (λ x. left_of x c.loop-open.symbols) c.in_default.is in
    let lines : symbol_lines number (left_of c.loop-open.open c.loop-open.symbols) ≡ [] =
    ap (symbol_lines number) none ∙ symbol_lines_none number in
    subst (Appends (g.O.Write.contents c.args.output.now) (g.O.Write.contents c.loop-open.output))
    (sym (append-nil so_far.0) ∙ ap (λ l. so_far.0 ++ l) (sym lines) ∙ so_far.2) so_far.1
