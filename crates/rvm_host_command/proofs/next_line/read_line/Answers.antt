use Rattle.std.proofs.Common.{rules, ◌≡◌, ◌∙◌, ◌≤◌, ◌<◌, ◌+◌, ◌==◌, [], ◌∷◌, length, ap, arith, false, None, Some, subst, sym}
use Rattle.std.proofs.lemmas.List.{length-append}
use Rattle.std.specs.Prelude.{IfSome}
use Rattle.rvm_host_command.specs.Lines.{GivesByte}
use Rattle.rvm_host_command.proofs.LinesRead.{AreRead, byte_more, last_ended, line_ended, too_long}
use Rattle.rvm_host_command.proofs.next_line.read_line.Goals as goal

pub returns-in_default-clause-one : goal.returns-in_default-clause-one
returns-in_default-clause-one g c told =
    let old = g.I.Read.remaining c.loop-byte.lines in
    let new = g.I.Read.remaining c.read_byte.new.lines in
    let none : IfSome old (GivesByte None new) = search rules in
    let few : length c.loop-byte.line.items ≤ 4096 = omega arith in
    last_ended (g.I.Read.remaining c.args.lines.now) old new c.loop-byte.line.items c.loop-byte.invariant.read none
    (c.end_line.ensures.one told) few

pub returns-then-byte-eq10-clause-one : goal.returns-then-byte-eq10-clause-one
returns-then-byte-eq10-clause-one g c told =
    let old = g.I.Read.remaining c.loop-byte.lines in
    let new = g.I.Read.remaining c.read_byte.new.lines in
    let byte : IfSome old (GivesByte (Some c.in-Some.byte) new) = search rules in
    let feed : c.in-Some.byte ≡ 10 = search rules in
    let few : length c.loop-byte.line.items ≤ 4096 = omega arith in
    line_ended (g.I.Read.remaining c.args.lines.now) old new c.loop-byte.line.items c.in-Some.byte c.loop-byte.invariant.read
    byte feed few

pub loop-byte-preserved : goal.loop-byte-preserved
loop-byte-preserved g c =
    let first = g.I.Read.remaining c.args.lines.now in
    let old = g.I.Read.remaining c.loop-byte.lines in
    let new = g.I.Read.remaining c.read_byte.new.lines in
    let byte : IfSome old (GivesByte (Some c.in-Some.byte) new) = search rules in
    let other : (c.in-Some.byte == 10) ≡ false = search rules in
    let longer : length c.push.new.self.items ≡ length c.loop-byte.line.items + 1 =
    ap length c.in_ok-push.ensures.items ∙ length-append c.loop-byte.line.items (c.in-Some.byte ∷ []) in record {
      count = omega (arith, longer);
      read =
          subst (AreRead first new) (sym c.in_ok-push.ensures.items)
          (byte_more first old new c.loop-byte.line.items c.in-Some.byte c.loop-byte.invariant.read byte other);
    }

pub returns-clause-long : goal.returns-clause-long
returns-clause-long g c told =
    let many : 4096 < length c.loop-byte.line.items = omega arith in
    too_long (g.I.Read.remaining c.args.lines.now) (g.I.Read.remaining c.loop-byte.lines) c.loop-byte.line.items
    c.loop-byte.invariant.read many
