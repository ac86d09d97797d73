use Rattle.std.proofs.Common.{rules}
use Rattle.std.specs.Io.KnownBytes.{Consumes}
use Rattle.rvm_cell.specs.Heard.{IsHeardUpTo}
use Rattle.rvm_cell.proofs.Heard.{ends_heard, piece_up_to}
use Rattle.rvm_cell.proofs.receiver.hear_once.Goals as goal

pub returns-in_err-read_link-clause-some : goal.returns-in_err-read_link-clause-some
returns-in_err-read_link-clause-some g c =
    let up = ends_heard c.args.hearing.now.from c.args.hearing.now.to c.in_err-read_link.field-0.0 (g.I.Link.remaining c.args.link.now) c.args.stream.now.reader c.args.hearing.now.heard in
    search (up, rules)

pub returns-in_err-take-in-Some-clause-some : goal.returns-in_err-take-in-Some-clause-some
returns-in_err-take-in-Some-clause-some g c =
    let end = c.in_err-take-in-Some.field-0.0 in
    let reader = c.args.stream.now.reader in
    let piece = c.in-Some.piece.now in
    let before = c.args.hearing.now.heard in
    let behind = c.take.new.hearing.heard in
    let consumed : Consumes (g.I.Link.remaining c.args.link.now) (g.I.Link.remaining c.read_link.new.link) piece = search rules in
    let more : IsHeardUpTo c.args.hearing.now.from c.args.hearing.now.to end reader piece before behind = search rules in
    let up = piece_up_to c.args.hearing.now.from c.args.hearing.now.to end (g.I.Link.remaining c.args.link.now) (g.I.Link.remaining c.read_link.new.link) piece reader before behind consumed more in
    search (up, rules)
