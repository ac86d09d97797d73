use Rattle.std.proofs.Common.{rules, Err, ap}
use Rattle.rvm_station.proofs.Records.{not_read}
use Rattle.rvm_station.proofs.host_hearing.hear_record.Goals as goal

pub returns-in_err-count-clause-some : goal.returns-in_err-count-clause-some
returns-in_err-count-clause-some g c =
    let up = not_read g.L.Hosting.gave c.args.from c.args.station.now.id (g.A.Access.asked c.args.access.now) (g.I.Read.remaining c.args.input.now) (g.I.Read.remaining c.read_record.new.input)
    c.in_err-count.field-0.0 c.args.reader.now (λ is. c.in_err-count.ensures.other (ap Err is)) in
    search (up, rules)
