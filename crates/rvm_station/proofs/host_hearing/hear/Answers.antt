use Rattle.rvm_station.proofs.Records.{heard_from, unfailed_read, waits_read}
use Rattle.rvm_station.proofs.host_hearing.hear.Goals as goal

pub hear_record-requires-clause-waits : goal.hear_record-requires-clause-waits
hear_record-requires-clause-waits g c =
    waits_read g.L.Hosting.gave c.args.from c.args.station.now.id (g.A.Access.asked c.args.access.now)
    (g.A.Access.asked c.loop-record.access) (g.I.Read.remaining c.args.input.now)
    (g.I.Read.remaining c.loop-record.input) c.loop-record.reader c.loop-record.invariant.read

pub hear_record-requires-clause-unfailed : goal.hear_record-requires-clause-unfailed
hear_record-requires-clause-unfailed g c =
    unfailed_read g.L.Hosting.gave c.args.from c.args.station.now.id (g.A.Access.asked c.args.access.now)
    (g.A.Access.asked c.loop-record.access) (g.I.Read.remaining c.args.input.now)
    (g.I.Read.remaining c.loop-record.input) c.loop-record.reader c.loop-record.invariant.read

pub returns-in-Err : goal.returns-in-Err
returns-in-Err g c =
    heard_from g.L.Hosting.gave c.args.from c.args.station.now.id c.in-Err.end (g.A.Access.asked c.args.access.now)
    (g.A.Access.asked c.loop-record.access) (g.A.Access.asked c.hear_record.new.access) (g.I.Read.remaining c.args.input.now)
    (g.I.Read.remaining c.loop-record.input) c.loop-record.reader c.loop-record.invariant.read c.in-Err.ensures.some
