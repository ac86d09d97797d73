use Rattle.std.proofs.Common.{rules, [], ◌++◌, refl, take, subst, sym}
use Rattle.rvm_station.proofs.Runs.{goes_on}
use Rattle.rvm_station.specs.Hearing.{AreTold, AreToldUpTo}
use Rattle.rvm_station.proofs.Records.{none_told, told_more, told_up_to, unfailed_told, waits_told}
use Rattle.rvm_station.proofs.host_hearing.take.Goals as goal

pub returns-in_err-taken-clause-some : goal.returns-in_err-taken-clause-some
returns-in_err-taken-clause-some g c =
    let end = c.in_err-taken.field-0.0 in
    let before = g.A.Access.asked c.args.access.now in
    let mid = g.A.Access.asked c.loop-rest.access in
    let now = g.A.Access.asked c.feed.new.access in
    let i = c.loop-rest.invariant.told in
    let more : AreToldUpTo g.L.Hosting.gave c.args.from c.args.station.now.id end mid now c.loop-rest.reader c.loop-rest.rest.now =
    search rules in
    let up = subst (λ l. AreToldUpTo g.L.Hosting.gave c.args.from c.args.station.now.id end before now c.args.reader.now l) (sym i.1)
    (told_up_to g.L.Hosting.gave c.args.from c.args.station.now.id end before mid now c.args.reader.now c.loop-rest.reader i.0
    c.loop-rest.rest.now i.2 more) in
    search (up, rules)

pub loop-rest-init : goal.loop-rest-init
loop-rest-init g c = record {
  waits = c.requires.waits;
  unfailed = c.requires.unfailed;
  told = (
    [],
    refl,
    none_told g.L.Hosting.gave c.args.from c.args.station.now.id (g.A.Access.asked c.args.access.now) c.args.reader.now,
  );
}

pub loop-rest-preserved : goal.loop-rest-preserved
loop-rest-preserved g c =
    let reader = c.loop-rest.reader in
    let new = c.feed.new.reader in
    let rest = c.loop-rest.rest.now in
    let n = c.in_ok-taken.taken in
    let before = g.A.Access.asked c.args.access.now in
    let mid = g.A.Access.asked c.loop-rest.access in
    let now = g.A.Access.asked c.feed.new.access in
    let i = c.loop-rest.invariant in
    let more : AreTold g.L.Hosting.gave c.args.from c.args.station.now.id mid now reader (take n rest) new = search rules in
    record {
      waits = waits_told g.L.Hosting.gave c.args.from c.args.station.now.id mid now reader new (take n rest) i.waits more;
      unfailed = unfailed_told g.L.Hosting.gave c.args.from c.args.station.now.id mid now reader new (take n rest) i.unfailed more;
      told = (
        i.told.0 ++ take n rest,
        goes_on c.args.piece.now i.told.0 rest n i.told.1,
        told_more g.L.Hosting.gave c.args.from c.args.station.now.id before mid now c.args.reader.now reader new i.told.0
            (take n rest) i.told.2 more,
      );
    }
