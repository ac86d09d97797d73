use Rattle.std.proofs.Common.{rules, [], ◌++◌, refl, take, subst, sym}
use Rattle.rvm_cell.specs.Heard.{AreHeard, IsHeardUpTo}
use Rattle.rvm_cell.proofs.Heard.{heard_more, heard_up_to, none_heard, waits_heard}
use Rattle.rvm_station.proofs.Runs.{goes_on}
use Rattle.rvm_cell.proofs.receiver.take.Goals as goal

pub returns-in_err-taken-clause-some : goal.returns-in_err-taken-clause-some
returns-in_err-taken-clause-some g c =
    let end = c.in_err-taken.field-0.0 in
    let reader = c.args.stream.now.reader in
    let before = c.args.hearing.now.heard in
    let behind = c.feed.new.hearing.heard in
    let i = c.loop-rest.invariant.heard in
    let more : IsHeardUpTo c.args.hearing.now.from c.args.hearing.now.to end c.loop-rest.stream.reader c.loop-rest.rest.now c.loop-rest.hearing.heard behind = search rules in
    let up = subst (λ l. IsHeardUpTo c.args.hearing.now.from c.args.hearing.now.to end reader l before behind) (sym i.1)
    (heard_up_to c.args.hearing.now.from c.args.hearing.now.to end reader c.loop-rest.stream.reader i.0 c.loop-rest.rest.now before c.loop-rest.hearing.heard behind i.2 more) in
    search (up, rules)

pub loop-rest-init : goal.loop-rest-init
loop-rest-init g c =
    let hearing = c.args.hearing.now in
    record {
      same = refl;
      waits = c.requires.waits;
      between = c.requires.between;
      heard = ([], refl, none_heard hearing.from hearing.to c.args.stream.now.reader hearing.heard);
    }

pub loop-rest-preserved : goal.loop-rest-preserved
loop-rest-preserved g c =
    let reader = c.loop-rest.stream.reader in
    let new = c.feed.new.stream.reader in
    let rest = c.loop-rest.rest.now in
    let n = c.in_ok-taken.taken in
    let middle = c.loop-rest.hearing.heard in
    let behind = c.feed.new.hearing.heard in
    let i = c.loop-rest.invariant in
    let more : AreHeard c.args.hearing.now.from c.args.hearing.now.to reader (take n rest) middle behind new = search rules in
    record {
      same = search rules;
      waits = waits_heard c.args.hearing.now.from c.args.hearing.now.to reader (take n rest) middle behind new i.waits more;
      between = search rules;
      heard = (
        i.heard.0 ++ take n rest,
        goes_on c.args.piece.now i.heard.0 rest n i.heard.1,
        heard_more c.args.hearing.now.from c.args.hearing.now.to c.args.stream.now.reader reader new i.heard.0 (take n rest) c.args.hearing.now.heard middle behind i.heard.2 more,
      );
    }
