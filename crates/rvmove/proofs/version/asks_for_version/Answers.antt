use Rattle.std.proofs.Common.{◌≡◌, arith, length, rules}
use Rattle.rvmove.proofs.Asked.{version_asked}
use Rattle.rvmove.proofs.version.asks_for_version.Goals as goal

pub returns-in-len2 : goal.returns-in-len2
returns-in-len2 g c told =
    let two : length c.args.words.now ≡ 2 = omega arith in
    version_asked g.S.AsStr.text c.args.words.now c.word-item.result two (search rules) (search rules)
