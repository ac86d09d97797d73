use Rattle.std.proofs.Common.{◌≡◌, ◌+◌, ◌*◌, ◌/◌, ◌≤◌, max, length, ap, sym, ◌∙◌, subst, arith}
use Rattle.rvm_mem.specs.Pages.{IsLowest, has_except}
use Rattle.rvm_precopy.specs.Plans.{Plan}
use Rattle.rvm_precopy.proofs.Scans.{Looked, Finds, looked_fresh, looked_kept, scan_goes_on, scan_finds, scan_ends}
use Rattle.rvm_precopy.proofs.rounds.Rounds.find.Given.{Over}
use Rattle.rvm_precopy.proofs.rounds.Rounds.find.Goals.{then-from-eq0, else-from-eq0, After-next_except, In-Some}
use Rattle.rvm_precopy.proofs.rounds.Rounds.find.Goals as goal

-- the word with which the block is looked at
looked : (g : Over) (c : After-next_except g) → Looked (g.L.DirtyLog.log c.args.log.now) c.args.self.now c.loop-block.block c.max-from.result c.if-from-eq0.peeked
looked g c =
    let log = g.L.DirtyLog.log c.args.log.now in
    let r = c.args.self.now in
    let at : c.max-from.result ≡ max r.scan (64 * c.loop-block.block) = c.max-from.ensures ∙ ap (λ (x : Plan). max x.scan (64 * c.loop-block.block)) c.self.view_is in
    elim c.if-from-eq0.branch [
      | then-from-eq0 w ↦
          looked_fresh log r c.loop-block.block c.max-from.result c.if-from-eq0.peeked c.loop-block.peeked
          c.loop-block.invariant at w.if-from-eq0.true (w.peeked-is ∙ w.peek_dirty-peeked.ensures)
      | else-from-eq0 w ↦
          subst (Looked log r c.loop-block.block c.max-from.result) (sym w.peeked-is)
          (looked_kept log r c.loop-block.block c.max-from.result c.loop-block.peeked c.loop-block.invariant at w.if-from-eq0.false)
    ]

-- the lowest page that is due in the block, if there is one
lowest : (g : Over) (c : After-next_except g) → IsLowest (has_except c.if-from-eq0.peeked c.args.self.now.to_send) c.max-from.result (64 * (c.max-from.result / 64) + 64) c.next_except.result
lowest g c =
    subst (λ (x : Plan). IsLowest (has_except c.if-from-eq0.peeked x.to_send) c.max-from.result (64 * (c.max-from.result / 64) + 64) c.next_except.result) c.self.view_is c.next_except.ensures

finds : (g : Over) (c : In-Some g) → Finds (g.L.DirtyLog.log c.args.log.now) c.args.self.now c.in-Some.page c.if-from-eq0.peeked
finds g c =
    scan_finds (g.L.DirtyLog.log c.args.log.now) c.args.self.now c.loop-block.block c.max-from.result c.if-from-eq0.peeked c.loop-block.peeked c.in-Some.page
    c.loop-block.invariant (looked g (goal.at.returns-in-Some-clause-page g c).After-next_except)
    (subst (IsLowest (has_except c.if-from-eq0.peeked c.args.self.now.to_send) c.max-from.result (64 * (c.max-from.result / 64) + 64)) c.in-Some.is (lowest g (goal.at.returns-in-Some-clause-page g c).After-next_except))

pub returns-in-Some-clause-page : goal.returns-in-Some-clause-page
returns-in-Some-clause-page g c = (finds g c).is

pub returns-in-Some-clause-peeked : goal.returns-in-Some-clause-peeked
returns-in-Some-clause-peeked g c = (finds g c).word

pub returns-in-Some-clause-bound : goal.returns-in-Some-clause-bound
returns-in-Some-clause-bound g c = (finds g c).inside

pub returns-in-Some-clause-from : goal.returns-in-Some-clause-from
returns-in-Some-clause-from g c = (finds g c).from

pub loop-block-preserved : goal.loop-block-preserved
loop-block-preserved g c =
    scan_goes_on (g.L.DirtyLog.log c.args.log.now) c.args.self.now c.loop-block.block c.max-from.result c.if-from-eq0.peeked c.loop-block.peeked
    c.loop-block.invariant (looked g (goal.at.loop-block-preserved g c).After-next_except)
    (subst (IsLowest (has_except c.if-from-eq0.peeked c.args.self.now.to_send) c.max-from.result (64 * (c.max-from.result / 64) + 64)) c.in_default.is (lowest g (goal.at.loop-block-preserved g c).After-next_except))

pub returns-clause-page : goal.returns-clause-page
returns-clause-page g c =
    let size : length c.args.self.now.to_send ≡ length c.self.inside.to_send = ap (λ (x : Plan). length x.to_send) (sym c.self.view_is) in
    let enough : length c.args.self.now.to_send ≤ 64 * c.loop-block.block = omega (arith, c.pages.ensures.pages, c.div_ceil-block-end.ensures) in
    scan_ends (g.L.DirtyLog.log c.args.log.now) c.args.self.now c.loop-block.block c.loop-block.peeked c.loop-block.invariant enough
