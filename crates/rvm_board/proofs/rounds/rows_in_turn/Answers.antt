use Rattle.std.proofs.Common.{ℕ, ◌≡◌, ◌-◌, ◌%◌, ◌<◌, ◌∙◌, length, ap, sym, subst, arith}
use Rattle.std.proofs.Math.Nat.{mod-eq_of_lt, mod_self}
use Rattle.rvm_board.specs.Rounds.{Striding, board_of}
use Rattle.rvm_board.proofs.Rows.{after_row}
use Rattle.rvm_board.proofs.Striding.{begins}
use Rattle.rvm_board.proofs.rounds.rows_in_turn.Goals as goal

-- no turn, since another hart than the first is next
pub returns-then-first-ne0-clause-computes : goal.returns-then-first-ne0-clause-computes
returns-then-first-ne0-clause-computes g c =
    (begins c.args.count c.args.first (board_of c.args.harts.now c.args.bus.now) c.requires.first c.requires.board c.requires.on c.requires.quiet).computed

pub loop-left-init : goal.loop-left-init
loop-left-init g c =
    subst (λ h. Striding c.args.count c.args.first (board_of c.args.harts.now c.args.bus.now) c.args.count h (board_of c.args.harts.now c.args.bus.now)) c.if-first-ne0.false
    (begins c.args.count c.args.first (board_of c.args.harts.now c.args.bus.now) c.requires.first c.requires.board c.requires.on c.requires.quiet)

-- whole rows
pub loop-left-preserved : goal.loop-left-preserved
loop-left-preserved g c =
    let n : ℕ = length c.args.harts.now in
    let behind : ℕ = c.row_of_harts-behind.result in
    let whole : n - behind ≡ n = omega (arith, c.if-behind-gt0.false) in
    after_row n c.args.count c.args.first c.loop-left.left 0 behind (board_of c.args.harts.now c.args.bus.now) c.loop-left.harts c.row_of_harts-behind.new.harts c.loop-left.bus c.row_of_harts-behind.new.bus
    c.loop-left.auto.harts c.row_of_harts-behind.ensures.turns c.loop-left.invariant c.loop-left-test.true (sym (mod_self n) ∙ ap (λ i. i % n) (sym whole))

-- an instruction of a hart leaves the path
pub returns-then-behind-gt0-clause-hart : goal.returns-then-behind-gt0-clause-hart
returns-then-behind-gt0-clause-hart g c =
    let n : ℕ = length c.args.harts.now in
    let behind : ℕ = c.row_of_harts-behind.result in
    let inside : n - behind < n = omega (arith, c.if-behind-gt0.true, c.requires.first) in
    let turns : Striding c.args.count c.args.first (board_of c.args.harts.now c.args.bus.now) (c.loop-left.left - (n - behind)) (n - behind) (board_of c.row_of_harts-behind.new.harts c.row_of_harts-behind.new.bus) =
    after_row n c.args.count c.args.first c.loop-left.left (n - behind) behind (board_of c.args.harts.now c.args.bus.now) c.loop-left.harts c.row_of_harts-behind.new.harts c.loop-left.bus c.row_of_harts-behind.new.bus
    c.loop-left.auto.harts c.row_of_harts-behind.ensures.turns c.loop-left.invariant c.loop-left-test.true (sym (mod-eq_of_lt inside)) in
    turns.place

pub returns-then-behind-gt0-clause-board : goal.returns-then-behind-gt0-clause-board
returns-then-behind-gt0-clause-board g c =
    let n : ℕ = length c.args.harts.now in
    let behind : ℕ = c.row_of_harts-behind.result in
    let inside : n - behind < n = omega (arith, c.if-behind-gt0.true, c.requires.first) in
    let turns : Striding c.args.count c.args.first (board_of c.args.harts.now c.args.bus.now) (c.loop-left.left - (n - behind)) (n - behind) (board_of c.row_of_harts-behind.new.harts c.row_of_harts-behind.new.bus) =
    after_row n c.args.count c.args.first c.loop-left.left (n - behind) behind (board_of c.args.harts.now c.args.bus.now) c.loop-left.harts c.row_of_harts-behind.new.harts c.loop-left.bus c.row_of_harts-behind.new.bus
    c.loop-left.auto.harts c.row_of_harts-behind.ensures.turns c.loop-left.invariant c.loop-left-test.true (sym (mod-eq_of_lt inside)) in
    turns.board

pub returns-then-behind-gt0-clause-computes : goal.returns-then-behind-gt0-clause-computes
returns-then-behind-gt0-clause-computes g c =
    let n : ℕ = length c.args.harts.now in
    let behind : ℕ = c.row_of_harts-behind.result in
    let inside : n - behind < n = omega (arith, c.if-behind-gt0.true, c.requires.first) in
    let turns : Striding c.args.count c.args.first (board_of c.args.harts.now c.args.bus.now) (c.loop-left.left - (n - behind)) (n - behind) (board_of c.row_of_harts-behind.new.harts c.row_of_harts-behind.new.bus) =
    after_row n c.args.count c.args.first c.loop-left.left (n - behind) behind (board_of c.args.harts.now c.args.bus.now) c.loop-left.harts c.row_of_harts-behind.new.harts c.loop-left.bus c.row_of_harts-behind.new.bus
    c.loop-left.auto.harts c.row_of_harts-behind.ensures.turns c.loop-left.invariant c.loop-left-test.true (sym (mod-eq_of_lt inside)) in
    turns.computed
