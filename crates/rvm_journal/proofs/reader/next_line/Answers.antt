use Rattle.std.proofs.Common.{rules, arith, subst}
use Rattle.rvm_journal.specs.declared.reader.Piece.TheVariants.{End, Line, Part}
use Rattle.rvm_journal.specs.Reading.{IsPiece, IsReadFault}
use Rattle.rvm_journal.proofs.Pieces.{line_one, line_read, none_left, nothing_read, part_read, system_fault, too_long}
use Rattle.rvm_journal.proofs.Replayed.{handed_on}
use Rattle.rvm_journal.proofs.reader.next_line.Goals as goal

pub loop-init : goal.loop-init
loop-init g c = nothing_read (g.I.Read.remaining c.args.input.now) c.clear.new.self.items c.clear.ensures.items

pub returns-in_err-read_piece-clause-fault : goal.returns-in_err-read_piece-clause-fault
returns-in_err-read_piece-clause-fault g c =
    let known = g.I.Read.remaining c.args.input.now in
    let why = c.in_err-read_piece.field-0.0 in
    handed_on (IsReadFault known c.args.number) why c.from_residual.result c.from_residual.ensures.1
    (system_fault why known c.args.number c.in_err-read_piece.ensures.fault)

pub returns-in-Line-clause-line : goal.returns-in-Line-clause-line
returns-in-Line-clause-line g c = λ same.
    line_read (g.I.Read.remaining c.args.input.now) (g.I.Read.remaining c.loop.input)
    (g.I.Read.remaining c.read_piece.new.input) c.loop.line.items c.read_piece.new.line.items c.loop.invariant
    (subst (λ p. IsPiece p (g.I.Read.remaining c.loop.input) (g.I.Read.remaining c.read_piece.new.input) c.loop.line.items
    c.read_piece.new.line.items) {y = Line} (search rules) c.in_ok-read_piece.ensures.piece)

pub returns-in-Line-clause-one : goal.returns-in-Line-clause-one
returns-in-Line-clause-one g c = λ same.
    line_one (g.I.Read.remaining c.args.input.now) (g.I.Read.remaining c.loop.input)
    (g.I.Read.remaining c.read_piece.new.input) c.loop.line.items c.read_piece.new.line.items c.loop.invariant
    (subst (λ p. IsPiece p (g.I.Read.remaining c.loop.input) (g.I.Read.remaining c.read_piece.new.input) c.loop.line.items
    c.read_piece.new.line.items) {y = Line} (search rules) c.in_ok-read_piece.ensures.piece)

pub returns-in-End-clause-end : goal.returns-in-End-clause-end
returns-in-End-clause-end g c = λ same.
    none_left (g.I.Read.remaining c.args.input.now) (g.I.Read.remaining c.loop.input)
    (g.I.Read.remaining c.read_piece.new.input) c.loop.line.items c.read_piece.new.line.items c.loop.invariant
    (subst (λ p. IsPiece p (g.I.Read.remaining c.loop.input) (g.I.Read.remaining c.read_piece.new.input) c.loop.line.items
    c.read_piece.new.line.items) {y = End} (search rules) c.in_ok-read_piece.ensures.piece)

pub loop-preserved : goal.loop-preserved
loop-preserved g c =
    part_read (g.I.Read.remaining c.args.input.now) (g.I.Read.remaining c.loop.input)
    (g.I.Read.remaining c.read_piece.new.input) c.loop.line.items c.read_piece.new.line.items c.loop.invariant
    (subst (λ p. IsPiece p (g.I.Read.remaining c.loop.input) (g.I.Read.remaining c.read_piece.new.input) c.loop.line.items
    c.read_piece.new.line.items) {y = Part} (search rules) c.in_ok-read_piece.ensures.piece)

pub returns-then-len-gt-MAX_LINE-clause-fault : goal.returns-then-len-gt-MAX_LINE-clause-fault
returns-then-len-gt-MAX_LINE-clause-fault g c =
    let line = part_read (g.I.Read.remaining c.args.input.now) (g.I.Read.remaining c.loop.input)
    (g.I.Read.remaining c.read_piece.new.input) c.loop.line.items c.read_piece.new.line.items c.loop.invariant
    (subst (λ p. IsPiece p (g.I.Read.remaining c.loop.input) (g.I.Read.remaining c.read_piece.new.input) c.loop.line.items
    c.read_piece.new.line.items) {y = Part} (search rules) c.in_ok-read_piece.ensures.piece) in
    too_long (g.I.Read.remaining c.args.input.now) (g.I.Read.remaining c.read_piece.new.input) c.read_piece.new.line.items
    c.args.number line (search (rules, arith))
