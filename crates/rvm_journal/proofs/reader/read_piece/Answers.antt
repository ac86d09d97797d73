use Rattle.std.proofs.Common.{rules, ◌+◌, ◌<◌, arith, length, subst, take}
use Rattle.std.specs.Io.BufRead.{FillKeeps}
use Rattle.std.specs.Io.KnownBytes.{Consumes}
use Rattle.rvm_journal.proofs.Pieces.{taken}
use Rattle.rvm_journal.proofs.reader.read_piece.Goals as goal

pub returns-then-size-all-clause-piece : goal.returns-then-size-all-clause-piece
returns-then-size-all-clause-piece g c =
    let a = g.I.Read.remaining c.args.input.now in
    let bytes = c.in-Ok.bytes.now in
    let size = c.size_of_line-size.result in
    let rested = c.fill_buf.follows.lender-at-none in
    let filled = subst (FillKeeps a (g.I.Read.remaining rested) (g.I.BufRead.consumable_len rested)) c.in-Ok.is
    c.fill_buf.follows.holds-at-none in (
      take size bytes,
      search rules,
      c.size_of_line-size.ensures.one,
      taken a (g.I.Read.remaining rested) (g.I.Read.remaining c.consume.new.self) (g.I.BufRead.consumable_len rested) bytes size
          c.size_of_line-size.ensures.within c.in-Ok.ensures.front c.in-Ok.ensures.end filled.0 filled.1 c.consume.ensures.bytes,
    )

pub returns-clause-piece : goal.returns-clause-piece
returns-clause-piece g c =
    let a = g.I.Read.remaining c.args.input.now in
    let bytes = c.in-Ok.bytes.now in
    let size = c.size_of_line-size.result in
    let rested = c.fill_buf.follows.lender-at-none in
    let filled = subst (FillKeeps a (g.I.Read.remaining rested) (g.I.BufRead.consumable_len rested)) c.in-Ok.is
    c.fill_buf.follows.holds-at-none in
    let within = c.size_of_line-size.ensures.within in
    let short = c.if-size-all.false in
    let less : size < length bytes = omega (arith, within, short) in (
      take size bytes,
      search rules,
      c.size_of_line-size.ensures.one,
      subst (Consumes a (g.I.Read.remaining c.consume-2.new.self)) (c.size_of_line-size.ensures.feed less)
          (taken a (g.I.Read.remaining rested) (g.I.Read.remaining c.consume-2.new.self) (g.I.BufRead.consumable_len rested) bytes
          (size + 1) (omega (arith, less)) c.in-Ok.ensures.front c.in-Ok.ensures.end filled.0 filled.1 c.consume-2.ensures.bytes),
    )
