use Rattle.std.proofs.Common.{◌≡◌, arith, sym, ap, get_or, length, ◌+◌, [], subst}
use Rattle.std.proofs.lemmas.List.{get_or_at}
use Rattle.rvm_asm.specs.Assembly.{IsLaidTo}
use Rattle.rvm_asm.specs.LineViews.{names_of}
use Rattle.rvm_asm.specs.Views.{lines_of, texts_of}
use Rattle.rvm_asm.proofs.Laying.{laid_more, laid_none, placing_error}
use Rattle.rvm_asm.proofs.Lines.{text_read, text_at, lines_count}
use Rattle.rvm_asm.proofs.layout.lay_out.Goals as goal

pub loop-index-init : goal.loop-index-init
loop-index-init c = record {
  laid = laid_none (lines_of (texts_of c.args.texts.now)) c.new-symbols.result c.push.new.self.items c.new-symbols.ensures.empty (rw c.new-places.ensures.items at c.in_default.ensures.items);
  at = sym (ap (λ l. get_or l 0 0) (rw c.new-places.ensures.items at c.in_default.ensures.items));
  below = omega arith;
}

pub lay_text-requires-clause-read : goal.lay_text-requires-clause-read
lay_text-requires-clause-read c = text_read c.args.texts.now _ c.loop-index.index c.requires c.loop-index-test.true

pub loop-index-preserved : goal.loop-index-preserved
loop-index-preserved c = record {
  laid = rw c.in_default-push.ensures.items (laid_more (lines_of (texts_of c.args.texts.now)) c.loop-index.index (names_of c.loop-index.symbols) (names_of c.lay_text.new.symbols) c.loop-index.places.items c.loop-index.place c.in-Ok.after _ c.loop-index.invariant.laid c.loop-index.invariant.at (text_at c.args.texts.now _ c.loop-index.index c.loop-index-test.true) c.in-Ok.ensures.laid);
  at = rw c.in_default-push.ensures.items (sym (get_or_at c.loop-index.places.items c.in-Ok.after [] 0 (c.loop-index.index + 1) c.loop-index.invariant.laid.many));
  below = c.in-Ok.ensures.below;
}

pub returns-clause-laid : goal.returns-clause-laid
returns-clause-laid c =
    let e : c.loop-index.index ≡ length (lines_of (texts_of c.args.texts.now)) = omega (arith, lines_count c.args.texts.now) in
    subst (λ n. IsLaidTo (lines_of (texts_of c.args.texts.now)) n (names_of c.loop-index.symbols) c.loop-index.places.items) e c.loop-index.invariant.laid

pub returns-in-Err-lay_text-clause-refused : goal.returns-in-Err-lay_text-clause-refused
returns-in-Err-lay_text-clause-refused c =
    rw c.at.ensures (placing_error (lines_of (texts_of c.args.texts.now)) c.loop-index.index (names_of c.loop-index.symbols) (names_of c.lay_text.new.symbols) c.loop-index.places.items c.loop-index.place _ c.in-Err-lay_text.error (omega (arith, c.loop-index-test.true, lines_count c.args.texts.now)) c.loop-index.invariant.laid c.loop-index.invariant.at (text_at c.args.texts.now _ c.loop-index.index c.loop-index-test.true) c.in-Err-lay_text.ensures.laid)
