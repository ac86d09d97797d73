use Rattle.std.proofs.Common.{◌≡◌, arith, length, subst, ◌∙◌}
use Rattle.rvm_text.specs.Tokens.{mode_of, IsBegun}
use Rattle.rvm_text.proofs.Lexing.{goes_on, stops_at, ends_with, ends_with_none}
use Rattle.rvm_text.proofs.token.read.Goals as goal

pub loop-at-preserved : goal.loop-at-preserved
loop-at-preserved c =
    let moves = c.in_ok-mode.ensures.ok in
    record {
      lexemes = goes_on c.args.line.now c.loop-at.at c.loop-at.out.items c.step.new.out.items (mode_of c.args.line.now c.loop-at.at c.loop-at.mode) c.in_ok-mode.mode (omega arith) moves ∙ c.loop-at.invariant.lexemes;
      begun = moves.begun;
    }

pub returns-in_err-mode-clause-bad : goal.returns-in_err-mode-clause-bad
returns-in_err-mode-clause-bad c =
    λ bad. stops_at c.args.line.now c.loop-at.at c.loop-at.out.items (mode_of c.args.line.now c.loop-at.at c.loop-at.mode) _ c.loop-at.invariant.lexemes (omega arith) (grind arith)

pub close-requires : goal.close-requires
close-requires c =
    let past : c.loop-at.at ≡ length c.args.line.now = omega arith in
    subst (λ n. IsBegun n c.loop-at.mode) past c.loop-at.invariant.begun

pub returns-in_err-close-clause-bad : goal.returns-in_err-close-clause-bad
returns-in_err-close-clause-bad c =
    λ bad. ends_with_none c.args.line.now c.loop-at.at c.loop-at.out.items c.loop-at.mode _ c.loop-at.invariant.lexemes (omega arith) (grind arith)

pub returns-clause-found : goal.returns-clause-found
returns-clause-found c =
    ends_with c.args.line.now c.loop-at.at c.loop-at.out.items c.loop-at.mode _ c.loop-at.invariant.lexemes (omega arith) ∙ c.in_ok-close.ensures.ok
