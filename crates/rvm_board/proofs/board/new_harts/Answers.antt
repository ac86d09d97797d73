use Rattle.std.proofs.Common.{◌++◌, ◌∷◌, [], map, ap, sym, ◌∙◌, arith}
use Rattle.std.proofs.lemmas.List.FromFn.{map-range_with_len_more}
use Rattle.std.specs.List.{range_with_len}
use Rattle.rvm_board.specs.Board.{new_hart}
use Rattle.rvm_board.proofs.board.new_harts.Goals as goal

pub loop-number-preserved : goal.loop-number-preserved
loop-number-preserved c =
    let more = map-range_with_len_more (new_hart c.args.entry) 0 c.loop-number.number c.loop-number.number (omega arith) in
    c.in_ok-push.ensures.items
    ∙ ap (λ harts. harts ++ c.new.result ∷ []) c.loop-number.invariant
    ∙ ap (λ hart. map (new_hart c.args.entry) (range_with_len 0 c.loop-number.number) ++ hart ∷ []) c.new.ensures
    ∙ sym more
