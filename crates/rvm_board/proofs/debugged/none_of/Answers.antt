use Rattle.std.proofs.Common.{◌≡◌, ◌<◌, ◌∙◌, ◌++◌, ◌∷◌, [], false, length, ap, arith}
use Rattle.std.proofs.lemmas.List.{replicate_more, length-replicate}
use Rattle.rvm_board.proofs.debugged.none_of.Goals as goal

-- there is room for one more flag
pub push-requires : goal.push-requires
push-requires c =
    let size : length c.loop.stopped.items ≡ c.loop.counter =
    ap length c.loop.invariant ∙ length-replicate c.loop.counter false in
    let room : length c.loop.stopped.items < 8 = omega (arith, size, c.loop-test.true, c.requires) in
    (omega arith, room)

-- one more hart stands at no breakpoint
pub loop-preserved : goal.loop-preserved
loop-preserved c =
    c.push.ensures.items ∙ ap (λ xs. xs ++ false ∷ []) c.loop.invariant ∙ replicate_more c.loop.counter false
