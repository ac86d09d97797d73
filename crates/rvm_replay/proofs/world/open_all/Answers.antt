use Rattle.std.proofs.Common.{◌≡◌, ◌++◌, ◌∷◌, [], ◌∙◌, append-nil, append_assoc, ap, arith, length, map, subst, sym}
use Rattle.std.specs.Vec.Iter.{into_iter_items}
use Rattle.rvm_journal.proofs.Replayed.{handed_on}
use Rattle.rvm_replay.specs.Worlds.{AreNotOpened, AreOpened}
use Rattle.rvm_replay.proofs.Worlds.{more_opened, never_ok, next_known, nothing_left}
use Rattle.rvm_replay.proofs.world.open_all.Goals as goal

pub loop-input-preserved : goal.loop-input-preserved
loop-input-preserved g c =
    let at = c.loop-input in
    let x = c.in-Some.input in
    let steps : into_iter_items at.input-iterator ≡ x ∷ into_iter_items c.next.new.self = c.in-Some.ensures.steps.0 in
    record {
      split = append_assoc at.yielded (x ∷ []) _ ∙ rw (← steps) at.invariant.split;
      size = let was = at.invariant.size in
          let gone = c.in-Some.ensures.steps.1 in
          let short = ap length steps in
          omega arith;
      opened = more_opened g.I.Read.remaining at.yielded x at.readers.items c.open_one.new.readers.items at.invariant.opened
          c.in_ok-open_one.ensures.opened;
    }

pub returns-in_err-open_one : goal.returns-in_err-open_one
returns-in_err-open_one g c =
    let at = c.loop-input in
    let x = c.in-Some.input in
    let why = c.in_err-open_one.field-0.0 in
    let steps : into_iter_items at.input-iterator ≡ x ∷ into_iter_items c.next.new.self = c.in-Some.ensures.steps.0 in
    let all : at.yielded ++ x ∷ into_iter_items c.next.new.self ≡ c.args.inputs.items =
    rw (← steps) at.invariant.split ∙ c.into_iter-input-iterator.ensures.into_iter_gives.0 in
    let known = map g.I.Read.remaining c.args.inputs.items in
    record {
      opened = never_ok c.from_residual.result (λ readers. AreOpened known readers.items) c.from_residual.ensures.0;
      fault = handed_on (AreNotOpened known) why c.from_residual.result c.from_residual.ensures.1 (record {
        index = length at.readers.items;
        one = g.I.Read.remaining x;
        there = next_known g.I.Read.remaining c.args.inputs.items at.yielded (into_iter_items c.next.new.self) x at.readers.items
            all at.invariant.opened;
        refused = c.in_err-open_one.ensures.fault;
      });
    }

pub returns : goal.returns
returns g c =
    let at = c.loop-input in
    let none = c.in-None.ensures.steps in
    let empty : into_iter_items at.input-iterator ≡ [] = nothing_left _ (sym at.invariant.size ∙ none.0) in
    let all = sym (append-nil at.yielded) ∙ rw empty at at.invariant.split ∙ c.into_iter-input-iterator.ensures.into_iter_gives.0 in
    record {
      opened = subst (λ xs. AreOpened (map g.I.Read.remaining xs) at.readers.items) all at.invariant.opened;
      fault = tt;
    }
