use Rattle.std.proofs.Common.{rules, ◌≡◌, ◌++◌, ◌∷◌, [], ◌∙◌, append-nil, append_assoc, ap, arith, length, length-append, List, refl, subst, sym, take}
use Rattle.std.proofs.lemmas.List.{take_all}
use Rattle.std.specs.Vec.Iter.{into_iter_items}
use Rattle.rvm_journal.proofs.Replayed.{handed_on}
use Rattle.rvm_replay.specs.Journals.{JournalText}
use Rattle.rvm_replay.specs.Unaudited.{IsJournalsFault}
use Rattle.rvm_replay.specs.Worlds.{AreTextsOf}
use Rattle.rvm_replay.proofs.Worlds.{as_many, host_there, kept_fault, kept_more, never_on, none_kept, nothing_left, text_next}
use Rattle.rvm_replay.proofs.world.replay_each.Goals as goal

pub loop-reader-init : goal.loop-reader-init
loop-reader-init g c = record {
  split = refl;
  size = search rules;
  texts = subst (AreTextsOf [] []) (sym c.requires.none) tt;
  kept = none_kept g.K.Kept.recording c.args.image.now c.args.world.now.files.items c.args.world.now.hosts.items
      c.requires.none c.requires.idle;
  long = refl;
}

pub bounds-names-len : goal.bounds-names-len
bounds-names-len g c =
    let at = c.loop-reader in
    let x = c.in-Some.reader in
    let rest = into_iter_items c.next.new.self in
    let steps : into_iter_items at.reader-iterator ≡ x ∷ rest = c.in-Some.ensures.steps.0 in
    let all : at.yielded ++ x ∷ rest ≡ c.args.readers.items =
    rw (← steps) at.invariant.split ∙ c.into_iter-reader-iterator.ensures.into_iter_gives.0 in
    let size = ap length all in
    let many = as_many (take (length at.yielded) c.args.names.now) at.yielded at.world.files.items at.invariant.texts in
    let len = c.len.ensures in
    let named = c.requires.named in
    omega (arith, len, many, size, length-append at.yielded (x ∷ rest), named)

pub offset_bounds-names-len : goal.offset_bounds-names-len
offset_bounds-names-len g c =
    let at = c.loop-reader in
    let x = c.in-Some.reader in
    let rest = into_iter_items c.next.new.self in
    let steps : into_iter_items at.reader-iterator ≡ x ∷ rest = c.in-Some.ensures.steps.0 in
    let all : at.yielded ++ x ∷ rest ≡ c.args.readers.items =
    rw (← steps) at.invariant.split ∙ c.into_iter-reader-iterator.ensures.into_iter_gives.0 in
    let size = ap length all in
    let many = as_many (take (length at.yielded) c.args.names.now) at.yielded at.world.files.items at.invariant.texts in
    let len = c.len.ensures in
    let named = c.requires.named in
    omega (arith, len, many, size, length-append at.yielded (x ∷ rest), named)

pub replay_one-requires : goal.replay_one-requires
replay_one-requires g c =
    let at = c.loop-reader in
    let x = c.in-Some.reader in
    let rest = into_iter_items c.next.new.self in
    let steps : into_iter_items at.reader-iterator ≡ x ∷ rest = c.in-Some.ensures.steps.0 in
    let all : at.yielded ++ x ∷ rest ≡ c.args.readers.items =
    rw (← steps) at.invariant.split ∙ c.into_iter-reader-iterator.ensures.into_iter_gives.0 in
    let there = host_there c.args.readers.items at.yielded rest x all (length c.args.world.now.hosts.items)
    c.requires.headers.0 c.requires.headers.1 in
    let long = at.invariant.long in
    omega (arith, there, long)

pub returns-in_err-replay_one : goal.returns-in_err-replay_one
returns-in_err-replay_one g c =
    let at = c.loop-reader in
    let x = c.in-Some.reader in
    let rest = into_iter_items c.next.new.self in
    let why = c.in_err-replay_one.field-0.0 in
    let steps : into_iter_items at.reader-iterator ≡ x ∷ rest = c.in-Some.ensures.steps.0 in
    let all : at.yielded ++ x ∷ rest ≡ c.args.readers.items =
    rw (← steps) at.invariant.split ∙ c.into_iter-reader-iterator.ensures.into_iter_gives.0 in
    let failed = c.from_residual.ensures.0 in
    record {
      texts = never_on c.from_residual.result _ failed;
      each = never_on c.from_residual.result _ failed;
      long = never_on c.from_residual.result _ failed;
      fault = handed_on (λ e. (files : List JournalText) × AreTextsOf c.args.names.now c.args.readers.items files
          × IsJournalsFault g.K.Kept.capacity files c.args.image.now e) why c.from_residual.result c.from_residual.ensures.1
          (kept_fault c.args.names.now c.args.readers.items at.yielded rest x at.world.files.items g.K.Kept.capacity
          c.args.image.now why all c.requires.named c.requires.texts at.invariant.texts c.in_err-replay_one.ensures.fault);
    }

pub loop-reader-preserved : goal.loop-reader-preserved
loop-reader-preserved g c =
    let at = c.loop-reader in
    let x = c.in-Some.reader in
    let rest = into_iter_items c.next.new.self in
    let names = c.args.names.now in
    let n = length at.yielded in
    let files = at.world.files.items in
    let steps : into_iter_items at.reader-iterator ≡ x ∷ rest = c.in-Some.ensures.steps.0 in
    let all : at.yielded ++ x ∷ rest ≡ c.args.readers.items =
    rw (← steps) at.invariant.split ∙ c.into_iter-reader-iterator.ensures.into_iter_gives.0 in
    let size = ap length all in
    let named = c.requires.named in
    let many = as_many (take n names) at.yielded files at.invariant.texts in
    let one = c.in_ok-replay_one.ensures.kept in
    let few = c.requires.few in
    let long = at.invariant.long in
    let there = host_there c.args.readers.items at.yielded rest x all (length c.args.world.now.hosts.items)
    c.requires.headers.0 c.requires.headers.1 in
    record {
      split = append_assoc at.yielded (x ∷ []) _ ∙ rw (← steps) at.invariant.split;
      size = let was = at.invariant.size in
          let gone = c.in-Some.ensures.steps.1 in
          let short = ap length steps in
          omega arith;
      texts = text_next names at.yielded files c.replay_one.new.world.files.items c.len.result _ x one.text
          (let len = c.len.ensures in omega (arith, len, many)) (omega (arith, size, length-append at.yielded (x ∷ rest), named)) at.invariant.texts one.text_is
          one.last;
      kept = kept_more c.args.readers.items at.yielded rest x all (take n names) files at.invariant.texts
          g.K.Kept.recording c.args.image.now _ c.replay_one.new.world.files.items at.world.hosts.items
          c.replay_one.new.world.hosts.items c.requires.headers.1.once (omega (arith, there, long))
          (omega (arith, few, long)) at.invariant.kept one;
      long = one.put.long ∙ long;
    }

pub returns : goal.returns
returns g c =
    let at = c.loop-reader in
    let names = c.args.names.now in
    let none = c.in-None.ensures.steps in
    let empty : into_iter_items at.reader-iterator ≡ [] = nothing_left _ (sym at.invariant.size ∙ none.0) in
    let all = sym (append-nil at.yielded) ∙ rw empty at at.invariant.split
    ∙ c.into_iter-reader-iterator.ensures.into_iter_gives.0 in
    let size = ap length all in
    let named = c.requires.named in
    let taken = take_all (length at.yielded) names (omega (arith, size, named)) in
    record {
      texts = subst (λ ns. AreTextsOf ns c.args.readers.items at.world.files.items) taken
          (subst (λ os. AreTextsOf (take (length at.yielded) names) os at.world.files.items) all at.invariant.texts);
      each = at.invariant.kept;
      long = at.invariant.long;
      fault = tt;
    }
