use Rattle.std.proofs.Common.{◌≡◌, ◌∙◌, ◌+◌, ◌-◌, ℕ, List, [], ◌∷◌, Option, Some, None, length, drop, true, false, refl, ap, sym, subst, arith}
use Rattle.std.specs.Prelude.{MatchOption, is_some}
use Rattle.std.specs.BTreeMap.{get}
use Rattle.std.specs.Ordering.{nat_cmp}
use Rattle.std.proofs.lemmas.List.{drop_more}
use Rattle.rvm_recorder.specs.declared.left.Told.{Told}
use Rattle.rvm_recorder.specs.Runs.{all_of, calls_before, count_in, seat_in}
use Rattle.rvm_recorder.specs.Telling.{AreRising, Tells, first_place}
use Rattle.rvm_recorder.specs.Told.{told_entry}
use Rattle.rvm_recorder.proofs.Tellings.{all_right, inside_still, left_of, rest_of, right_end, rising_drop, wrong_count, wrong_end, wrong_next, wrong_place}
use Rattle.rvm_recorder.proofs.closing.first_fault.Goals as goal
use Rattle.rvm_recorder.proofs.closing.first_fault.Goals.{then-place-via-then-place, then-place-via-else-place+then-not-is_above}
use Rattle.rvm_recorder.specs.Entries.{PlainEntry}
use Rattle.rvm_recorder.specs.Items.{all_of as entries_of_all}

pub returns-then-place-clause-some : goal.returns-then-place-clause-some
returns-then-place-clause-some c =
    let entries = entries_of_all c.args.items.now in
    let all = c.args.receipts.now in
    let so = c.loop-k.invariant in
    let x = c.index-receipts-k.result in
    let later = drop (c.loop-k.k + 1) all in
    let split : drop c.loop-k.k all ≡ x ∷ later = drop_more all c.loop-k.k x c.loop-k-test.true ∙ ap (λ z. z ∷ later) (sym c.index-receipts-k.is) in
    let behind = so.behind ∙ ap all_of split in
    let rising : AreRising (x ∷ later) = subst AreRising split (rising_drop all c.loop-k.k c.requires.sorted) in
    (elim c.then-place.branch [
      | then-place-via-then-place w ↦
          wrong_place entries (all_of all) (get nat_cmp c.loop-k.lasts) c.loop-k.place x later so.so behind rising so.inside
          (λ e. w.if-place.true (c.place.ensures ∙ e))
      | then-place-via-else-place+then-not-is_above w ↦
          let no = w.is_above.ensures.no w.if-not-is_above.true in
          wrong_count entries (all_of all) (get nat_cmp c.loop-k.lasts) c.loop-k.place x later so.so behind rising so.inside
          (sym c.place.ensures ∙ w.if-place.false) no.0 no.1 no.2
    ])

pub returns-then-told-len-clause-some : goal.returns-then-told-len-clause-some
returns-then-told-len-clause-some c =
    let entries = entries_of_all c.args.items.now in
    let all = c.args.receipts.now in
    let so = c.loop-k.invariant in
    let x = c.index-receipts-k.result in
    let later = drop (c.loop-k.k + 1) all in
    let split : drop c.loop-k.k all ≡ x ∷ later = drop_more all c.loop-k.k x c.loop-k-test.true ∙ ap (λ z. z ∷ later) (sym c.index-receipts-k.is) in
    let behind = so.behind ∙ ap all_of split in
    let rising : AreRising (x ∷ later) = subst AreRising split (rising_drop all c.loop-k.k c.requires.sorted) in
    let told = c.tell-told.result in
    let tells : Tells x (drop c.loop-k.place entries) c.tell-told.new.left (first_place later) told =
    subst (λ o. Tells x (drop c.loop-k.place entries) c.tell-told.new.left o told) c.first_from.ensures
    (subst (λ old. Tells x old c.tell-told.new.left c.first_from.result told) so.left c.tell-told.ensures) in
    wrong_next entries (all_of all) (get nat_cmp c.loop-k.lasts) c.loop-k.place x later so.so behind rising so.inside
    (sym c.place.ensures ∙ c.if-place.false) (c.is_above.ensures.yes c.if-not-is_above.false) c.tell-told.new.left told tells
    (omega (arith, c.if-told-len.true, c.len.ensures.count))

pub loop-k-preserved : goal.loop-k-preserved
loop-k-preserved c =
    let entries = entries_of_all c.args.items.now in
    let all = c.args.receipts.now in
    let so = c.loop-k.invariant in
    let x = c.index-receipts-k.result in
    let later = drop (c.loop-k.k + 1) all in
    let split : drop c.loop-k.k all ≡ x ∷ later = drop_more all c.loop-k.k x c.loop-k-test.true ∙ ap (λ z. z ∷ later) (sym c.index-receipts-k.is) in
    let behind = so.behind ∙ ap all_of split in
    let rising : AreRising (x ∷ later) = subst AreRising split (rising_drop all c.loop-k.k c.requires.sorted) in
    let told = c.tell-told.result in
    let tells : Tells x (drop c.loop-k.place entries) c.tell-told.new.left (first_place later) told =
    subst (λ o. Tells x (drop c.loop-k.place entries) c.tell-told.new.left o told) c.first_from.ensures
    (subst (λ old. Tells x old c.tell-told.new.left c.first_from.result told) so.left c.tell-told.ensures) in
    let at = sym c.place.ensures ∙ c.if-place.false in
    let above = c.is_above.ensures.yes c.if-not-is_above.false in
    let few = tells.few in
    let whole : told ≡ count_in x = omega (arith, few, c.if-told-len.false, c.len.ensures.count) in
    let last = get nat_cmp c.loop-k.lasts in
    let next = get nat_cmp c.note.new.lasts in
    let same : next (seat_in x) ≡ Some (calls_before x + (count_in x - 1)) =
    ap next (sym c.seat.ensures) ∙ c.in_ok-note.ensures.same ∙ ap (λ n. Some n) c.last_calls.ensures in
    record {
      k = omega (arith, c.loop-k-test.true);
      so = all_right entries (all_of all) last c.loop-k.place x later so.so behind rising so.inside at above c.tell-told.new.left told tells
          whole next same (λ q differ. c.in_ok-note.ensures.other q (λ e. differ (e ∙ c.seat.ensures)));
      left = left_of entries (all_of all) last c.loop-k.place x later so.so behind rising so.inside at above c.tell-told.new.left told tells whole;
      behind = rest_of entries (all_of all) last c.loop-k.place x later so.so behind rising so.inside at above c.tell-told.new.left told tells whole;
      inside = inside_still entries (all_of all) last c.loop-k.place x later so.so behind rising so.inside at above c.tell-told.new.left told tells;
    }

-- if there is a next entry, an entry is left
some_left : (o : Option Told) (left new : List PlainEntry) → is_some o ≡ true → MatchOption o (left ≡ []) (λ t. left ≡ told_entry t ∷ new)
    → (e : PlainEntry) × (left ≡ e ∷ new)
some_left None left new is is_left = cc
some_left (Some t) left new is is_left = (told_entry t, is_left)

none_left : (o : Option Told) (left new : List PlainEntry) → is_some o ≡ false → MatchOption o (left ≡ []) (λ t. left ≡ told_entry t ∷ new)
    → left ≡ []
none_left None left new is is_left = is_left
none_left (Some t) left new is is_left = cc

no_receipts : {X : Type 0} (xs : List X) (k : ℕ) → k ≡ length xs → drop k xs ≡ []
no_receipts [] k is = ap (λ n. drop n []) is
no_receipts (x ∷ xs) k is = ap (λ n. drop n (x ∷ xs)) is ∙ no_receipts xs (length xs) refl

pub returns-then-is_some-clause-some : goal.returns-then-is_some-clause-some
returns-then-is_some-clause-some c =
    let so = c.loop-k.invariant in
    let all = c.args.receipts.now in
    let none : drop c.loop-k.k all ≡ [] = no_receipts all c.loop-k.k (omega (arith, so.k, c.loop-k-test.false)) in
    let e = some_left c.next.result c.loop-k.left c.next.new.self (sym c.is_some.ensures ∙ c.if-is_some.true) c.next.ensures in
    wrong_end (entries_of_all c.args.items.now) (all_of all) (get nat_cmp c.loop-k.lasts) c.loop-k.place so.so (so.behind ∙ ap all_of none) so.inside
    e.0 c.next.new.self (sym so.left ∙ e.1)

pub returns-clause-none : goal.returns-clause-none
returns-clause-none c =
    let so = c.loop-k.invariant in
    let all = c.args.receipts.now in
    let none : drop c.loop-k.k all ≡ [] = no_receipts all c.loop-k.k (omega (arith, so.k, c.loop-k-test.false)) in
    let left = none_left c.next.result c.loop-k.left c.next.new.self (sym c.is_some.ensures ∙ c.if-is_some.false) c.next.ensures in
    right_end (entries_of_all c.args.items.now) (all_of all) (get nat_cmp c.loop-k.lasts) c.loop-k.place so.so (so.behind ∙ ap all_of none) so.inside
    (sym so.left ∙ left)
