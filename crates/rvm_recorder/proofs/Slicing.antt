-- The steps of a slice and their receipts, one more run of them.
use Rattle.std.proofs.Common.{◌≡◌, ◌∙◌, ℕ, ◌+◌, ◌-◌, ◌≤◌, List, [], ◌∷◌, ◌++◌, length, length-append, true, false, refl, sym, ap, subst, arith}
use Rattle.std.proofs.lemmas.List.{length-map, map-append}
use Rattle.rvm_recorder.proofs.Receipts.{no_receipts}
use Rattle.rvm_recorder.proofs.Runs.{run_behind, run_length, run_replies}
use Rattle.rvm_recorder.proofs.Slices.{IsGoing, all_made, none_made, replies_push, run_ends, run_goes_on}
use Rattle.rvm_recorder.specs.Calls.{AreReceipts, IsSliceCalled, replies_of}
use Rattle.rvm_recorder.specs.declared.run.StepRun.{StepRun}
use Rattle.rvm_recorder.specs.History.{Recording, count_of, with_entries, with_room}
use Rattle.rvm_recorder.specs.Items.{ends_run, entries_in, replies_in, replies_of_all, steps_of}
use Rattle.rvm_recorder.specs.Receipts.{PlainReceipt}
use Rattle.rvm_recorder.specs.Runs.{run_receipts}
use Rattle.rvm_recorder.specs.Seats.{PlainSeat}
use Rattle.rvm_recorder.specs.Slices.{IsSteps, most_of, replies_to}
use Rattle.rvm_message.specs.Steps.{reply_to_step}

-- this many steps of a slice were recorded, none of them ends it, and these are their receipts
pub record AreSoFar (old : Recording) (seat : PlainSeat) (turn harts made : ℕ) (rs : List PlainReceipt) (now : Recording)
    : Type 0 where
  pub runs : List StepRun
  pub going : IsGoing old turn harts made (replies_of_all runs) now
  pub replies : replies_of rs ≡ replies_to (replies_of_all runs)
  pub are : AreReceipts seat (count_of old) turn harts rs
  pub many : length rs ≡ made

-- before the first step
pub none_so_far : (r : Recording) (seat : PlainSeat) (turn harts : ℕ) → AreSoFar r seat turn harts 0 [] r
none_so_far r seat turn harts = record {
  runs = [];
  going = none_made r turn harts;
  replies = refl;
  are = no_receipts seat (count_of r) turn harts;
  many = refl;
}

-- one run more
module _ (old now new : Recording) (seat : PlainSeat) (turn harts made p c t : ℕ) (rs more : List PlainReceipt) (run : StepRun)
    (so : AreSoFar old seat turn harts made rs now) (p_is : p ≡ count_of old + made) (c_is : c ≡ seat.count + made)
    (t_is : t ≡ turn + made) (to : new ≡ with_entries now (entries_in t harts run) (now.journal.reserved - steps_of run))
    (more_is : more ≡ rs ++ run_receipts p seat.id c t harts run) where
  abbrev added : List PlainReceipt
  added = run_receipts p seat.id c t harts run

  abbrev all : List StepRun
  all = so.runs ++ run ∷ []

  replies_more : replies_of more ≡ replies_to (replies_of_all all)
  replies_more =
      ap replies_of more_is ∙ map-append (λ (r : PlainReceipt). r.reply) rs added
      ∙ ap (λ xs. xs ++ replies_of added) so.replies
      ∙ ap (λ xs. replies_to (replies_of_all so.runs) ++ xs) (run_replies p seat.id c t harts run)
      ∙ sym (map-append (λ r. reply_to_step r) (replies_of_all so.runs) (replies_in run))
      ∙ ap replies_to (sym (replies_push so.runs run))

  -- they have receipts
  pub receipts_more : AreReceipts seat (count_of old) turn harts more
  receipts_more =
      subst (AreReceipts seat (count_of old) turn harts) (sym more_is)
      (run_behind seat (count_of old) turn harts run rs made p c t so.are so.many p_is c_is t_is)

  pub many_more : length more ≡ made + steps_of run
  many_more =
      let long = run_length p seat.id c t harts run in
      let so_many = so.many in
      omega (arith, ap length more_is, length-append rs added, long, so_many)

  -- the slice goes on
  pub more_so_far : ends_run run ≡ false → AreSoFar old seat turn harts (made + steps_of run) more new
  more_so_far goes = record {
    runs = all;
    going = run_goes_on old now new turn harts made t so.runs all run so.going refl t_is to goes;
    replies = replies_more;
    are = receipts_more;
    many = many_more;
  }

  -- the slice ends
  pub ended_so_far : (most : ℕ) → ends_run run ≡ true → made + steps_of run ≤ most
      → IsSteps old turn harts most (replies_of more) new
  ended_so_far most ends few =
      subst (λ xs. IsSteps old turn harts most xs new) (sym replies_more)
      (run_ends old now new turn harts made t most so.runs all run so.going refl t_is to ends few)

-- all that were asked for
pub all_so_far : (old now : Recording) (seat : PlainSeat) (turn harts made most : ℕ) (rs : List PlainReceipt)
    → AreSoFar old seat turn harts made rs now → made ≡ most → 1 ≤ most → IsSteps old turn harts most (replies_of rs) now
all_so_far old now seat turn harts made most rs so is some =
    subst (λ xs. IsSteps old turn harts most xs now) (sym so.replies)
    (all_made old now turn harts made most (replies_of_all so.runs) so.going is some)

-- how many entries there are after a slice
pub slice_count : (old new : Recording) (turn harts most : ℕ) (rs : List PlainReceipt)
    → IsSteps old turn harts most (replies_of rs) new → count_of new ≡ count_of old + length rs
slice_count old new turn harts most rs is =
    let same : length rs ≡ length is.entries =
    sym (length-map rs (λ (x : PlainReceipt). x.reply)) ∙ ap length is.replies_are ∙ length-map is.entries (λ x. x.reply) in
    ap (λ (r : Recording). count_of r) is.next ∙ length-append old.journal.entries is.entries ∙ ap (λ n. count_of old + n) (sym same)

-- a slice, in the room that was made for it
pub slice_made : (old mid new : Recording) (seat : PlainSeat) (turn harts n most : ℕ) (rs : List PlainReceipt) → most ≡ most_of old n
    → mid ≡ with_room old most → IsSteps mid turn harts most (replies_of rs) new
    → AreReceipts seat (count_of mid) turn harts rs → IsSliceCalled old seat turn harts n rs new
slice_made old mid new seat turn harts n most rs is room steps are = record {
  receipts = subst (λ (r : Recording). AreReceipts seat (count_of r) turn harts rs) room are;
  recorded = record {
    place = refl;
    steps = subst (λ m. IsSteps (with_room old m) turn harts m (replies_of rs) new) is
        (subst (λ r. IsSteps r turn harts most (replies_of rs) new) room steps);
  };
}
