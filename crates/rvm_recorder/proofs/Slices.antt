-- A slice: one more step.
use Rattle.std.proofs.Common.{◌≡◌, ◌∙◌, ℕ, zero, suc, ◌+◌, ◌-◌, ◌%◌, ◌<◌, true, false, List, [], ◌∷◌, ◌++◌, length, length-append, map, Some, None, refl, sym, ap, subst, arith}
use Rattle.std.specs.Prelude.{slice_get, ◌≤◌, replicate, Option}
use Rattle.std.proofs.lemmas.Option.{same_Some, slice_get_within}
use Rattle.std.proofs.lemmas.List.{append-nil}
use Rattle.rvm_hart.specs.declared.outcome.Stepped.TheVariants.{Retired}
use Rattle.rvm_recorder.proofs.StepRuns.{no_steps, steps_first}
use Rattle.rvm_recorder.proofs.Replays.{with_all}
use Rattle.rvm_recorder.specs.Items.{ends_at, ends_run, entries_in, last_of, last_reply, one_if, replies_in, replies_of_all, step_entry, steps_in_turn, steps_of}
use Rattle.rvm_recorder.specs.declared.run.StepRun.{StepRun}
use Rattle.rvm_message.specs.declared.step.StepReply.TheVariants.{Stepped}
use Rattle.rvm_recorder.specs.Entries.{PlainEntry, silent}
use Rattle.rvm_recorder.specs.History.{Recording, with_entries}
use Rattle.rvm_recorder.specs.Slices.{IsSteps, replies_to, step_of}
use Rattle.rvm_message.specs.declared.reply.HostReply.{HostReply}
use Rattle.rvm_message.specs.declared.step.StepReply.{StepReply}
use Rattle.rvm_message.specs.Exchanges.{step_of_hart}
use Rattle.rvm_message.specs.Replies.{ends_steps, reply_of}
use Rattle.rvm_message.specs.Steps.{reply_to_step}

-- what holds of each value and its index, and of one more value, holds of all
each_snoc : {X : Type 0} (P : ℕ → X → Type 0) (xs : List X) (x : X)
    → ((k : ℕ) (y : X) → slice_get xs k ≡ Some y → P k y) → P (length xs) x
    → (k : ℕ) (y : X) → slice_get (xs ++ x ∷ []) k ≡ Some y → P k y
each_snoc P [] x all last zero y at = subst (P 0) (same_Some x y at) last
each_snoc P [] x all last (suc k) y at = cc
each_snoc P (z ∷ xs) x all last zero y at = all zero y at
each_snoc P (z ∷ xs) x all last (suc k) y at =
    each_snoc (λ n. P (suc n)) xs x (λ n w there. all (suc n) w there) last k y at

-- this many steps of a slice were recorded, and none of them ends it
pub record IsGoing (old : Recording) (turn harts count : ℕ) (replies : List StepReply) (new : Recording) : Type 0 where
  pub entries : List PlainEntry
  pub many : length entries ≡ count
  pub events : (k : ℕ) (x : PlainEntry) → slice_get entries k ≡ Some x → x.event ≡ step_of (turn + k) harts
  pub silent_all : (k : ℕ) (x : PlainEntry) → slice_get entries k ≡ Some x → x.frame ≡ None
  pub goes_on : (k : ℕ) (x : PlainEntry) → slice_get entries k ≡ Some x → ends_steps (reply_of x.reply) ≡ false
  pub replies_are : replies_to replies ≡ map (λ x. x.reply) entries
  pub next : new ≡ with_entries old entries (old.journal.reserved - count)

append_assoc : {X : Type 0} (xs ys zs : List X) → (xs ++ ys) ++ zs ≡ xs ++ (ys ++ zs)
append_assoc [] ys zs = refl
append_assoc (x ∷ xs) ys zs = ap (λ r. x ∷ r) (append_assoc xs ys zs)

map_snoc : {X Y : Type 0} (f : X → Y) (xs : List X) (x : X) → map f xs ++ f x ∷ [] ≡ map f (xs ++ x ∷ [])
map_snoc f [] x = refl
map_snoc f (y ∷ xs) x = ap (λ r. f y ∷ r) (map_snoc f xs x)

-- one more step
module _ (old now new : Recording) (turn harts count : ℕ) (replies more : List StepReply) (hart : ℕ)
    (reply : StepReply) (going : IsGoing old turn harts count replies now)
    (hart_is : hart ≡ (turn + count) % harts)
    (to : new ≡ with_entries now (silent (step_of_hart hart) (reply_to_step reply) ∷ []) (now.journal.reserved - 1))
    (more_is : more ≡ replies ++ reply ∷ []) where
  abbrev answer : HostReply
  answer = reply_to_step reply

  abbrev last : PlainEntry
  last = silent (step_of_hart hart) answer

  abbrev all : List PlainEntry
  all = going.entries ++ last ∷ []

  many_more : length all ≡ count + 1
  many_more = let many = going.many in omega (arith, many, length-append going.entries (last ∷ []))

  next_more : new ≡ with_entries old all (old.journal.reserved - (count + 1))
  next_more =
      to ∙ ap (λ (r : Recording). with_entries r (last ∷ []) (r.journal.reserved - 1)) going.next
      ∙ ap (λ xs. with_all old xs (old.journal.reserved - count - 1)) (append_assoc old.journal.entries going.entries (last ∷ []))
      ∙ ap (λ n. with_entries old all n) (omega arith)

  replies_more : replies_to more ≡ map (λ x. x.reply) all
  replies_more =
      ap (λ rs. replies_to rs) more_is ∙ sym (map_snoc (λ r. reply_to_step r) replies reply)
      ∙ ap (λ rs. rs ++ answer ∷ []) going.replies_are
      ∙ map_snoc (λ (x : PlainEntry). x.reply) going.entries last

  events_more : (k : ℕ) (x : PlainEntry) → slice_get all k ≡ Some x → x.event ≡ step_of (turn + k) harts
  events_more =
      each_snoc (λ k x. x.event ≡ step_of (turn + k) harts) going.entries last going.events
      (ap (λ h. step_of_hart h) hart_is ∙ ap (λ k. step_of (turn + k) harts) (sym going.many))

  silent_more : (k : ℕ) (x : PlainEntry) → slice_get all k ≡ Some x → x.frame ≡ None
  silent_more = each_snoc (λ k x. x.frame ≡ None) going.entries last going.silent_all refl

  -- it goes on
  pub step_goes : ends_steps (reply_of answer) ≡ false → IsGoing old turn harts (count + 1) more new
  step_goes is = record {
    entries = all;
    many = many_more;
    events = events_more;
    silent_all = silent_more;
    goes_on = each_snoc (λ k x. ends_steps (reply_of x.reply) ≡ false) going.entries last going.goes_on is;
    replies_are = replies_more;
    next = next_more;
  }

  -- it ends the slice
  pub step_ends : (most : ℕ) → count < most → ends_steps (reply_of answer) ≡ true
      → IsSteps old turn harts most (replies_to more) new
  step_ends most less is =
      let many = going.many in
      record {
        entries = all;
        slice = record {
          some = omega (arith, many_more);
          bound = omega (arith, many_more, less);
          events = events_more;
          silent = silent_more;
          goes_on = λ k x at before.
              (each_snoc (λ k x. k < count → ends_steps (reply_of x.reply) ≡ false) going.entries last
              (λ k x at less. going.goes_on k x at) (λ less. absurd (omega (arith, many, less))) k x at
              (omega (arith, many_more, before)));
          ended = λ k x at is_last short.
              (each_snoc (λ k x. k ≡ count → ends_steps (reply_of x.reply) ≡ true) going.entries last
              (λ k x at is. absurd (let w = slice_get_within going.entries k x at in omega (arith, many, w, is)))
              (λ _. is) k x at (omega (arith, many_more, is_last)));
        };
        replies_are = replies_more;
        next = next_more ∙ ap (λ n. with_entries old all (old.journal.reserved - n)) (sym many_more);
      }

-- RUNS

going_as : (old n n' : Recording) (turn harts c c' : ℕ) (rs rs' : List StepReply) → IsGoing old turn harts c rs n → c ≡ c'
    → rs ≡ rs' → n ≡ n' → IsGoing old turn harts c' rs' n'
going_as old n n' turn harts c c' rs rs' so is same to =
    subst (λ x. IsGoing old turn harts c' rs' x) to
    (subst (λ x. IsGoing old turn harts c' x n) same (subst (λ x. IsGoing old turn harts x rs n) is so))

-- entries after entries
twice : (r : Recording) (xs ys : List PlainEntry) (n m : ℕ) → with_entries (with_entries r xs n) ys m ≡ with_entries r (xs ++ ys) m
twice r xs ys n m = ap (λ zs. with_all r zs m) (append_assoc r.journal.entries xs ys)

nothing : (r : Recording) (n : ℕ) → n ≡ r.journal.reserved → with_entries r [] n ≡ r
nothing r n is = ap (λ zs. with_all r zs n) (append-nil r.journal.entries) ∙ ap (λ k. with_all r r.journal.entries k) is

-- no step was recorded yet
pub none_made : (r : Recording) (turn harts : ℕ) → IsGoing r turn harts 0 [] r
none_made r turn harts = record {
  entries = [];
  many = refl;
  events = λ k x at. cc;
  silent_all = λ k x at. cc;
  goes_on = λ k x at. cc;
  replies_are = refl;
  next = sym (nothing r (r.journal.reserved - 0) (omega arith));
}

-- steps that retired
run_goes : (k : ℕ) (old now : Recording) (turn harts count : ℕ) (replies : List StepReply)
    → IsGoing old turn harts count replies now
    → IsGoing old turn harts (count + k) (replies ++ replicate k (Stepped Retired))
    (with_entries now (steps_in_turn (turn + count) harts k) (now.journal.reserved - k))
run_goes zero old now turn harts count replies so =
    going_as old now (with_entries now (steps_in_turn (turn + count) harts 0) (now.journal.reserved - 0)) turn harts count
    (count + 0) replies (replies ++ []) so (omega arith) (sym (append-nil replies))
    (sym (ap (λ xs. with_entries now xs (now.journal.reserved - 0)) (no_steps (turn + count) harts)
    ∙ nothing now (now.journal.reserved - 0) (omega arith)))
run_goes (suc k) old now turn harts count replies so =
    let t = turn + count in
    let r = now.journal.reserved in
    let x = step_entry t harts (Stepped Retired) in
    let mid = with_entries now (x ∷ []) (r - 1) in
    let one : IsGoing old turn harts (count + 1) (replies ++ Stepped Retired ∷ []) mid =
    step_goes old now mid turn harts count replies (replies ++ Stepped Retired ∷ []) (t % harts) (Stepped Retired) so refl refl refl refl in
    let rest = run_goes k old mid turn harts (count + 1) (replies ++ Stepped Retired ∷ []) one in
    let left : r - 1 - k ≡ r - suc k = omega arith in
    let next : turn + (count + 1) ≡ t + 1 = omega arith in
    going_as old (with_entries mid (steps_in_turn (turn + (count + 1)) harts k) (r - 1 - k))
    (with_entries now (steps_in_turn t harts (suc k)) (r - suc k)) turn harts (count + 1 + k) (count + suc k)
    ((replies ++ Stepped Retired ∷ []) ++ replicate k (Stepped Retired)) (replies ++ replicate (suc k) (Stepped Retired)) rest
    (omega arith) (append_assoc replies (Stepped Retired ∷ []) (replicate k (Stepped Retired)))
    (ap (λ u. with_entries mid (steps_in_turn u harts k) (r - 1 - k)) next
    ∙ twice now (x ∷ []) (steps_in_turn (t + 1) harts k) (r - 1) (r - 1 - k)
    ∙ ap (λ xs. with_entries now xs (r - 1 - k)) (sym (steps_first t harts k))
    ∙ ap (λ n. with_entries now (steps_in_turn t harts (suc k)) n) left)

-- the replies of one run more
pub replies_push : (runs : List StepRun) (run : StepRun) → replies_of_all (runs ++ run ∷ []) ≡ replies_of_all runs ++ replies_in run
replies_push [] run = append-nil (replies_in run)
replies_push (x ∷ runs) run =
    ap (λ rs. replies_in x ++ rs) (replies_push runs run) ∙ sym (append_assoc (replies_in x) (replies_of_all runs) (replies_in run))

module _ (old now new : Recording) (turn harts count k : ℕ) (replies : List StepReply)
    (so : IsGoing old turn harts count replies now) where
  abbrev mid : Recording
  mid = with_entries now (steps_in_turn (turn + count) harts k) (now.journal.reserved - k)

  abbrev so_far : List StepReply
  so_far = replies ++ replicate k (Stepped Retired)

  -- one more after them
  last_to : (r : StepReply) → new ≡ with_entries now (steps_in_turn (turn + count) harts k ++ last_of (turn + count + k) harts (Some r)) (now.journal.reserved - (k + 1))
      → new ≡ with_entries mid (silent (step_of_hart ((turn + (count + k)) % harts)) (reply_to_step r) ∷ []) (mid.journal.reserved - 1)
  last_to r to =
      let there : turn + count + k ≡ turn + (count + k) = omega arith in
      let left : now.journal.reserved - (k + 1) ≡ now.journal.reserved - k - 1 = omega arith in
      to ∙ ap (λ t. with_entries now (steps_in_turn (turn + count) harts k ++ last_of t harts (Some r)) (now.journal.reserved - (k + 1))) there
      ∙ ap (λ n. with_entries now (steps_in_turn (turn + count) harts k ++ last_of (turn + (count + k)) harts (Some r)) n) left
      ∙ sym (twice now (steps_in_turn (turn + count) harts k) (last_of (turn + (count + k)) harts (Some r)) (now.journal.reserved - k) (now.journal.reserved - k - 1))

  goes_behind : (o : Option StepReply) → ends_at o ≡ false
      → new ≡ with_entries now (steps_in_turn (turn + count) harts k ++ last_of (turn + count + k) harts o) (now.journal.reserved - (k + one_if o))
      → IsGoing old turn harts (count + (k + one_if o)) (replies ++ (replicate k (Stepped Retired) ++ last_reply o)) new
  goes_behind None goes to =
      let none : k + 0 ≡ k = omega arith in
      going_as old mid new turn harts (count + k) (count + (k + 0)) so_far (replies ++ (replicate k (Stepped Retired) ++ []))
      (run_goes k old now turn harts count replies so) (omega arith)
      (ap (λ rs. replies ++ rs) (sym (append-nil (replicate k (Stepped Retired)))))
      (sym (to ∙ ap (λ xs. with_entries now xs (now.journal.reserved - (k + 0))) (append-nil (steps_in_turn (turn + count) harts k))
      ∙ ap (λ n. with_entries now (steps_in_turn (turn + count) harts k) (now.journal.reserved - n)) none))
  goes_behind (Some r) goes to =
      let all : replies ++ (replicate k (Stepped Retired) ++ r ∷ []) ≡ so_far ++ r ∷ [] = sym (append_assoc replies (replicate k (Stepped Retired)) (r ∷ [])) in
      going_as old new new turn harts (count + k + 1) (count + (k + 1)) (so_far ++ r ∷ []) (replies ++ (replicate k (Stepped Retired) ++ r ∷ []))
      (step_goes old mid new turn harts (count + k) so_far (so_far ++ r ∷ []) ((turn + (count + k)) % harts) r
      (run_goes k old now turn harts count replies so) refl (last_to r to) refl goes) (omega arith) (sym all) refl

  ends_behind : (o : Option StepReply) (most : ℕ) → ends_at o ≡ true → count + (k + one_if o) ≤ most
      → new ≡ with_entries now (steps_in_turn (turn + count) harts k ++ last_of (turn + count + k) harts o) (now.journal.reserved - (k + one_if o))
      → IsSteps old turn harts most (replies_to (replies ++ (replicate k (Stepped Retired) ++ last_reply o))) new
  ends_behind None most ends few to = absurd cc
  ends_behind (Some r) most ends few to =
      let all : replies ++ (replicate k (Stepped Retired) ++ r ∷ []) ≡ so_far ++ r ∷ [] = sym (append_assoc replies (replicate k (Stepped Retired)) (r ∷ [])) in
      subst (λ rs. IsSteps old turn harts most (replies_to rs) new) (sym all)
      (step_ends old mid new turn harts (count + k) so_far (so_far ++ r ∷ []) ((turn + (count + k)) % harts) r
      (run_goes k old now turn harts count replies so) refl (last_to r to) refl most (omega (arith, few)) ends)

-- a run more
pub run_goes_on : (old now new : Recording) (turn harts count t : ℕ) (runs more : List StepRun) (run : StepRun)
    → IsGoing old turn harts count (replies_of_all runs) now → more ≡ runs ++ run ∷ []
    → t ≡ turn + count → new ≡ with_entries now (entries_in t harts run) (now.journal.reserved - steps_of run)
    → ends_run run ≡ false → IsGoing old turn harts (count + steps_of run) (replies_of_all more) new
run_goes_on old now new turn harts count t runs more run so more_is at to goes =
    subst (λ rs. IsGoing old turn harts (count + steps_of run) rs new)
    (sym (ap replies_of_all more_is ∙ replies_push runs run))
    (goes_behind old now new turn harts count run.retired (replies_of_all runs) so run.last goes
    (to ∙ ap (λ k. with_entries now (entries_in k harts run) (now.journal.reserved - steps_of run)) at))

pub run_ends : (old now new : Recording) (turn harts count t most : ℕ) (runs more : List StepRun) (run : StepRun)
    → IsGoing old turn harts count (replies_of_all runs) now → more ≡ runs ++ run ∷ []
    → t ≡ turn + count → new ≡ with_entries now (entries_in t harts run) (now.journal.reserved - steps_of run)
    → ends_run run ≡ true → count + steps_of run ≤ most → IsSteps old turn harts most (replies_to (replies_of_all more)) new
run_ends old now new turn harts count t most runs more run so more_is at to ends few =
    subst (λ rs. IsSteps old turn harts most (replies_to rs) new) (sym (ap replies_of_all more_is ∙ replies_push runs run))
    (ends_behind old now new turn harts count run.retired (replies_of_all runs) so run.last most ends few
    (to ∙ ap (λ k. with_entries now (entries_in k harts run) (now.journal.reserved - steps_of run)) at))

-- all that were asked for
pub all_made : (old new : Recording) (turn harts count most : ℕ) (replies : List StepReply)
    → IsGoing old turn harts count replies new → count ≡ most → 1 ≤ most → IsSteps old turn harts most (replies_to replies) new
all_made old new turn harts count most replies so is some =
    let many = so.many in
    record {
      entries = so.entries;
      slice = record {
        some = omega (arith, many, is, some);
        bound = omega (arith, many, is);
        events = so.events;
        silent = so.silent_all;
        goes_on = λ k x at before. so.goes_on k x at;
        ended = λ k x at last short. absurd (omega (arith, many, is, short));
      };
      replies_are = so.replies_are;
      next = so.next ∙ ap (λ n. with_entries old so.entries (old.journal.reserved - n)) (sym many);
    }
