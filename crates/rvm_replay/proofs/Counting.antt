-- What entries add to counts.
use Rattle.std.proofs.Common.{◌≡◌, ◌∙◌, ℕ, zero, suc, ◌+◌, ◌*◌, ◌<◌, List, [], ◌∷◌, ◌++◌, arith, get_or, length, mul-suc, suc-mul, sum_by, take, refl, sym, ap}
use Rattle.std.proofs.lemmas.List.{take_more}
use Rattle.std.proofs.lemmas.List.Sums.{sum_by-append, sum_by-cons}
use Rattle.rvm_recorder.specs.Entries.{PlainEntry}
use Rattle.rvm_recorder.specs.Items.{all_of, dry_entry, rounds_in_turn, step_entry, steps_in_turn}
use Rattle.rvm_message.specs.declared.step.StepReply.{StepReply}
use Rattle.rvm_message.specs.declared.step.StepReply.TheVariants as step
use Rattle.rvm_message.specs.Steps.{reply_to_step}
use Rattle.rvm_hart.specs.declared.outcome.Stepped.TheVariants.{Retired}
use Rattle.rvm_recorder.proofs.StepRuns.{all_push}
use Rattle.rvm_replay.specs.Consoles.{taken_in}
use Rattle.rvm_replay.specs.Counts.{Adds, capped, counts_at, counts_of, frames_in, moves_in, plus, turns_in}
use Rattle.rvm_replay.specs.declared.counts.Counts.{Counts}

-- a number added to another one that is capped
capped_more : (a b n : ℕ) → capped n ≡ capped b → capped (capped a + n) ≡ capped (a + b)
capped_more a b n is = omega (arith, is)

-- one of the numbers, which is what each entry has of something
module _ (f : PlainEntry → ℕ) where
  more : (before entries : List PlainEntry) (n : ℕ) → capped n ≡ capped (sum_by f entries)
      → capped (capped (sum_by f before) + n) ≡ capped (sum_by f (before ++ entries))
  more before entries n is =
      capped_more (sum_by f before) (sum_by f entries) n is ∙ ap capped (sym (sum_by-append f before entries))

  one : (e : PlainEntry) → sum_by f (e ∷ []) ≡ f e
  one e = sum_by-cons f e [] ∙ omega arith

  module _ (k : ℕ) (each : (turn harts : ℕ) → f (step_entry turn harts (step.Stepped Retired)) ≡ k) where
    pub of_steps : (turn harts n : ℕ) → sum_by f (steps_in_turn turn harts n) ≡ n * k
    unfolding steps_in_turn
    of_steps turn harts zero = omega arith
    of_steps turn harts (suc n) =
        let here = each turn harts in let rest = of_steps (turn + 1) harts n in
        sum_by-cons f (step_entry turn harts (step.Stepped Retired)) (steps_in_turn (turn + 1) harts n)
        ∙ omega (arith, here, rest, suc-mul n k)

    pub of_rounds : (m : ℕ) → ((drain : ℕ) → f (dry_entry drain) ≡ m) → (turn harts steps drain n : ℕ)
        → sum_by f (rounds_in_turn turn harts steps drain n) ≡ n * (steps * k + m)
    unfolding rounds_in_turn
    of_rounds m dry turn harts steps drain zero = omega arith
    of_rounds m dry turn harts steps drain (suc n) =
        let rest = rounds_in_turn (turn + steps) harts steps drain n in
        let first = of_steps turn harts steps in
        let last = dry drain in
        let more_rounds = of_rounds m dry (turn + steps) harts steps drain n in
        sum_by-append f (steps_in_turn turn harts steps) (dry_entry drain ∷ rest)
        ∙ omega (arith, first, last, more_rounds, sum_by-cons f (dry_entry drain) rest, suc-mul n (steps * k + m))

-- counts add what entries have of each
adds : (c : Counts) (entries : List PlainEntry) → capped c.events ≡ capped (sum_by (λ e. 1) entries)
    → capped c.turns ≡ capped (sum_by (λ e. turns_in e.event) entries)
    → capped c.frames ≡ capped (sum_by (λ e. frames_in e.event) entries)
    → capped c.moves ≡ capped (sum_by (λ e. moves_in e.reply) entries)
    → capped c.console ≡ capped (sum_by (λ e. length (taken_in e)) entries) → Adds c entries
adds c entries events turns frames moves console before = λ i. record {
  events = more (λ e. 1) before entries c.events events i;
  turns = more (λ e. turns_in e.event) before entries c.turns turns i;
  frames = more (λ e. frames_in e.event) before entries c.frames frames i;
  moves = more (λ e. moves_in e.reply) before entries c.moves moves i;
  console = more (λ e. length (taken_in e)) before entries c.console console i;
}

-- the counts of entries add them
pub all_add : (entries : List PlainEntry) → Adds (counts_of entries) entries
all_add entries =
    let same : (n : ℕ) → capped (capped n) ≡ capped n = λ n. omega arith in
    adds (counts_of entries) entries (same (sum_by (λ e. 1) entries)) (same (sum_by (λ e. turns_in e.event) entries))
    (same (sum_by (λ e. frames_in e.event) entries)) (same (sum_by (λ e. moves_in e.reply) entries))
    (same (sum_by (λ e. length (taken_in e)) entries))

-- the counts of more entries
pub all_added : (sum new more : Counts) (entries xs : List PlainEntry) → new ≡ plus sum more → more ≡ counts_of xs
    → sum ≡ counts_of entries → new ≡ counts_of (entries ++ xs)
all_added sum new more entries xs is more_is so =
    is ∙ (λ i. plus (so i) (more_is i)) ∙ all_add xs entries

-- one entry
pub entry_adds : (c : Counts) (e : PlainEntry) → c ≡ counts_at e → Adds c (e ∷ [])
entry_adds c e is =
    adds c (e ∷ [])
    (ap (λ z. capped z.events) is ∙ ap capped (sym (one (λ x. 1) e)))
    (ap (λ z. capped z.turns) is ∙ ap capped (sym (one (λ x. turns_in x.event) e)))
    (ap (λ z. capped z.frames) is ∙ ap capped (sym (one (λ x. frames_in x.event) e)))
    (ap (λ z. capped z.moves) is ∙ ap capped (sym (one (λ x. moves_in x.reply) e)))
    (ap (λ z. capped z.console) is ∙ ap capped (sym (one (λ x. length (taken_in x)) e)))

-- counts of turns alone
abbrev pub of_turns : (events turns : ℕ) → Counts
of_turns events turns = record { events = events; turns = turns; frames = 0; moves = 0; console = 0 }

-- the same number is capped to the same
capped_same : (a b : ℕ) → b ≡ a → capped a ≡ capped b
capped_same a b is = ap capped (sym is)

-- steps
pub steps_add : (turn harts n : ℕ) → Adds (of_turns n n) (steps_in_turn turn harts n)
steps_add turn harts n =
    let steps = steps_in_turn turn harts n in
    let all = of_steps (λ e. 1) 1 (λ t h. refl) turn harts n in
    let none = of_steps (λ e. frames_in e.event) 0 (λ t h. refl) turn harts n in
    let unmoved = of_steps (λ e. moves_in e.reply) 0 (λ t h. refl) turn harts n in
    let quiet = of_steps (λ e. length (taken_in e)) 0 (λ t h. refl) turn harts n in
    let turns = of_steps (λ e. turns_in e.event) 1 (λ t h. refl) turn harts n in
    adds (of_turns n n) steps
    (capped_same n (sum_by (λ e. 1) steps) (omega (arith, all)))
    (capped_same n (sum_by (λ e. turns_in e.event) steps) (omega (arith, turns)))
    (capped_same 0 (sum_by (λ e. frames_in e.event) steps) (omega (arith, none)))
    (capped_same 0 (sum_by (λ e. moves_in e.reply) steps) (omega (arith, unmoved)))
    (capped_same 0 (sum_by (λ e. length (taken_in e)) steps) (omega (arith, quiet)))

with_one : (n steps : ℕ) → n * (steps * 1 + 1) ≡ n * steps + n
with_one n steps = let is : steps * 1 + 1 ≡ suc steps = omega arith in ap (λ z. n * z) is ∙ mul-suc n steps

with_none : (n steps : ℕ) → n * (steps * 1 + 0) ≡ n * steps
with_none n steps = let is : steps * 1 + 0 ≡ steps = omega arith in ap (λ z. n * z) is

no_more : (n steps : ℕ) → n * (steps * 0 + 0) ≡ 0
no_more n steps = let is : steps * 0 + 0 ≡ 0 = omega arith in ap (λ z. n * z) is ∙ omega arith

-- rounds, whose turns and events are multiplied and added with a cap
pub rounds_add : (turns events turn harts steps drain n : ℕ) → turns ≡ capped (n * steps) → events ≡ capped (turns + n)
    → Adds (of_turns events turns) (rounds_in_turn turn harts steps drain n)
rounds_add turns events turn harts steps drain n turns_are events_are =
    let rounds = rounds_in_turn turn harts steps drain n in
    let all = of_rounds (λ e. 1) 1 (λ t h. refl) 1 (λ d. refl) turn harts steps drain n ∙ with_one n steps in
    let some = of_rounds (λ e. turns_in e.event) 1 (λ t h. refl) 0 (λ d. refl) turn harts steps drain n ∙ with_none n steps in
    let none = of_rounds (λ e. frames_in e.event) 0 (λ t h. refl) 0 (λ d. refl) turn harts steps drain n ∙ no_more n steps in
    let unmoved = of_rounds (λ e. moves_in e.reply) 0 (λ t h. refl) 0 (λ d. refl) turn harts steps drain n ∙ no_more n steps in
    let quiet = of_rounds (λ e. length (taken_in e)) 0 (λ t h. refl) 0 (λ d. refl) turn harts steps drain n ∙ no_more n steps in
    adds (of_turns events turns) rounds
    (omega (arith, all, turns_are, events_are))
    (omega (arith, some, turns_are))
    (capped_same 0 (sum_by (λ e. frames_in e.event) rounds) none)
    (capped_same 0 (sum_by (λ e. moves_in e.reply) rounds) unmoved)
    (capped_same 0 (sum_by (λ e. length (taken_in e)) rounds) quiet)

-- no step moves the guest
pub no_move : (r : StepReply) → moves_in (reply_to_step r) ≡ 0
no_move (step.Stepped s) = refl
no_move (step.Break a) = refl
no_move step.BadHart = refl
no_move (step.Refused why) = refl

-- one item more
pub items_more : (c : Counts) (items : List (List PlainEntry)) (i : ℕ) (x : List PlainEntry) → i < length items
    → get_or items i x ≡ x → Adds c x
    → plus (counts_of (all_of (take i items))) c ≡ counts_of (all_of (take (i + 1) items))
items_more c items i x less is add =
    add (all_of (take i items))
    ∙ ap (λ z. counts_of (all_of (take i items) ++ z)) (sym is)
    ∙ ap counts_of (sym (all_push (take i items) (get_or items i x)))
    ∙ ap (λ zs. counts_of (all_of zs)) (sym (take_more items i x less))
