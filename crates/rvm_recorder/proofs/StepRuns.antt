-- Consecutive runs of steps.
use Rattle.std.proofs.Common.{◌≡◌, ◌∙◌, ℕ, zero, suc, ◌+◌, List, [], ◌∷◌, ◌++◌, length, length-append, Option, Some, None, refl, sym, ap, arith}
use Rattle.std.proofs.lemmas.List.{append_assoc, append-nil}
use Rattle.rvm_hart.specs.declared.outcome.Stepped.TheVariants.{Retired}
use Rattle.rvm_recorder.specs.Entries.{PlainEntry}
use Rattle.rvm_recorder.specs.Items.{all_of, entries_in, last_of, one_if, step_entry, steps_in_turn, steps_of}
use Rattle.rvm_recorder.specs.declared.run.StepRun.{StepRun}
use Rattle.rvm_message.specs.declared.step.StepReply.{StepReply}
use Rattle.rvm_message.specs.declared.step.StepReply.TheVariants.{Stepped}

-- items after items
pub all_append : (items more : List (List PlainEntry)) → all_of (items ++ more) ≡ all_of items ++ all_of more
all_append [] more = refl
all_append (xs ∷ items) more = ap (λ zs. xs ++ zs) (all_append items more) ∙ sym (append_assoc xs (all_of items) (all_of more))

-- one item more
pub all_push : (items : List (List PlainEntry)) (xs : List PlainEntry) → all_of (items ++ xs ∷ []) ≡ all_of items ++ xs
all_push items xs = all_append items (xs ∷ []) ∙ ap (λ zs. all_of items ++ zs) (append-nil xs)

-- the first of steps in turn
pub steps_first : (turn harts n : ℕ) → steps_in_turn turn harts (suc n) ≡ step_entry turn harts (Stepped Retired) ∷ steps_in_turn (turn + 1) harts n
unfolding steps_in_turn
steps_first turn harts n = refl

pub no_steps : (turn harts : ℕ) → steps_in_turn turn harts 0 ≡ []
unfolding steps_in_turn
no_steps turn harts = refl

pub steps_length : (turn harts n : ℕ) → length (steps_in_turn turn harts n) ≡ n
unfolding steps_in_turn
steps_length turn harts zero = refl
steps_length turn harts (suc n) = ap suc (steps_length (turn + 1) harts n)

-- steps of the turns after others
pub steps_append : (turn harts n m : ℕ) → steps_in_turn turn harts (n + m) ≡ steps_in_turn turn harts n ++ steps_in_turn (turn + n) harts m
unfolding steps_in_turn
steps_append turn harts zero m =
    let turn_is : turn ≡ turn + 0 = omega arith in
    let m_is : 0 + m ≡ m = omega arith in λ i. steps_in_turn (turn_is i) harts (m_is i)
steps_append turn harts (suc n) m =
    let more : suc n + m ≡ suc (n + m) = omega arith in
    let turn_is : turn + 1 + n ≡ turn + suc n = omega arith in
    ap (λ k. steps_in_turn turn harts k) more
    ∙ ap (λ xs. step_entry turn harts (Stepped Retired) ∷ xs)
    (steps_append (turn + 1) harts n m ∙ ap (λ t. steps_in_turn (turn + 1) harts n ++ steps_in_turn t harts m) turn_is)

-- an item that goes on with more steps
pub steps_joined : (turn harts n m k t h : ℕ) → k ≡ n + m → t ≡ turn + n → h ≡ harts
    → steps_in_turn turn harts k ≡ steps_in_turn turn harts n ++ steps_in_turn t h m
steps_joined turn harts n m k t h many at same =
    ap (λ j. steps_in_turn turn harts j) many ∙ steps_append turn harts n m
    ∙ (λ i. steps_in_turn turn harts n ++ steps_in_turn (sym at i) (sym same i) m)

pub joined_in : (old rest new : List (List PlainEntry)) (last item steps : List PlainEntry) → old ≡ rest ++ last ∷ []
    → new ≡ rest ++ item ∷ [] → item ≡ last ++ steps → all_of new ≡ all_of old ++ steps
joined_in old rest new last item steps old_is new_is item_is =
    ap all_of new_is ∙ all_push rest item ∙ ap (λ z. all_of rest ++ z) item_is ∙ sym (append_assoc (all_of rest) last steps)
    ∙ ap (λ z. z ++ steps) (sym (ap all_of old_is ∙ all_push rest last))

pub both_in : (old rest between new : List (List PlainEntry)) (last item steps more : List PlainEntry) → old ≡ rest ++ last ∷ []
    → between ≡ rest ++ item ∷ [] → item ≡ last → new ≡ between ++ steps ∷ [] → steps ≡ more → all_of new ≡ all_of old ++ more
both_in old rest between new last item steps more old_is between_is item_is new_is same =
    ap all_of new_is ∙ all_push between steps ∙ ap (λ z. all_of between ++ z) same
    ∙ ap (λ z. z ++ more) (ap all_of (between_is ∙ ap (λ x. rest ++ x ∷ []) item_is ∙ sym old_is))

last_length : (turn harts : ℕ) (o : Option StepReply) → length (last_of turn harts o) ≡ one_if o
last_length turn harts None = refl
last_length turn harts (Some r) = refl

-- how many entries a run has
pub run_length : (turn harts : ℕ) (run : StepRun) → length (entries_in turn harts run) ≡ steps_of run
run_length turn harts run =
    let last = last_length (turn + run.retired) harts run.last in
    omega (arith, steps_length turn harts run.retired, last, length-append (steps_in_turn turn harts run.retired) (last_of (turn + run.retired) harts run.last))
