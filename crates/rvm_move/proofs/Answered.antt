-- The answers of items.
use Rattle.std.proofs.Common.{◌≡◌, ◌∙◌, ℕ, zero, suc, ◌+◌, ◌<◌, List, [], ◌∷◌, ◌++◌, append-nil, get_or, length, take, refl, ap}
use Rattle.std.proofs.lemmas.List.{take_more}
use Rattle.std.proofs.lemmas.List.Concat.{flat_map-append}
use Rattle.rvm_recorder.specs.Entries.{PlainEntry}
use Rattle.rvm_recorder.specs.Items.{all_of, dry_entry, rounds_in_turn, steps_in_turn}
use Rattle.rvm_recorder.proofs.StepRuns.{all_push}
use Rattle.rvm_move.specs.Answers.{answer_text, answers_text}

-- the text of one entry
pub text_of_entry : (e : PlainEntry) → answers_text (e ∷ []) ≡ answer_text e
text_of_entry e = append-nil (answer_text e)

-- steps have no reply to write
pub no_text : (turn harts n : ℕ) → answers_text (steps_in_turn turn harts n) ≡ []
unfolding steps_in_turn
no_text turn harts zero = refl
no_text turn harts (suc n) = no_text (turn + 1) harts n

-- rounds have no reply to write
pub none_in_rounds : (n turn harts steps drain : ℕ) → answers_text (rounds_in_turn turn harts steps drain n) ≡ []
unfolding rounds_in_turn
none_in_rounds zero turn harts steps drain = refl
none_in_rounds (suc n) turn harts steps drain =
    let rest = dry_entry drain ∷ rounds_in_turn (turn + steps) harts steps drain n in
    flat_map-append answer_text (steps_in_turn turn harts steps) rest ∙ ap (λ z. z ++ answers_text rest) (no_text turn harts steps)
    ∙ none_in_rounds n (turn + steps) harts steps drain

-- the text of one more item
pub one_more : (items : List (List PlainEntry)) (i : ℕ) (x : List PlainEntry) → i < length items → get_or items i x ≡ x
    → answers_text (all_of (take (i + 1) items)) ≡ answers_text (all_of (take i items)) ++ answers_text x
one_more items i x less is =
    ap (λ zs. answers_text (all_of zs)) (take_more items i x less)
    ∙ ap answers_text (all_push (take i items) (get_or items i x))
    ∙ flat_map-append answer_text (all_of (take i items)) (get_or items i x)
    ∙ ap (λ z. answers_text (all_of (take i items)) ++ answers_text z) is
