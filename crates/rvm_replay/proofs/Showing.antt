-- What the console showed, item by item.
use Rattle.std.proofs.Common.{◌≡◌, ◌∙◌, ℕ, zero, suc, ◌+◌, ◌<◌, List, [], ◌∷◌, ◌++◌, append-nil, get_or, length, take, refl, sym, ap}
use Rattle.std.proofs.lemmas.List.{take_more}
use Rattle.std.proofs.lemmas.List.Concat.{flat_map-append}
use Rattle.rvm_recorder.specs.Entries.{PlainEntry}
use Rattle.rvm_recorder.specs.Items.{all_of, dry_entry, rounds_in_turn, steps_in_turn}
use Rattle.rvm_recorder.proofs.StepRuns.{all_push}
use Rattle.rvm_replay.specs.Consoles.{console_of, taken_in}

-- the bytes of one entry
pub console_of_entry : (e : PlainEntry) → console_of (e ∷ []) ≡ taken_in e
console_of_entry e = append-nil (taken_in e)

-- steps take no bytes
pub none_in_steps : (turn harts n : ℕ) → console_of (steps_in_turn turn harts n) ≡ []
unfolding steps_in_turn
none_in_steps turn harts zero = refl
none_in_steps turn harts (suc n) = none_in_steps (turn + 1) harts n

-- rounds take no bytes
pub none_in_rounds : (n turn harts steps drain : ℕ) → console_of (rounds_in_turn turn harts steps drain n) ≡ []
unfolding rounds_in_turn
none_in_rounds zero turn harts steps drain = refl
none_in_rounds (suc n) turn harts steps drain =
    let rest = dry_entry drain ∷ rounds_in_turn (turn + steps) harts steps drain n in
    flat_map-append taken_in (steps_in_turn turn harts steps) rest ∙ ap (λ z. z ++ console_of rest) (none_in_steps turn harts steps)
    ∙ none_in_rounds n (turn + steps) harts steps drain

-- the bytes of one more item
pub one_more : (items : List (List PlainEntry)) (i : ℕ) (x : List PlainEntry) → i < length items → get_or items i x ≡ x
    → console_of (all_of (take (i + 1) items)) ≡ console_of (all_of (take i items)) ++ console_of x
one_more items i x less is =
    ap (λ zs. console_of (all_of zs)) (take_more items i x less)
    ∙ ap console_of (all_push (take i items) (get_or items i x))
    ∙ flat_map-append taken_in (all_of (take i items)) (get_or items i x)
    ∙ ap (λ z. console_of (all_of (take i items)) ++ console_of z) is

-- the bytes of more entries
pub shown_more : (bytes more : List ℕ) (entries xs : List PlainEntry) → more ≡ bytes ++ console_of xs
    → bytes ≡ console_of entries → more ≡ console_of (entries ++ xs)
shown_more bytes more entries xs is so =
    is ∙ ap (λ b. b ++ console_of xs) so ∙ sym (flat_map-append taken_in entries xs)
