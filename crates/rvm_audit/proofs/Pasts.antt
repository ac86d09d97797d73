-- Entries of which only contracts know.
use Rattle.std.proofs.Common.{◌≡◌, ◌∙◌, ℕ, ◌+◌, ◌<◌, ◌≤◌, List, [], ◌∷◌, ◌++◌, append_assoc, get_or, length, take, sym, ap, arith}
use Rattle.std.proofs.lemmas.List.{append-nil, take_more}
use Rattle.rvm_recorder.specs.Entries.{PlainEntry}
use Rattle.rvm_recorder.specs.Items.{all_of}
use Rattle.rvm_recorder.proofs.StepRuns.{all_push}

-- an item without entries changes nothing
pub none_more : (past item : List PlainEntry) → length item ≤ 0 → past ≡ past ++ item
none_more past [] none = sym (append-nil past)
none_more past (x ∷ item) none = absurd (omega (arith, none))

-- one item more
pub one_more : (items : List (List PlainEntry)) (i : ℕ) (x past now more : List PlainEntry) → i < length items
    → get_or items i x ≡ x → now ≡ past ++ all_of (take i items) → more ≡ now ++ x
    → more ≡ past ++ all_of (take (i + 1) items)
one_more items i x past now more less is so next =
    next ∙ ap (λ xs. xs ++ x) so ∙ append_assoc past (all_of (take i items)) x
    ∙ ap (λ xs. past ++ xs)
    (ap (λ y. all_of (take i items) ++ y) (sym is) ∙ sym (all_push (take i items) (get_or items i x))
    ∙ ap all_of (sym (take_more items i x less)))
