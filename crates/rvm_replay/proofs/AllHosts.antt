-- The hosts of a world did what their journals tell, one after the other.
use Rattle.std.proofs.Common.{◌≡◌, ◌∙◌, ℕ, zero, suc, ◌+◌, ◌<◌, List, [], ◌∷◌, ◌++◌, get_or, length, map, take, Some, ap, sym, subst}
use Rattle.std.proofs.lemmas.List.{map-append, take_more}
use Rattle.std.specs.Prelude.{slice_get}
use Rattle.std.proofs.lemmas.Option.{same_Some}
use Rattle.rvm_recorder.specs.History.{Recording}
use Rattle.rvm_replay.specs.Journals.{JournalText}
use Rattle.rvm_replay.specs.Audited.{AllDone, AreOfWorld, AreReplayed}

-- one more element
pub push_each : {X : Type 0} (P : ℕ → X → Type 0) (xs : List X) (x : X)
    → ((i : ℕ) (y : X) → slice_get xs i ≡ Some y → P i y) → P (length xs) x
    → (i : ℕ) (y : X) → slice_get (xs ++ x ∷ []) i ≡ Some y → P i y
push_each P [] x each here zero y at = subst (P 0) (same_Some x y at) here
push_each P [] x each here (suc i) y at = cc
push_each P (z ∷ xs) x each here zero y at = each 0 y at
push_each P (z ∷ xs) x each here (suc i) y at =
    push_each (λ j. P (suc j)) xs x (λ j w there. each (suc j) w there) here i y at

-- the hosts of a world did what their journals tell
pub replayed : (files : List JournalText) (image : List ℕ) (all : List Recording) → AreOfWorld files (length all)
    → AllDone files image (length all) all → AreReplayed files image all
replayed files image all world each = record { world = world; each = each }

-- one number more of hosts
pub one_number : {X : Type 0} (f : X → ℕ) (all : List X) (i : ℕ) (x : X) (numbers more : List ℕ) (n : ℕ) → i < length all
    → get_or all i x ≡ x → numbers ≡ map f (take i all) → n ≡ f x → more ≡ numbers ++ n ∷ [] → more ≡ map f (take (i + 1) all)
one_number f all i x numbers more n less at so own is =
    is ∙ (λ k. so k ++ own k ∷ []) ∙ sym (map-append f (take i all) (x ∷ []))
    ∙ ap (λ y. map f (take i all ++ y ∷ [])) (sym at) ∙ ap (map f) (sym (take_more all i x less))
