-- Each reservation stays one of an aligned word of RAM.
use Rattle.std.proofs.Common.{◌≡◌, ℕ, zero, suc, ◌+◌, ◌≤◌, ◌++◌, take, drop, length-append, length-take, Bool, true, false, ◌&&◌, List, [], ◌∷◌, Option, None, Some, length, map, set, get_or, replicate, refl, sym, subst, arith, cond, eqb}
use Rattle.std.proofs.lemmas.List.{length-drop}
use Rattle.std.proofs.lemmas.Bool.Decides.{nat_tests}
use Rattle.rvm_mem.specs.Bytes.{replaced, store}
use Rattle.rvm_mem.proofs.Lengths.{store-length}
use Rattle.rvm_res.specs.Reservations as res
use Rattle.rvm_hart.specs.Pokes.{poked_each}
use Rattle.rvm_hart.specs.Fields.{is_in_ram, are_in_ram}

first_is : (a b : Bool) → a && b ≡ true → a ≡ true
first_is true b h = refl
first_is false b h = h

rest_is : (a b : Bool) → a && b ≡ true → b ≡ true
rest_is true b h = h
rest_is false b h = absurd cc

both_are : (a b : Bool) → a ≡ true → b ≡ true → a && b ≡ true
both_are a b h k = rw (h, k) refl

-- another reservation of one hart
pub set_in_ram : (size : ℕ) (words : List (Option ℕ)) (i : ℕ) (o : Option ℕ) → are_in_ram size words ≡ true → is_in_ram size o ≡ true → are_in_ram size (set words i o) ≡ true
set_in_ram size [] i o all one = refl
set_in_ram size (w ∷ words) zero o all one = both_are (is_in_ram size o) (are_in_ram size words) one (rest_is (is_in_ram size w) (are_in_ram size words) all)
set_in_ram size (w ∷ words) (suc i) o all one =
    both_are (is_in_ram size w) (are_in_ram size (set words i o)) (first_is (is_in_ram size w) (are_in_ram size words) all)
    (set_in_ram size words i o (rest_is (is_in_ram size w) (are_in_ram size words) all) one)

-- the reservation of one hart
pub get_in_ram : (size : ℕ) (words : List (Option ℕ)) (i : ℕ) → are_in_ram size words ≡ true → is_in_ram size (get_or words i None) ≡ true
get_in_ram size [] i all = refl
get_in_ram size (w ∷ words) zero all = first_is (is_in_ram size w) (are_in_ram size words) all
get_in_ram size (w ∷ words) (suc i) all = get_in_ram size words i (rest_is (is_in_ram size w) (are_in_ram size words) all)

-- none of this many
pub none_in_ram : (size n : ℕ) → are_in_ram size (replicate n None) ≡ true
none_in_ram size zero = refl
none_in_ram size (suc n) = none_in_ram size n

left_in_ram : (size word w : ℕ) (b : Bool) → is_in_ram size (Some w) ≡ true → is_in_ram size (cond b None (Some w)) ≡ true
left_in_ram size word w true one = refl
left_in_ram size word w false one = one

without_in_ram : (size word : ℕ) (o : Option ℕ) → is_in_ram size o ≡ true → is_in_ram size (res.without word o) ≡ true
without_in_ram size word None one = refl
without_in_ram size word (Some w) one = left_in_ram size word w (eqb w word) one

poked_in_ram : (size word : ℕ) (words : List (Option ℕ)) → are_in_ram size words ≡ true → are_in_ram size (map (res.without word) words) ≡ true
poked_in_ram size word [] all = refl
poked_in_ram size word (w ∷ words) all =
    both_are (is_in_ram size (res.without word w)) (are_in_ram size (map (res.without word) words)) (without_in_ram size word w (first_is (is_in_ram size w) (are_in_ram size words) all))
    (poked_in_ram size word words (rest_is (is_in_ram size w) (are_in_ram size words) all))

pub stored_in_ram : (size hart a : ℕ) (words : List (Option ℕ)) → are_in_ram size words ≡ true → are_in_ram size (res.stored hart a words) ≡ true
stored_in_ram size hart a words all =
    set_in_ram size (res.poked a words) hart (get_or words hart None) (poked_in_ram size (res.word_of a) words all) (get_in_ram size words hart all)

pub poked_each_in_ram : (size a n : ℕ) (words : List (Option ℕ)) → are_in_ram size words ≡ true → are_in_ram size (poked_each a n words) ≡ true
unfolding poked_each
poked_each_in_ram size a zero words all = all
poked_each_in_ram size a (suc n) words all = poked_in_ram size (res.word_of (a + n)) (poked_each a n words) (poked_each_in_ram size a n words all)

grown_word : (s t : ℕ) (o : Option ℕ) → s ≤ t → is_in_ram s o ≡ true → is_in_ram t o ≡ true
grown_word s t None more one = refl
grown_word s t (Some a) more one = grind (arith, nat_tests)

grown : (s t : ℕ) (words : List (Option ℕ)) → s ≤ t → are_in_ram s words ≡ true → are_in_ram t words ≡ true
grown s t [] more all = refl
grown s t (w ∷ words) more all =
    both_are (is_in_ram t w) (are_in_ram t words) (grown_word s t w more (first_is (is_in_ram s w) (are_in_ram s words) all))
    (grown s t words more (rest_is (is_in_ram s w) (are_in_ram s words) all))

-- replacing bytes loses none
replaced_length : (at : ℕ) (bytes old : List ℕ) → length old ≤ length (replaced at bytes old)
replaced_length at bytes old =
    omega (arith, length-append (take at old) (bytes ++ drop (at + length bytes) old), length-append bytes (drop (at + length bytes) old), length-take at old, length-drop (at + length bytes) old)

-- after a store of n bytes at a place
pub store_keeps : (n hart at v a : ℕ) (old new : List ℕ) (words after : List (Option ℕ)) → new ≡ store n at v old → after ≡ res.stored hart a words → are_in_ram (length old) words ≡ true → are_in_ram (length new) after ≡ true
store_keeps n hart at v a old new words after of_bytes of_words all =
    subst (λ bs. are_in_ram (length bs) after ≡ true) (sym of_bytes) (subst (λ ws. are_in_ram (length (store n at v old)) ws ≡ true) (sym of_words)
    (grown (length old) (length (store n at v old)) (res.stored hart a words) (store-length n at v old) (stored_in_ram (length old) hart a words all)))

-- after bytes were written at a place
pub poke_keeps : (at a : ℕ) (bytes old new : List ℕ) (words after : List (Option ℕ)) → new ≡ replaced at bytes old → after ≡ poked_each a (length bytes) words → are_in_ram (length old) words ≡ true → are_in_ram (length new) after ≡ true
poke_keeps at a bytes old new words after of_bytes of_words all =
    subst (λ bs. are_in_ram (length bs) after ≡ true) (sym of_bytes) (subst (λ ws. are_in_ram (length (replaced at bytes old)) ws ≡ true) (sym of_words)
    (grown (length old) (length (replaced at bytes old)) (poked_each a (length bytes) words) (replaced_length at bytes old) (poked_each_in_ram (length old) a (length bytes) words all)))

-- if no word is reserved
pub clear_keeps : (size n : ℕ) (after : List (Option ℕ)) → after ≡ replicate n None → are_in_ram size after ≡ true
clear_keeps size n after of_words = subst (λ ws. are_in_ram size ws ≡ true) (sym of_words) (none_in_ram size n)

-- with another reservation of one hart
pub set_keeps : (size hart : ℕ) (o : Option ℕ) (words after : List (Option ℕ)) → after ≡ set words hart o → are_in_ram size words ≡ true → is_in_ram size o ≡ true → are_in_ram size after ≡ true
set_keeps size hart o words after of_words all one = subst (λ ws. are_in_ram size ws ≡ true) (sym of_words) (set_in_ram size words hart o all one)
