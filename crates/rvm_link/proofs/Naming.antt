-- What consecutive lines name.
use Rattle.std.proofs.Common.{◌≡◌, ◌∙◌, inl, inr, ◌<◌, ◌-◌, ℕ, ◌+◌, List, [], ◌∷◌, ◌++◌, append-nil, length, map, None, Some, true, false, Bor, ap, refl, sym, take, drop, arith, is_some}
use Rattle.std.proofs.Math.Seq.{take-add}
use Rattle.std.proofs.lemmas.Bool.{cases_order}
use Rattle.std.proofs.lemmas.Grind.{fold-append}
use Rattle.std.proofs.lemmas.List.{drop-drop, length-map, map-append, take-append-drop}
use Rattle.std.specs.List.{fold, list_any}
use Rattle.std.specs.Option.{option_map_or}
use Rattle.std.specs.Prelude.{◌||◌, if◌then◌else◌, slice_get, zero, suc}
use Rattle.std.specs.Str.{bytes_eq}
use Rattle.rvm_debug.specs.Words.{words, without_return}
use Rattle.rvm_link.specs.Peers.{Naming, Nothing, Host, Fault, IsFirstFault, IsLineFault, after_line, is_repeat, is_repeat_at, is_taken, naming_of, peers_in, with_naming}
use Rattle.rvm_link.specs.declared.peers.PeersFault.TheVariants.{BadLine, SameAddress}

-- the bytes of words that code has as slices
abbrev pub bytes_of : List (Bor (List ℕ)) → List (List ℕ)
bytes_of ws = map (λ a. a.now) ws

-- the first lines were read, and name hosts at these addresses, and these lines are left
pub record Reading (all left : List (List ℕ)) (number : ℕ) (addresses : List (Bor (List ℕ))) : Type 0 where
  pub rest : drop number all ≡ left
  pub hosts : peers_in (take number all) ≡ Some (bytes_of addresses)

-- what the first lines name with one more
one_more : (all left rest : List (List ℕ)) (line : List ℕ) (n count : ℕ) (addresses : List (Bor (List ℕ)))
    (naming : Naming) → Reading all left n addresses → left ≡ line ∷ rest → count ≡ length addresses
    → naming_of count (words (without_return line)) ≡ naming
    → peers_in (take (n + 1) all) ≡ with_naming (bytes_of addresses) naming
one_more all left rest line n count addresses naming so_far next size names =
    let same : length (bytes_of addresses) ≡ count = omega (arith, length-map addresses (λ a. a.now), size) in
    ap peers_in (take-add n 1 all ∙ ap (λ l. take n all ++ take 1 l) (so_far.rest ∙ next))
    ∙ fold-append after_line (Some []) (take n all) (line ∷ [])
    ∙ ap (λ o. after_line o line) so_far.hosts
    ∙ ap (λ k. with_naming (bytes_of addresses) (naming_of k (words (without_return line)))) same
    ∙ ap (with_naming (bytes_of addresses)) names

-- the lines after one more
one_left : (all left rest : List (List ℕ)) (line : List ℕ) (n : ℕ) → drop n all ≡ left → left ≡ line ∷ rest
    → drop (n + 1) all ≡ rest
one_left all left rest line n so_far next = sym (drop-drop 1 n all) ∙ ap (drop 1) (so_far ∙ next)

-- the first of the lines that are left is the one with the next number
line_at : (n : ℕ) (all rest : List (List ℕ)) (line : List ℕ) → drop n all ≡ line ∷ rest → slice_get all n ≡ Some line
line_at zero [] rest line next = absurd cc
line_at zero (x ∷ all) rest line next = ap (λ l. slice_get l 0) next
line_at (suc n) [] rest line next = absurd cc
line_at (suc n) (x ∷ all) rest line next = line_at n all rest line next

-- whether the next line names a host at the address of one before it
repeat_at : (all left rest : List (List ℕ)) (line : List ℕ) (n count : ℕ) (addresses : List (Bor (List ℕ)))
    (naming : Naming) → Reading all left n addresses → left ≡ line ∷ rest → count ≡ length addresses
    → naming_of count (words (without_return line)) ≡ naming
    → is_repeat_at (n + 1) all ≡ is_repeat (bytes_of addresses) naming
repeat_at all left rest line n count addresses naming so_far next size names =
    let before : n + 1 - 1 ≡ n = omega arith in
    let same : length (bytes_of addresses) ≡ count = omega (arith, length-map addresses (λ a. a.now), size) in
    let line_is : slice_get all n ≡ Some line = line_at n all rest line (so_far.rest ∙ next) in
    ap (λ k. option_map_or (λ (a : List (List ℕ)). option_map_or
    (λ l. is_repeat a (naming_of (length a) (words (without_return l)))) (slice_get all k) false) (peers_in (take k all)) false) before
    ∙ ap (λ o. option_map_or (λ (a : List (List ℕ)). option_map_or
    (λ l. is_repeat a (naming_of (length a) (words (without_return l)))) (slice_get all n) false) o false) so_far.hosts
    ∙ ap (λ o. option_map_or
    (λ l. is_repeat (bytes_of addresses) (naming_of (length (bytes_of addresses)) (words (without_return l)))) o false) line_is
    ∙ ap (λ k. is_repeat (bytes_of addresses) (naming_of k (words (without_return line)))) same
    ∙ ap (is_repeat (bytes_of addresses)) names

-- what code finds among its slices
taken_is : (addresses : List (Bor (List ℕ))) (address : List ℕ)
    → list_any (λ a. bytes_eq a.now address) addresses ≡ is_taken (bytes_of addresses) address
taken_is [] address = refl
taken_is (a ∷ addresses) address = ap (λ b. bytes_eq a.now address || b) (taken_is addresses address)

-- a line that names nothing is read
pub nothing_named : {all left rest : List (List ℕ)} {line : List ℕ} {n count : ℕ} {addresses : List (Bor (List ℕ))}
    → Reading all left n addresses → left ≡ line ∷ rest → count ≡ length addresses
    → naming_of count (words (without_return line)) ≡ Nothing → Reading all rest (n + 1) addresses
nothing_named {all} {left} {rest} {line} {n} {count} {addresses} so_far next size names = record {
  rest = one_left all left rest line n so_far.rest next;
  hosts = one_more all left rest line n count addresses Nothing so_far next size names;
}

-- a line that names the next host is read
pub host_named : {all left rest : List (List ℕ)} {line : List ℕ} {n count : ℕ}
    {addresses more : List (Bor (List ℕ))} (address : Bor (List ℕ)) → Reading all left n addresses → left ≡ line ∷ rest → count ≡ length addresses
    → naming_of count (words (without_return line)) ≡ Host address.now → list_any (λ a. bytes_eq a.now address.now) addresses ≡ false
    → more ≡ addresses ++ address ∷ [] → Reading all rest (n + 1) more
host_named {all} {left} {rest} {line} {n} {count} {addresses} {more} address so_far next size names free push = record {
  rest = one_left all left rest line n so_far.rest next;
  hosts =
      one_more all left rest line n count addresses (Host address.now) so_far next size names
      ∙ ap (λ taken. if taken then None else Some (bytes_of addresses ++ address.now ∷ [])) (sym (taken_is addresses address.now) ∙ free)
      ∙ ap Some (sym (ap bytes_of push ∙ map-append (λ a. a.now) addresses (address ∷ [])));
}

-- with one more line no hosts are named, for the first time
first_fault : (all left rest : List (List ℕ)) (line : List ℕ) (n : ℕ) (addresses : List (Bor (List ℕ)))
    → Reading all left n addresses → peers_in (take (n + 1) all) ≡ None → IsFirstFault (n + 1) all
first_fault all left rest line n addresses so_far none = record {
  before =
      let before : n + 1 - 1 ≡ n = omega arith in
      ap is_some (ap (λ k. peers_in (take k all)) before ∙ so_far.hosts);
  here = none;
}

-- a line that is a fault is the first one
pub fault_named : {all left rest : List (List ℕ)} {line : List ℕ} {n count : ℕ} {addresses : List (Bor (List ℕ))}
    → Reading all left n addresses → left ≡ line ∷ rest → count ≡ length addresses
    → naming_of count (words (without_return line)) ≡ Fault → IsLineFault (BadLine (n + 1)) all
fault_named {all} {left} {rest} {line} {n} {count} {addresses} so_far next size names = (
  first_fault all left rest line n addresses so_far (one_more all left rest line n count addresses Fault so_far next size names),
  repeat_at all left rest line n count addresses Fault so_far next size names,
)

-- so is one that names a host at the address of one before it
pub taken_named : {all left rest : List (List ℕ)} {line : List ℕ} {n count : ℕ} {addresses : List (Bor (List ℕ))}
    (address : Bor (List ℕ)) → Reading all left n addresses → left ≡ line ∷ rest → count ≡ length addresses
    → naming_of count (words (without_return line)) ≡ Host address.now → list_any (λ a. bytes_eq a.now address.now) addresses ≡ true
    → IsLineFault (SameAddress (n + 1)) all
taken_named {all} {left} {rest} {line} {n} {count} {addresses} address so_far next size names taken = (
  first_fault all left rest line n addresses so_far
      (one_more all left rest line n count addresses (Host address.now) so_far next size names
      ∙ ap (λ taken. if taken then None else Some (bytes_of addresses ++ address.now ∷ [])) (sym (taken_is addresses address.now) ∙ taken)),
  repeat_at all left rest line n count addresses (Host address.now) so_far next size names
      ∙ sym (taken_is addresses address.now) ∙ taken,
)

-- all lines are read
pub all_named : {all left : List (List ℕ)} {n : ℕ} {addresses : List (Bor (List ℕ))}
    → Reading all left n addresses → left ≡ [] → peers_in all ≡ Some (bytes_of addresses)
all_named {all} {left} {n} so_far none =
    ap peers_in
    (sym (take-append-drop n all) ∙ ap (λ l. take n all ++ l) (so_far.rest ∙ none) ∙ append-nil (take n all))
    ∙ so_far.hosts

-- no hosts are named after a fault
none_after : (rest : List (List ℕ)) → fold after_line None rest ≡ None
none_after [] = refl
none_after (line ∷ rest) = none_after rest

-- lines that begin with a fault name no hosts
fault_stays : (first rest all : List (List ℕ)) → first ++ rest ≡ all → peers_in first ≡ None → peers_in all ≡ None
fault_stays first rest all whole fault =
    ap peers_in (sym whole)
    ∙ fold-append after_line (Some []) first rest
    ∙ ap (λ o. fold after_line o rest) fault
    ∙ none_after rest

-- lines with a first fault name no hosts
pub no_hosts : (n : ℕ) (all : List (List ℕ)) → IsFirstFault n all → peers_in all ≡ None
no_hosts n all first = fault_stays (take n all) (drop n all) all (take-append-drop n all) first.here

-- no fault stands before the first one
none_before : (n m : ℕ) (all : List (List ℕ)) → n < m → IsFirstFault n all → IsFirstFault m all → ⊥
none_before n m all less first second =
    let whole : n + (m - 1 - n) ≡ m - 1 = omega arith in
    let none : peers_in (take (m - 1) all) ≡ None =
    fault_stays (take n all) (take (m - 1 - n) (drop n all)) (take (m - 1) all)
    (sym (take-add n (m - 1 - n) all) ∙ ap (λ k. take k all) whole) first.here in
    let no : false ≡ true = sym (ap is_some none) ∙ second.before in
    cc

-- only one line is the first fault
pub one_fault : (n m : ℕ) (all : List (List ℕ)) → IsFirstFault n all → IsFirstFault m all → n ≡ m
one_fault n m all first second =
    elim (cases_order n m) [
      | inl same ↦ same
      | inr apart ↦ elim apart [
        | inl less ↦ absurd (none_before n m all less first second)
        | inr more ↦ absurd (none_before m n all more second first)
      ]
    ]

-- the first fault is of one kind
pub one_kind : (n m : ℕ) (all : List (List ℕ)) → IsFirstFault n all → IsFirstFault m all → is_repeat_at n all ≡ true
    → is_repeat_at m all ≡ false → ⊥
one_kind n m all first second repeats repeats_not =
    let both : true ≡ false = sym repeats ∙ ap (λ k. is_repeat_at k all) (one_fault n m all first second) ∙ repeats_not in
    cc

pub ruleset faults = (no_hosts, one_fault, one_kind)
