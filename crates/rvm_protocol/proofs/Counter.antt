-- A small guest for the worked examples: it counts its events, and its pages are one number each.
-- An event writes a page or only counts.
use Rattle.std.proofs.Common.{◌≡◌, ℕ, ◌+◌, Bool, true, false, ◌==◌, List, [], ◌∷◌, length, get_or, set, replicate, Option, Some, None, refl, arith, ◌/◌, ◌%◌, ◌*◌, ◌<◌, ap}
use Rattle.std.proofs.lemmas.Bool.{eqb-true, eqb-false}
use Rattle.std.proofs.lemmas.List.{length-set, get_or-set_other}
use Rattle.rvm_protocol.specs.Commands.{Policy}
use Rattle.rvm_protocol.specs.Guest.{Guest, IsGuest}

pub record Counter : Type 0 where
  pub count : ℕ
  pub pages : List ℕ

pub data CounterEvent : Type 0 where
  Tick : CounterEvent
  Write : (page value : ℕ) → CounterEvent

-- a guest of n pages of zeros
abbrev pub fresh : ℕ → Counter
fresh n = record { count = 0; pages = replicate n 0 }

-- a policy: the most rounds, the fewest pages left, the most copies of each page
abbrev pub policy : (rounds left copies : ℕ) → Policy
policy rounds left copies = record { max_rounds = rounds; min_left = left; factor = copies }

abbrev pub counts : Counter → CounterEvent → Counter
counts t Tick = record { count = t.count + 1; pages = t.pages }
counts t (Write p v) = record { count = t.count + 1; pages = set t.pages p v }

abbrev pub writes : Counter → CounterEvent → ℕ → Bool
writes t Tick q = false
writes t (Write p v) q = q == p

pub same_length : (t : Counter) (e : CounterEvent) → length (counts t e).pages ≡ length t.pages
same_length t Tick = refl
same_length t (Write p v) = length-set t.pages p v

pub unwritten : (t : Counter) (e : CounterEvent) (q : ℕ) → writes t e q ≡ false
    → get_or (counts t e).pages q 0 ≡ get_or t.pages q 0
unwritten t Tick q h = refl
unwritten t (Write p v) q h = get_or-set_other t.pages p q v 0 (eqb-false q p h)

-- a state in one piece: the count, then the numbers
abbrev pub join_one : List (List ℕ) → Option (List ℕ × ℕ)
join_one ((b ∷ ns) ∷ []) = Some (ns, b)
join_one xs = None

-- a state in two pieces, of which each has one half of the first number
abbrev pub cut_two : List ℕ → ℕ → List (List ℕ)
cut_two [] b = [] ∷ (b ∷ []) ∷ []
cut_two (n ∷ ns) b = ((n / 2) ∷ ns) ∷ ((n % 2) ∷ b ∷ []) ∷ []

abbrev pub join_two : List (List ℕ) → Option (List ℕ × ℕ)
join_two ([] ∷ (b ∷ []) ∷ []) = Some ([], b)
join_two ((high ∷ ns) ∷ (low ∷ b ∷ []) ∷ []) = Some ((2 * high + low) ∷ ns, b)
join_two xs = None

pub some_two : (ns : List ℕ) (b : ℕ) → 0 < length (cut_two ns b)
some_two [] b = omega arith
some_two (n ∷ ns) b = omega arith

pub joined_two : (ns : List ℕ) (b : ℕ) → join_two (cut_two ns b) ≡ Some (ns, b)
joined_two [] b = refl
joined_two (n ∷ ns) b =
    let z : 2 * (n / 2) + n % 2 ≡ n = omega arith in ap (λ q. Some (q ∷ ns, b)) z

abbrev pub counter : Guest Counter ℕ CounterEvent ℕ ℕ
counter =
    record {
      answer = λ t e. t.count;
      next = counts;
      pages = λ t. t.pages;
      wrote = writes;
      processors = λ t. 1;
      zeros = 0;
      is_zeros = λ p. p == 0;
      body = λ t. t.count;
      build = λ h b ps. Some (record { count = b; pages = ps });
      cut = λ ns b. (b ∷ ns) ∷ [];
      join = join_one;
      valid = λ t. true;
    }

pub counter_laws : IsGuest counter
counter_laws =
    record {
      stays = λ t e v. refl;
      same_length = same_length;
      same_processors = λ t e. refl;
      unwritten = unwritten;
      read_back = λ t v. refl;
      zeros_pass = refl;
      only_zeros_pass = λ p h. eqb-true p 0 h;
      some_piece = λ ns b. omega arith;
      joined = λ t ns v h k. refl;
    }

-- the same guest with its state in two pieces
abbrev pub split_counter : Guest Counter ℕ CounterEvent ℕ ℕ
split_counter =
    record counter {
      cut = cut_two;
      join = join_two;
    }

pub split_counter_laws : IsGuest split_counter
split_counter_laws =
    record {
      stays = λ t e v. refl;
      same_length = same_length;
      same_processors = λ t e. refl;
      unwritten = unwritten;
      read_back = λ t v. refl;
      zeros_pass = refl;
      only_zeros_pass = λ p h. eqb-true p 0 h;
      some_piece = some_two;
      joined = λ t ns v h k. joined_two ns t.count;
    }
