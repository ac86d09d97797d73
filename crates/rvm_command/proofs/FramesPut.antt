-- What was written of a saved guest so far, and which frames have a spelling.
use Rattle.std.proofs.Common.{◌≡◌, ℕ, zero, suc, ◌+◌, ◌-◌, ◌^◌, ◌<◌, ◌≤◌, ◌&&◌, ◌==◌, Bool, true, false, if◌then◌else◌, List, [], ◌∷◌, ◌++◌, length, Option, Some, None, Result, Ok, Err, OnOk, refl, sym, ap, ◌∙◌, subst, arith, append_assoc, append-nil}
use Rattle.std.specs.Io.KnownBytes.{Appends}
use Rattle.std.specs.List.{list_all}
use Rattle.std.proofs.lemmas.Bool.{eq-eqb}
use Rattle.std.proofs.lemmas.Bool.Decides.{nat_tests}
use Rattle.rvm_codec.specs.Numbers.{within}
use Rattle.rvm_frame.proofs.Lengths.{length_state}
use Rattle.rvm_frame.specs.declared.frame.Frame.{Frame}
use Rattle.rvm_frame.specs.declared.frame.Frame.TheVariants as frame
use Rattle.rvm_frame.specs.Grammar.{HasSpelling, Received, sent, spelling}
use Rattle.rvm_frame.specs.Kinds.{byte_of, kind_of, names_hosts}
use Rattle.rvm_protocol.specs.Pages.{listed}
use Rattle.rvm_command.specs.Streams.{AreSpelled, bytes_of}
use Rattle.rvm_command.specs.Puts.{Puts}
use Rattle.rvm_state.specs.Spelling.{longest}

appends_none : (a : Option (List ℕ)) → Appends a a []
appends_none None = tt
appends_none (Some x) = sym (append-nil x)

appends_more : (a b c : Option (List ℕ)) (xs ys : List ℕ) → Appends a b xs → Appends b c ys → Appends a c (xs ++ ys)
appends_more None b c xs ys h k = tt
appends_more (Some x) None c xs ys h k = absurd h
appends_more (Some x) (Some y) None xs ys h k = absurd k
appends_more (Some x) (Some y) (Some z) xs ys h k = k ∙ ap (λ t. t ++ ys) h ∙ append_assoc x xs ys

bytes_more : (fs gs : List Frame) → bytes_of (fs ++ gs) ≡ bytes_of fs ++ bytes_of gs
unfolding bytes_of
bytes_more [] gs = refl
bytes_more (f ∷ fs) gs =
    ap (λ t. spelling (None, f) ++ t) (bytes_more fs gs) ∙ sym (append_assoc (spelling (None, f)) (bytes_of fs) (bytes_of gs))

spelled_more : (fs gs : List Frame) → AreSpelled fs → AreSpelled gs → AreSpelled (fs ++ gs)
unfolding AreSpelled
spelled_more [] gs p q = q
spelled_more (f ∷ fs) gs p q = (p.0, spelled_more fs gs p.1 q)

pub nothing_put : (a : Option (List ℕ)) → Puts a a []
unfolding bytes_of AreSpelled
nothing_put a = record { text = appends_none a; spelled = tt }

pub more_put : (a b c : Option (List ℕ)) (fs gs : List Frame) → Puts a b fs → Puts b c gs → Puts a c (fs ++ gs)
more_put a b c fs gs p q =
    record {
      text = subst (Appends a c) (sym (bytes_more fs gs)) (appends_more a b c (bytes_of fs) (bytes_of gs) p.text q.text);
      spelled = spelled_more fs gs p.spelled q.spelled;
    }

pub one_put : (a b : Option (List ℕ)) (f : Frame) → HasSpelling (None, f) → Appends a b (spelling (None, f)) → Puts a b (f ∷ [])
unfolding bytes_of AreSpelled
one_put a b f fits h =
    record { text = subst (Appends a b) (sym (append-nil (spelling (None, f)))) h; spelled = (fits, tt) }

-- in a stream of version 1 headers name no hosts
names_none : (b : Bool) → names_hosts (if b then None else Some 1) ≡ false
names_none true = refl
names_none false = refl

pub sent_bare : (f : Frame) → sent 1 (record { from = 0; to = 1; frame = f }) ≡ (None, f)
sent_bare f =
    ap (λ (b : Bool). (if b then Some (0, 1) else None, f)) (names_none (byte_of (kind_of f) == 0))

-- lists by number
pub listed_last : {V : Type 0} (f : ℕ → V) (first count : ℕ) → listed f first (suc count) ≡ listed f first count ++ f (first + count) ∷ []
unfolding listed
listed_last f first zero = let z : first ≡ first + 0 = omega arith in ap (λ p. f p ∷ []) z
listed_last f first (suc count) =
    let z : suc first + count ≡ first + suc count = omega arith in
    ap (λ t. f first ∷ t) (listed_last f (suc first) count ∙ ap (λ p. listed f (suc first) count ++ f p ∷ []) z)

listed_length : {V : Type 0} (f : ℕ → V) (first count : ℕ) → length (listed f first count) ≡ count
unfolding listed
listed_length f first zero = refl
listed_length f first (suc count) = ap suc (listed_length f (suc first) count)

-- ---- spellings

and_so : (a b : Bool) → a ≡ true → b ≡ true → (a && b) ≡ true
and_so true b h k = k
and_so false b h k = cc

in_limits : (low high n : ℕ) → low ≤ n → n ≤ high → within low high n ≡ true
in_limits low high n a b = grind (arith, nat_tests)

copies_fit : (first count : ℕ) → 1 ≤ suc first → suc first + count ≤ 2 ^ 32 → list_all (within 1 (2 ^ 32 - 1)) (listed suc first count) ≡ true
unfolding listed
copies_fit first zero a b = refl
copies_fit first (suc count) a b =
    and_so _ _ (in_limits 1 (2 ^ 32 - 1) (suc first) (omega arith) (omega (arith, b)))
    (copies_fit (suc first) count (omega arith) (omega (arith, b)))

pub page_spelled : (page : ℕ) (bytes : List ℕ) → page < 4096 → length bytes ≡ 4096
    → HasSpelling (None, frame.Page 1 page (suc page) bytes)
page_spelled page bytes few long =
    record {
      hosts = refl;
      move_number = refl;
      body =
          and_so _ _ (in_limits 0 4095 page (omega arith) (omega (arith, few)))
          (and_so _ _ (in_limits 1 (2 ^ 32 - 1) (suc page) (omega arith) (omega (arith, few)))
          (eq-eqb (length bytes) 4096 long));
      body_length = omega (arith, long);
    }

pub state_spelled : (pages : ℕ) (state : List ℕ) → 0 < pages → pages ≤ 4096 → length state ≤ longest
    → HasSpelling (None, frame.State 1 (listed suc 0 pages) state)
state_spelled pages state some few short =
    let long = listed_length suc 0 pages in
    record {
      hosts = refl;
      move_number = refl;
      body =
          and_so _ _ (in_limits 1 4096 (length (listed suc 0 pages)) (omega (arith, long, some)) (omega (arith, long, few)))
          (copies_fit 0 pages (omega arith) (omega (arith, few)));
      body_length = omega (arith, length_state (listed suc 0 pages) state, short, long, few);
    }

-- ---- loops

pub numbers_none : [] ≡ listed suc 0 0
unfolding listed
numbers_none = refl

pub numbers_more : (old new : List ℕ) (page x : ℕ) → old ≡ listed suc 0 page → new ≡ old ++ x ∷ [] → x ≡ page + 1
    → new ≡ listed suc 0 (page + 1)
numbers_more old new page x o is one =
    let y : x ≡ suc (0 + page) = omega (arith, one) in
    let z : suc page ≡ page + 1 = omega arith in
    is ∙ ap (λ t. t ++ x ∷ []) o ∙ ap (λ k. listed suc 0 page ++ k ∷ []) y ∙ sym (listed_last suc 0 page)
    ∙ ap (listed suc 0) z

pub numbers_count : (old : List ℕ) (page : ℕ) → old ≡ listed suc 0 page → length old ≡ page
numbers_count old page o = ap length o ∙ listed_length suc 0 page

pub pages_none : (a : Option (List ℕ)) (f : ℕ → Frame) → Puts a a (listed f 0 0)
unfolding listed
pages_none a f = nothing_put a

pub page_put : (a b c : Option (List ℕ)) (f : ℕ → Frame) (page : ℕ) → Puts a b (listed f 0 page) → Puts b c (f page ∷ [])
    → Puts a c (listed f 0 (page + 1))
page_put a b c f page p q =
    let z : suc page ≡ page + 1 = omega arith in
    let y : page ≡ 0 + page = omega arith in
    let all : listed f 0 page ++ f page ∷ [] ≡ listed f 0 (page + 1) =
    ap (λ k. listed f 0 page ++ f k ∷ []) y ∙ sym (listed_last f 0 page) ∙ ap (listed f 0) z in
    subst (Puts a c) all (more_put a b c (listed f 0 page) (f page ∷ []) p q)

pub opening_put : {T E : Type 0} (a b c : Option (List ℕ)) (x y : Frame) (r : Result T E) → Puts a b (x ∷ [])
    → OnOk r (Puts b c (y ∷ [])) → OnOk r (Puts a c (x ∷ y ∷ []))
opening_put a b c x y (Ok v) p q = more_put a b c (x ∷ []) (y ∷ []) p q
opening_put a b c x y (Err e) p q = tt

-- a frame was written
pub frame_put : (a b : Option (List ℕ)) (f : Frame) → HasSpelling (None, f)
    → Appends a b (spelling (sent 1 (record { from = 0; to = 1; frame = f }))) → Puts a b (f ∷ [])
frame_put a b f fits h = one_put a b f fits (subst (λ (x : Received). Appends a b (spelling x)) (sent_bare f) h)

pub frame_fits : (f : Frame) → HasSpelling (None, f) → HasSpelling (sent 1 (record { from = 0; to = 1; frame = f }))
frame_fits f fits = subst HasSpelling (sym (sent_bare f)) fits
