-- Journals of the hosts of a world that are read one after the other.
use Rattle.std.proofs.Common.{◌≡◌, ◌≢◌, ◌∙◌, ◌⊎◌, ℕ, zero, suc, pred, ◌+◌, ◌<◌, ◌≤◌, ◌==◌, ◌&&◌, Bool, true, false, List, [], ◌∷◌, ◌++◌, arith, ap, drop, get_or, inl, inr, length, length-append, map, Option, Some, None, refl, sym, subst, take}
use Rattle.std.proofs.Math.Path.{fun_ext}
use Rattle.std.proofs.lemmas.Bool.{eq-eqb, eqb-true, true≢false}
use Rattle.std.proofs.lemmas.List.{map-append, take_more}
use Rattle.std.proofs.lemmas.Option.{same_Some, slice_get-get_or}
use Rattle.std.specs.Borrow.{Bor}
use Rattle.std.specs.declared.alloc.Global.{Global}
use Rattle.std.specs.Option.{option_and_then}
use Rattle.std.specs.List.{list_all}
use Rattle.std.specs.Prelude.{codes, Err, IfOk, IsErr, Ok, OnOk, Result, slice_get, slice_set, Vec}
use Rattle.rvm_journal.specs.declared.header.Header.{Header}
use Rattle.rvm_journal.specs.Headers.{header_at}
use Rattle.rvm_journal.specs.Reading.{IsTextOf, Opened}
use Rattle.rvm_journal.specs.Whole.{IsJournal}
use Rattle.rvm_journal.specs.Written.{is_no_feed}
use Rattle.rvm_journal.proofs.Reading.{has_journal}
use Rattle.rvm_recorder.specs.History.{Recording}
use Rattle.rvm_replay.specs.Audited.{AreOfOneWorld, AreOfWorld, AreOnce, HasDone, IsHostAt, IsHostBy, IsOnly, IsOnlyOne, is_wanted}
use Rattle.rvm_replay.specs.FileFaults.{IsOpenFault}
use Rattle.rvm_replay.specs.Journals.{AreTexts, IsHostOf, JournalText, header_number, headers_in, headers_of, known_in, names_in, plain_names}
use Rattle.rvm_replay.specs.Meetings.{HaveMet}
use Rattle.rvm_replay.specs.Unaudited.{AreMetOther, IsHeadersFault, IsJournalsFault}
use Rattle.rvm_replay.specs.Worlds.{AllHaveTexts, AreIdle, AreKept, AreNotOpened, AreOpened, AreTextsOf, HasText, IsKeptFault, IsOneKept, IsOneOpened, IsPutAt}
use Rattle.rvm_replay.specs.declared.file.FileFault.{FileFault}
use Rattle.rvm_replay.specs.declared.file.FileFault.TheVariants as file
use Rattle.rvm_replay.specs.declared.file.JournalsFault.{JournalsFault}
use Rattle.rvm_replay.specs.declared.file.JournalsFault.TheVariants as fault
use Rattle.rvm_replay.specs.declared.headers.Wanted.TheVariants.{OfHost}
use Rattle.rvm_replay.proofs.JournalFaults.{of_headers}
use Rattle.rvm_replay.proofs.OnlyOne.{first_found, none_more, some_more}

-- LISTS

-- the elements of a list, and one more
pub old_of : {X : Type 0} (xs : List X) (x : X) (i : ℕ) → i < length xs → slice_get (xs ++ x ∷ []) i ≡ slice_get xs i
old_of [] x i less = absurd (omega (arith, less))
old_of (y ∷ xs) x zero less = refl
old_of (y ∷ xs) x (suc i) less = old_of xs x i (omega (arith, less))

pub new_of : {X : Type 0} (xs : List X) (x : X) (more : List X) → slice_get (xs ++ x ∷ more) (length xs) ≡ Some x
new_of [] x more = refl
new_of (y ∷ xs) x more = new_of xs x more

-- an element that there is has a place
pub within : {X : Type 0} (xs : List X) (x : X) (i : ℕ) → slice_get xs i ≡ Some x → i < length xs
within [] x i is = cc
within (y ∷ xs) x zero is = omega arith
within (y ∷ xs) x (suc i) is = let less = within xs x i is in omega (arith, less)

-- HEADERS

-- texts of journals have the headers that were read
pub header_same : (names : List (Bor (List ℕ))) (opened : List Opened) (files : List JournalText) → AreTextsOf names opened files
    → (i : ℕ) → header_number files i ≡ (headers_of opened).at i
header_same [] [] [] are i = refl
header_same [] [] (f ∷ fs) are i = absurd are
header_same [] (o ∷ os) files are i = absurd are
header_same (n ∷ ns) [] files are i = absurd are
header_same (n ∷ ns) (o ∷ os) [] are i = absurd are
header_same (n ∷ ns) (o ∷ os) (f ∷ fs) are zero = are.1.header_is
header_same (n ∷ ns) (o ∷ os) (f ∷ fs) are (suc i) = header_same ns os fs are.2 i

pub as_many : (names : List (Bor (List ℕ))) (opened : List Opened) (files : List JournalText) → AreTextsOf names opened files
    → length files ≡ length opened
as_many [] [] [] are = refl
as_many [] [] (f ∷ fs) are = absurd are
as_many [] (o ∷ os) files are = absurd are
as_many (n ∷ ns) [] files are = absurd are
as_many (n ∷ ns) (o ∷ os) [] are = absurd are
as_many (n ∷ ns) (o ∷ os) (f ∷ fs) are = ap suc (as_many ns os fs are.2)

pub headers_same : (names : List (Bor (List ℕ))) (opened : List Opened) (files : List JournalText) → AreTextsOf names opened files
    → headers_in files ≡ headers_of opened
headers_same names opened files are =
    let at = fun_ext (header_same names opened files are) in
    let count = as_many names opened files are in
    λ j. record { count = count j; at = at j }

-- TEXTS

-- journals whose headers were read have texts
pub all_texts : (names : List (Bor (List ℕ))) (opened : List Opened) → length names ≡ length opened → AllHaveTexts opened
    → (files : List JournalText) × AreTextsOf names opened files
all_texts [] [] long have = ([], tt)
all_texts [] (o ∷ os) long have = absurd (omega (arith, long))
all_texts (n ∷ ns) [] long have = absurd (omega (arith, long))
all_texts (n ∷ ns) (o ∷ os) long have =
    let rest = all_texts ns os (omega (arith, long)) have.1 in
    (record { name = n.now; text = have.0.0 } ∷ rest.0, (refl, have.0.1, rest.1))

-- texts of some journals, followed by those of others
pub texts_both : (ns ms : List (Bor (List ℕ))) (os ps : List Opened) (fs gs : List JournalText) → AreTextsOf ns os fs
    → AreTextsOf ms ps gs → AreTextsOf (ns ++ ms) (os ++ ps) (fs ++ gs)
texts_both [] ms [] ps [] gs are more = more
texts_both [] ms [] ps (f ∷ fs) gs are more = absurd are
texts_both [] ms (o ∷ os) ps fs gs are more = absurd are
texts_both (n ∷ ns) ms [] ps fs gs are more = absurd are
texts_both (n ∷ ns) ms (o ∷ os) ps [] gs are more = absurd are
texts_both (n ∷ ns) ms (o ∷ os) ps (f ∷ fs) gs are more = (are.0, are.1, texts_both ns ms os ps fs gs are.2 more)

-- they are the texts of the files
pub texts_of : (names : List (Bor (List ℕ))) (known : List (Option (List ℕ))) (opened : List Opened) (files : List JournalText)
    → AreOpened known opened → AreTextsOf names opened files → AreTexts names known files
texts_of [] [] [] [] opens are = tt
texts_of [] [] [] (f ∷ fs) opens are = absurd are
texts_of [] [] (o ∷ os) files opens are = absurd opens
texts_of [] (k ∷ ks) [] files opens are = absurd opens
texts_of [] (k ∷ ks) (o ∷ os) files opens are = absurd are
texts_of (n ∷ ns) [] [] files opens are = absurd are
texts_of (n ∷ ns) [] (o ∷ os) files opens are = absurd opens
texts_of (n ∷ ns) (k ∷ ks) [] files opens are = absurd opens
texts_of (n ∷ ns) (k ∷ ks) (o ∷ os) [] opens are = absurd are
texts_of (n ∷ ns) (k ∷ ks) (o ∷ os) (f ∷ fs) opens are =
    (are.0, subst (λ x. IsJournal x f.text) opens.0 are.1.whole, texts_of ns ks os fs opens.2 are.2)

pub all_have : (known : List (Option (List ℕ))) (opened : List Opened) → AreOpened known opened → AllHaveTexts opened
all_have [] [] are = tt
all_have [] (o ∷ os) are = absurd are
all_have (k ∷ ks) [] are = absurd are
all_have (k ∷ ks) (o ∷ os) are = (are.1, all_have ks os are.2)

pub opened_long : (known : List (Option (List ℕ))) (opened : List Opened) → AreOpened known opened
    → length opened ≡ length known
opened_long [] [] are = refl
opened_long [] (o ∷ os) are = absurd are
opened_long (k ∷ ks) [] are = absurd are
opened_long (k ∷ ks) (o ∷ os) are = ap suc (opened_long ks os are.2)

-- one more header was read
pub one_opened : (ks : List (Option (List ℕ))) (os new : List Opened) (k : Option (List ℕ)) → AreOpened ks os → IsOneOpened k os new
    → AreOpened (ks ++ k ∷ []) new
one_opened ks os new k are one =
    subst (AreOpened (ks ++ k ∷ [])) (sym one.last) (more ks os are) where
      more : (ls : List (Option (List ℕ))) (ps : List Opened) → AreOpened ls ps
          → AreOpened (ls ++ k ∷ []) (ps ++ one.one ∷ [])
      more [] [] is = (one.known_is, one.has_text, tt)
      more [] (p ∷ ps) is = absurd is
      more (l ∷ ls) [] is = absurd is
      more (l ∷ ls) (p ∷ ps) is = (is.0, is.1, more ls ps is.2)

-- nothing was returned but an error
pub never_ok : {A E : Type 0} (r : Result A E) (P : A → Type 0) → IsErr r → IfOk r P
never_ok (Ok a) P is = absurd (true≢false (sym is))
never_ok (Err e) P is = tt

pub never_on : {A E : Type 0} (r : Result A E) (P : Type 0) → IsErr r → OnOk r P
never_on (Ok a) P is = absurd (true≢false (sym is))
never_on (Err e) P is = tt

-- the next journal among all
pub next_known : {I : Type 0} (remaining : I → Option (List ℕ)) (all yielded rest : List I) (x : I) (os : List Opened)
    → yielded ++ x ∷ rest ≡ all → AreOpened (map remaining yielded) os
    → slice_get (map remaining all) (length os) ≡ Some (remaining x)
next_known {I} remaining all yielded rest x os split are =
    let size : length os ≡ length (map remaining yielded) = opened_long (map remaining yielded) os are in
    ap (λ xs. slice_get (map remaining xs) (length os)) (sym split)
    ∙ ap (λ ks. slice_get ks (length os)) (map-append remaining yielded (x ∷ rest))
    ∙ ap (slice_get (map remaining yielded ++ map remaining (x ∷ rest))) size
    ∙ new_of (map remaining yielded) (remaining x) (map remaining rest)

-- one more was opened
pub more_opened : {I : Type 0} (remaining : I → Option (List ℕ)) (yielded : List I) (x : I) (os new : List Opened)
    → AreOpened (map remaining yielded) os → IsOneOpened (remaining x) os new → AreOpened (map remaining (yielded ++ x ∷ [])) new
more_opened {I} remaining yielded x os new are one =
    subst (λ ks. AreOpened ks new) (sym (map-append remaining yielded (x ∷ [])))
    (one_opened (map remaining yielded) os new (remaining x) are one)

-- nothing is left of a list without a length
pub nothing_left : {X : Type 0} (xs : List X) → length xs ≡ 0 → xs ≡ []
nothing_left [] none = refl
nothing_left (x ∷ xs) none = absurd (omega (arith, none))

-- bytes with a line feed among them
has_feed : (before rest : List ℕ) → list_all is_no_feed ((before ++ codes "\n") ++ rest) ≡ true → ⊥
has_feed [] rest all = true≢false (sym all)
has_feed (b ∷ before) rest all = has_feed before rest (second_of (is_no_feed b) (list_all is_no_feed ((before ++ codes "\n") ++ rest)) all)
  where
    second_of : (a b : Bool) → (a && b) ≡ true → b ≡ true
    second_of true b e = e
    second_of false b e = cc

abbrev Ends : List ℕ → Type 0
Ends w = (w ≡ []) ⊎ ((before : List ℕ) × (w ≡ before ++ codes "\n"))

ends_tail : (a : ℕ) (w : List ℕ) → Ends (a ∷ w) → Ends w
ends_tail a w (inl none) = cc
ends_tail a w (inr ([], is)) = inl (ap (drop 1) is)
ends_tail a w (inr (c ∷ before, is)) = inr (before, ap (drop 1) is)

none_but : (v r s : List ℕ) → r ≡ v ++ s → list_all is_no_feed r ≡ true → Ends v → [] ≡ v
none_but v r s is one (inl none) = sym none
none_but v r s is one (inr (before, ends)) =
    absurd (has_feed before s (ap (λ t. list_all is_no_feed (t ++ s)) (sym ends) ∙ ap (list_all is_no_feed) (sym is) ∙ one))

-- bytes have whole lines in one way
whole_same : (w v r s : List ℕ) → w ++ r ≡ v ++ s → list_all is_no_feed r ≡ true → list_all is_no_feed s ≡ true → Ends w → Ends v
    → w ≡ v
whole_same [] v r s is one other ew ev = none_but v r s is one ev
whole_same (a ∷ w) [] r s is one other ew ev = sym (none_but (a ∷ w) s r (sym is) other ew)
whole_same (a ∷ w) (b ∷ v) r s is one other ew ev =
    let head : a ≡ b = ap (λ l. get_or l 0 0) is in
    let tail = whole_same w v r s (ap (drop 1) is) one other (ends_tail a w ew) (ends_tail b v ev) in
    λ j. head j ∷ tail j

pub text_same : (bytes t u : List ℕ) → IsJournal (Some bytes) t → IsJournal (Some bytes) u → t ≡ u
text_same bytes t u is that = whole_same t u is.rest that.rest (sym is.all ∙ that.all) is.part that.part is.ends that.ends

-- the journal with an index
pub text_there : (names : List (Bor (List ℕ))) (known : List (Option (List ℕ))) (files : List JournalText) (i : ℕ) (n : Bor (List ℕ))
    (k : Option (List ℕ)) → AreTexts names known files → slice_get names i ≡ Some n → slice_get known i ≡ Some k
    → (f : JournalText) × (slice_get files i ≡ Some f) × (f.name ≡ n.now) × IsJournal k f.text
text_there [] [] [] i n k are at that = cc
text_there [] [] (f ∷ fs) i n k are at that = absurd are
text_there [] (l ∷ ks) files i n k are at that = absurd are
text_there (m ∷ ns) [] files i n k are at that = absurd are
text_there (m ∷ ns) (l ∷ ks) [] i n k are at that = absurd are
text_there (m ∷ ns) (l ∷ ks) (f ∷ fs) zero n k are at that = (
  f,
  refl,
  are.0 ∙ ap (λ (b : Bor (List ℕ)). b.now) (same_Some m n at),
  subst (λ x. IsJournal x f.text) (same_Some l k that) are.1,
)
text_there (m ∷ ns) (l ∷ ks) (f ∷ fs) (suc i) n k are at that = text_there ns ks fs i n k are.2 at that

-- an element by its index
pub name_at : (names : List (Bor (List ℕ))) (i : ℕ) (d : Bor (List ℕ)) → i < length names
    → slice_get names i ≡ Some (get_or names i d)
name_at names i d less = slice_get-get_or names i d less

pub known_at : (journals : List (Vec ℕ Global)) (i : ℕ) (v : Vec ℕ Global) → i < length journals → get_or journals i v ≡ v
    → slice_get (known_in journals) i ≡ Some (Some v.items)
known_at [] i v less is = absurd (omega (arith, less))
known_at (w ∷ ws) zero v less is = ap (λ (x : Vec ℕ Global). Some (Some x.items)) is
known_at (w ∷ ws) (suc i) v less is = known_at ws i v (omega (arith, less)) is

-- any files have texts
pub any_texts : (names : List (Bor (List ℕ))) (known : List (Option (List ℕ))) → length names ≡ length known
    → (files : List JournalText) × AreTexts names known files
any_texts [] [] long = ([], tt)
any_texts [] (k ∷ ks) long = absurd (omega (arith, long))
any_texts (n ∷ ns) [] long = absurd (omega (arith, long))
any_texts (n ∷ ns) (k ∷ ks) long =
    let rest = any_texts ns ks (omega (arith, long)) in
    let one = has_journal k in
    (record { name = n.now; text = one.0 } ∷ rest.0, (refl, one.1, rest.1))

-- one of them has this text
pub text_at : (names : List (Bor (List ℕ))) (known : List (Option (List ℕ))) (i : ℕ) (one : Option (List ℕ)) (text : List ℕ)
    → length names ≡ length known → slice_get known i ≡ Some one → IsJournal one text
    → (files : List JournalText) × AreTexts names known files × (header_number files i ≡ header_at text) × (i < length files)
text_at [] [] i one text long at is = cc
text_at [] (k ∷ ks) i one text long at is = absurd (omega (arith, long))
text_at (n ∷ ns) [] i one text long at is = absurd (omega (arith, long))
text_at (n ∷ ns) (k ∷ ks) zero one text long at is =
    let rest = any_texts ns ks (omega (arith, long)) in (
      record { name = n.now; text = text } ∷ rest.0,
      (refl, subst (λ x. IsJournal x text) (sym (same_Some k one at)) is, rest.1),
      refl,
      omega arith,
    )
text_at (n ∷ ns) (k ∷ ks) (suc i) one text long at is =
    let rest = text_at ns ks i one text (omega (arith, long)) at is in
    let mine = has_journal k in
    let less = rest.3 in (
      record { name = n.now; text = mine.0 } ∷ rest.0,
      (refl, mine.1, rest.1),
      rest.2,
      omega (arith, less),
    )

-- the names of texts
pub named_same : (names : List (Bor (List ℕ))) (known : List (Option (List ℕ))) (files : List JournalText)
    → AreTexts names known files → plain_names names ≡ names_in files
named_same [] [] [] are = refl
named_same [] [] (f ∷ fs) are = absurd are
named_same [] (k ∷ ks) files are = absurd are
named_same (n ∷ ns) [] files are = absurd are
named_same (n ∷ ns) (k ∷ ks) [] are = absurd are
named_same (n ∷ ns) (k ∷ ks) (f ∷ fs) are = λ j. sym are.0 j ∷ named_same ns ks fs are.2 j

pub texts_long : (names : List (Bor (List ℕ))) (known : List (Option (List ℕ))) (files : List JournalText)
    → AreTexts names known files → length files ≡ length names
texts_long [] [] [] are = refl
texts_long [] [] (f ∷ fs) are = absurd are
texts_long [] (k ∷ ks) files are = absurd are
texts_long (n ∷ ns) [] files are = absurd are
texts_long (n ∷ ns) (k ∷ ks) [] are = absurd are
texts_long (n ∷ ns) (k ∷ ks) (f ∷ fs) are = ap suc (texts_long ns ks fs are.2)

-- FAULTS

-- a header that was not read
pub not_opened : (names : List (Bor (List ℕ))) (known : List (Option (List ℕ))) (why : JournalsFault)
    → length names ≡ length known → AreNotOpened known why
    → (files : List JournalText) × AreTexts names known files
    × ((capacity : ℕ) (image : List ℕ) → IsJournalsFault capacity files image why)
not_opened names known fault.OutOfMemory long not = let any = any_texts names known long in (any.0, any.1, λ capacity image. tt)
not_opened names known fault.NoGuest long not = absurd not.refused
not_opened names known (fault.File i why) long not = by_fault why not.refused.1 where
  unread : (files : List JournalText) × AreTexts names known files
  unread = any_texts names known long

  by_fault : (f : FileFault) → IsOpenFault f not.one
      → (files : List JournalText) × AreTexts names known files
      × ((capacity : ℕ) (image : List ℕ) → IsJournalsFault capacity files image (fault.File i f))
  by_fault file.NoHeader none =
      let at = text_at names known i not.one none.0 long (ap (slice_get known) not.refused.0 ∙ not.there) none.1 in
      (at.0, at.1, λ capacity image. inl (at.3, at.2 ∙ none.2))
  by_fault (file.Journal f) is = (unread.0, unread.1, λ capacity image. inr (inr (inr is)))
  by_fault (file.SameHost letter) is = absurd is
  by_fault file.SecondGuest is = absurd is
  by_fault file.OtherHosts is = absurd is
  by_fault file.OtherWorld is = absurd is
  by_fault (file.OtherProcess letter) is = absurd is
  by_fault file.MetOtherWorld is = absurd is
  by_fault file.NoImage is = absurd is
  by_fault file.OtherImage is = absurd is
  by_fault (file.Image f) is = absurd is

-- headers that are not those of hosts of one world
pub other_headers : (names : List (Bor (List ℕ))) (known : List (Option (List ℕ))) (opened : List Opened) (capacity : ℕ)
    (image : List ℕ) (why : JournalsFault) → length names ≡ length known → AreOpened known opened
    → IsHeadersFault (headers_of opened) why
    → (files : List JournalText) × AreTexts names known files × IsJournalsFault capacity files image why
other_headers names known opened capacity image why long are bad =
    let size = opened_long known opened are in
    let any = all_texts names opened (long ∙ sym size) (all_have known opened are) in (
      any.0,
      texts_of names known opened any.0 are any.1,
      of_headers capacity any.0 image why (subst (λ hs. IsHeadersFault hs why) (sym (headers_same names opened any.0 any.1)) bad),
    )

-- meetings that do not agree
pub of_meetings : (capacity : ℕ) (files : List JournalText) (image : List ℕ) (why : JournalsFault) → AreMetOther files why
    → IsJournalsFault capacity files image why
of_meetings capacity files image fault.OutOfMemory bad = tt
of_meetings capacity files image fault.NoGuest bad = absurd bad
of_meetings capacity files image (fault.File i f) bad = inr (inl bad)

-- THE HOSTS

-- the same indices have a property
only_same : (has other : ℕ → Bool) (n : ℕ) (found : Option ℕ) → ((i : ℕ) → i < n → has i ≡ other i) → IsOnly has n found
    → IsOnly other n found
only_same has other n None same none = λ i less. sym (same i less) ∙ none i less
only_same has other n (Some k) same only =
    (only.0, sym (same k only.0) ∙ only.1, λ i less is. only.2 i less (same i less ∙ is))

-- of two indices that have it, both are the one
both_are : (has : ℕ → Bool) (n : ℕ) (found : Option ℕ) (i j : ℕ) → IsOnly has n found → i < n → j < n → has i ≡ true
    → has j ≡ true → i ≡ j
both_are has n None i j none li lj hi hj = absurd (true≢false (sym hi ∙ none i li))
both_are has n (Some k) i j only li lj hi hj = only.2 i li hi ∙ sym (only.2 j lj hj)

false_if : (b : Bool) → (b ≡ true → ⊥) → b ≡ false
false_if true never = absurd (never refl)
false_if false never = refl

-- one more journal
module _ (files : List JournalText) (f : JournalText) where
  abbrev more : List JournalText
  more = files ++ f ∷ []

  long : length more ≡ length files + 1
  long = length-append files (f ∷ [])

  kept_header : (i : ℕ) → i < length files → header_number more i ≡ header_number files i
  kept_header i less = ap (option_and_then (λ (g : JournalText). header_at g.text)) (old_of files f i less)

  new_header : header_number more (length files) ≡ header_at f.text
  new_header = ap (option_and_then (λ (g : JournalText). header_at g.text)) (new_of files f [])

  module _ (image : List ℕ) where
    host_stays : (i : ℕ) (r : Recording) → i < length files → IsHostAt files image i r → IsHostAt more image i r
    host_stays i r less at = record {
      header = at.header;
      file = at.file;
      header_is = kept_header i less ∙ at.header_is;
      file_is = old_of files f i less ∙ at.file_is;
      host = at.host;
    }

    -- a host that is not the one of the new journal
    module _ (hosts x : ℕ) (r : Recording) (other : is_wanted (OfHost x) (header_at f.text) ≡ false) where
      abbrev has : ℕ → Bool
      has i = is_wanted (OfHost x) (header_number more i)

      not_here : has (length files) ≡ false
      not_here = ap (is_wanted (OfHost x)) new_header ∙ other

      same : (i : ℕ) → i < length files → is_wanted (OfHost x) (header_number files i) ≡ has i
      same i less = ap (is_wanted (OfHost x)) (sym (kept_header i less))

      by_found : (found : Option ℕ) → IsOnlyOne (headers_in files) (OfHost x) found → IsHostBy files image hosts x found r
          → HasDone more image hosts x r
      by_found None none idle = record {
        found = None;
        only = subst (λ n. IsOnly has n None) (sym long)
            (none_more has (length files)
            (only_same (λ i. is_wanted (OfHost x) (header_number files i)) has (length files) None same none) not_here);
        done = idle;
      }
      by_found (Some k) only at = record {
        found = Some k;
        only = subst (λ n. IsOnly has n (Some k)) (sym long)
            (some_more has (length files) k
            (only_same (λ i. is_wanted (OfHost x) (header_number files i)) has (length files) (Some k) same only) not_here);
        done = host_stays k r only.0 at;
      }

      other_done : HasDone files image hosts x r → HasDone more image hosts x r
      other_done d = by_found d.found d.only d.done

    -- the host of the new journal
    own_done : (hosts : ℕ) (h : Header) (r : Recording) → header_at f.text ≡ Some h
        → ((i : ℕ) → i < length files → is_wanted (OfHost h.host) (header_number files i) ≡ false)
        → IsHostAt more image (length files) r → HasDone more image hosts h.host r
    own_done hosts h r header_is none at =
        let here : is_wanted (OfHost h.host) (header_number more (length files)) ≡ true =
        ap (is_wanted (OfHost h.host)) (new_header ∙ header_is) ∙ eq-eqb h.host h.host refl in
        record {
          found = Some (length files);
          only = subst (λ n. IsOnly (λ i. is_wanted (OfHost h.host) (header_number more i)) n (Some (length files))) (sym long)
              (first_found (λ i. is_wanted (OfHost h.host) (header_number more i)) (length files)
              (λ i less. ap (is_wanted (OfHost h.host)) (kept_header i less) ∙ none i less) here);
          done = at;
        }

-- ONE MORE JOURNAL

-- the texts of one more journal
pub one_text : (names : List (Bor (List ℕ))) (os : List Opened) (fs new : List JournalText) (name : Bor (List ℕ)) (o : Opened)
    (text : List ℕ) → AreTextsOf names os fs → IsTextOf o text → new ≡ fs ++ record { name = name.now; text = text } ∷ []
    → AreTextsOf (names ++ name ∷ []) (os ++ o ∷ []) new
one_text names os fs new name o text are is last =
    subst (AreTextsOf (names ++ name ∷ []) (os ++ o ∷ [])) (sym last)
    (texts_both names (name ∷ []) os (o ∷ []) fs (record { name = name.now; text = text } ∷ []) are (refl, is, tt))

-- so it is by the name with the next index
pub text_next : (names : List (Bor (List ℕ))) (os : List Opened) (fs new : List JournalText) (len : ℕ) (d : Bor (List ℕ)) (o : Opened)
    (text : List ℕ) → len ≡ length os → length os < length names → AreTextsOf (take (length os) names) os fs → IsTextOf o text
    → new ≡ fs ++ record { name = (get_or names len d).now; text = text } ∷ []
    → AreTextsOf (take (length (os ++ o ∷ [])) names) (os ++ o ∷ []) new
text_next names os fs new len d o text len_is less are is last =
    let n = length os in
    let taken : take (length (os ++ o ∷ [])) names ≡ take n names ++ get_or names len d ∷ [] =
    ap (λ k. take k names) (length-append os (o ∷ [])) ∙ take_more names n d less
    ∙ ap (λ k. take n names ++ get_or names k d ∷ []) (sym len_is) in
    subst (λ ns. AreTextsOf ns (os ++ o ∷ []) new) (sym taken)
    (one_text (take n names) os fs new (get_or names len d) o text are is last)

-- a host is put among others
pub put_at : {K : Type 0} (hosts : List K) (i : ℕ) (one : K) → IsPutAt i one hosts (slice_set hosts i one)
put_at {K} hosts i one = record { long = long_set hosts i; each = each_set hosts i } where
  long_set : (xs : List K) (i : ℕ) → length (slice_set xs i one) ≡ length xs
  long_set [] i = refl
  long_set (x ∷ xs) zero = refl
  long_set (x ∷ xs) (suc i) = ap suc (long_set xs i)

  each_set : (xs : List K) (i : ℕ) (x : ℕ) (kept : K) → slice_get (slice_set xs i one) x ≡ Some kept
      → ((x ≡ i) × (kept ≡ one)) ⊎ ((x ≢ i) × (slice_get xs x ≡ Some kept))
  each_set [] i x kept at = cc
  each_set (y ∷ ys) zero zero kept at = inl (refl, sym (same_Some one kept at))
  each_set (y ∷ ys) zero (suc x) kept at = inr (λ is. cc, at)
  each_set (y ∷ ys) (suc i) zero kept at = inr (λ is. cc, at)
  each_set (y ∷ ys) (suc i) (suc x) kept at = elim (each_set ys i x kept at) [
    | inl w ↦ inl (ap suc w.0, w.1)
    | inr w ↦ inr (λ is. w.0 (ap pred is), w.1)
  ]

-- it was kept, if the journal was
pub one_kept : {K E : Type 0} (r : Result Unit E) (recording : K → Recording) (name : List ℕ) (o : Opened) (image text : List ℕ)
    (old new : List JournalText) (hosts : List K) (host : ℕ) (one : K) (f : JournalText) → IsTextOf o text
    → f ≡ record { name = name; text = text } → IsHostOf o.header text image (recording one) → host ≡ o.header.host
    → OnOk r (new ≡ old ++ f ∷ [])
    → OnOk r (IsOneKept recording name o image old new hosts (slice_set hosts host one))
one_kept (Ok done) recording name o image text old new hosts host one f text_is f_is host_of host_is last = record {
  text = text;
  text_is = text_is;
  last = last ∙ ap (λ (x : JournalText). old ++ x ∷ []) f_is;
  one = one;
  host = host_of;
  put = subst (λ x. IsPutAt x one hosts (slice_set hosts host one)) host_is (put_at hosts host one);
}
one_kept (Err e) recording name o image text old new hosts host one f text_is f_is host_of host_is last = tt

-- a header among others is the one of its journal
header_kept : (os rest : List Opened) (i : ℕ) → i < length os → (headers_of (os ++ rest)).at i ≡ (headers_of os).at i
header_kept [] rest i less = absurd (omega (arith, less))
header_kept (o ∷ os) rest zero less = refl
header_kept (o ∷ os) rest (suc i) less = header_kept os rest i (omega (arith, less))

header_next : (os rest : List Opened) (o : Opened) → (headers_of (os ++ o ∷ rest)).at (length os) ≡ Some o.header
header_next [] rest o = refl
header_next (p ∷ os) rest o = header_next os rest o

-- these readers were read, this is the next, and others come after it
module _ (readers os rest : List Opened) (o : Opened) (split : os ++ o ∷ rest ≡ readers) where
  next_within : length os < length readers
  next_within = let size = ap length split in omega (arith, size, length-append os (o ∷ rest))

  at_next : (headers_of readers).at (length os) ≡ Some o.header
  at_next = ap (λ rs. (headers_of rs).at (length os)) (sym split) ∙ header_next os rest o

  at_before : (i : ℕ) → i < length os → (headers_of readers).at i ≡ (headers_of os).at i
  at_before i less = ap (λ rs. (headers_of rs).at i) (sym split) ∙ header_kept os (o ∷ rest) i less

  -- the host of a journal is one of the world's
  pub host_there : (hosts : ℕ) (opening : Header) → AreOfOneWorld (headers_of readers) hosts opening → o.header.host < hosts
  host_there hosts opening world =
      let told = world.headers (length os) next_within in
      subst (λ (h : Header). h.host < hosts) (same_Some told.header o.header (sym told.header_is ∙ at_next)) told.there

  module _ (names : List (Bor (List ℕ))) (files : List JournalText) (are : AreTextsOf names os files) where
    -- no journal before it is of the same host
    alone : AreOnce (headers_of readers) 8 → o.header.host < 8
        → (i : ℕ) → i < length files → is_wanted (OfHost o.header.host) (header_number files i) ≡ false
    alone once few i less = false_if (is_wanted (OfHost o.header.host) (header_number files i)) (λ here.
        (let only = once o.header.host few in
        let size = as_many names os files are in
        let below : i < length os = omega (arith, less, size) in
        let same = both_are (λ k. is_wanted (OfHost o.header.host) ((headers_of readers).at k)) (length readers) only.0
        i (length os) only.1 (let next = next_within in omega (arith, below, next)) next_within
        (ap (is_wanted (OfHost o.header.host)) (at_before i below ∙ sym (header_same names os files are i)) ∙ here)
        (ap (is_wanted (OfHost o.header.host)) at_next ∙ eq-eqb o.header.host o.header.host refl) in
        omega (arith, same, below)))

    other_of : (x : ℕ) → x ≢ o.header.host → (o.header.host == x) ≡ false
    other_of x apart = false_if (o.header.host == x) (λ is. apart (sym (eqb-true o.header.host x is)))

    -- its host did what it tells, and the others are as they were
    pub kept_more : {K : Type 0} (recording : K → Recording) (image : List ℕ) (name : List ℕ) (new : List JournalText)
        (hosts hosts' : List K) → AreOnce (headers_of readers) 8 → o.header.host < length hosts → length hosts ≤ 8
        → AreKept recording files image hosts → IsOneKept recording name o image files new hosts hosts'
        → AreKept recording new image hosts'
    kept_more {K} recording image name new hosts hosts' once there few each one x kept at =
        by_place (one.put.each x kept at) where
          f : JournalText
          f = record { name = name; text = one.text }

          at_new : IsHostAt (files ++ f ∷ []) image (length files) (recording one.one)
          at_new = record {
            header = o.header;
            file = f;
            header_is = new_header files f ∙ one.text_is.header_is;
            file_is = new_of files f [];
            host = one.host;
          }

          by_place : ((x ≡ o.header.host) × (kept ≡ one.one)) ⊎ ((x ≢ o.header.host) × (slice_get hosts x ≡ Some kept))
              → HasDone new image (length hosts') x (recording kept)
          by_place (inl (here, same)) =
              subst (λ fs. HasDone fs image (length hosts') x (recording kept)) (sym one.last)
              (subst (λ k. HasDone (files ++ f ∷ []) image (length hosts') x (recording k)) (sym same)
              (subst (λ y. HasDone (files ++ f ∷ []) image (length hosts') y (recording one.one)) (sym here)
              (own_done files f image (length hosts') o.header (recording one.one) one.text_is.header_is
              (alone once (omega (arith, there, few))) at_new)))
          by_place (inr (apart, before)) =
              subst (λ fs. HasDone fs image (length hosts') x (recording kept)) (sym one.last)
              (subst (λ n. HasDone (files ++ f ∷ []) image n x (recording kept)) (sym one.put.long)
              (other_done files f image (length hosts) x (recording kept)
              (ap (is_wanted (OfHost x)) one.text_is.header_is ∙ other_of x apart) (each x kept before)))

-- hosts that did nothing are those of no journals
pub none_kept : {K : Type 0} (recording : K → Recording) (image : List ℕ) (files : List JournalText) (hosts : List K)
    → files ≡ [] → AreIdle recording hosts → AreKept recording files image hosts
none_kept {K} recording image files hosts none idle x kept at =
    subst (λ fs. HasDone fs image (length hosts) x (recording kept)) (sym none) (record {
      found = None;
      only = λ i less. absurd (omega (arith, less));
      done = idle x kept at;
    })

-- names, of which some come first, and one more
names_split : (names : List (Bor (List ℕ))) (n k : ℕ) → length names ≡ n + suc k
    → (m : Bor (List ℕ)) × (ms : List (Bor (List ℕ))) × (names ≡ take n names ++ m ∷ ms) × (length ms ≡ k)
names_split [] n k long = absurd (omega (arith, long))
names_split (m ∷ ms) zero k long = (m, ms, refl, omega (arith, long))
names_split (m ∷ ms) (suc n) k long =
    let rest = names_split ms n k (omega (arith, long)) in
    (rest.0, rest.1, ap (λ l. m ∷ l) rest.2, rest.3)

have_next : (os rest : List Opened) (o : Opened) → AllHaveTexts (os ++ o ∷ rest) → HasText o × AllHaveTexts rest
have_next [] rest o have = have
have_next (p ∷ os) rest o have = have_next os rest o have.1

-- the host of the next journal did not do what it tells
pub kept_fault : (names : List (Bor (List ℕ))) (readers os rest : List Opened) (o : Opened) (files : List JournalText)
    (capacity : ℕ) (image : List ℕ) (why : JournalsFault) → os ++ o ∷ rest ≡ readers → length names ≡ length readers
    → AllHaveTexts readers → AreTextsOf (take (length os) names) os files
    → IsKeptFault capacity (length files) o image why
    → (all : List JournalText) × AreTextsOf names readers all × IsJournalsFault capacity all image why
kept_fault names readers os rest o files capacity image fault.OutOfMemory split long have are bad =
    let any = all_texts names readers long have in (any.0, any.1, tt)
kept_fault names readers os rest o files capacity image fault.NoGuest split long have are bad = absurd bad
kept_fault names readers os rest o files capacity image (fault.File i f) split long have are (i_is, (text, text_is, bad)) =
    let size = ap length split in
    let parts = names_split names (length os) (length rest) (omega (arith, long, size, length-append os (o ∷ rest))) in
    let behind = all_texts parts.1 rest parts.3 (have_next os rest o (subst AllHaveTexts (sym split) have)).1 in
    let one : JournalText = record { name = parts.0.now; text = text } in
    let all = files ++ one ∷ behind.0 in
    let texts : AreTextsOf names readers all =
    subst (λ rs. AreTextsOf names rs all) split
    (subst (λ ns. AreTextsOf ns (os ++ o ∷ rest) all) (sym parts.2)
    (texts_both (take (length os) names) (parts.0 ∷ parts.1) os (o ∷ rest) files (one ∷ behind.0) are
    (refl, text_is, behind.1))) in
    let at : slice_get all i ≡ Some one = ap (slice_get all) i_is ∙ new_of files one behind.0 in (
      all,
      texts,
      inr (inr (inl (record {
        header = o.header;
        file = one;
        header_is = ap (option_and_then (λ (g : JournalText). header_at g.text)) at ∙ text_is.header_is;
        file_is = at;
        refused = bad;
      }))),
    )

-- a world whose hosts did what their journals tell
pub of_world : (names : List (Bor (List ℕ))) (opened : List Opened) (files : List JournalText) (hosts : ℕ) (opening : Header)
    → AreTextsOf names opened files → AreOfOneWorld (headers_of opened) hosts opening → HaveMet files (length files) opening.world
    → AreOfWorld files hosts
of_world names opened files hosts opening are world met = record {
  opening = opening;
  one_world = subst (λ hs. AreOfOneWorld hs hosts opening) (sym (headers_same names opened files are)) world;
  met = met;
}
