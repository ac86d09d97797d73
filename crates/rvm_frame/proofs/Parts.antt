-- The bytes of a frame that has its header, in two parts.
use Rattle.std.proofs.Common.{◌≡◌, ℕ, suc, ◌+◌, ◌<◌, ◌≤◌, Bool, true, false, cond, eqb, ltb, ◌-◌, ◌^◌, drop, append-nil, List, [], ◌∷◌, ◌++◌, length, take, Option, Some, None, Ok, Err, refl, sym, ap, subst, ◌∙◌, arith, length-append, length-take, append_assoc, inl, inr}
use Rattle.std.specs.Prelude.{is_some, option_map}
use Rattle.std.proofs.lemmas.Bool.{cases_lt, eqb-true, le-ltb}
use Rattle.std.proofs.lemmas.List.{take_at, drop_at}
use Rattle.rvm_codec.specs.Numbers.{number_at, within}
use Rattle.rvm_codec.specs.Codec.{◌>>=◌, bytes_at}
use Rattle.rvm_codec.proofs.Numbers.{number_len, number_more, number_none}
use Rattle.rvm_frame.specs.declared.frame.Frame.TheVariants as frames
use Rattle.rvm_frame.specs.declared.kind.Kind.{Kind}
use Rattle.rvm_frame.specs.declared.kind.Kind.TheVariants as kinds
use Rattle.rvm_frame.specs.declared.fault.ReadFault.{ReadFault}
use Rattle.rvm_frame.specs.declared.fault.ReadFault.TheVariants.{OutOfMemory, BadFrame, TooLong}
use Rattle.rvm_frame.specs.Kinds.{header_len, kind_at, may_have, names_hosts, stands}
use Rattle.rvm_frame.specs.Bodies.{contents}
use Rattle.rvm_frame.specs.Faults.{Finds}
use Rattle.rvm_frame.specs.Grammar.{Received}
use Rattle.rvm_frame.specs.Reader.{Refuses}
use Rattle.rvm_frame.specs.Verdict.{Decides, Header, Verdict, header_at, verdict, wanted, wanted_after, whole, with_hosts}
use Rattle.rvm_frame.specs.Unfinished.{Goes, frame_behind, frame_of, front_of}
use Rattle.rvm_frame.proofs.Headers.{header_is, header_none, header_at_least}
use Rattle.rvm_frame.proofs.Verdicts.{Waits, waits_is, at_kind_is, not_yet, wants_more, stood_is}

-- ---- up to the next check

-- n bytes of the piece are taken, to the next check at most, and with them the answer is this
record Step (v : Option ℕ) (before piece : List ℕ) (n : ℕ) (answer : Verdict) : Type 0 where
  some : 0 < n
  within_piece : n ≤ length piece
  within_check : length before + n ≤ wanted (names_hosts v) before
  is : verdict v (before ++ take n piece) ≡ answer

not_before : (v : Option ℕ) (before piece : List ℕ) (n : ℕ) → verdict v before ≡ Ok None → length before + n ≤ wanted (names_hosts v) before → (k : ℕ) → k < n → verdict v (before ++ take k piece) ≡ Ok None
not_before v before piece n w check k lt =
    not_yet v before (take k piece) w (omega (arith, check, lt, length-append before (take k piece), length-take k piece))

step_goes : (v : Option ℕ) (before piece : List ℕ) (n : ℕ) → verdict v before ≡ Ok None → Step v before piece n (Ok None) → Goes v before piece n
step_goes v before piece n w s = record {
  some = s.some;
  within_piece = s.within_piece;
  undecided = λ k le. elim (cases_lt k n) [
    | inl lt ↦ not_before v before piece n w s.within_check k lt
    | inr ge ↦
        let same : k ≡ n = omega (arith, ge, le) in
        rw same s.is
  ];
}

step_decides : (v : Option ℕ) (before piece : List ℕ) (n : ℕ) (answer : Verdict) → verdict v before ≡ Ok None → (answer ≡ Ok None → ⊥) → Step v before piece n answer → Decides v before piece n answer
step_decides v before piece n answer w other s = record {
  within_piece = s.within_piece;
  undecided = not_before v before piece n w s.within_check;
  decided = s.is;
  all_taken = λ a. absurd (other a);
}

whole_decided : (o : Option Received) → whole o ≡ Ok None → ⊥
whole_decided None h = cc
whole_decided (Some x) h = cc

-- what a whole body is, and the verdict on it
pub some_given : (v : Option ℕ) (before piece : List ℕ) (n : ℕ) (o : Option Received) (x : Received) → o ≡ Some x → Decides v before piece n (whole o) → Decides v before piece n (Ok (Some x))
some_given v before piece n o x e d = subst (λ (y : Option Received). Decides v before piece n (whole y)) e d

pub none_refused : (v : Option ℕ) (before piece : List ℕ) (n : ℕ) (o : Option Received) → is_some o ≡ false → Decides v before piece n (whole o) → Refuses v before piece BadFrame
none_refused v before piece n None e d = (n, d)
none_refused v before piece n (Some x) e d = absurd cc

pub some_lacks : (v : Option ℕ) (before piece : List ℕ) (n : ℕ) (o : Option Received) → is_some o ≡ true → Decides v before piece n (whole o) → Refuses v before piece OutOfMemory
some_lacks v before piece n None e d = absurd cc
some_lacks v before piece n (Some x) e d = (n, Some x, d)

-- ---- a header, step by step

fault_found : (v : Option ℕ) (before piece : List ℕ) (n : ℕ) (fault : ReadFault) (answer : Verdict) → verdict v before ≡ Ok None → Finds (Err fault) answer → Step v before piece n answer → Refuses v before piece fault
fault_found v before piece n OutOfMemory (Ok None) w h s = absurd cc
fault_found v before piece n OutOfMemory (Ok (Some x)) w h s = (n, Some x, step_decides v before piece n (Ok (Some x)) w (λ e. cc) s)
fault_found v before piece n OutOfMemory (Err e) w h s = absurd cc
fault_found v before piece n BadFrame answer w h s = (n, step_decides v before piece n (Err BadFrame) w (λ e. cc) (subst (λ (a : Verdict). Step v before piece n a) h s))
fault_found v before piece n TooLong answer w h s = (n, step_decides v before piece n (Err TooLong) w (λ e. cc) (subst (λ (a : Verdict). Step v before piece n a) h s))

-- what a judge finds of the head with bytes of the piece, up to the limit of that step
pub record Judged (v : Option ℕ) (head piece seen : List ℕ) (n : ℕ) : Type 0 where
  pub waits : verdict v head ≡ Ok None
  pub some : 0 < n
  pub within_piece : n ≤ length piece
  pub within_check : length head + n ≤ wanted (names_hosts v) head
  pub seen_is : seen ≡ head ++ take n piece

judged_step : (v : Option ℕ) (head piece seen : List ℕ) (n : ℕ) → Judged v head piece seen n → Step v head piece n (verdict v seen)
judged_step v head piece seen n j = record { some = j.some; within_piece = j.within_piece; within_check = j.within_check; is = ap (verdict v) (sym j.seen_is) }

pub judged_open : (v : Option ℕ) (head piece seen : List ℕ) (n : ℕ) → Judged v head piece seen n → verdict v seen ≡ Ok None → Goes v head piece n
judged_open v head piece seen n j e = step_goes v head piece n j.waits (subst (λ (a : Verdict). Step v head piece n a) e (judged_step v head piece seen n j))

pub judged_frame : (v : Option ℕ) (head piece seen : List ℕ) (n : ℕ) (x : Received) → Judged v head piece seen n → verdict v seen ≡ Ok (Some x) → Decides v head piece n (Ok (Some x))
judged_frame v head piece seen n x j e = step_decides v head piece n (Ok (Some x)) j.waits (λ a. cc) (subst (λ (a : Verdict). Step v head piece n a) e (judged_step v head piece seen n j))

pub judged_fault : (v : Option ℕ) (head piece seen : List ℕ) (n : ℕ) (fault : ReadFault) → Judged v head piece seen n → Finds (Err fault) (verdict v seen) → Refuses v head piece fault
judged_fault v head piece seen n fault j h = fault_found v head piece n fault (verdict v seen) j.waits h (judged_step v head piece seen n j)

-- a head that is not empty is checked with its header's last byte
short_head : (named : Bool) (b : ℕ) (bytes : List ℕ) (o : Option Header) → suc (length bytes) < header_len named → header_at named bytes ≡ o → wanted_after named o ≡ header_len named
short_head named b bytes None lt e = refl
short_head named b bytes (Some h) lt e = absurd (omega (arith, lt, (header_is named bytes h e).len))

pub head_wanted : (named : Bool) (head : List ℕ) → 0 < length head → length head < header_len named → wanted named head ≡ header_len named
head_wanted named [] some lt = absurd (omega (arith, some))
head_wanted named (b ∷ bytes) some lt = short_head named b bytes (header_at named bytes) lt refl

-- ---- after the header

-- a beginning that has its header: what the header says, and what waits
record Parts (v : Option ℕ) (b : ℕ) (bytes : List ℕ) : Type 0 where
  k : Kind
  h : Header
  named : kind_at b ≡ Some k
  may : stands v k ≡ true
  header : header_at (names_hosts v) bytes ≡ Some h
  waits : (more : List ℕ) → verdict v ((b ∷ bytes) ++ more) ≡ Ok None → Waits v k h.0 h.1 h.2 (h.3 ++ more)

waits_there : (v : Option ℕ) (b : ℕ) (bytes more : List ℕ) (k : Kind) (h : Header) → kind_at b ≡ Some k → stands v k ≡ true → header_at (names_hosts v) bytes ≡ Some h → verdict v ((b ∷ bytes) ++ more) ≡ Ok None → Waits v k h.0 h.1 h.2 (h.3 ++ more)
waits_there v b bytes more k h named may e w =
    waits_is v k h.0 h.1 h.2 (h.3 ++ more) (sym (at_kind_is v (kind_at b) k (bytes ++ more) (Some (h.0, h.1, h.2, h.3 ++ more)) named may ((header_is (names_hosts v) bytes h e).more more)) ∙ w)

parts_at : (v : Option ℕ) (b : ℕ) (bytes : List ℕ) (o : Option Header) (k : Kind) → header_len (names_hosts v) ≤ suc (length bytes) → kind_at b ≡ Some k → stands v k ≡ true → header_at (names_hosts v) bytes ≡ o → Parts v b bytes
parts_at v b bytes None k long named may e = let lt = header_none (names_hosts v) bytes e in absurd (omega (arith, long, lt))
parts_at v b bytes (Some h) k long named may e = record {
  k = k;
  h = h;
  named = named;
  may = may;
  header = e;
  waits = λ more w. waits_there v b bytes more k h named may e w;
}

parts_are : (v : Option ℕ) (b : ℕ) (bytes more : List ℕ) → header_len (names_hosts v) ≤ suc (length bytes) → verdict v ((b ∷ bytes) ++ more) ≡ Ok None → Parts v b bytes
parts_are v b bytes more long w =
    let s = stood_is v (kind_at b) (bytes ++ more) None w in
    parts_at v b bytes (header_at (names_hosts v) bytes) s.k long s.named s.may refl

no_header : (named : Bool) → header_len named ≤ 0 → ⊥
no_header named le = omega (arith, le, header_at_least named)

wanted_cases : (named : Bool) (b : ℕ) (bytes more : List ℕ) (o : Option Header) → header_len named ≤ suc (length bytes) → header_at named bytes ≡ o → wanted named ((b ∷ bytes) ++ more) ≡ wanted named (b ∷ bytes)
wanted_cases named b bytes more None long e = let lt = header_none named bytes e in absurd (omega (arith, long, lt))
wanted_cases named b bytes more (Some h) long e = rw (e, (header_is named bytes h e).more more) refl

-- the next check is at the body's last byte, however much of the body is there
wanted_is : (named : Bool) (head more : List ℕ) → header_len named ≤ length head → wanted named (head ++ more) ≡ wanted named head
wanted_is named [] more long = absurd (no_header named long)
wanted_is named (b ∷ bytes) more long = wanted_cases named b bytes more (header_at named bytes) long refl

-- with the body's last byte it is what its contents are
whole_at : (v : Option ℕ) (head more all : List ℕ) → header_len (names_hosts v) ≤ length head → verdict v (head ++ more) ≡ Ok None → length (head ++ all) ≡ wanted (names_hosts v) head → verdict v (head ++ all) ≡ whole (frame_of (names_hosts v) head all)
unfolding frame_of
whole_at v [] more all long w e = absurd (no_header (names_hosts v) long)
whole_at v (b ∷ bytes) more all long w e =
    let p = parts_are v b bytes more long w in
    let t = p.waits more w in
    let d = header_is (names_hosts v) bytes p.h p.header in
    let want : wanted (names_hosts v) (b ∷ bytes) ≡ header_len (names_hosts v) + p.h.2 = rw p.header refl in
    let len : length (p.h.3 ++ all) ≡ p.h.2 = omega (arith, want, e, d.len, length-append bytes all, length-append p.h.3 all) in
    at_kind_is v (kind_at b) p.k (bytes ++ all) (Some (p.h.0, p.h.1, p.h.2, p.h.3 ++ all)) p.named p.may (d.more all)
    ∙ t.whole_is (p.h.3 ++ all) len
    ∙ (rw (p.named, p.header) refl)

-- ---- a Page

empty_is : (xs : List ℕ) → length xs ≡ 0 → xs ≡ []
empty_is [] e = refl
empty_is (x ∷ xs) e = absurd (omega (arith, e))

raw_all : (part : List ℕ) → length part ≡ 4096 → bytes_at 4096 part ≡ Some (part, [])
raw_all part len =
    let a : ltb (length part) 4096 ≡ false = le-ltb _ _ (omega (arith, len)) in
    let t : take 4096 part ≡ part = ap (take 4096) (sym (append-nil part)) ∙ take_at part [] 4096 len in
    let d : drop 4096 part ≡ [] = ap (drop 4096) (sym (append-nil part)) ∙ drop_at part [] 4096 len in
    rw (a, t, d) refl

-- the steps of the reader of a Page's body
abbrev paired : {A B : Type 0} → A → Option (B × List ℕ) → Option ((A × B) × List ℕ)
paired x o = o >>= λ y. Some ((x, y.0), y.1)

abbrev no_rest : {A : Type 0} → Option (A × List ℕ) → Option A
no_rest o = o >>= λ x. cond (eqb (length x.1) 0) (Some x.0) None

abbrev copy_number : List ℕ → Option (ℕ × List ℕ)
copy_number bytes = number_at 4 bytes >>= λ n. cond (within 1 (2 ^ 32 - 1) n.0) (Some n) None

abbrev with_bytes : Option (ℕ × List ℕ) → Option ((ℕ × List ℕ) × List ℕ)
with_bytes o = o >>= λ y. paired y.0 (bytes_at 4096 y.1)

abbrev as_page : Option (ℕ × ℕ) → ℕ → Option (ℕ × (ℕ × List ℕ)) → Option Received
as_page hosts m o = with_hosts hosts (option_map (λ x. frames.Page m x.0 x.1.0 x.1.1) o)

abbrev as_front : Option (ℕ × ℕ) → ℕ → Option ((ℕ × ℕ) × List ℕ) → Option (Option (ℕ × ℕ) × ℕ × ℕ × ℕ)
as_front hosts m o = o >>= λ x. Some (hosts, m, x.0.0, x.0.1)

abbrev front_page : List ℕ → Option (Option (ℕ × ℕ) × ℕ × ℕ × ℕ) → Option Received
front_page part o = option_map (λ y. (y.0, frames.Page y.1 y.2 y.3 part)) o

abbrev page_tail : Option (ℕ × ℕ) → ℕ → ℕ → Option (ℕ × List ℕ) → Option Received
page_tail hosts m p o = as_page hosts m (no_rest (paired p (with_bytes o)))

abbrev front_tail : Option (ℕ × ℕ) → ℕ → ℕ → List ℕ → Option (ℕ × List ℕ) → Option Received
front_tail hosts m p part o = front_page part (as_front hosts m (paired p o))

page_copy : (hosts : Option (ℕ × ℕ)) (u : Bool) (m p c : ℕ) (part : List ℕ) → length part ≡ 4096 → page_tail hosts m p (cond u (Some (c, part)) None) ≡ front_tail hosts m p part (cond u (Some (c, [])) None)
page_copy hosts true m p c part len = rw (raw_all part len) refl
page_copy hosts false m p c part len = refl

abbrev page_numbers : Option (ℕ × ℕ) → ℕ → Option (ℕ × List ℕ) → Option Received
page_numbers hosts m o = as_page hosts m (no_rest (o >>= λ x. paired x.0 (with_bytes (copy_number x.1))))

abbrev front_numbers : Option (ℕ × ℕ) → ℕ → List ℕ → Option (ℕ × List ℕ) → Option Received
front_numbers hosts m part o = front_page part (as_front hosts m (o >>= λ x. paired x.0 (copy_number x.1)))

page_second : (hosts : Option (ℕ × ℕ)) (t : Bool) (m p : ℕ) (rest part : List ℕ) (o : Option (ℕ × List ℕ)) → number_at 4 rest ≡ o → length rest ≡ 4 → length part ≡ 4096 → page_numbers hosts m (cond t (Some (p, rest ++ part)) None) ≡ front_numbers hosts m part (cond t (Some (p, rest)) None)
page_second hosts false m p rest part o e lr lp = refl
page_second hosts true m p rest part None e lr lp = let lt = number_none 4 rest e in absurd (omega (arith, lt, lr))
page_second hosts true m p rest part (Some c) e lr lp =
    let none : c.1 ≡ [] = empty_is c.1 (omega (arith, lr, number_len 4 rest c.0 c.1 e)) in
    let here : number_at 4 rest ≡ Some (c.0, []) = e ∙ ap (λ (x : List ℕ). Some (c.0, x)) none in
    let there : number_at 4 (rest ++ part) ≡ Some (c.0, part) = number_more 4 rest part c.0 [] here in
    rw (here, there) (page_copy hosts (within 1 (2 ^ 32 - 1) c.0) m p c.0 part lp)

page_first : (hosts : Option (ℕ × ℕ)) (m : ℕ) (front part : List ℕ) (o : Option (ℕ × List ℕ)) → number_at 2 front ≡ o → length front ≡ 6 → length part ≡ 4096 → page_numbers hosts m (number_at 2 (front ++ part) >>= λ n. cond (within 0 4095 n.0) (Some n) None) ≡ front_numbers hosts m part (number_at 2 front >>= λ n. cond (within 0 4095 n.0) (Some n) None)
page_first hosts m front part None e lf lp = let lt = number_none 2 front e in absurd (omega (arith, lt, lf))
page_first hosts m front part (Some p) e lf lp =
    let there : number_at 2 (front ++ part) ≡ Some (p.0, p.1 ++ part) = number_more 2 front part p.0 p.1 e in
    rw (e, there) (page_second hosts (within 0 4095 p.0) m p.0 p.1 part (number_at 4 p.1) refl (omega (arith, lf, number_len 2 front p.0 p.1 e)) lp)

page_made : (named : Bool) (bytes part : List ℕ) (o : Option Header) → header_at named bytes ≡ o → suc (length bytes) ≡ header_len named + 6 → length part ≡ 4096 → frame_of named (4 ∷ bytes) part ≡ option_map (λ y. (y.0, frames.Page y.1 y.2 y.3 part)) (front_of named (4 ∷ bytes))
unfolding frame_of front_of
page_made named bytes part None e lb lp = let lt = header_none named bytes e in absurd (omega (arith, lt, lb))
page_made named bytes part (Some h) e lb lp =
    let d = header_is named bytes h e in
    rw e (page_first h.0 h.1 h.3 part (number_at 2 h.3) refl (omega (arith, lb, d.len)) lp)

-- the frame of the whole of a Page is made of the numbers in its head and the bytes of the page
page_is : (named : Bool) (head part : List ℕ) → take 1 head ≡ 4 ∷ [] → length head ≡ header_len named + 6 → length part ≡ 4096 → frame_of named head part ≡ option_map (λ y. (y.0, frames.Page y.1 y.2 y.3 part)) (front_of named head)
page_is named [] part four len lp = absurd (omega (arith, len))
page_is named (b ∷ bytes) part four len lp =
    let is : b ≡ 4 = cc in
    rw is (page_made named bytes part (header_at named bytes) refl len lp)

page_len : (n : ℕ) → may_have kinds.Page n ≡ true → n ≡ 4102
page_len n h = eqb-true _ _ h

page_kind : (k : Kind) → ◌≡◌ {A = Option Kind} (Some kinds.Page) (Some k) → kinds.Page ≡ k
page_kind k e = cc

-- a Page ends 4102 bytes after its header
page_wanted : (v : Option ℕ) (head more : List ℕ) → take 1 head ≡ 4 ∷ [] → header_len (names_hosts v) ≤ length head → verdict v (head ++ more) ≡ Ok None → wanted (names_hosts v) head ≡ header_len (names_hosts v) + 4102
page_wanted v [] more four long w = absurd (no_header (names_hosts v) long)
page_wanted v (b ∷ bytes) more four long w =
    let p = parts_are v b bytes more long w in
    let t = p.waits more w in
    let is : 4 ≡ b = cc in
    let kind : kinds.Page ≡ p.k = page_kind p.k (ap kind_at is ∙ p.named) in
    let n : p.h.2 ≡ 4102 = page_len p.h.2 (subst (λ (x : Kind). may_have x p.h.2 ≡ true) (sym kind) t.has) in
    let want : wanted (names_hosts v) (b ∷ bytes) ≡ header_len (names_hosts v) + p.h.2 = rw p.header refl in
    omega (arith, want, n)

-- bytes before the next check's last one decide nothing
step_less : (v : Option ℕ) (before piece : List ℕ) (n : ℕ) → verdict v before ≡ Ok None → 0 < n → n ≤ length piece → length before + n < wanted (names_hosts v) before → Goes v before piece n
step_less v before piece n w some le lt = step_goes v before piece n w (record {
  some = some;
  within_piece = le;
  within_check = omega (arith, lt);
  is = not_yet v before (take n piece) w (omega (arith, lt, length-append before (take n piece), length-take n piece));
})

pub page_less : (v : Option ℕ) (head part piece : List ℕ) (n : ℕ) → take 1 head ≡ 4 ∷ [] → header_len (names_hosts v) ≤ length head → 0 < n → n ≤ length piece → length head + (length part + n) < header_len (names_hosts v) + 4102 → verdict v (head ++ part) ≡ Ok None → Goes v (head ++ part) piece n
page_less v head part piece n four long some le lt w =
    let i = wanted_is (names_hosts v) head part long in
    let x = page_wanted v head part four long w in
    step_less v (head ++ part) piece n w some le (omega (arith, i, x, lt, length-append head part))

pub taken_len : (body piece all : List ℕ) (n : ℕ) → all ≡ body ++ take n piece → n ≤ length piece → length all ≡ length body + n
taken_len body piece all n is le = ap (λ (x : List ℕ). length x) is ∙ length-append body (take n piece) ∙ omega (arith, le, length-take n piece)

pub page_short : (v : Option ℕ) (head part piece all : List ℕ) (n : ℕ) → take 1 head ≡ 4 ∷ [] → header_len (names_hosts v) ≤ length head → length head ≤ header_len (names_hosts v) + 6 → all ≡ part ++ take n piece → length all < 4096 → 0 < n → n ≤ length piece → verdict v (head ++ part) ≡ Ok None → Goes v (head ++ part) piece n
page_short v head part piece all n four long short is lt some le w =
    let l = taken_len part piece all n is le in
    page_less v head part piece n four long some le (omega (arith, l, lt, short)) w

-- the last byte of a body decides
step_whole : (v : Option ℕ) (head part piece all : List ℕ) (n : ℕ) → header_len (names_hosts v) ≤ length head → all ≡ part ++ take n piece → length head + length all ≡ wanted (names_hosts v) head → 0 < n → n ≤ length piece → verdict v (head ++ part) ≡ Ok None → Decides v (head ++ part) piece n (whole (frame_of (names_hosts v) head all))
step_whole v head part piece all n long is len some le w =
    let i = wanted_is (names_hosts v) head part long in
    let l = taken_len part piece all n is le in
    step_decides v (head ++ part) piece n (whole (frame_of (names_hosts v) head all)) w (whole_decided (frame_of (names_hosts v) head all)) (record {
      some = some;
      within_piece = le;
      within_check = omega (arith, i, l, len, length-append head part);
      is = ap (verdict v) (append_assoc head part (take n piece) ∙ ap (λ (x : List ℕ). head ++ x) (sym is)) ∙ whole_at v head part all long w (omega (arith, len, length-append head all));
    })

pub page_whole : (v : Option ℕ) (head part piece all : List ℕ) (seen : List ℕ) (n : ℕ) (o : Option Received) → seen ≡ head → take 1 head ≡ 4 ∷ [] → length head ≡ header_len (names_hosts v) + 6 → all ≡ part ++ take n piece → length all ≡ 4096 → 0 < n → n ≤ length piece → o ≡ option_map (λ y. (y.0, frames.Page y.1 y.2 y.3 all)) (front_of (names_hosts v) seen) → verdict v (head ++ part) ≡ Ok None → Decides v (head ++ part) piece n (whole o)
page_whole v head part piece all seen n o es four hl is len some le eo w =
    let x = page_wanted v head part four (omega (arith, hl)) w in
    let same : frame_of (names_hosts v) head all ≡ o = page_is (names_hosts v) head all four hl len ∙ ap (λ (y : List ℕ). option_map (λ z. (z.0, frames.Page z.1 z.2 z.3 all)) (front_of (names_hosts v) y)) (sym es) ∙ sym eo in
    subst (λ (y : Option Received). Decides v (head ++ part) piece n (whole y)) same (step_whole v head part piece all n (omega (arith, hl)) is (omega (arith, hl, len, x)) some le w)

-- ---- another body

behind_header : (named : Bool) (bytes : List ℕ) (h : Header) → header_at named bytes ≡ Some h → suc (length bytes) ≡ header_len named → h.3 ≡ []
behind_header named bytes h e len = let d = header_is named bytes h e in empty_is h.3 (omega (arith, len, d.len))

header_made : (named : Bool) (k : Kind) (bytes body : List ℕ) (o : Option Header) → header_at named bytes ≡ o → suc (length bytes) ≡ header_len named → (o >>= λ h. with_hosts h.0 (contents k h.1 (h.3 ++ body))) ≡ (o >>= λ h. with_hosts h.0 (contents k h.1 body))
header_made named k bytes body None e len = refl
header_made named k bytes body (Some h) e len = rw (behind_header named bytes h e len) refl

kind_made : (named : Bool) (o : Option Kind) (bytes body : List ℕ) → suc (length bytes) ≡ header_len named → (o >>= λ k. header_at named bytes >>= λ h. with_hosts h.0 (contents k h.1 (h.3 ++ body))) ≡ (o >>= λ k. header_at named bytes >>= λ h. with_hosts h.0 (contents k h.1 body))
kind_made named None bytes body len = refl
kind_made named (Some k) bytes body len = header_made named k bytes body (header_at named bytes) refl len

-- a head that is the header has nothing of the body
behind_is : (named : Bool) (head body : List ℕ) → length head ≡ header_len named → frame_of named head body ≡ frame_behind named head body
unfolding frame_of frame_behind
behind_is named [] body len = refl
behind_is named (b ∷ bytes) body len = kind_made named (kind_at b) bytes body len

-- the last byte of a body after the header decides
pub body_whole : (v : Option ℕ) (head body piece all seen there : List ℕ) (n : ℕ) → seen ≡ head → there ≡ all → length head ≡ header_len (names_hosts v) → all ≡ body ++ take n piece → header_len (names_hosts v) + length all ≡ wanted (names_hosts v) head → 0 < n → n ≤ length piece → verdict v (head ++ body) ≡ Ok None → Decides v (head ++ body) piece n (whole (frame_behind (names_hosts v) seen there))
body_whole v head body piece all seen there n es et hl is len some le w =
    let same : frame_of (names_hosts v) head all ≡ frame_behind (names_hosts v) seen there = behind_is (names_hosts v) head all hl ∙ ap (λ (x : List ℕ). frame_behind (names_hosts v) x all) (sym es) ∙ ap (λ (x : List ℕ). frame_behind (names_hosts v) seen x) (sym et) in
    subst (λ (y : Option Received). Decides v (head ++ body) piece n (whole y)) same (step_whole v head body piece all n (omega (arith, hl)) is (omega (arith, hl, len)) some le w)

-- a body that is not whole
pub body_short : (v : Option ℕ) (head body piece all : List ℕ) (n want : ℕ) → length head ≡ header_len (names_hosts v) → want ≡ wanted (names_hosts v) head - header_len (names_hosts v) → all ≡ body ++ take n piece → length all < want → 0 < n → n ≤ length piece → verdict v (head ++ body) ≡ Ok None → Goes v (head ++ body) piece n
body_short v head body piece all n want hl ew is lt some le w =
    let l = taken_len body piece all n is le in
    let i = wanted_is (names_hosts v) head body (omega (arith, hl)) in
    step_less v (head ++ body) piece n w some le (omega (arith, i, l, lt, hl, ew, length-append head body))

-- how many bytes of the body are missing
pub body_lacks : (v : Option ℕ) (head body : List ℕ) → length head ≡ header_len (names_hosts v) → verdict v (head ++ body) ≡ Ok None → header_len (names_hosts v) + length body < wanted (names_hosts v) head
body_lacks v head body hl w =
    let i = wanted_is (names_hosts v) head body (omega (arith, hl)) in
    omega (arith, i, hl, wants_more v (head ++ body) w, length-append head body)

pub page_lacks : (v : Option ℕ) (head part : List ℕ) → (header_len (names_hosts v) ≤ length head) × (length head ≤ header_len (names_hosts v) + 6) × (0 < length part → length head ≡ header_len (names_hosts v) + 6) × (take 1 head ≡ 4 ∷ []) × (length part ≤ 4096) → verdict v (head ++ part) ≡ Ok None → length part < 4096
page_lacks v head part k w =
    elim (cases_lt 4095 (length part)) [
      | inr small ↦ omega (arith, small)
      | inl full ↦
          let hl = k.2 (omega (arith, full)) in
          let x = page_wanted v head part k.3 k.0 w in
          let i = wanted_is (names_hosts v) head part k.0 in
          let most = k.4 in
          absurd (omega (arith, most, x, i, hl, full, wants_more v (head ++ part) w, length-append head part))
    ]

-- ---- a header whose body got no memory

at_header_end : (v : Option ℕ) (head : List ℕ) → verdict v head ≡ Ok None → verdict v (head ++ []) ≡ Ok None
at_header_end v head w = ap (verdict v) (append-nil head) ∙ w

-- a piece that ends inside the body
pub short_lacks : (v : Option ℕ) (head piece : List ℕ) (want : ℕ) → length head ≡ header_len (names_hosts v) → verdict v head ≡ Ok None → want ≡ wanted (names_hosts v) head - header_len (names_hosts v) → length piece < want → Refuses v head piece OutOfMemory
short_lacks v head piece want hl w ew lt =
    let less : (k : ℕ) → k ≤ length piece → verdict v (head ++ take k piece) ≡ Ok None = λ k le. not_yet v head (take k piece) w (omega (arith, ew, lt, le, hl, length-append head (take k piece), length-take k piece)) in (
      length piece,
      None,
      record {
        within_piece = omega arith;
        undecided = λ k lt. less k (omega (arith, lt));
        decided = less (length piece) (omega arith);
        all_taken = λ _. refl;
      },
    )

-- a piece that has all of the body
pub body_there : (v : Option ℕ) (head piece seen body : List ℕ) (want : ℕ) → length head ≡ header_len (names_hosts v) → verdict v head ≡ Ok None → want ≡ wanted (names_hosts v) head - header_len (names_hosts v) → want ≤ length piece → seen ≡ head → body ≡ take want piece → Decides v head piece want (whole (frame_behind (names_hosts v) seen body))
body_there v head piece seen body want hl w ew le es eb =
    let more = wants_more v head w in
    let d = body_whole v head [] piece (take want piece) seen body want es eb hl refl (omega (arith, ew, more, hl, le, length-take want piece)) (omega (arith, ew, more, hl)) le (at_header_end v head w) in
    subst (λ (b : List ℕ). Decides v b piece want (whole (frame_behind (names_hosts v) seen body))) (append-nil head) d
