-- A line is added to the file of a journal.
use Rattle.std.proofs.Common.{◌≡◌, ◌∙◌, ℕ, Bool, true, false, cond, List, [], ◌∷◌, ◌++◌, length, take, Option, Some, None, option_map, refl, sym, ap, subst, append_assoc, arith}
use Rattle.std.specs.Option.{option_and_then}
use Rattle.std.specs.Prelude.{codes}
use Rattle.std.specs.List.{list_all}
use Rattle.std.specs.Str.{bytes_eq}
use Rattle.std.proofs.lemmas.Bool.Decides.{nat_tests}
use Rattle.std.proofs.lemmas.List.{drop_at, take_at}
use Rattle.rvm_debug.specs.Words.{lines}
use Rattle.rvm_message.specs.declared.event.HostEvent.{HostEvent}
use Rattle.rvm_journal.specs.declared.noted.Noted.{Noted}
use Rattle.rvm_journal.specs.Noting.{events_of, noted_of}
use Rattle.rvm_journal.specs.Told.{Told, at_header, digest_after, digest_behind, header_told, mark, marked, no_digest, text_in, told_by, told_from, told_in, told_of}
use Rattle.rvm_journal.specs.Written.{IsFile, IsTelling, IsWritten, Puts, is_empty, is_no_feed, told_at, with_more}
use Rattle.rvm_station.specs.Logs.{IsEmpty}
use Rattle.rvm_journal.proofs.Lines.{alone, one_line}

some_told : (o : Option Told) → option_and_then (λ u. Some u) o ≡ o
some_told None = refl
some_told (Some t) = refl

module _ (n h : ℕ) where
  -- no line tells nothing more
  none : (t : Told) → told_from n h t [] ≡ Some t
  unfolding told_from
  none t = refl

  more : (t : Told) (l : List ℕ) (ls : List (List ℕ))
      → told_from n h t (l ∷ ls) ≡ option_and_then (λ u. told_from n h u ls) (told_by n h t l)
  unfolding told_from
  more t l ls = refl

  pub one_told : (o : Option Told) → option_and_then (λ u. told_from n h u []) o ≡ o
  one_told None = refl
  one_told (Some t) = none t

  behind_one : (o : Option Told) (l : List ℕ) (ls : List (List ℕ))
      → ((u : Told) → told_from n h u (ls ++ l ∷ []) ≡ option_and_then (λ v. told_by n h v l) (told_from n h u ls))
      → option_and_then (λ u. told_from n h u (ls ++ l ∷ [])) o
      ≡ option_and_then (λ v. told_by n h v l) (option_and_then (λ u. told_from n h u ls) o)
  behind_one None l ls rest = refl
  behind_one (Some u) l ls rest = rest u

  -- a line after others tells what it tells after them
  behind : (l : List ℕ) (ls : List (List ℕ)) (t : Told)
      → told_from n h t (ls ++ l ∷ []) ≡ option_and_then (λ u. told_by n h u l) (told_from n h t ls)
  behind l [] t = more t l [] ∙ one_told (told_by n h t l) ∙ ap (option_and_then (λ u. told_by n h u l)) (sym (none t))
  behind l (x ∷ ls) t =
      more t x (ls ++ l ∷ []) ∙ behind_one (told_by n h t x) l ls (behind l ls)
      ∙ ap (option_and_then (λ u. told_by n h u l)) (sym (more t x ls))

  -- the same of the lines of a journal, the first of which is the header's
  pub behind_header : (ls : List (List ℕ)) (l : List ℕ) (t : Told) → told_of n h ls ≡ Some t
      → told_of n h (ls ++ l ∷ []) ≡ told_by n h t l
  behind_header [] l t e = cc
  behind_header (first ∷ ls) l t e =
      behind_one (header_told first) l ls (behind l ls) ∙ ap (option_and_then (λ u. told_by n h u l)) e

  told_lines : (bytes : List ℕ) → told_in n h bytes ≡ told_of n h (lines bytes)
  unfolding told_in
  told_lines bytes = refl

-- what a line shows of its digest, and its text
shown : (m text : List ℕ) → length m ≡ 17 → take 17 (m ++ text) ≡ m
shown m text size = take_at m text 17 size

behind_mark : (m text : List ℕ) → length m ≡ 17 → text_in (m ++ text) ≡ text
behind_mark m text size = drop_at m text 17 size

same_bytes : (xs : List ℕ) → bytes_eq xs xs ≡ true
same_bytes [] = refl
same_bytes (x ∷ xs) = grind (arith, nat_tests, same_bytes xs)

module _ (n h : ℕ) (d text e : List ℕ) (size : length (mark e) ≡ 17)
    (digest : e ≡ digest_after d (text ++ codes "\n")) where
  -- the line of this text
  abbrev line : List ℕ
  line = mark e ++ text

  text_is : text_in line ≡ text
  text_is = behind_mark (mark e) text size

  digest_is : digest_behind d line ≡ e
  digest_is = ap (λ x. digest_after d (x ++ codes "\n")) text_is ∙ sym digest

  marked_is : marked d line ≡ Some text
  marked_is =
      ap (λ m. cond (bytes_eq m (mark (digest_behind d line))) (Some (text_in line)) None) (shown (mark e) text size)
      ∙ ap (λ x. cond (bytes_eq (mark e) (mark x)) (Some (text_in line)) None) digest_is
      ∙ ap (λ t. cond t (Some (text_in line)) None) (same_bytes (mark e))
      ∙ ap (λ x. Some x) text_is

  -- the line of a text tells what the text tells
  tells : (noted : Noted) (events : List HostEvent) → noted_of n h text ≡ Some noted
      → told_by n h (record { digest = d; events = events }) line
      ≡ Some (record { digest = e; events = events ++ events_of noted })
  tells noted events is =
      ap (λ m. option_map (λ x. record { digest = digest_behind d line; events = events ++ events_of x })
      (option_and_then (noted_of n h) m)) marked_is
      ∙ ap (option_map (λ x. record { digest = digest_behind d line; events = events ++ events_of x })) is
      ∙ ap (λ x. Some (record { digest = x; events = events ++ events_of noted })) digest_is

-- the bytes of a line after others
added_line : (bytes m text : List ℕ) → bytes ++ (m ++ (text ++ codes "\n")) ≡ bytes ++ ((m ++ text) ++ codes "\n")
added_line bytes m text = ap (λ l. bytes ++ l) (sym (append_assoc m text (codes "\n")))

module _ (bytes line : List ℕ) (one : list_all is_no_feed line ≡ true)
    (whole : (rest : List ℕ) → lines (bytes ++ rest) ≡ lines bytes ++ lines rest) where
  ends : lines (bytes ++ (line ++ codes "\n")) ≡ lines bytes ++ line ∷ []
  ends = whole (line ++ codes "\n") ∙ ap (λ l. lines bytes ++ l) (alone line one)

  whole_with : (rest : List ℕ)
      → lines ((bytes ++ (line ++ codes "\n")) ++ rest) ≡ lines (bytes ++ (line ++ codes "\n")) ++ lines rest
  whole_with rest =
      ap lines (append_assoc bytes (line ++ codes "\n") rest)
      ∙ ap (λ l. lines (bytes ++ l)) (append_assoc line (codes "\n") rest)
      ∙ whole (line ++ (codes "\n" ++ rest))
      ∙ ap (λ l. lines bytes ++ l) (one_line line rest one)
      ∙ sym (append_assoc (lines bytes) (line ∷ []) (lines rest))
      ∙ ap (λ l. l ++ lines rest) (sym ends)

-- a file with one line more
written : (n h : ℕ) (noted : Noted) (d text e bytes after : List ℕ) (events : List HostEvent)
    → noted_of n h text ≡ Some noted → IsWritten n h d bytes events → Puts d text e (Some bytes) (Some after)
    → IsWritten n h e after (events ++ events_of noted)
written n h noted d text e bytes after events is w p =
    let line = mark e ++ text in
    let marked : after ≡ bytes ++ (line ++ codes "\n") =
    p.added ∙ ap (λ x. bytes ++ (mark x ++ (text ++ codes "\n"))) (sym p.digest) ∙ added_line bytes (mark e) text in
    let told =
    told_lines n h (bytes ++ (line ++ codes "\n")) ∙ ap (told_of n h) (ends bytes line p.one w.whole)
    ∙ behind_header n h (lines bytes) line (record { digest = d; events = events }) (sym (told_lines n h bytes) ∙ w.told)
    ∙ tells n h d text e p.size p.digest noted events is in
    subst (λ b. IsWritten n h e b (events ++ events_of noted)) (sym marked)
    (record { whole = whole_with bytes line p.one w.whole; told = told })

-- the file after one more line
telling : (n h : ℕ) (noted : Noted) (d text e : List ℕ) (empty : Bool) (before after : Option (List ℕ))
    → noted_of n h text ≡ Some noted → IsTelling empty n h d before → Puts d text e before after
    → IsTelling empty n h e after
telling n h noted d text e false before after is f p = tt
telling n h noted d text e true None after is f p = absurd f
telling n h noted d text e true (Some bytes) None is f p = absurd p.added
telling n h noted d text e true (Some bytes) (Some ys) is f p =
    (f.0 ++ events_of noted, written n h noted d text e bytes ys f.0 is f.1 p)

pub file : (n h : ℕ) (noted : Noted) (d text e : List ℕ) (empty : Bool) (before after : Option (List ℕ))
    → noted_of n h text ≡ Some noted → IsFile empty n h d before → Puts d text e before after
    → IsFile empty n h e after
file n h noted d text e empty before after is f p =
    record { telling = telling n h noted d text e empty before after is f.telling p }

-- what the lines tell after one more
told_grown : (n h : ℕ) (noted : Noted) (d text e : List ℕ) (empty : Bool) (before after : Option (List ℕ))
    → noted_of n h text ≡ Some noted → IsTelling empty n h d before → Puts d text e before after
    → told_at empty n h after ≡ with_more (told_at empty n h before) (events_of noted)
told_grown n h noted d text e false before after is f p = refl
told_grown n h noted d text e true None after is f p = absurd f
told_grown n h noted d text e true (Some bytes) None is f p = absurd p.added
told_grown n h noted d text e true (Some bytes) (Some ys) is f p =
    let now = (written n h noted d text e bytes ys f.0 is f.1 p).told in
    ap (option_map (λ (t : Told). t.events)) now
    ∙ sym (ap (λ o. with_more (option_map (λ (t : Told). t.events) o) (events_of noted)) f.1.told)

pub grown : (n h : ℕ) (noted : Noted) (d text e : List ℕ) (empty : Bool) (before after : Option (List ℕ))
    → noted_of n h text ≡ Some noted → IsFile empty n h d before → Puts d text e before after
    → told_at empty n h after ≡ with_more (told_at empty n h before) (events_of noted)
grown n h noted d text e empty before after is f p =
    told_grown n h noted d text e empty before after is f.telling p

module _ (n h : ℕ) (text e : List ℕ) where
  -- a file whose only line is a header
  only : (ys : List ℕ) → Puts no_digest text e (Some []) (Some ys) → IsWritten n h e ys []
  only ys p =
      let line = mark e ++ text in
      let marked : ys ≡ line ++ codes "\n" =
      p.added ∙ ap (λ x. mark x ++ (text ++ codes "\n")) (sym p.digest) ∙ sym (append_assoc (mark e) text (codes "\n")) in
      let ends : lines (line ++ codes "\n") ≡ line ∷ [] = alone line p.one in
      let told : told_in n h (line ++ codes "\n") ≡ Some (record { digest = e; events = [] }) =
      told_lines n h (line ++ codes "\n") ∙ ap (told_of n h) ends ∙ one_told n h (header_told line)
      ∙ ap (option_map (λ t. at_header line)) (marked_is n h no_digest text e p.size p.digest)
      ∙ ap (λ x. Some (record { digest = x; events = [] })) (digest_is n h no_digest text e p.size p.digest) in
      let whole : (rest : List ℕ) → lines ((line ++ codes "\n") ++ rest) ≡ lines (line ++ codes "\n") ++ lines rest =
      λ rest. ap lines (append_assoc line (codes "\n") rest) ∙ one_line line rest p.one
      ∙ sym (ap (λ l. l ++ lines rest) ends) in
      subst (λ b. IsWritten n h e b []) (sym marked) (record { whole = whole; told = told })

  begun_telling : (before after : Option (List ℕ)) → Puts no_digest text e before after
      → IsTelling (is_empty before) n h e after
  begun_telling None after p = tt
  begun_telling (Some []) None p = absurd p.added
  begun_telling (Some []) (Some ys) p = ([], only ys p)
  begun_telling (Some (b ∷ bs)) after p = tt

  no_event : (o : Option Told) → o ≡ Some (record { digest = e; events = [] })
      → IsEmpty (with_more (option_map (λ (t : Told). t.events) o) [])
  no_event o is = subst (λ x. IsEmpty (with_more (option_map (λ (t : Told). t.events) x) [])) (sym is) refl

  none_kept : (before after : Option (List ℕ)) → Puts no_digest text e before after
      → IsEmpty (with_more (told_at (is_empty before) n h after) [])
  none_kept None after p = tt
  none_kept (Some []) None p = absurd p.added
  none_kept (Some []) (Some ys) p = no_event (told_in n h ys) (only ys p).told
  none_kept (Some (b ∷ bs)) after p = tt

-- the file of a journal that begins
pub begun : (n h : ℕ) (d text e : List ℕ) (empty : Bool) (before after : Option (List ℕ)) → empty ≡ is_empty before
    → d ≡ no_digest → Puts d text e before after → IsFile empty n h e after
begun n h d text e empty before after is start p =
    record {
      telling = subst (λ x. IsTelling x n h e after) (sym is)
          (begun_telling n h text e before after (subst (λ x. Puts x text e before after) start p));
    }

-- its lines tell no event
pub nothing_kept : (n h : ℕ) (d text e : List ℕ) (empty : Bool) (before after : Option (List ℕ))
    → empty ≡ is_empty before → d ≡ no_digest → Puts d text e before after
    → IsEmpty (with_more (told_at empty n h after) [])
nothing_kept n h d text e empty before after is start p =
    subst (λ x. IsEmpty (with_more (told_at x n h after) [])) (sym is)
    (none_kept n h text e before after (subst (λ x. Puts x text e before after) start p))
