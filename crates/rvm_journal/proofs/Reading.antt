-- A journal that is read line by line: what was read are whole lines, and they are the first of all.
use Rattle.std.proofs.Common.{◌≡◌, ◌∙◌, ◌⊎◌, ℕ, ◌+◌, Bool, true, false, not, cond, ◌&&◌, eqb, List, [], ◌∷◌, ◌++◌, length, take, Option, Some, None, Result, Ok, Err, refl, sym, ap, subst, append_assoc, arith, inl, inr}
use Rattle.std.proofs.KnownBytes.{Consumes-trans}
use Rattle.std.proofs.lemmas.Bool.Decides.{nat_tests}
use Rattle.std.proofs.lemmas.List.{append-nil}
use Rattle.std.specs.Io.KnownBytes.{Consumes}
use Rattle.std.specs.List.{list_all}
use Rattle.std.specs.Prelude.{IfSome, OnErr, codes, option_map}
use Rattle.std.specs.Str.{bytes_eq}
use Rattle.rvm_debug.specs.Words.{lines}
use Rattle.rvm_message.specs.declared.event.HostEvent.{HostEvent}
use Rattle.rvm_recorder.specs.History.{Recording}
use Rattle.rvm_journal.specs.declared.noted.Noted.{Noted}
use Rattle.rvm_journal.specs.declared.replay.JournalFault.{JournalFault}
use Rattle.rvm_journal.specs.declared.replay.JournalFault.TheVariants as fault
use Rattle.rvm_journal.specs.declared.header.Header.{Header}
use Rattle.rvm_journal.specs.Headers.{IsRanged, first_header, header_at, header_in_line, header_of}
use Rattle.rvm_journal.specs.Noting.{events_of}
use Rattle.rvm_journal.specs.Reading.{HasLongLine, IfLong, IsAllRead, IsAtLastLine, IsLong, IsOpened, IsReadFault, IsTextOf, Opened}
use Rattle.rvm_journal.specs.Recorders.{HasMore, Records, room_of}
use Rattle.rvm_journal.specs.Replaying.{IsJournalFault, IsLineFault, IsReplayedTo, IsRoomFault, IsWanted, first_of, left_of, noted_at}
use Rattle.rvm_journal.specs.Told.{Told, at_header, digest_behind, header_told, mark, no_digest, text_in}
use Rattle.rvm_journal.specs.Whole.{AreWholeLines, IsJournal}
use Rattle.rvm_journal.specs.Written.{is_no_feed}
use Rattle.rvm_journal.proofs.ReadJournals.{header_of_first, header_stays, line_ends, more_end, one_more_line}
use Rattle.rvm_journal.proofs.Recorders.{then_recorded}
use Rattle.rvm_journal.proofs.Lines.{alone, no_lines, one_line}
use Rattle.rvm_journal.proofs.Replayed.{Doing, all_done, header_done, line_done, line_refused, room_refused}

both : (a b : Bool) → a ≡ true → b ≡ true → (a && b) ≡ true
both true b e f = f
both false b e f = cc

feed_is : (b : ℕ) → eqb b 10 ≡ true → b ≡ 10
feed_is b e = grind (arith, nat_tests)

no_feed_is : (t : Bool) → t ≡ false → not t ≡ true
no_feed_is true e = cc
no_feed_is false e = refl

pub ok_false : {E : Type 0} (b : Bool) → ◌≡◌ {A = Result Bool E} (Ok b) (Ok false) → b ≡ false
ok_false true e = cc
ok_false false e = refl

-- the whole lines of bytes
split_if : (b : ℕ) (bs w : List ℕ) (t : Bool) → eqb b 10 ≡ t → AreWholeLines bs w → w ≡ []
    → (v : List ℕ) × AreWholeLines (b ∷ bs) v
split_if b bs w true is so none = (
  b ∷ [],
  record {
    rest = so.rest;
    all = ap (λ l. b ∷ l) (so.all ∙ ap (λ v. v ++ so.rest) none);
    part = so.part;
    ends = inr ([], ap (λ c. c ∷ []) (feed_is b is));
  },
)
split_if b bs w false is so none =
    let all : bs ≡ so.rest = so.all ∙ ap (λ v. v ++ so.rest) none in (
      [],
      record {
        rest = b ∷ bs;
        all = refl;
        part = both (not (eqb b 10)) (list_all is_no_feed bs) (no_feed_is (eqb b 10) is)
            (ap (list_all is_no_feed) all ∙ so.part);
        ends = inl refl;
      },
    )

split_more : (b : ℕ) (bs w : List ℕ) (so : AreWholeLines bs w) → (w ≡ []) ⊎ ((before : List ℕ) × (w ≡ before ++ codes "\n"))
    → (v : List ℕ) × AreWholeLines (b ∷ bs) v
split_more b bs w so (inl none) = split_if b bs w (eqb b 10) refl so none
split_more b bs w so (inr ends) = (
  b ∷ w,
  record {
    rest = so.rest;
    all = ap (λ l. b ∷ l) so.all;
    part = so.part;
    ends = inr (b ∷ ends.0, ap (λ l. b ∷ l) ends.1);
  },
)

split : (bytes : List ℕ) → (w : List ℕ) × AreWholeLines bytes w
split [] = ([], record { rest = []; all = refl; part = refl; ends = inl refl })
split (b ∷ bs) = let so = split bs in split_more b bs so.0 so.1 so.1.ends

-- any bytes have whole lines
pub has_journal : (known : Option (List ℕ)) → (text : List ℕ) × IsJournal known text
has_journal None = ([], tt)
has_journal (Some bytes) = split bytes

-- a journal without a line
no_first : (text : List ℕ) → text ≡ [] → header_at text ≡ None
unfolding header_at
no_first text none = ap first_header (ap lines none ∙ no_lines)

whole_alone : (bytes w : List ℕ) → list_all is_no_feed bytes ≡ true → AreWholeLines bytes []
whole_alone bytes w all = record { rest = bytes; all = refl; part = all; ends = inl refl }

pub none_first : (known : Option (List ℕ)) → IsAtLastLine known
    → (text : List ℕ) × IsJournal known text × (header_at text ≡ None)
none_first None last = ([], tt, no_first [] refl)
none_first (Some bytes) last = ([], whole_alone bytes [] last, no_first [] refl)

ends_both : (bytes w : List ℕ) → ((front : List ℕ) × (bytes ≡ front ++ codes "\n"))
    → (w ≡ []) ⊎ ((before : List ℕ) × (w ≡ before ++ codes "\n"))
    → (bytes ++ w ≡ []) ⊎ ((before : List ℕ) × (bytes ++ w ≡ before ++ codes "\n"))
ends_both bytes w ends (inl none) = inr (ends.0, ap (λ v. bytes ++ v) none ∙ append-nil bytes ∙ ends.1)
ends_both bytes w ends (inr behind) =
    inr (bytes ++ behind.0, ap (λ v. bytes ++ v) behind.1 ∙ sym (append_assoc bytes behind.0 (codes "\n")))

journal_of : (known now : Option (List ℕ)) (bytes w : List ℕ) → Consumes known now bytes
    → IsJournal now w → ((front : List ℕ) × (bytes ≡ front ++ codes "\n")) → IsJournal known (bytes ++ w)
journal_of None now bytes w consumed behind ends = tt
journal_of (Some all) None bytes w consumed behind ends = absurd consumed
journal_of (Some all) (Some left) bytes w consumed behind ends = record {
  rest = behind.rest;
  all = consumed ∙ ap (λ l. bytes ++ l) behind.all ∙ sym (append_assoc bytes w behind.rest);
  part = behind.part;
  ends = ends_both bytes w ends behind.ends;
}

-- a first line that shows no digest, or tells no header
unshown_if : (t : Bool) (text : List ℕ) (told : Told) (header : Option Header) → option_map (λ x. told) (cond t (Some text) None) ≡ None
    → cond t header None ≡ None
unshown_if true text told header none = cc
unshown_if false text told header none = refl

pub unshown : (line : List ℕ) → header_told line ≡ None → header_in_line line ≡ None
unshown line none =
    unshown_if (bytes_eq (take 17 line) (mark (digest_behind no_digest line))) (text_in line) (at_header line)
    (header_of (text_in line)) none

untold_if : (t : Bool) (header : Option Header) → header ≡ None → cond t header None ≡ None
untold_if true header none = none
untold_if false header none = refl

pub untold : (line text : List ℕ) → text ≡ text_in line → header_of text ≡ None → header_in_line line ≡ None
untold line text is none =
    untold_if (bytes_eq (take 17 line) (mark (digest_behind no_digest line))) (header_of (text_in line))
    (ap header_of (sym is) ∙ none)

told_if : (t : Bool) (text : List ℕ) (told u : Told) (header : Option Header)
    → option_map (λ x. told) (cond t (Some text) None) ≡ Some u → cond t header None ≡ header
told_if true text told u header is = refl
told_if false text told u header is = cc

pub told_header : (line text : List ℕ) (told : Told) (header : Header) → header_told line ≡ Some told → text ≡ text_in line
    → header_of text ≡ Some header → header_in_line line ≡ Some header
told_header line text told header shown is told_is =
    told_if (bytes_eq (take 17 line) (mark (digest_behind no_digest line))) (text_in line) (at_header line) told
    (header_of (text_in line)) shown
    ∙ ap header_of (sym is) ∙ told_is

pub other_first : (known now : Option (List ℕ)) (line : List ℕ) → Consumes known now (line ++ codes "\n")
    → list_all is_no_feed line ≡ true → header_in_line line ≡ None
    → (text : List ℕ) × IsJournal known text × (header_at text ≡ None)
unfolding header_at
other_first known now line consumed one none =
    let tail = has_journal now in (
      (line ++ codes "\n") ++ tail.0,
      journal_of known now (line ++ codes "\n") tail.0 consumed tail.1 (line, refl),
      ap first_header (ap lines (append_assoc line (codes "\n") tail.0) ∙ one_line line tail.0 one) ∙ none,
    )

-- these bytes were read, which are whole lines of a journal, and the first of them
pub record IsRead (o : Opened) (now : Option (List ℕ)) (bytes : List ℕ) : Type 0 where
  pub consumed : Consumes o.known now bytes
  pub whole : (rest : List ℕ) → lines (bytes ++ rest) ≡ lines bytes ++ lines rest
  pub header_is : header_at bytes ≡ Some o.header
  pub front : List ℕ
  pub ends : bytes ≡ front ++ codes "\n"

first_read : (o : Opened) (now : Option (List ℕ)) (text digest : List ℕ) → IsOpened o.known now o.header text digest
    → IsRead o now text
first_read o now text digest so = record {
  consumed = so.consumed;
  whole = λ rest.
      ap (λ t. lines (t ++ rest)) so.text_is ∙ line_ends so.first rest so.one
      ∙ ap (λ t. lines t ++ lines rest) (sym so.text_is);
  header_is = so.header_is;
  front = so.first;
  ends = so.text_is;
}

lines_more : (o : Opened) (now : Option (List ℕ)) (bytes line : List ℕ) → IsRead o now bytes → list_all is_no_feed line ≡ true
    → lines (bytes ++ (line ++ codes "\n")) ≡ lines bytes ++ line ∷ []
lines_more o now bytes line so one = one_more_line bytes line so.whole one

line_more : (o : Opened) (now after : Option (List ℕ)) (bytes line : List ℕ) → IsRead o now bytes
    → Consumes now after (line ++ codes "\n") → list_all is_no_feed line ≡ true → IsRead o after (bytes ++ (line ++ codes "\n"))
line_more o now after bytes line so consumed one = record {
  consumed = Consumes-trans o.known now after bytes (line ++ codes "\n") so.consumed consumed;
  whole = λ rest. more_end bytes line rest so.whole one;
  header_is = header_stays bytes (line ++ codes "\n") o.header (so.whole (line ++ codes "\n")) so.header_is;
  front = bytes ++ line;
  ends = sym (append_assoc bytes line (codes "\n"));
}

-- what was read, and the whole lines that follow it, are the text
text_of : (o : Opened) (now : Option (List ℕ)) (bytes w : List ℕ) → IsRead o now bytes → IsJournal now w
    → IsTextOf o (bytes ++ w)
text_of o now bytes w so behind = record {
  whole = journal_of o.known now bytes w so.consumed behind (so.front, so.ends);
  header_is = header_stays bytes w o.header (so.whole w) so.header_is;
}

-- a journal of which the first line was read has a text
pub has_text : (o : Opened) (now : Option (List ℕ)) (text digest : List ℕ) → IsOpened o.known now o.header text digest
    → (all : List ℕ) × IsTextOf o all
has_text o now text digest so =
    let tail = has_journal now in
    (text ++ tail.0, text_of o now text tail.0 (first_read o now text digest so) tail.1)

-- and this is known of it once its first line was read
pub opened : (known now : Option (List ℕ)) (header : Header) (text line digest : List ℕ) → text ≡ line ++ codes "\n"
    → list_all is_no_feed line ≡ true → Consumes known now (line ++ codes "\n") → header_in_line line ≡ Some header
    → header_told line ≡ Some (record { digest = digest; events = [] }) → IsRanged header
    → IsOpened known now header text digest
opened known now header text line digest text_is one consumed header_is shown ranged = record {
  first = line;
  text_is = text_is;
  one = one;
  consumed = subst (Consumes known now) (sym text_is) consumed;
  header_is = ap header_at text_is ∙ header_of_first line [] one ∙ header_is;
  ranged = ranged;
  shown = shown;
}

no_line_left : (now : Option (List ℕ)) → IsAtLastLine now → IsJournal now []
no_line_left None last = tt
no_line_left (Some left) last = whole_alone left [] last

-- all lines were read, or it is not asked
all_read : (most : Option ℕ) (bytes : List ℕ) → IsAllRead most bytes bytes
all_read None bytes = refl
all_read (Some m) bytes = tt

not_all : (most left : Option ℕ) (bytes text : List ℕ) (es : List HostEvent) → left ≡ left_of most es → left ≡ Some 0
    → IsAllRead most bytes text
not_all None left bytes text es is none = cc
not_all (Some m) left bytes text es is none = tt

module _ (n h : ℕ) where
  -- lines after those that were done
  grown : (most left : Option ℕ) (ls more : List (List ℕ)) (digest : List ℕ) (number : ℕ) (a b : Recording)
      → Doing n h most left ls [] digest number a b → Doing n h most left (ls ++ more) more digest number a b
  grown most left ls more digest number a b so = record {
    before = so.before;
    events = so.events;
    lines_are = ap (λ l. l ++ more) (so.lines_are ∙ append-nil so.before);
    number_is = so.number_is;
    told = so.told;
    left_is = so.left_is;
    recorded = so.recorded;
  }

  -- these lines were read, and done
  pub record Reading (o : Opened) (most left : Option ℕ) (now : Option (List ℕ)) (bytes digest : List ℕ) (number : ℕ)
      (old new : Recording) : Type 0 where
    pub read : IsRead o now bytes
    pub doing : Doing n h most left (lines bytes) [] digest number old new

  pub starts : (o : Opened) (most now : Option _) (text digest : List ℕ) (r : Recording)
      → IsOpened o.known now o.header text digest → Reading o most most now text digest 1 r r
  starts o most now text digest r so = record {
    read = first_read o now text digest so;
    doing = header_done n h most (lines text) [] so.first digest r (ap lines so.text_is ∙ alone so.first so.one) so.shown;
  }

  pub goes_on : (o : Opened) (most left later : Option ℕ) (now after : Option (List ℕ)) (bytes line more digest next : List ℕ)
      (number : ℕ) (noted : Noted) (a b c : Recording) → Reading o most left now bytes digest number a b
      → Consumes now after (line ++ codes "\n") → list_all is_no_feed line ≡ true → next ≡ digest_behind digest line
      → noted_at n h next line ≡ Some noted → Records b (first_of left (events_of noted)) c
      → later ≡ left_of left (events_of noted) → more ≡ bytes ++ (line ++ codes "\n")
      → Reading o most later after more next (number + 1) a c
  goes_on o most left later now after bytes line more digest next number noted a b c so consumed one next_is noted_is done
      later_is more_is =
      let ls = lines bytes in
      subst (λ t. Reading o most later after t next (number + 1) a c) (sym more_is) (record {
        read = line_more o now after bytes line so.read consumed one;
        doing = subst (λ l. Doing n h most later l [] next (number + 1) a c) (sym (lines_more o now bytes line so.read one))
            (line_done n h most left later (ls ++ line ∷ []) (line ∷ []) [] line digest next number (number + 1) noted a b c
            (grown most left ls (line ∷ []) digest number a b so.doing) refl next_is noted_is done later_is refl);
      })

  -- no line is left
  pub ended : (o : Opened) (most left : Option ℕ) (now : Option (List ℕ)) (bytes digest : List ℕ) (number : ℕ) (a b : Recording)
      → Reading o most left now bytes digest number a b → IsAtLastLine now
      → (text : List ℕ) × IsTextOf o text × IsAllRead most bytes text × IsReplayedTo most n h text a b
  ended o most left now bytes digest number a b so last = (
    bytes,
    subst (IsTextOf o) (append-nil bytes) (text_of o now bytes [] so.read (no_line_left now last)),
    all_read most bytes,
    all_done n h most left bytes [] digest number a b so.doing (inl refl),
  )

  -- no more events are wanted
  pub spent : (o : Opened) (most left : Option ℕ) (now : Option (List ℕ)) (bytes digest : List ℕ) (number : ℕ) (a b : Recording)
      → Reading o most left now bytes digest number a b → left ≡ Some 0
      → (text : List ℕ) × IsTextOf o text × IsAllRead most bytes text × IsReplayedTo most n h text a b
  spent o most left now bytes digest number a b so none =
      let tail = has_journal now in (
        bytes ++ tail.0,
        text_of o now bytes tail.0 so.read tail.1,
        not_all most left bytes (bytes ++ tail.0) so.doing.events so.doing.left_is none,
        all_done n h most left (bytes ++ tail.0) (lines tail.0) digest number a b
            (subst (λ l. Doing n h most left l (lines tail.0) digest number a b) (sym (so.read.whole tail.0))
            (grown most left (lines bytes) (lines tail.0) digest number a b so.doing))
            (inr none),
      )

  -- a line was read, and this holds of it and of those that follow
  pub at_line : (o : Opened) (most left : Option ℕ) (now after : Option (List ℕ)) (bytes line digest : List ℕ) (number : ℕ)
      (why : JournalFault) (a b : Recording) → Reading o most left now bytes digest number a b
      → Consumes now after (line ++ codes "\n") → list_all is_no_feed line ≡ true
      → ((ls behind : List (List ℕ)) → Doing n h most left ls (line ∷ behind) digest number a b
      → IsJournalFault why most n h ls a.capacity (room_of a))
      → (text : List ℕ) × IsTextOf o text × IsJournalFault why most n h (lines text) a.capacity (room_of a)
  at_line o most left now after bytes line digest number why a b so consumed one faulty =
      let tail = has_journal after in
      let more = bytes ++ (line ++ codes "\n") in
      let read = line_more o now after bytes line so.read consumed one in
      let ls = lines bytes in
      let all : lines (more ++ tail.0) ≡ ls ++ line ∷ lines tail.0 =
      read.whole tail.0 ∙ ap (λ l. l ++ lines tail.0) (lines_more o now bytes line so.read one)
      ∙ append_assoc ls (line ∷ []) (lines tail.0) in (
        more ++ tail.0,
        text_of o after more tail.0 read tail.1,
        faulty (lines (more ++ tail.0)) (lines tail.0)
            (subst (λ l. Doing n h most left l (line ∷ lines tail.0) digest number a b) (sym all)
            (grown most left ls (line ∷ lines tail.0) digest number a b so.doing)),
      )

  pub refused : (o : Opened) (most left : Option ℕ) (now after : Option (List ℕ)) (bytes line digest next : List ℕ) (number : ℕ)
      (why : JournalFault) (a b : Recording) → Reading o most left now bytes digest number a b → IsWanted left
      → Consumes now after (line ++ codes "\n") → list_all is_no_feed line ≡ true → next ≡ digest_behind digest line
      → IsLineFault why n h (number + 1) next line
      → (text : List ℕ) × IsTextOf o text × IsJournalFault why most n h (lines text) a.capacity (room_of a)
  refused o most left now after bytes line digest next number why a b so wanted consumed one next_is bad =
      at_line o most left now after bytes line digest number why a b so consumed one
      (λ ls behind doing. line_refused n h most left ls (line ∷ behind) behind line digest next number (number + 1) why a b doing
      wanted refl next_is refl bad)

  pub no_room : (o : Opened) (most left : Option ℕ) (now after : Option (List ℕ)) (bytes line digest next : List ℕ) (number : ℕ)
      (noted : Noted) (why : JournalFault) (a b : Recording) → Reading o most left now bytes digest number a b
      → Consumes now after (line ++ codes "\n") → list_all is_no_feed line ≡ true → next ≡ digest_behind digest line
      → noted_at n h next line ≡ Some noted → IsRoomFault why (length (first_of left (events_of noted))) b
      → (text : List ℕ) × IsTextOf o text × IsJournalFault why most n h (lines text) a.capacity (room_of a)
  no_room o most left now after bytes line digest next number noted why a b so consumed one next_is noted_is bad =
      at_line o most left now after bytes line digest number why a b so consumed one
      (λ ls behind doing. room_refused n h most left ls (line ∷ behind) behind line digest next number noted why a b doing
      refl next_is noted_is bad)

  pub has_more : (o : Opened) (most left : Option ℕ) (now : Option (List ℕ)) (bytes digest : List ℕ) (number : ℕ)
      (a b : Recording) → Reading o most left now bytes digest number a b → HasMore a b
  has_more o most left now bytes digest number a b so = (first_of most so.doing.events, so.doing.recorded)

  -- the next line could not be read
  read_fault : (known : Option (List ℕ)) (k : ℕ) (most : Option ℕ) (ls : List (List ℕ)) (capacity room : ℕ) (why : JournalFault)
      → IsReadFault known k why → IsJournalFault why most n h ls capacity room
  read_fault known k most ls capacity room (fault.BadLine i) is = absurd is
  read_fault known k most ls capacity room (fault.LongLine i) is = tt
  read_fault known k most ls capacity room (fault.TooLong m) is = absurd is
  read_fault known k most ls capacity room fault.OutOfMemory is = tt
  read_fault known k most ls capacity room fault.LinkFault is = tt

  pub unread : (o : Opened) (most left : Option ℕ) (now : Option (List ℕ)) (bytes digest : List ℕ) (number k : ℕ)
      (why : JournalFault) (a b : Recording) → Reading o most left now bytes digest number a b → IsReadFault now k why
      → (text : List ℕ) × IsTextOf o text × IsJournalFault why most n h (lines text) a.capacity (room_of a)
  unread o most left now bytes digest number k why a b so is =
      let tail = has_journal now in (
        bytes ++ tail.0,
        text_of o now bytes tail.0 so.read tail.1,
        read_fault now k most (lines (bytes ++ tail.0)) a.capacity (room_of a) why is,
      )

  -- since it is too long
  long_behind : (known now : Option (List ℕ)) (bytes : List ℕ) (number k : ℕ) → Consumes known now bytes
      → length (lines bytes) ≡ number → k ≡ number + 1 → IfSome now IsLong → IfSome known (HasLongLine k)
  long_behind None now bytes number k consumed size is long = tt
  long_behind (Some all) None bytes number k consumed size is long = absurd consumed
  long_behind (Some all) (Some left) bytes number k consumed size is long = record {
    before = bytes;
    behind = left;
    all = consumed;
    number_is = is ∙ ap (λ i. i + 1) (sym size);
    long = long;
  }

  pub if_long : (o : Opened) (most left : Option ℕ) (now : Option (List ℕ)) (bytes digest : List ℕ) (number : ℕ)
      (why : JournalFault) (a b : Recording) → Reading o most left now bytes digest number a b
      → IsReadFault now (number + 1) why → IfLong o.known why
  if_long o most left now bytes digest number (fault.BadLine i) a b so is = absurd is
  if_long o most left now bytes digest number (fault.LongLine k) a b so is =
      long_behind o.known now bytes number k so.read.consumed
      (ap length (so.doing.lines_are ∙ append-nil so.doing.before) ∙ sym so.doing.number_is) is.0 is.1
  if_long o most left now bytes digest number (fault.TooLong m) a b so is = absurd is
  if_long o most left now bytes digest number fault.OutOfMemory a b so is = tt
  if_long o most left now bytes digest number fault.LinkFault a b so is = tt

-- no line that was read is too long
pub not_long_line : (known : Option (List ℕ)) (why : JournalFault) (n h number : ℕ) (digest line : List ℕ)
    → IsLineFault why n h number digest line → IfLong known why
not_long_line known (fault.BadLine k) n h number digest line bad = tt
not_long_line known (fault.LongLine k) n h number digest line bad = absurd bad
not_long_line known (fault.TooLong m) n h number digest line bad = tt
not_long_line known fault.OutOfMemory n h number digest line bad = tt
not_long_line known fault.LinkFault n h number digest line bad = tt

pub not_long_room : (known : Option (List ℕ)) (why : JournalFault) (count : ℕ) (r : Recording) → IsRoomFault why count r
    → IfLong known why
not_long_room known (fault.BadLine k) count r bad = tt
not_long_room known (fault.LongLine k) count r bad = absurd bad
not_long_room known (fault.TooLong m) count r bad = tt
not_long_room known fault.OutOfMemory count r bad = tt
not_long_room known fault.LinkFault count r bad = tt

pub more_behind : (a b c : Recording) → HasMore a b → HasMore b c → HasMore a c
more_behind a b c first then = (first.0 ++ then.0, then_recorded a b c first.0 then.0 first.1 then.1)

-- what holds, holds of an error that is handed on
pub on_error : {A E : Type 0} (r : Result A E) (P : Type 0) → P → OnErr r P
on_error (Ok a) P holds = tt
on_error (Err e) P holds = holds
