-- What a host answers to the lines that it is told.
use Rattle.std.proofs.Common.{◌≡◌, ◌∙◌, ℕ, zero, suc, ◌==◌, List, [], ◌∷◌, ◌++◌, append-nil, Option, None, Some, ap, codes, inl, inr, refl, subst, sym}
use Rattle.std.proofs.lemmas.List.{append_assoc}
use Rattle.std.specs.Io.BufRead.{drop_through, take_through}
use Rattle.std.specs.Io.KnownBytes.{Appends, IsAtEnd, Keeps, prepend_known}
use Rattle.std.specs.Prelude.{IfSome, if◌then◌else◌}
use Rattle.rvm_refusal.specs.declared.refusal.Refusal.TheVariants.{TooLong}
use Rattle.rvm_refusal.specs.Refusal.{text_of}
use Rattle.rvm_host_command.specs.Answered.{AreAnswers, AreAnswered, AreBefore, AreLinesFor, GoesOn, Grows, HasTold, Says, all_done, both_done, last_line}
use Rattle.rvm_host_command.specs.Lines.{IsLongLine, IsToldLine}
use Rattle.rvm_host_command.specs.declared.tell_command.Told.{Told}
use Rattle.rvm_host_command.specs.declared.tell_command.Told.TheVariants.{Done, NotDone}

-- WHAT IS WRITTEN

-- bytes were written, and then more
pub both_written : (before mid now : Option (List ℕ)) (one more : List ℕ) → Appends before mid one → Appends mid now more
    → Appends before now (one ++ more)
both_written None mid now one more first next = tt
both_written (Some bytes) None now one more first next = absurd first
both_written (Some bytes) (Some between) None one more first next = absurd next
both_written (Some bytes) (Some between) (Some after) one more first next =
    next ∙ ap (λ l. l ++ more) first ∙ append_assoc bytes one more

pub grows_not : (o : Option (List ℕ)) → Grows o o
grows_not None = ([], tt)
grows_not (Some bytes) = ([], sym (append-nil bytes))

pub grows_on : (before mid now : Option (List ℕ)) → Grows before mid → Grows mid now → Grows before now
grows_on before mid now (one, first) (more, next) = (one ++ more, both_written before mid now one more first next)

-- nothing is written
pub kept : (before now : Option (List ℕ)) → Keeps before now → Grows before now
kept None now keeps = ([], tt)
kept (Some bytes) None keeps = absurd keeps
kept (Some bytes) (Some after) keeps = ([], keeps ∙ sym (append-nil bytes))

-- ONE ANSWER

-- this many lines of one answer were read of what is known
abbrev pub HaveGone : (first last : Option (List ℕ)) → Type 0
HaveGone first last = IfSome first (λ bytes. (lines : ℕ) × (after : List ℕ) × (last ≡ Some after) × AreBefore lines bytes after)

pub none_gone : (known : Option (List ℕ)) → HaveGone known known
none_gone None = tt
none_gone (Some bytes) = (0, bytes, refl, refl)

one_before : (n : ℕ) (bytes after : List ℕ) → AreBefore n bytes after → GoesOn (take_through 10 after)
    → AreBefore (suc n) bytes (drop_through 10 after)
one_before zero bytes after is goes =
    (subst (λ l. GoesOn (take_through 10 l)) is goes, subst (λ l. drop_through 10 l ≡ drop_through 10 bytes) (sym is) refl)
one_before (suc n) bytes after (goes, is) more = (goes, one_before n (drop_through 10 bytes) after is more)

read_line : (front line : List ℕ) (last : Option (List ℕ)) (after : List ℕ) → last ≡ Some after → front ≡ []
    → IfSome last (λ bytes. line ≡ front ++ take_through 10 bytes) → line ≡ take_through 10 after
read_line front line last after known none is =
    subst (λ f. line ≡ f ++ take_through 10 after) none
    (subst (λ o. IfSome o (λ l. line ≡ front ++ take_through 10 l)) known is)

-- one more line of the answer was read
pub one_gone : (first last new : Option (List ℕ)) (front line : List ℕ) → HaveGone first last → front ≡ []
    → IfSome last (λ bytes. line ≡ front ++ take_through 10 bytes) → IfSome last (λ bytes. new ≡ Some (drop_through 10 bytes)) → GoesOn line
    → HaveGone first new
one_gone None last new front line gone none is rest goes = tt
one_gone (Some bytes) last new front line (n, after, known, before) none is rest goes =
    let is : line ≡ take_through 10 after = read_line front line last after known none is in
    let rest : new ≡ Some (drop_through 10 after) = subst (λ o. IfSome o (λ l. new ≡ Some (drop_through 10 l))) known rest in
    (suc n, drop_through 10 after, rest, one_before n bytes after before (subst GoesOn is goes))

-- the last line of the answer was read
pub says_so : (first last new : Option (List ℕ)) (front line : List ℕ) (told : Told) → HaveGone first last → front ≡ []
    → IfSome last (λ bytes. line ≡ front ++ take_through 10 bytes) → IfSome last (λ bytes. new ≡ Some (drop_through 10 bytes))
    → line ≡ last_line told → IfSome first (λ bytes. (after : List ℕ) × (new ≡ Some after) × Says told bytes after)
says_so None last new front line told gone none is rest says = tt
says_so (Some bytes) last new front line told (n, after, known, before) none is rest says =
    let is : line ≡ take_through 10 after = read_line front line last after known none is in
    let rest : new ≡ Some (drop_through 10 after) = subst (λ o. IfSome o (λ l. new ≡ Some (drop_through 10 l))) known rest in (
      drop_through 10 after,
      rest,
      record { lines = n; last = after; before = before; says = sym is ∙ says; rest = refl },
    )

-- ALL LINES AND ANSWERS

-- each line so far was answered, and `told` says whether all happened
pub record SoFar (lines lines_left answers answers_left : Option (List ℕ)) (told : Told) : Type 0 where
  pub each : List Told
  pub asked : IfSome lines (λ bytes. (after : List ℕ) × (lines_left ≡ Some after) × AreLinesFor each bytes after)
  pub answered : IfSome answers (λ bytes. (after : List ℕ) × (answers_left ≡ Some after) × AreAnswers each bytes after)
  pub says : told ≡ all_done each

unread : (o : Option (List ℕ)) → prepend_known [] o ≡ o
unread None = refl
unread (Some bytes) = refl

-- a reader that has just begun has what there is
pub fresh : (capacity : ℕ) (buffer : List ℕ) (rest known : Option (List ℕ)) → capacity ≡ 8192 → buffer ≡ [] → rest ≡ known
    → (if capacity == 0 then None else prepend_known buffer rest) ≡ known
fresh capacity buffer rest known size none is =
    ap (λ (n : ℕ). if n == 0 then None else prepend_known buffer rest) size
    ∙ ap (λ (l : List ℕ). prepend_known l rest) none
    ∙ unread rest ∙ is

pub none_yet : (lines answers : Option (List ℕ)) → SoFar lines lines answers answers Done
none_yet lines answers = record { each = []; asked = itself lines; answered = itself answers; says = refl } where
  itself : (o : Option (List ℕ)) → IfSome o (λ bytes. (after : List ℕ) × (o ≡ Some after) × (after ≡ bytes))
  itself None = tt
  itself (Some bytes) = (bytes, refl, refl)

lines_more : (ts : List Told) (t : Told) (bytes after : List ℕ) → AreLinesFor ts bytes after → IsToldLine after
    → AreLinesFor (ts ++ t ∷ []) bytes (drop_through 10 after)
lines_more [] t bytes after is some =
    (subst IsToldLine is some, subst (λ l. drop_through 10 l ≡ drop_through 10 bytes) (sym is) refl)
lines_more (x ∷ ts) t bytes after (first, is) some = (first, lines_more ts t (drop_through 10 bytes) after is some)

answers_more : (ts : List Told) (t : Told) (bytes after last : List ℕ) → AreAnswers ts bytes after → Says t after last
    → AreAnswers (ts ++ t ∷ []) bytes last
answers_more [] t bytes after last is says = (last, subst (λ l. Says t l last) is says, refl)
answers_more (x ∷ ts) t bytes after last (between, first, is) says =
    (between, first, answers_more ts t between after last is says)

both_swap : (a b c : Told) → both_done (both_done a b) c ≡ both_done (both_done a c) b
both_swap a Done Done = refl
both_swap a Done NotDone = refl
both_swap a NotDone Done = refl
both_swap a NotDone NotDone = refl

done_more : (ts : List Told) (t : Told) → all_done (ts ++ t ∷ []) ≡ both_done (all_done ts) t
done_more [] t = refl
done_more (x ∷ ts) t = ap (λ (a : Told). both_done a x) (done_more ts t) ∙ both_swap (all_done ts) t x

asked_more : (ts : List Told) (t : Told) (first last new : Option (List ℕ))
    → IfSome first (λ bytes. (after : List ℕ) × (last ≡ Some after) × AreLinesFor ts bytes after)
    → IfSome last (λ bytes. IsToldLine bytes × (new ≡ Some (drop_through 10 bytes)))
    → IfSome first (λ bytes. (after : List ℕ) × (new ≡ Some after) × AreLinesFor (ts ++ t ∷ []) bytes after)
asked_more ts t None last new before more = tt
asked_more ts t (Some bytes) last new (after, known, before) more =
    let one = subst (λ o. IfSome o (λ l. IsToldLine l × (new ≡ Some (drop_through 10 l)))) known more in
    (drop_through 10 after, one.1, lines_more ts t bytes after before one.0)

answered_more : (ts : List Told) (t : Told) (first last new : Option (List ℕ))
    → IfSome first (λ bytes. (after : List ℕ) × (last ≡ Some after) × AreAnswers ts bytes after)
    → IfSome last (λ bytes. (after : List ℕ) × (new ≡ Some after) × Says t bytes after)
    → IfSome first (λ bytes. (after : List ℕ) × (new ≡ Some after) × AreAnswers (ts ++ t ∷ []) bytes after)
answered_more ts t None last new before more = tt
answered_more ts t (Some bytes) last new (after, known, before) more =
    let one = subst (λ o. IfSome o (λ l. (r : List ℕ) × (new ≡ Some r) × Says t l r)) known more in
    (one.0, one.1, answers_more ts t bytes after one.0 before one.2)

-- one more line was answered
pub one_more : (lines lines_left lines_new answers answers_left answers_new : Option (List ℕ)) (told t : Told)
    → SoFar lines lines_left answers answers_left told
    → IfSome lines_left (λ bytes. IsToldLine bytes × (lines_new ≡ Some (drop_through 10 bytes)))
    → IfSome answers_left (λ bytes. (after : List ℕ) × (answers_new ≡ Some after) × Says t bytes after)
    → SoFar lines lines_new answers answers_new (both_done told t)
one_more lines lines_left lines_new answers answers_left answers_new told t so line answer = record {
  each = so.each ++ t ∷ [];
  asked = asked_more so.each t lines lines_left lines_new so.asked line;
  answered = answered_more so.each t answers answers_left answers_new so.answered answer;
  says = ap (λ (a : Told). both_done a t) so.says ∙ sym (done_more so.each t);
}

-- no line is left
pub all_answered : (lines lines_left answers answers_left : Option (List ℕ)) (told : Told)
    → SoFar lines lines_left answers answers_left told → IsAtEnd lines_left → AreAnswered lines answers told
all_answered lines lines_left answers answers_left told so ended = record {
  each = so.each;
  asked = asked_all lines so.asked;
  answered = answered_all answers so.answered;
  says = so.says;
} where
  asked_all : (o : Option (List ℕ)) → IfSome o (λ bytes. (after : List ℕ) × (lines_left ≡ Some after) × AreLinesFor so.each bytes after)
      → IfSome o (λ bytes. AreLinesFor so.each bytes [])
  asked_all None is = tt
  asked_all (Some bytes) (after, known, is) =
      subst (λ l. AreLinesFor so.each bytes l) (subst IsAtEnd known ended) is

  answered_all : (o : Option (List ℕ)) → IfSome o (λ bytes. (after : List ℕ) × (answers_left ≡ Some after) × AreAnswers so.each bytes after)
      → IfSome o (λ bytes. (after : List ℕ) × AreAnswers so.each bytes after)
  answered_all None is = tt
  answered_all (Some bytes) (after, known, is) = (after, is)

-- all that was asked happened, or not
pub all_told : (lines lines_left answers answers_left before shown : Option (List ℕ)) (told : Told)
    → SoFar lines lines_left answers answers_left told → IsAtEnd lines_left → HasTold lines answers before shown told
all_told lines lines_left answers answers_left before shown Done so ended =
    all_answered lines lines_left answers answers_left Done so ended
all_told lines lines_left answers answers_left before shown NotDone so ended =
    inl (all_answered lines lines_left answers answers_left NotDone so ended)

-- the next line is too long
pub cut_short : (lines lines_left answers answers_left before mid shown : Option (List ℕ)) (told : Told)
    → SoFar lines lines_left answers answers_left told → IfSome lines_left IsLongLine → Grows before mid
    → Appends mid shown (text_of TooLong ++ codes "\n") → HasTold lines answers before shown NotDone
cut_short lines lines_left answers answers_left before mid shown told so long (written, grown) reported = inr (record {
  each = so.each;
  asked = asked_all lines so.asked;
  answered = answered_all answers so.answered;
  written = written;
  reported = both_written before mid shown written (text_of TooLong ++ codes "\n") grown reported;
}) where
  asked_all : (o : Option (List ℕ)) → IfSome o (λ bytes. (after : List ℕ) × (lines_left ≡ Some after) × AreLinesFor so.each bytes after)
      → IfSome o (λ bytes. (after : List ℕ) × AreLinesFor so.each bytes after × IsLongLine after)
  asked_all None is = tt
  asked_all (Some bytes) (after, known, is) = (after, is, subst (λ o. IfSome o IsLongLine) known long)

  answered_all : (o : Option (List ℕ)) → IfSome o (λ bytes. (after : List ℕ) × (answers_left ≡ Some after) × AreAnswers so.each bytes after)
      → IfSome o (λ bytes. (after : List ℕ) × AreAnswers so.each bytes after)
  answered_all None is = tt
  answered_all (Some bytes) (after, known, is) = (after, is)
