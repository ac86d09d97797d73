-- What the lines of a journal tell beside events, line by line.
use Rattle.std.proofs.Common.{◌≡◌, ◌∙◌, ℕ, Bool, true, List, [], ◌∷◌, ◌++◌, Some, refl, sym, ap, subst, append_assoc}
use Rattle.std.specs.List.{list_all}
use Rattle.std.specs.Prelude.{codes}
use Rattle.std.specs.Str.{bytes_eq}
use Rattle.rvm_debug.specs.Words.{lines}
use Rattle.rvm_journal.specs.declared.header.Header.{Header}
use Rattle.rvm_journal.specs.Headers.{first_header, header_at, header_in_line}
use Rattle.rvm_journal.specs.Meetings.{meeting_of, meetings_in, one_or_none}
use Rattle.rvm_journal.specs.Reading.{IsNoted}
use Rattle.rvm_journal.specs.Replaying.{last_of}
use Rattle.rvm_journal.specs.Told.{text_in}
use Rattle.rvm_journal.specs.Written.{is_no_feed}
use Rattle.rvm_station.specs.declared.log.Meeting.{Meeting}
use Rattle.rvm_journal.proofs.Lines.{alone, one_line}

pub meetings_both : (ls more : List (List ℕ)) → meetings_in (ls ++ more) ≡ meetings_in ls ++ meetings_in more
meetings_both [] more = refl
meetings_both (l ∷ ls) more =
    ap (λ ms. one_or_none (meeting_of l) ++ ms) (meetings_both ls more)
    ∙ sym (append_assoc (one_or_none (meeting_of l)) (meetings_in ls) (meetings_in more))

pub last_line : (before line : List ℕ) (ls : List (List ℕ)) → last_of before (ls ++ line ∷ []) ≡ line
last_line before line [] = refl
last_line before line (l ∷ ls) = last_line l line ls

first_stays : (ls more : List (List ℕ)) (h : Header) → first_header ls ≡ Some h → first_header (ls ++ more) ≡ Some h
first_stays [] more h is = cc
first_stays (l ∷ ls) more h is = is

-- a text keeps its header if lines come after its own
pub header_stays : (text rest : List ℕ) (h : Header) → lines (text ++ rest) ≡ lines text ++ lines rest → header_at text ≡ Some h
    → header_at (text ++ rest) ≡ Some h
unfolding header_at
header_stays text rest h ends is = ap first_header ends ∙ first_stays (lines text) (lines rest) h is

-- the header of a text is that of its first line
pub header_of_first : (line rest : List ℕ) → list_all is_no_feed line ≡ true
    → header_at (line ++ (codes "\n" ++ rest)) ≡ header_in_line line
unfolding header_at
header_of_first line rest one = ap first_header (one_line line rest one)

-- after a whole line come other lines
pub line_ends : (line rest : List ℕ) → list_all is_no_feed line ≡ true
    → lines ((line ++ codes "\n") ++ rest) ≡ lines (line ++ codes "\n") ++ lines rest
line_ends line rest one =
    ap lines (append_assoc line (codes "\n") rest) ∙ one_line line rest one
    ∙ ap (λ ls. ls ++ lines rest) (sym (alone line one))

-- so it is after whole lines and one more
pub more_end : (text line rest : List ℕ) → ((more : List ℕ) → lines (text ++ more) ≡ lines text ++ lines more)
    → list_all is_no_feed line ≡ true
    → lines ((text ++ (line ++ codes "\n")) ++ rest) ≡ lines (text ++ (line ++ codes "\n")) ++ lines rest
more_end text line rest ends one =
    ap lines (append_assoc text (line ++ codes "\n") rest) ∙ ends ((line ++ codes "\n") ++ rest)
    ∙ ap (λ ls. lines text ++ ls) (line_ends line rest one)
    ∙ sym (append_assoc (lines text) (lines (line ++ codes "\n")) (lines rest))
    ∙ ap (λ ls. ls ++ lines rest) (sym (ends (line ++ codes "\n")))

pub one_more_line : (text line : List ℕ) → ((more : List ℕ) → lines (text ++ more) ≡ lines text ++ lines more)
    → list_all is_no_feed line ≡ true → lines (text ++ (line ++ codes "\n")) ≡ lines text ++ line ∷ []
one_more_line text line ends one = ends (line ++ codes "\n") ∙ ap (λ ls. lines text ++ ls) (alone line one)

pub first_noted : (line text : List ℕ) (header : Header) (meetings : List Meeting) (whole : Bool) → text ≡ line ++ codes "\n"
    → list_all is_no_feed line ≡ true → header_in_line line ≡ Some header → meetings ≡ meetings_in (line ∷ [])
    → whole ≡ bytes_eq (text_in line) (codes "end") → IsNoted text header meetings whole
first_noted line text header meetings whole text_is one header_is meetings_are whole_is =
    subst (λ t. IsNoted t header meetings whole) (sym text_is) (record {
      header_is = header_of_first line [] one ∙ header_is;
      meetings_are = ap meetings_in (alone line one) ∙ sym meetings_are;
      whole_is = ap (λ ls. bytes_eq (text_in (last_of [] ls)) (codes "end")) (alone line one) ∙ sym whole_is;
      ends = λ rest. line_ends line rest one;
    })

pub more_noted : (text line after : List ℕ) (header : Header) (meetings all : List Meeting) (whole last : Bool)
    → IsNoted text header meetings whole → after ≡ text ++ (line ++ codes "\n") → list_all is_no_feed line ≡ true
    → all ≡ meetings ++ meetings_in (line ∷ []) → last ≡ bytes_eq (text_in line) (codes "end")
    → IsNoted after header all last
more_noted text line after header meetings all whole last so after_is one all_are last_is =
    let lines_are = one_more_line text line so.ends one in
    subst (λ t. IsNoted t header all last) (sym after_is) (record {
      header_is = header_stays text (line ++ codes "\n") header (so.ends (line ++ codes "\n")) so.header_is;
      meetings_are = ap meetings_in lines_are ∙ meetings_both (lines text) (line ∷ [])
          ∙ ap (λ ms. ms ++ meetings_in (line ∷ [])) so.meetings_are ∙ sym all_are;
      whole_is = ap (λ ls. bytes_eq (text_in (last_of [] ls)) (codes "end")) lines_are
          ∙ ap (λ l. bytes_eq (text_in l) (codes "end")) (last_line [] line (lines text)) ∙ sym last_is;
      ends = λ rest. more_end text line rest so.ends one;
    })
