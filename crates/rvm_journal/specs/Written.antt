-- The file of a journal that is written, line by line.
use Rattle.std.specs.Prelude.{◌≡◌, ⊤, ℕ, ◌==◌, not, Bool, true, false, List, [], ◌∷◌, ◌++◌, length, Option, Some, None, codes, option_map}
use Rattle.std.specs.Option.{option_and_then}
use Rattle.std.specs.List.{list_all}
use Rattle.std.specs.Io.KnownBytes.{Appends}
use Rattle.rvm_debug.specs.Words.{lines}
use Rattle.rvm_message.specs.declared.event.HostEvent.{HostEvent}
use Rattle.rvm_journal.specs.declared.noted.Noted.TheVariants.{Turns}
use Rattle.rvm_journal.specs.declared.run.Run.{Run}
use Rattle.rvm_journal.specs.Noting.{events_of}
use Rattle.rvm_journal.specs.Told.{Told, digest_after, line_of, mark, told_in}

-- a byte ends no line
abbrev pub is_no_feed : ℕ → Bool
is_no_feed b = not (b == 10)

-- the line of a text, which comes without its line feed, was added after the line with digest `old`
pub record Puts (old text new : List ℕ) (before after : Option (List ℕ)) : Type 0 where
  pub digest : new ≡ digest_after old (text ++ codes "\n")
  pub size : length (mark new) ≡ 17
  pub one : list_all is_no_feed (mark new ++ text) ≡ true
  pub added : Appends before after (line_of old (text ++ codes "\n"))

-- events that are known, and these after them
abbrev pub with_more : Option (List HostEvent) → List HostEvent → Option (List HostEvent)
with_more known events = option_map (λ before. before ++ events) known

-- the events of the turns that have no line yet
abbrev pub waiting : Option Run → List HostEvent
waiting None = []
waiting (Some run) = events_of (Turns run)

-- the events that the lines of a journal tell, if it is known, and the turns that have no line yet
pub record Keeping : Type 0 where
  pub told : Option (List HostEvent)
  pub run : Option Run

-- the events that were kept
abbrev pub kept_of : Keeping → Option (List HostEvent)
kept_of k = with_more k.told (waiting k.run)

-- these bytes are whole lines, and tell these events; the digest of the last line is this one
pub record IsWritten (hosts host : ℕ) (digest bytes : List ℕ) (events : List HostEvent) : Type 0 where
  pub whole : (rest : List ℕ) → lines (bytes ++ rest) ≡ lines bytes ++ lines rest
  pub told : told_in hosts host bytes ≡ Some (record { digest = digest; events = events })

-- whether it is known that there are no bytes
abbrev pub is_empty : Option (List ℕ) → Bool
is_empty None = false
is_empty (Some []) = true
is_empty (Some (b ∷ bs)) = false

-- what is known of the bytes of a file: nothing, unless it was empty when its journal began; else they tell some events
abbrev pub IsTelling : (empty : Bool) → (hosts host : ℕ) → (digest : List ℕ) → Option (List ℕ) → Type 0
IsTelling false n h digest contents = ⊤
IsTelling true n h digest None = ⊥
IsTelling true n h digest (Some bytes) = (events : List HostEvent) × IsWritten n h digest bytes events

-- the file of a journal, which was known to be empty when the journal began, or not; this is the digest of its last line
pub record IsFile (empty : Bool) (hosts host : ℕ) (digest : List ℕ) (contents : Option (List ℕ)) : Type 0 where
  pub telling : IsTelling empty hosts host digest contents

-- the events that the lines of a file tell, if it was empty when its journal began
abbrev pub told_at : (empty : Bool) → (hosts host : ℕ) → Option (List ℕ) → Option (List HostEvent)
told_at false n h contents = None
told_at true n h contents = option_map (λ (t : Told). t.events) (option_and_then (told_in n h) contents)
