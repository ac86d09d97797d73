-- What a receiver hears of a stream that is read in pieces.
use Rattle.std.proofs.Common.{◌≡◌, ◌∙◌, ℕ, zero, suc, ◌<◌, List, [], ◌∷◌, ◌++◌, ◌-◌, append-nil, append_assoc, length, length-drop, take, drop, Option, None, Some, Ok, ap, refl, sym, subst, arith, inl, inr}
use Rattle.std.proofs.lemmas.List.{take_all, take-append-drop}
use Rattle.std.proofs.lemmas.List.Concat.{flat_map-append}
use Rattle.std.specs.Io.KnownBytes.{Consumes, IsAtEnd, Keeps}
use Rattle.std.specs.Prelude.{◌⊎◌, IfSome, slice_index}
use Rattle.rvm_frame.proofs.Streams.{reader_splits}
use Rattle.rvm_frame.specs.declared.frame.Frame.{Frame}
use Rattle.rvm_frame.specs.Grammar.{Received}
use Rattle.rvm_frame.specs.Reader.{Gathered, at_start, next_of}
use Rattle.rvm_frame.specs.Stream.{Feed, Run, Splits, bytes_taken, frames_given, with_frame}
use Rattle.rvm_frame.specs.Verdict.{Decides, verdict}
use Rattle.rvm_message.specs.Exchanges.{PlainExchange}
use Rattle.rvm_cell.specs.declared.end.WorkEnd.{WorkEnd}
use Rattle.rvm_cell.specs.declared.end.WorkEnd.TheVariants.{BadFrame, Done, Failed, GivenUp, GuestStopped, LinkEnded, LinkFault, NoThread, OutOfMemory, OutOfRange, RecorderFull, Stopped, TooLong}
use Rattle.rvm_cell.specs.Heard.{AreHeard, Hears, IsAllButLast, IsFrameEnd, IsHeardOf, IsHeardUpTo, IsReceiverEnd, IsWholeStream}
use Rattle.rvm_station.proofs.Runs.{given_join, run_join, taken_join, waits_run}
use Rattle.rvm_station.specs.Streams.{all_for_host, comes}

-- each of these numbers is below 256
abbrev AreBytes : List ℕ → Type 0
AreBytes bytes = (i : ℕ) → slice_index bytes i < 256

-- ALL BUT THE LAST

-- all was heard, whatever the end
pub all_heard : (end : WorkEnd) (heard all : List Frame) → heard ≡ all → IsAllButLast end heard all
all_heard Done heard all is = is
all_heard LinkEnded heard all is = inl is
all_heard GivenUp heard all is = inl is
all_heard Stopped heard all is = inl is
all_heard GuestStopped heard all is = inl is
all_heard NoThread heard all is = inl is
all_heard OutOfMemory heard all is = inl is
all_heard (RecorderFull n) heard all is = inl is
all_heard OutOfRange heard all is = inl is
all_heard LinkFault heard all is = inl is
all_heard BadFrame heard all is = inl is
all_heard TooLong heard all is = inl is
all_heard Failed heard all is = inl is

-- the last was not heard, and the end is not Done
pub last_unheard : (end : WorkEnd) (heard all : List Frame) (last : Frame) → (end ≡ Done → ⊥) → all ≡ heard ++ last ∷ []
    → IsAllButLast end heard all
last_unheard Done heard all last undone is = absurd (undone refl)
last_unheard LinkEnded heard all last undone is = inr (last, is)
last_unheard GivenUp heard all last undone is = inr (last, is)
last_unheard Stopped heard all last undone is = inr (last, is)
last_unheard GuestStopped heard all last undone is = inr (last, is)
last_unheard NoThread heard all last undone is = inr (last, is)
last_unheard OutOfMemory heard all last undone is = inr (last, is)
last_unheard (RecorderFull n) heard all last undone is = inr (last, is)
last_unheard OutOfRange heard all last undone is = inr (last, is)
last_unheard LinkFault heard all last undone is = inr (last, is)
last_unheard BadFrame heard all last undone is = inr (last, is)
last_unheard TooLong heard all last undone is = inr (last, is)
last_unheard Failed heard all last undone is = inr (last, is)

-- a receiver may end as it does at a frame
frame_end : (from to : ℕ) (end : WorkEnd) (last : Option PlainExchange) (bytes : Option (List ℕ)) (heard : List Frame) → IsFrameEnd end last
    → IsReceiverEnd from to end last bytes heard
frame_end from to Done last bytes heard is = is
frame_end from to LinkEnded last bytes heard is = absurd is
frame_end from to GivenUp last bytes heard is = is
frame_end from to Stopped last bytes heard is = is
frame_end from to GuestStopped last bytes heard is = is
frame_end from to NoThread last bytes heard is = is
frame_end from to OutOfMemory last bytes heard is = is
frame_end from to (RecorderFull n) last bytes heard is = is
frame_end from to OutOfRange last bytes heard is = is
frame_end from to LinkFault last bytes heard is = is
frame_end from to BadFrame last bytes heard is = is
frame_end from to TooLong last bytes heard is = is
frame_end from to Failed last bytes heard is = is

-- a receiver that ends at a frame, or with its link, whose whole stream it heard
pub receiver_end : (from to : ℕ) (end : WorkEnd) (last : Option PlainExchange) (bytes : Option (List ℕ)) (heard : List Frame)
    → IsFrameEnd end last ⊎ (end ≡ LinkEnded) → (end ≡ LinkEnded → IfSome bytes (λ all. IsWholeStream from to all heard))
    → IsReceiverEnd from to end last bytes heard
receiver_end from to end last bytes heard (inl is) whole = frame_end from to end last bytes heard is
receiver_end from to end last bytes heard (inr is) whole =
    subst (λ e. IsReceiverEnd from to e last bytes heard) (sym is) (whole is)

-- WHAT A READER WAS FED

heard_join : (from to : ℕ) (before : List Frame) (cs ds : List Feed)
    → before ++ all_for_host from to (frames_given (cs ++ ds))
    ≡ (before ++ all_for_host from to (frames_given cs)) ++ all_for_host from to (frames_given ds)
heard_join from to before cs ds =
    ap (λ l. before ++ all_for_host from to l) (given_join cs ds)
    ∙ ap (λ l. before ++ l) (flat_map-append (λ x. comes from to x) (frames_given cs) (frames_given ds))
    ∙ sym (append_assoc before (all_for_host from to (frames_given cs)) (all_for_host from to (frames_given ds)))

-- nothing was fed, and nothing was heard
pub none_heard : (from to : ℕ) (g : Gathered) (heard : List Frame) → AreHeard from to g [] heard heard g
none_heard from to g heard = record { feeds = []; run = refl; taken = refl; heard = sym (append-nil heard) }

-- bytes were fed and heard, and then more
pub heard_more : (from to : ℕ) (a b c : Gathered) (one two : List ℕ) (before between behind : List Frame) → AreHeard from to a one before between b
    → AreHeard from to b two between behind c → AreHeard from to a (one ++ two) before behind c
heard_more from to a b c one two before between behind first second = record {
  feeds = first.feeds ++ second.feeds;
  run = run_join first.feeds second.feeds a b c first.run second.run;
  taken =
      taken_join first.feeds second.feeds ∙ ap (λ l. l ++ bytes_taken second.feeds) first.taken
      ∙ ap (λ l. one ++ l) second.taken;
  heard =
      second.heard ∙ ap (λ l. l ++ all_for_host from to (frames_given second.feeds)) first.heard
      ∙ sym (heard_join from to before first.feeds second.feeds);
}

-- bytes were fed and heard, and then the worker ended
pub heard_up_to : (from to : ℕ) (end : WorkEnd) (a b : Gathered) (one two : List ℕ) (before between behind : List Frame)
    → AreHeard from to a one before between b → IsHeardUpTo from to end b two between behind → IsHeardUpTo from to end a (one ++ two) before behind
heard_up_to from to end a b one two before between behind first second = record {
  feeds = first.feeds ++ second.feeds;
  new = second.new;
  rest = second.rest;
  run = run_join first.feeds second.feeds a b second.new first.run second.run;
  taken =
      ap (λ l. l ++ two) (sym first.taken) ∙ ap (λ l. bytes_taken first.feeds ++ l) second.taken
      ∙ sym (append_assoc (bytes_taken first.feeds) (bytes_taken second.feeds) second.rest)
      ∙ ap (λ l. l ++ second.rest) (sym (taken_join first.feeds second.feeds));
  heard =
      subst (IsAllButLast end behind)
      (ap (λ l. l ++ all_for_host from to (frames_given second.feeds)) first.heard ∙ sym (heard_join from to before first.feeds second.feeds))
      second.heard;
}

-- the worker ended before anything more was fed
pub heard_no_more : (from to : ℕ) (end : WorkEnd) (g : Gathered) (bytes : List ℕ) (heard : List Frame) → IsHeardUpTo from to end g bytes heard heard
heard_no_more from to end g bytes heard = record {
  feeds = [];
  new = g;
  rest = bytes;
  run = refl;
  taken = refl;
  heard = all_heard end heard (heard ++ []) (sym (append-nil heard));
}

-- ONE FEED

-- a reader that waits for more does so after frames that were heard
pub waits_heard : (from to : ℕ) (old : Gathered) (bytes : List ℕ) (before behind : List Frame) (new : Gathered) → verdict old.version old.bytes ≡ Ok None
    → AreHeard from to old bytes before behind new → verdict new.version new.bytes ≡ Ok None
waits_heard from to old bytes before behind new waits heard = waits_run heard.feeds old new waits heard.run

-- a feed takes at least one byte
pub takes_some : (old : Gathered) (piece : List ℕ) (n : ℕ) (o : Option Received) → verdict old.version old.bytes ≡ Ok None
    → 0 < length piece → Decides old.version old.bytes piece n (Ok o) → 0 < n
takes_some old piece zero None waits some d = let len = d.all_taken refl in omega arith
takes_some old piece zero (Some x) waits some d =
    let same : verdict old.version old.bytes ≡ Ok (Some x) =
    ap (λ (l : List ℕ). verdict old.version l) (sym (append-nil old.bytes)) ∙ d.decided in
    absurd (cc (waits, same))
takes_some old piece (suc n) o waits some d = omega arith

-- the frame that a feed gave was heard
pub one_heard : (from to : ℕ) (old new : Gathered) (piece : List ℕ) (n : ℕ) (x : Received) (before behind : List Frame) → AreBytes piece
    → Decides old.version old.bytes piece n (Ok (Some x)) → new ≡ next_of old piece (Some x) → behind ≡ before ++ comes from to x
    → AreHeard from to old (take n piece) before behind new
one_heard from to old new piece n x before behind fits d is heard = record {
  feeds = record { piece = piece; taken = n; frame = Some x } ∷ [];
  run = (fits, d, is);
  taken = append-nil (take n piece);
  heard = heard ∙ ap (λ l. before ++ l) (sym (append-nil (comes from to x)));
}

-- a feed gave no frame
pub no_frame : (from to : ℕ) (old new : Gathered) (piece : List ℕ) (n : ℕ) (heard : List Frame) → AreBytes piece
    → Decides old.version old.bytes piece n (Ok None) → new ≡ next_of old piece None → AreHeard from to old (take n piece) heard heard new
no_frame from to old new piece n heard fits d is = record {
  feeds = record { piece = piece; taken = n; frame = None } ∷ [];
  run = (fits, d, is);
  taken = append-nil (take n piece);
  heard = sym (append-nil heard);
}

-- the worker ended with the frame that a feed gave
pub ended_with : (from to : ℕ) (end : WorkEnd) (old : Gathered) (piece : List ℕ) (n : ℕ) (x : Received) (before behind : List Frame) → AreBytes piece
    → Decides old.version old.bytes piece n (Ok (Some x)) → IsAllButLast end behind (before ++ comes from to x)
    → IsHeardUpTo from to end old piece before behind
ended_with from to end old piece n x before behind fits d heard = record {
  feeds = record { piece = piece; taken = n; frame = Some x } ∷ [];
  new = next_of old piece (Some x);
  rest = drop n piece;
  run = (fits, d, refl);
  taken = sym (ap (λ l. l ++ drop n piece) (append-nil (take n piece)) ∙ take-append-drop n piece);
  heard = subst (λ l. IsAllButLast end behind (before ++ l)) (sym (append-nil (comes from to x))) heard;
}

-- WHAT A LINK GIVES

consumed_more : (first between last : Option (List ℕ)) (one two : List ℕ) → Consumes first between one
    → Consumes between last two → Consumes first last (one ++ two)
consumed_more None between last one two a b = tt
consumed_more (Some xs) None last one two a b = absurd a
consumed_more (Some xs) (Some ys) None one two a b = absurd b
consumed_more (Some xs) (Some ys) (Some zs) one two a b =
    a ∙ ap (λ l. one ++ l) b ∙ sym (append_assoc one two zs)

consumed_none : (before after : Option (List ℕ)) → Keeps before after → Consumes before after []
consumed_none None after same = tt
consumed_none (Some xs) None same = absurd same
consumed_none (Some xs) (Some ys) same = sym same

kept : (bytes : Option (List ℕ)) → Keeps bytes bytes
kept None = tt
kept (Some xs) = refl

-- a link gave nothing
pub hears_nothing : (from to : ℕ) (before after : Option (List ℕ)) (g : Gathered) (heard : List Frame) → Keeps before after
    → Hears from to before after g heard heard g
hears_nothing from to before after g heard same =
    record { read = []; consumed = consumed_none before after same; heard = none_heard from to g heard }

-- a link was not read yet
pub hears_none : (from to : ℕ) (bytes : Option (List ℕ)) (g : Gathered) (heard : List Frame) → Hears from to bytes bytes g heard heard g
hears_none from to bytes g heard = hears_nothing from to bytes bytes g heard (kept bytes)

-- a link gave a piece
pub hears_piece : (from to : ℕ) (before after : Option (List ℕ)) (piece : List ℕ) (old new : Gathered) (first last : List Frame)
    → Consumes before after piece → AreHeard from to old piece first last new → Hears from to before after old first last new
hears_piece from to before after piece old new first last consumed heard =
    record { read = piece; consumed = consumed; heard = heard }

-- a link gave pieces, and then more
pub hears_more : (from to : ℕ) (first between last : Option (List ℕ)) (a b c : Gathered) (one two three : List Frame)
    → Hears from to first between a one two b → Hears from to between last b two three c → Hears from to first last a one three c
hears_more from to first between last a b c one two three x y = record {
  read = x.read ++ y.read;
  consumed = consumed_more first between last x.read y.read x.consumed y.consumed;
  heard = heard_more from to a b c x.read y.read one two three x.heard y.heard;
}

-- a link gave pieces, and then the worker ended
pub hears_up_to : (from to : ℕ) (end : WorkEnd) (first last : Option (List ℕ)) (a b : Gathered) (one two three : List Frame)
    → Hears from to first last a one two b → IfSome last (λ bytes. IsHeardUpTo from to end b bytes two three)
    → IfSome first (λ bytes. IsHeardUpTo from to end a bytes one three)
hears_up_to from to end None last a b one two three x up = tt
hears_up_to from to end (Some xs) None a b one two three x up = let c = x.consumed in absurd c
hears_up_to from to end (Some xs) (Some ys) a b one two three x up =
    subst (λ l. IsHeardUpTo from to end a l one three) (sym x.consumed) (heard_up_to from to end a b x.read ys one two three x.heard up)

-- the worker ended within a piece of the link
pub piece_up_to : (from to : ℕ) (end : WorkEnd) (first last : Option (List ℕ)) (piece : List ℕ) (g : Gathered) (before behind : List Frame)
    → Consumes first last piece → IsHeardUpTo from to end g piece before behind
    → IfSome first (λ bytes. IsHeardUpTo from to end g bytes before behind)
piece_up_to from to end None last piece g before behind consumed up = tt
piece_up_to from to end (Some xs) None piece g before behind consumed up = absurd consumed
piece_up_to from to end (Some xs) (Some ys) piece g before behind consumed up = record {
  feeds = up.feeds;
  new = up.new;
  rest = up.rest ++ ys;
  run = up.run;
  taken = consumed ∙ ap (λ l. l ++ ys) up.taken ∙ append_assoc (bytes_taken up.feeds) up.rest ys;
  heard = up.heard;
}

-- the worker ended before it heard more of the link
pub ends_heard : (from to : ℕ) (end : WorkEnd) (bytes : Option (List ℕ)) (g : Gathered) (heard : List Frame)
    → IfSome bytes (λ l. IsHeardUpTo from to end g l heard heard)
ends_heard from to end None g heard = tt
ends_heard from to end (Some l) g heard = heard_no_more from to end g l heard

-- a reader that was fed from the first byte on waits for more
pub waits_hears : (from to : ℕ) (before after : Option (List ℕ)) (first last : List Frame) (g : Gathered) → Hears from to before after at_start first last g
    → verdict g.version g.bytes ≡ Ok None
waits_hears from to before after first last g h = waits_heard from to at_start h.read first last g refl h.heard

kept_at_end : (before after : Option (List ℕ)) → Keeps before after → IsAtEnd after → IsAtEnd before
kept_at_end None after same end = tt
kept_at_end (Some xs) None same end = absurd same
kept_at_end (Some xs) (Some ys) same end = sym same ∙ end

-- a link that gives nothing and has nothing left had nothing left
pub kept_end : (before after : Option (List ℕ)) → Keeps before after × IsAtEnd after → IsAtEnd before
kept_end before after both = kept_at_end before after both.0 both.1

-- if nothing is left after the last frame, the whole stream was heard
pub whole_heard : (from to : ℕ) (first last : Option (List ℕ)) (heard : List Frame) (g : Gathered) → Hears from to first last at_start [] heard g
    → IsAtEnd last → g.bytes ≡ [] → IfSome first (λ bytes. IsWholeStream from to bytes heard)
whole_heard from to None last heard g h end between = tt
whole_heard from to (Some xs) None heard g h end between = let c = h.consumed in absurd c
whole_heard from to (Some xs) (Some ys) heard g h end between =
    let feeds = h.heard.feeds in
    let all : xs ≡ bytes_taken feeds = h.consumed ∙ ap (λ l. h.read ++ l) end ∙ append-nil h.read ∙ sym h.heard.taken in
    record {
      frames = frames_given feeds;
      stream = subst (λ l. Splits None l (frames_given feeds) []) (sym all)
          (subst (Splits None (bytes_taken feeds) (frames_given feeds)) between (reader_splits feeds g h.heard.run));
      told = h.heard.heard;
    }

-- a reader was fed the first bytes of the whole stream
pub heard_of : (from to : ℕ) (bytes : List ℕ) (end : WorkEnd) (heard : List Frame) → IsHeardUpTo from to end at_start bytes [] heard
    → IsHeardOf from to bytes end heard
heard_of from to bytes end heard up = record {
  read = bytes_taken up.feeds;
  rest = up.rest;
  frames = frames_given up.feeds;
  unfinished = up.new.bytes;
  whole = up.taken;
  stream = reader_splits up.feeds up.new up.run;
  told = up.heard;
}
