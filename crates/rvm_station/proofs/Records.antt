-- What is heard on a connection that is read record by record.
use Rattle.std.proofs.Common.{◌≡◌, ◌∙◌, ℕ, ◌<◌, Bool, true, false, List, [], ◌∷◌, ◌++◌, append-nil, append_assoc, drop, take, Option, None, Some, Ok, ap, inl, inr, refl, subst, sym}
use Rattle.std.proofs.lemmas.List.{map-append, take-append-drop}
use Rattle.std.proofs.lemmas.List.Concat.{flat_map-append}
use Rattle.std.proofs.lemmas.List.Elements.{All-append, All-cons, All-nil}
use Rattle.std.specs.Io.KnownBytes.{Consumes}
use Rattle.std.specs.List.{All}
use Rattle.std.specs.Prelude.{◌⊎◌, IfSome, if◌then◌else◌, map, slice_index}
use Rattle.rvm_frame.proofs.Streams.{reader_splits, same_refusal}
use Rattle.rvm_frame.specs.declared.fault.FrameFault.{FrameFault}
use Rattle.rvm_frame.specs.declared.fault.FrameFault.TheVariants as fault
use Rattle.rvm_frame.specs.declared.frame.Frame.{Frame}
use Rattle.rvm_frame.specs.declared.frame.Frame.TheVariants as frame
use Rattle.rvm_frame.specs.Grammar.{Received}
use Rattle.rvm_frame.specs.Reader.{Faults, Gathered, at_start, next_of}
use Rattle.rvm_frame.specs.Stream.{Feed, Run, bytes_taken, frames_given}
use Rattle.rvm_frame.specs.Verdict.{Decides, verdict}
use Rattle.rvm_station.proofs.Asked.{both_answered, none_answered}
use Rattle.rvm_station.specs.Asked.{Answers, AreAnswered}
use Rattle.rvm_message.specs.declared.event.HostEvent.{HostEvent}
use Rattle.rvm_message.specs.declared.event.HostEvent.TheVariants as event
use Rattle.rvm_message.specs.declared.reply.HostReply.{HostReply}
use Rattle.rvm_message.specs.Exchanges.{PlainExchange, exchange}
use Rattle.rvm_link.proofs.Pieces.{both_taken}
use Rattle.rvm_link.specs.declared.record_fault.RecordFault.{RecordFault}
use Rattle.rvm_link.specs.declared.record_fault.RecordFault.TheVariants as record_fault
use Rattle.rvm_link.specs.Records.{Answer, Data, Fits, Question, Record, bytes_in, data_in, data_of, record_bytes}
use Rattle.rvm_station.proofs.Runs.{given_join, run_join, taken_join, waits_run}
use Rattle.rvm_station.specs.Streams.{all_for_host, comes, for_host, is_between}
use Rattle.rvm_station.specs.declared.host_hearing.HearEnd.{HearEnd}
use Rattle.rvm_station.specs.declared.host_hearing.HearEnd.TheVariants.{BadStream, Closed, OutOfMemory}
use Rattle.rvm_station.specs.Hearing.{AllButLast, AreRead, AreReadUpTo, AreTold, AreToldUpTo, EndsBehind, HaveCome, IsBad, IsBadData, IsHeardOn, IsNoRecord, NamesOthers, of_frame, of_record}

-- each of these numbers is below 256
abbrev AreBytes : List ℕ → Type 0
AreBytes bytes = (i : ℕ) → slice_index bytes i < 256

-- ONE FRAME

-- a frame comes, or it is Hello
frame_or_none : (f : Frame) → (for_host f ≡ f ∷ []) ⊎ (for_host f ≡ [])
frame_or_none (frame.Hello version) = inr refl
frame_or_none (frame.Offer n pages harts) = inl refl
frame_or_none (frame.Accept n) = inl refl
frame_or_none (frame.Refuse n limit) = inl refl
frame_or_none (frame.Page n page number bytes) = inl refl
frame_or_none (frame.RoundEnd n round sent skipped left) = inl refl
frame_or_none (frame.Lost n pages) = inl refl
frame_or_none (frame.State n numbers state) = inl refl
frame_or_none (frame.Ready n) = inl refl
frame_or_none (frame.Go n) = inl refl
frame_or_none (frame.Started n) = inl refl
frame_or_none (frame.Abort n) = inl refl
frame_or_none (frame.Zero n page number) = inl refl
frame_or_none (frame.Part n stamp part parts bytes) = inl refl

one_or_none : (is : Bool) (f : Frame) → ((if is then for_host f else []) ≡ f ∷ []) ⊎ ((if is then for_host f else []) ≡ [])
one_or_none true f = frame_or_none f
one_or_none false f = inr refl

-- if nothing came of at most one frame, all came or all but the last
none_or_last : (come : List Frame) (f : Frame) → (come ≡ f ∷ []) ⊎ (come ≡ []) → AllButLast [] (come ++ [])
none_or_last come f (inl is) = inr (f, append-nil come ∙ is)
none_or_last come f (inr is) = inl (sym (append-nil come ∙ is))

-- RUNS OF A READER

failed_next : (old : Gathered) (piece : List ℕ) (o : Option Received) → (next_of old piece o).failed ≡ old.failed
failed_next old piece None = refl
failed_next old piece (Some x) = refl

failed_run : (cs : List Feed) (old new : Gathered) → Run old cs new → new.failed ≡ old.failed
failed_run [] old new run = ap (λ (g : Gathered). g.failed) run
failed_run (f ∷ cs) old new run =
    failed_run cs (next_of old f.piece f.frame) new run.2 ∙ failed_next old f.piece f.frame

-- a reader that has refused nothing refuses these bytes
refused : (g : Gathered) (piece : List ℕ) (why : FrameFault) → g.failed ≡ false → Faults g piece why
    → (from to : ℕ) → IsBadData from to (of_frame why) g piece []
refused g piece fault.OutOfMemory unfailed is from to = tt
refused g piece fault.BadFrame unfailed is from to = inl (is.1.0, _, is.1.1)
refused g piece fault.TooLong unfailed is from to = inl (is.1.0, _, is.1.1)
refused g piece fault.Failed unfailed is from to = absurd (cc (unfailed, is))

none_taken : (bytes : Option (List ℕ)) → Consumes bytes bytes []
none_taken None = tt
none_taken (Some xs) = refl

module _ (from to : ℕ) where
  -- the frames of two runs
  all_join : (cs ds : List Feed)
      → all_for_host from to (frames_given (cs ++ ds))
      ≡ all_for_host from to (frames_given cs) ++ all_for_host from to (frames_given ds)
  all_join cs ds =
      ap (λ l. all_for_host from to l) (given_join cs ds)
      ∙ flat_map-append (λ x. comes from to x) (frames_given cs) (frames_given ds)

  -- the last of more frames names other hosts
  others_more : (xs ys : List Received) → NamesOthers from to ys → NamesOthers from to (xs ++ ys)
  others_more xs ys (first, last, is, other) =
      (xs ++ first, last, ap (λ l. xs ++ l) is ∙ sym (append_assoc xs first (last ∷ [])), other)

  bad_more : (end : HearEnd) (g : Gathered) (left : List ℕ) (xs ys : List Received) → IsBadData from to end g left ys
      → IsBadData from to end g left (xs ++ ys)
  bad_more BadStream g left xs ys (inl is) = inl is
  bad_more BadStream g left xs ys (inr is) = inr (others_more xs ys is)
  bad_more Closed g left xs ys is = tt
  bad_more OutOfMemory g left xs ys is = tt

  -- the last frame names other hosts
  bad_frame : (end : HearEnd) (g : Gathered) (left : List ℕ) (x : Received) → (end ≡ BadStream → is_between from to x.0 ≡ false)
      → IsBadData from to end g left (x ∷ [])
  bad_frame BadStream g left x other = inr ([], x, refl, other refl)
  bad_frame Closed g left x other = tt
  bad_frame OutOfMemory g left x other = tt

  -- what a reader from the first byte on refuses is a bad stream
  bad_data : (end : HearEnd) (feeds : List Feed) (new : Gathered) (carried left rest : List ℕ) → Run at_start feeds new
      → carried ≡ bytes_taken feeds ++ left → IsBadData from to end new left (frames_given feeds)
      → IsBad from to end rest carried (frames_given feeds)
  bad_data BadStream feeds new carried left rest run taken (inl (n, why, d)) =
      inr (inl (λ other end others all.
      same_refusal feeds other new end left (drop n left) n why run d others
      (all ∙ taken ∙ ap (λ l. bytes_taken feeds ++ l) (sym (take-append-drop n left))
      ∙ sym (append_assoc (bytes_taken feeds) (take n left) (drop n left)))))
  bad_data BadStream feeds new carried left rest run taken (inr is) = inr (inr is)
  bad_data Closed feeds new carried left rest run taken is = tt
  bad_data OutOfMemory feeds new carried left rest run taken is = tt

  bad_behind : (end : HearEnd) (rest carried : List ℕ) (frames : List Received) → (end ≡ BadStream → IsNoRecord rest)
      → IsBad from to end rest carried frames
  bad_behind BadStream rest carried frames none = inl (none refl)
  bad_behind Closed rest carried frames none = tt
  bad_behind OutOfMemory rest carried frames none = tt

-- all came, or all but the last, after frames that came
all_behind : (before told all : List Frame) → AllButLast told all → AllButLast (before ++ told) (before ++ all)
all_behind before told all (inl is) = inl (ap (λ l. before ++ l) is)
all_behind before told all (inr (last, is)) =
    inr (last, ap (λ l. before ++ l) is ∙ sym (append_assoc before told (last ∷ [])))

module _ (gave : Answers) (from to : ℕ) where
  -- nothing came
  none_has : (asked : Option (List PlainExchange)) → HaveCome gave from asked asked []
  none_has asked = record { exchanges = []; answered = none_answered gave asked; events = refl }

  pub unasked : (before now : Option (List PlainExchange)) → AreAnswered gave before now [] → HaveCome gave from before now []
  unasked before now answered = record { exchanges = []; answered = answered; events = refl }

  -- one frame came
  one_has : (before now : Option (List PlainExchange)) (f : Frame) (reply : HostReply)
      → AreAnswered gave before now (exchange (event.Came from f) reply ∷ []) → HaveCome gave from before now (f ∷ [])
  one_has before now f reply answered = record {
    exchanges = exchange (event.Came from f) reply ∷ [];
    answered = answered;
    events = refl;
  }

  -- frames came, and then more
  both_have : (before mid now : Option (List PlainExchange)) (xs ys : List Frame) → HaveCome gave from before mid xs
      → HaveCome gave from mid now ys → HaveCome gave from before now (xs ++ ys)
  both_have before mid now xs ys one two = record {
    exchanges = one.exchanges ++ two.exchanges;
    answered = both_answered gave before mid now one.exchanges two.exchanges one.answered two.answered;
    events =
        map-append (λ (x : PlainExchange). x.event) one.exchanges two.exchanges
        ∙ ap (λ (l : List HostEvent). l ++ map (λ (x : PlainExchange). x.event) two.exchanges) one.events
        ∙ ap (λ (l : List HostEvent). map (event.Came from) xs ++ l) two.events
        ∙ sym (map-append (event.Came from) xs ys);
  }

  -- nothing comes of a Hello between these hosts
  pub none_came : (asked : Option (List PlainExchange)) (hosts : Option (ℕ × ℕ)) (f : Frame) → is_between from to hosts ≡ true
      → for_host f ≡ [] → HaveCome gave from asked asked (comes from to (hosts, f))
  none_came asked hosts f between none =
      let is : comes from to (hosts, f) ≡ [] = ap (λ (b : Bool). if b then for_host f else []) between ∙ none in
      subst (HaveCome gave from asked asked) (sym is) (none_has asked)

  -- a frame between these hosts that is not Hello comes
  pub one_came : (before now : Option (List PlainExchange)) (hosts : Option (ℕ × ℕ)) (f : Frame) (reply : HostReply)
      → is_between from to hosts ≡ true → for_host f ≡ f ∷ []
      → AreAnswered gave before now (exchange (event.Came from f) reply ∷ [])
      → HaveCome gave from before now (comes from to (hosts, f))
  one_came before now hosts f reply between one answered =
      let is : comes from to (hosts, f) ≡ f ∷ [] = ap (λ (b : Bool). if b then for_host f else []) between ∙ one in
      subst (HaveCome gave from before now) (sym is) (one_has before now f reply answered)

  -- WHAT A READER IS FED

  -- nothing was fed
  pub none_told : (asked : Option (List PlainExchange)) (g : Gathered) → AreTold gave from to asked asked g [] g
  none_told asked g = record { feeds = []; run = refl; taken = refl; came = none_has asked }

  -- bytes were fed and told, and then more
  pub told_more : (before mid now : Option (List PlainExchange)) (a b c : Gathered) (one two : List ℕ)
      → AreTold gave from to before mid a one b → AreTold gave from to mid now b two c
      → AreTold gave from to before now a (one ++ two) c
  told_more before mid now a b c one two x y = record {
    feeds = x.feeds ++ y.feeds;
    run = run_join x.feeds y.feeds a b c x.run y.run;
    taken = taken_join x.feeds y.feeds ∙ ap (λ l. l ++ bytes_taken y.feeds) x.taken ∙ ap (λ l. one ++ l) y.taken;
    came =
        subst (HaveCome gave from before now) (sym (all_join from to x.feeds y.feeds))
        (both_have before mid now (all_for_host from to (frames_given x.feeds)) (all_for_host from to (frames_given y.feeds)) x.came y.came);
  }

  -- bytes were fed and told, and then hearing ended so
  pub told_up_to : (end : HearEnd) (before mid now : Option (List PlainExchange)) (a b : Gathered) (one two : List ℕ)
      → AreTold gave from to before mid a one b → AreToldUpTo gave from to end mid now b two
      → AreToldUpTo gave from to end before now a (one ++ two)
  told_up_to end before mid now a b one two x y =
      let first = all_for_host from to (frames_given x.feeds) in
      record {
        feeds = x.feeds ++ y.feeds;
        new = y.new;
        left = y.left;
        told = first ++ y.told;
        run = run_join x.feeds y.feeds a b y.new x.run y.run;
        taken =
            ap (λ l. l ++ two) (sym x.taken) ∙ ap (λ l. bytes_taken x.feeds ++ l) y.taken
            ∙ sym (append_assoc (bytes_taken x.feeds) (bytes_taken y.feeds) y.left)
            ∙ ap (λ l. l ++ y.left) (sym (taken_join x.feeds y.feeds));
        in_order =
            subst (AllButLast (first ++ y.told)) (sym (all_join from to x.feeds y.feeds))
            (all_behind first y.told (all_for_host from to (frames_given y.feeds)) y.in_order);
        came = both_have before mid now first y.told x.came y.came;
        bad =
            subst (IsBadData from to end y.new y.left) (sym (given_join x.feeds y.feeds))
            (bad_more from to end y.new y.left (frames_given x.feeds) (frames_given y.feeds) y.bad);
      }

  -- hearing ended so before anything more was fed
  told_no_more : (end : HearEnd) (asked : Option (List PlainExchange)) (g : Gathered) (bytes : List ℕ)
      → IsBadData from to end g bytes [] → AreToldUpTo gave from to end asked asked g bytes
  told_no_more end asked g bytes bad = record {
    feeds = [];
    new = g;
    left = bytes;
    told = [];
    run = refl;
    taken = refl;
    in_order = inl refl;
    came = none_has asked;
    bad = bad;
  }

  -- the reader refused a piece, or had no memory for it
  pub not_fed : (asked : Option (List PlainExchange)) (g : Gathered) (piece : List ℕ) (why : FrameFault) → g.failed ≡ false
      → Faults g piece why → AreToldUpTo gave from to (of_frame why) asked asked g piece
  not_fed asked g piece why unfailed is = told_no_more (of_frame why) asked g piece (refused g piece why unfailed is from to)

  -- the frame that a feed gave came
  pub one_told : (before now : Option (List PlainExchange)) (old new : Gathered) (piece : List ℕ) (n : ℕ) (x : Received)
      → AreBytes piece → Decides old.version old.bytes piece n (Ok (Some x)) → new ≡ next_of old piece (Some x)
      → HaveCome gave from before now (comes from to x) → AreTold gave from to before now old (take n piece) new
  one_told before now old new piece n x fits d is came = record {
    feeds = record { piece = piece; taken = n; frame = Some x } ∷ [];
    run = (fits, d, is);
    taken = append-nil (take n piece);
    came = subst (HaveCome gave from before now) (sym (append-nil (comes from to x))) came;
  }

  -- a feed gave no frame
  pub no_frame : (asked : Option (List PlainExchange)) (old new : Gathered) (piece : List ℕ) (n : ℕ) → AreBytes piece
      → Decides old.version old.bytes piece n (Ok None) → new ≡ next_of old piece None
      → AreTold gave from to asked asked old (take n piece) new
  no_frame asked old new piece n fits d is = record {
    feeds = record { piece = piece; taken = n; frame = None } ∷ [];
    run = (fits, d, is);
    taken = append-nil (take n piece);
    came = none_has asked;
  }

  -- hearing ended at the frame that a feed gave
  pub ended_at : (end : HearEnd) (before now : Option (List PlainExchange)) (old : Gathered) (piece : List ℕ) (n : ℕ) (x : Received)
      → AreBytes piece → Decides old.version old.bytes piece n (Ok (Some x))
      → (end ≡ BadStream → is_between from to x.0 ≡ false) → HaveCome gave from before now []
      → AreToldUpTo gave from to end before now old piece
  ended_at end before now old piece n x fits d other came = record {
    feeds = record { piece = piece; taken = n; frame = Some x } ∷ [];
    new = next_of old piece (Some x);
    left = drop n piece;
    told = [];
    run = (fits, d, refl);
    taken = sym (ap (λ l. l ++ drop n piece) (append-nil (take n piece)) ∙ take-append-drop n piece);
    in_order = none_or_last (comes from to x) x.1 (one_or_none (is_between from to x.0) x.1);
    came = came;
    bad = bad_frame from to end (next_of old piece (Some x)) (drop n piece) x other;
  }

  -- a reader that waits for more and has refused nothing does so after these frames
  pub waits_told : (before now : Option (List PlainExchange)) (old new : Gathered) (bytes : List ℕ)
      → verdict old.version old.bytes ≡ Ok None → AreTold gave from to before now old bytes new
      → verdict new.version new.bytes ≡ Ok None
  waits_told before now old new bytes waits x = waits_run x.feeds old new waits x.run

  pub unfailed_told : (before now : Option (List PlainExchange)) (old new : Gathered) (bytes : List ℕ) → old.failed ≡ false
      → AreTold gave from to before now old bytes new → new.failed ≡ false
  unfailed_told before now old new bytes unfailed x = failed_run x.feeds old new x.run ∙ unfailed

  -- RECORDS

  -- no record was read
  pub none_read : (asked : Option (List PlainExchange)) (bytes : Option (List ℕ)) (g : Gathered)
      → AreRead gave from to asked asked bytes bytes g g
  none_read asked bytes g = record { records = []; fit = All-nil Fits; consumed = none_taken bytes; told = none_told asked g }

  -- a record that carries a piece was read
  pub data_read : (before now : Option (List PlainExchange)) (first last : Option (List ℕ)) (piece : List ℕ) (old new : Gathered)
      → Fits (Data piece) → Consumes first last (record_bytes (Data piece)) → AreTold gave from to before now old piece new
      → AreRead gave from to before now first last old new
  data_read before now first last piece old new fit taken told = record {
    records = Data piece ∷ [];
    fit = All-cons Fits (Data piece) [] fit (All-nil Fits);
    consumed = subst (λ l. Consumes first last l) (sym (append-nil (record_bytes (Data piece)))) taken;
    told = subst (λ l. AreTold gave from to before now old l new) (sym (append-nil piece)) told;
  }

  -- a record that carries nothing was read
  aside_read : (asked : Option (List PlainExchange)) (first last : Option (List ℕ)) (r : Record) (g : Gathered) → Fits r
      → data_of r ≡ [] → Consumes first last (record_bytes r) → AreRead gave from to asked asked first last g g
  aside_read asked first last r g fit none taken = record {
    records = r ∷ [];
    fit = All-cons Fits r [] fit (All-nil Fits);
    consumed = subst (λ l. Consumes first last l) (sym (append-nil (record_bytes r))) taken;
    told = subst (λ l. AreTold gave from to asked asked g l g) (sym (append-nil (data_of r) ∙ none)) (none_told asked g);
  }

  pub question_read : (asked : Option (List PlainExchange)) (first last : Option (List ℕ)) (number : ℕ) (g : Gathered)
      → Fits (Question number) → Consumes first last (record_bytes (Question number))
      → AreRead gave from to asked asked first last g g
  question_read asked first last number g fit taken = aside_read asked first last (Question number) g fit refl taken

  pub answer_read : (asked : Option (List PlainExchange)) (first last : Option (List ℕ)) (number : ℕ) (g : Gathered)
      → Fits (Answer number) → Consumes first last (record_bytes (Answer number))
      → AreRead gave from to asked asked first last g g
  answer_read asked first last number g fit taken = aside_read asked first last (Answer number) g fit refl taken

  -- records were read, and then more
  pub read_more : (before mid now : Option (List PlainExchange)) (first between last : Option (List ℕ)) (a b c : Gathered)
      → AreRead gave from to before mid first between a b → AreRead gave from to mid now between last b c
      → AreRead gave from to before now first last a c
  read_more before mid now first between last a b c x y = record {
    records = x.records ++ y.records;
    fit = All-append Fits x.records y.records x.fit y.fit;
    consumed =
        subst (λ l. Consumes first last l) (sym (flat_map-append record_bytes x.records y.records))
        (both_taken first between last (bytes_in x.records) (bytes_in y.records) x.consumed y.consumed);
    told =
        subst (λ l. AreTold gave from to before now a l c) (sym (flat_map-append data_of x.records y.records))
        (told_more before mid now a b c (data_in x.records) (data_in y.records) x.told y.told);
  }

  -- hearing ended so before another record was read
  read_no_more : (end : HearEnd) (asked : Option (List PlainExchange)) (bytes : Option (List ℕ)) (g : Gathered)
      → (end ≡ BadStream → IfSome bytes IsNoRecord) → IfSome bytes (AreReadUpTo gave from to end asked asked g)
  read_no_more end asked None g none = tt
  read_no_more end asked (Some l) g none = record {
    records = [];
    rest = l;
    fit = All-nil Fits;
    whole = refl;
    ended = inr (told_no_more Closed asked g [] tt, none);
  }

  -- no record came
  no_record : (first last : Option (List ℕ)) (kind : ℕ) → 2 < kind → Consumes first last (kind ∷ []) → IfSome first IsNoRecord
  no_record None last kind above taken = tt
  no_record (Some xs) None kind above taken = absurd taken
  no_record (Some xs) (Some ys) kind above taken = (kind, ys, above, taken)

  pub not_read : (asked : Option (List PlainExchange)) (first last : Option (List ℕ)) (why : RecordFault) (g : Gathered)
      → (why ≡ record_fault.NotRecord → (kind : ℕ) × (2 < kind) × Consumes first last (kind ∷ []))
      → IfSome first (AreReadUpTo gave from to (of_record why) asked asked g)
  not_read asked first last record_fault.Broken g other = read_no_more Closed asked first g (λ is. absurd cc)
  not_read asked first last record_fault.NotRecord g other =
      let kind = other refl in
      read_no_more BadStream asked first g (λ is. no_record first last kind.0 kind.1 kind.2)

  -- hearing ended so at a piece that the last record carries
  pub data_up_to : (end : HearEnd) (before now : Option (List PlainExchange)) (first last : Option (List ℕ)) (piece : List ℕ)
      (g : Gathered) → Fits (Data piece) → Consumes first last (record_bytes (Data piece))
      → AreToldUpTo gave from to end before now g piece → IfSome first (AreReadUpTo gave from to end before now g)
  data_up_to end before now None last piece g fit taken told = tt
  data_up_to end before now (Some xs) None piece g fit taken told = absurd taken
  data_up_to end before now (Some xs) (Some ys) piece g fit taken told = record {
    records = Data piece ∷ [];
    rest = ys;
    fit = All-cons Fits (Data piece) [] fit (All-nil Fits);
    whole = taken ∙ ap (λ l. l ++ ys) (sym (append-nil (record_bytes (Data piece))));
    ended = inl (subst (λ l. AreToldUpTo gave from to end before now g l) (sym (append-nil piece)) told);
  }

  -- hearing ended so after more records
  ends_behind : (end : HearEnd) (before mid now : Option (List PlainExchange)) (a b : Gathered) (one two rest : List ℕ)
      → AreTold gave from to before mid a one b → EndsBehind gave from to end mid now b two rest
      → EndsBehind gave from to end before now a (one ++ two) rest
  ends_behind end before mid now a b one two rest x (inl y) = inl (told_up_to end before mid now a b one two x y)
  ends_behind end before mid now a b one two rest x (inr (y, none)) =
      inr (told_up_to Closed before mid now a b one two x y, none)

  read_up_to : (end : HearEnd) (before mid now : Option (List PlainExchange)) (first last : Option (List ℕ)) (a b : Gathered)
      → AreRead gave from to before mid first last a b → IfSome last (AreReadUpTo gave from to end mid now b)
      → IfSome first (AreReadUpTo gave from to end before now a)
  read_up_to end before mid now None last a b x up = tt
  read_up_to end before mid now (Some xs) None a b x up = let c = x.consumed in absurd c
  read_up_to end before mid now (Some xs) (Some ys) a b x up = record {
    records = x.records ++ up.records;
    rest = up.rest;
    fit = All-append Fits x.records up.records x.fit up.fit;
    whole =
        x.consumed ∙ ap (λ l. bytes_in x.records ++ l) up.whole
        ∙ sym (append_assoc (bytes_in x.records) (bytes_in up.records) up.rest)
        ∙ ap (λ l. l ++ up.rest) (sym (flat_map-append record_bytes x.records up.records));
    ended =
        subst (λ l. EndsBehind gave from to end before now a l up.rest) (sym (flat_map-append data_of x.records up.records))
        (ends_behind end before mid now a b (data_in x.records) (data_in up.records) up.rest x.told up.ended);
  }

  -- from the first byte of a connection on
  heard_by : (end why : HearEnd) (before now : Option (List PlainExchange)) (bytes rest : List ℕ) (records : List Record)
      → All Fits records → bytes ≡ bytes_in records ++ rest
      → (x : AreToldUpTo gave from to why before now at_start (data_in records))
      → IsBad from to end rest (data_in records) (frames_given x.feeds) → IsHeardOn gave from to end before now bytes
  heard_by end why before now bytes rest records fit whole x bad = record {
    records = records;
    rest = rest;
    read = bytes_taken x.feeds;
    unread = x.left;
    frames = frames_given x.feeds;
    unfinished = x.new.bytes;
    told = x.told;
    fit = fit;
    whole = whole;
    carried = x.taken;
    stream = reader_splits x.feeds x.new x.run;
    in_order = x.in_order;
    came = x.came;
    bad = bad;
  }

  heard_behind : (end : HearEnd) (before now : Option (List PlainExchange)) (bytes rest : List ℕ) (records : List Record)
      → All Fits records → bytes ≡ bytes_in records ++ rest
      → EndsBehind gave from to end before now at_start (data_in records) rest → IsHeardOn gave from to end before now bytes
  heard_behind end before now bytes rest records fit whole (inl x) =
      heard_by end end before now bytes rest records fit whole x
      (bad_data from to end x.feeds x.new (data_in records) x.left rest x.run x.taken x.bad)
  heard_behind end before now bytes rest records fit whole (inr (x, none)) =
      heard_by end Closed before now bytes rest records fit whole x
      (bad_behind from to end rest (data_in records) (frames_given x.feeds) none)

  heard_on : (end : HearEnd) (before now : Option (List PlainExchange)) (bytes : Option (List ℕ))
      → IfSome bytes (AreReadUpTo gave from to end before now at_start) → IfSome bytes (IsHeardOn gave from to end before now)
  heard_on end before now None up = tt
  heard_on end before now (Some bytes) up = heard_behind end before now bytes up.rest up.records up.fit up.whole up.ended

  pub heard_from : (end : HearEnd) (before mid now : Option (List PlainExchange)) (first last : Option (List ℕ)) (g : Gathered)
      → AreRead gave from to before mid first last at_start g → IfSome last (AreReadUpTo gave from to end mid now g)
      → IfSome first (IsHeardOn gave from to end before now)
  heard_from end before mid now first last g x up =
      heard_on end before now first (read_up_to end before mid now first last at_start g x up)

  -- a reader of a connection waits for more, and has refused nothing
  pub waits_read : (before now : Option (List PlainExchange)) (first last : Option (List ℕ)) (g : Gathered)
      → AreRead gave from to before now first last at_start g → verdict g.version g.bytes ≡ Ok None
  waits_read before now first last g x = waits_told before now at_start g (data_in x.records) refl x.told

  pub unfailed_read : (before now : Option (List PlainExchange)) (first last : Option (List ℕ)) (g : Gathered)
      → AreRead gave from to before now first last at_start g → g.failed ≡ false
  unfailed_read before now first last g x = unfailed_told before now at_start g (data_in x.records) refl x.told
