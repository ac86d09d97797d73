-- A stream grows by frames that were made here, and by questions and answers.
use Rattle.std.proofs.Common.{◌≡◌, ◌∙◌, ◌<◌, ◌≤◌, ◌+◌, ◌^◌, ℕ, List, [], ◌∷◌, ◌++◌, append-nil, arith, length, length-append, suc, Option, None, Some, Result, Ok, Err, IfErr, OnOk, ap, refl, subst, sym}
use Rattle.std.proofs.lemmas.List.{flat_map_more}
use Rattle.std.proofs.lemmas.List.Elements.{All-append, All-cons, All-nil}
use Rattle.std.specs.Io.KnownBytes.{Appends}
use Rattle.rvm_frame.specs.declared.addressed.Addressed.{Addressed}
use Rattle.rvm_frame.specs.Grammar.{HasSpelling, Received, body_of, hosts_bytes, sent, spelling}
use Rattle.rvm_frame.specs.Kinds.{byte_of, kind_of, move_of}
use Rattle.byteorder.specs.Endian.{little_bytes}
use Rattle.rvm_link.specs.declared.error.SendError.{SendError}
use Rattle.rvm_link.specs.declared.error.SendError.TheVariants.{BadFrame}
use Rattle.rvm_link.specs.Records.{Answer, Carries, Fits, Question, Record, data_of, record_bytes}
use Rattle.rvm_link.proofs.Records.{both_carried, one_more, one_record}
use Rattle.rvm_link.specs.Streams.{IsSent, hello, record_of, stream_of}
use Rattle.rvm_link.specs.declared.stream.Aside.{Aside}
use Rattle.rvm_link.specs.declared.stream.Aside.TheVariants as kind

-- the bytes before a body are few
short_behind : (hosts move size body : List ℕ) (kind : ℕ) → length hosts ≤ 2 → length move ≡ 8 → length size ≡ 4
    → length body ≤ 32768 → length (kind ∷ (hosts ++ (move ++ (size ++ body)))) ≤ 65535
short_behind hosts move size body kind few eight four short =
    let all : length (hosts ++ (move ++ (size ++ body))) ≡ length hosts + (length move + (length size + length body)) =
    length-append hosts (move ++ (size ++ body))
    ∙ ap (λ n. length hosts + n) (length-append move (size ++ body) ∙ ap (λ n. length move + n) (length-append size body)) in
    let one : length (kind ∷ (hosts ++ (move ++ (size ++ body)))) ≡ suc (length (hosts ++ (move ++ (size ++ body)))) = refl in
    omega (arith, one, all, few, eight, four, short)

few_hosts : (hosts : Option (ℕ × ℕ)) → length (hosts_bytes hosts) ≤ 2
few_hosts None = omega (arith)
few_hosts (Some h) =
    let two : length (hosts_bytes (Some h)) ≡ 2 = refl in
    omega (arith, two)

spelling_fits : (x : Received) → length (body_of x.1) ≤ 32768 → length (spelling x) ≤ 65535
spelling_fits x short =
    short_behind (hosts_bytes x.0) (little_bytes 8 (move_of x.1)) (little_bytes 4 (length (body_of x.1))) (body_of x.1)
    (byte_of (kind_of x.1)) (few_hosts x.0) refl refl short

pub frame_fits : (version : ℕ) (a : Addressed) → HasSpelling (sent version a) → length (spelling (sent version a)) ≤ 65535
frame_fits version a has = spelling_fits (sent version a) has.body_length

-- a frame that was written after the head of a record
pub one_frame : (version : ℕ) (a : Addressed) (count : ℕ) (before mid now : Option (List ℕ)) → HasSpelling (sent version a)
    → count ≡ length (spelling (sent version a)) → Appends before mid (0 ∷ little_bytes 2 count)
    → Appends mid now (spelling (sent version a)) → Carries (spelling (sent version a)) before now
one_frame version a count before mid now has is head added =
    one_record (spelling (sent version a)) count before mid now (frame_fits version a has) is head added

-- the same of a write that may have failed
pub one_frame_told : {E : Type 0} (r : Result (Unit {0}) E) (version : ℕ) (a : Addressed) (count : ℕ)
    (before mid now : Option (List ℕ)) → HasSpelling (sent version a) → count ≡ length (spelling (sent version a))
    → Appends before mid (0 ∷ little_bytes 2 count) → OnOk r (Appends mid now (spelling (sent version a)))
    → OnOk r (Carries (spelling (sent version a)) before now)
one_frame_told (Ok done) version a count before mid now has is head added =
    one_frame version a count before mid now has is head added
one_frame_told (Err e) version a count before mid now has is head added = tt

-- a frame that has no spelling in one version has none in the same version
pub unspelled : (r : Result (Unit {0}) SendError) (v w : ℕ) (a : Addressed) → v ≡ w
    → IfErr r (λ e. e ≡ BadFrame → HasSpelling (sent v a) → ⊥) → IfErr r (λ e. e ≡ BadFrame → HasSpelling (sent w a) → ⊥)
unspelled r v w a same none = subst (λ n. IfErr r (λ e. e ≡ BadFrame → HasSpelling (sent n a) → ⊥)) same none

module _ (is_made : Addressed → Type 0) (version host : ℕ) (before : Option (List ℕ)) where
  -- Hello alone
  pub begun : (now : Option (List ℕ)) → Carries (hello version) before now → IsSent is_made version host before now
  begun now c = record {
    frames = [];
    made = All-nil is_made;
    for_it = All-nil (λ a. a.to ≡ host);
    carries = subst (λ l. Carries l before now) (sym (append-nil (hello version))) c;
  }

  -- one frame more
  pub more : (mid now : Option (List ℕ)) (a : Addressed) → is_made a → a.to ≡ host
      → IsSent is_made version host before mid → Carries (spelling (sent version a)) mid now
      → IsSent is_made version host before now
  more mid now a made to s c = record {
    frames = s.frames ++ a ∷ [];
    made = All-append is_made s.frames (a ∷ []) s.made (All-cons is_made a [] made (All-nil is_made));
    for_it =
        let P : Addressed → Type 0 = λ a. a.to ≡ host in
        All-append P s.frames (a ∷ []) s.for_it (All-cons P a [] to (All-nil P));
    carries =
        subst (λ l. Carries l before now) (flat_map_more (λ x. spelling (sent version x)) (hello version) s.frames a)
        (both_carried (stream_of version s.frames) (spelling (sent version a)) before mid now s.carries c);
  }

  -- a record more that carries nothing
  aside : (mid now : Option (List ℕ)) (r : Record) → Fits r → data_of r ≡ [] → IsSent is_made version host before mid
      → Appends mid now (record_bytes r) → IsSent is_made version host before now
  aside mid now r fit none s added =
      let all = stream_of version s.frames in
      let same : all ++ data_of r ≡ all = ap (λ l. all ++ l) none ∙ append-nil all in
      record {
        frames = s.frames;
        made = s.made;
        for_it = s.for_it;
        carries = subst (λ l. Carries l before now) same (one_more all r before mid now fit s.carries added);
      }

  -- a question or an answer more
  pub asked : (mid now : Option (List ℕ)) (a : Aside) (number : ℕ) → number < 2 ^ 64
      → IsSent is_made version host before mid → Appends mid now (record_bytes (record_of a number))
      → IsSent is_made version host before now
  asked mid now kind.Question number fit s added = aside mid now (Question number) fit refl s added
  asked mid now kind.Answer number fit s added = aside mid now (Answer number) fit refl s added
