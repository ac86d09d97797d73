-- What is decided by the bytes after those that a reader has taken.
use Rattle.std.proofs.Common.{◌≡◌, ℕ, ◌+◌, ◌-◌, ◌<◌, ◌≤◌, List, ◌++◌, length, take, drop, Option, Some, None, Ok, Err, sym, ap, subst, ◌∙◌, append_assoc, append-nil, arith, refl, [], length-drop, inl, inr}
use Rattle.std.proofs.lemmas.Bool.{cases_lt}
use Rattle.std.proofs.lemmas.List.{take-append-drop, drop-take, take-take, take_at}
use Rattle.rvm_codec.specs.Exact.{IsBytes}
use Rattle.rvm_frame.specs.declared.fault.ReadFault.{ReadFault}
use Rattle.rvm_frame.specs.declared.fault.ReadFault.TheVariants.{OutOfMemory, BadFrame, TooLong}
use Rattle.rvm_frame.specs.Grammar.{Received, Spells}
use Rattle.rvm_frame.specs.Verdict.{Decides, Verdict, verdict}
use Rattle.rvm_frame.specs.Reader.{Refuses}
use Rattle.rvm_frame.specs.Unfinished.{Beginning, Goes}
use Rattle.rvm_frame.proofs.Streams.{bytes_append, bytes_take}
use Rattle.rvm_frame.proofs.Verdicts.{verdict_take}

-- the front of a piece in two parts
seam : (used n : ℕ) (xs : List ℕ) → take used xs ++ take n (drop used xs) ≡ take (used + n) xs
seam used n xs =
    let a : take used (take (used + n) xs) ≡ take used xs = take-take used (used + n) xs (omega arith) in
    let b : drop used (take (used + n) xs) ≡ take n (drop used xs) = drop-take used n xs in
    rw (← a, ← b) (take-append-drop used (take (used + n) xs))

pub chunk : (old piece items : List ℕ) (used n : ℕ) → items ≡ old ++ take used piece → items ++ take n (drop used piece) ≡ old ++ take (used + n) piece
chunk old piece items used n e = ap (λ (x : List ℕ). x ++ take n (drop used piece)) e ∙ append_assoc old (take used piece) (take n (drop used piece)) ∙ ap (λ (x : List ℕ). old ++ x) (seam used n piece)

-- the rest of a piece, as a slice has it
pub rest_is : (used : ℕ) (piece : List ℕ) → take (length piece - used) (drop used piece) ≡ drop used piece
rest_is used piece = ap (take (length piece - used)) (sym (append-nil (drop used piece))) ∙ take_at (drop used piece) [] (length piece - used) (length-drop used piece)

-- nothing is decided by the first bytes of a piece
pub record Open (v : Option ℕ) (old piece : List ℕ) (used : ℕ) : Type 0 where
  pub at : (k : ℕ) → k ≤ used → verdict v (old ++ take k piece) ≡ Ok None

pub goes_open : (v : Option ℕ) (old piece : List ℕ) (n : ℕ) → Goes v old piece n → Open v old piece n
goes_open v old piece n s = record { at = s.undecided }

-- what is decided after the first bytes of a piece is decided after those before it
before_used : (v : Option ℕ) (old piece items : List ℕ) (used n : ℕ) → Open v old piece used → items ≡ old ++ take used piece → ((j : ℕ) → j < n → verdict v (items ++ take j (drop used piece)) ≡ Ok None) → (k : ℕ) → k < used + n → verdict v (old ++ take k piece) ≡ Ok None
before_used v old piece items used n op e h k lt =
    elim (cases_lt used k) [
      | inr le ↦ op.at k le
      | inl gt ↦
          let j = k - used in
          let same : items ++ take j (drop used piece) ≡ old ++ take k piece = chunk old piece items used j e ∙ ap (λ (i : ℕ). old ++ take i piece) (omega (arith, gt)) in
          sym (ap (verdict v) same) ∙ h j (omega (arith, gt, lt))
    ]

pub later : (v : Option ℕ) (old piece items : List ℕ) (used n : ℕ) (answer : Verdict) → Open v old piece used → items ≡ old ++ take used piece → used ≤ length piece → Decides v items (drop used piece) n answer → Decides v old piece (used + n) answer
later v old piece items used n answer op e le d = record {
  within_piece = let w = d.within_piece in omega (arith, w, length-drop used piece, le);
  undecided = before_used v old piece items used n op e d.undecided;
  decided = sym (ap (verdict v) (chunk old piece items used n e)) ∙ d.decided;
  all_taken = λ a. omega (arith, d.all_taken a, length-drop used piece, le);
}

pub later_refused : (v : Option ℕ) (old piece items : List ℕ) (used : ℕ) (fault : ReadFault) → Open v old piece used → items ≡ old ++ take used piece → used ≤ length piece → Refuses v items (drop used piece) fault → Refuses v old piece fault
later_refused v old piece items used OutOfMemory op e le s = (used + s.0, s.1, later v old piece items used s.0 (Ok s.1) op e le s.2)
later_refused v old piece items used BadFrame op e le s = (used + s.0, later v old piece items used s.0 (Err BadFrame) op e le s.1)
later_refused v old piece items used TooLong op e le s = (used + s.0, later v old piece items used s.0 (Err TooLong) op e le s.1)

open_more : (v : Option ℕ) (old piece items : List ℕ) (used n : ℕ) → Open v old piece used → items ≡ old ++ take used piece → ((j : ℕ) → j ≤ n → verdict v (items ++ take j (drop used piece)) ≡ Ok None) → Open v old piece (used + n)
open_more v old piece items used n op e h = record {
  at = λ k le. elim (cases_lt k (used + n)) [
    | inl lt ↦ before_used v old piece items used n op e (λ j lt. h j (omega (arith, lt))) k lt
    | inr ge ↦
        let same : k ≡ used + n = omega (arith, ge, le) in
        rw same (sym (ap (verdict v) (chunk old piece items used n e)) ∙ h n (omega arith))
  ];
}

-- what is refused after a head that a step filled
pub behind_head : (v : Option ℕ) (head piece now rest : List ℕ) (n : ℕ) (fault : ReadFault) → Goes v head piece n → now ≡ head ++ take n piece → rest ≡ drop n piece → Refuses v now rest fault → Refuses v head piece fault
behind_head v head piece now rest n fault g e er s = later_refused v head piece now n fault (goes_open v head piece n g) e g.within_piece (subst (λ (r : List ℕ). Refuses v now r fault) er s)

-- ---- a turn of the loop: what is there now is what was there and the first bytes of the piece

abbrev pub so_far : Beginning → List ℕ → ℕ → Beginning
so_far old piece used = record { version = old.version; bytes = old.bytes ++ take used piece }

-- what a turn says of the bytes, whatever way its slice of the piece is written
pub turn_open : (old now : Beginning) (piece rest : List ℕ) (used n : ℕ) → now ≡ so_far old piece used → rest ≡ drop used piece → Open old.version old.bytes piece used → Goes now.version now.bytes rest n → Open old.version old.bytes piece (used + n)
turn_open old now piece rest used n e er op s =
    let t : Goes old.version (old.bytes ++ take used piece) (drop used piece) n = rw (← er) (subst (λ (b : Beginning). Goes b.version b.bytes rest n) e s) in
    open_more old.version old.bytes piece (old.bytes ++ take used piece) used n op refl t.undecided

pub turn_within : (now : Beginning) (piece rest : List ℕ) (used n : ℕ) → rest ≡ drop used piece → used ≤ length piece → Goes now.version now.bytes rest n → (0 < n) × (used + n ≤ length piece)
turn_within now piece rest used n er le s =
    let w = s.within_piece in
    let l : length rest ≡ length piece - used = ap (λ (x : List ℕ). length x) er ∙ length-drop used piece in
    (s.some, omega (arith, w, l, le))

pub turn_decides : (old now : Beginning) (piece rest : List ℕ) (used n : ℕ) (answer : Verdict) → now ≡ so_far old piece used → rest ≡ drop used piece → used ≤ length piece → Open old.version old.bytes piece used → Decides now.version now.bytes rest n answer → Decides old.version old.bytes piece (used + n) answer
turn_decides old now piece rest used n answer e er le op d =
    let t : Decides old.version (old.bytes ++ take used piece) (drop used piece) n answer = rw (← er) (subst (λ (b : Beginning). Decides b.version b.bytes rest n answer) e d) in
    later old.version old.bytes piece (old.bytes ++ take used piece) used n answer op refl le t

pub turn_refused : (old now : Beginning) (piece rest : List ℕ) (used : ℕ) (fault : ReadFault) → now ≡ so_far old piece used → rest ≡ drop used piece → used ≤ length piece → Open old.version old.bytes piece used → Refuses now.version now.bytes rest fault → Refuses old.version old.bytes piece fault
turn_refused old now piece rest used fault e er le op s =
    let t : Refuses old.version (old.bytes ++ take used piece) (drop used piece) fault = rw (← er) (subst (λ (b : Beginning). Refuses b.version b.bytes rest fault) e s) in
    later_refused old.version old.bytes piece (old.bytes ++ take used piece) used fault op refl le t

pub turn_kept : (old now next : Beginning) (piece rest : List ℕ) (used n : ℕ) → now ≡ so_far old piece used → rest ≡ drop used piece → next ≡ record { version = now.version; bytes = now.bytes ++ take n rest } → next ≡ so_far old piece (used + n)
turn_kept old now next piece rest used n e er en =
    en ∙ ap (λ (b : Beginning). record { version = b.version; bytes = b.bytes ++ take n rest }) e ∙ ap (λ (r : List ℕ). record { version = old.version; bytes = (old.bytes ++ take used piece) ++ take n r }) er ∙ ap (λ (b : List ℕ). record { version = old.version; bytes = b }) (chunk old.bytes piece (old.bytes ++ take used piece) used n refl)

-- the whole piece was taken, and nothing is decided
pub all_open : (v : Option ℕ) (old piece : List ℕ) (used : ℕ) → Open v old piece used → used ≡ length piece → Decides v old piece used (Ok None)
all_open v old piece used op e = record {
  within_piece = omega (arith, e);
  undecided = λ k lt. op.at k (omega (arith, lt));
  decided = op.at used (omega arith);
  all_taken = λ _. e;
}

pub spelled_at : (v : Option ℕ) (old piece : List ℕ) (n : ℕ) (x : Received) → IsBytes old → IsBytes piece → Decides v old piece n (Ok (Some x)) → Spells v (old ++ take n piece) x
spelled_at v old piece n x fo fp d = verdict_take v (old ++ take n piece) x (bytes_append old (take n piece) fo (bytes_take n piece fp)) d.decided
