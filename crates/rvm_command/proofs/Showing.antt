-- What an extended session shows of a guest.
use Rattle.std.proofs.Common.{◌≡◌, ◌∙◌, ℕ, zero, suc, ◌+◌, ◌/◌, ◌%◌, ◌<◌, ◌≤◌, nat_lt, Bool, true, false, if◌then◌else◌, List, [], ◌∷◌, ◌++◌, codes, Option, None, Result, Ok, Err, OnOk, length, take, drop, get_or, slice_index, refl, sym, ap, subst, append_assoc, append-nil, arith}
use Rattle.std.proofs.lemmas.List.{drop_more, drop_all, take-append-drop}
use Rattle.std.proofs.lemmas.List.FromFn.{get_or-map-range_with_len, length-map-range_with_len}
use Rattle.std.proofs.lemmas.Bool.Decides.{nat_tests}
use Rattle.std.specs.Io.KnownBytes.{Appends}
use Rattle.hex.specs.Hex.{encode_lower, encode_with, lower_digits}
use Rattle.rvm_csr.specs.Fields as csr
use Rattle.rvm_csr.specs.declared.interrupts.Interrupts.{Interrupts}
use Rattle.rvm_csr.specs.Registers.{CsrState}
use Rattle.rvm_hart.specs.Bus.{mip_of}
use Rattle.rvm_hart.specs.Machine.{HartState}
use Rattle.rvm_board.specs.declared.event.BoardRefusal.TheVariants.{BadHart}
use Rattle.rvm_board.specs.declared.event.BoardReply.TheVariants.{Refused}
use Rattle.rvm_board.specs.declared.part.HartPart.{HartPart}
use Rattle.rvm_board.specs.declared.snapshot.Snapshot.{Snapshot}
use Rattle.rvm_board.specs.Board.{hart_at, new_hart}
use Rattle.rvm_board.specs.Guest.{Guest}
use Rattle.rvm_board.specs.Parts.{CanBeHeld, part_of}
use Rattle.rvm_board.specs.Restoring.{AreHeld}
use Rattle.rvm_board.specs.State.{State, guest_of, numbered, parts_of, state_of}
use Rattle.rvm_debug.proofs.Running.{appends_more, appends_none}
use Rattle.rvm_debug.specs.Answers.{reply_text}
use Rattle.rvm_source.specs.Looks.{IsSnapshotOf}
use Rattle.rvm_command.specs.ExtendedAnswers.{console_text, csrs_answer, csrs_text, devices_text, halted_text, hart_line, hart_lines, queue_text, timer_text}

-- THE REGISTERS

-- the harts of a snapshot have their places as their numbers
number_at : (k i : ℕ) (ps : List HartPart) (d : HartState) → i < length ps → (get_or (numbered k ps) i d).csrs.hart ≡ k + i
number_at k i [] d lt = absurd (omega (arith, lt))
number_at k zero (p ∷ ps) d lt = omega arith
number_at k (suc i) (p ∷ ps) d lt =
    let next = number_at (k + 1) i ps d (omega (arith, lt)) in
    omega (arith, next)

-- what a guest keeps for a hart
pub part_at : (h : ℕ) (g : Guest) (parts : List HartPart) (d : HartPart) → h < length g.board.harts → parts ≡ parts_of g → get_or parts h d ≡ part_of h g
part_at h g parts d lt is =
    ap (λ (ps : List HartPart). get_or ps h d) is
    ∙ get_or-map-range_with_len (λ h. part_of h g) 0 (length g.board.harts) h h d lt (omega arith)

pub hart_number : (h : ℕ) (g : Guest) (bytes : List ℕ) → h < length g.board.harts → guest_of bytes (state_of g) ≡ g → (hart_at h g.board).csrs.hart ≡ h
hart_number h g bytes lt whole =
    let count : length (parts_of g) ≡ length g.board.harts = length-map-range_with_len (λ h. part_of h g) 0 (length g.board.harts) in
    let same : 0 + h ≡ h = omega arith in
    sym (ap (λ (x : Guest). (hart_at h x.board).csrs.hart) whole)
    ∙ number_at 0 h (parts_of g) (new_hart 0 0) (omega (arith, lt, count))
    ∙ same

-- the registers of a hart, from what is kept of them
pub csrs_shown : (h : ℕ) (g : Guest) (bytes : List ℕ) (p : HartPart) (file : CsrState) → h < length g.board.harts → guest_of bytes (state_of g) ≡ g
    → p ≡ part_of h g → file ≡ csr.with_number h p.fields.csrs → file ≡ (hart_at h g.board).csrs
csrs_shown h g bytes p file lt whole is restored =
    let s : CsrState = (hart_at h g.board).csrs in
    restored ∙ ap (λ (q : HartPart). csr.with_number h q.fields.csrs) is
    ∙ ap (λ k. record s { hart = k }) (sym (hart_number h g bytes lt whole))

-- a snapshot has each hart of its guest
pub same_count : (g : Guest) (s : Snapshot) → IsSnapshotOf g s → length s.harts.items ≡ length g.board.harts
same_count g s is = ap (λ (x : State). length x.harts) is.state ∙ length-map-range_with_len (λ h. part_of h g) 0 (length g.board.harts)

pub in_guest : (h : ℕ) (g : Guest) (s : Snapshot) → IsSnapshotOf g s → h < length s.harts.items → h < length g.board.harts
in_guest h g s is lt =
    let count = same_count g s is in
    omega (arith, lt, count)

pub kept_at : (h : ℕ) (g : Guest) (s : Snapshot) (parts : List HartPart) (d : HartPart) → IsSnapshotOf g s → h < length s.harts.items
    → parts ≡ s.harts.items → get_or parts h d ≡ part_of h g
kept_at h g s parts d is lt same = part_at h g parts d (in_guest h g s is lt) (same ∙ ap (λ (x : State). x.harts) is.state)

-- what is kept for a hart can be restored
held_at : (size i : ℕ) (ps : List HartPart) (d : HartPart) → i < length ps → AreHeld size ps → CanBeHeld size (get_or ps i d)
held_at size i [] d lt held = absurd (omega (arith, lt))
held_at size zero (p ∷ ps) d lt held = held.0
held_at size (suc i) (p ∷ ps) d lt held = held_at size i ps d (omega (arith, lt)) held.1

pub csrs_held : (size i : ℕ) (ps parts : List HartPart) (d : HartPart) → i < length parts → ps ≡ parts → AreHeld size parts → csr.CanBeHeld (get_or ps i d).fields.csrs
csrs_held size i ps parts d lt same held =
    subst (λ (l : List HartPart). csr.CanBeHeld (get_or l i d).fields.csrs) (sym same) (held_at size i parts d lt held).fields.csrs

-- THE LINES OF HARTS

hart_next : (h : ℕ) (p : HartPart) (ps : List HartPart) → hart_lines h (p ∷ ps) ≡ hart_line h p ++ hart_lines (h + 1) ps
unfolding hart_lines
hart_next h p ps = refl

hart_none : (h : ℕ) → hart_lines h [] ≡ []
unfolding hart_lines
hart_none h = refl

-- the lines so far, and those that are left, are all
pub record HartLines (harts : List HartPart) (i : ℕ) (before now : Option (List ℕ)) : Type 0 where
  pub so_far : List ℕ
  pub whole : so_far ++ hart_lines i (drop i harts) ≡ hart_lines 0 harts
  pub written : Appends before now so_far

pub harts_none : (harts : List HartPart) (out : Option (List ℕ)) → HartLines harts 0 out out
harts_none harts out = record { so_far = []; whole = refl; written = appends_none out }

pub harts_more : (harts : List HartPart) (i : ℕ) (d : HartPart) (before mid after : Option (List ℕ)) → i < length harts → HartLines harts i before mid
    → Appends mid after (hart_line i (get_or harts i d)) → HartLines harts (i + 1) before after
harts_more harts i d before mid after lt p more =
    let p' : HartPart = get_or harts i d in
    record {
      so_far = p.so_far ++ hart_line i p';
      whole = append_assoc p.so_far (hart_line i p') (hart_lines (i + 1) (drop (i + 1) harts))
          ∙ ap (λ l. p.so_far ++ l) (sym (hart_next i p' (drop (i + 1) harts)) ∙ ap (hart_lines i) (sym (drop_more harts i d lt)))
          ∙ p.whole;
      written = appends_more before mid after p.so_far (hart_line i p') p.written more;
    }

pub harts_all : (harts : List HartPart) (i : ℕ) (before after : Option (List ℕ)) → length harts ≤ i → HartLines harts i before after → Appends before after (hart_lines 0 harts)
harts_all harts i before after le p =
    subst (Appends before after)
    (sym (append-nil p.so_far) ∙ ap (λ l. p.so_far ++ l) (sym (ap (hart_lines i) (drop_all i harts le) ∙ hart_none i)) ∙ p.whole) p.written

-- THE BYTES OF A QUEUE

encode_both : (t xs ys : List ℕ) → encode_with t (xs ++ ys) ≡ encode_with t xs ++ encode_with t ys
unfolding encode_with
encode_both t [] ys = refl
encode_both t (x ∷ xs) ys = ap (λ l. slice_index t (x / 16) ∷ slice_index t (x % 16) ∷ l) (encode_both t xs ys)

-- the digits so far, and those of the bytes that are left, are all
pub record Encoded (all rest : List ℕ) (before now : Option (List ℕ)) : Type 0 where
  pub so_far : List ℕ
  pub whole : so_far ++ encode_lower rest ≡ encode_lower all
  pub written : Appends before now so_far

pub encoded_none : (all : List ℕ) (out : Option (List ℕ)) → Encoded all all out out
encoded_none all out = record { so_far = []; whole = refl; written = appends_none out }

pub encoded_more : (all rest piece left : List ℕ) (n : ℕ) (before mid after : Option (List ℕ)) → piece ≡ take n rest → left ≡ drop n rest
    → Encoded all rest before mid → Appends mid after (encode_lower piece) → Encoded all left before after
encoded_more all rest piece left n before mid after is behind p more =
    let both : piece ++ left ≡ rest = ap (λ l. l ++ left) is ∙ ap (λ l. take n rest ++ l) behind ∙ take-append-drop n rest in
    record {
      so_far = p.so_far ++ encode_lower piece;
      whole = append_assoc p.so_far (encode_lower piece) (encode_lower left)
          ∙ ap (λ l. p.so_far ++ l) (sym (encode_both lower_digits piece left) ∙ ap encode_lower both)
          ∙ p.whole;
      written = appends_more before mid after p.so_far (encode_lower piece) p.written more;
    }

pub encoded_all : (all rest : List ℕ) (before mid after : Option (List ℕ)) → Encoded all rest before mid → Appends mid after (encode_lower rest) → Appends before after (encode_lower all)
encoded_all all rest before mid after p more =
    subst (Appends before after) p.whole (appends_more before mid after p.so_far (encode_lower rest) p.written more)

-- ALL LINES

-- the lines of the devices, written one after the other
pub devices_written : (s : State) (harts : List HartPart) (input output : List ℕ) (a b c d e f h : Option (List ℕ))
    → harts ≡ s.harts → input ≡ s.input → output ≡ s.output
    → Appends a b (timer_text s.shared.mtime) → Appends b c (hart_lines 0 harts) → Appends c d (queue_text (codes "input") input)
    → Appends d e (queue_text (codes "output") output) → Appends e f (console_text s.shared) → Appends f h (halted_text s.shared.halted)
    → Appends a h (devices_text s)
devices_written s harts input output a b c d e f h of_harts of_input of_output timer lines first second console halted =
    let lines' : Appends b c (hart_lines 0 s.harts) = subst (λ (l : List HartPart). Appends b c (hart_lines 0 l)) of_harts lines in
    let first' : Appends c d (queue_text (codes "input") s.input) = subst (λ (l : List ℕ). Appends c d (queue_text (codes "input") l)) of_input first in
    let second' : Appends d e (queue_text (codes "output") s.output) = subst (λ (l : List ℕ). Appends d e (queue_text (codes "output") l)) of_output second in
    let t1 = timer_text s.shared.mtime in
    let t2 = t1 ++ hart_lines 0 s.harts in
    let t3 = t2 ++ queue_text (codes "input") s.input in
    let t4 = t3 ++ queue_text (codes "output") s.output in
    let t5 = t4 ++ console_text s.shared in
    appends_more a f h t5 (halted_text s.shared.halted)
    (appends_more a e f t4 (console_text s.shared)
    (appends_more a d e t3 (queue_text (codes "output") s.output)
    (appends_more a c d t2 (queue_text (codes "input") s.input)
    (appends_more a b c t1 (hart_lines 0 s.harts) timer lines') first') second') console) halted

-- THE ANSWER TO `csrs H`

chosen : (b c : Bool) (x y : List ℕ) → b ≡ c → (if b then x else y) ≡ (if c then x else y)
chosen b c x y e = ap (λ (d : Bool). if d then x else y) e

-- a hart that is none of the guest's is refused
pub csrs_refused : {A E : Type 0} (h : ℕ) (s : Snapshot) (r : Result A E) (before now : Option (List ℕ)) → length s.harts.items ≤ h
    → OnOk r (Appends before now (reply_text None (Refused BadHart)))
    → OnOk r ((g : Guest) → IsSnapshotOf g s → Appends before now (csrs_answer h g))
csrs_refused h s (Err e) before now le written = tt
csrs_refused h s (Ok x) before now le written = λ g is.
    let count = same_count g s is in
    let refused : nat_lt h (length g.board.harts) ≡ false = grind (arith, nat_tests) in
    subst (Appends before now)
    (sym (chosen (nat_lt h (length g.board.harts)) false (csrs_text (mip_of h g.board.shared.devices) (hart_at h g.board).csrs) (reply_text None (Refused BadHart)) refused)) written

-- the registers of one of the guest's harts are written
pub csrs_written : {A E : Type 0} (h : ℕ) (s : Snapshot) (r : Result A E) (before now : Option (List ℕ)) (mip : Interrupts) (csrs : CsrState)
    → h < length s.harts.items → ((g : Guest) → IsSnapshotOf g s → csrs ≡ (hart_at h g.board).csrs)
    → ((g : Guest) → IsSnapshotOf g s → mip ≡ mip_of h g.board.shared.devices)
    → OnOk r (Appends before now (csrs_text mip csrs)) → OnOk r ((g : Guest) → IsSnapshotOf g s → Appends before now (csrs_answer h g))
csrs_written h s (Err e) before now mip csrs lt same pending written = tt
csrs_written h s (Ok x) before now mip csrs lt same pending written = λ g is.
    let in_it = in_guest h g s is lt in
    let there : nat_lt h (length g.board.harts) ≡ true = grind (arith, nat_tests) in
    subst (Appends before now)
    (ap (λ (m : Interrupts). csrs_text m csrs) (pending g is)
    ∙ ap (λ (c : CsrState). csrs_text (mip_of h g.board.shared.devices) c) (same g is)
    ∙ sym (chosen (nat_lt h (length g.board.harts)) true (csrs_text (mip_of h g.board.shared.devices) (hart_at h g.board).csrs) (reply_text None (Refused BadHart)) there)) written
