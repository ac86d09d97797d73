-- How often words ran.
use Rattle.std.proofs.Common.{◌≡◌, ◌⊎◌, ℕ, zero, suc, ◌+◌, ◌-◌, ◌*◌, ◌%◌, ◌^◌, ◌<◌, ◌≤◌, List, [], ◌∷◌, ◌++◌, Option, None, Some, length, take, drop, get_or, replicate, Bool, true, false, refl, sym, ap, subst, ◌∙◌, inl, inr, arith, append-nil, cond, nat_eq, nat_lt, nat_le}
use Rattle.std.proofs.lemmas.Bool.{and_from, and_parts, cases_eq, eq-eqb, eqb-true, le-leb, leb-false, leb-true, lt-ltb, ltb-true, ne_eqb}
use Rattle.std.proofs.lemmas.List.{drop_all, drop_more, length-drop, get_or-set_same, get_or-set_other, get_or-replicate, length-set, length-replicate}
use Rattle.std.proofs.lemmas.List.Sums.{sum_by_push, count_by-le-length}
use Rattle.std.specs.Prelude.{IfOk, Result, Ok, Err, slice_set, ◌&&◌, ◌==◌}
use Rattle.std.specs.List.{repeat}
use Rattle.std.specs.Fmt.{char_count, digits, format_spec, padded_integral}
use Rattle.byteorder.specs.Endian.{little_number}
use Rattle.rvm_asm.specs.declared.image.Segment.{Segment}
use Rattle.rvm_asm.specs.Images.{Piece, pieces_of, size}
use Rattle.rvm_board.specs.declared.event.BoardReply.{BoardReply}
use Rattle.rvm_board.specs.Events.{pc_of}
use Rattle.rvm_elf.specs.Load.{is_within, piece_fits, pieces_fit}
use Rattle.rvm_elf.proofs.Loaded.{Inside, inside}
use Rattle.rvm_hart.specs.Bus.{ram_base}
use Rattle.rvm_command.specs.Command.{FileImage, before_word}
use Rattle.rvm_command.specs.Ends.{IsLoadable}
use Rattle.rvm_command.specs.Counting.{AreRuns, Covers, wants_counts, is_counted, has_place, noted, number_at, one_more, place_of, written_report, written_text}
use Rattle.rvm_command.specs.Coverage.{counted_line, counted_lines, counted_listing, coverage, has_run, in_ten, ran_at, runs_at}
use Rattle.rvm_arguments.specs.declared.arguments.Report.{Report}
use Rattle.rvm_arguments.specs.declared.arguments.Report.TheVariants.{Coverage, Profile, SavedGuest, Signature}
use Rattle.rvm_arguments.specs.declared.arguments.ReportArguments.{ReportArguments}
use Rattle.rvm_command.proofs.Profiling.{profiled}
use Rattle.rvm_command.specs.Reports.{report_text, reported}
use Rattle.rvm_command.specs.SymbolLines.{symbols_of}
use Rattle.rvm_command.specs.Taken.{Taken}
use Rattle.rvm_command.specs.Watched.{Watched}

-- ---- one word more

-- what it says of an address that it has a place
has_parts : (a n : ℕ) → has_place a n ≡ true → (ram_base ≤ a) × (a % 4 ≡ 0) × (place_of a < n)
has_parts a n has =
    let first = and_parts (nat_le ram_base a) (a % 4 == 0 && nat_lt (place_of a) n) has in
    let others = and_parts (a % 4 == 0) (nat_lt (place_of a) n) first.1 in
    (leb-true ram_base a first.0, eqb-true (a % 4) 0 others.0, ltb-true (place_of a) n others.1)

-- the word at this place has it
pub there : (a i n : ℕ) → i < n → a ≡ ram_base + 4 * i → has_place a n ≡ true
there a i n below same =
    let whole : a % 4 ≡ 0 = omega (arith, same) in
    let within : place_of a < n = omega (arith, same, below) in
    and_from (nat_le ram_base a) (a % 4 == 0 && nat_lt (place_of a) n) (le-leb ram_base a (omega (arith, same)))
    (and_from (a % 4 == 0) (nat_lt (place_of a) n) (eq-eqb (a % 4) 0 whole) (lt-ltb (place_of a) n within))

-- the number at a place after one of them was raised
raised : (counts : List ℕ) (a i : ℕ) → i < length counts → get_or counts i 0 < 2 ^ 32 - 1 → has_place a (length counts) ≡ true
    → (place_of a ≡ i) ⊎ (place_of a ≡ i → ⊥)
    → get_or (slice_set counts (place_of a) ((get_or counts (place_of a) 0 + 1) % 2 ^ 32)) i 0 ≡ get_or counts i 0 + cond (nat_eq a (ram_base + 4 * i)) 1 0
raised counts a i below few has (inl same) =
    let parts = has_parts a (length counts) has in
    let at : a ≡ ram_base + 4 * i = omega (arith, parts.0, parts.1, same) in
    ap (λ k. get_or (slice_set counts k ((get_or counts k 0 + 1) % 2 ^ 32)) i 0) same
    ∙ get_or-set_same counts i ((get_or counts i 0 + 1) % 2 ^ 32) 0 below
    ∙ omega (arith, few) ∙ ap (λ b. get_or counts i 0 + cond b 1 0) (sym (eq-eqb a (ram_base + 4 * i) at))
raised counts a i below few has (inr other) =
    let apart : a ≡ ram_base + 4 * i → ⊥ = λ at. other (omega (arith, at)) in
    get_or-set_other counts (place_of a) i ((get_or counts (place_of a) 0 + 1) % 2 ^ 32) 0 (λ e. other (sym e))
    ∙ omega arith ∙ ap (λ b. get_or counts i 0 + cond b 1 0) (sym (ne_eqb a (ram_base + 4 * i) apart))

one_more_by : (counts : List ℕ) (a i : ℕ) → i < length counts → get_or counts i 0 < 2 ^ 32 - 1 → (b : Bool) → has_place a (length counts) ≡ b
    → get_or (cond b (slice_set counts (place_of a) ((get_or counts (place_of a) 0 + 1) % 2 ^ 32)) counts) i 0 ≡ get_or counts i 0 + cond (nat_eq a (ram_base + 4 * i)) 1 0
one_more_by counts a i below few true has = raised counts a i below few has (cases_eq (place_of a) i)
one_more_by counts a i below few false none =
    let apart : a ≡ ram_base + 4 * i → ⊥ = λ at. (let has = there a i (length counts) below at in absurd cc) in
    omega arith ∙ ap (λ b. get_or counts i 0 + cond b 1 0) (sym (ne_eqb a (ram_base + 4 * i) apart))

one_more_at : (counts : List ℕ) (a i : ℕ) → i < length counts → get_or counts i 0 < 2 ^ 32 - 1
    → get_or (one_more a counts) i 0 ≡ get_or counts i 0 + cond (nat_eq a (ram_base + 4 * i)) 1 0
one_more_at counts a i below few = one_more_by counts a i below few (has_place a (length counts)) refl

placed_length : (counts : List ℕ) (a : ℕ) (b : Bool) → length (cond b (slice_set counts (place_of a) ((get_or counts (place_of a) 0 + 1) % 2 ^ 32)) counts) ≡ length counts
placed_length counts a true = length-set counts (place_of a) ((get_or counts (place_of a) 0 + 1) % 2 ^ 32)
placed_length counts a false = refl

noted_by : (counts : List ℕ) (a : ℕ) (run : Bool) (i : ℕ) → i < length counts → get_or counts i 0 < 2 ^ 32 - 1
    → get_or (cond run (one_more a counts) counts) i 0 ≡ get_or counts i 0 + cond (nat_eq a (ram_base + 4 * i) && run) 1 0
noted_by counts a true i below few =
    one_more_at counts a i below few ∙ ap (λ b. get_or counts i 0 + cond b 1 0) (also (nat_eq a (ram_base + 4 * i)))
  where
    also : (b : Bool) → b ≡ (b && true)
    also true = refl
    also false = refl
noted_by counts a false i below few = omega arith ∙ ap (λ b. get_or counts i 0 + cond b 1 0) (never (nat_eq a (ram_base + 4 * i)))
  where
    never : (b : Bool) → false ≡ (b && false)
    never true = refl
    never false = refl

noted_length_by : (counts : List ℕ) (a : ℕ) (run : Bool) → length (cond run (one_more a counts) counts) ≡ length counts
noted_length_by counts a true = placed_length counts a (has_place a (length counts))
noted_length_by counts a false = refl

-- ---- steps

runs_none : (a : ℕ) → runs_at [] a ≡ 0
unfolding runs_at
runs_none a = refl

runs_more : (ts : List Taken) (t : Taken) (a : ℕ) → runs_at (ts ++ t ∷ []) a ≡ runs_at ts a + cond (ran_at a t) 1 0
unfolding runs_at
runs_more ts t a = sum_by_push (λ (x : Taken). cond (ran_at a x) 1 0) ts t

runs_few : (ts : List Taken) (a : ℕ) → runs_at ts a ≤ length ts
unfolding runs_at
runs_few ts a = count_by-le-length (ran_at a) ts

noted_at : (counts : List ℕ) (a : ℕ) (r : BoardReply) (i : ℕ) → i < length counts → get_or counts i 0 < 2 ^ 32 - 1
    → get_or (noted a r counts) i 0 ≡ get_or counts i 0 + cond (nat_eq a (ram_base + 4 * i) && has_run r) 1 0
unfolding noted
noted_at counts a r i below few = noted_by counts a (has_run r) i below few

pub noted_length : (counts : List ℕ) (a : ℕ) (r : BoardReply) → length (noted a r counts) ≡ length counts
unfolding noted
noted_length counts a r = noted_length_by counts a (has_run r)

-- no word ran before the first step
pub none_ran : (words : ℕ) → AreRuns (replicate words 0) []
none_ran words = record {
  each = λ i below. get_or-replicate words i 0 0 (subst (λ n. i < n) (length-replicate words 0) below) ∙ sym (runs_none (ram_base + 4 * i));
}

-- no numbers are those of all steps
pub nothing_counted : (ts : List Taken) → AreRuns [] ts
nothing_counted ts = record { each = λ i below. (let it : i < 0 = below in absurd (omega (arith, it))) }

-- the same of what a call returns that counts nothing
pub counted_anyway : {X E : Type 0} (r : Result X E) (counts : List ℕ) (ts : List Taken) → counts ≡ [] → IfOk r (λ x. AreRuns counts ts)
counted_anyway (Ok x) counts ts none = subst (λ l. AreRuns l ts) (sym none) (nothing_counted ts)
counted_anyway (Err e) counts ts none = tt

-- a step more
pub counted_more : (counts : List ℕ) (ts : List Taken) (t : Taken) → length ts < 2 ^ 32 - 1 → AreRuns counts ts
    → AreRuns (noted (pc_of t.hart t.before) t.reply counts) (ts ++ t ∷ [])
counted_more counts ts t few so_far = record {
  each = λ i below.
      let a = ram_base + 4 * i in
      let within : i < length counts = subst (λ n. i < n) (noted_length counts (pc_of t.hart t.before) t.reply) below in
      let is = so_far.each i within in
      let bound = runs_few ts a in
      noted_at counts (pc_of t.hart t.before) t.reply i within (omega (arith, is, bound, few))
      ∙ ap (λ n. n + cond (ran_at a t) 1 0) is ∙ sym (runs_more ts t a);
}

-- ---- the lines, one by one

-- one more word
pub counted_lines_more : (number : ℕ → ℕ) (a : ℕ) (bs : List ℕ) → 4 ≤ length bs
    → counted_lines number a bs ≡ counted_line (number a) a (little_number 4 (take 4 bs)) ++ counted_lines number ((a + 4) % 2 ^ 32) (drop 4 bs)
unfolding counted_lines
counted_lines_more number a [] h = absurd (omega (arith, h))
counted_lines_more number a (b0 ∷ []) h = absurd (omega (arith, h))
counted_lines_more number a (b0 ∷ b1 ∷ []) h = absurd (omega (arith, h))
counted_lines_more number a (b0 ∷ b1 ∷ b2 ∷ []) h = absurd (omega (arith, h))
counted_lines_more number a (b0 ∷ b1 ∷ b2 ∷ b3 ∷ bs) h = refl

-- no whole word is left
pub counted_lines_none : (number : ℕ → ℕ) (a : ℕ) (bs : List ℕ) → length bs < 4 → counted_lines number a bs ≡ []
unfolding counted_lines
counted_lines_none number a [] h = refl
counted_lines_none number a (b0 ∷ []) h = refl
counted_lines_none number a (b0 ∷ b1 ∷ []) h = refl
counted_lines_none number a (b0 ∷ b1 ∷ b2 ∷ []) h = refl
counted_lines_none number a (b0 ∷ b1 ∷ b2 ∷ b3 ∷ bs) h = absurd (omega (arith, h))

-- all bytes stand before the first aligned word
pub no_counted_lines : (number : ℕ → ℕ) (a n : ℕ) (bs : List ℕ) → length bs ≤ n → counted_lines number a (drop n bs) ≡ []
unfolding counted_lines
no_counted_lines number a n bs h = ap (counted_lines number a) (drop_all n bs h)

-- the lines of a segment
abbrev pub counted_segment : (number : ℕ → ℕ) → Segment → List ℕ
counted_segment number s =
    counted_lines number ((s.address + before_word s.address) % 2 ^ 32) (drop (before_word s.address) s.bytes.items)

-- one more segment
pub counted_listing_more : (number : ℕ → ℕ) (segments : List Segment) (i : ℕ) (s : Segment) → i < length segments → s ≡ get_or segments i s
    → counted_listing number (pieces_of (drop i segments)) ≡ counted_segment number s ++ counted_listing number (pieces_of (drop (i + 1) segments))
unfolding counted_listing
counted_listing_more number segments i s more is =
    ap (λ ss. counted_listing number (pieces_of ss)) (drop_more segments i s more ∙ ap (λ t. t ∷ drop (i + 1) segments) (sym is))

-- no segment is left
pub counted_listing_none : (number : ℕ → ℕ) (segments : List Segment) (i : ℕ) → length segments ≤ i → counted_listing number (pieces_of (drop i segments)) ≡ []
unfolding counted_listing
counted_listing_none number segments i none = ap (λ ss. counted_listing number (pieces_of ss)) (drop_all i segments none)

-- ---- the lines of an image

short_or_long : (n k : ℕ) → (n ≤ k) ⊎ (k < n)
short_or_long n k = or_longer (nat_le n k) refl
  where
    or_longer : (b : Bool) → nat_le n k ≡ b → (n ≤ k) ⊎ (k < n)
    or_longer true e = inl (leb-true n k e)
    or_longer false e = inr (leb-false n k e)

-- a word that lies in RAM has its number
unfolding_number : (counts : List ℕ) (a : ℕ) → number_at counts a ≡ cond (has_place a (length counts)) (get_or counts (place_of a) 0) 0
unfolding number_at
unfolding_number counts a = refl

number_in : (counts : List ℕ) (ts : List Taken) (a : ℕ) → AreRuns counts ts → ram_base ≤ a → a % 4 ≡ 0
    → a + 4 ≤ ram_base + 4 * length counts → number_at counts a ≡ runs_at ts a
number_in counts ts a are first whole inside =
    let i = place_of a in
    let at : a ≡ ram_base + 4 * i = omega (arith, first, whole) in
    let below : i < length counts = omega (arith, first, whole, inside) in
    unfolding_number counts a ∙ ap (λ b. cond b (get_or counts i 0) 0) (there a i (length counts) below at)
    ∙ are.each i below ∙ ap (runs_at ts) (sym at)

module _ (counts : List ℕ) (ts : List Taken) (are : AreRuns counts ts) (few : length counts ≤ 2 ^ 22) where
  -- words that lie in RAM
  lines_in : (a : ℕ) (bs : List ℕ) → ram_base ≤ a → a % 4 ≡ 0 → a + length bs ≤ ram_base + 4 * length counts
      → counted_lines (number_at counts) a bs ≡ counted_lines (runs_at ts) a bs
  unfolding counted_lines
  lines_in a [] first whole inside = refl
  lines_in a (b0 ∷ []) first whole inside = refl
  lines_in a (b0 ∷ b1 ∷ []) first whole inside = refl
  lines_in a (b0 ∷ b1 ∷ b2 ∷ []) first whole inside = refl
  lines_in a (b0 ∷ b1 ∷ b2 ∷ b3 ∷ rest) first whole inside =
      let w = little_number 4 (b0 ∷ b1 ∷ b2 ∷ b3 ∷ []) in
      let next : (a + 4) % 2 ^ 32 ≡ a + 4 = omega (arith, inside, few) in
      let one = number_in counts ts a are first whole (omega (arith, inside)) in
      let others : counted_lines (number_at counts) (a + 4) rest ≡ counted_lines (runs_at ts) (a + 4) rest =
      lines_in (a + 4) rest (omega (arith, first)) (omega (arith, whole)) (omega (arith, inside)) in
      ap (λ n. counted_line n a w ++ counted_lines (number_at counts) ((a + 4) % 2 ^ 32) rest) one
      ∙ ap (λ k. counted_line (runs_at ts a) a w ++ counted_lines (number_at counts) k rest) next
      ∙ ap (λ (l : List ℕ). counted_line (runs_at ts a) a w ++ l) others
      ∙ ap (λ k. counted_line (runs_at ts a) a w ++ counted_lines (runs_at ts) k rest) (sym next)

  -- the lines of a piece
  abbrev piece_lines : (number : ℕ → ℕ) → Piece → List ℕ
  piece_lines number p =
      counted_lines number ((p.address + before_word p.address) % 2 ^ 32) (drop (before_word p.address) p.bytes)

  piece_case : (p : Piece) → Inside p (4 * length counts)
      → (length p.bytes ≤ before_word p.address) ⊎ (before_word p.address < length p.bytes)
      → piece_lines (number_at counts) p ≡ piece_lines (runs_at ts) p
  piece_case p lies (inl short) =
      let a = (p.address + before_word p.address) % 2 ^ 32 in
      no_counted_lines (number_at counts) a (before_word p.address) p.bytes short
      ∙ sym (no_counted_lines (runs_at ts) a (before_word p.address) p.bytes short)
  piece_case p lies (inr long) =
      let n = before_word p.address in
      let a = p.address + n in
      let left = length-drop n p.bytes in
      let same : a % 2 ^ 32 ≡ a = omega (arith, lies.low, lies.high, long, few) in
      ap (λ k. counted_lines (number_at counts) k (drop n p.bytes)) same
      ∙ lines_in a (drop n p.bytes) (omega (arith, lies.low)) (omega arith) (omega (arith, left, long, lies.high))
      ∙ ap (λ k. counted_lines (runs_at ts) k (drop n p.bytes)) (sym same)

  piece_in : (p : Piece) → (size p ≡ 0) ⊎ Inside p (4 * length counts)
      → piece_lines (number_at counts) p ≡ piece_lines (runs_at ts) p
  piece_in p (inl none) =
      let short : length p.bytes ≤ before_word p.address = omega (arith, none) in
      let a = (p.address + before_word p.address) % 2 ^ 32 in
      no_counted_lines (number_at counts) a (before_word p.address) p.bytes short
      ∙ sym (no_counted_lines (runs_at ts) a (before_word p.address) p.bytes short)
  piece_in p (inr lies) = piece_case p lies (short_or_long (length p.bytes) (before_word p.address))

  -- the lines of an image that lies in RAM
  pub covered : (ps : List Piece) → pieces_fit ps (4 * length counts) ≡ true
      → counted_listing (number_at counts) ps ≡ coverage ps ts
  unfolding counted_listing pieces_fit
  covered [] fit = refl
  covered (p ∷ ps) fit =
      let parts = and_parts (piece_fits p (4 * length counts)) (pieces_fit ps (4 * length counts)) fit in
      ap (λ (l : List ℕ). l ++ counted_listing (number_at counts) ps) (piece_in p (inside p (4 * length counts) parts.0))
      ∙ ap (λ (l : List ℕ). piece_lines (runs_at ts) p ++ l) (covered ps parts.1)

-- ---- numbers in ten columns

spaces : (n : ℕ) → repeat {A = ℕ} n (32 ∷ []) ≡ replicate n 32
spaces zero = refl
spaces (suc n) = ap (λ (l : List ℕ). 32 ∷ l) (spaces n)

nils : (xs : List ℕ) → ((xs ++ []) ++ []) ++ [] ≡ xs
nils xs = append-nil ((xs ++ []) ++ []) ∙ append-nil (xs ++ []) ∙ append-nil xs

-- what `{:>10}` writes
pub right_aligned : (n : ℕ)
    → padded_integral (format_spec 32 3 0 10 (2 ^ 64 - 1)) false [] (digits 10 false n) ≡ in_ten n
unfolding padded_integral char_count lib.Utf8.encode
right_aligned n =
    let d = digits 10 false n in
    let p : ℕ = 10 - length d - 0 - 0 in
    let few : p ≡ 10 - length d = omega arith in
    let none : p - p ≡ 0 = omega arith in
    ap (λ (l : List ℕ). l ++ (d ++ repeat {A = ℕ} (p - p) (32 ∷ []))) (nils (repeat {A = ℕ} p (32 ∷ [])))
    ∙ ap (λ k. repeat {A = ℕ} p (32 ∷ []) ++ (d ++ repeat {A = ℕ} k (32 ∷ []))) none
    ∙ ap (λ (l : List ℕ). repeat {A = ℕ} p (32 ∷ []) ++ l) (append-nil d)
    ∙ ap (λ (l : List ℕ). l ++ d) (spaces p) ∙ ap (λ k. replicate k 32 ++ d) few

-- ---- the report

report_by : (asked : Report) (segments : List Segment) (pages : ℕ) (pieces : List Piece) (symbols counts old : List ℕ) (r : Watched)
    → length counts ≡ length old → AreRuns counts r.steps → (wants_counts asked ≡ true → Covers pages old segments pieces)
    → written_report asked (pieces_of segments) symbols counts r.guest ≡ reported asked pages pieces symbols r
report_by (Signature range) segments pages pieces symbols counts old r same are covers = refl
report_by Coverage segments pages pieces symbols counts old r same are covers =
    let c = covers refl in
    ap (counted_listing (number_at counts)) c.listed
    ∙ covered counts r.steps are (omega (arith, same, c.few)) pieces
    (subst (λ n. pieces_fit pieces (4 * n) ≡ true) (sym same) c.inside)
report_by (Profile file) segments pages pieces symbols counts old r same are covers =
    let c = covers refl in profiled counts r.steps pages (symbols_of symbols) are (same ∙ c.size)
report_by SavedGuest segments pages pieces symbols counts old r same are covers = refl

-- what was written of a report by the numbers is the report
pub report_is : (asked : Option ReportArguments) (segments : List Segment) (pages : ℕ) (pieces : List Piece) (symbols counts old : List ℕ) (r : Watched)
    → length counts ≡ length old → AreRuns counts r.steps → (is_counted asked ≡ true → Covers pages old segments pieces)
    → written_text asked (pieces_of segments) symbols counts r.guest ≡ report_text asked pages pieces symbols r
report_is None segments pages pieces symbols counts old r same are covers = refl
report_is (Some asked) segments pages pieces symbols counts old r same are covers =
    report_by asked.report segments pages pieces symbols counts old r same are covers

-- the third of three tests
third_of : (x y z : Bool) → (x && y && z) ≡ true → z ≡ true
third_of true true z e = e
third_of true false z e = absurd cc
third_of false y z e = absurd cc

-- what is kept of an image that lies in RAM
pub keeps : (image : FileImage) (entry : ℕ) (segments : List Segment) (pages : ℕ) (counts : List ℕ)
    → image ≡ Ok (entry, pieces_of segments) → IsLoadable image pages → counts ≡ replicate (1024 * pages) 0 → pages ≤ 4096
    → IfOk image (λ i. Covers pages counts segments i.1)
keeps (Err e) entry segments pages counts same loadable zeros few = tt
keeps (Ok i) entry segments pages counts same loadable zeros few =
    let size : length counts ≡ 1024 * pages = ap length zeros ∙ length-replicate (1024 * pages) 0 in
    let all : 4096 * pages ≡ 4 * length counts = omega (arith, size) in
    let listed : i ≡ (entry, pieces_of segments) = cc in
    record {
      listed = sym (ap (λ (x : ℕ × List Piece). x.1) listed);
      size = size;
      few = omega (arith, size, few);
      inside = subst (λ n. pieces_fit i.1 n ≡ true) all
          (third_of (i.0 % 4 == 0) (is_within 1 i.0 (4096 * pages)) (pieces_fit i.1 (4096 * pages)) loadable.0);
    }

-- no test is both false and true
pub no_test : {X : Type 0} (b : Bool) → b ≡ false → b ≡ true → X
no_test b never once = let it : false ≡ true = sym never ∙ once in absurd cc
