-- However a stream is cut into pieces, a reader gives the same frames.
use Rattle.std.proofs.Common.{◌≡◌, ℕ, zero, suc, ◌-◌, ◌<◌, ◌≤◌, Bool, Option, List, [], ◌∷◌, ◌++◌, length, take, drop, Option, Some, None, Ok, Err, refl, sym, ap, subst, ◌∙◌, append_assoc, append-nil, arith, length-append, length-take, inl, inr}
use Rattle.std.proofs.lemmas.Bool.{cases_lt}
use Rattle.std.proofs.lemmas.List.{get_or-take, get_or_past, take_all, take-append-drop, take-take}
use Rattle.rvm_codec.specs.Exact.{IsBytes}
use Rattle.rvm_frame.specs.declared.fault.ReadFault.{ReadFault}
use Rattle.rvm_frame.specs.Kinds.{version_after}
use Rattle.rvm_frame.specs.Grammar.{HasSpelling, MayStand, Received, spelling}
use Rattle.rvm_frame.specs.Verdict.{Decides, verdict}
use Rattle.rvm_frame.specs.Reader.{Gathered, at_start, next_of}
use Rattle.rvm_frame.specs.Stream.{Feed, Run, Splits, bytes_taken, frames_given, with_frame}
use Rattle.rvm_frame.proofs.Verdicts.{no_prefix_at, nothing_begins, refused_stays, verdict_take, whole_or_past}

-- ---- bytes

pub no_bytes : IsBytes []
no_bytes i = omega arith

cons_fits : (x : ℕ) (xs : List ℕ) → x < 256 → IsBytes xs → IsBytes (x ∷ xs)
cons_fits x xs lt h zero = lt
cons_fits x xs lt h (suc i) = h i

pub bytes_append : (xs ys : List ℕ) → IsBytes xs → IsBytes ys → IsBytes (xs ++ ys)
bytes_append [] ys p q = q
bytes_append (x ∷ xs) ys p q = λ i. cons_fits x (xs ++ ys) (p 0) (bytes_append xs ys (λ j. p (suc j)) q) i

pub bytes_take : (n : ℕ) (bytes : List ℕ) → IsBytes bytes → IsBytes (take n bytes)
bytes_take n bytes h = λ i.
    elim (cases_lt i n) [
      | inl lt ↦ rw (get_or-take n bytes i 0 lt) (h i)
      | inr le ↦ rw (get_or_past (take n bytes) i 0 (omega (arith, length-take n bytes))) (omega arith)
    ]

-- ---- a run splits its bytes

abbrev Splitting : List Feed → Gathered → Gathered → Type 0
Splitting cs new old = IsBytes old.bytes → verdict old.version old.bytes ≡ Ok None → Run old cs new → Splits old.version (old.bytes ++ bytes_taken cs) (frames_given cs) new.bytes

split_more : (o : Option Received) (c : Feed) (cs : List Feed) (old new : Gathered) → ((mid : Gathered) → Splitting cs new mid) → IsBytes old.bytes → IsBytes c.piece
    → Decides old.version old.bytes c.piece c.taken (Ok o) → Run (next_of old c.piece o) cs new
    → Splits old.version (old.bytes ++ (take c.taken c.piece ++ bytes_taken cs)) (with_frame o (frames_given cs)) new.bytes
split_more None c cs old new goes fits piece_fits d run =
    let all : take c.taken c.piece ≡ c.piece = let n = d.all_taken refl in take_all c.taken c.piece (omega arith) in
    let waits : verdict old.version (old.bytes ++ c.piece) ≡ Ok None = ap (λ (x : List ℕ). verdict old.version (old.bytes ++ x)) (sym all) ∙ d.decided in
    let same : (old.bytes ++ c.piece) ++ bytes_taken cs ≡ old.bytes ++ (take c.taken c.piece ++ bytes_taken cs) = append_assoc old.bytes c.piece (bytes_taken cs) ∙ ap (λ (x : List ℕ). old.bytes ++ (x ++ bytes_taken cs)) (sym all) in
    subst (λ (b : List ℕ). Splits old.version b (frames_given cs) new.bytes) same (goes (next_of old c.piece None) (bytes_append old.bytes c.piece fits piece_fits) waits run)
split_more (Some f) c cs old new goes fits piece_fits d run =
    let t = verdict_take old.version (old.bytes ++ take c.taken c.piece) f (bytes_append old.bytes (take c.taken c.piece) fits (bytes_take c.taken c.piece piece_fits)) d.decided in
    let same : old.bytes ++ (take c.taken c.piece ++ bytes_taken cs) ≡ spelling f ++ bytes_taken cs = sym (append_assoc old.bytes (take c.taken c.piece) (bytes_taken cs)) ∙ ap (λ (x : List ℕ). x ++ bytes_taken cs) t.2 in
    (t.0, t.1, (bytes_taken cs, same, goes (next_of old c.piece (Some f)) no_bytes refl run))

run_splits : (cs : List Feed) (new old : Gathered) → Splitting cs new old
run_splits [] new old fits waits run = (append-nil old.bytes ∙ ap (λ (s : Gathered). s.bytes) (sym run), ap (λ (s : Gathered). verdict old.version s.bytes) run ∙ waits)
run_splits (c ∷ cs) new old fits waits run = split_more c.frame c cs old new (λ mid. run_splits cs new mid) fits run.0 run.1 run.2

pub reader_splits : (cs : List Feed) (new : Gathered) → Run at_start cs new → Splits None (bytes_taken cs) (frames_given cs) new.bytes
reader_splits cs new run = run_splits cs new at_start no_bytes refl run

-- ---- what else a run leaves

-- the version after these frames
abbrev version_by : Option ℕ → List Received → Option ℕ
version_by g [] = g
version_by g (f ∷ fs) = version_by (version_after g f.1) fs

abbrev Greeting : List Feed → Gathered → Gathered → Type 0
Greeting cs new old = Run old cs new → (new.version ≡ version_by old.version (frames_given cs)) × (new.failed ≡ old.failed)

greet_more : (o : Option Received) (piece : List ℕ) (cs : List Feed) (old new : Gathered) → ((mid : Gathered) → Greeting cs new mid) → Run (next_of old piece o) cs new → (new.version ≡ version_by old.version (with_frame o (frames_given cs))) × (new.failed ≡ old.failed)
greet_more None piece cs old new goes run = goes (next_of old piece None) run
greet_more (Some f) piece cs old new goes run = let r = goes (next_of old piece (Some f)) run in r

run_greets : (cs : List Feed) (new old : Gathered) → Greeting cs new old
run_greets [] new old run = (ap (λ (s : Gathered). s.version) run, ap (λ (s : Gathered). s.failed) run)
run_greets (c ∷ cs) new old run = greet_more c.frame c.piece cs old new (λ mid. run_greets cs new mid) run.2

-- ---- one reading

cons_frames : (f g : Received) (fs gs : List Received) → f ≡ g → fs ≡ gs → f ∷ fs ≡ g ∷ gs
cons_frames f g fs gs p q = cc

pub one_reading : (g : Option ℕ) (bytes : List ℕ) (fs gs : List Received) (rest other : List ℕ) → Splits g bytes fs rest → Splits g bytes gs other → (fs ≡ gs) × (rest ≡ other)
one_reading g bytes [] [] rest other p q = (refl, sym p.0 ∙ q.0)
one_reading g bytes [] (h ∷ gs) rest other p q = absurd (whole_or_past g h q.2.0 q.0 q.1 (ap (verdict g) (sym q.2.1 ∙ p.0) ∙ p.1))
one_reading g bytes (f ∷ fs) [] rest other p q = absurd (whole_or_past g f p.2.0 p.0 p.1 (ap (verdict g) (sym p.2.1 ∙ q.0) ∙ q.1))
one_reading g bytes (f ∷ fs) (h ∷ gs) rest other p q =
    let same = no_prefix_at g f h p.2.0 q.2.0 p.0 q.0 p.1 q.1 (sym p.2.1 ∙ q.2.1) in
    let r = one_reading (version_after g h.1) q.2.0 fs gs rest other (subst (λ (b : List ℕ). Splits (version_after g h.1) b fs rest) same.1 (subst (λ (x : Received). Splits (version_after g x.1) p.2.0 fs rest) same.0 p.2.2)) q.2.2 in
    (cons_frames f h fs gs same.0 r.0, r.1)

gathered_is : (a b : Gathered) → a.version ≡ b.version → a.failed ≡ b.failed → a.bytes ≡ b.bytes → a ≡ b
gathered_is a b p q r =
    ap (λ (x : Option ℕ). record a { version = x }) p ∙ ap (λ (x : Bool). record { version = b.version; failed = x; bytes = a.bytes }) q ∙ ap (λ (x : List ℕ). record { version = b.version; failed = b.failed; bytes = x }) r

pub same_pieces : (one other : List Feed) (new end : Gathered) → Run at_start one new → Run at_start other end → bytes_taken one ≡ bytes_taken other → (frames_given one ≡ frames_given other) × (new ≡ end)
same_pieces one other new end p q e =
    let s = subst (λ (b : List ℕ). Splits None b (frames_given one) new.bytes) e (reader_splits one new p) in
    let r = one_reading None (bytes_taken other) (frames_given one) (frames_given other) new.bytes end.bytes s (reader_splits other end q) in
    let a = run_greets one new at_start p in
    let b = run_greets other end at_start q in
    (r.0, gathered_is new end (a.0 ∙ ap (version_by None) r.0 ∙ sym b.0) (a.1 ∙ sym b.1) r.1)

-- ---- refusals

-- the shorter of two beginnings of one list begins the other
front : (a x b y : List ℕ) → length a ≤ length b → a ++ x ≡ b ++ y → (z : List ℕ) × (a ++ z ≡ b)
front [] x b y le e = (b, refl)
front (c ∷ a) x [] y le e = absurd (omega arith)
front (c ∷ a) x (d ∷ b) y le e =
    let heads : c ≡ d = cc in
    let tails : a ++ x ≡ b ++ y = cc in
    let r = front a x b y (omega arith) tails in
    (r.0, rw (heads, r.1) refl)

not_both : {e : ReadFault} {o : Option Received} → Err e ≡ Ok o → ⊥
not_both h = cc

regrouped : (a b c d : List ℕ) → ((a ++ b) ++ c) ++ d ≡ a ++ ((b ++ c) ++ d)
regrouped a b c d = simp append_assoc

split_at : (rest : List ℕ) (k n : ℕ) (piece : List ℕ) → k < n → rest ++ take n piece ≡ (rest ++ take k piece) ++ drop k (take n piece)
split_at rest k n piece lt =
    let front_is : take k (take n piece) ≡ take k piece = take-take k n piece (omega arith) in
    ap (λ (x : List ℕ). rest ++ x) (sym (take-append-drop k (take n piece)) ∙ ap (λ (x : List ℕ). x ++ drop k (take n piece)) front_is) ∙ sym (append_assoc rest (take k piece) (drop k (take n piece)))

some_cases : (g : Option ℕ) (rest piece : List ℕ) (n : ℕ) (e : ReadFault) → verdict g rest ≡ Ok None → verdict g (rest ++ take n piece) ≡ Err e → 0 < n
some_cases g rest piece zero e waits h = absurd (not_both (sym h ∙ ap (verdict g) (append-nil rest) ∙ waits))
some_cases g rest piece (suc n) e waits h = omega arith

-- a refusal takes a byte
some_taken : (g : Option ℕ) (rest piece : List ℕ) (n : ℕ) (e : ReadFault) → verdict g rest ≡ Ok None → Decides g rest piece n (Err e) → 0 < n
some_taken g rest piece n e waits d = some_cases g rest piece n e waits d.decided

-- bytes that are no whole frame do not begin with one
no_frame_first : (g : Option ℕ) (f : Received) (a x behind : List ℕ) → HasSpelling f → MayStand g f → length (spelling f) ≤ length a → spelling f ++ behind ≡ a ++ x → verdict g a ≡ Ok None → ⊥
no_frame_first g f a x behind fits stand longer same waits =
    let z = front (spelling f) behind a x longer same in
    whole_or_past g f z.0 fits stand (ap (verdict g) z.1 ∙ waits)

-- at the byte at which a reader refuses the stream, no frame begins that may come next
none_begins : (g : Option ℕ) (rest piece more : List ℕ) (n : ℕ) (e : ReadFault) (f : Received) (behind : List ℕ) → verdict g rest ≡ Ok None → Decides g rest piece n (Err e) → HasSpelling f → MayStand g f
    → (rest ++ take n piece) ++ more ≡ spelling f ++ behind → ⊥
none_begins g rest piece more n e f behind waits d fits stand same =
    let k = length (spelling f) - length rest in
    let len : length (take n piece) ≡ n = let within = d.within_piece in omega (arith, length-take n piece) in
    elim (cases_lt k n) [
      | inl lt ↦
          let short : length (take k piece) ≡ k = let within = d.within_piece in omega (arith, length-take k piece) in
          let whole : rest ++ take n piece ≡ (rest ++ take k piece) ++ drop k (take n piece) = split_at rest k n piece lt in
          let longer : length (spelling f) ≤ length (rest ++ take k piece) = omega (arith, short, length-append rest (take k piece)) in
          no_frame_first g f (rest ++ take k piece) (drop k (take n piece) ++ more) behind fits stand longer (sym same ∙ ap (λ (b : List ℕ). b ++ more) whole ∙ append_assoc (rest ++ take k piece) (drop k (take n piece)) more) (d.undecided k lt)
      | inr le ↦
          let shorter : length (rest ++ take n piece) ≤ length (spelling f) = omega (arith, some_taken g rest piece n e waits d, len, length-append rest (take n piece)) in
          let z = front (rest ++ take n piece) more (spelling f) behind shorter same in
          nothing_begins g (rest ++ take n piece) z.0 f e d.decided fits stand z.1
    ]

no_way_past : (g : Option ℕ) (a b : List ℕ) (fs gs : List Received) (rest other piece more : List ℕ) (n : ℕ) (e : ReadFault) → Splits g a fs rest → Splits g b gs other → b ≡ (a ++ take n piece) ++ more → Decides (version_by g fs) rest piece n (Err e) → ⊥
no_way_past g a b [] [] rest other piece more n e p q same d =
    let stream : other ≡ (rest ++ take n piece) ++ more = sym q.0 ∙ same ∙ ap (λ (x : List ℕ). (x ++ take n piece) ++ more) p.0 in
    not_both (sym (refused_stays g (rest ++ take n piece) more e d.decided) ∙ ap (verdict g) (sym stream) ∙ q.1)
no_way_past g a b [] (h ∷ gs) rest other piece more n e p q same d =
    none_begins g rest piece more n e h q.2.0 p.1 d q.0 q.1 (ap (λ (x : List ℕ). (x ++ take n piece) ++ more) (sym p.0) ∙ sym same ∙ q.2.1)
no_way_past g a b (f ∷ fs) [] rest other piece more n e p q same d =
    let stream : other ≡ spelling f ++ ((p.2.0 ++ take n piece) ++ more) = sym q.0 ∙ same ∙ ap (λ (x : List ℕ). (x ++ take n piece) ++ more) p.2.1 ∙ regrouped (spelling f) p.2.0 (take n piece) more in
    whole_or_past g f ((p.2.0 ++ take n piece) ++ more) p.0 p.1 (ap (verdict g) (sym stream) ∙ q.1)
no_way_past g a b (f ∷ fs) (h ∷ gs) rest other piece more n e p q same d =
    let stream : spelling h ++ q.2.0 ≡ spelling f ++ ((p.2.0 ++ take n piece) ++ more) = sym q.2.1 ∙ same ∙ ap (λ (x : List ℕ). (x ++ take n piece) ++ more) p.2.1 ∙ regrouped (spelling f) p.2.0 (take n piece) more in
    let both = no_prefix_at g h f q.2.0 ((p.2.0 ++ take n piece) ++ more) q.0 p.0 q.1 p.1 stream in
    no_way_past (version_after g f.1) p.2.0 q.2.0 fs gs rest other piece more n e p.2.2 (subst (λ (x : Received). Splits (version_after g x.1) q.2.0 gs other) both.0 q.2.2) both.1 d

pub same_refusal : (one other : List Feed) (new end : Gathered) (piece more : List ℕ) (n : ℕ) (fault : ReadFault) → Run at_start one new → Decides new.version new.bytes piece n (Err fault) → Run at_start other end
    → bytes_taken other ≡ (bytes_taken one ++ take n piece) ++ more → ⊥
same_refusal one other new end piece more n fault p d q e =
    no_way_past None (bytes_taken one) (bytes_taken other) (frames_given one) (frames_given other) new.bytes end.bytes piece more n fault (reader_splits one new p) (reader_splits other end q) e
    (subst (λ (x : Option ℕ). Decides x new.bytes piece n (Err fault)) (run_greets one new at_start p).0 d)
