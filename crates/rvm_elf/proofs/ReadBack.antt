-- A file that was written, read back.
use Rattle.std.proofs.Common.{◌≡◌, ℕ, zero, suc, ◌+◌, ◌-◌, ◌*◌, ◌^◌, ◌<◌, ◌≤◌, Bool, true, false, not, ◌&&◌, ◌||◌, ◌==◌, nat_lt, if◌then◌else◌, List, [], ◌∷◌, ◌++◌, Option, Some, None, Ok, Err, inl, inr, length, take, drop, get_or, slice_range, refl, sym, ap, ◌∙◌, arith, append_assoc, length-append}
use Rattle.std.specs.List.{flat_map}
use Rattle.std.specs.Option.{option_to_list}
use Rattle.std.proofs.lemmas.Bool.Decides.{nat_tests}
use Rattle.std.proofs.lemmas.Bool.{ltb-true, leb-true, le-ltb, cases_lt}
use Rattle.std.proofs.lemmas.List.{take_at, drop_at, drop-drop, length-drop}
use Rattle.byteorder.specs.Endian.{little_number, little_bytes}
use Rattle.byteorder.specs.Numbers.{little_number-reads_back, length-bytes_low_first}
use Rattle.rvm_asm.specs.Images.{Piece, size, in_piece, or_else, byte_at}
use Rattle.rvm_elf.specs.declared.error.ReadError.TheVariants.{NotRiscV32, Truncated, TooMany}
use Rattle.rvm_elf.specs.declared.layout.ProgramHeader.{ProgramHeader}
use Rattle.rvm_elf.specs.File.{◌>>=◌, field, header_at, is_riscv32, lacks_headers, header_checked, headers_checked, piece_of_header, pieces_from, checked, meaning, StandsFor, e_entry, e_phoff, e_phnum}
use Rattle.rvm_elf.specs.Spelling.{all_bytes, are_small, are_addressed, IsWritable, with_size, elf_header, program_header, program_headers, file_of}
use Rattle.rvm_elf.proofs.Placing.{and_first, and_second}

-- a number among others of n bytes each
number_at : (n i : ℕ) (numbers rest : List ℕ) → i < length numbers → get_or numbers i 0 < 256 ^ n → little_number n (drop (n * i) (flat_map (little_bytes n) numbers ++ rest)) ≡ get_or numbers i 0
number_at n i [] rest below small = absurd (omega arith)
number_at n zero (x ∷ numbers) rest below small =
    ap (λ k. little_number n (drop k ((little_bytes n x ++ flat_map (little_bytes n) numbers) ++ rest))) (let e : n * 0 ≡ 0 = omega arith in e)
    ∙ ap (little_number n) (append_assoc (little_bytes n x) (flat_map (little_bytes n) numbers) rest)
    ∙ little_number-reads_back n x (flat_map (little_bytes n) numbers ++ rest) small
number_at n (suc i) (x ∷ numbers) rest below small =
    let others : List ℕ = flat_map (little_bytes n) numbers ++ rest in
    let one : n * suc i ≡ n + n * i = omega arith in
    ap (little_number n)
    (ap (λ k. drop k ((little_bytes n x ++ flat_map (little_bytes n) numbers) ++ rest)) one
    ∙ sym (drop-drop (n * i) n ((little_bytes n x ++ flat_map (little_bytes n) numbers) ++ rest))
    ∙ ap (λ xs. drop (n * i) (drop n xs)) (append_assoc (little_bytes n x) (flat_map (little_bytes n) numbers) rest)
    ∙ ap (drop (n * i)) (drop_at (little_bytes n x) others n (length-bytes_low_first 0 n x)))
    ∙ number_at n i numbers rest (omega arith) small

-- what a program header is read as
abbrev made : (p_type p_offset p_paddr p_filesz p_memsz : ℕ) → ProgramHeader
made a b c d e = record { p_type = a; p_offset = b; p_paddr = c; p_filesz = d; p_memsz = e }

same_header : (a b c d e a' b' c' d' e' : ℕ) → a ≡ a' → b ≡ b' → c ≡ c' → d ≡ d' → e ≡ e' → made a b c d e ≡ made a' b' c' d' e'
same_header a b c d e a' b' c' d' e' p q r s t =
    ap (λ x. made x b c d e) p ∙ ap (λ x. made a' x c d e) q ∙ ap (λ x. made a' b' x d e) r ∙ ap (λ x. made a' b' c' x e) s ∙ ap (λ x. made a' b' c' d' x) t

-- a field after a place whose text is known
field_in : (n at k : ℕ) (file text : List ℕ) → drop at file ≡ text → field n (at + k) file ≡ little_number n (drop k text)
field_in n at k file text is = ap (little_number n) (sym (drop-drop k at file) ∙ ap (drop k) is)

-- a program header that was written
header_read : (at offset : ℕ) (p : Piece) (file rest : List ℕ) → drop at file ≡ program_header offset p ++ rest → offset < 2 ^ 32 → p.address < 2 ^ 32 → size p < 2 ^ 32
    → header_at at file ≡ made 1 offset p.address (length p.bytes) (size p)
header_read at offset p file rest is low address small =
    let words : List ℕ = 1 ∷ offset ∷ p.address ∷ p.address ∷ length p.bytes ∷ size p ∷ 7 ∷ 1 ∷ [] in
    let text : List ℕ = program_header offset p ++ rest in
    same_header _ _ _ _ _ 1 offset p.address (length p.bytes) (size p)
    (ap (little_number 4) is ∙ number_at 4 0 words rest (omega arith) (omega arith))
    (field_in 4 at 4 file text is ∙ number_at 4 1 words rest (omega arith) low)
    (field_in 4 at 12 file text is ∙ number_at 4 3 words rest (omega arith) address)
    (field_in 4 at 16 file text is ∙ number_at 4 4 words rest (omega arith) (omega arith))
    (field_in 4 at 20 file text is ∙ number_at 4 5 words rest (omega arith) small)

-- tests
if_false : {A : Type 0} (b : Bool) (x y : A) → b ≡ false → (if b then x else y) ≡ y
if_false b x y e = ap (λ c. if c then x else y) e

and_false : (b : Bool) → (b && false) ≡ false
and_false true = refl
and_false false = refl

either : {A : Type 0} (b : Bool) (x y : A) → y ≡ x → (if b then x else y) ≡ x
either true x y e = refl
either false x y e = e

-- the bytes of a piece are in the file
bytes_there : (offset : ℕ) (p : Piece) (file rest : List ℕ) → drop offset file ≡ p.bytes ++ rest → (nat_lt 0 (length p.bytes) && nat_lt (length file) (offset + length p.bytes)) ≡ false
bytes_there offset p file rest is =
    let sum : length file - offset ≡ length p.bytes + length rest = sym (length-drop offset file) ∙ ap (λ xs. length xs) is ∙ length-append p.bytes rest in
    elim (cases_lt 0 (length p.bytes)) [
      | inl some ↦ rw (le-ltb (length file) (offset + length p.bytes) (omega arith)) (and_false (nat_lt 0 (length p.bytes)))
      | inr none ↦ rw (le-ltb 0 (length p.bytes) none) refl
    ]

header_passes : (offset : ℕ) (p : Piece) (file rest : List ℕ) → drop offset file ≡ p.bytes ++ rest → header_checked (made 1 offset p.address (length p.bytes) (size p)) file ≡ Ok tt
header_passes offset p file rest is =
    either (not (nat_lt 0 (size p))) (Ok tt) _
    (if_false (nat_lt (size p) (length p.bytes)) (Err NotRiscV32) _ (le-ltb (size p) (length p.bytes) (omega arith))
    ∙ if_false (nat_lt 0 (length p.bytes) && nat_lt (length file) (offset + length p.bytes)) (Err Truncated) (Ok tt) (bytes_there offset p file rest is))

piece_read : (offset : ℕ) (p : Piece) (file rest : List ℕ) → drop offset file ≡ p.bytes ++ rest → piece_of_header (made 1 offset p.address (length p.bytes) (size p)) file ≡ (if nat_lt 0 (size p) then Some p else None)
piece_read offset p file rest is =
    let count : offset + length p.bytes - offset ≡ length p.bytes = omega arith in
    let zeros : size p - length p.bytes ≡ p.zeros = omega arith in
    let bytes : slice_range file offset (offset + length p.bytes) ≡ p.bytes =
    ap (λ n. take n (drop offset file)) count ∙ ap (take (length p.bytes)) is ∙ take_at p.bytes rest (length p.bytes) refl in
    ap (λ bs. if nat_lt 0 (size p) then Some (record { address = p.address; bytes = bs; zeros = size p - length p.bytes }) else None) bytes
    ∙ ap (λ n. if nat_lt 0 (size p) then Some (record { address = p.address; bytes = p.bytes; zeros = n }) else None) zeros

joined : (b : Bool) (p : Piece) (ps : List Piece) → option_to_list (if b then Some p else None) ++ ps ≡ (if b then p ∷ ps else ps)
joined true p ps = refl
joined false p ps = refl

-- the program headers of pieces, whose bytes stand at an offset
record AreRead (ps : List Piece) (at : ℕ) (file : List ℕ) : Type 0 where
  fine : headers_checked (length ps) at file ≡ Ok tt
  pieces : pieces_from (length ps) at file ≡ with_size ps

headers_read : (ps : List Piece) (at offset : ℕ) (file tail : List ℕ) → drop at file ≡ program_headers offset ps ++ tail → drop offset file ≡ all_bytes ps → are_small ps ≡ true → are_addressed ps ≡ true → offset + length (all_bytes ps) < 2 ^ 32 → AreRead ps at file
unfolding headers_checked pieces_from program_headers all_bytes are_small are_addressed
headers_read [] at offset file tail headers bytes small addressed low = record { fine = refl; pieces = refl }
headers_read (p ∷ ps) at offset file tail headers bytes small addressed low =
    let next : ℕ = offset + length p.bytes in
    let sum : length (p.bytes ++ all_bytes ps) ≡ length p.bytes + length (all_bytes ps) = length-append p.bytes (all_bytes ps) in
    let others : List ℕ = program_headers next ps ++ tail in
    let text : drop at file ≡ program_header offset p ++ others = headers ∙ append_assoc (program_header offset p) (program_headers next ps) tail in
    let read = header_read at offset p file others text (omega arith) (ltb-true p.address (2 ^ 32) (and_first _ _ addressed)) (ltb-true (size p) (2 ^ 32) (and_first _ _ small)) in
    let rest : AreRead ps (at + 32) file =
    headers_read ps (at + 32) next file tail (sym (drop-drop 32 at file) ∙ ap (drop 32) text)
    (sym (drop-drop (length p.bytes) offset file) ∙ ap (drop (length p.bytes)) bytes ∙ drop_at p.bytes (all_bytes ps) (length p.bytes) refl)
    (and_second _ _ small) (and_second _ _ addressed) (omega arith) in
    record {
      fine =
          ap (λ h. header_checked h file >>= λ _. headers_checked (length ps) (at + 32) file) read
          ∙ ap (λ r. r >>= λ _. headers_checked (length ps) (at + 32) file) (header_passes offset p file (all_bytes ps) bytes)
          ∙ rest.fine;
      pieces =
          ap (λ h. option_to_list (piece_of_header h file) ++ pieces_from (length ps) (at + 32) file) read
          ∙ ap (λ o. option_to_list o ++ pieces_from (length ps) (at + 32) file) (piece_read offset p file (all_bytes ps) bytes)
          ∙ ap (λ xs. option_to_list (if nat_lt 0 (size p) then Some p else None) ++ xs) rest.pieces
          ∙ joined (nat_lt 0 (size p)) p (with_size ps);
    }

length-program_headers : (offset : ℕ) (ps : List Piece) → length (program_headers offset ps) ≡ 32 * length ps
unfolding program_headers
length-program_headers offset [] = refl
length-program_headers offset (p ∷ ps) =
    let one : length (program_header offset p) ≡ 32 = refl in
    let rest : length (program_headers (offset + length p.bytes) ps) ≡ 32 * length ps = length-program_headers (offset + length p.bytes) ps in
    length-append (program_header offset p) (program_headers (offset + length p.bytes) ps) ∙ omega arith

-- the ELF header that was written, whatever follows
or_true : (b : Bool) → (b || true) ≡ true
or_true true = refl
or_true false = refl

count_read : (entry count : ℕ) (rest : List ℕ) → count < 256 ^ 2 → e_phnum (elf_header entry count ++ rest) ≡ count
count_read entry count rest small = number_at 2 2 (52 ∷ 32 ∷ count ∷ 0 ∷ 0 ∷ 0 ∷ []) rest (omega arith) small

entry_read : (entry count : ℕ) (rest : List ℕ) → entry < 2 ^ 32 → e_entry (elf_header entry count ++ rest) ≡ entry
entry_read entry count rest small = number_at 4 1 (1 ∷ entry ∷ 52 ∷ 0 ∷ 0 ∷ []) (flat_map (little_bytes 2) (52 ∷ 32 ∷ count ∷ 0 ∷ 0 ∷ 0 ∷ []) ++ rest) (omega arith) small

place_read : (entry count : ℕ) (rest : List ℕ) → e_phoff (elf_header entry count ++ rest) ≡ 52
place_read entry count rest = refl

length-elf : (entry count : ℕ) (rest : List ℕ) → length (elf_header entry count ++ rest) ≡ 52 + length rest
length-elf entry count rest = length-append (elf_header entry count) rest

elf_read : (entry count : ℕ) (rest : List ℕ) → is_riscv32 (elf_header entry count ++ rest) ≡ true
elf_read entry count rest = or_true (e_phnum (elf_header entry count ++ rest) == 0)

-- the checks of such a file, up to its program headers
head_passes : (entry count : ℕ) (rest : List ℕ) → count ≤ 16 → 32 * count ≤ length rest → checked (elf_header entry count ++ rest) ≡ headers_checked count 52 (elf_header entry count ++ rest)
unfolding checked
head_passes entry count rest few room =
    let file : List ℕ = elf_header entry count ++ rest in
    let size : length file ≡ 52 + length rest = length-elf entry count rest in
    let many : e_phnum file ≡ count = count_read entry count rest (omega arith) in
    if_false (nat_lt (length file) 52) (Err Truncated) _ (le-ltb (length file) 52 (omega arith))
    ∙ if_false (not (is_riscv32 file)) (Err NotRiscV32) _ (ap not (elf_read entry count rest))
    ∙ if_false (nat_lt 16 (e_phnum file)) (Err TooMany) _ (le-ltb 16 (e_phnum file) (omega arith))
    ∙ if_false (lacks_headers file) (Err Truncated) _ (rw (le-ltb (length file) (52 + 32 * e_phnum file) (omega arith)) (and_false (nat_lt 0 (e_phnum file))))
    ∙ ap (λ n. headers_checked n 52 file) many

pub read_back : (entry : ℕ) (ps : List Piece) → IsWritable entry ps → meaning (file_of entry ps) ≡ Ok (entry, with_size ps)
unfolding meaning file_of
read_back entry ps is =
    let count : ℕ = length ps in
    let rest : List ℕ = program_headers (52 + 32 * count) ps ++ all_bytes ps in
    let file : List ℕ = elf_header entry count ++ rest in
    let headers : length (program_headers (52 + 32 * count) ps) ≡ 32 * count = length-program_headers (52 + 32 * count) ps in
    let room : length rest ≡ 32 * count + length (all_bytes ps) = length-append (program_headers (52 + 32 * count) ps) (all_bytes ps) ∙ ap (λ n. n + length (all_bytes ps)) headers in
    let few : length ps ≤ 16 = is.few in
    let most : length (all_bytes ps) ≤ 2 ^ 24 = leb-true (length (all_bytes ps)) (2 ^ 24) (and_first _ _ is.reach) in
    let read : AreRead ps 52 file =
    headers_read ps 52 (52 + 32 * count) file (all_bytes ps) refl
    (sym (drop-drop (32 * count) 52 file) ∙ drop_at (program_headers (52 + 32 * count) ps) (all_bytes ps) (32 * count) headers)
    (and_second _ _ is.reach) is.addressed (omega arith) in
    ap (λ r. r >>= λ _. Ok (e_entry file, pieces_from (e_phnum file) (e_phoff file) file)) (head_passes entry count rest few (omega arith) ∙ read.fine)
    ∙ ap (λ n. Ok (n, pieces_from (e_phnum file) 52 file)) (entry_read entry count rest is.entry_fits)
    ∙ ap (λ n. Ok (entry, pieces_from n 52 file)) (count_read entry count rest (omega arith))
    ∙ ap (λ qs. Ok (entry, qs)) read.pieces

-- a piece without a byte or a zero
no_byte : (p : Piece) (a : ℕ) → nat_lt 0 (size p) ≡ false → in_piece p a ≡ None
no_byte p a e = grind (arith, nat_tests)

none_behind : (o : Option ℕ) → or_else o None ≡ o
none_behind None = refl
none_behind (Some x) = refl

byte_with : (b : Bool) (p : Piece) (ps : List Piece) (a : ℕ) → nat_lt 0 (size p) ≡ b → byte_at (if b then p ∷ ps else ps) a ≡ or_else (byte_at ps a) (in_piece p a)
byte_with true p ps a e = refl
byte_with false p ps a e = sym (ap (or_else (byte_at ps a)) (no_byte p a e) ∙ none_behind (byte_at ps a))

-- pieces without a byte or a zero change none
same_bytes : (ps : List Piece) (a : ℕ) → byte_at (with_size ps) a ≡ byte_at ps a
same_bytes [] a = refl
same_bytes (p ∷ ps) a =
    byte_with (nat_lt 0 (size p)) p (with_size ps) a refl ∙ ap (λ o. or_else o (in_piece p a)) (same_bytes ps a)

pub stands_for : (entry : ℕ) (image : List Piece) → IsWritable entry image → StandsFor (file_of entry image) entry image
stands_for entry image is = (with_size image, read_back entry image is, same_bytes image)
