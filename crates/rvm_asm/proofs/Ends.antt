-- Where a line's bytes end.
use Rattle.std.proofs.Common.{◌≡◌, ℕ, suc, ◌+◌, ◌*◌, ◌≤◌, ◌^◌, List, [], ◌∷◌, ◌++◌, length, replicate, refl, ap, sym, ◌∙◌, arith, Bool, true, false, cond, Result, Ok, Err, inl, inr, length-append}
use Rattle.std.specs.Prelude.{◌%◌, ◌==◌, ◌||◌, if◌then◌else◌, nat_le, count_by}
use Rattle.std.proofs.lemmas.Bool.Decides.{nat_tests}
use Rattle.std.proofs.lemmas.List.{length-replicate}
use Rattle.std.proofs.lemmas.List.Sums.{sum_by-cons}
use Rattle.rvm_text.specs.Lexemes.{Lexeme}
use Rattle.rvm_text.specs.Strings.{text_of}
use Rattle.rvm_isa.specs.Words.{word_of}
use Rattle.rvm_isa.specs.declared.ins.Ins.TheVariants as ins
use Rattle.rvm_asm.specs.declared.faults.Fault.{Fault}
use Rattle.rvm_asm.specs.declared.faults.Fault.TheVariants.{OutOfReach}
use Rattle.rvm_asm.specs.declared.instructions.Words.{Words}
use Rattle.rvm_asm.specs.declared.instructions.Words.TheVariants as w
use Rattle.rvm_asm.specs.declared.statements.Code.{Code}
use Rattle.rvm_asm.specs.declared.statements.Code.TheVariants as c
use Rattle.rvm_asm.specs.declared.statements.Keyword.{Keyword}
use Rattle.rvm_asm.specs.declared.statements.Keyword.TheVariants as k
use Rattle.rvm_asm.specs.declared.statements.Width.{Width}
use Rattle.rvm_asm.specs.declared.statements.Width.TheVariants as sized
use Rattle.rvm_asm.specs.Contents.{value_of_width, value_bytes, list_bytes, words_of, words_at, global_at, bytes_of_kind, bytes_at}
use Rattle.rvm_asm.specs.Instructions.{bytes_of, li_at, li_words, li_size, low_field, instruction_at, pseudo_at}
use Rattle.rvm_asm.specs.Laws.{EndAt}
use Rattle.rvm_asm.specs.Operands.{distance}
use Rattle.rvm_asm.specs.Reading.{◌>>=◌, only_if, is_comma, at_head, parts, end_at, last_string}
use Rattle.rvm_asm.specs.Statements.{advanced, bytes_in, list_size, statement_at, balign_at, space_at, behind_string, size_of, place_after, next_place}
use Rattle.rvm_asm.specs.Values.{Names, last_value, fits_signed, high, low}

-- a value that is read
abbrev fine : {A : Type 0} → A → Result A Fault
fine x = Ok x

ok_is : {A : Type 0} {x y : A} → fine x ≡ fine y → x ≡ y
ok_is e = cc

-- what two statements make of the same value
both : {A B C : Type 0} (r : Result A Fault) (f : A → Result B Fault) (g : A → Result C Fault) (y : B) (z : C) (P : Type 0) → (r >>= f) ≡ Ok y → (r >>= g) ≡ Ok z → ((x : A) → r ≡ Ok x → f x ≡ Ok y → g x ≡ Ok z → P) → P
both (Ok x) f g y z P e h k = k x refl e h
both (Err x) f g y z P e h k = cc

-- the value that follows of another
one : {A B : Type 0} (r : Result A Fault) (f : A → Result B Fault) (y : B) (P : Type 0) → (r >>= f) ≡ Ok y → ((x : A) → r ≡ Ok x → f x ≡ Ok y → P) → P
one (Ok x) f y P e k = k x refl e
one (Err x) f y P e k = cc

-- the place this many bytes after another is at most 2 ^ 32
on : (place size after : ℕ) → advanced place size ≡ Ok after → (after ≡ place + size) × (after ≤ 2 ^ 32)
on place size after e = tested (nat_le (place + size) (2 ^ 32)) refl e
  where
    tested : (b : Bool) → nat_le (place + size) (2 ^ 32) ≡ b → only_if OutOfReach b (place + size) ≡ Ok after → (after ≡ place + size) × (after ≤ 2 ^ 32)
    tested true t h = (sym (ok_is h), grind (arith, nat_tests))
    tested false t h = cc

-- bytes as many as the place moves on by
moved : (place size after : ℕ) (bs : List ℕ) → advanced place size ≡ Ok after → length bs ≡ size → EndAt place after bs
moved place size after bs e n = let o = on place size after e in inr (o.0 ∙ ap (λ s. place + s) (sym n), o.1)

zeros_are : (n : ℕ) (bs : List ℕ) → fine (replicate n 0) ≡ fine bs → length bs ≡ n
zeros_are n bs e = ap length (sym (ok_is e)) ∙ length-replicate n 0

-- a part for each comma, and one
counted : (b : Bool) (t : Lexeme) (ps : List (List Lexeme)) (n : ℕ) → length ps ≡ 1 + n → length (if b then [] ∷ ps else at_head t ps) ≡ 1 + (cond b 1 0 + n)
counted true t ps n e = omega (arith, e)
counted false t [] n e = omega (arith, e)
counted false t (p ∷ ps) n e = omega (arith, e)

parts_count : (ts : List Lexeme) → length (parts ts) ≡ 1 + count_by is_comma ts
unfolding parts
parts_count [] = refl
parts_count (t ∷ ts) = counted (is_comma t) t (parts ts) (count_by is_comma ts) (parts_count ts) ∙ ap (λ n. 1 + n) (sym (sum_by-cons (λ x. cond (is_comma x) 1 0) t ts))

value_length : (width : Width) (v : ℕ) → length (value_bytes width v) ≡ bytes_in width
value_length sized.Word v = refl
value_length sized.Half v = refl
value_length sized.Byte v = refl

one_more : (width : Width) (n : ℕ) → bytes_in width + bytes_in width * n ≡ bytes_in width * suc n
one_more sized.Word n = omega arith
one_more sized.Half n = omega arith
one_more sized.Byte n = omega arith

-- this many bytes for each part
list_length : (names : Names) (width : Width) (ps : List (List Lexeme)) (bs : List ℕ) → list_bytes names width ps ≡ Ok bs → length bs ≡ bytes_in width * length ps
unfolding list_bytes
list_length names width [] bs e = ap length (sym (ok_is e)) ∙ none width
  where
    none : (width : Width) → 0 ≡ bytes_in width * 0
    none sized.Word = refl
    none sized.Half = refl
    none sized.Byte = refl
list_length names width (p ∷ ps) bs e =
    one (value_of_width names width p) (λ v. list_bytes names width ps >>= λ more. Ok (value_bytes width v ++ more)) bs (length bs ≡ bytes_in width * length (p ∷ ps)) e
    (λ v h f. one (list_bytes names width ps) (λ more. Ok (value_bytes width v ++ more)) bs (length bs ≡ bytes_in width * length (p ∷ ps)) f
    (λ more g i. ap length (sym (ok_is i)) ∙ length-append (value_bytes width v) more ∙ ap (λ n. n + length more) (value_length width v) ∙ ap (λ n. bytes_in width + n) (list_length names width ps more g) ∙ one_more width (length ps)))

list_ends : (names : Names) (place after : ℕ) (width : Width) (ts : List Lexeme) (bs : List ℕ) → advanced place (list_size width ts) ≡ Ok after → list_bytes names width (parts ts) ≡ Ok bs → EndAt place after bs
list_ends names place after width ts bs e h =
    moved place (list_size width ts) after bs e (list_length names width (parts ts) bs h ∙ ap (λ n. bytes_in width * n) (parts_count ts) ∙ sym (last width (count_by is_comma ts)))
  where
    last : (width : Width) (n : ℕ) → bytes_in width * n + bytes_in width ≡ bytes_in width * (1 + n)
    last sized.Word n = omega arith
    last sized.Half n = omega arith
    last sized.Byte n = omega arith

-- the words of li
li_by : (b c : Bool) (x y z : ℕ) → length (bytes_of (if b then w.One x else (if c then w.One y else w.Two y z))) ≡ (if b || c then 4 else 8)
li_by true c x y z = refl
li_by false true x y z = refl
li_by false false x y z = refl

li_length : (rd v : ℕ) → length (bytes_of (li_words rd v)) ≡ li_size v
li_length rd v = li_by (fits_signed 12 v) (low v == 0) (word_of (ins.Addi rd 0 (low_field v))) (word_of (ins.Lui rd (high v))) (word_of (ins.Addi rd rd (low_field v)))

-- words of which each has this many bytes
words_length : {A : Type 0} (r : Result A Fault) (f : A → Words) (n : ℕ) (ws : Words) → (r >>= λ x. Ok (f x)) ≡ Ok ws → ((x : A) → length (bytes_of (f x)) ≡ n) → length (bytes_of ws) ≡ n
words_length r f n ws e k = one r (λ x. Ok (f x)) ws (length (bytes_of ws) ≡ n) e (λ x h i. ap (λ y. length (bytes_of y)) (sym (ok_is i)) ∙ k x)

words_size : (names : Names) (place : ℕ) (kind : Code) (ts : List Lexeme) (ws : Words) (n : ℕ) → words_of names place kind ts ≡ Ok ws → size_of names kind ts ≡ Ok n → length (bytes_of ws) ≡ n
words_size names place c.Li ts ws n e h =
    both (li_at names ts) (λ o. Ok (li_words o.0 o.1)) (λ o. Ok (li_size o.1)) ws n (length (bytes_of ws) ≡ n) e h
    (λ o r f g. ap (λ x. length (bytes_of x)) (sym (ok_is f)) ∙ li_length o.0 o.1 ∙ ok_is g)
words_size names place c.La ts ws n e h =
    words_length (li_at names ts) (λ o. w.Two (word_of (ins.Auipc o.0 (high (distance o.1 place)))) (word_of (ins.Addi o.0 o.0 (low_field (distance o.1 place))))) n ws e (λ o. ok_is h)
words_size names place c.Call ts ws n e h =
    words_length (last_value names ts) (λ t. w.Two (word_of (ins.Auipc 1 (high (distance t place)))) (word_of (ins.Jalr 1 1 (low_field (distance t place))))) n ws e (λ t. ok_is h)
words_size names place (c.Pseudo pseudo) ts ws n e h =
    words_length (pseudo_at names place pseudo ts) (λ i. w.One (word_of i)) n ws e (λ i. ok_is h)
words_size names place (c.Instruction operation) ts ws n e h =
    words_length (instruction_at names place operation ts) (λ i. w.One (word_of i)) n ws e (λ i. ok_is h)

in_place : (b : Bool) (r : Result Words Fault) (ws : Words) → (r >>= λ words. only_if OutOfReach b words) ≡ Ok ws → r ≡ Ok ws
in_place true (Ok x) ws e = e
in_place false (Ok x) ws e = cc
in_place b (Err f) ws e = cc

code_ends : (names : Names) (place after : ℕ) (kind : Code) (ts : List Lexeme) (bs : List ℕ) → (size_of names kind ts >>= advanced place) ≡ Ok after → (words_at names place kind ts >>= λ ws. Ok (bytes_of ws)) ≡ Ok bs → EndAt place after bs
unfolding words_at
code_ends names place after kind ts bs e h =
    one (size_of names kind ts) (advanced place) after (EndAt place after bs) e
    (λ n r f. one (words_at names place kind ts) (λ ws. Ok (bytes_of ws)) bs (EndAt place after bs) h
    (λ ws q i. moved place n after bs f (ap length (sym (ok_is i)) ∙ words_size names place kind ts ws n (in_place (place % 4 == 0) (words_of names place kind ts) ws q) r)))

string_ends : (place more after : ℕ) (ts : List Lexeme) (bs : List ℕ) (f : List ℕ → List ℕ) → ((s : List ℕ) → length (f s) ≡ length (text_of s) + more) → behind_string place more ts ≡ Ok after → (last_string ts >>= λ s. Ok (f s)) ≡ Ok bs → EndAt place after bs
string_ends place more after ts bs f n e h =
    both (last_string ts) (λ s. advanced place (length (text_of s) + more)) (λ s. Ok (f s)) after bs (EndAt place after bs) e h
    (λ s r i j. moved place (length (text_of s) + more) after bs i (ap length (sym (ok_is j)) ∙ n s))

kind_ends : (names : Names) (place after : ℕ) (key : Keyword) (ts : List Lexeme) (bs : List ℕ) → place_after names place key ts ≡ Ok after → bytes_of_kind names place key ts ≡ Ok bs → EndAt place after bs
kind_ends names place after k.Org ts bs e h = inl (sym (ok_is h))
kind_ends names place after k.Space ts bs e h =
    both (space_at names ts) (advanced place) (λ n. Ok (replicate n 0)) after bs (EndAt place after bs) e h (λ n r f g. moved place n after bs f (zeros_are n bs g))
kind_ends names place after k.Balign ts bs e h =
    both (balign_at names place ts) (advanced place) (λ n. Ok (replicate n 0)) after bs (EndAt place after bs) e h (λ n r f g. moved place n after bs f (zeros_are n bs g))
kind_ends names place after k.Equ ts bs e h = inl (sym (ok_is h))
kind_ends names place after (k.List width) ts bs e h = list_ends names place after width ts bs e h
kind_ends names place after k.Ascii ts bs e h = string_ends place 0 after ts bs text_of (λ s. omega arith) e h
kind_ends names place after k.Asciz ts bs e h = string_ends place 1 after ts bs (λ s. text_of s ++ 0 ∷ []) (λ s. length-append (text_of s) (0 ∷ [])) e h
kind_ends names place after k.Text ts bs e h = one (end_at ts) (λ _. Ok []) bs (EndAt place after bs) h (λ x r i. inl (sym (ok_is i)))
kind_ends names place after k.Global ts bs e h = one (global_at ts) (λ _. Ok []) bs (EndAt place after bs) h (λ x r i. inl (sym (ok_is i)))
kind_ends names place after (k.Code kind) ts bs e h = code_ends names place after kind ts bs e h

-- a line's bytes end where the next line stands
pub ends : (names : Names) (place after : ℕ) (statement : List Lexeme) (bs : List ℕ) → next_place names place statement ≡ Ok after → bytes_at names place statement ≡ Ok bs → EndAt place after bs
ends names place after [] bs e h = inl (sym (ok_is h))
ends names place after (t ∷ ts) bs e h =
    both (statement_at (t ∷ ts)) (λ x. place_after names place x.0 x.1) (λ x. bytes_of_kind names place x.0 x.1) after bs (EndAt place after bs) e h
    (λ x r f g. kind_ends names place after x.0 x.1 bs f g)
