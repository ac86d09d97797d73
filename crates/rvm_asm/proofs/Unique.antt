-- A text has one assembly.
use Rattle.std.proofs.Common.{◌≡◌, ℕ, zero, suc, ◌+◌, ◌-◌, ◌<◌, ◌≤◌, List, [], ◌∷◌, length, map, slice_index, refl, ap, sym, ◌∙◌, Option, Some, None, arith, subst}
use Rattle.std.specs.Prelude.{IsSome, if◌then◌else◌}
use Rattle.std.specs.Str.{bytes_eq}
use Rattle.std.specs.Str.Lines.{lines}
use Rattle.std.proofs.Math.Path.{fun_ext}
use Rattle.rvm_text.specs.Lexemes.{Lexeme}
use Rattle.rvm_asm.specs.Statements.{Definition, label_of}
use Rattle.rvm_asm.specs.Values.{Names}
use Rattle.rvm_asm.specs.Images.{Piece, byte_at}
use Rattle.rvm_asm.specs.Pieces.{HasAt, HasSameBytes}
use Rattle.rvm_asm.proofs.Bytes.{some_is}
use Rattle.rvm_asm.specs.Assembly.{line_at, entry_of, Takes, Lays, IsLaidTo, IsLaid, BytesOf, IsImageTo, IsImage, IsAssemblyOf, HasOneAssembly}

-- lines that are read alike are the same
pub same_lines : (xs ys : List (List Lexeme)) → map (λ x. Some x) xs ≡ map (λ y. Some y) ys → xs ≡ ys
same_lines [] [] e = refl
same_lines [] (y ∷ ys) e = cc
same_lines (x ∷ xs) [] e = cc
same_lines (x ∷ xs) (y ∷ ys) e =
    let head : x ≡ y = cc in
    let rest : map (λ x. Some x) xs ≡ map (λ y. Some y) ys = cc in
    ap (λ z. z ∷ xs) head ∙ ap (λ zs. y ∷ zs) (same_lines xs ys rest)

-- names with what a line defines
abbrev pub with_definition : Names → Option Definition → Names
with_definition old None n = old n
with_definition old (Some d) n = if bytes_eq d.0 n then Some d.1 else old n

pub taken : (old new : Names) (d : Option Definition) → Takes old new d → new ≡ with_definition old d
taken old new None t = fun_ext (λ n. t n)
taken old new (Some d) t = fun_ext (λ n. t.1 n)

-- a line is laid out in one way
laid_once : (old new other : Names) (place after behind : ℕ) (line : List Lexeme) → Lays old new place after line → Lays old other place behind line → (new ≡ other) × (after ≡ behind)
laid_once old new other place after behind line l m =
    let labelled : l.labelled ≡ m.labelled =
    taken old l.labelled (label_of place line).0 l.label ∙ sym (taken old m.labelled (label_of place line).0 m.label) in
    let definition : l.definition ≡ m.definition = (let e = sym l.read ∙ m.read in cc) in
    let same : after ≡ behind = (let e = sym l.next ∙ m.next in cc) in
    let names : with_definition l.labelled l.definition ≡ with_definition m.labelled m.definition =
    ap (λ x. with_definition x l.definition) labelled ∙ ap (λ x. with_definition m.labelled x) definition in
    (taken l.labelled new l.definition l.defined ∙ names ∙ sym (taken m.labelled other m.definition m.defined), same)

-- the names after this many lines, and the place of the next, are the same in any two layouts
pub record SameTo (known known' : ℕ → Names) (places places' : List ℕ) (i : ℕ) : Type 0 where
  pub names : known i ≡ known' i
  pub place : slice_index places i ≡ slice_index places' i

pub same_to : (lines : List (List Lexeme)) (count other : ℕ) (names names' : Names) (places places' : List ℕ) → (l : IsLaidTo lines count names places) (m : IsLaidTo lines other names' places') → (i : ℕ) → i ≤ count → i ≤ other → SameTo l.known m.known places places' i
same_to lines count other names names' places places' l m zero within too = record {
  names = fun_ext (λ n. l.none n ∙ sym (m.none n));
  place = l.first ∙ sym m.first;
}
same_to lines count other names names' places places' l m (suc i) within too =
    let before = same_to lines count other names names' places places' l m i (omega (arith, within)) (omega (arith, too)) in
    let here : i < count = omega (arith, within) in
    let there : i < other = omega (arith, too) in
    let next_of : Lays (l.known i) (m.known (i + 1)) (slice_index places i) (slice_index places' (i + 1)) (line_at lines i) = rw (before.names, before.place) (m.each i there) in
    let same =
    laid_once (l.known i) (l.known (i + 1)) (m.known (i + 1)) (slice_index places i) (slice_index places (i + 1)) (slice_index places' (i + 1)) (line_at lines i)
    (l.each i here) next_of in
    let next : i + 1 ≡ suc i = omega arith in
    record {
      names = subst (λ j. l.known j ≡ m.known j) next same.0;
      place = subst (λ j. slice_index places j ≡ slice_index places' j) next same.1;
    }

pub same_names : (lines : List (List Lexeme)) (count : ℕ) (names names' : Names) (places places' : List ℕ) → IsLaidTo lines count names places → IsLaidTo lines count names' places' → names ≡ names'
same_names lines count names names' places places' l m =
    sym l.all ∙ (same_to lines count count names names' places places' l m count (omega arith) (omega arith)).names ∙ m.all

-- the bytes of a line are the same in any two layouts
same_bytes : (lines : List (List Lexeme)) (count : ℕ) (names names' : Names) (places places' : List ℕ) → IsLaidTo lines count names places → IsLaidTo lines count names' places' → (i : ℕ) → i < count → (bs cs : List ℕ) → BytesOf lines names places i bs → BytesOf lines names' places' i cs → bs ≡ cs
same_bytes lines count names names' places places' l m i here bs cs b c =
    let called = same_names lines count names names' places places' l m in
    let place = (same_to lines count count names names' places places' l m i (omega (arith, here)) (omega (arith, here))).place in
    let other : BytesOf lines names places i cs = rw (called, place) c in
    let e = sym b ∙ other in
    cc

-- a byte of one image stands in the other
same_byte : (lines : List (List Lexeme)) (count : ℕ) (names names' : Names) (places places' : List ℕ) (image pieces : List Piece) → IsLaidTo lines count names places → IsLaidTo lines count names' places' → IsImageTo lines count names places image → IsImageTo lines count names' places' pieces → (a : ℕ) → IsSome (byte_at image a) → byte_at image a ≡ byte_at pieces a
same_byte lines count names names' places places' image pieces l m this that a some =
    let o = this.others a some in
    let i = o.0 in
    let place = slice_index places i in
    let mine = this.bytes i o.1 in
    let yours = that.bytes i o.1 in
    let first : mine.0 ≡ o.2 = same_bytes lines count names names places places l l i o.1 mine.0 o.2 mine.1 o.3 in
    let second : yours.0 ≡ o.2 = sym (same_bytes lines count names names' places places' l m i o.1 o.2 yours.0 o.3 yours.1) in
    let at : slice_index places i ≡ slice_index places' i = (same_to lines count count names names' places places' l m i (omega (arith, o.1)) (omega (arith, o.1))).place in
    let has : HasAt image place o.2 = subst (HasAt image place) first mine.2 in
    let had : HasAt pieces place o.2 = subst (λ p. HasAt pieces p o.2) (sym at) (subst (HasAt pieces (slice_index places' i)) second yours.2) in
    let k = a - place in
    let inside : k < length o.2 = omega (arith, o.4) in
    let back : place + k ≡ a = omega (arith, o.4) in
    ap (byte_at image) (sym back) ∙ has k inside ∙ sym (had k inside) ∙ ap (byte_at pieces) back

-- two options are equal if each, if it has a value, equals the other
same_option : (x y : Option ℕ) → (IsSome x → x ≡ y) → (IsSome y → y ≡ x) → x ≡ y
same_option None None f g = refl
same_option None (Some v) f g = sym (g (some_is (Some v) v refl))
same_option (Some v) y f g = f (some_is (Some v) v refl)

same_image : (lines : List (List Lexeme)) (names names' : Names) (places places' : List ℕ) (image pieces : List Piece) → IsLaid lines names places → IsLaid lines names' places' → IsImage lines names places image → IsImage lines names' places' pieces → HasSameBytes image pieces
same_image lines names names' places places' image pieces l m this that =
    λ a. same_option (byte_at image a) (byte_at pieces a)
    (same_byte lines (length lines) names names' places places' image pieces l m this that a)
    (same_byte lines (length lines) names' names places' places pieces image m l that this a)

one_of_lines : (all : List (List Lexeme)) (entry other : ℕ) (image pieces : List Piece) → IsAssemblyOf all entry image → IsAssemblyOf all other pieces → (entry ≡ other) × HasSameBytes image pieces
one_of_lines all entry other image pieces t u =
    let names = same_names all (length all) t.0 u.0 t.1 u.1 t.2 u.2 in
    (t.4 ∙ ap entry_of names ∙ sym u.4, same_image all t.0 u.0 t.1 u.1 image pieces t.2 u.2 t.3 u.3)

pub one_assembly : (text : List ℕ) → HasOneAssembly text
one_assembly text entry other image pieces t u =
    let same : u.0 ≡ t.0 = same_lines u.0 t.0 (sym u.1 ∙ t.1) in
    one_of_lines t.0 entry other image pieces t.2 (subst (λ all. IsAssemblyOf all other pieces) same u.2)
