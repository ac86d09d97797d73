-- Bytes in pieces, and what one line adds to the image.
use Rattle.std.proofs.Common.{◌≡◌, ℕ, ◌+◌, ◌-◌, ◌<◌, ◌≤◌, add-one, List, [], ◌∷◌, ◌++◌, length, get_or, refl, ap, sym, ◌∙◌, Option, Some, None, Result, Ok, arith, subst, rules, inl, inr, ⊎_elim, length-append}
use Rattle.std.specs.Prelude.{◌⊎◌, IsSome}
use Rattle.std.proofs.lemmas.Bool.Decides.{nat_tests}
use Rattle.std.proofs.lemmas.List.{map_push, get_or_append_left, get_or-append-add}
use Rattle.std.proofs.str.Laws.{order}
use Rattle.rvm_text.specs.Lexemes.{Lexeme}
use Rattle.rvm_asm.specs.declared.faults.Fault.{Fault}
use Rattle.rvm_asm.specs.Statements.{label_of, next_place}
use Rattle.rvm_asm.specs.Values.{Names}
use Rattle.rvm_asm.proofs.Ends.{ends}
use Rattle.rvm_asm.specs.declared.image.Segment.{Segment}
use Rattle.rvm_asm.specs.Images.{Piece, piece, size, in_piece, byte_at, or_else, piece_of, pieces_of}
use Rattle.rvm_asm.specs.Assembly.{BytesOf, IsImageTo, IsImage, IsLaid, line_at}
use Rattle.rvm_asm.specs.Pieces.{HasAt, IsWithin, IsFree, IsTaken, Joins, HasSameBytes}
use Rattle.rvm_asm.specs.Views.{Fits, Puts}
use Rattle.rvm_asm.specs.Refusals.{count_at, count_to}
use Rattle.rvm_asm.proofs.Laying.{below_or_at, next_known}

-- the byte inside a piece
pub inside : (p : Piece) (a : ℕ) → p.address ≤ a → a < p.address + size p → in_piece p a ≡ Some (get_or p.bytes (a - p.address) 0)
inside p a low high = grind (arith, nat_tests)

-- none before it and none after it
pub outside : (p : Piece) (a : ℕ) → (a < p.address) ⊎ (p.address + size p ≤ a) → in_piece p a ≡ None
outside p a (inl h) = grind (arith, nat_tests)
outside p a (inr h) = grind (arith, nat_tests)

none_some : (o : Option ℕ) → o ≡ None → IsSome o → ⊥
none_some None e h = cc
none_some (Some x) e h = cc

-- where a piece has a byte
pub bounds : (p : Piece) (a : ℕ) → IsSome (in_piece p a) → (p.address ≤ a) × (a < p.address + size p)
bounds p a h =
    ⊎_elim (λ below. absurd (none_some _ (outside p a (inl below)) h))
    (λ low. ⊎_elim (λ high. (low, high)) (λ past. absurd (none_some _ (outside p a (inr past)) h)) (order a (p.address + size p)))
    (order a p.address)

pub or_none : (o : Option ℕ) → or_else o None ≡ o
or_none None = refl
or_none (Some x) = refl

pub or_assoc : (x y z : Option ℕ) → or_else x (or_else y z) ≡ or_else (or_else x y) z
or_assoc None y z = refl
or_assoc (Some x) y z = refl

-- a piece joins at the end
pub byte_push : (ps : List Piece) (p : Piece) (a : ℕ) → byte_at (ps ++ p ∷ []) a ≡ or_else (in_piece p a) (byte_at ps a)
byte_push [] p a = sym (or_none (in_piece p a))
byte_push (q ∷ ps) p a = ap (λ o. or_else o (in_piece q a)) (byte_push ps p a) ∙ sym (or_assoc (in_piece p a) (byte_at ps a) (in_piece q a))

empty_at : (addr a : ℕ) → (a < addr) ⊎ (addr + size (piece addr []) ≤ a)
empty_at addr a = ⊎_elim inl (λ h. inr (omega arith)) (order a addr)

-- no bytes
pub none_in_empty : (addr a : ℕ) → in_piece (piece addr []) a ≡ None
none_in_empty addr a = ⊎_elim (λ h. outside (piece addr []) a (inl h)) (λ h. outside (piece addr []) a (inr h)) (empty_at addr a)

-- one piece more is free
pub free_more : (p : Piece) (ps : List Piece) (address count : ℕ) → IsFree (p ∷ []) address count → IsFree ps address count → IsFree (p ∷ ps) address count
free_more p ps address count apart free a low high = ap (λ o. or_else o (in_piece p a)) (free a low high) ∙ apart a low high

some_first : (x y : Option ℕ) → IsSome x → IsSome (or_else x y)
some_first None y h = absurd (none_some None refl h)
some_first (Some x) y h = h

some_second : (x y : Option ℕ) → IsSome y → IsSome (or_else x y)
some_second None y h = h
some_second (Some x) y h = x_some x y
  where
    x_some : (x : ℕ) (y : Option ℕ) → IsSome (or_else (Some x) y)
    x_some x y = search rules

-- a piece is taken, or those after it are
pub taken_first : (p : Piece) (ps : List Piece) (address count : ℕ) → IsTaken (p ∷ []) address count → IsTaken (p ∷ ps) address count
taken_first p ps address count t = (t.0, t.1, t.2, some_second (byte_at ps t.0) (in_piece p t.0) t.3)

pub taken_more : (p : Piece) (ps : List Piece) (address count : ℕ) → IsTaken ps address count → IsTaken (p ∷ ps) address count
taken_more p ps address count t = (t.0, t.1, t.2, some_first (byte_at ps t.0) (in_piece p t.0) t.3)

-- one piece's places
pub apart_before : (p : Piece) (address count : ℕ) → p.address + size p ≤ address → IsFree (p ∷ []) address count
apart_before p address count e a low high = outside p a (inr (omega arith))

pub apart_behind : (p : Piece) (address count : ℕ) → address + count ≤ p.address → IsFree (p ∷ []) address count
apart_behind p address count e a low high = outside p a (inl (omega arith))

pub some_is : (o : Option ℕ) (x : ℕ) → o ≡ Some x → IsSome o
some_is None x e = cc
some_is (Some y) x e = search rules

pub taken_from : (p : Piece) (address count : ℕ) → 0 < count → p.address ≤ address → address < p.address + size p → IsTaken (p ∷ []) address count
taken_from p address count some low high = (address, omega arith, omega arith, some_is _ _ (inside p address low high))

pub taken_into : (p : Piece) (address count : ℕ) → 0 < size p → address ≤ p.address → p.address < address + count → IsTaken (p ∷ []) address count
taken_into p address count some low high = (p.address, low, high, some_is _ _ (inside p p.address (omega arith) (omega arith)))

-- two options of which one is none may change places
pub swap : (x y : Option ℕ) → (x ≡ None) ⊎ (y ≡ None) → or_else x y ≡ or_else y x
swap None None h = refl
swap None (Some y) h = refl
swap (Some x) None h = refl
swap (Some x) (Some y) h = ⊎_elim (λ e. cc) (λ e. cc) h

kept_byte : (x y : Option ℕ) (b : ℕ) → (x ≡ None) ⊎ (y ≡ None) → y ≡ Some b → or_else x y ≡ Some b
kept_byte x y b one e = swap x y one ∙ ap (λ o. or_else o x) e

new_byte : (x y : Option ℕ) (b : ℕ) → x ≡ Some b → or_else x y ≡ Some b
new_byte x y b e = ap (λ o. or_else o y) e

either : (x y : Option ℕ) → IsSome (or_else x y) → IsSome x ⊎ IsSome y
either None y h = inr h
either (Some x) y h = inl h

back : (p j : ℕ) → p + j - p ≡ j
back p j = omega arith

-- a piece has no byte where others have one, if it is free there
pub apart_at : (p : Piece) (ps : List Piece) (a : ℕ) → IsFree ps p.address (size p) → (in_piece p a ≡ None) ⊎ (byte_at ps a ≡ None)
apart_at p ps a free =
    ⊎_elim (λ h. inl (outside p a (inl h)))
    (λ low. ⊎_elim (λ high. inr (free a low high)) (λ h. inl (outside p a (inr h))) (order a (p.address + size p)))
    (order a p.address)

pub plain_size : (place : ℕ) (bs : List ℕ) → size (piece place bs) ≡ length bs
plain_size place bs = omega arith

-- a line has the same bytes
same_bytes : {bs cs : List ℕ} {r : Result (List ℕ) Fault} → r ≡ Ok bs → r ≡ Ok cs → bs ≡ cs
same_bytes e f = let h : Ok _ ≡ Ok _ = sym e ∙ f in cc

-- bytes that stand somewhere take it
taken_at : (image : List Piece) (place a : ℕ) (bs : List ℕ) → HasAt image place bs → IsWithin a place bs → byte_at image a ≡ None → ⊥
taken_at image place a bs at within none =
    some_none (get_or bs (a - place) 0) (byte_at image a) none (ap (byte_at image) (let e : a ≡ place + (a - place) = omega (arith, within.0) in e) ∙ at (a - place) (omega (arith, within.0, within.1)))
  where
    some_none : (x : ℕ) (o : Option ℕ) → o ≡ None → o ≡ Some x → ⊥
    some_none x o e f = cc

-- a line's bytes join the image
pub image_more : (lines : List (List Lexeme)) (i : ℕ) (names : Names) (places : List ℕ) (old new : List Piece) (place : ℕ) (line : List Lexeme) → IsImageTo lines i names places old → place ≡ get_or places i 0 → line ≡ line_at lines i → Puts old new names place line → IsImageTo lines (i + 1) names places new
image_more lines i names places old new place line image at is puts =
    let bs : List ℕ = puts.bytes in
    let p : Piece = piece place bs in
    let n : size p ≡ length bs = plain_size place bs in
    let one : (a : ℕ) → (in_piece p a ≡ None) ⊎ (byte_at old a ≡ None) = λ a. apart_at p old a (subst (IsFree old place) (sym n) puts.free) in
    let mine : BytesOf lines names places i bs = rw (← at, ← is) puts.of_line in
    record {
      bytes = λ k h. ⊎_elim
          (λ below. let b = image.bytes k below in (b.0, b.1, λ j l. puts.joined (get_or places k 0 + j) ∙ kept_byte (in_piece p (get_or places k 0 + j)) (byte_at old (get_or places k 0 + j)) (get_or b.0 j 0) (one (get_or places k 0 + j)) (b.2 j l)))
          (λ same. rw same (bs, mine, λ j l. rw (← at) (puts.joined (place + j) ∙ new_byte (in_piece p (place + j)) (byte_at old (place + j)) (get_or bs j 0) (inside p (place + j) (omega arith) (omega arith) ∙ ap (λ m. Some (get_or bs m 0)) (back place j)))))
          (below_or_at k i h);
      others = λ a s. ⊎_elim
          (λ now. let b = bounds p a now in (i, omega arith, bs, mine, (rw (← at) b.0, rw (← at) (omega (arith, b.1)))))
          (λ before. let o = image.others a before in (o.0, omega (arith, o.1), o.2, o.3, o.4))
          (either (in_piece p a) (byte_at old a) (subst IsSome (puts.joined a) s));
      apart = λ j k less h cs ds c d a first second. ⊎_elim
          (λ below. image.apart j k less below cs ds c d a first second)
          (λ same.
          let b = image.bytes j (omega (arith, less, same)) in
          let there : IsWithin a (get_or places j 0) b.0 = subst (IsWithin a (get_or places j 0)) (same_bytes c b.1) first in
          let of_line : BytesOf lines names places i ds = subst (λ m. BytesOf lines names places m ds) same d in
          let here : IsWithin a place bs = subst (λ m. IsWithin a m bs) (sym at) (subst (IsWithin a (get_or places i 0)) (same_bytes of_line mine) (subst (λ m. IsWithin a (get_or places m 0) ds) same second)) in
          taken_at old (get_or places j 0) a b.0 b.2 there (puts.free a here.0 here.1))
          (below_or_at k i h);
    }

-- bytes of pieces in two parts
byte_append : (xs ys : List Piece) (a : ℕ) → byte_at (xs ++ ys) a ≡ or_else (byte_at ys a) (byte_at xs a)
byte_append [] ys a = sym (or_none (byte_at ys a))
byte_append (x ∷ xs) ys a = ap (λ o. or_else o (in_piece x a)) (byte_append xs ys a) ∙ sym (or_assoc (byte_at ys a) (byte_at xs a) (in_piece x a))

pub pieces_append : (xs ys : List Segment) → pieces_of (xs ++ ys) ≡ pieces_of xs ++ pieces_of ys
pieces_append [] ys = refl
pieces_append (x ∷ xs) ys = ap (λ l. piece_of x ∷ l) (pieces_append xs ys)

-- a segment after the others
pub joins_push : (old : List Segment) (s : Segment) → Joins (pieces_of old) (pieces_of (old ++ s ∷ [])) (piece_of s)
joins_push old s a = ap (λ ps. byte_at ps a) (map_push piece_of old s) ∙ byte_push (pieces_of old) (piece_of s) a

get_or_right : (xs ys : List ℕ) (i n : ℕ) → i ≡ length xs + n → get_or (xs ++ ys) i 0 ≡ get_or ys n 0
get_or_right xs ys i n e = ap (λ k. get_or (xs ++ ys) k 0) e ∙ get_or-append-add xs ys n 0

-- bytes after those of a piece
pub longer_bytes : (l : ℕ) (xs ys : List ℕ) (a : ℕ) → in_piece (piece l (xs ++ ys)) a ≡ or_else (in_piece (piece (l + length xs) ys) a) (in_piece (piece l xs) a)
longer_bytes l xs ys a =
    let n : length (xs ++ ys) ≡ length xs + length ys = length-append xs ys in
    let z = in_piece (piece l xs) a in
    ⊎_elim
    (λ below. outside (piece l (xs ++ ys)) a (inl below) ∙ sym (ap (λ o. or_else o z) (outside (piece (l + length xs) ys) a (inl (omega arith))) ∙ outside (piece l xs) a (inl below)))
    (λ low. ⊎_elim
    (λ first. inside (piece l (xs ++ ys)) a low (omega arith) ∙ ap Some (get_or_append_left xs ys 0 (a - l) (omega arith)) ∙ sym (ap (λ o. or_else o z) (outside (piece (l + length xs) ys) a (inl first)) ∙ inside (piece l xs) a low (omega arith)))
    (λ past. ⊎_elim
    (λ second. inside (piece l (xs ++ ys)) a low (omega arith) ∙ ap Some (get_or_right xs ys (a - l) (a - (l + length xs)) (omega arith)) ∙ sym (ap (λ o. or_else o z) (inside (piece (l + length xs) ys) a past (omega arith))))
    (λ over. outside (piece l (xs ++ ys)) a (inr (omega arith)) ∙ sym (ap (λ o. or_else o z) (outside (piece (l + length xs) ys) a (inr (omega arith))) ∙ outside (piece l xs) a (inr (omega arith))))
    (order a (l + length xs + length ys)))
    (order a (l + length xs)))
    (order a l)

-- a segment without zeros after its bytes
pub plain : (s : Segment) → s.zeros ≡ 0 → piece_of s ≡ piece s.address s.bytes.items
plain s e = ap (λ z. record { address = s.address; bytes = s.bytes.items; zeros = z }) e

-- a segment that is longer than another
pub longest_is : (last longest : Segment) (bs : List ℕ) → longest.address ≡ last.address → longest.bytes.items ≡ last.bytes.items ++ bs → longest.zeros ≡ last.zeros → last.zeros ≡ 0 → piece_of longest ≡ piece last.address (last.bytes.items ++ bs)
longest_is last longest bs same more kept none =
    plain longest (kept ∙ none) ∙ ap (λ l. piece l longest.bytes.items) same ∙ ap (piece last.address) more

-- bytes after those of the last segment
joins_last : (rest : List Segment) (last longest : Segment) (address : ℕ) (bs : List ℕ) → piece_of longest ≡ piece last.address (last.bytes.items ++ bs) → last.zeros ≡ 0 → address ≡ last.address + length last.bytes.items → Joins (pieces_of (rest ++ last ∷ [])) (pieces_of (rest ++ longest ∷ [])) (piece address bs)
joins_last rest last longest address bs is none at a =
    let x = byte_at (pieces_of rest) a in
    let p : in_piece (piece_of longest) a ≡ or_else (in_piece (piece address bs) a) (in_piece (piece_of last) a) =
    ap (λ q. in_piece q a) is ∙ longer_bytes last.address last.bytes.items bs a
    ∙ ap (λ l. or_else (in_piece (piece l bs) a) (in_piece (piece last.address last.bytes.items) a)) (sym at)
    ∙ ap (λ q. or_else (in_piece (piece address bs) a) (in_piece q a)) (sym (plain last none)) in
    joins_push rest longest a ∙ ap (λ o. or_else o x) p ∙ sym (or_assoc (in_piece (piece address bs) a) (in_piece (piece_of last) a) x)
    ∙ ap (or_else (in_piece (piece address bs) a)) (sym (joins_push rest last a))

-- before the first line
pub image_none : (lines : List (List Lexeme)) (names : Names) (places : List ℕ) (ps : List Piece) → ps ≡ [] → IsImageTo lines 0 names places ps
image_none lines names places ps e = record {
  bytes = λ i h. absurd (omega (arith, h));
  others = λ a s. absurd (none_some (byte_at ps a) (ap (λ l. byte_at l a) e) s);
  apart = λ i j less h. absurd (omega (arith, h));
}

-- a line whose place and whose next line's place are known ends at 2 ^ 32 or before
pub fits : (lines : List (List Lexeme)) (names : Names) (places : List ℕ) (i place : ℕ) (line : List Lexeme) → i < length lines → IsLaid lines names places → place ≡ get_or places i 0 → line ≡ line_at lines i → Fits names place line
fits lines names places i place line inside laid at is = λ bs e.
    let next : next_place names place (label_of place line).1 ≡ Ok (get_or places (i + 1) 0) = rw (at, is) (next_known lines (length lines) names places laid i inside) in
    ⊎_elim inl (λ o. inr (omega (arith, o.0, o.1))) (ends names place (get_or places (i + 1) 0) (label_of place line).1 bs next e)

-- how many the lines have with one line more
pub count_more : (lines : List (List Lexeme)) (i : ℕ) (names : Names) (places : List ℕ) (place : ℕ) (line : List Lexeme) → place ≡ get_or places i 0 → line ≡ line_at lines i → count_to lines names places (i + 1) ≡ count_to lines names places i + count_at names place line
unfolding count_to
count_more lines i names places place line at is =
    ap (count_to lines names places) (add-one i)
    ∙ ap (λ n. count_to lines names places i + n) (sym (ap (λ p. count_at names p line) at ∙ ap (λ l. count_at names (get_or places i 0) l) is))

-- bytes after the last of the segments
pub append_last : (old rest new : List Segment) (last longest : Segment) (address : ℕ) (bs : List ℕ) → old ≡ rest ++ last ∷ [] → new ≡ rest ++ longest ∷ [] → piece_of longest ≡ piece last.address (last.bytes.items ++ bs) → last.zeros ≡ 0 → address ≡ last.address + length last.bytes.items → Joins (pieces_of old) (pieces_of new) (piece address bs)
append_last old rest new last longest address bs e f is none at a = rw (e, f) (joins_last rest last longest address bs is none at a)

-- a segment after those that are again what they were
pub append_new : (old mid new : List Segment) (s : Segment) → old ≡ mid → new ≡ mid ++ s ∷ [] → Joins (pieces_of old) (pieces_of new) (piece_of s)
append_new old mid new s e f a = rw (e, f) (joins_push mid s a)

-- the first piece that is left is joined
pub same_more : (rest joined new : List Piece) (p : Piece) (a : ℕ) → Joins joined new p → or_else (byte_at (p ∷ rest) a) (byte_at joined a) ≡ or_else (byte_at rest a) (byte_at new a)
same_more rest joined new p a joins = sym (or_assoc (byte_at rest a) (in_piece p a) (byte_at joined a)) ∙ ap (or_else (byte_at rest a)) (sym (joins a))

-- the same bytes are an image of the same lines
pub image_same : (lines : List (List Lexeme)) (names : Names) (places : List ℕ) (xs ys : List Piece) → IsImage lines names places xs → HasSameBytes xs ys → IsImage lines names places ys
image_same lines names places xs ys image same = record {
  bytes = λ k h. let b = image.bytes k h in (b.0, b.1, λ j l. sym (same (get_or places k 0 + j)) ∙ b.2 j l);
  others = λ a s. image.others a (subst IsSome (sym (same a)) s);
  apart = image.apart;
}
