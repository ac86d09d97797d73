-- The two lines of a word at an address, laid out and placed.
use Rattle.std.proofs.Common.{◌≡◌, ℕ, zero, suc, ◌+◌, ◌^◌, ◌<◌, List, [], ◌∷◌, ◌++◌, length, map, slice_index, Some, None, Ok, refl, sym, ap, ◌∙◌, append_assoc, arith}
use Rattle.std.proofs.lemmas.List.{append-nil}
use Rattle.std.specs.Prelude.{IsSome, codes}
use Rattle.std.specs.Int.{to_le_bytes, w32}
use Rattle.std.specs.Str.Lines.{lines}
use Rattle.rvm_text.specs.Lexemes.{Lexeme, lexemes}
use Rattle.rvm_asm.specs.Contents.{bytes_at}
use Rattle.rvm_asm.specs.Statements.{label_of, next_place, equ_at}
use Rattle.rvm_asm.specs.Values.{Names}
use Rattle.rvm_asm.specs.Images.{Piece, piece, byte_at}
use Rattle.rvm_asm.specs.Assembly.{statement_of, line_at, Lays, BytesOf, IsLaid, IsImage, AreRead, IsAssembly}
use Rattle.rvm_asm.specs.Pieces.{HasAt, IsWithin}
use Rattle.rvm_dis.specs.Assembles.{Assembles}
use Rattle.rvm_dis.proofs.Reading.{read_all, one_line}
use Rattle.rvm_dis.specs.Reassembly.{org_line}
use Rattle.rvm_dis.proofs.Org.{org_lexemes, org_reads, org_next, org_undefining, org_bytes}
use Rattle.rvm_dis.proofs.Pieces.{bytes_there, only_there}

-- no name has a value
abbrev pub no_names : Names
no_names name = None

-- the statement of a line without a label is the whole line
whole_statement : (place : ℕ) (ts : List Lexeme) → label_of place ts ≡ (None, ts) →
    statement_of place ts ≡ ts
whole_statement place ts unlabelled = ap (λ l. l.1) unlabelled

-- a line without a label that defines nothing leaves the names as they are
lays : (place after : ℕ) (ts : List Lexeme) → label_of place ts ≡ (None, ts) →
    equ_at no_names ts ≡ Ok None → next_place no_names place ts ≡ Ok after →
    Lays no_names no_names place after ts
lays place after ts unlabelled undefining next =
    let whole = whole_statement place ts unlabelled in
    record {
      next = ap (next_place no_names place) whole ∙ next;
      labelled = no_names;
      label = rw unlabelled (λ n. refl);
      definition = None;
      read = ap (equ_at no_names) whole ∙ undefining;
      defined = λ n. refl;
    }

-- a text that stands for a word at an address, after an `.org`
module _ (a w : ℕ) (text : List ℕ) (below : a < 2 ^ 32) (stands : Assembles no_names a w text) where
  abbrev both_lines : List (List Lexeme)
  both_lines = org_lexemes a ∷ stands.lexemes ∷ []

  abbrev places : List ℕ
  places = 2 ^ 31 ∷ a ∷ (a + 4) ∷ []

  abbrev bytes : List ℕ
  bytes = to_le_bytes w32 w

  abbrev image : List Piece
  image = piece a bytes ∷ []

  each_laid : (i : ℕ) → i < 2 →
      Lays no_names no_names (slice_index places i) (slice_index places (i + 1))
      (line_at both_lines i)
  each_laid zero inside =
      lays (2 ^ 31) a (org_lexemes a) refl (org_undefining no_names (2 ^ 31) a below)
      (org_next no_names (2 ^ 31) a below)
  each_laid (suc zero) inside =
      lays a (a + 4) stands.lexemes stands.unlabelled stands.undefining stands.next
  each_laid (suc (suc i)) inside = absurd (omega arith)

  both_laid : IsLaid both_lines no_names places
  both_laid = record {
    many = refl;
    first = refl;
    known = λ i. no_names;
    none = λ n. refl;
    each = each_laid;
    all = refl;
  }

  abbrev Stands : (i : ℕ) → List ℕ → Type 0
  Stands i bs = BytesOf both_lines no_names places i bs

  first_stands : Stands 0 []
  first_stands = org_bytes no_names (2 ^ 31) a below

  second_stands : Stands 1 bytes
  second_stands =
      ap (bytes_at no_names a) (whole_statement a stands.lexemes stands.unlabelled) ∙ stands.bytes

  each_stands : (i : ℕ) → i < 2 →
      (bs : List ℕ) × Stands i bs × HasAt image (slice_index places i) bs
  each_stands zero inside = ([], first_stands, λ k none. absurd (omega arith))
  each_stands (suc zero) inside = (bytes, second_stands, bytes_there a bytes)
  each_stands (suc (suc i)) inside = absurd (omega arith)

  no_others : (x : ℕ) → IsSome (byte_at image x) →
      (i : ℕ) × (i < 2) × (bs : List ℕ) × Stands i bs × IsWithin x (slice_index places i) bs
  no_others x some = (1, omega arith, bytes, second_stands, only_there a bytes x some)

  -- the first line has no bytes
  all_apart : (i j : ℕ) → i < j → j < 2 → (bs cs : List ℕ) → Stands i bs → Stands j cs →
      (x : ℕ) → IsWithin x (slice_index places i) bs → IsWithin x (slice_index places j) cs → ⊥
  all_apart zero j order inside bs cs first second x in_first in_second =
      let same = sym first_stands ∙ first in
      let none : [] ≡ bs = cc in
      let count = ap length none in
      omega (arith, count, in_first)
  all_apart (suc i) j order inside bs cs first second x in_first in_second = omega arith

  both_placed : IsImage both_lines no_names places image
  both_placed = record { bytes = each_stands; others = no_others; apart = all_apart }

  two_lines : lines (org_line a ++ codes "\n" ++ text ++ codes "\n") ≡ org_line a ∷ text ∷ []
  two_lines =
      ap lines (append_assoc (org_line a ++ codes "\n") text (codes "\n"))
      ∙ one_line (org_reads a) (text ++ codes "\n")
      ∙ ap (λ l. org_line a ∷ l)
      (ap lines (sym (append-nil (text ++ codes "\n"))) ∙ stands.one_line [])

  both_read : AreRead (lines (org_line a ++ codes "\n" ++ text ++ codes "\n")) both_lines
  both_read =
      ap (map (λ t. lexemes t)) two_lines
      ∙ ap (λ o. o ∷ lexemes text ∷ []) (read_all (org_reads a))
      ∙ ap (λ o. Some (org_lexemes a) ∷ o ∷ []) stands.read

  -- is assembled into the word
  pub assembled : IsAssembly (org_line a ++ codes "\n" ++ text ++ codes "\n") (2 ^ 31) image
  assembled = (both_lines, both_read, (no_names, places, both_laid, both_placed, refl))
