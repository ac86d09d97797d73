-- The first line of a journal: its text, and what that text tells.
use Rattle.std.specs.Prelude.{◌<◌, ◌≤◌, ℕ, nat_lt, Bool, true, false, if◌then◌else◌, List, [], ◌∷◌, ◌++◌, take, Option, Some, None, IfSome, Result, Ok, Err, codes, option_map}
use Rattle.std.specs.Fmt.{decimal}
use Rattle.std.specs.Str.{bytes_eq}
use Rattle.hex.specs.Hex.{decode_sized, encode_lower}
use Rattle.hex.specs.declared.error.FromHexError.{FromHexError}
use Rattle.rvm_codec.specs.Codec.{◌>>=◌}
use Rattle.rvm_debug.specs.Words.{lines, words}
use Rattle.rvm_journal.specs.Numbers.{field, ranged}
use Rattle.rvm_journal.specs.Told.{digest_behind, mark, no_digest, text_in}
use Rattle.rvm_journal.specs.declared.header.Header.{Header}
use Rattle.rvm_journal.specs.declared.header.Image.{Image}

-- the form of an image, as a header names it
abbrev pub form_text : (raw : Bool) → List ℕ
form_text true = codes "raw"
form_text false = codes "elf"

-- the guest with which a host began, as its header names it
abbrev pub guest_text : Option Image → List ℕ
guest_text None = codes " without guest"
guest_text (Some i) =
    codes " guest " ++ form_text i.raw ++ codes " " ++ decimal i.harts ++ codes " " ++ decimal i.pages ++ codes " "
    ++ encode_lower i.digest

-- the text of a header, without its line feed
abbrev pub text_of : Header → List ℕ
text_of h =
    codes "journal 1 host " ++ decimal h.host ++ codes " of " ++ decimal h.hosts ++ codes " process "
    ++ decimal h.process ++ codes " world " ++ decimal h.world ++ guest_text h.guest

-- whether a form is that of plain bytes
abbrev pub form_of : List ℕ → Option Bool
form_of word =
    if bytes_eq word (codes "raw") then Some true else (if bytes_eq word (codes "elf") then Some false else None)

-- a digest that was read
abbrev pub digest_if : Result (List ℕ) FromHexError → Option (List ℕ)
digest_if (Ok bytes) = Some bytes
digest_if (Err e) = None

-- an image, if all that tells it is there
abbrev pub image_if : (raw : Option Bool) → (harts pages : Option ℕ) → (digest : Option (List ℕ)) → Option Image
image_if (Some r) (Some h) (Some p) (Some d) = Some (record { raw = r; harts = h; pages = p; digest = d })
image_if r h p d = None

-- the image that words name: FORM HARTS PAGES DIGEST
abbrev pub image_in : List (List ℕ) → Option Image
image_in (f ∷ h ∷ p ∷ d ∷ []) = image_if (form_of f) (ranged 1 8 h) (ranged 1 4096 p) (digest_if (decode_sized d 32))
image_in ws = None

-- no guest, by the only word after `without`
abbrev pub no_guest_in : List (List ℕ) → Option (Option Image)
no_guest_in (w ∷ []) = if bytes_eq w (codes "guest") then Some None else None
no_guest_in ws = None

-- the guest that words name: `without guest`, or `guest` and its image
abbrev pub guest_in : List (List ℕ) → Option (Option Image)
guest_in [] = None
guest_in (w ∷ ws) =
    if bytes_eq w (codes "guest") then option_map Some (image_in ws)
    else (if bytes_eq w (codes "without") then no_guest_in ws else None)

-- a header, if the number of its host is one of that many hosts
abbrev pub header_if : Header → Option Header
header_if h = if nat_lt h.host h.hosts then Some h else None

-- the header that words tell
abbrev pub header_in : List (List ℕ) → Option Header
header_in ws =
    field (codes "journal") 1 1 ws >>= λ j.
    field (codes "host") 0 7 j.1 >>= λ h.
    field (codes "of") 2 8 h.1 >>= λ n.
    field (codes "process") 0 18446744073709551615 n.1 >>= λ p.
    field (codes "world") 0 18446744073709551615 p.1 >>= λ w.
    guest_in w.1 >>= λ g.
    header_if (record { hosts = n.0; host = h.0; process = p.0; world = w.0; guest = g })

-- the header that a text tells, without the digest before it and without its line feed
unfoldable pub header_of : List ℕ → Option Header
header_of text = header_in (words text)

-- the guest of an image has 1 to 8 harts, and 1 to 4096 pages
abbrev pub IsSized : Image → Type 0
IsSized i = (1 ≤ i.harts) × (i.harts ≤ 8) × (1 ≤ i.pages) × (i.pages ≤ 4096)

-- the number of hosts of a header is 2 to 8, the number of its host is one of theirs, and its guest has a size that a board
-- can have
abbrev pub IsRanged : Header → Type 0
IsRanged h = (2 ≤ h.hosts) × (h.hosts ≤ 8) × (h.host < h.hosts) × IfSome h.guest IsSized

-- the header that a first line tells, if the line shows its own digest
abbrev pub header_in_line : (line : List ℕ) → Option Header
header_in_line l = if bytes_eq (take 17 l) (mark (digest_behind no_digest l)) then header_of (text_in l) else None

-- the header that the first of some lines tells
abbrev pub first_header : List (List ℕ) → Option Header
first_header [] = None
first_header (l ∷ ls) = header_in_line l

-- the header of a journal with these bytes
unfoldable pub header_at : (bytes : List ℕ) → Option Header
header_at bytes = first_header (lines bytes)
