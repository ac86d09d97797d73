-- What is read of files.
use Rattle.std.specs.Prelude.{◌≡◌, ◌⊎◌, ◌<◌, ◌*◌, ◌^◌, ℕ, Bool, if◌then◌else◌, true, false, List, [], ◌++◌, codes, Option, None, Some, IfSome, length, take}
use Rattle.std.specs.Borrow.{Bor}
use Rattle.rvm_arguments.specs.declared.arguments.Arguments.{Arguments}
use Rattle.rvm_arguments.specs.declared.arguments.Arguments.TheVariants.{Run, Live, Orders, Asm, Dis, Debug, Script, Move, Audit, Host, Tell, Replay, ReplayTurns, AuditJournals}
use Rattle.rvm_arguments.specs.declared.arguments.GuestArguments.{GuestArguments}
use Rattle.rvm_arguments.specs.declared.arguments.Report.{Report}
use Rattle.rvm_arguments.specs.declared.arguments.Report.TheVariants.{Profile}
use Rattle.rvm_arguments.specs.declared.arguments.ReportArguments.{ReportArguments}
use Rattle.rvm_refusal.specs.declared.refusal.Refusal.{Refusal}
use Rattle.rvm_refusal.specs.declared.refusal.Refusal.TheVariants as refusal
use Rattle.rvm_refusal.specs.Refusal.{text_of}

-- the bytes of the file with a name, if they are known
abbrev pub Named : Type 0
Named = List ℕ → Option (List ℕ)

-- these are all bytes of a file, if those are known
abbrev pub IsFile : (known : Option (List ℕ)) → (bytes : List ℕ) → Type 0
IsFile known bytes = IfSome known (λ all. bytes ≡ all)

-- these are the first `count` bytes of a file, or all if it has no more, if those are known
abbrev pub IsFirst : (known : Option (List ℕ)) → (count : ℕ) → (bytes : List ℕ) → Type 0
IsFirst known count bytes = IfSome known (λ all. bytes ≡ take count all)

-- a file has other bytes than these, if its own are known
abbrev pub IsApart : (known : Option (List ℕ)) → (bytes : List ℕ) → Type 0
IsApart known bytes = IfSome known (λ all. all ≡ bytes → ⊥)

-- a file that was created holds what a new file of its name does, if that is known
abbrev pub IsCreated : (known held : Option (List ℕ)) → Type 0
IsCreated known held = IfSome known (λ all. held ≡ Some all)

-- a file that was opened has all its bytes left, if those are known
abbrev pub IsOpened : (known left : Option (List ℕ)) → Type 0
IsOpened known left = IfSome known (λ all. left ≡ Some all)

-- the file of the symbols of a report
abbrev pub symbols_in : Report → Option (Bor (List ℕ))
symbols_in (Profile symbols) = Some symbols
symbols_in report = None

-- these are all bytes of the file that is named; no bytes if no file is named
abbrev pub IsInput : Named → (name : Option (Bor (List ℕ))) → (bytes : List ℕ) → Type 0
IsInput files None bytes = bytes ≡ []
IsInput files (Some name) bytes = IsFile (files name.now) bytes

-- why a file was not read: memory ran out, or it cannot be opened or read
abbrev pub IsFileRefusal : Refusal → Type 0
IsFileRefusal r = (r ≡ refusal.OutOfMemory) ⊎ (r ≡ refusal.LinkFault)

-- these are all bytes of the image of a guest, if there is one
abbrev pub IsImage : Named → Option GuestArguments → (bytes : List ℕ) → Type 0
IsImage files guest bytes = IfSome guest (λ g. IsFile (files g.image.now) bytes)

-- these are the first `count` bytes of the file that is named, or all if it has no more; no bytes if no file is named
abbrev pub IsFirstInput : Named → (name : Option (Bor (List ℕ))) → (count : ℕ) → (bytes : List ℕ) → Type 0
IsFirstInput files None count bytes = bytes ≡ []
IsFirstInput files (Some name) count bytes = IsFirst (files name.now) count bytes

-- the report that a file was refused: its name and the refusal, in one line
abbrev pub file_text : (name : List ℕ) → Refusal → List ℕ
file_text name why = name ++ codes ": " ++ text_of why ++ codes "\n"

-- a file is refused so, since it has more bytes than this, if they are known
abbrev pub IsLong : (known : Option (List ℕ)) → (limit : ℕ) → (why r : Refusal) → Type 0
IsLong known limit why r = (r ≡ why) × IfSome known (λ all. limit < length all)

-- a file is refused so: it cannot be opened or read, memory ran out, or it has more bytes than it may have
abbrev pub IsRefusedFile : (known : Option (List ℕ)) → Refusal → Type 0
IsRefusedFile known r = IsFileRefusal r ⊎ ((limit : ℕ) × IsLong known limit refusal.TooLong r)

-- the most bytes of a file that is read whole
abbrev pub max_size : ℕ
max_size = 2 ^ 26

-- the most bytes of the file of an image: the size of RAM if it is plain bytes
abbrev pub image_limit : GuestArguments → ℕ
image_limit g = if g.raw then 4096 * g.pages else max_size

-- the refusal of an image of more bytes
abbrev pub long_image : (raw : Bool) → Refusal
long_image true = refusal.OutsideRam
long_image false = refusal.TooLong

-- an image is refused so, since its file has more bytes than it may have
abbrev pub IsLongImage : Named → GuestArguments → Refusal → Type 0
IsLongImage files g r = IsLong (files g.image.now) (image_limit g) (long_image g.raw) r

-- the bytes for the console are refused so, since their file has more bytes than it may have
abbrev pub IsLongInput : Named → (name : Option (Bor (List ℕ))) → Refusal → Type 0
IsLongInput files None r = ⊥
IsLongInput files (Some name) r = IsLong (files name.now) max_size refusal.TooLong r

-- the name of the file of the symbols of a report, if it has one
abbrev pub symbols_name : Option ReportArguments → Option (Bor (List ℕ))
symbols_name None = None
symbols_name (Some r) = symbols_in r.report

-- the symbols of a run's report are refused so, since their file has more bytes than it may have
abbrev pub IsLongSymbols : Named → Option ReportArguments → Refusal → Type 0
IsLongSymbols files report r = IsLongInput files (symbols_name report) r

-- what a command line asks for does not begin, and is refused so, since a file has more bytes than it may have
abbrev pub IsTooLong : Named → Arguments → Refusal → Type 0
IsTooLong files (Run a) r =
    IsLongImage files a.guest r ⊎ (IsLongInput files a.input r ⊎ IsLongSymbols files a.report r)
IsTooLong files (Live a) r = ⊥
IsTooLong files (Orders a) r = IsLongImage files a.guest r ⊎ IsLongInput files a.input r
IsTooLong files (Asm a) r = IsLong (files a.source.now) max_size refusal.TooLong r
IsTooLong files (Dis a) r = IsLong (files a.image.now) max_size refusal.TooLong r
IsTooLong files (Debug a) r = IsLongImage files a.guest r
IsTooLong files (Script a) r = IsLongImage files a.guest r
IsTooLong files (Move a) r = IsLongImage files a.guest r
IsTooLong files (Audit a) r = IsLongImage files a.guest r
IsTooLong files (Host a) r = ⊥
IsTooLong files (Tell a) r = ⊥
IsTooLong files (Replay a) r = ⊥
IsTooLong files (ReplayTurns a) r = ⊥
IsTooLong files (AuditJournals a) r = ⊥

-- why what a command line asks for does not begin: a file cannot be opened or read, memory ran out, or a file has more
-- bytes than it may have
abbrev pub IsUnread : Named → Arguments → Refusal → Type 0
IsUnread files a r = IsFileRefusal r ⊎ IsTooLong files a r
