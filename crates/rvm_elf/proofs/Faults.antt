-- No file's fault is that memory ran out.
use Rattle.std.proofs.Common.{◌≡◌, ◌≢◌, ℕ, zero, suc, ◌+◌, Bool, true, false, not, if◌then◌else◌, nat_lt, List, length, Result, Ok, Err, ap}
use Rattle.rvm_elf.specs.declared.error.ReadError.{ReadError}
use Rattle.rvm_elf.specs.declared.error.ReadError.TheVariants.{OutOfMemory, BadMagic, NotRiscV32, Truncated, TooMany}
use Rattle.rvm_elf.specs.declared.layout.ProgramHeader.{ProgramHeader}
use Rattle.rvm_elf.specs.File.{◌>>=◌, is_elf, is_riscv32, lacks_headers, is_loaded, lacks_bytes, e_entry, e_phnum, e_phoff, header_at, header_checked, headers_checked, pieces_from, checked, meaning, Refuses}

fault_or : (b : Bool) (e : ReadError) (r : Result (Unit {0}) ReadError) → e ≢ OutOfMemory → r ≢ Err OutOfMemory → (if b then Err e else r) ≢ Err OutOfMemory
fault_or true e r p q = λ h. p cc
fault_or false e r p q = q

fine_or : (b : Bool) (r : Result (Unit {0}) ReadError) → r ≢ Err OutOfMemory → (if b then Ok tt else r) ≢ Err OutOfMemory
fine_or true r q = λ h. cc
fine_or false r q = q

then_next : (r s : Result (Unit {0}) ReadError) → r ≢ Err OutOfMemory → s ≢ Err OutOfMemory → (r >>= λ _. s) ≢ Err OutOfMemory
then_next (Ok u) s p q = q
then_next (Err e) s p q = p

header_fault : (h : ProgramHeader) (file : List ℕ) → header_checked h file ≢ Err OutOfMemory
header_fault h file =
    fine_or (not (is_loaded h)) _ (fault_or (nat_lt h.p_memsz h.p_filesz) NotRiscV32 _ (λ e. cc) (fault_or (lacks_bytes h file) Truncated (Ok tt) (λ e. cc) (λ e. cc)))

headers_fault : (n at : ℕ) (file : List ℕ) → headers_checked n at file ≢ Err OutOfMemory
unfolding headers_checked
headers_fault zero at file = λ e. cc
headers_fault (suc n) at file = then_next (header_checked (header_at at file) file) (headers_checked n (at + 32) file) (header_fault (header_at at file) file) (headers_fault n (at + 32) file)

pub fault : (file : List ℕ) → checked file ≢ Err OutOfMemory
unfolding checked
fault file =
    fault_or (not (is_elf file)) BadMagic _ (λ e. cc)
    (fault_or (nat_lt (length file) 52) Truncated _ (λ e. cc)
    (fault_or (not (is_riscv32 file)) NotRiscV32 _ (λ e. cc)
    (fault_or (nat_lt 16 (e_phnum file)) TooMany _ (λ e. cc)
    (fault_or (lacks_headers file) Truncated _ (λ e. cc) (headers_fault (e_phnum file) (e_phoff file) file)))))

-- a file's fault is its refusal
pub refused : (e : ReadError) (file : List ℕ) → checked file ≡ Err e → Refuses e (meaning file)
unfolding meaning
refused OutOfMemory file h = absurd (fault file h)
refused BadMagic file h = ap (λ r. r >>= λ _. Ok (e_entry file, pieces_from (e_phnum file) (e_phoff file) file)) h
refused NotRiscV32 file h = ap (λ r. r >>= λ _. Ok (e_entry file, pieces_from (e_phnum file) (e_phoff file) file)) h
refused Truncated file h = ap (λ r. r >>= λ _. Ok (e_entry file, pieces_from (e_phnum file) (e_phoff file) file)) h
refused TooMany file h = ap (λ r. r >>= λ _. Ok (e_entry file, pieces_from (e_phnum file) (e_phoff file) file)) h
