-- One program header more after those without a fault.
use Rattle.std.proofs.Common.{◌≡◌, ◌<◌, ℕ, zero, suc, ◌+◌, ◌-◌, ◌*◌, List, Result, Ok, Err, Some, refl, sym, ap, ◌∙◌, arith}
use Rattle.rvm_elf.specs.declared.error.ReadError.{ReadError}
use Rattle.rvm_elf.specs.File.{◌>>=◌, header_at, header_checked, headers_checked}
use Rattle.rvm_elf.proofs.Headers.{header_failed}
use Rattle.rvm_files.specs.ElfFaults.{AreHeaderFaults, IsAt, elf_error}
use Rattle.rvm_files.specs.declared.headers.ElfFault.{ElfFault}

-- the first header and those after it have no fault
record Both (r s : Result (Unit {0}) ReadError) : Type 0 where
  first : r ≡ Ok tt
  rest : s ≡ Ok tt

both : (r s : Result (Unit {0}) ReadError) → (r >>= λ _. s) ≡ Ok tt → Both r s
both (Ok u) s e = record { first = refl; rest = e }
both (Err x) s e = cc

-- no header has a fault if those before the last have none, nor the last
pub one_more : (n at : ℕ) (file : List ℕ) → headers_checked n at file ≡ Ok tt
    → header_checked (header_at (at + 32 * n) file) file ≡ Ok tt → headers_checked (suc n) at file ≡ Ok tt
unfolding headers_checked
one_more zero at file before here =
    let same : at + 32 * 0 ≡ at = omega arith in
    ap (λ a. header_checked (header_at a file) file >>= λ _. Ok tt) (sym same) ∙ ap (λ r. r >>= λ _. Ok tt) here
one_more (suc n) at file before here =
    let parts = both (header_checked (header_at at file) file) (headers_checked n (at + 32) file) before in
    let same : at + 32 + 32 * n ≡ at + 32 * suc n = omega arith in
    let last : header_checked (header_at (at + 32 + 32 * n) file) file ≡ Ok tt =
    ap (λ a. header_checked (header_at a file) file) same ∙ here in
    ap (λ r. r >>= λ _. headers_checked (suc n) (at + 32) file) parts.first ∙ one_more n (at + 32) file parts.rest last

-- the first header with a fault is told
pub header_found : (count i first : ℕ) (file : List ℕ) (fault : ElfFault) → i < count
    → headers_checked i first file ≡ Ok tt
    → headers_checked (count - i) (first + 32 * i) file ≡ headers_checked count first file → IsAt fault i
    → header_checked (header_at (first + 32 * i) file) file ≡ Err (elf_error fault)
    → AreHeaderFaults file first count (Some fault)
header_found count i first file fault more before rest at here = (
  sym rest ∙ header_failed count i first file (elf_error fault) more here,
  (i, at, record { before = before; here = here }),
)

-- the same, counted on
pub counted_on : (n at : ℕ) (file : List ℕ) → headers_checked n at file ≡ Ok tt
    → header_checked (header_at (at + 32 * n) file) file ≡ Ok tt → headers_checked (n + 1) at file ≡ Ok tt
counted_on n at file before here =
    let next : n + 1 ≡ suc n = omega arith in
    ap (λ k. headers_checked k at file) next ∙ one_more n at file before here

-- before the first header
pub no_headers : (at : ℕ) (file : List ℕ) → headers_checked 0 at file ≡ Ok tt
unfolding headers_checked
no_headers at file = refl

-- all headers are left
pub all_left : (count at : ℕ) (file : List ℕ) → headers_checked (count - 0) (at + 0) file ≡ headers_checked count at file
all_left count at file =
    let none : count - 0 ≡ count = omega arith in
    let same : at + 0 ≡ at = omega arith in
    ap (λ k. headers_checked k (at + 0) file) none ∙ ap (λ a. headers_checked count a file) same
