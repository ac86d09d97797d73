use Rattle.std.proofs.Common.{◌≡◌, ◌∙◌, ◌≤◌, arith, false, length, refl, sym, true}
use Rattle.rvm_elf.specs.File.{is_elf}
use Rattle.rvm_files.proofs.Checks.{identity_told, no_magic, short, table_told}
use Rattle.rvm_files.proofs.headers.elf_fault.Goals as goal

pub returns-then-not-is_elf : goal.returns-then-not-is_elf
returns-then-not-is_elf c =
    let magic : is_elf c.args.file.now ≡ false = sym c.is_elf.ensures ∙ c.if-not-is_elf.true in
    (magic, no_magic c.args.file.now magic)

pub returns-then-file-lt-HEADER_SIZE : goal.returns-then-file-lt-HEADER_SIZE
returns-then-file-lt-HEADER_SIZE c =
    let magic : is_elf c.args.file.now ≡ true = sym c.is_elf.ensures ∙ c.if-not-is_elf.false in
    ((refl, c.if-file-lt-HEADER_SIZE.true), short c.args.file.now magic c.if-file-lt-HEADER_SIZE.true)

pub returns-in-Some : goal.returns-in-Some
returns-in-Some c =
    let magic : is_elf c.args.file.now ≡ true = sym c.is_elf.ensures ∙ c.if-not-is_elf.false in
    let enough : 52 ≤ length c.args.file.now = omega arith in
    identity_told c.args.file.now c.in-Some.fault magic enough c.in-Some.ensures

pub returns : goal.returns
returns c =
    let magic : is_elf c.args.file.now ≡ true = sym c.is_elf.ensures ∙ c.if-not-is_elf.false in
    let enough : 52 ≤ length c.args.file.now = omega arith in
    table_told c.args.file.now c.table_fault.result magic enough c.in_default.ensures
    c.table_fault.ensures
