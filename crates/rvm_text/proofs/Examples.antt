-- Lines and words, computed.
use Rattle.std.proofs.Common.{◌≡◌, [], ◌∷◌, Some, None, true, false, refl}
use Rattle.std.specs.Prelude.{codes}
use Rattle.rvm_text.specs.Lexemes.{Word, Mark, Quoted, lexemes}
use Rattle.rvm_text.specs.Numbers.{number_of}
use Rattle.rvm_text.specs.Registers.{abi_names, numbered_names, register_of, name_of}
use Rattle.rvm_text.specs.Strings.{text_of}
use Rattle.rvm_text.specs.Tokens.{is_name}

a_line : lexemes (codes "loop: lw a0, -4(sp) # again, and \"again\"")
    ≡ Some (
    Word (codes "loop") ∷ Mark 58 ∷ Word (codes "lw") ∷ Word (codes "a0") ∷ Mark 44 ∷ Mark 45 ∷
    Word (codes "4") ∷ Mark 40 ∷ Word (codes "sp") ∷ Mark 41 ∷ [])
unfolding lexemes
a_line = refl

a_mark_in_a_string : lexemes (codes ".ascii \"# \\\" 1\"") ≡ Some (Word (codes ".ascii") ∷ Quoted (codes "# \\\" 1") ∷ [])
unfolding lexemes
a_mark_in_a_string = refl

an_open_string : lexemes (codes ".ascii \"a") ≡ None
unfolding lexemes
an_open_string = refl

an_unknown_escape : lexemes (codes ".ascii \"\\r\"") ≡ None
unfolding lexemes
an_unknown_escape = refl

no_sign : lexemes (codes "a = 1") ≡ None
unfolding lexemes
no_sign = refl

hexadecimal : number_of (codes "0xFFffFFFF") ≡ Some 4294967295
hexadecimal = refl

too_large : number_of (codes "4294967296") ≡ None
too_large = refl

binary : number_of (codes "0b101") ≡ Some 5
binary = refl

no_digits : number_of (codes "0x") ≡ None
no_digits = refl

saved_register : register_of (codes "s11") ≡ Some 27
unfolding register_of abi_names numbered_names
saved_register = refl

frame_pointer : register_of (codes "fp") ≡ Some 8
unfolding register_of
frame_pointer = refl

last_register : register_of (codes "x31") ≡ Some 31
unfolding register_of abi_names numbered_names
last_register = refl

no_register : register_of (codes "x32") ≡ None
unfolding register_of abi_names numbered_names
no_register = refl

name_of_8 : name_of 8 ≡ codes "s0"
unfolding name_of abi_names
name_of_8 = refl

escapes : text_of (codes "a\\n\\0\\\\\\\"") ≡ 97 ∷ 10 ∷ 0 ∷ 92 ∷ 34 ∷ []
unfolding text_of
escapes = refl

tab : text_of (codes "\\t") ≡ 9 ∷ []
unfolding text_of
tab = refl

no_binary_digit : number_of (codes "0b12") ≡ None
no_binary_digit = refl

name : is_name (codes "_a1") ≡ true
name = refl

no_name : is_name (codes "1a") ≡ false
no_name = refl
