-- A word's text after an `.org`, and the word's bytes, as the manual gives them.
use Rattle.std.proofs.Common.{◌≡◌, [], ◌∷◌, refl}
use Rattle.std.specs.Prelude.{codes}
use Rattle.rvm_word.specs.Word.{signed_value}
use Rattle.rvm_text.specs.Registers.{name_of, abi_names}
use Rattle.rvm_isa.specs.Table.{table, row_of, decoded}
use Rattle.rvm_asm.specs.Images.{piece}
use Rattle.rvm_dis.specs.Pieces.{hex_digits}
use Rattle.rvm_dis.specs.Disassembly.{text_of}
use Rattle.rvm_dis.specs.Reassembly.{text_behind_org, image_of_word}

text : text_behind_org 0x80000000 0x00050463
    ≡ codes ".org 0x80000000\nbeq a0, zero, 0x80000008\n"
unfolding decoded row_of table signed_value name_of abi_names hex_digits text_of
text = refl

image : image_of_word 0x80000000 0x00050463
    ≡ piece 0x80000000 (0x63 ∷ 0x04 ∷ 0x05 ∷ 0x00 ∷ []) ∷ []
image = refl
