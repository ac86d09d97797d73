-- Texts of headers, and what they tell, worked out by hand.
use Rattle.std.proofs.Common.{◌≡◌, List, [], ◌∷◌, ℕ, None, Some, true, codes, refl}
use Rattle.std.specs.Fmt.{digits}
use Rattle.hex.specs.Hex.{decode_pairs, encode_with}
use Rattle.rvm_debug.specs.Words.{words_from}
use Rattle.rvm_journal.specs.declared.header.Header.{Header}
use Rattle.rvm_journal.specs.Headers.{header_of, text_of}
use Rattle.rvm_journal.specs.Numbers.{long_in}

host_1_of_3 : Header
host_1_of_3 = record { hosts = 3; host = 1; process = 7; world = 0; guest = None }

its_text : text_of host_1_of_3 ≡ codes "journal 1 host 1 of 3 process 7 world 0 without guest"
unfolding host_1_of_3 digits
its_text = refl

it_is_read : header_of (codes "journal 1 host 1 of 3 process 7 world 0 without guest") ≡ Some host_1_of_3
unfolding host_1_of_3 header_of long_in words_from
it_is_read = refl

some_digest : List ℕ
some_digest =
    0 ∷ 1 ∷ 2 ∷ 3 ∷ 4 ∷ 5 ∷ 6 ∷ 7 ∷ 8 ∷ 9 ∷ 10 ∷ 11 ∷ 12 ∷ 13 ∷ 14 ∷ 15 ∷ 240 ∷ 241 ∷ 242 ∷ 243 ∷ 244 ∷ 245 ∷ 246 ∷ 247
    ∷ 248 ∷ 249 ∷ 250 ∷ 251 ∷ 252 ∷ 253 ∷ 254 ∷ 255 ∷ []

host_with_guest : Header
host_with_guest =
    record { hosts = 2; host = 0; process = 18446744073709551615; world = 12; guest = Some (record { raw = true; harts = 2; pages = 64; digest = some_digest }) }

text_with_guest : text_of host_with_guest
    ≡ codes "journal 1 host 0 of 2 process 18446744073709551615 world 12 guest raw 2 64 000102030405060708090a0b0c0d0e0ff0f1f2f3f4f5f6f7f8f9fafbfcfdfeff"
unfolding host_with_guest some_digest digits encode_with
text_with_guest = refl

guest_is_read : header_of (codes "journal 1 host 0 of 2 process 18446744073709551615 world 12 guest raw 2 64 000102030405060708090a0b0c0d0e0ff0f1f2f3f4f5f6f7f8f9fafbfcfdfeff")
    ≡ Some host_with_guest
unfolding host_with_guest some_digest header_of long_in words_from decode_pairs
guest_is_read = refl

host_3_of_3_is_none : header_of (codes "journal 1 host 3 of 3 process 7 world 0 without guest") ≡ None
unfolding header_of long_in words_from
host_3_of_3_is_none = refl

nine_harts_are_too_many : header_of (codes "journal 1 host 0 of 2 process 7 world 0 guest elf 9 64 000102030405060708090a0b0c0d0e0ff0f1f2f3f4f5f6f7f8f9fafbfcfdfeff") ≡ None
unfolding header_of long_in words_from decode_pairs
nine_harts_are_too_many = refl

a_number_of_2_to_the_64_is_too_large : header_of (codes "journal 1 host 1 of 3 process 18446744073709551616 world 0 without guest") ≡ None
unfolding header_of long_in words_from
a_number_of_2_to_the_64_is_too_large = refl

another_format_is_not_read : header_of (codes "journal 2 host 1 of 3 process 7 world 0 without guest") ≡ None
unfolding header_of long_in words_from
another_format_is_not_read = refl
