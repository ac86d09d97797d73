-- Hosts that files name.
use Rattle.std.proofs.Common.{◌≡◌, [], ◌∷◌, None, Some, codes, false, refl}
use Rattle.rvm_debug.specs.Words.{lines, lines_from, words_from}
use Rattle.rvm_link.specs.declared.peers.PeersFault.TheVariants.{SameAddress}
use Rattle.rvm_link.specs.Peers.{IsFirstFault, IsLineFault, is_repeat_at, peers_in}

two_hosts : peers_in (lines (codes "A 10.0.0.1:7001\nB 10.0.0.2:7001\n"))
    ≡ Some (codes "10.0.0.1:7001" ∷ codes "10.0.0.2:7001" ∷ [])
unfolding lines_from words_from
two_hosts = refl

-- any word is an address
an_address_is_any_word : peers_in (lines (codes "A #1\nB A")) ≡ Some (codes "#1" ∷ codes "A" ∷ [])
unfolding lines_from words_from
an_address_is_any_word = refl

a_comment_and_a_blank_line_name_nothing : peers_in (lines (codes "# hosts\nA here:1\n \t\n  #B far:1\nB there:1\n"))
    ≡ Some (codes "here:1" ∷ codes "there:1" ∷ [])
unfolding lines_from words_from
a_comment_and_a_blank_line_name_nothing = refl

spaces_and_tabs_separate_words : peers_in (lines (codes "  A\there:1\t\nB   there:1 \n"))
    ≡ Some (codes "here:1" ∷ codes "there:1" ∷ [])
unfolding lines_from words_from
spaces_and_tabs_separate_words = refl

a_carriage_return_ends_a_line : peers_in (lines (codes "A here:1\r\n\r\nB there:1\r\n"))
    ≡ Some (codes "here:1" ∷ codes "there:1" ∷ [])
unfolding lines_from words_from
a_carriage_return_ends_a_line = refl

one_host_is_named_alone : peers_in (lines (codes "A here:1")) ≡ Some (codes "here:1" ∷ [])
unfolding lines_from words_from
one_host_is_named_alone = refl

no_letter_is_left_out : peers_in (lines (codes "A here:1\nC there:1\n")) ≡ None
unfolding lines_from words_from
no_letter_is_left_out = refl

no_letter_comes_again : peers_in (lines (codes "A here:1\nA there:1\n")) ≡ None
unfolding lines_from words_from
no_letter_comes_again = refl

-- an address names one host
no_address_comes_again : peers_in (lines (codes "A here:1\nB here:1\n")) ≡ None
unfolding lines_from words_from
no_address_comes_again = refl

letters_are_large : peers_in (lines (codes "a here:1\nb there:1\n")) ≡ None
unfolding lines_from words_from
letters_are_large = refl

eight_hosts : peers_in (lines (codes "A a\nB b\nC c\nD d\nE e\nF f\nG g\nH h\n"))
    ≡ Some (codes "a" ∷ codes "b" ∷ codes "c" ∷ codes "d" ∷ codes "e" ∷ codes "f" ∷ codes "g" ∷ codes "h" ∷ [])
unfolding lines_from words_from
eight_hosts = refl

nine_hosts_are_too_many : peers_in (lines (codes "A a\nB b\nC c\nD d\nE e\nF f\nG g\nH h\nI i\n")) ≡ None
unfolding lines_from words_from
nine_hosts_are_too_many = refl

a_line_has_two_words : peers_in (lines (codes "A here 1\n")) ≡ None
unfolding lines_from words_from
a_line_has_two_words = refl

a_letter_alone_names_no_host : peers_in (lines (codes "A\n")) ≡ None
unfolding lines_from words_from
a_letter_alone_names_no_host = refl

-- lines are counted from 1, with those that name nothing
the_first_fault_is_told : IsFirstFault 3 (lines (codes "# hosts\nA here:1\nC there:1\nc\n"))
unfolding lines_from words_from
the_first_fault_is_told = record { before = refl; here = refl }

the_bad_line_repeats_no_address : is_repeat_at 3 (lines (codes "# hosts\nA here:1\nC there:1\nc\n")) ≡ false
unfolding lines_from words_from
the_bad_line_repeats_no_address = refl

-- the line of the second host at an address is the fault
the_second_of_one_address_is_told : IsLineFault (SameAddress 4) (lines (codes "A here:1\n#\nB there:1\nC here:1\n"))
unfolding lines_from words_from
the_second_of_one_address_is_told = (record { before = refl; here = refl }, refl)
