-- The lines that report how far journals are in order, host by host.
use Rattle.std.proofs.Common.{◌≡◌, ◌∙◌, ℕ, ◌+◌, ◌<◌, ◌≤◌, true, false, List, [], ◌∷◌, ◌++◌, if◌then◌else◌, Option, append_assoc, append-nil, ap, arith, codes, drop, get_or, length, length-take, sym, subst, take}
use Rattle.std.proofs.KnownBytes.{Appends-trans}
use Rattle.std.proofs.lemmas.List.{at_drop_all, at_drop_more, take_more}
use Rattle.std.specs.Io.KnownBytes.{Appends}
use Rattle.rvm_journal.specs.Headers.{header_at}
use Rattle.rvm_replay.specs.Audited.{is_wanted}
use Rattle.rvm_replay.specs.PlaceLines.{journal_name, place_line, place_lines}
use Rattle.rvm_replay.specs.Journals.{JournalText}
use Rattle.rvm_replay.specs.declared.headers.Wanted.TheVariants.{OfHost}

-- the next journal is that of a host, or it is not
module _ (x : ℕ) (files : List JournalText) (i : ℕ) (f : JournalText) (less : i < length files) (is : get_or files i f ≡ f) where
  next : journal_name x (drop i files)
      ≡ (if is_wanted (OfHost x) (header_at f.text) then f.name else journal_name x (drop (i + 1) files))
  next = at_drop_more (journal_name x) files i f less
      ∙ ap (λ (g : JournalText). if is_wanted (OfHost x) (header_at g.text) then g.name
      else journal_name x (drop (i + 1) files)) is

  pub here : is_wanted (OfHost x) (header_at f.text) ≡ true → journal_name x (drop i files) ≡ f.name
  here found = next ∙ ap (λ b. if b then f.name else journal_name x (drop (i + 1) files)) found

  pub further : is_wanted (OfHost x) (header_at f.text) ≡ false
      → journal_name x (drop i files) ≡ journal_name x (drop (i + 1) files)
  further other = next ∙ ap (λ b. if b then f.name else journal_name x (drop (i + 1) files)) other

-- no journal is that of a host
pub nowhere : (x : ℕ) (files : List JournalText) (i : ℕ) → length files ≤ i
    → journal_name x (drop i files) ≡ codes "no journal"
nowhere x files i all = at_drop_all (journal_name x) files i all

-- one host more
module _ (files : List JournalText) (places : ℕ → ℕ) where
  lines_push : (x : ℕ) (rs : List ℕ) (r : ℕ)
      → place_lines files places x (rs ++ r ∷ [])
      ≡ place_lines files places x rs ++ place_line files (x + length rs) (places (x + length rs)) r
  lines_push x [] r =
      let is : x ≡ x + 0 = omega arith in
      append-nil (place_line files x (places x) r) ∙ ap (λ y. place_line files y (places y) r) is
  lines_push x (s ∷ rs) r =
      let is : x + 1 + length rs ≡ x + length (s ∷ rs) = omega arith in
      let first = place_line files x (places x) s in
      ap (λ z. first ++ z) (lines_push (x + 1) rs r
      ∙ ap (λ y. place_lines files places (x + 1) rs ++ place_line files y (places y) r) is)
      ∙ sym (append_assoc first (place_lines files places (x + 1) rs)
      (place_line files (x + length (s ∷ rs)) (places (x + length (s ∷ rs))) r))

  lines_more : (all : List ℕ) (i : ℕ) (r : ℕ) → i < length all → get_or all i r ≡ r
      → place_lines files places 0 (take (i + 1) all)
      ≡ place_lines files places 0 (take i all) ++ place_line files i (places i) r
  lines_more all i r less is =
      let long : 0 + length (take i all) ≡ i = omega (arith, less, length-take i all) in
      ap (place_lines files places 0) (take_more all i r less) ∙ lines_push 0 (take i all) (get_or all i r)
      ∙ ap (λ s. place_lines files places 0 (take i all)
      ++ place_line files (0 + length (take i all)) (places (0 + length (take i all))) s) is
      ∙ ap (λ x. place_lines files places 0 (take i all) ++ place_line files x (places x) r) long

  -- one host more is reported
  pub host_more : (before mid after : Option (List ℕ)) (all : List ℕ) (i : ℕ) (r : ℕ) (place : ℕ)
      → i < length all → get_or all i r ≡ r → Appends before mid (place_lines files places 0 (take i all))
      → place ≡ places i → Appends mid after (place_line files i place r)
      → Appends before after (place_lines files places 0 (take (i + 1) all))
  host_more before mid after all i r place less is so place_is line =
      subst (Appends before after) (sym (lines_more all i r less is))
      (Appends-trans before mid after (place_lines files places 0 (take i all)) (place_line files i (places i) r) so
      (subst (λ p. Appends mid after (place_line files i p r)) place_is line))
