-- Consecutive records, and that they are read in one way only.
use Rattle.std.proofs.Common.{◌≡◌, ◌∙◌, ap, arith, refl, subst, sym, ℕ, ◌≤◌, ◌<◌, ◌^◌, List, [], ◌∷◌, ◌++◌, append-nil, append_assoc, drop, length, take, Option, None, Some}
use Rattle.std.proofs.lemmas.List.{drop_at, flat_map_more, nil_from_length, take_at}
use Rattle.std.proofs.lemmas.List.Elements.{All-append, All-cons, All-head, All-nil, All-tail}
use Rattle.std.proofs.lemmas.List.Concat.{flat_map-append}
use Rattle.std.specs.Io.KnownBytes.{Appends, Consumes}
use Rattle.std.specs.List.{All}
use Rattle.byteorder.specs.Endian.{little_bytes}
use Rattle.rvm_codec.specs.Numbers.{number_at}
use Rattle.rvm_codec.proofs.Numbers.{number_again}
use Rattle.rvm_codec.proofs.Steps.{some_is}
use Rattle.rvm_link.specs.Records.{Answer, Data, Question, Record, bytes_in, data_in, data_of, record_bytes, Carries, Fits}
use Rattle.rvm_link.proofs.Pieces.{both_added}

-- nothing was written
pub none_written : (before : Option (List ℕ)) → Carries [] before before
none_written None = record { records = []; fit = All-nil Fits; carried = refl; written = tt }
none_written (Some xs) = record { records = []; fit = All-nil Fits; carried = refl; written = sym (append-nil xs) }

-- one record more
pub one_more : (bytes : List ℕ) (r : Record) (before mid now : Option (List ℕ)) → Fits r → Carries bytes before mid
    → Appends mid now (record_bytes r) → Carries (bytes ++ data_of r) before now
one_more bytes r before mid now fit c added = record {
  records = c.records ++ r ∷ [];
  fit = All-append Fits c.records (r ∷ []) c.fit (All-cons Fits r [] fit (All-nil Fits));
  carried = sym (flat_map_more data_of [] c.records r) ∙ ap (λ l. l ++ data_of r) c.carried;
  written =
      subst (λ l. Appends before now l) (flat_map_more record_bytes [] c.records r)
      (both_added before mid now (bytes_in c.records) (record_bytes r) c.written added);
}

-- one record of data, whose head and bytes were written in order
pub one_record : (bytes : List ℕ) (count : ℕ) (before mid now : Option (List ℕ)) → length bytes ≤ 65535
    → count ≡ length bytes → Appends before mid (0 ∷ little_bytes 2 count) → Appends mid now bytes
    → Carries bytes before now
one_record bytes count before mid now fit is head added =
    let whole : Appends before now (0 ∷ (little_bytes 2 count ++ bytes)) =
    both_added before mid now (0 ∷ little_bytes 2 count) bytes head added in
    one_more [] (Data bytes) before before now fit (none_written before)
    (subst (λ n. Appends before now (0 ∷ (little_bytes 2 n ++ bytes))) is whole)

-- records that carry bytes, and then records that carry more
pub both_carried : (xs ys : List ℕ) (before mid now : Option (List ℕ)) → Carries xs before mid → Carries ys mid now
    → Carries (xs ++ ys) before now
both_carried xs ys before mid now c d = record {
  records = c.records ++ d.records;
  fit = All-append Fits c.records d.records c.fit d.fit;
  carried = flat_map-append data_of c.records d.records ∙ ap (λ l. l ++ data_in d.records) c.carried
      ∙ ap (λ l. xs ++ l) d.carried;
  written =
      subst (λ l. Appends before now l) (sym (flat_map-append record_bytes c.records d.records))
      (both_added before mid now (bytes_in c.records) (bytes_in d.records) c.written d.written);
}

-- of all bytes, those before the rest were written
pub record IsUnderWay (all rest : List ℕ) (before now : Option (List ℕ)) : Type 0 where
  pub done : List ℕ
  pub carries : Carries done before now
  pub parts : done ++ rest ≡ all

-- the first piece of the rest is written
pub goes_on : (all rest piece behind : List ℕ) (before mid now : Option (List ℕ)) → rest ≡ piece ++ behind
    → length piece ≤ 65535 → IsUnderWay all rest before mid → Appends mid now (record_bytes (Data piece))
    → IsUnderWay all behind before now
goes_on all rest piece behind before mid now parts fit u added = record {
  done = u.done ++ piece;
  carries = one_more u.done (Data piece) before mid now fit u.carries added;
  parts = append_assoc u.done piece behind ∙ ap (λ l. u.done ++ l) (sym parts) ∙ u.parts;
}

-- nothing is left
pub is_done : (all rest : List ℕ) (before now : Option (List ℕ)) → length rest ≡ 0 → IsUnderWay all rest before now
    → Carries all before now
is_done all rest before now none u =
    let no_rest : [] ≡ rest = sym (nil_from_length rest none) in
    let whole : u.done ≡ all = sym (append-nil u.done) ∙ ap (λ l. u.done ++ l) no_rest ∙ u.parts in
    subst (λ l. Carries l before now) whole u.carries

-- bytes that begin with a number of this many bytes begin with no other one
numbers_are : (size n m : ℕ) (xs ys : List ℕ) → n < 256 ^ size → m < 256 ^ size
    → little_bytes size n ++ xs ≡ little_bytes size m ++ ys → (n ≡ m) × (xs ≡ ys)
numbers_are size n m xs ys n_fits m_fits e =
    let first = number_again size n xs n_fits in
    let second = number_again size m ys m_fits in
    let both = some_is (n, xs) (m, ys) (sym first ∙ ap (number_at size) e ∙ second) in
    (ap (λ (p : ℕ × List ℕ). p.0) both, ap (λ (p : ℕ × List ℕ). p.1) both)

-- bytes of one length that come first
fronts_are : (n : ℕ) (xs ys zs ws : List ℕ) → length xs ≡ n → length ys ≡ n → xs ++ zs ≡ ys ++ ws
    → (xs ≡ ys) × (zs ≡ ws)
fronts_are n xs ys zs ws long also e = (
  sym (take_at xs zs n long) ∙ ap (take n) e ∙ take_at ys ws n also,
  sym (drop_at xs zs n long) ∙ ap (drop n) e ∙ drop_at ys ws n also,
)

abbrev first : List ℕ → ℕ
first [] = 0
first (x ∷ xs) = x

abbrev others : List ℕ → List ℕ
others [] = []
others (x ∷ xs) = xs

data_are : (xs ys zs ws : List ℕ) → length xs ≤ 65535 → length ys ≤ 65535
    → (little_bytes 2 (length xs) ++ xs) ++ zs ≡ (little_bytes 2 (length ys) ++ ys) ++ ws → (xs ≡ ys) × (zs ≡ ws)
data_are xs ys zs ws x_fits y_fits e =
    let n = length xs in
    let m = length ys in
    let parts = sym (append_assoc (little_bytes 2 n) xs zs) ∙ e ∙ append_assoc (little_bytes 2 m) ys ws in
    let lens = numbers_are 2 n m (xs ++ zs) (ys ++ ws) (omega (arith, x_fits)) (omega (arith, y_fits)) parts in
    fronts_are (length xs) xs ys zs ws refl (sym lens.0) lens.1

-- bytes that begin with a record begin with no other one
pub records_are : (r s : Record) (xs ys : List ℕ) → Fits r → Fits s → record_bytes r ++ xs ≡ record_bytes s ++ ys
    → (r ≡ s) × (xs ≡ ys)
records_are (Data b) (Data d) xs ys r_fits s_fits e =
    let both = data_are b d xs ys r_fits s_fits (ap others e) in
    (ap Data both.0, both.1)
records_are (Question n) (Question m) xs ys r_fits s_fits e =
    let both = numbers_are 8 n m xs ys r_fits s_fits (ap others e) in
    (ap Question both.0, both.1)
records_are (Answer n) (Answer m) xs ys r_fits s_fits e =
    let both = numbers_are 8 n m xs ys r_fits s_fits (ap others e) in
    (ap Answer both.0, both.1)
records_are (Data b) (Question m) xs ys r_fits s_fits e = absurd (omega (arith, ap first e))
records_are (Data b) (Answer m) xs ys r_fits s_fits e = absurd (omega (arith, ap first e))
records_are (Question n) (Data d) xs ys r_fits s_fits e = absurd (omega (arith, ap first e))
records_are (Question n) (Answer m) xs ys r_fits s_fits e = absurd (omega (arith, ap first e))
records_are (Answer n) (Data d) xs ys r_fits s_fits e = absurd (omega (arith, ap first e))
records_are (Answer n) (Question m) xs ys r_fits s_fits e = absurd (omega (arith, ap first e))

-- reading a record where records were written gives the first of them, and the others are to come
pub comes_next : (r s : Record) (ss : List Record) (after : Option (List ℕ)) → Fits r → Fits s
    → Consumes (Some (bytes_in (s ∷ ss))) after (record_bytes r) → (r ≡ s) × (after ≡ Some (bytes_in ss))
comes_next r s ss None r_fits s_fits e = absurd e
comes_next r s ss (Some xs) r_fits s_fits e =
    let both = records_are r s xs (bytes_in ss) r_fits s_fits (sym e) in
    (both.0, ap Some both.1)

-- some bytes stand in front of none
some_behind : (r : Record) (xs : List ℕ) → [] ≡ record_bytes r ++ xs → ⊥
some_behind (Data b) xs e = absurd (omega (arith, ap length e))
some_behind (Question n) xs e = absurd (omega (arith, ap length e))
some_behind (Answer n) xs e = absurd (omega (arith, ap length e))

-- the bytes of records are those of no others
pub all_are : (rs ss : List Record) → All Fits rs → All Fits ss → bytes_in rs ≡ bytes_in ss → rs ≡ ss
all_are [] [] r_fit s_fit e = refl
all_are [] (s ∷ ss) r_fit s_fit e = absurd (some_behind s (bytes_in ss) e)
all_are (r ∷ rs) [] r_fit s_fit e = absurd (some_behind r (bytes_in rs) (sym e))
all_are (r ∷ rs) (s ∷ ss) r_fit s_fit e =
    let both = records_are r s (bytes_in rs) (bytes_in ss) (All-head Fits r rs r_fit) (All-head Fits s ss s_fit) e in
    let rest = all_are rs ss (All-tail Fits r rs r_fit) (All-tail Fits s ss s_fit) both.1 in
    ap (λ x. x ∷ rs) both.0 ∙ ap (λ l. s ∷ l) rest
