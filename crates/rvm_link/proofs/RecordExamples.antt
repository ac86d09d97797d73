-- Worked values.
use Rattle.std.proofs.Common.{◌≡◌, [], ◌∷◌, refl}
use Rattle.rvm_link.specs.Records.{Answer, Data, Question, bytes_in, data_in, record_bytes}

three_bytes : record_bytes (Data (7 ∷ 8 ∷ 9 ∷ [])) ≡ 0 ∷ 3 ∷ 0 ∷ 7 ∷ 8 ∷ 9 ∷ []
three_bytes = refl

no_bytes : record_bytes (Data []) ≡ 0 ∷ 0 ∷ 0 ∷ []
no_bytes = refl

question_5 : record_bytes (Question 5) ≡ 1 ∷ 5 ∷ 0 ∷ 0 ∷ 0 ∷ 0 ∷ 0 ∷ 0 ∷ 0 ∷ []
question_5 = refl

answer_258 : record_bytes (Answer 258) ≡ 2 ∷ 2 ∷ 1 ∷ 0 ∷ 0 ∷ 0 ∷ 0 ∷ 0 ∷ 0 ∷ []
answer_258 = refl

-- a question between data: the stream does not see it
in_between : data_in (Data (7 ∷ 8 ∷ []) ∷ Question 5 ∷ Data (9 ∷ []) ∷ Answer 258 ∷ []) ≡ 7 ∷ 8 ∷ 9 ∷ []
in_between = refl

one_behind_the_other : bytes_in (Data (7 ∷ []) ∷ Question 5 ∷ [])
    ≡ 0 ∷ 1 ∷ 0 ∷ 7 ∷ 1 ∷ 5 ∷ 0 ∷ 0 ∷ 0 ∷ 0 ∷ 0 ∷ 0 ∷ 0 ∷ []
one_behind_the_other = refl
