use Rattle.std.proofs.Common.{◌≡◌, ◌++◌, ◌∙◌, Some, codes, sym}
use Rattle.std.proofs.lemmas.Str.Pattern.{split_text_parts}
use Rattle.rvm_files.proofs.refusal_report.RefusalReport.of.Goals as goal

pub returns : goal.returns
returns c =
    let parts : c.in-Ok.text.now ≡ c.in-Some.place.now ++ (codes "refused " ++ c.in-Some.words.now) =
    split_text_parts (codes "refused ") c.in-Ok.text.now (Some (c.in-Some.place, c.in-Some.words)) c.in-Some.ensures.cases in
    record { place = c.in-Some.place.now; words = c.in-Some.words.now; text = sym c.in-Ok.ensures.cases.0 ∙ parts }
