use Rattle.std.proofs.Common.{◌≡◌, ◌%◌, ◌^◌, arith}
use Rattle.rvm_dis.specs.Disassembly.{text_at}
use Rattle.rvm_dis.specs.Reassembly.{text_behind_org, image_of_word}
use Rattle.rvm_dis.proofs.Assembled.{no_names, assembled}
use Rattle.rvm_dis.proofs.reassembly.a_printed_word_assembles_to_itself_at_its_address.Goals as goal

pub returns : goal.returns
returns c =
    let address = c.args.address in
    let word = c.args.word in
    let text = text_at address word in
    let line = c.the_text_of_a_word_is_the_word_again.ensures in
    let made = λ (aligned : address % 4 ≡ 0).
    assembled address word text (omega arith) (line aligned no_names) in
    record {
      assembled = made;
      no_other = λ aligned entry image is.
          c.a_text_has_one_assembly.ensures (text_behind_org address word) entry (2 ^ 31) image
          (image_of_word address word) is (made aligned);
    }
