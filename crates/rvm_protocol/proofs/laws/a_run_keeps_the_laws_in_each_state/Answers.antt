use Rattle.rvm_protocol.proofs.Course.{course_law, course_law_from_any_world, past_law}
use Rattle.rvm_protocol.proofs.laws.a_run_keeps_the_laws_in_each_state.Goals as goal

pub returns : goal.returns
returns g c =
    record {
      always = λ m laws. course_law m laws;
      from_any_world = λ m laws. course_law_from_any_world m laws;
      past = λ m laws. past_law m laws;
    }
