-- Index files and what the oracle printed for them, from text to text. Written by definition_check.py. Assumes nothing.
use Rattle.std.specs.Prelude.{◌≡◌, refl, ◌++◌}
use Rattle.model.specs.Common.{bytes}
use Rattle.resolution.specs.Resolve.{resolve}
use Rattle.resolution.specs.Computes.{resolves}

wrong_q_type_0_1_1_4_7_printed :
    resolve
    (bytes "index\t1\n"
    ++ bytes "M\tmain\n"
    ++ bytes "S\t-\tmodule\n"
    ++ bytes "S\t0\tfunction\n"
    ++ bytes "T\tfelt\n"
    ++ bytes "T\tu32\n"
    ++ bytes "D\t0\td\t0\t1\t0\t1\tloop\n"
    ++ bytes "E\t0\t0\t1\t-\t-\tplain\t-\t-\tbool\n"
    ++ bytes "Q\tdef\t0\t0\n"
    ++ bytes "Q\ttype\t0\t1\t3\n")
    ≡ bytes "refused\t5\t10\n"
unfolding resolves
wrong_q_type_0_1_1_4_7_printed = refl

wrong_s_1_loop_2_7_printed :
    resolve
    (bytes "index\t1\n"
    ++ bytes "M\tmain\n"
    ++ bytes "S\t-\tmodule\n"
    ++ bytes "S\t0\tfunction\n"
    ++ bytes "S\t1\tx\r\n"
    ++ bytes "T\tfelt\n"
    ++ bytes "T\tu32\n"
    ++ bytes "D\t0\td\t0\t1\t0\t1\tloop\n"
    ++ bytes "E\t0\t0\t1\t-\t-\tplain\t-\t-\tbool\n"
    ++ bytes "Q\tdef\t0\t0\n")
    ≡ bytes "refused\t4\t5\n"
unfolding resolves
wrong_s_1_loop_2_7_printed = refl

wrong_same_module_printed :
    resolve
    (bytes "index\t1\n"
    ++ bytes "M\tmain\n"
    ++ bytes "S\t-\tmodule\n"
    ++ bytes "M\tmain\n"
    ++ bytes "S\t-\tmodule\n")
    ≡ bytes "refused\t4\t4\n"
unfolding resolves
wrong_same_module_printed = refl

wrong_t_array_0_3_2_7_printed :
    resolve
    (bytes "index\t1\n"
    ++ bytes "M\tmain\n"
    ++ bytes "S\t-\tmodule\n"
    ++ bytes "S\t0\tfunction\n"
    ++ bytes "T\tfelt\n"
    ++ bytes "T\tu32\n"
    ++ bytes "T\tarray\t3\t3\n"
    ++ bytes "D\t0\td\t0\t1\t0\t1\tloop\n"
    ++ bytes "E\t0\t0\t1\t-\t-\tplain\t-\t-\tbool\n"
    ++ bytes "Q\tdef\t0\t0\n")
    ≡ bytes "refused\t5\t7\n"
unfolding resolves
wrong_t_array_0_3_2_7_printed = refl

wrong_t_tuple_0_1_3_7_printed :
    resolve
    (bytes "index\t1\n"
    ++ bytes "M\tmain\n"
    ++ bytes "S\t-\tmodule\n"
    ++ bytes "S\t0\tfunction\n"
    ++ bytes "T\tfelt\n"
    ++ bytes "T\tu32\n"
    ++ bytes "T\ttuple\t0\t3\n"
    ++ bytes "D\t0\td\t0\t1\t0\t1\tloop\n"
    ++ bytes "E\t0\t0\t1\t-\t-\tplain\t-\t-\tbool\n"
    ++ bytes "Q\tdef\t0\t0\n")
    ≡ bytes "refused\t5\t7\n"
unfolding resolves
wrong_t_tuple_0_1_3_7_printed = refl

wrong_type_of_itself_printed :
    resolve
    (bytes "index\t1\n"
    ++ bytes "M\tmain\n"
    ++ bytes "S\t-\tmodule\n"
    ++ bytes "T\tptr\t0\n")
    ≡ bytes "refused\t5\t4\n"
unfolding resolves
wrong_type_of_itself_printed = refl
