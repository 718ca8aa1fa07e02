-- Index files and what the oracle printed for them, from text to text. Written by definition_check.py. Assumes nothing.
use Rattle.std.specs.Prelude.{◌≡◌, refl, [], ◌∷◌, ◌++◌}
use Rattle.model.specs.Common.{bytes}
use Rattle.resolution.specs.Resolve.{resolve}
use Rattle.resolution.specs.Computes.{resolves}

wrong_d_0_c_2_3_4_5_const_0_0_9_7_printed :
    resolve
    (bytes "index\t1\n"
    ++ bytes "M\tmain\n"
    ++ bytes "S\t-\tmodule\n"
    ++ bytes "S\t0\tfunction\n"
    ++ bytes "T\tfelt\n"
    ++ bytes "T\tu32\n"
    ++ bytes "D\t0\td\t0\t1\t0\t1\tloop\n"
    ++ bytes "D\t0\tc\t2\t3\t4\t5\tconst\t0\t3\n"
    ++ bytes "E\t0\t0\t1\t-\t-\tplain\t-\t-\tbool\n"
    ++ bytes "Q\tdef\t0\t0\n")
    ≡ bytes "refused\t5\t8\n"
unfolding resolves
wrong_d_0_c_2_3_4_5_const_0_0_9_7_printed = refl

wrong_d_0_f_2_3_4_5_fn_0_x_1_8_7_printed :
    resolve
    (bytes "index\t1\n"
    ++ bytes "M\tmain\n"
    ++ bytes "S\t-\tmodule\n"
    ++ bytes "S\t0\tfunction\n"
    ++ bytes "T\tfelt\n"
    ++ bytes "T\tu32\n"
    ++ bytes "D\t0\td\t0\t1\t0\t1\tloop\n"
    ++ bytes "D\t0\tf\t2\t3\t4\t5\tfn\t3\tx\t1\n"
    ++ bytes "E\t0\t0\t1\t-\t-\tplain\t-\t-\tbool\n"
    ++ bytes "Q\tdef\t0\t0\n")
    ≡ bytes "refused\t5\t8\n"
unfolding resolves
wrong_d_0_f_2_3_4_5_fn_0_x_1_8_7_printed = refl

wrong_d_0_l_2_3_4_5_let_0_0_0_1_0_9_missing_printed :
    resolve
    (bytes "index\t1\n"
    ++ bytes "M\tmain\n"
    ++ bytes "S\t-\tmodule\n"
    ++ bytes "S\t0\tfunction\n"
    ++ bytes "T\tfelt\n"
    ++ bytes "T\tu32\n"
    ++ bytes "D\t0\td\t0\t1\t0\t1\tloop\n"
    ++ bytes "D\t0\tl\t2\t3\t4\t5\tlet\t0\t0\t1\t0\n"
    ++ bytes "E\t0\t0\t1\t-\t-\tplain\t-\t-\tbool\n"
    ++ bytes "Q\tdef\t0\t0\n")
    ≡ bytes "refused\t5\t8\n"
unfolding resolves
wrong_d_0_l_2_3_4_5_let_0_0_0_1_0_9_missing_printed = refl

wrong_d_0_s_2_3_4_5_struct_x_0_y_1_9_7_printed :
    resolve
    (bytes "index\t1\n"
    ++ bytes "M\tmain\n"
    ++ bytes "S\t-\tmodule\n"
    ++ bytes "S\t0\tfunction\n"
    ++ bytes "T\tfelt\n"
    ++ bytes "T\tu32\n"
    ++ bytes "D\t0\td\t0\t1\t0\t1\tloop\n"
    ++ bytes "D\t0\ts\t2\t3\t4\t5\tstruct\tx\t3\ty\t1\n"
    ++ bytes "E\t0\t0\t1\t-\t-\tplain\t-\t-\tbool\n"
    ++ bytes "Q\tdef\t0\t0\n")
    ≡ bytes "refused\t5\t8\n"
unfolding resolves
wrong_d_0_s_2_3_4_5_struct_x_0_y_1_9_7_printed = refl

wrong_d_0_u_2_3_4_5_use_main_d_1_7_printed :
    resolve
    (bytes "index\t1\n"
    ++ bytes "M\tmain\n"
    ++ bytes "S\t-\tmodule\n"
    ++ bytes "S\t0\tfunction\n"
    ++ bytes "T\tfelt\n"
    ++ bytes "T\tu32\n"
    ++ bytes "D\t0\td\t0\t1\t0\t1\tloop\n"
    ++ bytes "D\t3\tu\t2\t3\t4\t5\tuse\tmain\td\n"
    ++ bytes "E\t0\t0\t1\t-\t-\tplain\t-\t-\tbool\n"
    ++ bytes "Q\tdef\t0\t0\n")
    ≡ bytes "refused\t5\t8\n"
unfolding resolves
wrong_d_0_u_2_3_4_5_use_main_d_1_7_printed = refl

wrong_d_1_p_2_3_4_5_param_1_8_7_printed :
    resolve
    (bytes "index\t1\n"
    ++ bytes "M\tmain\n"
    ++ bytes "S\t-\tmodule\n"
    ++ bytes "S\t0\tfunction\n"
    ++ bytes "T\tfelt\n"
    ++ bytes "T\tu32\n"
    ++ bytes "D\t0\td\t0\t1\t0\t1\tloop\n"
    ++ bytes "D\t1\tp\t2\t3\t4\t5\tparam\t3\n"
    ++ bytes "E\t0\t0\t1\t-\t-\tplain\t-\t-\tbool\n"
    ++ bytes "Q\tdef\t0\t0\n")
    ≡ bytes "refused\t5\t8\n"
unfolding resolves
wrong_d_1_p_2_3_4_5_param_1_8_7_printed = refl

wrong_e_0_2_3_0_0_plain_____lit___5_7_printed :
    resolve
    (bytes "index\t1\n"
    ++ bytes "M\tmain\n"
    ++ bytes "S\t-\tmodule\n"
    ++ bytes "S\t0\tfunction\n"
    ++ bytes "T\tfelt\n"
    ++ bytes "T\tu32\n"
    ++ bytes "D\t0\td\t0\t1\t0\t1\tloop\n"
    ++ bytes "E\t0\t0\t1\t-\t-\tplain\t-\t-\tbool\n"
    ++ bytes "E\t0\t2\t3\t0\t3\tplain\t-\t-\tlit\t-\n"
    ++ bytes "Q\tdef\t0\t0\n")
    ≡ bytes "refused\t5\t9\n"
unfolding resolves
wrong_e_0_2_3_0_0_plain_____lit___5_7_printed = refl

wrong_e_0_2_3_0_0_plain_____lit___6_6_printed :
    resolve
    (bytes "index\t1\n"
    ++ bytes "M\tmain\n"
    ++ bytes "S\t-\tmodule\n"
    ++ bytes "S\t0\tfunction\n"
    ++ bytes "T\tfelt\n"
    ++ bytes "T\tu32\n"
    ++ bytes "D\t0\td\t0\t1\t0\t1\tloop\n"
    ++ bytes "E\t0\t0\t1\t-\t-\tplain\t-\t-\tbool\n"
    ++ bytes "E\t0\t2\t3\t0\t0\t"
    ++ (195 ∷ 169 ∷ [])
    ++ bytes "\t-\t-\tlit\t-\n"
    ++ bytes "Q\tdef\t0\t0\n")
    ≡ bytes "refused\t4\t9\n"
unfolding resolves
wrong_e_0_2_3_0_0_plain_____lit___6_6_printed = refl

wrong_e_0_2_3_____arg_0_1_un___0_7_7_printed :
    resolve
    (bytes "index\t1\n"
    ++ bytes "M\tmain\n"
    ++ bytes "S\t-\tmodule\n"
    ++ bytes "S\t0\tfunction\n"
    ++ bytes "T\tfelt\n"
    ++ bytes "T\tu32\n"
    ++ bytes "D\t0\td\t0\t1\t0\t1\tloop\n"
    ++ bytes "E\t0\t0\t1\t-\t-\tplain\t-\t-\tbool\n"
    ++ bytes "E\t0\t2\t3\t-\t-\targ\t3\t1\tun\t-\t0\n"
    ++ bytes "Q\tdef\t0\t0\n")
    ≡ bytes "refused\t5\t9\n"
unfolding resolves
wrong_e_0_2_3_____arg_0_1_un___0_7_7_printed = refl

wrong_e_0_2_3_____assign_0___bin_+_0_0_7_7_printed :
    resolve
    (bytes "index\t1\n"
    ++ bytes "M\tmain\n"
    ++ bytes "S\t-\tmodule\n"
    ++ bytes "S\t0\tfunction\n"
    ++ bytes "T\tfelt\n"
    ++ bytes "T\tu32\n"
    ++ bytes "D\t0\td\t0\t1\t0\t1\tloop\n"
    ++ bytes "E\t0\t0\t1\t-\t-\tplain\t-\t-\tbool\n"
    ++ bytes "E\t0\t2\t3\t-\t-\tassign\t3\t-\tbin\t+\t0\t0\n"
    ++ bytes "Q\tdef\t0\t0\n")
    ≡ bytes "refused\t5\t9\n"
unfolding resolves
wrong_e_0_2_3_____assign_0___bin_+_0_0_7_7_printed = refl
