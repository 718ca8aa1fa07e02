-- Index files and what the oracle printed for them, from text to text. Written by definition_check.py. Assumes nothing.
use Rattle.std.specs.Prelude.{◌≡◌, refl, ◌++◌}
use Rattle.model.specs.Common.{bytes}
use Rattle.resolution.specs.Resolve.{resolve}
use Rattle.resolution.specs.Computes.{resolves}

wrong_e_0_2_3_____cond_____member_0_x_5_7_printed :
    resolve
    (bytes "index\t1\n"
    ++ bytes "M\tmain\n"
    ++ bytes "S\t-\tmodule\n"
    ++ bytes "S\t0\tfunction\n"
    ++ bytes "T\tfelt\n"
    ++ bytes "T\tu32\n"
    ++ bytes "D\t0\td\t0\t1\t0\t1\tloop\n"
    ++ bytes "E\t0\t0\t1\t-\t-\tplain\t-\t-\tbool\n"
    ++ bytes "E\t0\t2\t3\t-\t3\tcond\t-\t-\tmember\t0\tx\n"
    ++ bytes "Q\tdef\t0\t0\n")
    ≡ bytes "refused\t5\t9\n"
unfolding resolves
wrong_e_0_2_3_____cond_____member_0_x_5_7_printed = refl

wrong_e_0_2_3_____field_0_x_ident_d_7_7_printed :
    resolve
    (bytes "index\t1\n"
    ++ bytes "M\tmain\n"
    ++ bytes "S\t-\tmodule\n"
    ++ bytes "S\t0\tfunction\n"
    ++ bytes "T\tfelt\n"
    ++ bytes "T\tu32\n"
    ++ bytes "D\t0\td\t0\t1\t0\t1\tloop\n"
    ++ bytes "E\t0\t0\t1\t-\t-\tplain\t-\t-\tbool\n"
    ++ bytes "E\t0\t2\t3\t-\t-\tfield\t3\tx\tident\td\n"
    ++ bytes "Q\tdef\t0\t0\n")
    ≡ bytes "refused\t5\t9\n"
unfolding resolves
wrong_e_0_2_3_____field_0_x_ident_d_7_7_printed = refl

wrong_e_0_2_3_____plain_____arr_0___5_7_printed :
    resolve
    (bytes "index\t1\n"
    ++ bytes "M\tmain\n"
    ++ bytes "S\t-\tmodule\n"
    ++ bytes "S\t0\tfunction\n"
    ++ bytes "T\tfelt\n"
    ++ bytes "T\tu32\n"
    ++ bytes "D\t0\td\t0\t1\t0\t1\tloop\n"
    ++ bytes "E\t0\t0\t1\t-\t-\tplain\t-\t-\tbool\n"
    ++ bytes "E\t0\t2\t3\t-\t3\tplain\t-\t-\tarr\t0\t-\n"
    ++ bytes "Q\tdef\t0\t0\n")
    ≡ bytes "refused\t5\t9\n"
unfolding resolves
wrong_e_0_2_3_____plain_____arr_0___5_7_printed = refl

wrong_e_0_2_3_____plain_____cast_0_5_7_printed :
    resolve
    (bytes "index\t1\n"
    ++ bytes "M\tmain\n"
    ++ bytes "S\t-\tmodule\n"
    ++ bytes "S\t0\tfunction\n"
    ++ bytes "T\tfelt\n"
    ++ bytes "T\tu32\n"
    ++ bytes "D\t0\td\t0\t1\t0\t1\tloop\n"
    ++ bytes "E\t0\t0\t1\t-\t-\tplain\t-\t-\tbool\n"
    ++ bytes "E\t0\t2\t3\t-\t3\tplain\t-\t-\tcast\t0\n"
    ++ bytes "Q\tdef\t0\t0\n")
    ≡ bytes "refused\t5\t9\n"
unfolding resolves
wrong_e_0_2_3_____plain_____cast_0_5_7_printed = refl

wrong_e_0_2_3_____plain_____index_0_0_5_7_printed :
    resolve
    (bytes "index\t1\n"
    ++ bytes "M\tmain\n"
    ++ bytes "S\t-\tmodule\n"
    ++ bytes "S\t0\tfunction\n"
    ++ bytes "T\tfelt\n"
    ++ bytes "T\tu32\n"
    ++ bytes "D\t0\td\t0\t1\t0\t1\tloop\n"
    ++ bytes "E\t0\t0\t1\t-\t-\tplain\t-\t-\tbool\n"
    ++ bytes "E\t0\t2\t3\t-\t3\tplain\t-\t-\tindex\t0\t0\n"
    ++ bytes "Q\tdef\t0\t0\n")
    ≡ bytes "refused\t5\t9\n"
unfolding resolves
wrong_e_0_2_3_____plain_____index_0_0_5_7_printed = refl

wrong_e_0_2_3_____plain_____new_0_0_5_7_printed :
    resolve
    (bytes "index\t1\n"
    ++ bytes "M\tmain\n"
    ++ bytes "S\t-\tmodule\n"
    ++ bytes "S\t0\tfunction\n"
    ++ bytes "T\tfelt\n"
    ++ bytes "T\tu32\n"
    ++ bytes "D\t0\td\t0\t1\t0\t1\tloop\n"
    ++ bytes "E\t0\t0\t1\t-\t-\tplain\t-\t-\tbool\n"
    ++ bytes "E\t0\t2\t3\t-\t3\tplain\t-\t-\tnew\t0\t0\n"
    ++ bytes "Q\tdef\t0\t0\n")
    ≡ bytes "refused\t5\t9\n"
unfolding resolves
wrong_e_0_2_3_____plain_____new_0_0_5_7_printed = refl

wrong_e_0_2_3_____plain_____paren_0_5_7_printed :
    resolve
    (bytes "index\t1\n"
    ++ bytes "M\tmain\n"
    ++ bytes "S\t-\tmodule\n"
    ++ bytes "S\t0\tfunction\n"
    ++ bytes "T\tfelt\n"
    ++ bytes "T\tu32\n"
    ++ bytes "D\t0\td\t0\t1\t0\t1\tloop\n"
    ++ bytes "E\t0\t0\t1\t-\t-\tplain\t-\t-\tbool\n"
    ++ bytes "E\t0\t2\t3\t-\t3\tplain\t-\t-\tparen\t0\n"
    ++ bytes "Q\tdef\t0\t0\n")
    ≡ bytes "refused\t5\t9\n"
unfolding resolves
wrong_e_0_2_3_____plain_____paren_0_5_7_printed = refl

wrong_e_0_2_3_____plain_____rep_0_7_5_7_printed :
    resolve
    (bytes "index\t1\n"
    ++ bytes "M\tmain\n"
    ++ bytes "S\t-\tmodule\n"
    ++ bytes "S\t0\tfunction\n"
    ++ bytes "T\tfelt\n"
    ++ bytes "T\tu32\n"
    ++ bytes "D\t0\td\t0\t1\t0\t1\tloop\n"
    ++ bytes "E\t0\t0\t1\t-\t-\tplain\t-\t-\tbool\n"
    ++ bytes "E\t0\t2\t3\t-\t3\tplain\t-\t-\trep\t0\t7\n"
    ++ bytes "Q\tdef\t0\t0\n")
    ≡ bytes "refused\t5\t9\n"
unfolding resolves
wrong_e_0_2_3_____plain_____rep_0_7_5_7_printed = refl

wrong_e_0_2_3_____plain_____slit_a_4_5_5_7_printed :
    resolve
    (bytes "index\t1\n"
    ++ bytes "M\tmain\n"
    ++ bytes "S\t-\tmodule\n"
    ++ bytes "S\t0\tfunction\n"
    ++ bytes "T\tfelt\n"
    ++ bytes "T\tu32\n"
    ++ bytes "D\t0\td\t0\t1\t0\t1\tloop\n"
    ++ bytes "E\t0\t0\t1\t-\t-\tplain\t-\t-\tbool\n"
    ++ bytes "E\t0\t2\t3\t-\t3\tplain\t-\t-\tslit\tA\t4\t5\n"
    ++ bytes "Q\tdef\t0\t0\n")
    ≡ bytes "refused\t5\t9\n"
unfolding resolves
wrong_e_0_2_3_____plain_____slit_a_4_5_5_7_printed = refl

wrong_e_0_2_3_____plain_____tidx_0_1_5_7_printed :
    resolve
    (bytes "index\t1\n"
    ++ bytes "M\tmain\n"
    ++ bytes "S\t-\tmodule\n"
    ++ bytes "S\t0\tfunction\n"
    ++ bytes "T\tfelt\n"
    ++ bytes "T\tu32\n"
    ++ bytes "D\t0\td\t0\t1\t0\t1\tloop\n"
    ++ bytes "E\t0\t0\t1\t-\t-\tplain\t-\t-\tbool\n"
    ++ bytes "E\t0\t2\t3\t-\t3\tplain\t-\t-\ttidx\t0\t1\n"
    ++ bytes "Q\tdef\t0\t0\n")
    ≡ bytes "refused\t5\t9\n"
unfolding resolves
wrong_e_0_2_3_____plain_____tidx_0_1_5_7_printed = refl
