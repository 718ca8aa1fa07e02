-- Index files and what the oracle printed for them, from text to text. Written by definition_check.py. Assumes nothing.
use Rattle.std.specs.Prelude.{◌≡◌, refl, ◌++◌}
use Rattle.model.specs.Common.{bytes}
use Rattle.resolution.specs.Resolve.{resolve}
use Rattle.resolution.specs.Computes.{resolves}

row_empty_array_expected_of_three_printed :
    resolve
    (bytes "index\t1\n"
    ++ bytes "M\tmain\n"
    ++ bytes "S\t-\tmodule\n"
    ++ bytes "S\t0\tfunction\n"
    ++ bytes "T\tu32\n"
    ++ bytes "T\tfelt\n"
    ++ bytes "T\tarray\t0\t7\n"
    ++ bytes "T\tarray\t1\t3\n"
    ++ bytes "T\tarray\t1\t0\n"
    ++ bytes "T\tarray\t1\t2\n"
    ++ bytes "T\tarray\t5\t3\n"
    ++ bytes "D\t0\tf\t3\t4\t0\t90\tfn\t0\ty\t0\n"
    ++ bytes "D\t1\ty\t5\t6\t5\t11\tparam\t0\n"
    ++ bytes "E\t1\t24\t25\t-\t1\tplain\t-\t-\tident\ty\n"
    ++ bytes "E\t1\t30\t32\t3\t-\tplain\t-\t-\tarr\n"
    ++ bytes "Q\texpr\t0\t1\t-\n")
    ≡ bytes "expr\t0\t1\ttype\terror\n"
unfolding resolves
row_empty_array_expected_of_three_printed = refl

row_empty_array_with_context_printed :
    resolve
    (bytes "index\t1\n"
    ++ bytes "M\tmain\n"
    ++ bytes "S\t-\tmodule\n"
    ++ bytes "S\t0\tfunction\n"
    ++ bytes "T\tu32\n"
    ++ bytes "T\tfelt\n"
    ++ bytes "T\tarray\t0\t7\n"
    ++ bytes "T\tarray\t1\t3\n"
    ++ bytes "T\tarray\t1\t0\n"
    ++ bytes "T\tarray\t1\t2\n"
    ++ bytes "T\tarray\t5\t3\n"
    ++ bytes "D\t0\tf\t3\t4\t0\t90\tfn\t0\ty\t0\n"
    ++ bytes "D\t1\ty\t5\t6\t5\t11\tparam\t0\n"
    ++ bytes "E\t1\t24\t25\t-\t1\tplain\t-\t-\tident\ty\n"
    ++ bytes "E\t1\t30\t32\t-\t-\tplain\t-\t-\tarr\n"
    ++ bytes "Q\texpr\t0\t1\t2\n")
    ≡ bytes "expr\t0\t1\ttype\t[u32;0]\n"
unfolding resolves
row_empty_array_with_context_printed = refl

row_error_less_than_error_printed :
    resolve
    (bytes "index\t1\n"
    ++ bytes "M\tmain\n"
    ++ bytes "S\t-\tmodule\n"
    ++ bytes "S\t0\tfunction\n"
    ++ bytes "T\tu32\n"
    ++ bytes "T\tfelt\n"
    ++ bytes "T\tarray\t0\t7\n"
    ++ bytes "T\tarray\t1\t3\n"
    ++ bytes "T\tarray\t1\t0\n"
    ++ bytes "T\tarray\t1\t2\n"
    ++ bytes "T\tarray\t5\t3\n"
    ++ bytes "D\t0\tf\t3\t4\t0\t90\tfn\t0\ty\t0\n"
    ++ bytes "D\t1\ty\t5\t6\t5\t11\tparam\t0\n"
    ++ bytes "E\t1\t24\t25\t-\t1\tplain\t-\t-\tident\ty\n"
    ++ bytes "E\t1\t20\t21\t-\t-\tplain\t-\t-\tident\tnowhere\n"
    ++ bytes "E\t1\t20\t25\t-\t-\tplain\t-\t-\tbin\t<\t1\t1\n"
    ++ bytes "Q\texpr\t0\t2\t-\n")
    ≡ bytes "expr\t0\t2\ttype\tbool\n"
unfolding resolves
row_error_less_than_error_printed = refl

row_error_plus_error_printed :
    resolve
    (bytes "index\t1\n"
    ++ bytes "M\tmain\n"
    ++ bytes "S\t-\tmodule\n"
    ++ bytes "S\t0\tfunction\n"
    ++ bytes "T\tu32\n"
    ++ bytes "T\tfelt\n"
    ++ bytes "T\tarray\t0\t7\n"
    ++ bytes "T\tarray\t1\t3\n"
    ++ bytes "T\tarray\t1\t0\n"
    ++ bytes "T\tarray\t1\t2\n"
    ++ bytes "T\tarray\t5\t3\n"
    ++ bytes "D\t0\tf\t3\t4\t0\t90\tfn\t0\ty\t0\n"
    ++ bytes "D\t1\ty\t5\t6\t5\t11\tparam\t0\n"
    ++ bytes "E\t1\t24\t25\t-\t1\tplain\t-\t-\tident\ty\n"
    ++ bytes "E\t1\t20\t21\t-\t-\tplain\t-\t-\tident\tnowhere\n"
    ++ bytes "E\t1\t20\t25\t-\t-\tplain\t-\t-\tbin\t+\t1\t1\n"
    ++ bytes "Q\texpr\t0\t2\t-\n")
    ≡ bytes "expr\t0\t2\ttype\tfelt\n"
unfolding resolves
row_error_plus_error_printed = refl

row_no_module_printed :
    resolve
    (bytes "index\t1\n"
    ++ bytes "Q\tdef\t0\t0\n")
    ≡ bytes "def\t0\t0\ttype\terror\n"
unfolding resolves
row_no_module_printed = refl

row_number_in_parentheses_plus_y_printed :
    resolve
    (bytes "index\t1\n"
    ++ bytes "M\tmain\n"
    ++ bytes "S\t-\tmodule\n"
    ++ bytes "S\t0\tfunction\n"
    ++ bytes "T\tu32\n"
    ++ bytes "T\tfelt\n"
    ++ bytes "T\tarray\t0\t7\n"
    ++ bytes "T\tarray\t1\t3\n"
    ++ bytes "T\tarray\t1\t0\n"
    ++ bytes "T\tarray\t1\t2\n"
    ++ bytes "T\tarray\t5\t3\n"
    ++ bytes "D\t0\tf\t3\t4\t0\t90\tfn\t0\ty\t0\n"
    ++ bytes "D\t1\ty\t5\t6\t5\t11\tparam\t0\n"
    ++ bytes "E\t1\t24\t25\t-\t1\tplain\t-\t-\tident\ty\n"
    ++ bytes "E\t1\t20\t21\t-\t-\tplain\t-\t-\tlit\t-\n"
    ++ bytes "E\t1\t19\t22\t-\t-\tplain\t-\t-\tparen\t1\n"
    ++ bytes "E\t1\t19\t25\t-\t-\tplain\t-\t-\tbin\t+\t2\t0\n"
    ++ bytes "Q\texpr\t0\t3\t-\n")
    ≡ bytes "expr\t0\t3\ttype\terror\n"
unfolding resolves
row_number_in_parentheses_plus_y_printed = refl

row_number_minus_y_printed :
    resolve
    (bytes "index\t1\n"
    ++ bytes "M\tmain\n"
    ++ bytes "S\t-\tmodule\n"
    ++ bytes "S\t0\tfunction\n"
    ++ bytes "T\tu32\n"
    ++ bytes "T\tfelt\n"
    ++ bytes "T\tarray\t0\t7\n"
    ++ bytes "T\tarray\t1\t3\n"
    ++ bytes "T\tarray\t1\t0\n"
    ++ bytes "T\tarray\t1\t2\n"
    ++ bytes "T\tarray\t5\t3\n"
    ++ bytes "D\t0\tf\t3\t4\t0\t90\tfn\t0\ty\t0\n"
    ++ bytes "D\t1\ty\t5\t6\t5\t11\tparam\t0\n"
    ++ bytes "E\t1\t24\t25\t-\t1\tplain\t-\t-\tident\ty\n"
    ++ bytes "E\t1\t20\t21\t-\t-\tplain\t-\t-\tlit\t-\n"
    ++ bytes "E\t1\t20\t25\t-\t-\tplain\t-\t-\tbin\t-\t1\t0\n"
    ++ bytes "Q\texpr\t0\t2\t-\n")
    ≡ bytes "expr\t0\t2\ttype\terror\n"
unfolding resolves
row_number_minus_y_printed = refl

row_number_plus_y_printed :
    resolve
    (bytes "index\t1\n"
    ++ bytes "M\tmain\n"
    ++ bytes "S\t-\tmodule\n"
    ++ bytes "S\t0\tfunction\n"
    ++ bytes "T\tu32\n"
    ++ bytes "T\tfelt\n"
    ++ bytes "T\tarray\t0\t7\n"
    ++ bytes "T\tarray\t1\t3\n"
    ++ bytes "T\tarray\t1\t0\n"
    ++ bytes "T\tarray\t1\t2\n"
    ++ bytes "T\tarray\t5\t3\n"
    ++ bytes "D\t0\tf\t3\t4\t0\t90\tfn\t0\ty\t0\n"
    ++ bytes "D\t1\ty\t5\t6\t5\t11\tparam\t0\n"
    ++ bytes "E\t1\t24\t25\t-\t1\tplain\t-\t-\tident\ty\n"
    ++ bytes "E\t1\t20\t21\t-\t-\tplain\t-\t-\tlit\t-\n"
    ++ bytes "E\t1\t20\t25\t-\t-\tplain\t-\t-\tbin\t+\t1\t0\n"
    ++ bytes "Q\texpr\t0\t2\t-\n")
    ≡ bytes "expr\t0\t2\ttype\tu32\n"
unfolding resolves
row_number_plus_y_printed = refl

row_own_assert_printed :
    resolve
    (bytes "index\t1\n"
    ++ bytes "M\tmain\n"
    ++ bytes "S\t-\tmodule\n"
    ++ bytes "S\t0\tfunction\n"
    ++ bytes "T\tu32\n"
    ++ bytes "T\tfelt\n"
    ++ bytes "T\tarray\t0\t7\n"
    ++ bytes "T\tarray\t1\t3\n"
    ++ bytes "T\tarray\t1\t0\n"
    ++ bytes "T\tarray\t1\t2\n"
    ++ bytes "T\tarray\t5\t3\n"
    ++ bytes "D\t0\tf\t3\t4\t0\t90\tfn\t0\ty\t0\n"
    ++ bytes "D\t1\ty\t5\t6\t5\t11\tparam\t0\n"
    ++ bytes "E\t1\t24\t25\t-\t1\tplain\t-\t-\tident\ty\n"
    ++ bytes "E\t1\t30\t31\t-\t0\tplain\t-\t-\tident\tassert\n"
    ++ bytes "E\t1\t30\t35\t-\t-\tplain\t-\t-\tcall\t1\n"
    ++ bytes "Q\texpr\t0\t2\t-\n")
    ≡ bytes "expr\t0\t2\ttype\t()\n"
unfolding resolves
row_own_assert_printed = refl

row_return_of_the_second_function_printed :
    resolve
    (bytes "index\t1\n"
    ++ bytes "M\tmain\n"
    ++ bytes "S\t-\tmodule\n"
    ++ bytes "S\t0\tfunction\n"
    ++ bytes "S\t0\tfunction\n"
    ++ bytes "T\tu32\n"
    ++ bytes "T\tfelt\n"
    ++ bytes "D\t0\tfirst\t3\t8\t0\t30\tfn\t0\n"
    ++ bytes "D\t0\tsecond\t33\t38\t30\t60\tfn\t1\n"
    ++ bytes "E\t2\t50\t51\t-\t-\treturn\t-\t-\tlit\t-\n"
    ++ bytes "Q\texpr\t0\t0\t-\n")
    ≡ bytes "expr\t0\t0\ttype\tu32\n"
unfolding resolves
row_return_of_the_second_function_printed = refl
