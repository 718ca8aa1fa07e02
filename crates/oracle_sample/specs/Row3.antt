-- Index files and what the oracle printed for them, from text to text. Written by definition_check.py. Assumes nothing.
use Rattle.std.specs.Prelude.{◌≡◌, refl, ◌++◌}
use Rattle.model.specs.Common.{bytes}
use Rattle.resolution.specs.Resolve.{resolve}
use Rattle.resolution.specs.Computes.{resolves}

row_struct_that_holds_itself_printed :
    resolve
    (bytes "index\t1\n"
    ++ bytes "M\tmain\n"
    ++ bytes "S\t-\tmodule\n"
    ++ bytes "T\tcustom\tNode\n"
    ++ bytes "T\tptr\t0\n"
    ++ bytes "D\t0\tNode\t0\t1\t0\t1\tstruct\tnext\t1\n"
    ++ bytes "Q\tdef\t0\t0\n"
    ++ bytes "Q\ttype\t0\t1\t0\n")
    ≡ bytes "def\t0\t0\trefused\t7\n"
    ++ bytes "type\t0\t1\trefused\t7\n"
unfolding resolves
row_struct_that_holds_itself_printed = refl

row_too_many_arguments_printed :
    resolve
    (bytes "index\t1\n"
    ++ bytes "M\tmain\n"
    ++ bytes "S\t-\tmodule\n"
    ++ bytes "S\t0\tfunction\n"
    ++ bytes "T\tu32\n"
    ++ bytes "T\tfelt\n"
    ++ bytes "T\tarray\t0\t7\n"
    ++ bytes "T\tarray\t1\t3\n"
    ++ bytes "T\tarray\t1\t0\n"
    ++ bytes "T\tarray\t1\t2\n"
    ++ bytes "T\tarray\t5\t3\n"
    ++ bytes "D\t0\tf\t3\t4\t0\t90\tfn\t0\ty\t0\n"
    ++ bytes "D\t1\ty\t5\t6\t5\t11\tparam\t0\n"
    ++ bytes "E\t1\t24\t25\t-\t1\tplain\t-\t-\tident\ty\n"
    ++ bytes "E\t1\t30\t31\t-\t0\tplain\t-\t-\tident\tf\n"
    ++ bytes "E\t1\t32\t33\t-\t-\targ\t1\t0\tlit\t-\n"
    ++ bytes "E\t1\t34\t35\t-\t-\targ\t1\t1\tbool\n"
    ++ bytes "E\t1\t30\t35\t-\t-\tplain\t-\t-\tcall\t1\t2\t3\n"
    ++ bytes "Q\texpr\t0\t4\t-\n")
    ≡ bytes "expr\t0\t4\ttype\tu32\n"
unfolding resolves
row_too_many_arguments_printed = refl

row_unknown_suffix_printed :
    resolve
    (bytes "index\t1\n"
    ++ bytes "M\tmain\n"
    ++ bytes "S\t-\tmodule\n"
    ++ bytes "S\t0\tfunction\n"
    ++ bytes "T\tu32\n"
    ++ bytes "T\tfelt\n"
    ++ bytes "T\tarray\t0\t7\n"
    ++ bytes "T\tarray\t1\t3\n"
    ++ bytes "T\tarray\t1\t0\n"
    ++ bytes "T\tarray\t1\t2\n"
    ++ bytes "T\tarray\t5\t3\n"
    ++ bytes "D\t0\tf\t3\t4\t0\t90\tfn\t0\ty\t0\n"
    ++ bytes "D\t1\ty\t5\t6\t5\t11\tparam\t0\n"
    ++ bytes "E\t1\t24\t25\t-\t1\tplain\t-\t-\tident\ty\n"
    ++ bytes "E\t1\t30\t33\t-\t-\tplain\t-\t-\tlit\tu8\n"
    ++ bytes "Q\texpr\t0\t1\t0\n")
    ≡ bytes "expr\t0\t1\ttype\tu32\n"
unfolding resolves
row_unknown_suffix_printed = refl

row_whole_case_printed :
    resolve
    (bytes "index\t1\n"
    ++ bytes "M\tmain\n"
    ++ bytes "S\t-\tmodule\n"
    ++ bytes "S\t0\tfunction\n"
    ++ bytes "T\tu32\n"
    ++ bytes "D\t0\tf\t3\t4\t0\t30\tfn\t0\tx\t0\n"
    ++ bytes "D\t1\tx\t5\t6\t5\t11\tparam\t0\n"
    ++ bytes "E\t1\t24\t25\t-\t1\tplain\t-\t-\tident\tx\n"
    ++ bytes "E\t1\t20\t21\t-\t-\tplain\t-\t-\tlit\t-\n"
    ++ bytes "E\t1\t20\t25\t-\t-\tplain\t-\t-\tbin\t+\t1\t0\n"
    ++ bytes "Q\texpr\t0\t2\t-\n"
    ++ bytes "Q\texpr\t0\t1\t-\n")
    ≡ bytes "expr\t0\t2\ttype\tu32\n"
    ++ bytes "expr\t0\t1\ttype\tfelt\n"
unfolding resolves
row_whole_case_printed = refl
