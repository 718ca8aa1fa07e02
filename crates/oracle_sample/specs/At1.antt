-- Index files and what the oracle printed for them, from text to text. Written by definition_check.py. Assumes nothing.
use Rattle.std.specs.Prelude.{◌≡◌, refl, ◌++◌}
use Rattle.model.specs.Common.{bytes}
use Rattle.resolution.specs.Resolve.{resolve}
use Rattle.resolution.specs.Computes.{resolves}

at_absent_module_printed :
    resolve
    (bytes "index\t1\n"
    ++ bytes "M\tmain\n"
    ++ bytes "S\t-\tmodule\n"
    ++ bytes "E\t0\t0\t9\t-\t-\tplain\t-\t-\tbool\n"
    ++ bytes "Q\tat\t1\t0\n"
    ++ bytes "Q\tat\t7\t5\n"
    ++ bytes "Q\tat\t8\t0\n"
    ++ bytes "Q\tat\t65535\t4294967295\n"
    ++ bytes "Q\tat\t0\t0\n")
    ≡ bytes "at\t1\t0\tnone\n"
    ++ bytes "at\t7\t5\tnone\n"
    ++ bytes "at\t8\t0\tnone\n"
    ++ bytes "at\t65535\t4294967295\tnone\n"
    ++ bytes "at\t0\t0\ttype\tbool\n"
unfolding resolves
at_absent_module_printed = refl

at_among_other_questions_printed :
    resolve
    (bytes "index\t1\n"
    ++ bytes "M\tmain\n"
    ++ bytes "S\t-\tmodule\n"
    ++ bytes "T\tu32\n"
    ++ bytes "D\t0\ty\t0\t1\t0\t1\tparam\t0\n"
    ++ bytes "E\t0\t5\t6\t-\t0\tplain\t-\t-\tident\ty\n"
    ++ bytes "E\t0\t4\t7\t-\t-\tplain\t-\t-\tbool\n"
    ++ bytes "Q\tat\t0\t4\n"
    ++ bytes "Q\texpr\t0\t0\t-\n"
    ++ bytes "Q\tat\t0\t5\n"
    ++ bytes "Q\tdef\t0\t0\n"
    ++ bytes "Q\tat\t0\t9\n"
    ++ bytes "Q\ttype\t0\t0\t0\n"
    ++ bytes "Q\tat\t0\t5\n"
    ++ bytes "Q\texpr\t0\t1\t-\n")
    ≡ bytes "at\t0\t4\ttype\tbool\n"
    ++ bytes "expr\t0\t0\ttype\tu32\n"
    ++ bytes "at\t0\t5\ttype\tu32\n"
    ++ bytes "def\t0\t0\ttype\tu32\n"
    ++ bytes "at\t0\t9\tnone\n"
    ++ bytes "type\t0\t0\ttype\tu32\n"
    ++ bytes "at\t0\t5\ttype\tu32\n"
    ++ bytes "expr\t0\t1\ttype\tbool\n"
unfolding resolves
at_among_other_questions_printed = refl

at_empty_span_printed :
    resolve
    (bytes "index\t1\n"
    ++ bytes "M\tmain\n"
    ++ bytes "S\t-\tmodule\n"
    ++ bytes "E\t0\t5\t5\t-\t-\tplain\t-\t-\tbool\n"
    ++ bytes "E\t0\t0\t0\t-\t-\tplain\t-\t-\tbool\n"
    ++ bytes "Q\tat\t0\t0\n"
    ++ bytes "Q\tat\t0\t4\n"
    ++ bytes "Q\tat\t0\t5\n"
    ++ bytes "Q\tat\t0\t6\n")
    ≡ bytes "at\t0\t0\tnone\n"
    ++ bytes "at\t0\t4\tnone\n"
    ++ bytes "at\t0\t5\tnone\n"
    ++ bytes "at\t0\t6\tnone\n"
unfolding resolves
at_empty_span_printed = refl

at_equally_short_the_earlier_start_printed :
    resolve
    (bytes "index\t1\n"
    ++ bytes "M\tmain\n"
    ++ bytes "S\t-\tmodule\n"
    ++ bytes "E\t0\t4\t8\t-\t-\tplain\t-\t-\tbool\n"
    ++ bytes "E\t0\t2\t6\t-\t-\tplain\t-\t-\tlit\t-\n"
    ++ bytes "Q\tat\t0\t3\n"
    ++ bytes "Q\tat\t0\t4\n"
    ++ bytes "Q\tat\t0\t5\n"
    ++ bytes "Q\tat\t0\t6\n"
    ++ bytes "Q\tat\t0\t7\n")
    ≡ bytes "at\t0\t3\ttype\tfelt\n"
    ++ bytes "at\t0\t4\ttype\tfelt\n"
    ++ bytes "at\t0\t5\ttype\tfelt\n"
    ++ bytes "at\t0\t6\ttype\tbool\n"
    ++ bytes "at\t0\t7\ttype\tbool\n"
unfolding resolves
at_equally_short_the_earlier_start_printed = refl

at_equally_short_the_later_start_printed :
    resolve
    (bytes "index\t1\n"
    ++ bytes "M\tmain\n"
    ++ bytes "S\t-\tmodule\n"
    ++ bytes "E\t0\t2\t6\t-\t-\tplain\t-\t-\tbool\n"
    ++ bytes "E\t0\t4\t8\t-\t-\tplain\t-\t-\tlit\t-\n"
    ++ bytes "Q\tat\t0\t1\n"
    ++ bytes "Q\tat\t0\t3\n"
    ++ bytes "Q\tat\t0\t4\n"
    ++ bytes "Q\tat\t0\t5\n"
    ++ bytes "Q\tat\t0\t6\n"
    ++ bytes "Q\tat\t0\t7\n"
    ++ bytes "Q\tat\t0\t8\n")
    ≡ bytes "at\t0\t1\tnone\n"
    ++ bytes "at\t0\t3\ttype\tbool\n"
    ++ bytes "at\t0\t4\ttype\tfelt\n"
    ++ bytes "at\t0\t5\ttype\tfelt\n"
    ++ bytes "at\t0\t6\ttype\tfelt\n"
    ++ bytes "at\t0\t7\ttype\tfelt\n"
    ++ bytes "at\t0\t8\tnone\n"
unfolding resolves
at_equally_short_the_later_start_printed = refl

at_no_context_from_outside_printed :
    resolve
    (bytes "index\t1\n"
    ++ bytes "M\tmain\n"
    ++ bytes "S\t-\tmodule\n"
    ++ bytes "T\tu32\n"
    ++ bytes "D\t0\ty\t0\t1\t0\t1\tparam\t0\n"
    ++ bytes "E\t0\t24\t25\t-\t0\tplain\t-\t-\tident\ty\n"
    ++ bytes "E\t0\t20\t21\t-\t-\tplain\t-\t-\tlit\t-\n"
    ++ bytes "E\t0\t20\t25\t-\t-\tplain\t-\t-\tbin\t+\t1\t0\n"
    ++ bytes "Q\tat\t0\t20\n"
    ++ bytes "Q\tat\t0\t21\n"
    ++ bytes "Q\tat\t0\t22\n"
    ++ bytes "Q\tat\t0\t24\n"
    ++ bytes "Q\tat\t0\t25\n")
    ≡ bytes "at\t0\t20\ttype\tfelt\n"
    ++ bytes "at\t0\t21\ttype\tu32\n"
    ++ bytes "at\t0\t22\ttype\tu32\n"
    ++ bytes "at\t0\t24\ttype\tu32\n"
    ++ bytes "at\t0\t25\tnone\n"
unfolding resolves
at_no_context_from_outside_printed = refl

at_one_span_twice_printed :
    resolve
    (bytes "index\t1\n"
    ++ bytes "M\tmain\n"
    ++ bytes "S\t-\tmodule\n"
    ++ bytes "E\t0\t2\t6\t-\t-\tplain\t-\t-\tbool\n"
    ++ bytes "E\t0\t2\t6\t-\t-\tplain\t-\t-\tlit\t-\n"
    ++ bytes "E\t0\t0\t9\t-\t-\tplain\t-\t-\ttuple\n"
    ++ bytes "Q\tat\t0\t1\n"
    ++ bytes "Q\tat\t0\t2\n"
    ++ bytes "Q\tat\t0\t5\n"
    ++ bytes "Q\tat\t0\t6\n")
    ≡ bytes "at\t0\t1\ttype\t()\n"
    ++ bytes "at\t0\t2\ttype\tfelt\n"
    ++ bytes "at\t0\t5\ttype\tfelt\n"
    ++ bytes "at\t0\t6\ttype\t()\n"
unfolding resolves
at_one_span_twice_printed = refl

at_origin_argument_printed :
    resolve
    (bytes "index\t1\n"
    ++ bytes "M\tmain\n"
    ++ bytes "S\t-\tmodule\n"
    ++ bytes "T\tu32\n"
    ++ bytes "D\t0\tf\t0\t1\t0\t1\tfn\t0\ta\t0\n"
    ++ bytes "E\t0\t10\t11\t-\t0\tplain\t-\t-\tident\tf\n"
    ++ bytes "E\t0\t12\t13\t-\t-\targ\t0\t0\tlit\t-\n"
    ++ bytes "E\t0\t10\t13\t-\t-\tplain\t-\t-\tcall\t0\t1\n"
    ++ bytes "Q\tat\t0\t10\n"
    ++ bytes "Q\tat\t0\t11\n"
    ++ bytes "Q\tat\t0\t12\n")
    ≡ bytes "at\t0\t10\ttype\tfn:0.0\n"
    ++ bytes "at\t0\t11\ttype\tu32\n"
    ++ bytes "at\t0\t12\ttype\tu32\n"
unfolding resolves
at_origin_argument_printed = refl

at_origin_assign_printed :
    resolve
    (bytes "index\t1\n"
    ++ bytes "M\tmain\n"
    ++ bytes "S\t-\tmodule\n"
    ++ bytes "T\tu32\n"
    ++ bytes "D\t0\ty\t0\t1\t0\t1\tparam\t0\n"
    ++ bytes "E\t0\t10\t11\t-\t0\tplain\t-\t-\tident\ty\n"
    ++ bytes "E\t0\t14\t15\t-\t-\tassign\t0\t-\tlit\t-\n"
    ++ bytes "E\t0\t16\t17\t-\t-\tplain\t-\t-\tlit\t-\n"
    ++ bytes "Q\tat\t0\t10\n"
    ++ bytes "Q\tat\t0\t14\n"
    ++ bytes "Q\tat\t0\t16\n")
    ≡ bytes "at\t0\t10\ttype\tu32\n"
    ++ bytes "at\t0\t14\ttype\tu32\n"
    ++ bytes "at\t0\t16\ttype\tfelt\n"
unfolding resolves
at_origin_assign_printed = refl

at_refused_7_and_6_printed :
    resolve
    (bytes "index\t1\n"
    ++ bytes "M\tmain\n"
    ++ bytes "S\t-\tmodule\n"
    ++ bytes "D\t0\ta\t6\t7\t0\t12\tconst\t-\t0\n"
    ++ bytes "E\t0\t10\t11\t-\t0\tplain\t-\t-\tident\ta\n"
    ++ bytes "E\t0\t20\t30\t-\t-\tplain\t-\t-\tun\t!\t-\n"
    ++ bytes "E\t0\t22\t23\t-\t-\tplain\t-\t-\tbool\n"
    ++ bytes "E\t0\t9\t12\t-\t-\tplain\t-\t-\tbool\n"
    ++ bytes "Q\tat\t0\t9\n"
    ++ bytes "Q\tat\t0\t10\n"
    ++ bytes "Q\tat\t0\t11\n"
    ++ bytes "Q\tat\t0\t20\n"
    ++ bytes "Q\tat\t0\t22\n"
    ++ bytes "Q\tat\t0\t30\n")
    ≡ bytes "at\t0\t9\ttype\tbool\n"
    ++ bytes "at\t0\t10\trefused\t7\n"
    ++ bytes "at\t0\t11\ttype\tbool\n"
    ++ bytes "at\t0\t20\trefused\t6\n"
    ++ bytes "at\t0\t22\ttype\tbool\n"
    ++ bytes "at\t0\t30\tnone\n"
unfolding resolves
at_refused_7_and_6_printed = refl
