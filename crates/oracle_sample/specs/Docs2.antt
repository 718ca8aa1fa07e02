-- Index files and what the oracle printed for them, from text to text. Written by definition_check.py. Assumes nothing.
use Rattle.std.specs.Prelude.{◌≡◌, refl, ◌++◌}
use Rattle.model.specs.Common.{bytes}
use Rattle.resolution.specs.Resolve.{resolve}
use Rattle.resolution.specs.Computes.{resolves}

docs_11_printed :
    resolve
    (bytes "index\t1\n"
    ++ bytes "M\tm\n"
    ++ bytes "S\t-\tmodule\n"
    ++ bytes "T\tcustom\tA\n"
    ++ bytes "T\tcustom\ta\n"
    ++ bytes "D\t0\tA\t0\t1\t0\t1\tstruct\n"
    ++ bytes "D\t0\ta\t2\t3\t2\t3\tparam\t0\n"
    ++ bytes "E\t0\t9\t9\t-\t-\tplain\t-\t-\tslit\ta\t9\t9\n"
    ++ bytes "Q\ttype\t0\t1\t0\n"
    ++ bytes "Q\texpr\t0\t0\t-\n")
    ≡ bytes "type\t0\t1\ttype\tstruct:0.0\n"
    ++ bytes "expr\t0\t0\ttype\tstruct:0.0\n"
unfolding resolves
docs_11_printed = refl

docs_12_printed :
    resolve
    (bytes "index\t1\n"
    ++ bytes "M\tm\n"
    ++ bytes "S\t-\tmodule\n"
    ++ bytes "T\tcustom\tA\n"
    ++ bytes "D\t0\tA\t0\t1\t0\t1\tstruct\tp\t0\n"
    ++ bytes "D\t0\tf\t2\t3\t2\t3\tfn\t0\n"
    ++ bytes "E\t0\t9\t9\t-\t-\treturn\t-\t-\tbool\n"
    ++ bytes "E\t0\t7\t9\t-\t-\treturn\t-\t-\tun\t!\t-\n"
    ++ bytes "Q\texpr\t0\t0\t-\n"
    ++ bytes "Q\texpr\t0\t1\t-\n")
    ≡ bytes "expr\t0\t0\trefused\t7\n"
    ++ bytes "expr\t0\t1\trefused\t7\n"
unfolding resolves
docs_12_printed = refl

docs_13_printed :
    resolve
    (bytes "index\t1\n"
    ++ bytes "M\tm\n"
    ++ bytes "S\t-\tmodule\n"
    ++ bytes "D\t0\ta\t6\t7\t0\t12\tconst\t-\t0\n"
    ++ bytes "E\t0\t10\t11\t-\t0\tplain\t-\t-\tident\ta\n"
    ++ bytes "E\t0\t20\t24\t-\t-\tplain\t-\t-\tbool\n"
    ++ bytes "E\t0\t30\t40\t-\t-\tplain\t-\t-\ttuple\t-\t0\n"
    ++ bytes "E\t0\t50\t60\t-\t-\tplain\t-\t-\tarr\t1\t-\t0\n"
    ++ bytes "Q\texpr\t0\t2\t-\n"
    ++ bytes "Q\texpr\t0\t3\t-\n")
    ≡ bytes "expr\t0\t2\trefused\t7\n"
    ++ bytes "expr\t0\t3\ttype\terror\n"
unfolding resolves
docs_13_printed = refl

docs_14_printed :
    resolve
    (bytes "index\t1\n"
    ++ bytes "M\tm\n"
    ++ bytes "S\t-\tmodule\n"
    ++ bytes "T\tu32\n"
    ++ bytes "D\t0\tx\t0\t1\t0\t9\tlet\t0\t-\t0\n"
    ++ bytes "E\t0\t10\t14\t-\t-\tplain\t-\t-\tbool\n"
    ++ bytes "Q\tdef\t0\t0\n")
    ≡ bytes "def\t0\t0\ttype\tbool\n"
unfolding resolves
docs_14_printed = refl

docs_15_printed :
    resolve
    (bytes "index\t1\n"
    ++ bytes "M\tm\n"
    ++ bytes "S\t-\tmodule\n"
    ++ bytes "T\tu32\n"
    ++ bytes "D\t0\tassert\t0\t1\t0\t1\tfn\t0\tx\t0\n"
    ++ bytes "E\t0\t1\t2\t-\t0\tplain\t-\t-\tident\tassert\n"
    ++ bytes "E\t0\t2\t3\t-\t-\targ\t0\t0\tlit\t-\n"
    ++ bytes "E\t0\t1\t3\t-\t-\tplain\t-\t-\tcall\t0\t1\n"
    ++ bytes "Q\texpr\t0\t0\t-\n"
    ++ bytes "Q\texpr\t0\t1\t-\n"
    ++ bytes "Q\texpr\t0\t2\t-\n")
    ≡ bytes "expr\t0\t0\ttype\t()\n"
    ++ bytes "expr\t0\t1\ttype\tu32\n"
    ++ bytes "expr\t0\t2\ttype\t()\n"
unfolding resolves
docs_15_printed = refl

docs_16_printed :
    resolve
    (bytes "index\t1\n"
    ++ bytes "M\tm\n"
    ++ bytes "S\t-\tmodule\n"
    ++ bytes "E\t0\t4\t6\t-\t-\tplain\t-\t-\tbool\n"
    ++ bytes "E\t0\t5\t7\t-\t-\tplain\t-\t-\tlit\t-\n"
    ++ bytes "E\t0\t3\t3\t-\t-\tplain\t-\t-\tlit\tu32\n"
    ++ bytes "Q\tat\t0\t4\n"
    ++ bytes "Q\tat\t0\t5\n"
    ++ bytes "Q\tat\t0\t7\n"
    ++ bytes "Q\tat\t0\t3\n"
    ++ bytes "Q\tat\t1\t4\n")
    ≡ bytes "at\t0\t4\ttype\tbool\n"
    ++ bytes "at\t0\t5\ttype\tfelt\n"
    ++ bytes "at\t0\t7\tnone\n"
    ++ bytes "at\t0\t3\tnone\n"
    ++ bytes "at\t1\t4\tnone\n"
unfolding resolves
docs_16_printed = refl

docs_17_printed :
    resolve
    (bytes "index\t1\n"
    ++ bytes "M\tm\n"
    ++ bytes "S\t-\tmodule\n"
    ++ bytes "E\t0\t0\t1\t-\t-\tplain\t-\t-\tun\t!\t-\n"
    ++ bytes "E\t0\t2\t3\t-\t-\tplain\t-\t-\tarr\t-\n"
    ++ bytes "E\t0\t4\t5\t-\t-\tplain\t-\t-\ttidx\t-\t0\n"
    ++ bytes "E\t0\t6\t7\t-\t-\tplain\t-\t-\trep\t-\t3\n"
    ++ bytes "E\t0\t8\t9\t-\t-\tplain\t-\t-\tbin\t+\t-\t-\n"
    ++ bytes "Q\texpr\t0\t0\t-\n"
    ++ bytes "Q\texpr\t0\t1\t-\n"
    ++ bytes "Q\texpr\t0\t2\t-\n"
    ++ bytes "Q\texpr\t0\t3\t-\n"
    ++ bytes "Q\texpr\t0\t4\t-\n")
    ≡ bytes "expr\t0\t0\trefused\t6\n"
    ++ bytes "expr\t0\t1\trefused\t6\n"
    ++ bytes "expr\t0\t2\trefused\t6\n"
    ++ bytes "expr\t0\t3\trefused\t6\n"
    ++ bytes "expr\t0\t4\trefused\t6\n"
unfolding resolves
docs_17_printed = refl

docs_18_printed :
    resolve
    (bytes "index\t1\n"
    ++ bytes "M\tm\n"
    ++ bytes "S\t-\tmodule\n"
    ++ bytes "D\t0\ta\t6\t7\t0\t12\tconst\t-\t0\n"
    ++ bytes "E\t0\t10\t11\t-\t0\tplain\t-\t-\tident\ta\n"
    ++ bytes "Q\tdef\t0\t0\n")
    ≡ bytes "def\t0\t0\trefused\t7\n"
unfolding resolves
docs_18_printed = refl

docs_19_printed :
    resolve
    (bytes "index\t1\n"
    ++ bytes "M\tm\n"
    ++ bytes "S\t-\tmodule\n"
    ++ bytes "E\t0\t1\t2\t-\t-\tplain\t-\t-\tbool\n"
    ++ bytes "E\t0\t1\t2\t-\t-\tplain\t-\t-\tlit\t-\n"
    ++ bytes "E\t0\t0\t2\t-\t-\tplain\t-\t-\tparen\t0\n"
    ++ bytes "Q\texpr\t0\t2\t-\n")
    ≡ bytes "expr\t0\t2\ttype\tbool\n"
unfolding resolves
docs_19_printed = refl

docs_20_printed :
    resolve
    (bytes "index\t1\n"
    ++ bytes "M\tm\n"
    ++ bytes "S\t-\tmodule\n"
    ++ bytes "E\t0\t0\t9\t-\t-\tplain\t-\t-\tcall\t-\n"
    ++ bytes "Q\texpr\t0\t0\t-\n")
    ≡ bytes "expr\t0\t0\ttype\terror\n"
unfolding resolves
docs_20_printed = refl
