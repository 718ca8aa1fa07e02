-- Index files and what the oracle printed for them, from text to text. Written by definition_check.py. Assumes nothing.
use Rattle.std.specs.Prelude.{◌≡◌, refl, ◌++◌}
use Rattle.model.specs.Common.{bytes}
use Rattle.resolution.specs.Resolve.{resolve}
use Rattle.resolution.specs.Computes.{resolves}

docs_1_printed :
    resolve
    (bytes "index\t1\n"
    ++ bytes "M\tmain\n"
    ++ bytes "S\t-\tmodule\n"
    ++ bytes "S\t0\tfunction\n"
    ++ bytes "T\tu32\n"
    ++ bytes "D\t0\tf\t3\t4\t0\t30\tfn\t0\tx\t0\n"
    ++ bytes "D\t1\tx\t5\t6\t5\t11\tparam\t0\n"
    ++ bytes "E\t1\t24\t25\t-\t1\tplain\t-\t-\tident\tx\n"
    ++ bytes "E\t1\t20\t21\t-\t-\tplain\t-\t-\tlit\t-\n"
    ++ bytes "E\t1\t20\t25\t-\t-\tplain\t-\t-\tbin\t+\t1\t0\n"
    ++ bytes "Q\texpr\t0\t2\t-\n"
    ++ bytes "Q\texpr\t0\t1\t-\n")
    ≡ bytes "expr\t0\t2\ttype\tu32\n"
    ++ bytes "expr\t0\t1\ttype\tfelt\n"
unfolding resolves
docs_1_printed = refl

docs_2_printed :
    resolve
    (bytes "index\t1\n"
    ++ bytes "M\tm\n"
    ++ bytes "S\t-\tmodule\n"
    ++ bytes "T\tptr\t65536\n")
    ≡ bytes "refused\t4\t4\n"
unfolding resolves
docs_2_printed = refl

docs_3_printed :
    resolve
    (bytes "index\t1\n"
    ++ bytes "M\ta\n"
    ++ bytes "S\t-\tmodule\n"
    ++ bytes "M\tb\n"
    ++ bytes "S\t-\tmodule\n"
    ++ bytes "M\tc\n"
    ++ bytes "S\t-\tmodule\n"
    ++ bytes "M\td\n"
    ++ bytes "S\t-\tmodule\n"
    ++ bytes "M\te\n"
    ++ bytes "S\t-\tmodule\n"
    ++ bytes "M\tf\n"
    ++ bytes "S\t-\tmodule\n"
    ++ bytes "M\tg\n"
    ++ bytes "S\t-\tmodule\n"
    ++ bytes "M\th\n"
    ++ bytes "S\t-\tmodule\n"
    ++ bytes "M\n")
    ≡ bytes "refused\t3\t18\n"
unfolding resolves
docs_3_printed = refl

docs_4_printed :
    resolve
    (bytes "index\t1\n"
    ++ bytes "M\tm\n"
    ++ bytes "S\t-\tblock\n")
    ≡ bytes "refused\t4\t3\n"
unfolding resolves
docs_4_printed = refl

docs_5_printed :
    resolve
    (bytes "index\t1\n"
    ++ bytes "M\tm\n"
    ++ bytes "S\t-\tmodule\n"
    ++ bytes "S\t-\tmodule\n")
    ≡ bytes "refused\t5\t4\n"
unfolding resolves
docs_5_printed = refl

docs_6_printed :
    resolve
    (bytes "index\t1\n"
    ++ bytes "Q\tdef\t0\t0\n")
    ≡ bytes "def\t0\t0\ttype\terror\n"
unfolding resolves
docs_6_printed = refl

docs_7_printed :
    resolve
    (bytes "index\t1\n"
    ++ bytes "M\tm\n"
    ++ bytes "S\t-\tmodule\n"
    ++ bytes "E\t0\t9\t1\t-\t-\tassign\t-\t-\tlit\t-\n")
    ≡ bytes "refused\t4\t4\n"
unfolding resolves
docs_7_printed = refl

docs_8_printed :
    resolve
    (bytes "index\t1\n"
    ++ bytes "M\tm\n"
    ++ bytes "S\t-\tmodule\n"
    ++ bytes "D\t0\tx\t0\t1\t0\t1\tlet\t-\t-\t-\t0\n")
    ≡ bytes "refused\t4\t4\n"
unfolding resolves
docs_8_printed = refl

docs_9_printed :
    resolve
    (bytes "index\t1\n"
    ++ bytes "M\tm\n"
    ++ bytes "S\t-\tmodule\n"
    ++ bytes "T\tptr\t9\n"
    ++ bytes "T\n")
    ≡ bytes "refused\t4\t5\n"
unfolding resolves
docs_9_printed = refl

docs_10_printed :
    resolve
    (bytes "index\t1\n"
    ++ bytes "M\tm\n"
    ++ bytes "S\t-\tmodule\n"
    ++ bytes "Q\texpr\t0\t0\t9\n"
    ++ bytes "Q\ttype\t1\t9\t9\n")
    ≡ bytes "expr\t0\t0\ttype\terror\n"
    ++ bytes "type\t1\t9\ttype\terror\n"
unfolding resolves
docs_10_printed = refl
