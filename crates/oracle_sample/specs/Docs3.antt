-- Index files and what the oracle printed for them, from text to text. Written by definition_check.py. Assumes nothing.
use Rattle.std.specs.Prelude.{◌≡◌, refl, ◌++◌}
use Rattle.model.specs.Common.{bytes}
use Rattle.resolution.specs.Resolve.{resolve}
use Rattle.resolution.specs.Computes.{resolves}

docs_21_printed :
    resolve
    (bytes "index\t1\n"
    ++ bytes "M\tm\n"
    ++ bytes "S\t-\tmodule\n"
    ++ bytes "T\tu32\n"
    ++ bytes "D\t0\tx\t4\t5\t0\t14\tlet\t0\t0\t-\n"
    ++ bytes "E\t0\t12\t13\t0\t-\tplain\t-\t-\tlit\t-\n"
    ++ bytes "E\t0\t16\t17\t-\t0\tplain\t-\t-\tident\tx\n"
    ++ bytes "E\t0\t20\t21\t-\t-\tassign\t1\t-\tlit\t-\n"
    ++ bytes "Q\tat\t0\t12\n"
    ++ bytes "Q\tat\t0\t20\n"
    ++ bytes "Q\tat\t0\t18\n")
    ≡ bytes "at\t0\t12\ttype\tu32\n"
    ++ bytes "at\t0\t20\ttype\tu32\n"
    ++ bytes "at\t0\t18\tnone\n"
unfolding resolves
docs_21_printed = refl
