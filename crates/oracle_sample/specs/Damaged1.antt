-- Index files and what the oracle printed for them, from text to text. Written by definition_check.py. Assumes nothing.
use Rattle.std.specs.Prelude.{◌≡◌, refl, ◌++◌}
use Rattle.model.specs.Common.{bytes}
use Rattle.resolution.specs.Resolve.{resolve}
use Rattle.resolution.specs.Computes.{resolves}

damaged_27_printed :
    resolve
    (bytes "index\t1\n"
    ++ bytes "M\tm0\n"
    ++ bytes "S\t-\tmodule\n"
    ++ bytes "S\t0\tloop\n"
    ++ bytes "S\t0\tfunction\n"
    ++ bytes "T\tu32\n"
    ++ bytes "T\ttuple\t0\n"
    ++ bytes "T\ttuple\t0\n"
    ++ bytes "T\ttuple\n"
    ++ bytes "T\tcustom\tfelt\n"
    ++ bytes "T\tu32\n"
    ++ bytes "T\tu32\n"
    ++ bytes "T\tu32\n"
    ++ bytes "T\tbool\n"
    ++ bytes "T\tptr\t0\n"
    ++ bytes "T\tcustom\tC\n"
    ++ bytes "T\tu32\n"
    ++ bytes "T\tu32\n"
    ++ bytes "D\t0\tA\t13\t42\t0\t0\tstruct\tq\t2\n"
    ++ bytes "D\t0\tB\t37\t61\t0\t0\tstruct\tp\t2\n"
    ++ bytes "D\t0\tg\t16\t49\t25\t57\tconst\t-\t10\n"
    ++ bytes "E\t0\t39\t56\t-\t-\tplain\t-\t-\tlit\ti\n"
    ++ bytes "E\t1\t39\t43\t-\t-\tplain\t-\t-\tlit\ti\n"
    ++ bytes "E\t2\t19\t39\t-\t-\targ\t10\t2\tparen\t1\n"
    ++ bytes "E\t1\t29\t50\t-\t-\treturn\t-\t-\tcast\t8\n"
    ++ bytes "E\t0\t0\t2\t-\t-\tfield\t4\tx\tslit\tfelt\t26\t41\n"
    ++ bytes "E\t0\t18\t19\t1\t-\tplain\t-\t-\tcast\t9\n"
    ++ bytes "E\t0\t28\t32\t-\t-\targ\t6\t1\tbin\t<=\t5\t4\n"
    ++ bytes "E\t1\t37\t45\t4\t-\treturn\t-\t-\tident\tassert\n"
    ++ bytes "E\t1\t12\t34\t-\t-\tfield\t4\tr\tbool\n"
    ++ bytes "E\t0\t4\t37\t3\t-\tassign\t0\t-\ttuple\n"
    ++ bytes "E\t1\t39\t39\t-\t-\targ\t5\t0\tcast\t8\n"
    ++ bytes "E\t0\t5\t11\t-\t-\targ\t4\t0\tcast\t12\n"
    ++ bytes "E\t1\t30\t55\t-\t0\targ\t7\t1\tb\0in\t!=\t-\t2\n"
    ++ bytes "E\t1\t0\t12\t-\t-\targ\t0\t0\tcall\t3\t11\t10\n"
    ++ bytes "Q\texpr\t0\t2\t-\n"
    ++ bytes "Q\texpr\t0\t12\t-\n"
    ++ bytes "Q\tdef\t0\t0\n"
    ++ bytes "Q\texpr\t0\t8\t-\n"
    ++ bytes "Q\tdef\t0\t0\n"
    ++ bytes "Q\texpr\t0\t1\t-\n"
    ++ bytes "Q\texpr\t0\t4\t0\n"
    ++ bytes "Q\texpr\t0\t8\t-\n"
    ++ bytes "Q\texpr\t0\t1\t-\n"
    ++ bytes "Q\tdef\t0\t1\n"
    ++ bytes "Q\ttype\t33917\t30975\t45568\n"
    ++ bytes "Q\texpr\t0\t0\t-\n"
    ++ bytes "Q\ttype\t0\t4\t2\n"
    ++ bytes "Q\texpr\t0\t2\t-\n"
    ++ bytes "Q\tdef\t0\t1\n"
    ++ bytes "Q\texpr\t0\t7\t-\n"
    ++ bytes "Q\tdef\t19\t2\n"
    ++ bytes "Q\tdef\t0\t1\n"
    ++ bytes "Q\texpr\t0\t6\t6\n")
    ≡ bytes "refused\t4\t34\n"
unfolding resolves
damaged_27_printed = refl

damaged_70_printed :
    resolve
    (bytes "index\t1\n"
    ++ bytes "M\tconst\n"
    ++ bytes "S\t-\tmodule\n"
    ++ bytes "T\tfelt\n"
    ++ bytes "T\tarray\t0\t18446744073709551615\n"
    ++ bytes "E\t0\t0\t1\t-\t-\tplain\t-\t-\trep\t1\t18446744073709551615\n"
    ++ bytes "E\t0\t1\t2\t-\t-\tplain\t-\t-\tlit\t-\n"
    ++ bytes "\n"
    ++ bytes "Q\ttype\t0\t1\t0\n"
    ++ bytes "Q\texpr\t0\t0\t-")
    ≡ bytes "refused\t4\t8\n"
unfolding resolves
damaged_70_printed = refl
