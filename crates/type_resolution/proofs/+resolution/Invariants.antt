-- The proof of the cycle of calls. Assumes nothing.
use Rattle.type_resolution.proofs.Leading.{Leads, numbers_left, collecting, links_left, gathering}
use Prim.Native.Nat.{◌≤◌, ◌-◌, ◌*◌, ◌+◌}
use lib.ListN.{take, drop}
use Rattle.resolution.specs.TypeResolution.{resolve_all, infer_arguments, infer_elements, all_same_type}
use Rattle.records.specs.Layout.{numbers_at, links_at}
use Rattle.type_table.specs.Layout.{types_of}
use Rattle.type_resolution.proofs.+resolution.Given as goal

abbrev pub decreases-all : goal.decreases-all
decreases-all l = 8 * (256 - l.depth) + 1

abbrev pub invariant-all-loop-i : goal.invariant-all-loop-i
invariant-all-loop-i l =
    Leads l.index.file.now l.index.words.now l.depth (resolve_all l.m l.s.0 (numbers_at l.index.words.now l.first l.count)) l.initial.types l.initial.demands
    (collecting l.m l.s.0 (take l.i l.out) (numbers_left l.index.words.now l.first l.count l.i)) l.types l.demands

abbrev pub decreases-args : goal.decreases-args
decreases-args l = 8 * (256 - l.depth) + 2

abbrev pub invariant-args-loop-i : goal.invariant-args-loop-i
invariant-args-loop-i l =
    Leads l.index.file.now l.index.words.now l.depth (infer_arguments l.m (types_of l.initial.types l.params) 0 (links_at l.index.words.now l.first l.count)) l.initial.types l.initial.demands
    (infer_arguments l.m (types_of l.initial.types l.params) l.i (links_left l.index.words.now l.first l.count l.i)) l.types l.demands

abbrev pub decreases-arr : goal.decreases-arr
decreases-arr l = 8 * (256 - l.depth) + 2

abbrev pub decreases-array : goal.decreases-array
decreases-array l = 8 * (256 - l.depth) + 1

abbrev pub decreases-ast_type : goal.decreases-ast_type
decreases-ast_type l = 8 * (256 - l.depth)

abbrev pub decreases-bin : goal.decreases-bin
decreases-bin l = 8 * (256 - l.depth) + 1

abbrev pub decreases-call : goal.decreases-call
decreases-call l = 8 * (256 - l.depth) + 3

abbrev pub decreases-def : goal.decreases-def
decreases-def l = 8 * (256 - l.depth) + 2

abbrev pub decreases-def_type : goal.decreases-def_type
decreases-def_type l = 8 * (256 - l.depth)

abbrev pub decreases-elems : goal.decreases-elems
decreases-elems l = 8 * (256 - l.depth) + 1

abbrev pub invariant-elems-loop-i : goal.invariant-elems-loop-i
invariant-elems-loop-i l =
    (l.n ≤ l.i)
    × Leads l.index.file.now l.index.words.now l.depth (infer_elements l.m (types_of l.initial.types l.contexts) 0 (links_at l.index.words.now l.first l.count)) l.initial.types l.initial.demands
    (gathering l.m (types_of l.initial.types l.contexts) l.i (take l.n l.out) (links_left l.index.words.now l.first l.count l.i)) l.types l.demands

abbrev pub decreases-empty : goal.decreases-empty
decreases-empty l = 8 * (256 - l.depth) + 1

abbrev pub decreases-expr_type : goal.decreases-expr_type
decreases-expr_type l = 8 * (256 - l.depth)

abbrev pub decreases-fields : goal.decreases-fields
decreases-fields l = 8 * (256 - l.depth) + 2

abbrev pub decreases-fn_signature : goal.decreases-fn_signature
decreases-fn_signature l = 8 * (256 - l.depth)

abbrev pub decreases-index : goal.decreases-index
decreases-index l = 8 * (256 - l.depth) + 2

abbrev pub decreases-lit : goal.decreases-lit
decreases-lit l = 8 * (256 - l.depth) + 1

abbrev pub decreases-member : goal.decreases-member
decreases-member l = 8 * (256 - l.depth) + 1

abbrev pub decreases-named : goal.decreases-named
decreases-named l = 8 * (256 - l.depth) + 1

abbrev pub decreases-new : goal.decreases-new
decreases-new l = 8 * (256 - l.depth) + 2

abbrev pub decreases-node : goal.decreases-node
decreases-node l = 8 * (256 - l.depth) + 4

abbrev pub decreases-only : goal.decreases-only
decreases-only l = 8 * (256 - l.depth) + 1

abbrev pub decreases-origin : goal.decreases-origin
decreases-origin l = 8 * (256 - l.depth) + 1

abbrev pub decreases-rep : goal.decreases-rep
decreases-rep l = 8 * (256 - l.depth) + 1

abbrev pub decreases-same : goal.decreases-same
decreases-same l = 8 * (256 - l.depth) + 1

abbrev pub invariant-same-loop-i : goal.invariant-same-loop-i
invariant-same-loop-i l =
    Leads l.index.file.now l.index.words.now l.depth (all_same_type l.m l.t (drop 1 (links_at l.index.words.now l.first l.count))) l.initial.types l.initial.demands
    (all_same_type l.m l.t (links_left l.index.words.now l.first l.count l.i)) l.types l.demands

abbrev pub decreases-sig : goal.decreases-sig
decreases-sig l = 8 * (256 - l.depth) + 2

abbrev pub decreases-struct_data : goal.decreases-struct_data
decreases-struct_data l = 8 * (256 - l.depth)

abbrev pub decreases-tidx : goal.decreases-tidx
decreases-tidx l = 8 * (256 - l.depth) + 1

abbrev pub decreases-tup : goal.decreases-tup
decreases-tup l = 8 * (256 - l.depth) + 2

abbrev pub decreases-tuple : goal.decreases-tuple
decreases-tuple l = 8 * (256 - l.depth) + 2

abbrev pub decreases-ty : goal.decreases-ty
decreases-ty l = 8 * (256 - l.depth) + 3

abbrev pub decreases-un : goal.decreases-un
decreases-un l = 8 * (256 - l.depth) + 1

abbrev pub decreases-var : goal.decreases-var
decreases-var l = 8 * (256 - l.depth) + 1
