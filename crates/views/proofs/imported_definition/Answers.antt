-- `views::imported_definition` meets its contract: what stands behind each link decides. Assumes nothing.
use mathlib.Core.Path.{ap, ◌∙◌}
use Rattle.views.specs.Meaning.{found_import_of}
use mathlib.Core.Bool.{not}
use Rattle.views.proofs.Chains.{no_module, to_module, no_scope, to_scope, no_link, to_definition, module_past, module_there}
use Rattle.views.proofs.Chains.{import_unknown, import_lost, import_rootless, import_absent, import_found}
use Rattle.views.proofs.imported_definition.Goals as goal

pub returns-in_err-imported : goal.returns-in_err-imported
returns-in_err-imported c = record { same = ap found_import_of c.from_residual.ensures ∙ import_unknown _ _ _ (no_module _ _ c.module_by_name.ensures c.in_err-imported.was) }

pub returns-then-not-has_module : goal.returns-then-not-has_module
returns-then-not-has_module c =
    record { same = import_lost _ _ _ _ (to_module _ _ c.module_by_name.ensures _ c.in_ok-imported.was) (module_past _ _ c.has_module.result (c.has_module.ensures c.args.index.now.file.now) (ap not c.if-not-has_module.true)) }

pub returns-in_err-imported_root : goal.returns-in_err-imported_root
returns-in_err-imported_root c =
    record { same = ap found_import_of c.from_residual-in_err-imported_root.ensures ∙ import_rootless _ _ _ _ (to_module _ _ c.module_by_name.ensures _ c.in_ok-imported.was) _ (module_there _ _ c.has_module.result (c.has_module.ensures c.args.index.now.file.now) (ap not c.if-not-has_module.false)) (no_scope _ _ (c.root_scope.ensures _) c.in_err-imported_root.was) }

pub returns-in_err-d : goal.returns-in_err-d
returns-in_err-d c =
    record { same = ap found_import_of c.from_residual-in_err-d.ensures ∙ import_absent _ _ _ _ (to_module _ _ c.module_by_name.ensures _ c.in_ok-imported.was) _ (module_there _ _ c.has_module.result (c.has_module.ensures c.args.index.now.file.now) (ap not c.if-not-has_module.false)) _ (to_scope _ _ (c.root_scope.ensures _) _ c.in_ok-imported_root.was) (no_link _ _ c.latest_definition_index_by_name.ensures c.in_err-d.was) }

pub returns : goal.returns
returns c =
    record { same = import_found _ _ _ _ (to_module _ _ c.module_by_name.ensures _ c.in_ok-imported.was) _ (module_there _ _ c.has_module.result (c.has_module.ensures c.args.index.now.file.now) (ap not c.if-not-has_module.false)) _ (to_scope _ _ (c.root_scope.ensures _) _ c.in_ok-imported_root.was) _ (to_definition _ _ c.latest_definition_index_by_name.ensures _ c.in_ok-d.was) }
