-- What a line says, from the type that was resolved for it, or from the byte that nothing covers. Assumes nothing.
use Rattle.std.specs.Prelude.{Result, Ok, Err}
use Rattle.refusals.specs.declared.Refusal.{Refusal}
use Prim.Native.Nat.{ℕ}
use mathlib.Core.Path.{◌≡◌, refl, sym, ap, subst⁻¹, ◌∙◌}
use mathlib.Core.List.{List}
use Rattle.std.specs.Prelude.{Option, None, Some}
use Rattle.model.specs.Records.{Module, Index}
use Rattle.model.specs.Lookups.{module_at, expression_at_position}
use Rattle.model.specs.Common as common
use Rattle.records.specs.Layout.{index_of}
use Rattle.records.specs.Meaning.{type_link_of, expression_link_of}
use Rattle.records.specs.declared.ExpressionId.{ExpressionId}
use Rattle.resolution.specs.Asked as resolution
use Rattle.resolution.specs.Programs.{Said as Says, Program, done, let_some, expression_semantic_type, ◌>>=◌}
use Rattle.resolution.specs.TypeResolution.{says_type, none_said, says_at, at_program, asked_program}
use Rattle.views.specs.Asking.{asked_of}
use Rattle.views.specs.Reads.{position_expression}
use Rattle.views.specs.Promises.{PositionExpression}
use Rattle.views.specs.declared.Asked.{Asked}
use Rattle.type_resolution.specs.State.{Ready, Runs, typed}
use Rattle.type_resolution.specs.Asking.{says, said_type}
use Rattle.type_resolution.proofs.Running.{is_ok, is_err, ends, then_on, then_stop, some_runs, none_runs, same_runs}

module _ {file words : List ℕ} {depth : ℕ} {T : List ℕ} {O : List (List ℕ)} {T' : List ℕ} {O' : List (List ℕ)} where
  -- a type that was resolved is said
  pub says_runs : {p : Program ℕ} {r : Result ℕ Refusal} {s : Result (Option ℕ) Refusal} → Runs typed file words p depth T O T' O' r → s ≡ said_type r
      → Runs says file words (says_type p) depth T O T' O' s
  unfolding says_type
  says_runs {p} {r} {s} a e = subst⁻¹ (λ x. Runs says file words (p >>= (λ t. done (Says.type t))) depth T O T' O' x) e (by_result r a)
    where
      by_result : (r : Result ℕ Refusal) → Runs typed file words p depth T O T' O' r → Runs says file words (p >>= (λ t. done (Says.type t))) depth T O T' O' (said_type r)
      by_result (Ok t) a = then_on a _ (is_ok _ refl) (ends a.ready (is_ok _ refl))
      by_result (Err refusal) a = then_stop a _ (is_err _ refl) (is_err _ refl)

  pub by_asked : (index : Index) {x v : Asked} {s : Result (Option ℕ) Refusal} → x ≡ v → Runs says file words (asked_program index (asked_of v)) depth T O T' O' s
      → Runs says file words (asked_program index (asked_of x)) depth T O T' O' s
  by_asked index {s = s} e a = subst⁻¹ (λ y. Runs says file words (asked_program index (asked_of y)) depth T O T' O' s) e a

  pub by_context : (index : Index) (m e : ℕ) {x v : Option ℕ} {s : Result (Option ℕ) Refusal} → x ≡ v
      → Runs says file words (asked_program index (resolution.Asked.expr m e (type_link_of v))) depth T O T' O' s
      → Runs says file words (asked_program index (resolution.Asked.expr m e (type_link_of x))) depth T O T' O' s
  by_context index m e {s = s} same a = subst⁻¹ (λ y. Runs says file words (asked_program index (resolution.Asked.expr m e (type_link_of y))) depth T O T' O' s) same a

-- ------------------------------------------------------------------ the expression at a byte

-- the program of a byte, by what is read before its demand
at_reads : (index : Index) (m position : ℕ) → at_program index m position ≡ says_at m (position_expression index m position)
unfolding at_program says_at position_expression let_some
at_reads index m position = by_module (module_at index m)
  where
    by_module : (o : Option Module)
        → let_some o (done none_said) (λ the_module. says_at m (expression_at_position the_module position))
        ≡ says_at m (common.let_some o None λ the_module. expression_at_position the_module position)
    by_module None = refl
    by_module (Some the_module) = refl

module _ {file words : List ℕ} {depth : ℕ} {T : List ℕ} {O : List (List ℕ)} (m position : ℕ) {r : Option ExpressionId} (reads : PositionExpression words m position r) where
  pub nothing_there : Ready file words depth T O → r ≡ None
      → Runs says file words (asked_program (index_of file words) (resolution.Asked.at m position)) depth T O T O (Ok None)
  unfolding asked_program says_at
  nothing_there ok absent =
      same_runs (at_reads (index_of file words) m position)
      (none_runs _ _ _ (sym (reads.same file) ∙ ap expression_link_of absent) (ends ok (is_ok _ refl)))

  pub expression_there : {e : ExpressionId} {T' : List ℕ} {O' : List (List ℕ)} {s : Result (Option ℕ) Refusal} → r ≡ Some e
      → Runs says file words (says_type (expression_semantic_type m e.0 None)) depth T O T' O' s
      → Runs says file words (asked_program (index_of file words) (resolution.Asked.at m position)) depth T O T' O' s
  unfolding asked_program says_at
  expression_there is a =
      same_runs (at_reads (index_of file words) m position)
      (some_runs _ _ _ (sym (reads.same file) ∙ ap expression_link_of is) a)
