-- `type_table::data` meets its contract. Assumes nothing.
use Prim.Native.Nat.{zero-le}
use mathlib.Core.Path.{refl, sym, ap, ap₂, ◌∙◌}
use native.Mathlib.Omega.{arith}
use Rattle.resolution.specs.TypeData.{TypeData}
use Rattle.type_table.specs.Layout.{data_by, head_at, items_at, items_from, names_from, fields_of}
use Rattle.type_table.proofs.Rows.{data_past, data_kind, names_struct, no_kind}
use Rattle.type_table.proofs.data.Goals as goal

pub returns-then-word_at-t : goal.returns-then-word_at-t
returns-then-word_at-t c =
    record {
      same = λ file. sym (data_past file c.args.types.now c.args.t (omega (arith, c.word_at.ensures)));
      within = λ file sound. zero-le;
    }

pub returns-in-0 : goal.returns-in-0
unfolding data_by
returns-in-0 c = record { same = λ file. sym (data_kind file c.args.types.now c.args.t 0 (head_at c.args.types.now c.args.t) (omega (arith, c.word_at.ensures)) refl (sym c.kind_at.ensures ∙ c.in-0.is)); within = λ file sound. zero-le }

pub returns-in-1 : goal.returns-in-1
unfolding data_by
returns-in-1 c = record { same = λ file. sym (data_kind file c.args.types.now c.args.t 1 (head_at c.args.types.now c.args.t) (omega (arith, c.word_at.ensures)) refl (sym c.kind_at.ensures ∙ c.in-1.is)); within = λ file sound. zero-le }

pub returns-in-2 : goal.returns-in-2
unfolding data_by
returns-in-2 c = record { same = λ file. sym (data_kind file c.args.types.now c.args.t 2 (head_at c.args.types.now c.args.t) (omega (arith, c.word_at.ensures)) refl (sym c.kind_at.ensures ∙ c.in-2.is)); within = λ file sound. zero-le }

pub returns-in-3 : goal.returns-in-3
unfolding data_by
returns-in-3 c = record { same = λ file. sym (data_kind file c.args.types.now c.args.t 3 (head_at c.args.types.now c.args.t) (omega (arith, c.word_at.ensures)) refl (sym c.kind_at.ensures ∙ c.in-3.is)); within = λ file sound. zero-le }

pub returns-in-5 : goal.returns-in-5
unfolding data_by
returns-in-5 c =
    record {
      same = λ file. ap₂ (λ x y. TypeData.Tuple (items_from c.args.types.now x y)) c.list_at.ensures.first c.list_at.ensures.count ∙ sym (data_kind file c.args.types.now c.args.t 5 (head_at c.args.types.now c.args.t) (omega (arith, c.word_at.ensures)) refl (sym c.kind_at.ensures ∙ c.in-5.is));
      within = λ file sound. omega (arith, c.list_at.ensures.first, c.list_at.ensures.count, (sound.rows c.args.t (omega (arith, c.word_at.ensures))).within);
    }

pub returns-in-6 : goal.returns-in-6
unfolding data_by
returns-in-6 c = record { same = λ file. sym (data_kind file c.args.types.now c.args.t 6 c.head_at-head.result (omega (arith, c.word_at.ensures)) c.head_at-head.ensures (ap (λ h. h.kind) c.head_at-head.ensures ∙ sym c.kind_at.ensures ∙ c.in-6.is)); within = λ file sound. zero-le }

pub returns-in-7 : goal.returns-in-7
unfolding data_by
returns-in-7 c = record { same = λ file. sym (data_kind file c.args.types.now c.args.t 7 c.head_at-head-in-7.result (omega (arith, c.word_at.ensures)) c.head_at-head-in-7.ensures (ap (λ h. h.kind) c.head_at-head-in-7.ensures ∙ sym c.kind_at.ensures ∙ c.in-7.is)); within = λ file sound. zero-le }

pub returns-in-8 : goal.returns-in-8
unfolding data_by
returns-in-8 c =
    let head = c.head_at-head-in-8.result in
    let is_struct = ap (λ h. h.kind) c.head_at-head-in-8.ensures ∙ sym c.kind_at.ensures ∙ c.in-8.is in
    record {
      same =
          λ file.
          ap₂ (λ x y. TypeData.Struct head.home head.definition (fields_of file (names_from c.args.types.now x y) (items_from c.args.types.now x y))) c.list_at-in-8.ensures.first c.list_at-in-8.ensures.count
          ∙ ap (λ l. TypeData.Struct head.home head.definition (fields_of file l (items_at c.args.types.now c.args.t))) (sym (names_struct c.args.types.now c.args.t head c.head_at-head-in-8.ensures is_struct))
          ∙ sym (data_kind file c.args.types.now c.args.t 8 head (omega (arith, c.word_at.ensures)) c.head_at-head-in-8.ensures is_struct);
      within = λ file sound. omega (arith, c.list_at-in-8.ensures.first, c.list_at-in-8.ensures.count, (sound.rows c.args.t (omega (arith, c.word_at.ensures))).within);
    }

pub returns-in-9 : goal.returns-in-9
unfolding data_by
returns-in-9 c =
    let head = c.head_at-head-in-9.result in
    record {
      same = λ file. ap₂ (λ x y. TypeData.Function head.home head.definition (items_from c.args.types.now x y) head.element) c.list_at-in-9.ensures.first c.list_at-in-9.ensures.count ∙ sym (data_kind file c.args.types.now c.args.t 9 head (omega (arith, c.word_at.ensures)) c.head_at-head-in-9.ensures (ap (λ h. h.kind) c.head_at-head-in-9.ensures ∙ sym c.kind_at.ensures ∙ c.in-9.is));
      within = λ file sound. omega (arith, c.list_at-in-9.ensures.first, c.list_at-in-9.ensures.count, (sound.rows c.args.t (omega (arith, c.word_at.ensures))).within);
    }

pub returns-in_default : goal.returns-in_default
returns-in_default c = record { same = λ file. sym (no_kind file _ _ _ _ c.in_default.in_default-own.rest.0.0.0.0.0.0.0.0.1 c.in_default.in_default-own.rest.0.0.0.0.0.0.0.1 c.in_default.in_default-own.rest.0.0.0.0.0.0.1 c.in_default.in_default-own.rest.0.0.0.0.0.1 c.in_default.in_default-own.rest.0.0.0.0.1 c.in_default.in_default-own.rest.0.0.0.1 c.in_default.in_default-own.rest.0.0.1 c.in_default.in_default-own.rest.0.1 c.in_default.in_default-own.rest.1) ∙ sym (data_kind file c.args.types.now c.args.t c.kind_at.result (head_at c.args.types.now c.args.t) (omega (arith, c.word_at.ensures)) refl (sym c.kind_at.ensures)); within = λ file sound. zero-le }
