-- What interning gives: the row is there, there is no room for it, or it enters as the last. Assumes nothing.
use Prim.Native.Nat.{ℕ, ◌+◌, ◌≤◌, ◌<◌}
use mathlib.Core.Path.{◌≡◌, refl, sym, ap, subst, ◌∙◌}
use mathlib.Core.List.{List}
use Rattle.std.specs.Prelude.{None, Some, Ok, Err}
use native.Mathlib.Omega.{arith}
use lib.ListN.{length}
use Rattle.resolution.specs.TypeData.{TypeData}
use Rattle.resolution.specs.Types.{find_type}
use Rattle.resolution.specs.TableOk.{row_types}
use Rattle.resolution.proofs.RunLaws.{enter_found}
use Rattle.resolution.specs.Run.{answered, refused, enter_type}
use Rattle.type_table.specs.declared.Head.{Head}
use Rattle.refusals.specs.declared.Refusal.{Refusal}
use Rattle.type_table.specs.Layout.{data_from, table_of, type_count, item_count, AllBelow, Canonical, Sound}
use Rattle.type_table.specs.Promises.{Added, Interns}
use Rattle.type_table.proofs.Growth.{grows_refl}
use Rattle.type_table.proofs.Grow.{items_are, table_grown, sound_grown, rest_grown, found_below, entered_new, refused_types, refused_items}

module _ (file w : List ℕ) (row : TypeData) (sound : Sound file w) where
  pub interns_old : (t : ℕ) → find_type (table_of file w) row ≡ Some t → Interns file row w w (Ok t)
  interns_old t found = record {
    outcome = sym (enter_found row (table_of file w) t found);
    sound = sound;
    grows = grows_refl w;
    below = λ u e. let same : t ≡ u = cc in subst (λ n. n < type_count w) same (found_below file w row t found);
    kept = λ n e. refl;
  }

  interns_not : enter_type row (table_of file w) ≡ refused 9 → Interns file row w w (Err Refusal.TableFull)
  interns_not e = record {
    outcome = sym e;
    sound = sound;
    grows = grows_refl w;
    below = λ t h. let z : ◌≡◌ {A = ℕ} 0 1 = cc in absurd (omega arith);
    kept = λ n h. refl;
  }

  pub full_types : find_type (table_of file w) row ≡ None → 256 ≤ type_count w → Interns file row w w (Err Refusal.TableFull)
  full_types lost full = interns_not (refused_types file w row lost full)

module _ (file : List ℕ) (head : Head) (names items w : List ℕ) (sound : Sound file w) (canonical : Canonical file head names items)
    (lost : find_type (table_of file w) (data_from file head names items) ≡ None) (types : type_count w < 256) where
  pub full_items : 2048 < item_count w + length items → Interns file (data_from file head names items) w w (Err Refusal.TableFull)
  full_items full =
      interns_not file w (data_from file head names items) sound
      (refused_items file w (data_from file head names items) lost types (omega (arith, items_are file head names items canonical, sound.held)))

  pub interns_new : item_count w + length items ≤ 2048 → AllBelow (type_count w) (row_types (data_from file head names items)) → (w' : List ℕ) → Added head names items w w'
      → Interns file (data_from file head names items) w w' (Ok (type_count w))
  interns_new room lower w' grown = record {
    outcome =
        ap (answered (type_count w)) (table_grown file head names items w w' sound canonical types room grown)
        ∙ sym (entered_new file w (data_from file head names items) lost types (omega (arith, items_are file head names items canonical, sound.held)));
    sound = sound_grown file head names items w w' sound canonical types room grown lower;
    grows = record {
      types = omega (arith, grown.counted);
      items = omega (arith, grown.filled);
      kept = grown.items_kept;
      rest = rest_grown file head names items w w' sound canonical types room grown;
      same_length = grown.same_length;
    };
    below = λ t e. let same : type_count w ≡ t = cc in omega (arith, grown.counted);
    kept = λ n e. let z : ◌≡◌ {A = ℕ} 0 1 = cc in absurd (omega arith);
  }
