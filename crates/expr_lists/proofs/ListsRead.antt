-- What is known of fields and settings that were read by their numbers alone.
use Rattle.std.proofs.Common.{Bool, ◌≡◌, ℕ, suc, ◌+◌, ◌≤◌, List, [], ◌∷◌, length, refl, sym, ap, ◌∙◌, arith}
use Rattle.tla_token.specs.declared.place.Place.{Place}
use Rattle.tla_tree.specs.Tree.{Tree, Trees, no_trees, tree, Word, Slot}
use Rattle.tla_tree.specs.Shapes as shapes
use Rattle.tla_tree.specs.Spelling.{Fields, last_field, field, Settings, last_setting, setting, Path, path_end, index, at_field, labels, field_trees, slots, setting_trees, subscripts, steps, tree_of}
use Rattle.expr_nodes.specs.ReadIn.{AreFields, AreSettings}
use Rattle.expr_rows.proofs.ReadCounts.{count, count_at}

-- ---- fields
count_fields : (fs : Fields) → count (field_trees fs) ≡ length (labels fs)
count_fields (last_field f p a) = refl
count_fields (field f p a q fs) = ap suc (count_fields fs)

some_fields : (fs : Fields) → 1 ≤ length (labels fs)
some_fields (last_field f p a) = (let one : 1 ≤ length (f.text ∷ []) = omega arith in one)
some_fields (field f p a q fs) = (let one : 1 ≤ length (f.text ∷ labels fs) = omega arith in one)

pub fields_many : {linked : Bool} {ts : List Tree} {xs : List Word} {is : List ℕ} {n : ℕ} {fs : Fields} → AreFields linked ts xs is n fs → length is ≡ length xs
fields_many {linked} {ts} {xs} {is} {n} {fs} h = sym (count_at ts is) ∙ ap count h.trees ∙ count_fields fs ∙ ap (λ (xs : List Word). length xs) h.names

pub fields_some : {linked : Bool} {ts : List Tree} {xs : List Word} {is : List ℕ} {n : ℕ} {fs : Fields} → AreFields linked ts xs is n fs → 1 ≤ length is
fields_some {linked} {ts} {xs} {is} {n} {fs} h = omega (arith, fields_many h, some_fields fs, ap (λ (xs : List Word). length xs) h.names)

-- ---- settings
count_path : (p : Path) (ts : Trees) → count (subscripts p ts) ≡ shapes.subscripts (steps p) + count ts
count_path path_end ts = (let e : count ts ≡ 0 + count ts = omega arith in e)
count_path (index p xs q path) ts = (let e : suc (count (subscripts path ts)) ≡ suc (shapes.subscripts (steps path)) + count ts = omega (arith, count_path path ts) in e)
count_path (at_field p f path) ts = count_path path ts

count_settings : (p : Place) (ss : Settings) → count (setting_trees ss) ≡ shapes.settings (slots p ss)
count_settings at (last_setting p path q a) = count_path path (tree (tree_of a) no_trees)
count_settings at (setting p path q a r ss) = count_path path (tree (tree_of a) (setting_trees ss)) ∙ ap (λ (n : ℕ). shapes.subscripts (steps path) + suc n) (count_settings at ss)

pub settings_many : {linked : Bool} {ts : List Tree} {p : Place} {ps : List Slot} {is : List ℕ} {n : ℕ} {ss : Settings} → AreSettings linked ts p ps is n ss → length is ≡ shapes.settings ps
settings_many {linked} {ts} {p} {ps} {is} {n} {ss} h = sym (count_at ts is) ∙ ap count h.trees ∙ count_settings p ss ∙ ap (λ (ps : List Slot). shapes.settings ps) h.paths
