-- Definitions outside an algorithm read nothing that a step assigns, and no definition of the algorithm.
use Rattle.std.proofs.Common.{◌≡◌, ℕ, List, [], ◌∷◌, ◌++◌, Bool, true, false, not, ◌||◌, ◌&&◌, ◌⊎◌, bytes_eq, map, nat_le, inl, inr, refl, sym, ap, subst, ◌∙◌}
use Rattle.std.specs.List.{flat_map, list_any}
use Rattle.std.proofs.lemmas.Bool.{and_parts}
use Rattle.std.proofs.lemmas.Slice.Eq.{bytes_eq-Decides}
use Rattle.tla_token.specs.Limits.{deepest_definition}
use Rattle.tla_token.specs.Signs.{is_among}
use Rattle.tla_token.specs.Words.{standard_names}
use Rattle.tla_tree.specs.Lexical.{Token}
use Rattle.tla_tree.specs.Tree.{Word, words, Form, name, operator_call, Tree, node, Trees, no_trees, tree, Each, seen_names}
use Rattle.tla_value.specs.Definitions.{Valuation, Definition}
use Rattle.tla_value.specs.DefinitionNesting.{definition_nests, depths}
use Rattle.tla_value.specs.Outside.{Outside, ReadDefinition, found}
use Rattle.tla_value.specs.StandardModules.{standard_table, is_member, is_last}
use Rattle.tla_value.specs.Stops.{plain}
use Rattle.tla_value.specs.laws.FreeNames.{Also, Any, FormReads, FreeNames, FreeInParts}
use Rattle.tla_value.specs.laws.Grafting.{In, OutOf, AllSettled}
use Rattle.tla_value.specs.laws.Untitled.{Untitled}
use Rattle.tla_value.proofs.FreeNames.{also_any}
use Rattle.module_tree.specs.Formulas.{self}
use Rattle.module_tree.specs.Module.{OutsideUnit, extends, constants, defines, opaque, definitions_of}
use Rattle.module_tree.specs.Outside as read
use Rattle.module_tree.specs.Outside.{AllOutside}
use Rattle.module_tree.specs.Reading.{sight_in}
use Rattle.module_tree.specs.laws.Outsides.{HasOutside}
use Rattle.module_tree.specs.Walk.{Located, walk}
use Rattle.module_tree.specs.FileParts.{before_spot, after_spot}
use Rattle.module_tree.specs.FileUnits.{units_in}
use Rattle.pcal_tree.specs.Algorithm as tree
use Rattle.pcal_tree.specs.Algorithm.{declares, Algorithm}
use Rattle.pcal_tree.specs.OffencesNames.{names_of, kept_names, repeated}
use Rattle.pcal_tree.specs.Outside.{unit_names}
use Rattle.pcal_tree.specs.Processes.{OneOf}
use Rattle.pcal_tree.specs.Program.{Program}
use Rattle.pcal_tree.specs.Programs.{program_in}
use Rattle.pcal_tree.specs.Variables.{vars}
use Rattle.pcal_tree.proofs.ClearLabels.{both_none}
use Rattle.pcal_tree.proofs.RoutineNames.{one_either}
use Rattle.action_builder.specs.Assigned.{Names}
use Rattle.action_builder.specs.laws.Ready.{IsWithin}
use Rattle.action_builder.specs.laws.WrittenScope.{AllRead}
use Rattle.translation.specs.laws.AcceptedAlgorithm.{IsAcceptedInFile}
use Rattle.translation.specs.laws.FreshReads.{readable}
use Rattle.translation.specs.laws.StepNames.{Unused}
use Rattle.translation.proofs.AcceptedNames.{apart_from}
use Rattle.translation.proofs.NamesApart.{Outer, own_differs, false_among, never, no_standard, mapped_among, free, outer, self_no_variable}
use Rattle.translation.proofs.NamesInSight.{UsedOutside, found_one, standard_found, more_none, one_before, table_standard, outside_read}
use Rattle.translation.proofs.NamesOfRules.{turned, not_own, not_standard, rules_of_names, split}
use Rattle.translation.proofs.ReadyNames.{unused_of}
use Rattle.translation.proofs.RoutinesNamed.{among_later, among_before}
use Rattle.pcal_tree.proofs.GraftsRead.{tree_wider, also_weaker}

-- ---- names and operators together

mutual
  pub free_both : (N K M : Word → Type 0) (t : Tree) → FreeNames N Any t → FreeNames K M t → FreeNames N M t
  free_both N K M (node m at ts) h k = (form_both m h.0 k.0, parts_both N K M (seen_names m) ts h.1 k.1)
    where
      form_both : (m : Form) → FormReads N Any m → FormReads K M m → FormReads N M m
      form_both (name x) n e = n
      form_both (operator_call f) n e = e
      form_both _ n e = tt

  pub parts_both : (N K M : Word → Type 0) (names : List (List Word)) (ts : Trees) → FreeInParts N Any names ts → FreeInParts K M names ts → FreeInParts N M names ts
  parts_both N K M names no_trees h k = tt
  parts_both N K M [] (tree t ts) h k = (free_both N K M t h.0 k.0, parts_both N K M [] ts h.1 k.1)
  parts_both N K M (xs ∷ names) (tree t ts) h k = (free_both (Also xs N) (Also xs K) M t h.0 k.0, parts_both N K M names ts h.1 k.1)

mutual
  pub operators_wider : (N M M' : Word → Type 0) → ((y : Word) → M y → M' y) → (t : Tree) → FreeNames N M t → FreeNames N M' t
  operators_wider N M M' f (node m at ts) h = (form_operator m h.0, parts_operators N M M' f (seen_names m) ts h.1)
    where
      form_operator : (m : Form) → FormReads N M m → FormReads N M' m
      form_operator (name x) k = k
      form_operator (operator_call x) k = f x k
      form_operator _ k = tt

  parts_operators : (N M M' : Word → Type 0) → ((y : Word) → M y → M' y) → (names : List (List Word)) (ts : Trees) → FreeInParts N M names ts → FreeInParts N M' names ts
  parts_operators N M M' f names no_trees h = tt
  parts_operators N M M' f [] (tree t ts) h = (operators_wider N M M' f t h.0, parts_operators N M M' f [] ts h.1)
  parts_operators N M M' f (xs ∷ names) (tree t ts) h = (operators_wider (Also xs N) M M' f t h.0, parts_operators N M M' f names ts h.1)

-- ---- the operators of a definition outside

abbrev Operators : read.Sight → (Word → Type 0) → Type 0
Operators v M = (inf : Bool) (f : Word) (n : ℕ) → (read.is_arity (read.arity v.earlier f) n || read.has_standard v inf f n) ≡ true → M f

module _ (v : read.Sight) (M : Word → Type 0) (r : Operators v M) where
  form_operators : (K : Word → Type 0) → ((y : Word) → K y) → (bs : List Word) (inf : Bool) (m : Form) (n : ℕ) → read.form_reads v bs inf m n ≡ true → FormReads K M m
  form_operators K k bs inf (name x) n e = k x
  form_operators K k bs inf (operator_call f) n e = r inf f n e
  form_operators K k bs inf _ n e = tt

  mutual
    tree_operators : (K : Word → Type 0) → ((y : Word) → K y) → (bs : List Word) (inf : Bool) (t : Tree) → read.tree_reads v bs inf t ≡ true → FreeNames K M t
    tree_operators K k bs inf (node m at ts) e =
        let p = and_parts (read.form_reads v bs inf m (read.count ts)) (read.trees_read v bs (seen_names m) (is_member m) ts) e in
        (form_operators K k bs inf m (read.count ts) p.0, trees_operators K k bs (seen_names m) (is_member m) ts p.1)

    trees_operators : (K : Word → Type 0) → ((y : Word) → K y) → (bs : List Word) (names : List (List Word)) (inf : Bool) (ts : Trees) → read.trees_read v bs names inf ts ≡ true → FreeInParts K M names ts
    trees_operators K k bs names inf no_trees e = tt
    trees_operators K k bs [] inf (tree t ts) e =
        let p = and_parts (read.tree_reads v bs (inf && is_last ts) t) (read.trees_read v bs [] inf ts) e in
        (tree_operators K k bs (inf && is_last ts) t p.0, trees_operators K k bs [] inf ts p.1)
    trees_operators K k bs (xs ∷ names) inf (tree t ts) e =
        let p = and_parts (read.tree_reads v (xs ++ bs) (inf && is_last ts) t) (read.trees_read v bs names inf ts) e in
        (tree_operators (Also xs K) (also_any K k xs) (xs ++ bs) (inf && is_last ts) t p.0, trees_operators K k bs names inf ts p.1)

  body_operators : (d : Definition) → read.definition_reads v d ≡ true → FreeNames Any M d.body
  body_operators d e =
      let i = and_parts (not (is_among v.constants d.title)) _ e in
      let j = and_parts (read.are_fresh v [] d.params) _ i.1 in
      tree_operators Any (λ y. tt) d.params false d.body (and_parts (read.tree_reads v d.params false d.body) (nat_le (definition_nests (depths [] v.earlier) d) deepest_definition) j.1).0

abbrev AllOperators : (Word → Type 0) → List Definition → Type 0
AllOperators M [] = Unit {0}
AllOperators M (d ∷ ds) = FreeNames Any M d.body × AllOperators M ds

operators_of : (v : read.Sight) (M : Word → Type 0) → ((d : Definition) → OneOf d v.earlier → M d.title) → ((x : Word) → is_among standard_names x ≡ true → M x) → Operators v M
operators_of v M d s inf f n e = by (read.is_arity (read.arity v.earlier f) n) refl e
  where
    by : (b : Bool) → read.is_arity (read.arity v.earlier f) n ≡ b → (b || read.has_standard v inf f n) ≡ true → M f
    by true q k = (let c = found_one v.earlier f n q in subst M c.2 (d c.0 c.1))
    by false q k = s f (standard_found v inf n standard_table f table_standard k)

units_operators : (M : Word → Type 0) → ((x : Word) → is_among standard_names x ≡ true → M x) → (b : Bool) (v : read.Sight) (tss : List (List Token)) (us : List OutsideUnit) → AllOutside b v tss us
    → ((d : Definition) → OneOf d v.earlier → M d.title) → ((d : ReadDefinition) → OneOf d (flat_map definitions_of us) → M d.definition.title) → AllOperators M (found (flat_map definitions_of us))
units_operators M s b v [] [] h e t = tt
units_operators M s b v [] (u ∷ us) h e t = absurd h
units_operators M s b v (ts ∷ tss) [] h e t = absurd h
units_operators M s b v (ts ∷ tss) (extends ms ∷ us) h e t = units_operators M s b (record v { earlier = v.earlier ++ [] }) tss us h.1 (more_none M v.earlier e) t
units_operators M s b v (ts ∷ tss) (constants xs ∷ us) h e t = units_operators M s b (record v { earlier = v.earlier ++ [] }) tss us h.1 (more_none M v.earlier e) t
units_operators M s b v (ts ∷ tss) (opaque q ∷ us) h e t = units_operators M s b (record v { earlier = v.earlier ++ [] }) tss us h.1 (more_none M v.earlier e) t
units_operators M s b v (ts ∷ tss) (defines d ∷ us) h e t = (
  body_operators v M (operators_of v M e s) d.definition h.0.1.reads,
  units_operators M s b (record v { earlier = v.earlier ++ (d.definition ∷ []) }) tss us h.1 (λ x k. by x (one_either x v.earlier (d.definition ∷ []) k)) (λ x k. t x (inr k)),
)
  where
    by : (x : Definition) → OneOf x v.earlier ⊎ OneOf x (d.definition ∷ []) → M x.title
    by x (inl k) = e x k
    by x (inr (inl q)) = subst (λ (y : Definition). M y.title) (sym q) (t d (inl refl))
    by x (inr (inr k)) = absurd k

joined_operators : (M : Word → Type 0) (us ys : List OutsideUnit) → AllOperators M (found (flat_map definitions_of us)) → AllOperators M (found (flat_map definitions_of ys)) → AllOperators M (found (flat_map definitions_of (us ++ ys)))
joined_operators M [] ys h k = k
joined_operators M (extends ms ∷ us) ys h k = joined_operators M us ys h k
joined_operators M (constants xs ∷ us) ys h k = joined_operators M us ys h k
joined_operators M (opaque q ∷ us) ys h k = joined_operators M us ys h k
joined_operators M (defines d ∷ us) ys h k = (h.0, joined_operators M us ys h.1 k)

outside_operators : (ds : List Located) (o : Outside) (M : Word → Type 0) → HasOutside ds o → UsedOutside o M → AllOperators M (found o.definitions)
outside_operators ds o M h u =
    let titles : (d : ReadDefinition) → OneOf d (flat_map definitions_of (h.before ++ h.after)) → M d.definition.title = λ d k. u.definitions d (subst (λ (q : Outside). OneOf d q.definitions) (sym h.is) k) in
    subst (λ (q : Outside). AllOperators M (found q.definitions)) (sym h.is)
    (joined_operators M h.before h.after
    (units_operators M u.standard true (sight_in o) (units_in (before_spot ds)).units h.before h.are_before (λ d k. absurd k) (λ d k. titles d (one_before d h.before h.after (inl k))))
    (units_operators M u.standard false (sight_in o) (units_in (after_spot ds)).units h.after h.are_after (λ d k. absurd k) (λ d k. titles d (one_before d h.before h.after (inr k)))))

-- ---- of an accepted algorithm

module _ (o : Outside) (a : Algorithm) (h : IsAcceptedInFile o a) (values : Valuation) where
  abbrev P : Program
  P = program_in plain o a values

  -- no variable, and no definition of the algorithm
  abbrev pub Foreign : Word → Type 0
  Foreign x = (is_among (vars P) x ≡ false) × ((d : tree.Definition) → OneOf d a.definitions → bytes_eq d.name.word x ≡ false)

  no_variable : (x : Word) → (Outer o a x → ⊥) → is_among (vars P) x ≡ false
  no_variable x f = false_among (is_among (vars P) x) (λ q. f (outer o a h values x q))

  title_new : (d : tree.Definition) → OneOf d a.definitions → is_among (unit_names o) d.name.word ≡ false
  title_new d m =
      of_title a.definitions m (split (λ y. is_among (unit_names o) y ≡ false) (names_of a.globals) (map (λ (c : tree.Definition). c.name) a.definitions)
      (apart_from (unit_names o) (kept_names a) (both_none (repeated (unit_names o) (kept_names a)) _ (rules_of_names a o h.accepted.names).1).0)).1
    where
      of_title : (cs : List tree.Definition) → OneOf d cs → Each (λ y. is_among (unit_names o) y ≡ false) (words (map (λ (c : tree.Definition). c.name) cs)) → is_among (unit_names o) d.name.word ≡ false
      of_title [] m e = absurd m
      of_title (c ∷ cs) (inl q) e = subst (λ (b : tree.Definition). is_among (unit_names o) b.name.word ≡ false) (sym q) e.0
      of_title (c ∷ cs) (inr m) e = of_title cs m e.1

  unit_foreign : (x : Word) → is_among (unit_names o) x ≡ true → Foreign x
  unit_foreign x e = (
    no_variable x (λ k. never (sym e ∙ k.unit)),
    (λ d m. false_among (bytes_eq d.name.word x) (λ q. never (sym e ∙ (ap (is_among (unit_names o)) (sym ((bytes_eq-Decides d.name.word x).0 q)) ∙ title_new d m)))),
  )

  pub foreign_outside : UsedOutside o Foreign
  foreign_outside = record {
    constants = λ x e. unit_foreign x (among_before (words o.constants) _ x e);
    definitions = λ d m.
        unit_foreign d.definition.title
        (among_later (words o.constants) _ d.definition.title
        (among_before (map (λ (c : ReadDefinition). c.definition.title) o.definitions) _ d.definition.title (mapped_among (λ (c : ReadDefinition). c.definition.title) o.definitions d m)));
    self = (self_no_variable o a h values, λ d m. turned self d.name.word (own_differs self d.name.word refl (not_own o d.name.word ((free o a h).definitions d m))));
    standard = λ x e. (
      no_variable x (λ k. never (sym e ∙ k.standard)),
      (λ d m. false_among (bytes_eq d.name.word x)
          (λ q. never (sym e ∙ (ap (is_among standard_names) (sym ((bytes_eq-Decides d.name.word x).0 q)) ∙ no_standard o.extended d.name.word (not_standard o d.name.word ((free o a h).definitions d m)))))),
    );
  }

  module _ (A : Names) (w : IsWithin A (is_among (vars P))) where
    out_of : (x : Word) → Foreign x → OutOf A (In (readable a A)) x
    out_of x f = (unused_fresh_of x (unused_of a x f.1), false_among (A x) (λ q. never (sym (w x q) ∙ f.0)))
      where
        unused_fresh_of : (x : Word) → Unused P x → readable a A x ≡ true
        unused_fresh_of x e = ap (λ (ys : List Word). not (list_any A ys)) e

    all_settled : (ds : List Definition) → AllRead Foreign ds → AllOperators Foreign ds → ((x : Word) → is_among (vars P) x ≡ true → Untitled x ds) → AllSettled A (In (readable a A)) ds
    all_settled [] r q t = tt
    all_settled (d ∷ ds) r q t = (
      (λ u. record {
        title = false_among (A d.title) (λ e. never (sym ((bytes_eq-Decides d.title d.title).1 refl) ∙ (t d.title (w d.title e)).0));
        body = free_both _ _ _ d.body (tree_wider (Also d.params Foreign) (Also d.params (OutOf A (In (readable a A)))) Any (also_weaker Foreign (OutOf A (In (readable a A))) out_of d.params) d.body r.0) (operators_wider Any Foreign (In (readable a A)) (λ x f. (out_of x f).0) d.body q.0);
      }),
      all_settled ds r.1 q.1 (λ x e. (t x e).1),
    )

    -- a definition outside that may be read reads nothing that is assigned
    pub outside_settled : ((x : Word) → is_among (vars P) x ≡ true → Untitled x (found o.definitions)) → AllSettled A (In (readable a A)) (found o.definitions)
    outside_settled t = all_settled (found o.definitions) (outside_read (walk h.file) o Foreign h.outside foreign_outside) (outside_operators (walk h.file) o Foreign h.outside foreign_outside) t
