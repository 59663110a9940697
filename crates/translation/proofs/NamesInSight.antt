-- Which names may be used outside an algorithm and in it: constants, definitions, `self`, names of standard modules, and globals; and those that a definition outside reads.
use Rattle.std.proofs.Common.{◌≡◌, ℕ, List, [], ◌∷◌, ◌++◌, Bool, true, false, not, ◌||◌, ◌&&◌, ◌⊎◌, cond, bytes_eq, codes, map, reverse, nat_le, Option, Some, None, inl, inr, refl, sym, ap, subst, ◌∙◌}
use Rattle.std.specs.List.{flat_map, AllByRecursion}
use Rattle.std.proofs.lemmas.Bool.{and_parts, or_left, or_right}
use Rattle.std.proofs.lemmas.Slice.Eq.{bytes_eq-Decides}
use Rattle.tla_token.specs.Limits.{deepest_definition}
use Rattle.tla_token.specs.Signs.{is_among}
use Rattle.tla_token.specs.Words.{standard_names}
use Rattle.tla_tree.specs.Lexical.{Token}
use Rattle.tla_tree.specs.Tree.{Word, Name, words, Form, name, Tree, node, Trees, no_trees, tree, seen_names}
use Rattle.tla_value.specs.Definitions.{Definition}
use Rattle.tla_value.specs.DefinitionNesting.{definition_nests, depths}
use Rattle.tla_value.specs.Outside.{Outside, ReadDefinition, found}
use Rattle.tla_value.specs.StandardModules.{StandardName, standard_table, standard_in, extends_one, is_member, is_last}
use Rattle.tla_value.specs.laws.FreeNames.{Or, Also, Any, FormReads, FreeNames, FreeInParts}
use Rattle.module_tree.specs.Module.{OutsideUnit, extends, constants, defines, opaque, definitions_of}
use Rattle.module_tree.specs.Outside as read
use Rattle.module_tree.specs.Outside.{AllOutside}
use Rattle.module_tree.specs.Reading.{sight_in}
use Rattle.module_tree.specs.laws.Outsides.{HasOutside}
use Rattle.module_tree.specs.Walk.{Located}
use Rattle.module_tree.specs.FileParts.{before_spot, after_spot}
use Rattle.module_tree.specs.FileUnits.{units_in}
use Rattle.pcal_tree.specs.Algorithm as tree
use Rattle.pcal_tree.specs.Algorithm.{Algorithm}
use Rattle.pcal_tree.specs.NameUses.{variable, standard, Known, Sight, knowing, plain, hidden_name, known_standard, seeing_plain, seeing_variables, use_of}
use Rattle.pcal_tree.specs.OffencesNames.{in_whole, in_definitions, always_known, defined_inside, defined_outside, sight_outside, sight_inside}
use Rattle.pcal_tree.specs.Processes.{OneOf}
use Rattle.pcal_tree.specs.Program.{inner}
use Rattle.pcal_tree.specs.Variables.{declared}
use Rattle.pcal_tree.proofs.CallsFine.{Usable, Sees, in_also, parts_seen, among_also}
use Rattle.pcal_tree.proofs.ClearLabels.{both_none}
use Rattle.pcal_tree.proofs.RoutineNames.{one_either}
use Rattle.action_builder.specs.laws.WrittenScope.{AllRead}
use Rattle.pcal_tree.proofs.StepVariables.{one_reverse}

-- ---- lists

one_word : (x : Word) (ns : List Name) → OneOf x (words ns) → is_among (words ns) x ≡ true
one_word x [] h = absurd h
one_word x (n ∷ ns) (inl e) = or_left (bytes_eq n.word x) (is_among (words ns) x) ((bytes_eq-Decides n.word x).1 (sym e))
one_word x (n ∷ ns) (inr h) = or_right (bytes_eq n.word x) (is_among (words ns) x) (one_word x ns h)

-- ---- what may be used

pub sees_map : {A : Type 0} (f : A → Known) (N : Word → Type 0) (xs : List A) (s : Sight) → ((a : A) → OneOf a xs → Usable (Some (f a).use_as) → N (f a).word) → Sees s N → Sees (map f xs ++ s) N
sees_map f N [] s h k y u = k y u
sees_map f N (a ∷ xs) s h k y u = by (bytes_eq (f a).word y) refl u (sees_map f N xs s (λ b m. h b (inr m)) k y)
  where
    by : (b : Bool) → bytes_eq (f a).word y ≡ b → Usable (cond b (Some (f a).use_as) (use_of (map f xs ++ s) y)) → (Usable (use_of (map f xs ++ s) y) → N y) → N y
    by true q v g = subst N ((bytes_eq-Decides (f a).word y).0 q) (h a (inl refl) v)
    by false q v g = g v

sees_table : (N : Word → Type 0) (e : List Word) (ds : List StandardName) → ((d : StandardName) → OneOf d ds → N d.title) → Sees (map (known_standard e) ds) N
sees_table N e [] h y u = absurd u
sees_table N e (d ∷ ds) h y u = by (bytes_eq d.title y) refl u (sees_table N e ds (λ b m. h b (inr m)) y)
  where
    by : (b : Bool) → bytes_eq d.title y ≡ b → Usable (cond b (Some (standard d (extends_one e d.modules))) (use_of (map (known_standard e) ds) y)) → (Usable (use_of (map (known_standard e) ds) y) → N y) → N y
    by true q v g = subst N ((bytes_eq-Decides d.title y).0 q) (h d (inl refl))
    by false q v g = g v

-- names that may be used outside an algorithm have N
pub record UsedOutside (o : Outside) (N : Word → Type 0) : Type 0 where
  pub constants : (x : Word) → is_among (words o.constants) x ≡ true → N x
  pub definitions : (d : ReadDefinition) → OneOf d o.definitions → N d.definition.title
  pub self : N (codes "self")
  pub standard : (x : Word) → is_among standard_names x ≡ true → N x

pub table_standard : (d : StandardName) → OneOf d standard_table → is_among standard_names d.title ≡ true
table_standard d k = every standard_table (refl, (refl, (refl, (refl, (refl, (refl, (refl, (refl, (refl, (refl, (refl, (refl, tt)))))))))))) k
  where
    every : (ds : List StandardName) → AllByRecursion (λ (c : StandardName). is_among standard_names c.title ≡ true) ds → OneOf d ds → is_among standard_names d.title ≡ true
    every [] h k = absurd k
    every (c ∷ cs) h (inl e) = subst (λ (b : StandardName). is_among standard_names b.title ≡ true) (sym e) h.0
    every (c ∷ cs) h (inr k) = every cs h.1 k

module _ (o : Outside) (N : Word → Type 0) (h : UsedOutside o N) where
  hidden : (xs : List Word) (s : Sight) → Sees s N → Sees (map hidden_name xs ++ s) N
  hidden xs s k = sees_map hidden_name N xs s (λ x m u. absurd u) k

  pub sees_outside : Sees (sight_outside o) N
  sees_outside =
      hidden (flat_map (λ u. u.names) o.opaque) _
      (sees_map plain N (words o.constants) _ (λ x m u. h.constants x (one_word x o.constants m))
      (sees_map defined_outside N (reverse o.definitions) (always_known o.extended) (λ d m u. h.definitions d (one_reverse d o.definitions m))
      (sees_map plain N (codes "self" ∷ []) (map (known_standard o.extended) standard_table) (λ x m u. itself x m)
      (sees_table N o.extended standard_table (λ d m. h.standard d.title (table_standard d m))))))
    where
      itself : (x : Word) → OneOf x (codes "self" ∷ []) → N x
      itself x (inl e) = subst N (sym e) h.self
      itself x (inr k) = absurd k

  module _ (a : Algorithm) (globals : (x : Word) → OneOf x (declared a.globals) → N x) (defined : (d : tree.Definition) → OneOf d a.definitions → N d.name.word) where
    sees_globals : Sees (seeing_variables (declared a.globals) (sight_outside o)) N
    sees_globals = sees_map (knowing variable) N (declared a.globals) (sight_outside o) (λ x m u. globals x m) sees_outside

    pub sees_inside : Sees (sight_inside a o) N
    sees_inside = sees_map defined_inside N (reverse a.definitions) (seeing_variables (declared a.globals) (sight_outside o)) (λ d m u. defined d (one_reverse d a.definitions m)) sees_globals

    definitions_read : (ds : List tree.Definition) (s : Sight) → ((d : tree.Definition) → OneOf d ds → N d.name.word) → Sees s N → in_definitions ds s ≡ []
        → AllRead N (map inner ds)
    definitions_read [] s m k e = tt
    definitions_read (d ∷ ds) s m k e =
        let p = both_none (in_whole d.body (seeing_plain (words d.params) s)) (in_definitions ds (defined_inside d ∷ s)) e in (
          (parts_seen (words d.params ∷ []) false (tree d.body no_trees) s N k (ap (λ rs. rs ++ []) p.0)).0,
          definitions_read ds (defined_inside d ∷ s) (λ c q. m c (inr q)) (sees_map defined_inside N (d ∷ []) s (λ c q u. one c q) k) p.1,
        )
      where
        one : (c : tree.Definition) → OneOf c (d ∷ []) → N c.name.word
        one c (inl q) = subst (λ (b : tree.Definition). N b.name.word) (sym q) (m d (inl refl))
        one c (inr q) = absurd q

    -- so a definition of the algorithm reads only these
    pub inner_read : in_definitions a.definitions (seeing_variables (declared a.globals) (sight_outside o)) ≡ [] → AllRead N (map inner a.definitions)
    inner_read e = definitions_read a.definitions (seeing_variables (declared a.globals) (sight_outside o)) defined sees_globals e

-- ---- definitions outside

-- a name that a tree outside may read
abbrev pub may_read : read.Sight → Bool → Word → Bool
may_read v inf x = is_among v.constants x || (read.is_arity (read.arity v.earlier x) 0 || read.has_standard v inf x 0)

abbrev Readable : read.Sight → (Word → Type 0) → Type 0
Readable v N = (inf : Bool) (x : Word) → may_read v inf x ≡ true → N x

form_free : (v : read.Sight) (N : Word → Type 0) (bs : List Word) → ((y : Word) → is_among bs y ≡ true → N y) → Readable v N → (inf : Bool) (m : Form) (n : ℕ) → read.form_reads v bs inf m n ≡ true → FormReads N Any m
form_free v N bs b r inf (name x) n e = by (is_among bs x) refl e
  where
    by : (c : Bool) → is_among bs x ≡ c → (c || (is_among v.constants x || (read.is_arity (read.arity v.earlier x) 0 || read.has_standard v inf x 0))) ≡ true → N x
    by true q k = b x q
    by false q k = r inf x k
form_free v N bs b r inf m n e = tt

also_bound : (N : Word → Type 0) (xs bs : List Word) → ((y : Word) → is_among bs y ≡ true → N y) → (y : Word) → is_among (xs ++ bs) y ≡ true → Also xs N y
also_bound N [] bs b y e = b y e
also_bound N (x ∷ xs) bs b y e = by (bytes_eq x y) refl e (also_bound (Or x N) xs bs (λ z m. inr (b z m)) y)
  where
    by : (c : Bool) → bytes_eq x y ≡ c → (c || is_among (xs ++ bs) y) ≡ true → (is_among (xs ++ bs) y ≡ true → Also xs (Or x N) y) → Also xs (Or x N) y
    by true q k f = in_also (Or x N) xs y (inl ((bytes_eq-Decides x y).0 q))
    by false q k f = f k

mutual
  tree_free : (v : read.Sight) (N : Word → Type 0) (bs : List Word) → ((y : Word) → is_among bs y ≡ true → N y) → Readable v N → (inf : Bool) (t : Tree) → read.tree_reads v bs inf t ≡ true → FreeNames N Any t
  tree_free v N bs b r inf (node m at ts) e =
      let k = and_parts (read.form_reads v bs inf m (read.count ts)) (read.trees_read v bs (seen_names m) (is_member m) ts) e in
      (form_free v N bs b r inf m (read.count ts) k.0, trees_free v N bs b r (seen_names m) (is_member m) ts k.1)

  trees_free : (v : read.Sight) (N : Word → Type 0) (bs : List Word) → ((y : Word) → is_among bs y ≡ true → N y) → Readable v N → (names : List (List Word)) (inf : Bool) (ts : Trees) → read.trees_read v bs names inf ts ≡ true → FreeInParts N Any names ts
  trees_free v N bs b r names inf no_trees e = tt
  trees_free v N bs b r [] inf (tree t ts) e =
      let k = and_parts (read.tree_reads v bs (inf && is_last ts) t) (read.trees_read v bs [] inf ts) e in
      (tree_free v N bs b r (inf && is_last ts) t k.0, trees_free v N bs b r [] inf ts k.1)
  trees_free v N bs b r (xs ∷ names) inf (tree t ts) e =
      let k = and_parts (read.tree_reads v (xs ++ bs) (inf && is_last ts) t) (read.trees_read v bs names inf ts) e in
      (tree_free v (Also xs N) (xs ++ bs) (also_bound N xs bs b) (λ i x m. in_also N xs x (r i x m)) (inf && is_last ts) t k.0, trees_free v N bs b r names inf ts k.1)

definition_free : (v : read.Sight) (N : Word → Type 0) → Readable v N → (d : Definition) → read.definition_reads v d ≡ true → FreeNames (Also d.params N) Any d.body
definition_free v N r d e =
    let j = and_parts (not (is_among v.constants d.title)) _ e in
    let k = and_parts (read.are_fresh v [] d.params) _ j.1 in
    let l = and_parts (read.tree_reads v d.params false d.body) (nat_le (definition_nests (depths [] v.earlier) d) deepest_definition) k.1 in
    tree_free v (Also d.params N) d.params (λ y m. among_also N d.params y m) (λ i x m. in_also N d.params x (r i x m)) false d.body l.0

-- a definition that is found by its name
pub found_one : (ds : List Definition) (x : Word) (n : ℕ) → read.is_arity (read.arity ds x) n ≡ true → (d : Definition) × OneOf d ds × (d.title ≡ x)
found_one [] x n e = cc
found_one (d ∷ ds) x n e = by (read.arity ds x) refl (bytes_eq d.title x) refl e (found_one ds x n)
  where
    by : (k : Option ℕ) → read.arity ds x ≡ k → (b : Bool) → bytes_eq d.title x ≡ b → read.is_arity (read.arity (d ∷ ds) x) n ≡ true
        → (read.is_arity (read.arity ds x) n ≡ true → (c : Definition) × OneOf c ds × (c.title ≡ x)) → (c : Definition) × OneOf c (d ∷ ds) × (c.title ≡ x)
    by (Some k) p b q e f =
        let r : read.is_arity (Some k) n ≡ true = rw p at e in
        let g = f (ap (λ o. read.is_arity o n) p ∙ r) in
        (g.0, inr g.1, g.2)
    by None p true q e f = (d, inl refl, (bytes_eq-Decides d.title x).0 q)
    by None p false q e f =
        let r : false ≡ true = rw q at (rw p at e) in
        absurd (never r)
      where
        never : false ≡ true → ⊥
        never k = cc

pub standard_found : (v : read.Sight) (inf : Bool) (n : ℕ) (ds : List StandardName) (x : Word) → ((d : StandardName) → OneOf d ds → is_among standard_names d.title ≡ true) → read.standard_reads v inf (standard_in ds x) n ≡ true → is_among standard_names x ≡ true
standard_found v inf n [] x h e = cc
standard_found v inf n (d ∷ ds) x h e = by (bytes_eq d.title x) refl e (standard_found v inf n ds x (λ c k. h c (inr k)))
  where
    by : (b : Bool) → bytes_eq d.title x ≡ b → read.standard_reads v inf (cond b (Some d) (standard_in ds x)) n ≡ true → (read.standard_reads v inf (standard_in ds x) n ≡ true → is_among standard_names x ≡ true) → is_among standard_names x ≡ true
    by true q k f = subst (λ y. is_among standard_names y ≡ true) ((bytes_eq-Decides d.title x).0 q) (h d (inl refl))
    by false q k f = f k

readable : (v : read.Sight) (N : Word → Type 0) → ((x : Word) → is_among v.constants x ≡ true → N x) → ((d : Definition) → OneOf d v.earlier → N d.title) → ((x : Word) → is_among standard_names x ≡ true → N x) → Readable v N
readable v N c d s inf x e = by (is_among v.constants x) refl e
  where
    by_arity : (b : Bool) → read.is_arity (read.arity v.earlier x) 0 ≡ b → (b || read.has_standard v inf x 0) ≡ true → N x
    by_arity true q k = (let f = found_one v.earlier x 0 q in subst N f.2 (d f.0 f.1))
    by_arity false q k = s x (standard_found v inf 0 standard_table x table_standard k)

    by : (b : Bool) → is_among v.constants x ≡ b → (b || (read.is_arity (read.arity v.earlier x) 0 || read.has_standard v inf x 0)) ≡ true → N x
    by true q k = c x q
    by false q k = by_arity (read.is_arity (read.arity v.earlier x) 0) refl k

pub more_none : (N : Word → Type 0) (ds : List Definition) → ((d : Definition) → OneOf d ds → N d.title) → (d : Definition) → OneOf d (ds ++ []) → N d.title
more_none N ds e d k = by (one_either d ds [] k)
  where
    by : OneOf d ds ⊎ OneOf d [] → N d.title
    by (inl m) = e d m
    by (inr m) = absurd m

-- each definition reads what is before it
units_read : (N : Word → Type 0) → ((x : Word) → is_among standard_names x ≡ true → N x) → (b : Bool) (v : read.Sight) (tss : List (List Token)) (us : List OutsideUnit) → AllOutside b v tss us
    → ((x : Word) → is_among v.constants x ≡ true → N x) → ((d : Definition) → OneOf d v.earlier → N d.title) → ((d : ReadDefinition) → OneOf d (flat_map definitions_of us) → N d.definition.title)
    → AllRead N (found (flat_map definitions_of us))
units_read N s b v [] [] h c e t = tt
units_read N s b v [] (u ∷ us) h c e t = absurd h
units_read N s b v (ts ∷ tss) [] h c e t = absurd h
units_read N s b v (ts ∷ tss) (extends ms ∷ us) h c e t = units_read N s b (record v { earlier = v.earlier ++ [] }) tss us h.1 c (more_none N v.earlier e) t
units_read N s b v (ts ∷ tss) (constants xs ∷ us) h c e t = units_read N s b (record v { earlier = v.earlier ++ [] }) tss us h.1 c (more_none N v.earlier e) t
units_read N s b v (ts ∷ tss) (opaque q ∷ us) h c e t = units_read N s b (record v { earlier = v.earlier ++ [] }) tss us h.1 c (more_none N v.earlier e) t
units_read N s b v (ts ∷ tss) (defines d ∷ us) h c e t = (
  definition_free v N (readable v N c e s) d.definition h.0.1.reads,
  units_read N s b (record v { earlier = v.earlier ++ (d.definition ∷ []) }) tss us h.1 c (λ x k. by x (one_either x v.earlier (d.definition ∷ []) k)) (λ x k. t x (inr k)),
)
  where
    by : (x : Definition) → OneOf x v.earlier ⊎ OneOf x (d.definition ∷ []) → N x.title
    by x (inl k) = e x k
    by x (inr (inl q)) = subst (λ (y : Definition). N y.title) (sym q) (t d (inl refl))
    by x (inr (inr k)) = absurd k

pub read_joined : (N : Word → Type 0) (ds es : List Definition) → AllRead N ds → AllRead N es → AllRead N (ds ++ es)
read_joined N [] es h k = k
read_joined N (d ∷ ds) es h k = (h.0, read_joined N ds es h.1 k)

found_joined : (N : Word → Type 0) (us ys : List OutsideUnit) → AllRead N (found (flat_map definitions_of us)) → AllRead N (found (flat_map definitions_of ys)) → AllRead N (found (flat_map definitions_of (us ++ ys)))
found_joined N [] ys h k = k
found_joined N (extends ms ∷ us) ys h k = found_joined N us ys h k
found_joined N (constants xs ∷ us) ys h k = found_joined N us ys h k
found_joined N (opaque q ∷ us) ys h k = found_joined N us ys h k
found_joined N (defines d ∷ us) ys h k = (h.0, found_joined N us ys h.1 k)

pub one_before : (d : ReadDefinition) (us ys : List OutsideUnit) → OneOf d (flat_map definitions_of us) ⊎ OneOf d (flat_map definitions_of ys) → OneOf d (flat_map definitions_of (us ++ ys))
one_before d [] ys (inl k) = absurd k
one_before d [] ys (inr k) = k
one_before d (extends ms ∷ us) ys h = one_before d us ys h
one_before d (constants xs ∷ us) ys h = one_before d us ys h
one_before d (opaque q ∷ us) ys h = one_before d us ys h
one_before d (defines c ∷ us) ys (inl (inl e)) = inl e
one_before d (defines c ∷ us) ys (inl (inr k)) = inr (one_before d us ys (inl k))
one_before d (defines c ∷ us) ys (inr k) = inr (one_before d us ys (inr k))

-- definitions outside read only names that may be used there
pub outside_read : (ds : List Located) (o : Outside) (N : Word → Type 0) → HasOutside ds o → UsedOutside o N → AllRead N (found o.definitions)
outside_read ds o N h u =
    let titles : (d : ReadDefinition) → OneOf d (flat_map definitions_of (h.before ++ h.after)) → N d.definition.title = λ d k. u.definitions d (subst (λ (q : Outside). OneOf d q.definitions) (sym h.is) k) in
    subst (λ (q : Outside). AllRead N (found q.definitions)) (sym h.is)
    (found_joined N h.before h.after
    (units_read N u.standard true (sight_in o) (units_in (before_spot ds)).units h.before h.are_before u.constants (λ d k. absurd k) (λ d k. titles d (one_before d h.before h.after (inl k))))
    (units_read N u.standard false (sight_in o) (units_in (after_spot ds)).units h.after h.are_after u.constants (λ d k. absurd k) (λ d k. titles d (one_before d h.before h.after (inr k)))))
