-- The names of an accepted algorithm are such as the steps of its routines ask for.
use Rattle.std.proofs.Common.{◌≡◌, List, [], ◌∷◌, ◌++◌, reverse, Bool, true, false, ◌||◌, cond, bytes_eq, map, filter, inl, inr, refl, sym, ap, ◌∙◌}
use Rattle.std.proofs.lemmas.Bool.{or_left, or_right}
use Rattle.std.proofs.lemmas.Slice.Eq.{bytes_eq-Decides}
use Rattle.tla_token.specs.Signs.{is_among}
use Rattle.tla_token.specs.Words.{is_own, is_standard}
use Rattle.tla_tree.specs.Tree.{Word, words}
use Rattle.tla_value.specs.Definitions.{Valuation}
use Rattle.tla_value.specs.Outside.{Outside}
use Rattle.tla_value.specs.Stops.{plain}
use Rattle.module_tree.specs.Formulas.{self}
use Rattle.pcal_tree.specs.Algorithm.{Definition, declares, Routine, locals, routines, Algorithm}
use Rattle.pcal_tree.specs.OffencesRebind.{in_scope, standing_inside}
use Rattle.pcal_tree.specs.Outside.{unit_names}
use Rattle.pcal_tree.specs.Processes.{OneOf}
use Rattle.pcal_tree.specs.Program.{Program, Actor, written}
use Rattle.pcal_tree.specs.Programs.{program_in}
use Rattle.pcal_tree.specs.Reads.{used, through, among_looked_at, readings, readings_of}
use Rattle.pcal_tree.specs.Variables.{vars, declared, pc, stack}
use Rattle.action_builder.specs.Written.{old_stack}
use Rattle.action_builder.specs.laws.WrittenScope.{NamesApart}
use Rattle.translation.specs.laws.AcceptedAlgorithm.{IsAcceptedInFile}
use Rattle.translation.specs.laws.AcceptedLaws.{extra_of}
use Rattle.translation.specs.laws.StepNames.{name_of, Unused, StepNames, Unlikes}
use Rattle.translation.specs.laws.WritableAlgorithm.{is_variable}
use Rattle.translation.proofs.FramesAccepted.{pc_among}
use Rattle.translation.proofs.MacrosSound.{in_named, in_rest}
use Rattle.translation.proofs.NamedBodies.{among_one}
use Rattle.translation.proofs.NamesApart.{own_differs, false_among, never, writable, free, outer, kept_differs}
use Rattle.translation.proofs.NamesGiven.{Bound, bound_kept}
use Rattle.translation.proofs.NamesOfRules.{Unreserved, not_own, turned}
use Rattle.translation.proofs.RoutinesNamed.{variables_named, names_fit, local_free, among_before, one_each_of}
use Rattle.translation.proofs.VariableNames.{none_among, each_from, vars_each, one_is_among}
use Rattle.pcal_tree.proofs.StepVariables.{one_reverse}

-- no definition of the name, so it reads nothing as one
pub through_none : (gs : List Word) (ds : List Definition) (x : Word) → ((d : Definition) → OneOf d ds → bytes_eq d.name.word x ≡ false) → through (readings gs ds) x ≡ []
through_none gs [] x h = refl
through_none gs (d ∷ older) x h =
    ap (λ (b : Bool). cond b (filter (among_looked_at (readings gs older) (used d.body (words d.params))) gs) (through (readings gs older) x)) (h d (inl refl)) ∙ through_none gs older x (λ e m. h e (inr m))

pub unused_of : (a : Algorithm) (x : Word) → ((d : Definition) → OneOf d a.definitions → bytes_eq d.name.word x ≡ false) → through (readings_of a) x ≡ []
unused_of a x h = through_none (declared a.globals) (reverse a.definitions) x (λ d m. h d (one_reverse d a.definitions m))

among_title : (ds : List Definition) (d : Definition) (x : Word) → OneOf d ds → bytes_eq d.name.word x ≡ true → is_among (map (λ (e : Definition). e.name.word) ds) x ≡ true
among_title [] d x m e = absurd m
among_title (c ∷ cs) d x (inl q) e = or_left (bytes_eq c.name.word x) (is_among (map (λ (b : Definition). b.name.word) cs) x) (ap (λ (b : Definition). bytes_eq b.name.word x) (sym q) ∙ e)
among_title (c ∷ cs) d x (inr m) e = or_right (bytes_eq c.name.word x) (is_among (map (λ (b : Definition). b.name.word) cs) x) (among_title cs d x m e)

module _ (o : Outside) (a : Algorithm) (h : IsAcceptedInFile o a) (values : Valuation) where
  abbrev P : Program
  P = program_in plain o a values

  -- a name that is bound where no variable or definition has it
  pub record BoundName (x : Word) : Type 0 where
    pub bound : Bound o a h values x
    pub outside : in_scope (standing_inside a o) x ≡ false
    pub new : bytes_eq old_stack x ≡ false

  -- ---- what is in scope

  pub global_scope : (x : Word) → declares a.globals x ≡ true → in_scope (standing_inside a o) x ≡ true
  global_scope x e =
      in_rest (map (λ (d : Definition). d.name.word) a.definitions) _ x
      (in_named (declared a.globals ++ unit_names o) [] x (among_before (declared a.globals) (unit_names o) x e))

  pub title_scope : (d : Definition) → OneOf d a.definitions → (x : Word) → bytes_eq d.name.word x ≡ true → in_scope (standing_inside a o) x ≡ true
  title_scope d m x e = in_named (map (λ (b : Definition). b.name.word) a.definitions) _ x (among_title a.definitions d x m e)

  pub outside_unused : (x : Word) → in_scope (standing_inside a o) x ≡ false → Unused P x
  outside_unused x e = unused_of a x (λ d m. false_among (bytes_eq d.name.word x) (λ q. never (sym (title_scope d m x q) ∙ e)))

  -- ---- names of the translation

  pub reserved_unused : (x : Word) → (is_own x || is_standard o.extended x) ≡ true → Unused P x
  reserved_unused x e =
      unused_of a x (λ d m. false_among (bytes_eq d.name.word x)
      (λ q. never (sym e ∙ (ap (λ w. is_own w || is_standard o.extended w) (sym ((bytes_eq-Decides d.name.word x).0 q)) ∙ (free o a h).definitions d m))))

  pub own_global : (x : Word) → is_own x ≡ true → declares a.globals x ≡ false
  own_global x e = none_among (declared a.globals) x (each_from (λ y. bytes_eq y x ≡ false) (declared a.globals) (λ y m. turned x y (own_differs x y e (not_own o y (one_each_of (Unreserved o) (declared a.globals) (free o a h).globals y m)))))

  pub own_apart : (u : Routine) → OneOf u (routines a) → (w : Word) → is_own w ≡ true → (x : Word) → is_variable a u x ≡ true → name_of P u x ≡ w → ⊥
  own_apart u k w e x v q = by (declares (locals u) x) refl v q
    where
      one : (b : Bool) → (b || false) ≡ true → b ≡ true
      one true z = refl
      one false z = z

      by : (b : Bool) → declares (locals u) x ≡ b → (declares a.globals x || b) ≡ true → cond b (written P u x) x ≡ w → ⊥
      by true m z s = never (sym (ap is_own s ∙ e) ∙ (local_free o a (writable o a h) u x k (among_one (declared (locals u)) x m)).1)
      by false m z s = never (sym (one (declares a.globals x) z) ∙ (ap (declares a.globals) s ∙ own_global w e))

  bound_free : (x : Word) → BoundName x → is_among (vars P) x ≡ false
  bound_free x n =
      none_among (vars P) x
      (vars_each P (λ y. bytes_eq y x ≡ false)
      (each_from (λ y. bytes_eq y x ≡ false) (declared a.globals) (λ y m. false_among (bytes_eq y x) (λ q. never (sym (global_scope x (sym (ap (declares a.globals) ((bytes_eq-Decides y x).0 q)) ∙ one_is_among (declared a.globals) y m)) ∙ n.outside))))
      (own_differs pc x refl (not_own o x n.bound.1)) (own_differs stack x refl (not_own o x n.bound.1))
      (λ u k y m. turned x (written P u y) (kept_differs o a h values u y k m x (bound_kept o a h values x n.bound.0))))

  -- ---- of a routine

  pub names_ready : (v : Actor) (u : Routine) → OneOf u (routines a) → NamesApart P (extra_of a) v u → StepNames P u BoundName
  names_ready v u k apart = record {
    global = λ x m. (apart.global x m).0;
    local = apart.local;
    apart = λ x y l m e.
        (bytes_eq-Decides x y).0 ((variables_named o a (writable o a h) u k).apart x y (among_one (declared (locals u)) x l) (among_one (declared (locals u)) y m)
        ((bytes_eq-Decides (written P u x) (written P u y)).1 e));
    new = λ x l. (variables_named o a (writable o a h) u k).new x (among_one (declared (locals u)) x l);
    untitled = λ x m. unused_of a x (outer o a h values x m).defined;
    own = λ x m. (apart.own x m).0;
    self_untitled = reserved_unused self refl;
    self_free = apart.self_free;
    bound = λ x n. (bound_free x n, outside_unused x n.outside, own_differs self x refl (not_own o x n.bound.1), n.new);
    pc_among = pc_among o a h values;
    pc_new = own_global pc refl;
    pc_apart = own_apart u k pc refl;
  }

  pub unlikes : (u : Routine) → OneOf u (routines a) → Unlikes P u
  unlikes u k = (let f = names_fit o a (writable o a h) u k in record { each = f.apart; pc = f.pc; stack = f.stack })
