-- Each unit of a translation, as it is written.
use Rattle.std.proofs.Common.{◌≡◌, ℕ, ◌+◌, true, false, List, [], ◌∷◌, ◌++◌, Option, Some, None, map, refl, sym, ap, codes}
use Rattle.std.specs.List.{AllByRecursion}
use Rattle.tla_token.specs.declared.place.Place.{Place}
use Rattle.tla_token.specs.Places.{after}
use Rattle.tla_tree.specs.declared.op.Op.TheVariants as op
use Rattle.tla_tree.specs.Tree.{Word, Tree}
use Rattle.tla_tree.specs.Lexical.{Token}
use Rattle.tla_tree.specs.Lexical as tk
use Rattle.tla_tree.specs.Spelling.{Phrase, Right, Good, spell, tree_of}
use Rattle.tla_tree.specs.Written.{written}
use Rattle.tla_tree.specs.laws.Writable.{IsIdentifier, IsWritable}
use Rattle.tla_tree.specs.laws.InText.{ends_word}
use Rattle.tla_tree.specs.laws.Placeless.{tree_placeless}
use Rattle.tla_value.specs.Definitions.{Definition}
use Rattle.module_tree.specs.Module.{RegionUnit, Way, Fairness, constant_unit, variables_unit, definition_unit, vars_unit, init_unit, next_unit}
use Rattle.module_tree.specs.Grammar.{see, WayForm, spell_way, way_of, GoodWay, spell_bullets, GoodBullets, each}
use Rattle.module_tree.specs.Layout.{unit_text, parameters_text, way_text, ways_text, conjuncts_text, line, fairness_text}
use Rattle.module_tree.specs.Units.{UnitForm, constant_form, variables_form, definition_form, vars_form, init_form, next_form, FairForm, fair_line, spell_spec, GoodSpec, fair_specs, fairness_of, ParameterForm, spell_parameters, parameters, GoodParameters, spell_unit, unit_of, GoodUnit}
use Rattle.module_tree.specs.laws.WritableRegion.{AllOf, AreNames, IsWay, IsFairness, IsDefinition}
use Rattle.module_tree.specs.laws.PlacelessRegion.{way_placeless, fairness_placeless, definition_placeless}
use Rattle.module_tree.proofs.Chunks.{put, Chunk, any, join, at_byte, space, nothing, narrowed, over}
use Rattle.module_tree.proofs.ExprChunks.{expr_at, names_at, names_start}
use Rattle.module_tree.proofs.LineChunks.{line_of, defines_blank, defines_line, close, open_round, and_bullet, or_bullet, after_and, after_or}
use Rattle.module_tree.proofs.ItemChunks.{tuple_at}
use Rattle.module_tree.proofs.CallChunks.{way_at, fair_at}
use Rattle.module_tree.proofs.UnitChunks.{Start, onward, first_line, title_at, constant_word, variables_word, past_title}

-- ---- a unit from line n on, with h processes

pub record UnitAt {A : Type 0} (make : A → RegionUnit) (bare : A → A) (n h : ℕ) (a : A) : Type 0 where
  pub form : UnitForm
  pub good : GoodUnit form
  pub new : A
  pub is : unit_of form ≡ make new
  pub same : bare new ≡ bare a
  pub next : ℕ
  pub start : Start any (put n 1) (unit_text h (make a)) (spell_unit form) (put next 1)

-- ---- names

abbrev pub as_it_is : List Word → List Word
as_it_is xs = xs

pub constant_at : (n h : ℕ) (xs : List Word) → AreNames xs → UnitAt constant_unit as_it_is n h xs
constant_at n h xs v =
    let q = after (put n 1) (codes "CONSTANT ") in
    let x = names_at 0 xs v q refl in
    record {
      form = constant_form (put n 1) x.form;
      good = x.good;
      new = xs;
      is = ap constant_unit x.words;
      same = refl;
      next = x.end.line + 1;
      start = first_line (onward (onward (constant_word n) (space (after (put n 1) (codes "CONSTANT"))) (λ y e. refl)) x.chunk (λ y e. refl)) (λ y. refl);
    }

pub variables_at : (n h : ℕ) (xs : List Word) → AreNames xs → UnitAt variables_unit as_it_is n h xs
variables_at n h xs v =
    let q = after (put n 1) (codes "VARIABLES ") in
    let x = names_at 0 xs v q refl in
    record {
      form = variables_form (put n 1) x.form;
      good = x.good;
      new = xs;
      is = ap variables_unit x.words;
      same = refl;
      next = x.end.line + 1;
      start = first_line (onward (onward (variables_word n) (space (after (put n 1) (codes "VARIABLES"))) (λ y e. refl)) x.chunk (λ y e. refl)) (λ y. refl);
    }

-- ` == ` in a line, and ` ==` at its end
pub defined : (p : Place) → (let q = after p (codes " ") in Chunk any p (codes " == ") (see q (tk.mark tk.defines)) (after q (codes "== ")))
defined p = (let q = after p (codes " ") in join (space p) (join (defines_blank q) (space (after q (codes "=="))) (λ y e. refl)) (λ y e. refl))

pub defined_line : (p : Place) → (let q = after p (codes " ") in Chunk (at_byte 10) p (codes " ==") (see q (tk.mark tk.defines)) (after q (codes "==")))
defined_line p = (let q = after p (codes " ") in join (space p) (defines_line q) (λ y e. refl))

pub vars_at : (n h : ℕ) (xs : List Word) → AreNames xs → UnitAt vars_unit as_it_is n h xs
vars_at n h xs v =
    let p = put n 1 in
    let e = after p (codes "vars") in
    let s = after p (codes "vars == ") in
    let x = names_at 0 xs v (after s (codes "<<")) (over 1 s (codes "<<") refl refl) in
    record {
      form = vars_form p (after e (codes " ")) s x.form x.end;
      good = (refl, refl, x.good, x.right);
      new = xs;
      is = ap vars_unit x.words;
      same = refl;
      next = (after x.end (codes ">>")).line + 1;
      start = first_line (onward (onward (title_at n (codes "vars") ((refl, refl), refl)) (defined e) (λ y e. refl)) (tuple_at 0 xs v s refl) (λ y e. refl)) (λ y. refl);
    }

-- ---- definitions

record ParametersAt (xs : List Word) (p : Place) : Type 0 where
  form : Option ParameterForm
  good : GoodParameters 1 form
  same : parameters form ≡ xs
  end : Place
  right : Right 1 end
  chunk : Chunk ends_word p (parameters_text xs) (spell_parameters form) end
  begins : (y : List ℕ) → ends_word y ≡ true → ends_word (parameters_text xs ++ y) ≡ true

pub some_names : (x : Word) (xs : List Word) → AllByRecursion IsIdentifier (x ∷ xs) → AreNames (x ∷ xs)
some_names x [] h = h.0
some_names x (y ∷ xs) h = (h.0, some_names y xs h.1)

parameters_at : (xs : List Word) → AllByRecursion IsIdentifier xs → (p : Place) → Right 1 p → ParametersAt xs p
parameters_at [] h p r = record { form = None; good = tt; same = refl; end = p; right = r; chunk = narrowed ends_word (nothing p); begins = λ y e. e }
parameters_at (x ∷ xs) h p r =
    let v = some_names x xs h in
    let ns = names_at 0 (x ∷ xs) v (after p (codes "(")) (over 1 p (codes "(") r refl) in
    record {
      form = Some (record { left = p; names = ns.form; right = ns.end });
      good = (r, ns.good, ns.right);
      same = ns.words;
      end = after ns.end (codes ")");
      right = over 1 ns.end (codes ")") ns.right refl;
      chunk = narrowed ends_word (join (join (open_round p) ns.chunk (λ y e. names_start (x ∷ xs) y v)) (close ns.end) (λ y e. refl));
      begins = λ y e. refl;
    }

pub definition_at : (n h : ℕ) (d : Definition) → IsDefinition d → UnitAt definition_unit definition_placeless n h d
definition_at n h d v =
    let p = put n 1 in
    let f = parameters_at d.params v.2 (after p d.title) (past_title n d.title v.0) in
    let q = after f.end (codes " ") in
    let rq = over 1 f.end (codes " ") f.right refl in
    let a = expr_at 0 false d.body v.3 (after q (codes "== ")) (over 1 q (codes "== ") rq refl) in
    record {
      form = definition_form p d.title f.form q a.phrase;
      good = (v.1, f.good, rq, a.good, a.unlisted);
      new = record { title = d.title; params = d.params; body = tree_of a.phrase; outside = d.outside };
      is = (λ i. definition_unit (record { title = d.title; params = f.same i; body = tree_of a.phrase; outside = sym v.4 i }));
      same = (λ i. record { title = d.title; params = d.params; body = a.tree i; outside = d.outside });
      next = a.end.line + 1;
      start = first_line (onward (onward (onward (title_at n d.title v.0) f.chunk f.begins) (defined f.end) (λ y e. refl)) a.chunk (λ y e. refl)) (λ y. refl);
    }

-- ---- lists of lines

-- the conjuncts of Init
record InitsAt (n : ℕ) (es : List Tree) : Type 0 where
  forms : List (Place × Phrase)
  good : GoodBullets Good 3 forms
  same : map tree_placeless (each tree_of forms) ≡ map tree_placeless es
  next : ℕ
  chunk : Chunk any (put n 1) (conjuncts_text (map written es)) (spell_bullets (tk.sign op.And) spell forms) (put next 1)

record InitAt (n : ℕ) (e : Tree) : Type 0 where
  form : Phrase
  good : Good 3 form
  same : tree_placeless (tree_of form) ≡ tree_placeless e
  next : ℕ
  chunk : Chunk any (put n 1) (line 2 (codes "/\\ " ++ written e)) (λ r. see (put n 3) (tk.sign op.And) (spell form r)) (put next 1)

init_line : (n : ℕ) (e : Tree) → IsWritable e → InitAt n e
init_line n e v =
    let a = expr_at 2 false e v (after (put n 3) (codes "/\\ ")) (after_and n 2) in
    record { form = a.phrase; good = a.good; same = a.tree; next = a.end.line + 1; chunk = line_of n 2 (join (and_bullet n 2) a.chunk (λ y e. refl)) (λ y. refl) }

inits_at : (n : ℕ) (es : List Tree) → AllByRecursion IsWritable es → InitsAt n es
inits_at n [] h = record { forms = []; good = tt; same = refl; next = n; chunk = nothing (put n 1) }
inits_at n (e ∷ es) h =
    let x = init_line n e h.0 in
    let xs = inits_at x.next es h.1 in
    record {
      forms = (put n 3, x.form) ∷ xs.forms;
      good = (refl, x.good, xs.good);
      same = (λ i. x.same i ∷ xs.same i);
      next = xs.next;
      chunk = join x.chunk xs.chunk (λ y e. refl);
    }

-- the disjuncts of Next
pub record WaysAt (n : ℕ) (ys : List Way) : Type 0 where
  pub forms : List (Place × WayForm)
  pub good : GoodBullets GoodWay 3 forms
  pub same : map way_placeless (each way_of forms) ≡ map way_placeless ys
  pub next : ℕ
  pub chunk : Chunk any (put n 1) (ways_text ys) (spell_bullets (tk.sign op.Or) spell_way forms) (put next 1)

pub record WayLine (n : ℕ) (y : Way) : Type 0 where
  pub form : WayForm
  pub good : GoodWay 3 form
  pub same : way_placeless (way_of form) ≡ way_placeless y
  pub next : ℕ
  pub chunk : Chunk any (put n 1) (line 2 (codes "\\/ " ++ way_text y)) (λ r. see (put n 3) (tk.sign op.Or) (spell_way form r)) (put next 1)

pub way_line : (n : ℕ) (y : Way) → IsWay y → WayLine n y
way_line n y v =
    let a = way_at 2 y v (after (put n 3) (codes "\\/ ")) (after_or n 2) in
    record { form = a.form; good = a.good; same = a.same; next = a.end.line + 1; chunk = line_of n 2 (join (or_bullet n 2) a.chunk (λ y e. refl)) (λ y. refl) }

pub ways_at : (n : ℕ) (ys : List Way) → AllByRecursion IsWay ys → WaysAt n ys
ways_at n [] h = record { forms = []; good = tt; same = refl; next = n; chunk = nothing (put n 1) }
ways_at n (y ∷ ys) h =
    let x = way_line n y h.0 in
    let xs = ways_at x.next ys h.1 in
    record {
      forms = (put n 3, x.form) ∷ xs.forms;
      good = (refl, x.good, xs.good);
      same = (λ i. x.same i ∷ xs.same i);
      next = xs.next;
      chunk = join x.chunk xs.chunk (λ y e. refl);
    }

-- the formulas of fairness
pub record FairsAt (n : ℕ) (fs : List Fairness) : Type 0 where
  pub forms : List (Place × FairForm)
  pub good : GoodBullets GoodSpec 3 (fair_specs forms)
  pub same : map fairness_placeless (each fairness_of forms) ≡ map fairness_placeless fs
  pub next : ℕ
  pub chunk : Chunk any (put n 1) (conjuncts_text (map fairness_text fs)) (spell_bullets (tk.sign op.And) spell_spec (fair_specs forms)) (put next 1)

record FairLine (n : ℕ) (f : Fairness) : Type 0 where
  form : FairForm
  good : GoodSpec 3 (fair_line form)
  same : fairness_placeless (fairness_of form) ≡ fairness_placeless f
  next : ℕ
  chunk : Chunk any (put n 1) (line 2 (codes "/\\ " ++ fairness_text f)) (λ r. see (put n 3) (tk.sign op.And) (spell_spec (fair_line form) r)) (put next 1)

fairness_line : (n : ℕ) (f : Fairness) → IsFairness f → FairLine n f
fairness_line n f v =
    let a = fair_at 2 f v (after (put n 3) (codes "/\\ ")) (after_and n 2) in
    record { form = a.form; good = a.good; same = a.same; next = a.end.line + 1; chunk = line_of n 2 (join (and_bullet n 2) a.chunk (λ y e. refl)) (λ y. refl) }

pub fairs_at : (n : ℕ) (fs : List Fairness) → AllByRecursion IsFairness fs → FairsAt n fs
fairs_at n [] h = record { forms = []; good = tt; same = refl; next = n; chunk = nothing (put n 1) }
fairs_at n (f ∷ fs) h =
    let x = fairness_line n f h.0 in
    let xs = fairs_at x.next fs h.1 in
    record {
      forms = (put n 3, x.form) ∷ xs.forms;
      good = (refl, x.good, xs.good);
      same = (λ i. x.same i ∷ xs.same i);
      next = xs.next;
      chunk = join x.chunk xs.chunk (λ y e. refl);
    }

pub each_of : {A : Type 0} (P : A → Type 0) (xs : List A) → AllOf P xs → AllByRecursion P xs
each_of P [] h = tt
each_of P (x ∷ []) h = (h, tt)
each_of P (x ∷ y ∷ xs) h = (h.0, each_of P (y ∷ xs) h.1)

-- ---- Init, Next and actions

pub own_title : (n : ℕ) (x : Word) → IsIdentifier x → (let p = put n 1 in let q = after p x in Start (at_byte 10) p (x ++ codes " ==") (λ r. see p (tk.word x) (see (after q (codes " ")) (tk.mark tk.defines) r)) (after (after q (codes " ")) (codes "==")))
own_title n x h = onward (title_at n x h) (defined_line (after (put n 1) x)) (λ y e. refl)

pub init_at : (n h : ℕ) (es : List Tree) → AllOf IsWritable es → UnitAt init_unit (map tree_placeless) n h es
init_at n h [] v = absurd v
init_at n h (e ∷ es) v =
    let vs = each_of IsWritable (e ∷ es) v in
    let x = init_line (n + 1) e vs.0 in
    let xs = inits_at x.next es vs.1 in
    record {
      form = init_form (put n 1) (put n 6) ((put (n + 1) 3, x.form) ∷ xs.forms);
      good = (refl, (refl, (refl, x.good, xs.good)));
      new = tree_of x.form ∷ each tree_of xs.forms;
      is = refl;
      same = (λ i. x.same i ∷ xs.same i);
      next = xs.next;
      start = onward (first_line (own_title n (codes "Init") ((refl, refl), refl)) (λ y. refl)) (join x.chunk xs.chunk (λ y e. refl)) (λ y e. refl);
    }

pub next_at : (n h : ℕ) (ys : List Way) → AllOf IsWay ys → UnitAt next_unit (map way_placeless) n h ys
next_at n h [] v = absurd v
next_at n h (y ∷ ys) v =
    let vs = each_of IsWay (y ∷ ys) v in
    let x = way_line (n + 1) y vs.0 in
    let xs = ways_at x.next ys vs.1 in
    record {
      form = next_form (put n 1) (put n 6) ((put (n + 1) 3, x.form) ∷ xs.forms);
      good = (refl, (refl, (refl, x.good, xs.good)));
      new = way_of x.form ∷ each way_of xs.forms;
      is = refl;
      same = (λ i. x.same i ∷ xs.same i);
      next = xs.next;
      start = onward (first_line (own_title n (codes "Next") ((refl, refl), refl)) (λ y. refl)) (join x.chunk xs.chunk (λ y e. refl)) (λ y e. refl);
    }
