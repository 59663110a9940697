-- What is kept of macros and procedures, as more of them are known.
use Rattle.std.proofs.Common.{◌≡◌, ℕ, suc, ◌+◌, ◌-◌, ◌<◌, ◌≤◌, Bool, true, false, List, [], ◌∷◌, ◌++◌, length, take, drop, map, get_or, reverse, cond, bytes_eq, Option, Some, None, sym, ap, ◌∙◌, subst, arith}
use Rattle.std.specs.List.{flat_map}
use Rattle.std.specs.Map.{lookup}
use Rattle.std.proofs.lemmas.List.{drop_more, drop_all, take_more, take_all, map-append, length-map, reverse-append}
use Rattle.indexmap.specs.IndexMap.{insert_entry}
use Rattle.tla_token.specs.declared.place.Place.{Place}
use Rattle.tla_token.specs.declared.rule.Refusal.{Refusal}
use Rattle.tla_tree.specs.Tree.{Word, Tree, Trees}
use Rattle.pcal_tree.specs.declared.algorithm.Macro as code_macro
use Rattle.pcal_tree.specs.declared.algorithm.Procedure as code_procedure
use Rattle.pcal_tree.specs.Algorithm.{Name, Macro, Procedure}
use Rattle.pcal_tree.specs.InMemory.{statements_at, declarations_at, declaration_at, macro_at}
use Rattle.pcal_tree.specs.Offences.{first}
use Rattle.pcal_tree.specs.NameUses.{Sight}
use Rattle.pcal_tree.specs.OffencesNames.{count, call_offences, in_body, macro_offences, seeing_parameters}
use Rattle.algorithm_answer.specs.Joined.{joined}
use Rattle.algorithm_answer.proofs.Joins.{first_append}
use Rattle.algorithm_limits.specs.Numbers.{Numbers, number_of, with_number}
use Rattle.algorithm_limits.proofs.Tables.{equal, number_of_with}
use Rattle.name_rules.specs.declared.found.Found.{Found}
use Rattle.name_rules.specs.declared.macros.MacroUses.{MacroUses}
use Rattle.name_rules.specs.declared.macros.Callees.{Callees}
use Rattle.declared_rules.specs.UsesTold.{looked, told_by, Inside}
use Rattle.declared_rules.proofs.SeenLaws.{inserted}
use Rattle.name_rules.specs.Finding.{told, Tells}
use Rattle.name_rules.specs.Calling.{kept_list, wrong_number, called_offences, kept_offences, procedure_offences, Means}
use Rattle.name_rules.specs.Keeping.{Keeps, AreProcedures, procedures_at, calls_at}
use Rattle.name_rules.proofs.TellLaws.{inside_none}
use Rattle.name_rules.proofs.CallLaws.{first_kept}

-- ---- names

pub names_more : (copy ns : List Name) (i : ℕ) (n : Name) → n ≡ get_or ns i n → i < length ns → copy ≡ take i ns → copy ++ n ∷ [] ≡ take (i + 1) ns
names_more copy ns i n e l h = (λ j. h j ++ e j ∷ []) ∙ sym (take_more ns i n l)

pub names_all : (copy ns : List Name) (i : ℕ) → length ns ≤ i → copy ≡ take i ns → copy ≡ ns
names_all copy ns i l h = h ∙ take_all i ns l

-- ---- a macro's body, looked at from any sight

pub told_first : (old new : Found) (offends : Sight → List Refusal) (s : Sight) → old.first ≡ None → old.free.keys ≡ [] → old.bound ≡ [] → Tells old new offends → told new s ≡ first (offends s)
told_first old new offends s f k b h =
    h.tells s s (λ x. subst (λ (hs : List Word). Inside hs s s) (sym b) (inside_none s) x)
    ∙ (λ i. joined (told_by (f i) (k i) s) (first (offends s)))

-- ---- one more macro

module _ (k l : Callees) (ts : List Tree) (older : List Macro) (ps : List Procedure) (d : code_macro.Macro) (u : MacroUses) (title : Word)
    (m : Means k (macro_offences older ps) ps) (h : Keeps (macro_offences older ps) ps ts d u)
    (e : l.macros.entries ≡ insert_entry equal k.macros.entries title u) (q : l.procedures ≡ k.procedures) (t : title ≡ d.name.word) where
  body_told : (p : Place) (us : Trees) (s : Sight) →
      first (wrong_number (length d.params.items) (count us) p ++ in_body (macro_offences older ps) ps (statements_at ts d.body.items) (seeing_parameters d.params.items us s s)) ≡ first (called_offences u p us s)
  body_told p us s =
      ap (λ (ns : List Name). first (wrong_number (length ns) (count us) p ++ in_body (macro_offences older ps) ps (statements_at ts d.body.items) (seeing_parameters ns us s s))) (sym h.params)
      ∙ first_append (wrong_number (length u.params.items) (count us) p) (in_body (macro_offences older ps) ps (statements_at ts d.body.items) inner)
      ∙ ap (joined (first (wrong_number (length u.params.items) (count us) p)))
      (sym (h.tells inner) ∙ ap (λ (o : Option Refusal). joined o (first (flat_map (looked inner) u.found.free.keys))) (first_kept u.found.first) ∙ sym (first_append (kept_list u.found.first) (flat_map (looked inner) u.found.free.keys)))
      ∙ sym (first_append (wrong_number (length u.params.items) (count us) p) (kept_list u.found.first ++ flat_map (looked inner) u.found.free.keys))
    where
      inner : Sight
      inner = seeing_parameters u.params.items us s s

  pub one_more_macro : Means l (macro_offences (macro_at ts d ∷ older) ps) ps
  one_more_macro = record {
    macros = λ x p us s.
        by (bytes_eq d.name.word x) x p us s
        ∙ ap (λ (o : Option MacroUses). first (kept_offences o p us s)) (sym (ap (lookup (equal x)) e ∙ inserted k.macros.entries title u x
        ∙ ap (λ (w : Word). cond (bytes_eq w x) (Some u) (lookup (equal x) k.macros.entries)) t));
    procedures = λ x p n. m.procedures x p n ∙ ap (λ (es : Numbers). procedure_offences (number_of es x.word) p x n) (sym q);
  }
    where
      by : (b : Bool) (x : Word) (p : Place) (us : Trees) (s : Sight)
          → first (cond b (wrong_number (length d.params.items) (count us) p ++ in_body (macro_offences older ps) ps (statements_at ts d.body.items) (seeing_parameters d.params.items us s s)) (macro_offences older ps s p x us))
          ≡ first (kept_offences (cond b (Some u) (lookup (equal x) k.macros.entries)) p us s)
      by true x p us s = body_told p us s
      by false x p us s = m.macros x p us s

calls_more : (ts : List Tree) (ms : List code_macro.Macro) (i : ℕ) (d : code_macro.Macro) → d ≡ get_or ms i d → i < length ms
    → macro_at ts d ∷ reverse (map (macro_at ts) (take i ms)) ≡ reverse (map (macro_at ts) (take (i + 1) ms))
calls_more ts ms i d e l =
    sym (ap (λ (ns : List code_macro.Macro). reverse (map (macro_at ts) ns)) (take_more ms i d l ∙ ap (λ (z : code_macro.Macro). take i ms ++ z ∷ []) (sym e))
    ∙ ap reverse (map-append (macro_at ts) (take i ms) (d ∷ [])) ∙ reverse-append (map (macro_at ts) (take i ms)) (macro_at ts d ∷ []))

pub macros_more : (k l : Callees) (ts : List Tree) (ps : List Procedure) (ms : List code_macro.Macro) (i : ℕ) (d : code_macro.Macro) (u : MacroUses) (title : Word) → d ≡ get_or ms i d → i < length ms
    → Means k (calls_at ts (take i ms) ps) ps → Keeps (calls_at ts (take i ms) ps) ps ts d u → l.macros.entries ≡ insert_entry equal k.macros.entries title u → l.procedures ≡ k.procedures → title ≡ d.name.word
    → Means l (calls_at ts (take (i + 1) ms) ps) ps
macros_more k l ts ps ms i d u title e less m h f q t =
    subst (λ (older : List Macro). Means l (macro_offences older ps) ps) (calls_more ts ms i d e less) (one_more_macro k l ts (reverse (map (macro_at ts) (take i ms))) ps d u title m h f q t)

pub macros_none : (k : Callees) (ts : List Tree) (ps : List Procedure) (ms : List code_macro.Macro) → k.macros.entries ≡ [] → AreProcedures k.procedures ps → Means k (calls_at ts (take 0 ms) ps) ps
macros_none k ts ps ms e h = record {
  macros = λ x p us s. ap (λ (es : List (Word × MacroUses)). first (kept_offences (lookup (equal x) es) p us s)) (sym e);
  procedures = h;
}

pub macros_all : (k : Callees) (ts : List Tree) (ps : List Procedure) (ms : List code_macro.Macro) (i : ℕ) → length ms ≤ i → Means k (calls_at ts (take i ms) ps) ps → Means k (calls_at ts ms ps) ps
macros_all k ts ps ms i l m = subst (λ (ns : List code_macro.Macro). Means k (calls_at ts ns ps) ps) (take_all i ms l) m

-- ---- procedures, from the last one on

pub procedures_none : (ts : List Tree) (qs : List code_procedure.Procedure) → AreProcedures [] (procedures_at ts (drop (length qs - 0) qs))
procedures_none ts qs x p n = ap (λ (rs : List code_procedure.Procedure). call_offences (procedures_at ts rs) p x n) (drop_all (length qs - 0) qs (omega arith))

one_more_procedure : (ts : List Tree) (d : code_procedure.Procedure) (rs : List code_procedure.Procedure) (es : Numbers) → AreProcedures es (procedures_at ts rs)
    → AreProcedures (with_number es d.name.word (length d.params.items + 1)) (procedures_at ts (d ∷ rs))
one_more_procedure ts d rs es h x p n =
    by (bytes_eq d.name.word x.word) ∙ ap (λ (z : ℕ). procedure_offences z p x n) (sym (number_of_with es d.name.word (length d.params.items + 1) x.word))
  where
    after : (k : ℕ) → suc k ≡ k + 1
    after k = omega arith

    next : (k : ℕ) → wrong_number k n x.place ≡ procedure_offences (k + 1) p x n
    next k = ap (λ (z : ℕ). procedure_offences z p x n) (after k)

    by : (b : Bool) → cond b (wrong_number (length (declarations_at ts d.params.items)) n x.place) (call_offences (procedures_at ts rs) p x n) ≡ procedure_offences (cond b (length d.params.items + 1) (number_of es x.word)) p x n
    by true = ap (λ (z : ℕ). wrong_number z n x.place) (length-map d.params.items (declaration_at ts)) ∙ next (length d.params.items)
    by false = h x p n

pub procedures_more : (ts : List Tree) (qs : List code_procedure.Procedure) (i j : ℕ) (d : code_procedure.Procedure) (es fs : Numbers) (title : Word) (many : ℕ) → j ≡ length qs - 1 - i → d ≡ get_or qs j d → i < length qs
    → title ≡ d.name.word → many ≡ length d.params.items → fs ≡ with_number es title (many + 1) → AreProcedures es (procedures_at ts (drop (length qs - i) qs)) → AreProcedures fs (procedures_at ts (drop (length qs - (i + 1)) qs))
procedures_more ts qs i j d es fs title many a e l t n f h x p k =
    ap (λ (rs : List code_procedure.Procedure). call_offences (procedures_at ts rs) p x k) front
    ∙ one_more_procedure ts d (drop (length qs - i) qs) es h x p k
    ∙ ap (λ (gs : Numbers). procedure_offences (number_of gs x.word) p x k) (sym same)
  where
    same : fs ≡ with_number es d.name.word (length d.params.items + 1)
    same = f ∙ (λ z. with_number es (t z) (n z + 1))

    front : drop (length qs - (i + 1)) qs ≡ d ∷ drop (length qs - i) qs
    front =
        let here : length qs - (i + 1) ≡ j = omega (arith, a, l) in
        let next : j + 1 ≡ length qs - i = omega (arith, a, l) in
        ap (λ (z : ℕ). drop z qs) here ∙ drop_more qs j d (omega (arith, a, l)) ∙ ap (λ (z : code_procedure.Procedure). z ∷ drop (j + 1) qs) (sym e)
        ∙ ap (λ (z : ℕ). d ∷ drop z qs) next

pub procedures_all : (ts : List Tree) (qs : List code_procedure.Procedure) (i : ℕ) (es : Numbers) → length qs ≤ i → AreProcedures es (procedures_at ts (drop (length qs - i) qs)) → AreProcedures es (procedures_at ts qs)
procedures_all ts qs i es l h x p n =
    let none : length qs - i ≡ 0 = omega (arith, l) in sym (ap (λ (z : ℕ). call_offences (procedures_at ts (drop z qs)) p x n) none) ∙ h x p n
