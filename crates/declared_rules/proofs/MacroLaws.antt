-- What is kept of macros one after another, and of procedures from the last one on.
use Rattle.std.proofs.Common.{◌≡◌, ℕ, zero, suc, ◌+◌, ◌-◌, ◌<◌, Bool, true, false, List, [], ◌∷◌, ◌++◌, length, take, drop, map, reverse, get_or, refl, sym, ap, ◌∙◌, subst, arith, cond, bytes_eq}
use Rattle.std.specs.List.{list_any}
use Rattle.std.proofs.lemmas.List.{drop_more, drop_all, take_more, map-append, reverse-append}
use Rattle.std.proofs.lemmas.List.Folds.{list_any-append}
use Rattle.std.proofs.lemmas.Bool.{or_left, or_right}
use Rattle.std.proofs.Math.Bool.{or_comm}
use Rattle.indexmap.specs.IndexMap.{insert_entry}
use Rattle.tla_token.specs.declared.rule.Refusal.{Refusal}
use Rattle.tla_token.specs.Signs.{is_among}
use Rattle.tla_tree.specs.Tree.{Word, Name, Tree, words}
use Rattle.algorithm_limits.proofs.Tables.{equal}
use Rattle.module_outside.specs.declared.modules.Modules.{Modules}
use Rattle.module_outside.specs.ModulesIn.{AreModules}
use Rattle.pcal_tree.specs.declared.algorithm.Macro as declared
use Rattle.pcal_tree.specs.declared.algorithm.Procedure as declared_procedure
use Rattle.pcal_tree.specs.Algorithm.{Macro, Procedure}
use Rattle.pcal_tree.specs.InMemory.{macro_at, procedure_at}
use Rattle.pcal_tree.specs.Offences.{first}
use Rattle.pcal_tree.specs.OffencesRebind.{Standings, naming, brought, rebound_all, any_name, self_alone, Calls, starts_rebind, call_rebinds, body_rebinds, macro_rebinds, texts_rebind}
use Rattle.pcal_tree.proofs.FirstLaws.{same_first}
use Rattle.pcal_tree.proofs.SetLaws.{among_flat}
use Rattle.declared_rules.specs.declared.sight.Sight.{Sight}
use Rattle.declared_rules.specs.declared.bind_walk.Walk.{Walk}
use Rattle.declared_rules.specs.declared.kept.Kept.{Kept}
use Rattle.declared_rules.specs.declared.kept.Keeps.{Keeps}
use Rattle.declared_rules.specs.declared.kept.Calls as kept
use Rattle.declared_rules.specs.Telling.{told, Lets, Seen, Adds}
use Rattle.declared_rules.specs.Keeping.{Within, Tells, Means, KnowsCalls}
use Rattle.declared_rules.specs.Macros.{macro_names, Ready, MacrosAt}
use Rattle.declared_rules.proofs.TellLaws.{first_same_before, adds_none, adds_then}
use Rattle.declared_rules.proofs.PutLaws.{lets_here}
use Rattle.declared_rules.proofs.KeepLaws.{means_none, means_more}

pub lets_naming : (P xs : List Word) (r : Standings) → Lets any_name P r → Lets any_name P (naming xs r)
lets_naming P [] r l x = l x
lets_naming P (y ∷ ys) r l x = by (bytes_eq y x) (is_among P x) (lets_naming P ys r l x)
  where
    inner : List Name
    inner = brought (naming ys r) x

    by : (b c : Bool) → inner ≡ cond c inner [] → cond b [] inner ≡ cond c (cond b [] inner) []
    by true true h = refl
    by true false h = refl
    by false c h = h

pub first_swapped : (a b : List Refusal) → first (a ++ b) ≡ first (b ++ a)
first_swapped a b = same_first (a ++ b) (b ++ a) (λ f. list_any-append f a b ∙ or_comm (list_any f a) (list_any f b) ∙ sym (list_any-append f b a))

pub adds_first : (g : Sight) (K : Word → Bool) (j k : Walk) (f h : List Word → Standings → List Refusal) → Adds g K j k f → ((ms : List Word) (s r : Standings) → Seen g K j ms s r → first (f ms r) ≡ first (h ms r)) → Adds g K j k h
adds_first g K j k f h a e = record { bound = a.bound; tells = λ ms s r q. a.tells ms s r q ∙ first_same_before (told ms j s) (f ms r) (h ms r) (e ms s r q) }

within_none : (P near : List Word) → near ≡ [] → Within P near
within_none P near e x h = absurd_none (sym (ap (λ (xs : List Word). is_among xs x) e) ∙ h)
  where
    absurd_none : false ≡ true → is_among P x ≡ true
    absurd_none h = cc

-- ---- one more macro

module _ (near far : Sight) (ps : List Procedure) where
  knows : (k before : kept.Calls) (params : List Word) (ds : List Macro) → Ready near far before ps params → k.procedures ≡ before.procedures → k.process ≡ before.process → Means far far.stands k.macros (λ ms. macro_rebinds ms ps ds) → KnowsCalls far k (λ ms. macro_rebinds ms ps ds) ps
  knows k before params ds h e p m = record {
    macros = record { names = far.stands; within = λ x i. i; means = m };
    process = p ∙ h.process;
    procedures = record {
      names = far.stands;
      within = λ x i. i;
      means = subst (λ (z : Keeps). Means far far.stands z (λ ms s x ts. call_rebinds ms ps x s)) (sym e) h.procedures;
    };
  }

  pub macro_step : (old now next : Walk) (c0 c1 c2 : kept.Calls) (params : List Word) (ds : List Macro) (d : Macro) (kept_one : Kept) → Ready near far c0 ps params → Within far.stands (words d.params)
      → kept_one.params.items ≡ d.params
      → ((C : List Word → Calls) (qs : List Procedure) → KnowsCalls far c1 C qs → Tells far any_name kept_one.found (λ ms s. body_rebinds ms qs (C ms) d.body s))
      → Adds near any_name now next (λ ms r. rebound_all ms r kept_one.params.items ++ told ms kept_one.found (naming (words kept_one.params.items) r))
      → c2.macros.kept.entries ≡ insert_entry equal c1.macros.kept.entries d.name.word kept_one → c2.procedures ≡ c1.procedures → c2.process ≡ c1.process → MacrosAt near far ps old now c0 c1 ds → MacrosAt near far ps old next c0 c2 (d ∷ ds)
  macro_step old now next c0 c1 c2 params ds d kept_one ready w is tells text e same named h = record {
    adds = adds_first near any_name old next (λ ms r. texts ds ms r ++ own ms r) (texts (d ∷ ds))
        (adds_then near any_name old now next (texts ds) own h.adds (adds_first near any_name now next _ own text (λ ms s r q. here ms s r q))) (λ ms s r q. first_swapped (texts ds ms r) (own ms r));
    macros = means_more far far.stands c1.macros c2.macros (λ ms. macro_rebinds ms ps ds) (λ ms s. body_rebinds ms ps (macro_rebinds ms ps ds) d.body s) d.name.word kept_one d.params e is w
        said h.macros;
    procedures = same ∙ h.procedures;
    process = named ∙ h.process;
  }
    where
      texts : List Macro → List Word → Standings → List Refusal
      texts es ms r = texts_rebind ms ps (macro_rebinds ms ps) r es

      own : List Word → Standings → List Refusal
      own ms r = rebound_all ms r d.params ++ body_rebinds ms ps (macro_rebinds ms ps ds) d.body (naming (words d.params) r)

      said : Tells far any_name kept_one.found (λ ms s. body_rebinds ms ps (macro_rebinds ms ps ds) d.body s)
      said = tells (λ ms. macro_rebinds ms ps ds) ps (knows c1 c0 params ds ready h.procedures h.process h.macros)

      here : (ms : List Word) (s r : Standings) → Seen near any_name now ms s r → first (rebound_all ms r kept_one.params.items ++ told ms kept_one.found (naming (words kept_one.params.items) r)) ≡ first (own ms r)
      here ms s r q =
          ap (λ (ns : List Name). first (rebound_all ms r ns ++ told ms kept_one.found (naming (words ns) r))) is
          ∙ first_same_before (rebound_all ms r d.params) (told ms kept_one.found (naming (words d.params) r)) (body_rebinds ms ps (macro_rebinds ms ps ds) d.body (naming (words d.params) r))
          (said ms (naming (words d.params) r) (subst (λ (m : Modules). AreModules m ms) ready.modules q.modules)
          (lets_naming far.stands (words d.params) r (lets_here near now ms far.stands s r (within_none far.stands near.stands ready.alone) q)))

  pub macros_none : (w : Walk) (k : kept.Calls) → Means far far.stands k.macros (λ ms. macro_rebinds ms ps []) → MacrosAt near far ps w w k k []
  macros_none w k m = record { adds = adds_none near any_name w; macros = m; procedures = refl; process = refl }

-- ---- in the loop

any_at : {X : Type 0} (f : X → Bool) (xs : List X) (i : ℕ) (x : X) → x ≡ get_or xs i x → i < length xs → f x ≡ true → list_any f xs ≡ true
any_at f [] i x e l h = absurd (omega arith)
any_at {X = X} f (y ∷ ys) zero x e l h = or_left (f y) (list_any f ys) (ap f (sym e) ∙ h)
any_at f (y ∷ ys) (suc i) x e l h = or_right (f y) (list_any f ys) (any_at f ys i x e (omega arith) h)

pub one_within : (P : List Word) (ms : List declared.Macro) (i : ℕ) (m : declared.Macro) → m ≡ get_or ms i m → i < length ms → Within P (macro_names ms) → Within P (words m.params.items)
one_within P ms i m e l h x k = h x (among_flat (λ (n : declared.Macro). words n.params.items) ms x ∙ any_at (λ (n : declared.Macro). is_among (words n.params.items) x) ms i m e l k)

pub macros_taken : (ts : List Tree) (ms : List declared.Macro) (i : ℕ) (m : declared.Macro) → m ≡ get_or ms i m → i < length ms
    → macro_at ts m ∷ reverse (map (macro_at ts) (take i ms)) ≡ reverse (map (macro_at ts) (take (i + 1) ms))
macros_taken ts ms i m e l =
    sym (ap reverse (ap (map (macro_at ts)) (take_more ms i m l ∙ ap (λ (z : declared.Macro). take i ms ++ z ∷ []) (sym e)) ∙ map-append (macro_at ts) (take i ms) (m ∷ []))
    ∙ reverse-append (map (macro_at ts) (take i ms)) (macro_at ts m ∷ []))

-- ---- procedures, from the last one on

pub procedures_none : (g : Sight) (P : List Word) (ks : Keeps) (ts : List Tree) (all : List declared_procedure.Procedure) → ks.kept.entries ≡ [] → Means g P ks (λ ms s x us. call_rebinds ms (map (procedure_at ts) (drop (length all - 0) all)) x s)
procedures_none g P ks ts all e =
    means_none g P ks (λ ms s x us. call_rebinds ms (map (procedure_at ts) (drop (length all - 0) all)) x s)
    (λ ms s x us. ap (λ (qs : List declared_procedure.Procedure). call_rebinds ms (map (procedure_at ts) qs) x s) (drop_all (length all - 0) all (omega arith))) e

pub procedure_step : (g : Sight) (P : List Word) (old new : Keeps) (ts : List Tree) (all : List declared_procedure.Procedure) (i k : ℕ) (p : declared_procedure.Procedure) (d : Kept)
    → ((x : Word) → is_among g.stands x ≡ self_alone x) → k + 1 + i ≡ length all → p ≡ get_or all k p → d.params.items ≡ []
    → ((K : Word → Bool) → Tells g K d.found (λ ms s. starts_rebind ms K (procedure_at ts p).variables s)) → new.kept.entries ≡ insert_entry equal old.kept.entries p.name.word d
    → Means g P old (λ ms s x us. call_rebinds ms (map (procedure_at ts) (drop (length all - i) all)) x s) → Means g P new (λ ms s x us. call_rebinds ms (map (procedure_at ts) (drop (length all - (i + 1)) all)) x s)
procedure_step g P old new ts all i k p d stands n e is tells put h =
    subst (λ (qs : List declared_procedure.Procedure). Means g P new (λ ms s x us. call_rebinds ms (map (procedure_at ts) qs) x s)) behind
    (means_more g P old new (λ ms s x us. call_rebinds ms (map (procedure_at ts) (drop (length all - i) all)) x s) (λ ms s. starts_rebind ms self_alone (procedure_at ts p).variables s) p.name.word d [] put is (λ x i. absurd_none x i)
    (λ ms s m l. tells self_alone ms s m (λ x. ap (λ (b : Bool). cond b (brought s x) []) (sym (stands x)))) h)
  where
    absurd_none : (x : Word) → is_among [] x ≡ true → is_among P x ≡ true
    absurd_none x h = cc

    this : length all - (i + 1) ≡ k
    this = omega (arith, n)

    that : k + 1 ≡ length all - i
    that = omega (arith, n)

    behind : p ∷ drop (length all - i) all ≡ drop (length all - (i + 1)) all
    behind = ap (λ (j : ℕ). p ∷ drop j all) (sym that) ∙ ap (λ (z : declared_procedure.Procedure). z ∷ drop (k + 1) all) e ∙ sym (drop_more all k p (omega (arith, n))) ∙ ap (λ (j : ℕ). drop j all) (sym this)
