-- The definitions in sight of the module of an accepted algorithm that may be read, ProcSet too, read nothing that a step assigns.
use Rattle.std.proofs.Common.{◌≡◌, List, [], ◌∷◌, ◌++◌, Bool, true, false, not, ◌||◌, ◌&&◌, cond, codes, map, reverse, refl, sym, ap, ◌∙◌}
use Rattle.std.specs.List.{flat_map, list_any, AllByRecursion}
use Rattle.std.proofs.lemmas.Bool.{or_parts}
use Rattle.std.proofs.lemmas.Slice.Eq.{bytes_eq-Decides}
use Rattle.tla_token.specs.Signs.{is_among}
use Rattle.tla_tree.specs.Tree.{Word, Name, Tree, Each, Every, binders}
use Rattle.tla_tree.specs.laws.Writable.{IsWritable}
use Rattle.tla_value.specs.Definitions.{Valuation}
use Rattle.tla_value.specs.Outside.{Outside}
use Rattle.tla_value.specs.laws.FreeNames.{Any, FreeNames}
use Rattle.tla_value.specs.Stops.{plain}
use Rattle.tla_value.specs.laws.Grafting.{In, OutOf, AllSettled}
use Rattle.tla_value.specs.laws.Untitled.{Untitled}
use Rattle.pcal_tree.specs.Algorithm.{Definition, declares, Algorithm}
use Rattle.pcal_tree.specs.BoundNames.{lists_in, lists_in_declared}
use Rattle.pcal_tree.specs.NameUses.{seeing_variables}
use Rattle.pcal_tree.specs.OffencesNames.{in_whole, in_declared, in_definitions, sight_outside, sight_inside}
use Rattle.pcal_tree.specs.OffencesRebind.{any_name, starts_rebind, standing_outside, standing_inside, Standings, in_scope, may_rebind, naming, rebound, rebound_all, whole_rebinds, definitions_rebind}
use Rattle.pcal_tree.specs.Program.{Program, inner}
use Rattle.pcal_tree.specs.Programs.{program_in}
use Rattle.pcal_tree.specs.Reads.{used, looked_at, through, readings_of}
use Rattle.pcal_tree.specs.Variables.{vars, declared}
use Rattle.pcal_tree.proofs.CallsFine.{throughout_both}
use Rattle.pcal_tree.proofs.ClearLabels.{both_none}
use Rattle.pcal_tree.proofs.NothingCaptured.{Free, BindsFree, written_bare}
use Rattle.pcal_tree.proofs.Uncaptured.{throughout_weaker}
use Rattle.action_builder.specs.Assigned.{Names}
use Rattle.action_builder.specs.laws.Ready.{IsWithin}
use Rattle.action_builder.specs.laws.WrittenScope.{AllRead, Common, titles}
use Rattle.translation.specs.laws.AcceptedAlgorithm.{IsAcceptedInFile}
use Rattle.translation.specs.laws.FreshReads.{readable}
use Rattle.translation.specs.laws.AcceptedLaws.{extra_of}
use Rattle.translation.proofs.AcceptedNames.{no_offence}
use Rattle.translation.proofs.BoundOf.{BindsAll, tree_bound, in_both}
use Rattle.translation.proofs.MacrosSound.{typed}
use Rattle.translation.proofs.NamesApart.{false_among, never}
use Rattle.translation.proofs.NamesFree.{AllOf, BindsOf, names_free}
use Rattle.translation.proofs.NamesGiven.{Bound, bound_all}
use Rattle.translation.proofs.NamesOfRules.{rules_of_names}
use Rattle.translation.proofs.PreparedSteps.{whole}
use Rattle.translation.proofs.StepNames.{any_none, any_each, negated}
use Rattle.tla_token.specs.declared.rule.Rule.TheVariants.{ProcessNotConstant}
use Rattle.tla_value.specs.Definitions as Outside
use Rattle.tla_value.specs.Outside.{found}
use Rattle.module_tree.specs.ModuleTruth.{process_set_defined}
use Rattle.pcal_tree.specs.Algorithm.{Macro, Process, Main, alone, processes}
use Rattle.pcal_tree.specs.BoundNames.{lists_in_body, lists_in_procedure, lists_in_process, lists_in_main}
use Rattle.pcal_tree.specs.Offences.{offence_if}
use Rattle.pcal_tree.specs.OffencesNames.{Calls, macro_offences, in_procedure, in_process, in_main}
use Rattle.pcal_tree.specs.OffencesOfNames.{offences_of_uses, offences_of_declarations, offences_of_reads, through_each_call}
use Rattle.pcal_tree.specs.OffencesReads.{processes_of, not_constant, process_offences}
use Rattle.pcal_tree.specs.OffencesRebind.{texts_rebind, macro_rebinds, procedure_rebinds, process_rebinds, main_rebinds}
use Rattle.pcal_tree.specs.OffencesRebind as rebind
use Rattle.pcal_tree.specs.Takers.{each_of, single, takers_of}
use Rattle.pcal_tree.proofs.CallsFine.{tree_seen}
use Rattle.action_builder.specs.ProcessSets.{set_of_takers, union_from, union, sets_of_processes, process_set_of}
use Rattle.action_builder.specs.laws.WrittenScope.{definitions_of}
use Rattle.translation.specs.laws.TypedAlgorithm.{IsTypedProcess, IsTypedMain}
use Rattle.translation.proofs.BoundOf.{AllIn}
use Rattle.translation.proofs.InnerSettled.{free_two, inner_settled}
use Rattle.translation.proofs.NamesApart.{used_outside, global_common, defined_common}
use Rattle.translation.proofs.NamesInSight.{sees_inside}
use Rattle.translation.proofs.OutsideSettled.{outside_settled}
use Rattle.translation.proofs.ReadyNames.{global_scope, outside_unused}
use Rattle.translation.proofs.StepNames.{through_global}

-- ---- the union of sets

module _ (N M : Word → Type 0) where
  union_reads : (t : Tree) (es : List Tree) → FreeNames N M t → AllByRecursion (λ (e : Tree). FreeNames N M e) es → FreeNames N M (union_from t es)
  union_reads t [] h k = h
  union_reads t (e ∷ es) h k = union_reads _ es (tt, (h, (k.0, tt))) k.1

  all_union : (es : List Tree) → AllByRecursion (λ (e : Tree). FreeNames N M e) es → FreeNames N M (union es)
  all_union [] k = (tt, tt)
  all_union (e ∷ es) k = union_reads e es k.0 k.1

  set_reads : (p : Process) → FreeNames N M p.identity → FreeNames N M (set_of_takers (takers_of p))
  set_reads p h = by p.several
    where
      by : (b : Bool) → FreeNames N M (set_of_takers (cond b (each_of p.identity) (single p.identity)))
      by true = h
      by false = (tt, (h, tt))

  sets_read : (ps : List Process) → AllByRecursion (λ (p : Process). FreeNames N M p.identity) ps → AllByRecursion (λ (e : Tree). FreeNames N M e) (sets_of_processes ps)
  sets_read [] h = tt
  sets_read (p ∷ ps) h = (set_reads p h.0, sets_read ps h.1)

-- ---- of an accepted algorithm

module _ (o : Outside) (a : Algorithm) (h : IsAcceptedInFile o a) (values : Valuation) (A : Names) (w : IsWithin A (is_among (vars (program_in plain o a values)))) where
  abbrev P : Program
  P = program_in plain o a values

  abbrev U : Word → Bool
  U = readable a A

  abbrev B : Word → Type 0
  B = Bound o a h values

  -- no global, and it reads none as a definition
  abbrev Constant : Word → Type 0
  Constant x = (U x ≡ true) × (declares a.globals x ≡ false)

  constant_name : (n : Name) → list_any (declares a.globals) (looked_at (readings_of a) n) ≡ false → Constant n.word
  constant_name n e =
      let p = or_parts (declares a.globals n.word) (list_any (declares a.globals) (through (readings_of a) n.word)) e in
      (negated (list_any A (through (readings_of a) n.word)) (any_none A (through (readings_of a) n.word) (λ y m. false_among (A y) (λ q. never (sym (through_global a n.word y m) ∙ any_each (declares a.globals) (through (readings_of a) n.word) p.1 y m)))), p.0)

  all_constant : (ns : List Name) → flat_map (λ (n : Name). offence_if (list_any (declares a.globals) (looked_at (readings_of a) n)) ProcessNotConstant n.place) ns ≡ [] → AllOf Constant ns
  all_constant [] e = tt
  all_constant (n ∷ ns) e =
      let p = both_none (offence_if (list_any (declares a.globals) (looked_at (readings_of a) n)) ProcessNotConstant n.place) _ e in
      (constant_name n (no_offence (list_any (declares a.globals) (looked_at (readings_of a) n)) ProcessNotConstant n.place p.0), all_constant ns p.1)

  bound_constant : (xs : List Word) → Each B xs → Each (Free o.extended a.procedures (standing_inside a o)) xs → Each Constant xs
  bound_constant [] b f = tt
  bound_constant (x ∷ xs) b f = (one, bound_constant xs b.1 f.1)
    where
      out : in_scope (standing_inside a o) x ≡ false
      out = false_among (in_scope (standing_inside a o) x) (λ q. never (sym (λ i. q i && ap not b.0.1 i) ∙ f.0))

      one : Constant x
      one = (ap (λ (ys : List Word). not (list_any A ys)) (outside_unused o a h values x out), false_among (declares a.globals x) (λ q. never (sym (global_scope o a h values x q) ∙ out)))

  identity_settled : (e : Tree) → IsWritable e → in_whole e (sight_inside a o) ≡ [] → whole_rebinds o.extended e (standing_inside a o) ≡ [] → AllIn B (lists_in e)
      → flat_map (λ (n : Name). offence_if (list_any (declares a.globals) (looked_at (readings_of a) n)) ProcessNotConstant n.place) (used e []) ≡ [] → FreeNames (OutOf A (In U)) (In U) e
  identity_settled e i s r b c =
      free_two (Common P (extra_of a)) Any Constant Constant (OutOf A (In U)) (In U) (λ y m n. (n.0, false_among (A y) (λ q. never (sym (common_global y m (w y q)) ∙ n.1)))) (λ y m n. n.0) e
      (tree_seen e false (sight_inside a o) (Common P (extra_of a)) (sees_inside o (Common P (extra_of a)) (used_outside o a h values) a (global_common o a h values) (defined_common o a h values)) s)
      (names_free Constant e [] i every (λ x m. absurd (nothing x m)) (all_constant (used e []) c))
    where
      nothing : (y : Word) → is_among [] y ≡ true → ⊥
      nothing y e = cc

      common_global : (y : Word) → Common P (extra_of a) y → is_among (vars P) y ≡ true → declares a.globals y ≡ true
      common_global y c v = by (declares a.globals y) (is_among (vars P) y) (is_among (titles (extra_of a)) y) v c
        where
          by : (b c e : Bool) → c ≡ true → (b || not (c || e)) ≡ true → b ≡ true
          by true c e p z = refl
          by false true e p z = cc
          by false false e p z = cc

      every : Every (BindsOf Constant) e
      every =
          (throughout_weaker (λ n at. BindsAll B n at × BindsFree o.extended a.procedures (standing_inside a o) n at) (BindsOf Constant) (λ x. B x × Free o.extended a.procedures (standing_inside a o) x) (λ x. Unit {0}) (λ n at f. bound_constant (binders n) f.0 f.1) (λ x f. tt) (whole e)
          (throughout_both (BindsAll B) (BindsFree o.extended a.procedures (standing_inside a o)) B (Free o.extended a.procedures (standing_inside a o)) (whole e) (tree_bound B e b, tt)
          (written_bare o.extended a.procedures [] (whole e) (standing_inside a o) (λ i. r i ++ [])))).0

  abbrev IsSettled : Process → Type 0
  IsSettled p = FreeNames (OutOf A (In U)) (In U) p.identity

  abbrev C : Calls
  C = macro_offences (reverse a.macros) a.procedures

  abbrev D : rebind.Calls
  D = macro_rebinds o.extended a.procedures (reverse a.macros)

  processes_settled : (ps : List Process) → AllByRecursion IsTypedProcess ps → flat_map (in_process C a.procedures (sight_inside a o)) ps ≡ [] → flat_map (process_rebinds o.extended a.procedures D (standing_inside a o)) ps ≡ [] → AllIn B (flat_map lists_in_process ps)
      → flat_map (not_constant a) ps ≡ [] → AllByRecursion IsSettled ps
  processes_settled [] t s r b c = tt
  processes_settled (p ∷ ps) t s r b c =
      let i = both_none (in_process C a.procedures (sight_inside a o) p) _ s in
      let j = both_none (process_rebinds o.extended a.procedures D (standing_inside a o) p) _ r in
      let k = in_both B (lists_in_process p) (flat_map lists_in_process ps) b in
      let l = both_none (not_constant a p) _ c in (
        identity_settled p.identity t.0.1 (both_none (in_whole p.identity (sight_inside a o)) _ i.0).0 (both_none (whole_rebinds o.extended p.identity (standing_inside a o)) _ j.0).0 (in_both B (lists_in p.identity) _ k.0).0 l.0,
        processes_settled ps t.1 i.1 j.1 k.1 l.1,
      )

  set_settled : (m : Main) → IsTypedMain m → in_main C a.procedures (sight_inside a o) m ≡ [] → main_rebinds o.extended a.procedures D (standing_inside a o) m ≡ [] → AllIn B (lists_in_main m) → flat_map (not_constant a) (processes_of m) ≡ []
      → ((x : Word) → is_among (vars P) x ≡ true → Untitled x (process_set_defined (process_set_of m))) → AllSettled A (In U) (process_set_defined (process_set_of m))
  set_settled (alone b) t s r d c l = tt
  set_settled (processes []) t s r d c l = absurd t
  set_settled (processes (p ∷ ps)) t s r d c l = (
    (λ u. record {
      title = false_among (A (codes "ProcSet")) (λ e. never (sym ((bytes_eq-Decides (codes "ProcSet") (codes "ProcSet")).1 refl) ∙ (l (codes "ProcSet") (w (codes "ProcSet") e)).0));
      body = all_union (OutOf A (In U)) (In U) (sets_of_processes (p ∷ ps)) (sets_read (OutOf A (In U)) (In U) (p ∷ ps) (processes_settled (p ∷ ps) t s r d c));
    }),
    tt,
  )

  settled_joined : (ds es : List Outside.Definition) → AllSettled A (In U) ds → AllSettled A (In U) es → AllSettled A (In U) (ds ++ es)
  settled_joined [] es h k = k
  settled_joined (d ∷ ds) es h k = (h.0, settled_joined ds es h.1 k)

  untitled_front : (x : Word) (ds es : List Outside.Definition) → Untitled x (ds ++ es) → Untitled x ds × Untitled x es
  untitled_front x [] es h = (tt, h)
  untitled_front x (d ∷ ds) es h = (let k = untitled_front x ds es h.1 in ((h.0, k.0), k.1))

  read_back : (N : Word → Type 0) (ds es : List Outside.Definition) → AllRead N (ds ++ es) → AllRead N es
  read_back N [] es h = h
  read_back N (d ∷ ds) es h = read_back N ds es h.1

  pub all_settled : AllRead (Common P (extra_of a)) (definitions_of P) → ((x : Word) → is_among (vars P) x ≡ true → Untitled x (definitions_of P ++ extra_of a)) → AllSettled A (In U) (definitions_of P ++ extra_of a)
  all_settled r l =
      let rules = rules_of_names a o h.accepted.names in
      let parts = λ (x : Word) (m : is_among (vars P) x ≡ true). untitled_front x (definitions_of P) (extra_of a) (l x m) in
      let both = λ (x : Word) (m : is_among (vars P) x ≡ true). untitled_front x (found o.definitions) (map inner a.definitions) (parts x m).0 in
      let s = both_none (flat_map (in_procedure C a.procedures (sight_inside a o)) a.procedures) _ (both_none (in_definitions a.definitions (seeing_variables (declared a.globals) (sight_outside o))) _ (both_none (in_declared a.globals (sight_inside a o)) _ rules.0).1).1 in
      let i = both_none (definitions_rebind o.extended a.definitions (standing_outside a o)) _ (both_none (starts_rebind o.extended any_name a.globals (standing_inside a o)) _ rules.2).1 in
      let j = both_none (flat_map (procedure_rebinds o.extended a.procedures D (standing_inside a o)) a.procedures) _ (both_none (texts_rebind o.extended a.procedures (macro_rebinds o.extended a.procedures) (standing_inside a o) (reverse a.macros)) _ i.1).1 in
      let b1 = in_both B (lists_in_declared a.globals) _ (bound_all o a h values) in
      let b2 = in_both B (flat_map (λ (c : Definition). lists_in c.body) a.definitions) _ b1.1 in
      let b3 = in_both B (flat_map (λ (c : Macro). lists_in_body c.body) a.macros) _ b2.1 in
      let b4 = in_both B (flat_map lists_in_procedure a.procedures) (lists_in_main a.main) b3.1 in
      let F = through_each_call a o in
      let z = (both_none (process_offences a) _ (both_none (offences_of_declarations F a o) (offences_of_reads F a) (both_none (offences_of_uses F a o) _ h.accepted.names).1).1).0 in
      settled_joined (definitions_of P) (extra_of a)
      (settled_joined (found o.definitions) (map inner a.definitions) (outside_settled o a h values A w (λ x m. (both x m).0)) (inner_settled o a h values A w (read_back (Common P (extra_of a)) (found o.definitions) (map inner a.definitions) r) (λ x m. (both x m).1)))
      (set_settled a.main (typed o a h.accepted).main s.1 j.1 b4.1 z (λ x m. (parts x m).1))
