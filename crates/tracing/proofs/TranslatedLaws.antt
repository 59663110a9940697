-- The translation in memory is that of the algorithm that was checked, of which there is one in a text; and nothing is refused of it.
use Rattle.std.proofs.Common.{◌≡◌, ◌<◌, ◌≤◌, ◌++◌, ℕ, Bool, false, List, [], ◌∷◌, length, map, append-nil, codes, Option, Some, None, Result, Ok, Err, IfOk, IfErr, refl, sym, ap, subst, ◌∙◌, arith}
use Rattle.std.specs.Option.{option_map}
use Rattle.std.proofs.lemmas.List.{map-append}
use Rattle.std.proofs.lemmas.Option.{none-some}
use Rattle.tla_token.specs.declared.rule.Refusal.{Refusal}
use Rattle.tla_token.specs.declared.rule.Stop.{Stop}
use Rattle.tla_token.specs.declared.rule.Stop.TheVariants as stop
use Rattle.tla_tree.specs.Tree.{Tree}
use Rattle.tla_tree.specs.Pool.{at, Keeps}
use Rattle.tla_value.specs.Defs.{definition_at, definitions_at, DefinitionsIn}
use Rattle.tla_value.specs.Outside.{found}
use Rattle.tla_value.specs.Outside as around
use Rattle.tla_value.specs.declared.names.Definition.{Definition as Kept}
use Rattle.pcal_tree.specs.Algorithm.{Algorithm}
use Rattle.pcal_tree.specs.InMemory.{algorithm_at, past_algorithm}
use Rattle.pcal_tree.specs.Labelled.{labelled}
use Rattle.pcal_tree.specs.Offences.{first}
use Rattle.pcal_tree.specs.OffencesLabels.{label_offences}
use Rattle.pcal_tree.specs.Program.{inner}
use Rattle.pcal_tree.proofs.ClearLabels.{both_none}
use Rattle.pcal_tree.proofs.InMemoryGrown.{algorithm_at-kept}
use Rattle.macro_expand.specs.TooLarge.{too_large}
use Rattle.module_tree.specs.ModuleTruth.{process_set_defined}
use Rattle.module_tree.specs.TextFront.{Text}
use Rattle.action_builder.specs.WrittenNames.{with_names}
use Rattle.module_write.specs.InMemory.{region_at, RegionIn, MaybeIn}
use Rattle.module_write.specs.declared.«module».Region.{Region}
use Rattle.file_answer.specs.Checking.{AnswersChecking}
use Rattle.file_answer.specs.Refusals.{IsStop}
use Rattle.translation.specs.Region.{region_of}
use Rattle.translation.proofs.KeptAccepted.{nothing_wrong}
use Rattle.module_outside.specs.declared.definition.ReadDefinition.{ReadDefinition}
use Rattle.module_outside.specs.FoundAt.{AreHeld}
use Rattle.module_outside.specs.OutsideAt.{definition_seen}
use Rattle.module_outside.specs.WholeAt.{outside_at}
use Rattle.checking.specs.CheckedIn.{IsLabelled}
use Rattle.checking.specs.declared.check.Checked.{Checked}
use Rattle.run_answer.specs.Chosen.{Right, algorithm_in}
use Rattle.run_answer.proofs.Choices.{one_typed, one_outside}
use Rattle.running.proofs.ReadLaws.{read_kept, held_more}
use Rattle.running.specs.Ready.{CanRun}
use Rattle.tracing.specs.declared.translated.Translation.{Translation}
use Rattle.tracing.specs.Translated.{IsTranslation}

-- ---- the definition of ProcSet

abbrev IsSetOf : Kept → ℕ → Type 0
IsSetOf d body = (d.name ≡ codes "ProcSet") × (d.params ≡ []) × (d.body ≡ body) × (d.outside ≡ false)

pub set_missing : (ts : List Tree) (ds : List Kept) (set : Option ℕ) → set ≡ None → definitions_at ts ds ≡ definitions_at ts ds ++ process_set_defined (option_map (at ts) set)
set_missing ts ds set e = sym (append-nil (definitions_at ts ds)) ∙ ap (λ (o : Option ℕ). definitions_at ts ds ++ process_set_defined (option_map (at ts) o)) (sym e)

pub set_added : (ts : List Tree) (ds new : List Kept) (d : Kept) (set : Option ℕ) (body : ℕ) → set ≡ Some body → IsSetOf d body → new ≡ ds ++ d ∷ []
    → definitions_at ts new ≡ definitions_at ts ds ++ process_set_defined (option_map (at ts) set)
set_added ts ds new d set body e (name, params, same, inside) is =
    ap (definitions_at ts) is ∙ map-append (definition_at ts) ds (d ∷ [])
    ∙ (λ i. definitions_at ts ds ++ (record { title = name i; params = params i; body = at ts (same i); outside = inside i } ∷ []))
    ∙ ap (λ (o : Option ℕ). definitions_at ts ds ++ process_set_defined (option_map (at ts) o)) (sym e)

pub set_within : (m : ℕ) (ds new : List Kept) (d : Kept) (set : Option ℕ) (body : ℕ) → set ≡ Some body → d.body ≡ body → new ≡ ds ++ d ∷ [] → DefinitionsIn m ds → MaybeIn m set → DefinitionsIn m new
set_within m ds new d set body e same is h k = subst (DefinitionsIn m) (sym is) (pushed ds h)
  where
    below : d.body < m
    below = subst (λ (n : ℕ). n < m) (sym same) (subst (MaybeIn m) e k)

    pushed : (xs : List Kept) → DefinitionsIn m xs → DefinitionsIn m (xs ++ d ∷ [])
    pushed [] h = (below, tt)
    pushed (x ∷ xs) h = (h.0, pushed xs h.1)

-- ---- the translation of a checked algorithm, over the pool that it grew

-- the definitions that were kept are those of what was read, in every pool
pub record AreKept (c : Checked) (ds : List Kept) : Type 0 where
  pub all : (vs : List Tree) → definitions_at vs ds ≡ found (map (definition_seen vs) c.outside.definitions.items) ++ map inner (algorithm_at vs c.algorithm).definitions
  pub within : (m : ℕ) → AreHeld m c.outside.definitions.items → past_algorithm c.algorithm ≤ m → DefinitionsIn m ds

pub are_kept : (c : Checked) (there : List ReadDefinition) → there ≡ c.outside.definitions.items → (ds : List Kept)
    → ((vs : List Tree) → definitions_at vs ds ≡ found (map (definition_seen vs) there) ++ map inner (algorithm_at vs c.algorithm).definitions)
    → ((m : ℕ) → AreHeld m there → past_algorithm c.algorithm ≤ m → DefinitionsIn m ds) → AreKept c ds
are_kept c there same ds all within = record {
  all = λ vs. all vs ∙ ap (λ (l : List ReadDefinition). found (map (definition_seen vs) l) ++ map inner (algorithm_at vs c.algorithm).definitions) same;
  within = λ m held past. within m (subst (AreHeld m) (sym same) held) past;
}

-- these have the definition of ProcSet besides
pub record HaveSet (r : Region) (old new : List Kept) : Type 0 where
  pub added : (vs : List Tree) → definitions_at vs new ≡ definitions_at vs old ++ process_set_defined (option_map (at vs) r.process_set)
  pub within : (m : ℕ) → DefinitionsIn m old → MaybeIn m r.process_set → DefinitionsIn m new

module _ (no_terminating : Bool) (ts us : List Tree) (kept : Keeps ts us) (c : Checked) (can : CanRun ts c) (r : Region) (ds all : List Kept) where
  read_same : found (map (definition_seen us) c.outside.definitions.items) ++ map inner (algorithm_at us c.algorithm).definitions
      ≡ found (map (definition_seen ts) c.outside.definitions.items) ++ map inner (algorithm_at ts c.algorithm).definitions
  read_same = λ i. found (read_kept ts us c.outside.definitions.items kept can.held i) ++ map inner (algorithm_at-kept ts us kept c.algorithm can.past i).definitions

  pub is_translation : region_at us r ≡ region_of no_terminating (with_names (outside_at ts c.outside) (algorithm_at ts c.algorithm)) → RegionIn (length us) r → AreKept c ds → HaveSet r ds all
      → IsTranslation no_terminating (outside_at ts c.outside) (algorithm_at ts c.algorithm) (record { pool = us; region = r; defs = all })
  is_translation is inside k s = record {
    stands = record {
      region = is;
      definitions = s.added us ∙ (λ i. (k.all us ∙ read_same) i ++ process_set_defined (is i).process_set);
    };
    within = record {
      region = inside;
      bodies = s.within (length us)
          (k.within (length us) (held_more (length ts) (length us) c.outside.definitions.items kept.longer can.held) (let p = can.past in let l = kept.longer in omega (arith, p, l)))
          inside.process_set;
    };
  }

-- a stop that is this refusal or want of memory
pub stop_of : (s : Stop) (R : Refusal → Type 0) → ((r : Refusal) → s ≡ stop.Refused r → R r) → IsStop R s
stop_of stop.Memory R h = tt
stop_of (stop.Refused r) R h = h r refl

-- ---- of a text

-- c, over these trees, is the algorithm of the text x, with which nothing is wrong
module _ (forced : Bool) (x : Text) (ts : List Tree) (c : Checked) (h : IsLabelled forced x ts c) (clean : AnswersChecking forced x None) where
  abbrev pub right_of : Right forced x
  right_of = record { clean = clean; typed = h.tree; holds = h.holds; outside = h.outside; has = h.has }

  not_large : too_large (algorithm_at ts c.algorithm) ≡ []
  not_large =
      let none = nothing_wrong clean.0 clean.2 in
      subst (λ (a : Algorithm). too_large a ≡ []) (sym h.algorithm) (both_none (label_offences (labelled forced h.tree)) (too_large (labelled forced h.tree)) (sym (clean.1.tree h.tree h.outside h.holds h.has).labels ∙ none.labels)).1

  of_right : (no_terminating : Bool) (t : Translation) → IsTranslation no_terminating (outside_at ts c.outside) (algorithm_at ts c.algorithm) t
      → (m : Right forced x) → IsTranslation no_terminating m.outside (algorithm_in m) t
  of_right no_terminating t is m =
      subst (λ (g : Algorithm). IsTranslation no_terminating m.outside g t) (h.algorithm ∙ ap (labelled forced) (one_typed forced x right_of m))
      (subst (λ (o : around.Outside). IsTranslation no_terminating o (algorithm_at ts c.algorithm) t) (h.is_outside ∙ one_outside forced x right_of m) is)

  pub translation_told : (no_terminating : Bool) (r : Result Translation Stop) → IfOk r (IsTranslation no_terminating (outside_at ts c.outside) (algorithm_at ts c.algorithm))
      → IfOk r (λ t. (m : Right forced x) → IsTranslation no_terminating m.outside (algorithm_in m) t)
  translation_told no_terminating (Ok t) is = of_right no_terminating t is
  translation_told no_terminating (Err e) is = tt

  no_refusal : (s : Stop) → IsStop (λ r. first (too_large (algorithm_at ts c.algorithm)) ≡ Some r) s → IsStop (λ r. AnswersChecking forced x (Some r)) s
  no_refusal stop.Memory k = tt
  no_refusal (stop.Refused r) k = absurd (none-some r (sym (ap first not_large) ∙ k))

  pub stop_told : (r : Result Translation Stop) → IfErr r (IsStop (λ q. first (too_large (algorithm_at ts c.algorithm)) ≡ Some q)) → IfErr r (IsStop (λ q. AnswersChecking forced x (Some q)))
  stop_told (Ok t) k = tt
  stop_told (Err s) k = no_refusal s k
