-- What is declared and defined, and bodies where they stand.
use Rattle.std.proofs.Common.{◌≡◌, ℕ, ◌+◌, ◌<◌, ◌≤◌, List, [], ◌∷◌, ◌++◌, length, take, drop, map, get_or, refl, sym, ap, ◌∙◌, subst, append-nil, append_assoc}
use Rattle.std.proofs.lemmas.List.{drop_more, drop_all, map-append}
use Rattle.std.proofs.lemmas.Grind.{flat_map-append}
use Rattle.tla_token.specs.declared.rule.Refusal.{Refusal}
use Rattle.tla_tree.specs.Tree.{Word, Name, Tree, words}
use Rattle.tla_tree.specs.Pool.{at}
use Rattle.pcal_tree.specs.declared.algorithm.Declaration as memory
use Rattle.pcal_tree.specs.declared.algorithm.Definition as memory_definition
use Rattle.pcal_tree.specs.declared.algorithm.Procedure as memory_procedure
use Rattle.pcal_tree.specs.Algorithm.{Declaration, Definition, Procedure}
use Rattle.pcal_tree.specs.InMemory.{statements_at, declarations_at, definitions_at, procedure_at}
use Rattle.pcal_tree.specs.Offences.{first}
use Rattle.pcal_tree.specs.OffencesNames.{names_of}
use Rattle.pcal_tree.specs.Variables.{declared}
use Rattle.pcal_tree.specs.OffencesRebind.{Standings, naming, rebound, rebound_all, any_name, start_rebinds, starts_rebind, whole_rebinds, body_rebinds, Calls, definitions_rebind, locals_rebind, procedure_rebinds}
use Rattle.algorithm_limits.specs.DepthsIn.{Hides}
use Rattle.algorithm_limits.proofs.BoundLemmas.{hides_none, hides_then}
use Rattle.declared_rules.specs.declared.sight.Sight.{Sight}
use Rattle.declared_rules.specs.declared.bind_walk.Walk.{Walk}
use Rattle.declared_rules.specs.Telling.{told, Adds, AddsNaming}
use Rattle.declared_rules.specs.Units.{declared_names}
use Rattle.declared_rules.proofs.TellLaws.{first_then, seen_kept, seen_more, adds_as, adds_then, adds_within, naming_alone}
use Rattle.declared_rules.proofs.BindBodyLaws.{bind_adds}

-- ---- declarations

names_are : (ts : List Tree) (ds : List memory.Declaration) → declared_names ds ≡ names_of (declarations_at ts ds)
names_are ts [] = refl
names_are ts (d ∷ ds) = ap (λ (ns : List Name). d.name ∷ ns) (names_are ts ds)

pub words_are : (ts : List Tree) (ds : List memory.Declaration) → words (declared_names ds) ≡ declared (declarations_at ts ds)
words_are ts [] = refl
words_are ts (d ∷ ds) = ap (λ (ws : List Word). d.name.word ∷ ws) (words_are ts ds)

abbrev pub LocalWords : List memory.Declaration → List memory.Declaration → List Word
LocalWords ps vs = words (declared_names ps) ++ words (declared_names vs)

pub local_words : (ts : List Tree) (ps vs : List memory.Declaration) → LocalWords ps vs ≡ declared (declarations_at ts ps ++ declarations_at ts vs)
local_words ts ps vs = (λ i. words_are ts ps i ++ words_are ts vs i) ∙ sym (map-append (λ (d : Declaration). d.name.word) (declarations_at ts ps) (declarations_at ts vs))

locals_are : (ts : List Tree) (ms : List Word) (r : Standings) (ps vs : List memory.Declaration)
    → (rebound_all ms r (declared_names ps) ++ rebound_all ms r (declared_names vs))
    ++ (starts_rebind ms any_name (declarations_at ts ps) (naming (LocalWords ps vs) r) ++ starts_rebind ms any_name (declarations_at ts vs) (naming (LocalWords ps vs) r))
    ≡ locals_rebind ms (declarations_at ts ps ++ declarations_at ts vs) r
locals_are ts ms r ps vs = λ i. heads i ++ values i
  where
    A : List Declaration
    A = declarations_at ts ps

    B : List Declaration
    B = declarations_at ts vs

    heads : rebound_all ms r (declared_names ps) ++ rebound_all ms r (declared_names vs) ≡ rebound_all ms r (names_of (A ++ B))
    heads =
        (λ i. rebound_all ms r (names_are ts ps i) ++ rebound_all ms r (names_are ts vs i))
        ∙ sym (ap (rebound_all ms r) (map-append (λ (d : Declaration). d.name) A B) ∙ flat_map-append (rebound ms r) (names_of A) (names_of B))

    values : starts_rebind ms any_name A (naming (LocalWords ps vs) r) ++ starts_rebind ms any_name B (naming (LocalWords ps vs) r) ≡ starts_rebind ms any_name (A ++ B) (naming (declared (A ++ B)) r)
    values =
        sym (flat_map-append (λ (d : Declaration). start_rebinds ms any_name d.start (naming (LocalWords ps vs) r)) A B)
        ∙ ap (λ (xs : List Word). starts_rebind ms any_name (A ++ B) (naming xs r)) (local_words ts ps vs)

module _ (g : Sight) (ts : List Tree) where
  pub locals_adds : (i j k l m n : Walk) (ps vs : List memory.Declaration) → Adds g any_name i j (λ ms r. rebound_all ms r (declared_names ps)) → Adds g any_name j k (λ ms r. rebound_all ms r (declared_names vs))
      → l.first ≡ k.first → l.free ≡ k.free → Hides k.bound l.bound (LocalWords ps vs) → Adds g any_name l m (λ ms r. starts_rebind ms any_name (declarations_at ts ps) r)
      → Adds g any_name m n (λ ms r. starts_rebind ms any_name (declarations_at ts vs) r) → AddsNaming g any_name i n (LocalWords ps vs) (λ ms r. locals_rebind ms (declarations_at ts ps ++ declarations_at ts vs) r)
  locals_adds i j k l m n ps vs u v same free h w x = record {
    hides = subst (λ (b : List Word). Hides i.bound b ws) (sym after.bound) (subst (λ (b : List Word). Hides b l.bound ws) heads.bound h);
    tells = λ ms s r q.
        first_then (told ms l s) (told ms i s) (H ms r) (V ms (naming ws r)) (told ms n s)
        ((λ z. first (told ms (record { bound = l.bound; first = same z; free = free z }) s)) ∙ heads.tells ms s r q)
        (after.tells ms s (naming ws r) (seen_more g any_name k l ms ws s r h (seen_kept g any_name i k ms s r heads.bound q)))
        ∙ ap (λ (rs : List Refusal). first (told ms i s ++ rs)) (locals_are ts ms r ps vs);
  }
    where
      ws : List Word
      ws = LocalWords ps vs

      H : List Word → Standings → List Refusal
      H ms r = rebound_all ms r (declared_names ps) ++ rebound_all ms r (declared_names vs)

      V : List Word → Standings → List Refusal
      V ms r = starts_rebind ms any_name (declarations_at ts ps) r ++ starts_rebind ms any_name (declarations_at ts vs) r

      heads : Adds g any_name i k H
      heads = adds_then g any_name i j k (λ ms r. rebound_all ms r (declared_names ps)) (λ ms r. rebound_all ms r (declared_names vs)) u v

      after : Adds g any_name l n V
      after = adds_then g any_name l m n (λ ms r. starts_rebind ms any_name (declarations_at ts ps) r) (λ ms r. starts_rebind ms any_name (declarations_at ts vs) r) w x

  -- ---- definitions

  abbrev pub Defined : List Name → Tree → List Word → Standings → List Refusal
  Defined ns e ms r = rebound_all ms r ns ++ whole_rebinds ms e (naming (words ns) r)

  pub definition_adds : (i j k l m n : Walk) (ns : List Name) (e : Tree) (x : Word) → Adds g any_name i j (λ ms r. rebound_all ms r ns) → k.first ≡ j.first → k.free ≡ j.free → Hides j.bound k.bound (words ns)
      → Adds g any_name k l (λ ms r. whole_rebinds ms e r) → m.first ≡ l.first → m.free ≡ l.free → m.bound ≡ take (length j.bound) l.bound → n.first ≡ m.first → n.free ≡ m.free → Hides m.bound n.bound (x ∷ [])
      → AddsNaming g any_name i n (x ∷ []) (Defined ns e)
  definition_adds i j k l m n ns e x u first free h v same kept cut fin fre z =
      bind_adds g any_name i m n x (Defined ns e)
      (adds_then g any_name i j m (λ ms r. rebound_all ms r ns) (λ ms r. whole_rebinds ms e (naming (words ns) r)) u
      (adds_within g any_name j k l m (words ns) (λ ms r. []) (λ ms r. whole_rebinds ms e r) (naming_alone g any_name j k (words ns) first free h) v same kept cut)) fin fre z

  abbrev pub AddsDefinitions : List memory_definition.Definition → Walk → Walk → Type 0
  AddsDefinitions ds j k = AddsNaming g any_name j k (map (λ (d : Definition). d.name.word) (definitions_at ts ds)) (λ ms r. definitions_rebind ms (definitions_at ts ds) r)

  definition_then : (j k l : Walk) (d : memory_definition.Definition) (ds : List memory_definition.Definition) → AddsNaming g any_name j k (d.name.word ∷ []) (Defined d.params.items (at ts d.body)) → AddsDefinitions ds k l → AddsDefinitions (d ∷ ds) j l
  definition_then j k l d ds a h = record {
    hides = hides_then j.bound k.bound l.bound (d.name.word ∷ []) (map (λ (d : Definition). d.name.word) (definitions_at ts ds)) a.hides h.hides;
    tells = λ ms s r q.
        let inner = naming (d.name.word ∷ []) r in
        first_then (told ms k s) (told ms j s) (Defined d.params.items (at ts d.body) ms r) (definitions_rebind ms (definitions_at ts ds) inner) (told ms l s) (a.tells ms s r q)
        (h.tells ms s inner (seen_more g any_name j k ms (d.name.word ∷ []) s r a.hides q))
        ∙ ap (λ (rs : List Refusal). first (told ms j s ++ rs))
        (append_assoc (rebound_all ms r d.params.items) (whole_rebinds ms (at ts d.body) (naming (words d.params.items) r)) (definitions_rebind ms (definitions_at ts ds) inner));
  }

  pub definitions_step : (j k l : Walk) (ds : List memory_definition.Definition) (i : ℕ) (d : memory_definition.Definition) → d ≡ get_or ds i d → i < length ds
      → AddsNaming g any_name j k (d.name.word ∷ []) (Defined d.params.items (at ts d.body)) → AddsDefinitions (drop (i + 1) ds) k l → AddsDefinitions (drop i ds) j l
  definitions_step j k l ds i d e less a h =
      subst (λ (es : List memory_definition.Definition). AddsDefinitions es j l) (ap (λ (z : memory_definition.Definition). z ∷ drop (i + 1) ds) e ∙ sym (drop_more ds i d less)) (definition_then j k l d (drop (i + 1) ds) a h)

  pub definitions_done : (k : Walk) (ds : List memory_definition.Definition) (i : ℕ) → length ds ≤ i → AddsDefinitions (drop i ds) k k
  definitions_done k ds i less =
      subst (λ (es : List memory_definition.Definition). AddsDefinitions es k k) (sym (drop_all i ds less)) (record { hides = hides_none k.bound; tells = λ ms s r q. ap first (sym (append-nil (told ms k s))) })

  -- ---- procedures

  pub procedure_adds : (C : List Word → Calls) (qs : List Procedure) (p : memory_procedure.Procedure) (i j k l : Walk)
      → AddsNaming g any_name i j (LocalWords p.params.items p.variables.items) (λ ms r. locals_rebind ms (declarations_at ts p.params.items ++ declarations_at ts p.variables.items) r)
      → Adds g any_name j k (λ ms r. body_rebinds ms qs (C ms) (statements_at ts p.body.items) r) → l.first ≡ k.first → l.free ≡ k.free → l.bound ≡ take (length i.bound) k.bound
      → Adds g any_name i l (λ ms r. procedure_rebinds ms qs (C ms) r (procedure_at ts p))
  procedure_adds C qs p i j k l u v same free cut =
      adds_as g any_name i l _ _ (λ ms r. ap (λ (xs : List Word). locals_rebind ms ds r ++ body_rebinds ms qs (C ms) (statements_at ts p.body.items) (naming xs r)) (local_words ts p.params.items p.variables.items))
      (adds_within g any_name i j k l ws (λ ms r. locals_rebind ms ds r) (λ ms r. body_rebinds ms qs (C ms) (statements_at ts p.body.items) r) u v same free cut)
    where
      ds : List Declaration
      ds = declarations_at ts p.params.items ++ declarations_at ts p.variables.items

      ws : List Word
      ws = LocalWords p.params.items p.variables.items
