-- What is found in routines, and told by what is known where they stand.
use Rattle.std.proofs.Common.{◌≡◌, ℕ, ◌+◌, ◌<◌, ◌≤◌, Bool, true, false, List, [], ◌∷◌, ◌++◌, length, take, drop, map, get_or, reverse, cond, Option, Some, None, refl, sym, ap, ◌∙◌, subst, append-nil, append_assoc}
use Rattle.std.specs.List.{flat_map}
use Rattle.std.proofs.lemmas.List.{drop_more, drop_all, take_more, take_all, map-append}
use Rattle.std.proofs.lemmas.Grind.{flat_map-append}
use Rattle.tla_token.specs.declared.rule.Refusal.{Refusal}
use Rattle.tla_token.specs.Signs.{is_among}
use Rattle.tla_tree.specs.Tree.{Word, Name, Tree, words}
use Rattle.tla_tree.specs.Pool.{at}
use Rattle.pcal_tree.specs.declared.algorithm.Declaration as code
use Rattle.pcal_tree.specs.declared.algorithm.Definition as code_definition
use Rattle.pcal_tree.specs.Algorithm.{Declaration, Statements, Procedure}
use Rattle.pcal_tree.specs.InMemory.{start_at, declarations_at, definition_at, definitions_at}
use Rattle.pcal_tree.specs.Offences.{first}
use Rattle.pcal_tree.specs.NameUses as names
use Rattle.pcal_tree.specs.NameUses.{takes, variable, use_of, knowing, seeing_plain, seeing_variables}
use Rattle.pcal_tree.specs.OffencesNames.{Calls, in_start, in_declared, in_whole, in_body, in_definitions, defined_inside}
use Rattle.pcal_tree.specs.Variables.{declared}
use Rattle.pcal_tree.specs.laws.MacroUses.{offences_as}
use Rattle.algorithm_answer.specs.Joined.{joined}
use Rattle.algorithm_answer.proofs.Joins.{joined_assoc, joined_none, first_append}
use Rattle.algorithm_limits.specs.DepthsIn.{Hides}
use Rattle.algorithm_limits.proofs.BoundLemmas.{hides_then, hides_as}
use Rattle.module_outside.specs.SightIn.{Binds}
use Rattle.module_outside.proofs.SightLaws.{binds_all}
use Rattle.declared_rules.specs.declared.using.NameUse.{NameUse}
use Rattle.declared_rules.specs.declared.using.Use.TheVariants as known
use Rattle.name_rules.specs.declared.found.Found.{Found}
use Rattle.declared_rules.specs.declared.use_sight.Sight.{Sight}
use Rattle.declared_rules.specs.UsesTold.{use_seen, use_as, place_in, looked, told_by, Inside}
use Rattle.name_rules.specs.Finding.{told, Tells}
use Rattle.declared_rules.specs.UsesSeen.{Alike, use_in, within_use, Sees}
use Rattle.read_rules.specs.NumbersIn.{declared_in}
use Rattle.name_rules.specs.Routines.{routine_offences}
use Rattle.name_rules.proofs.TellLaws.{tells_none, tells_as, tells_then, inside_none, inside_all}
use Rattle.declared_rules.proofs.SeenLaws.{sees_is, alike_among, latest, latest_more, turned}

-- ---- first values: what is left still gives the whole

pub declared_then : (ts : List Tree) (j k l : Found) (ds : List code.Declaration) (i : ℕ) (d : code.Declaration) → d ≡ get_or ds i d → i < length ds → Tells j k (in_start (start_at ts d.start)) → Tells k l (in_declared (declarations_at ts (drop (i + 1) ds)))
    → Tells j l (in_declared (declarations_at ts (drop i ds)))
declared_then ts j k l ds i d e less a h =
    tells_as j l _ _ (λ r. ap (λ (cs : List code.Declaration). in_declared (declarations_at ts cs) r) (ap (λ (z : code.Declaration). z ∷ drop (i + 1) ds) e ∙ sym (drop_more ds i d less)))
    (tells_then j k l (in_start (start_at ts d.start)) (in_declared (declarations_at ts (drop (i + 1) ds))) a h)

pub declared_done : (ts : List Tree) (k : Found) (ds : List code.Declaration) (i : ℕ) → length ds ≤ i → Tells k k (in_declared (declarations_at ts (drop i ds)))
declared_done ts k ds i less = tells_as k k _ _ (λ r. ap (λ (cs : List code.Declaration). in_declared (declarations_at ts cs) r) (sym (drop_all i ds less))) (tells_none k)

-- ---- names of variables

declared_words : (ts : List Tree) (ds : List code.Declaration) → declared_in ds ≡ declared (declarations_at ts ds)
declared_words ts [] = refl
declared_words ts (d ∷ ds) = ap (λ (ws : List Word). d.name.word ∷ ws) (declared_words ts ds)

pub own_binds : (ts : List Tree) (new a b : List Word) (ds es : List code.Declaration) → new ≡ [] → Hides new a (declared_in ds) → Hides a b (declared_in es) → Binds b (declared (declarations_at ts ds ++ declarations_at ts es))
own_binds ts new a b ds es e h k =
    binds_all b (declared (declarations_at ts ds ++ declarations_at ts es))
    (hides_as [] b _ _ ((λ i. declared_words ts ds i ++ declared_words ts es i) ∙ sym (map-append (λ (d : Declaration). d.name.word) (declarations_at ts ds) (declarations_at ts es)))
    (hides_then [] a b (declared_in ds) (declared_in es) (subst (λ (hs : List Word). Hides hs a (declared_in ds)) e h) k))

-- ---- what is told

within_alike : (v : Sight) (hs xs : List Word) (s : names.Sight) → Sees v s → Binds hs xs → (x : Word) → Alike (use_seen (within_use v hs x)) (use_of (seeing_variables xs s) x)
within_alike v hs xs s h b x k y p =
    ap (λ (t : Bool). offences_as (use_seen (cond t known.Variable (use_in v x))) (use_as k y p)) (b x)
    ∙ by (is_among xs x)
    ∙ ap (λ (o : Option names.Use). offences_as o (use_as k y p)) (sym (alike_among variable xs s x))
  where
    by : (t : Bool) → offences_as (use_seen (cond t known.Variable (use_in v x))) (use_as k y p) ≡ offences_as (cond t (Some variable) (use_of s x)) (use_as k y p)
    by true = refl
    by false = h.same x k y p

pub told_step : (v : Sight) (hs xs : List Word) (s : names.Sight) (o a b r : Option Refusal) (vs : List NameUse) (i : ℕ) (u : NameUse) → Sees v s → Binds hs xs → u ≡ get_or vs i u → i < length vs
    → b ≡ first (offences_as (use_seen (within_use v hs u.name)) (use_as u.kind u.name (place_in u))) → r ≡ joined a b
    → a ≡ told_by o (take i vs) (seeing_variables xs s) → r ≡ told_by o (take (i + 1) vs) (seeing_variables xs s)
told_step v hs xs s o a b r vs i u h n e l f g q =
    let w = seeing_variables xs s in
    g ∙ (λ z. joined (q z) ((f ∙ ap first (within_alike v hs xs s h n u.name u.kind u.name (place_in u))) z))
    ∙ joined_assoc o (first (flat_map (looked w) (take i vs))) (first (looked w u))
    ∙ ap (joined o) (ap (λ (rs : List Refusal). joined (first (flat_map (looked w) (take i vs))) (first rs)) (sym (append-nil (looked w u)))
    ∙ sym (first_append (flat_map (looked w) (take i vs)) (looked w u ++ []))
    ∙ ap first (sym (flat_map-append (looked w) (take i vs) (u ∷ [])))
    ∙ ap (λ (us : List NameUse). first (flat_map (looked w) us)) (ap (λ (z : NameUse). take i vs ++ z ∷ []) e ∙ sym (take_more vs i u l)))

pub told_all : (o a : Option Refusal) (vs us : List NameUse) (i : ℕ) (w : names.Sight) → us ≡ vs → length us ≤ i → a ≡ told_by o (take i us) w → a ≡ told_by o vs w
told_all o a vs us i w e l h = h ∙ ap (λ (zs : List NameUse). told_by o zs w) (take_all i us l ∙ e)

pub told_inside : (old new : Found) (offends : names.Sight → List Refusal) (s r : names.Sight) → old.first ≡ None → old.free.keys ≡ [] → Inside old.bound s r → Tells old new offends → told new s ≡ first (offends r)
told_inside old new offends s r f k b h = h.tells s r b ∙ (λ i. joined (told_by (f i) (k i) s) (first (offends r)))

pub inside_empty : (hs : List Word) (s : names.Sight) → hs ≡ [] → Inside hs s s
inside_empty hs s e = subst (λ (xs : List Word). Inside xs s s) (sym e) (inside_none s)

pub inside_params : (new hs xs : List Word) (s : names.Sight) → new ≡ [] → Hides new hs xs → Inside hs s (seeing_plain xs s)
inside_params new hs xs s e h = inside_all hs xs s (subst (λ (ys : List Word). Hides ys hs xs) e h)

pub none_own : (hs : List Word) → hs ≡ [] → Binds hs []
none_own hs e = subst (λ (xs : List Word). Binds xs []) (sym e) (λ x. refl)

-- ---- a routine

pub routine_told : (C : Calls) (ps : List Procedure) (s : names.Sight) (ts : List Tree) (new i j k : Found) (ds es : List code.Declaration) (b : Statements) (r : Option Refusal)
    → new.first ≡ None → new.free.keys ≡ [] → new.bound ≡ [] → Tells new i (in_declared (declarations_at ts ds)) → Tells i j (in_declared (declarations_at ts es)) → Tells j k (in_body C ps b)
    → r ≡ told k (seeing_variables (declared (declarations_at ts ds ++ declarations_at ts es)) s) → r ≡ first (routine_offences C ps (declarations_at ts ds ++ declarations_at ts es) b s)
routine_told C ps s ts new i j k ds es b r f q e a h m t =
    let w = seeing_variables (declared (declarations_at ts ds ++ declarations_at ts es)) s in
    t ∙ told_inside new k (λ v. in_declared (declarations_at ts ds) v ++ (in_declared (declarations_at ts es) v ++ in_body C ps b v)) w w f q (inside_empty new.bound w e)
    (tells_then new i k (in_declared (declarations_at ts ds)) (λ v. in_declared (declarations_at ts es) v ++ in_body C ps b v) a (tells_then i j k (in_declared (declarations_at ts es)) (in_body C ps b) h m))
    ∙ ap first (sym (append_assoc (in_declared (declarations_at ts ds) w) (in_declared (declarations_at ts es) w) (in_body C ps b w))
    ∙ ap (λ (rs : List Refusal). rs ++ in_body C ps b w) (sym (flat_map-append (λ (d : Declaration). in_start d.start w) (declarations_at ts ds) (declarations_at ts es))))

-- ---- definitions, each of which sees those before it

abbrev pub known_inside : code_definition.Definition → names.Known
known_inside d = knowing (takes (length d.params.items)) d.name.word

pub record Defining (ts : List Tree) (ds : List code_definition.Definition) (old now : Sight) (found : Option Refusal) (i : ℕ) : Type 0 where
  pub told : (s : names.Sight) → Sees old s → joined found (first (in_definitions (definitions_at ts (drop i ds)) (latest known_inside (take i ds) s))) ≡ first (in_definitions (definitions_at ts ds) s)
  pub seen : (s : names.Sight) → Sees old s → Sees now (latest known_inside (take i ds) s)

pub defining_start : (ts : List Tree) (ds : List code_definition.Definition) (v : Sight) → Defining ts ds v v None 0
defining_start ts ds v = record { told = λ s h. refl; seen = λ s h. h }

pub defining_next : (ts : List Tree) (ds : List code_definition.Definition) (old now next : Sight) (found one last : Option Refusal) (i : ℕ) (d : code_definition.Definition) → d ≡ get_or ds i d → i < length ds
    → ((s : names.Sight) → Sees now s → one ≡ first (in_whole (at ts d.body) (seeing_plain (words d.params.items) s))) → last ≡ joined found one
    → ((s : names.Sight) → Sees now s → Sees next (known_inside d ∷ s)) → Defining ts ds old now found i → Defining ts ds old next last (i + 1)
defining_next ts ds old now next found one last i d e l f g q h = record {
  told = λ s a.
      let w = latest known_inside (take i ds) s in
      let here = in_whole (at ts d.body) (seeing_plain (words d.params.items) w) in
      let rest = in_definitions (definitions_at ts (drop (i + 1) ds)) in
      (λ z. joined ((g ∙ ap (joined found) (f w (h.seen s a))) z) (first (rest (sym (latest_more known_inside ds i d s e l) z))))
      ∙ joined_assoc found (first here) (first (rest (known_inside d ∷ w)))
      ∙ ap (joined found) (sym (first_append here (rest (known_inside d ∷ w)))
      ∙ ap (λ (cs : List code_definition.Definition). first (in_definitions (definitions_at ts cs) w)) (ap (λ (z : code_definition.Definition). z ∷ drop (i + 1) ds) e ∙ sym (drop_more ds i d l)))
      ∙ h.told s a;
  seen = λ s a. sees_is next _ _ (latest_more known_inside ds i d s e l) (q (latest known_inside (take i ds) s) (h.seen s a));
}

-- by the parameters as they were read
pub defining_step : (ts : List Tree) (ds : List code_definition.Definition) (old now next : Sight) (found one last : Option Refusal) (i : ℕ) (d : code_definition.Definition) (xs : List Name) → d ≡ get_or ds i d → i < length ds → xs ≡ d.params.items
    → ((s : names.Sight) → Sees now s → one ≡ first (in_whole (at ts d.body) (seeing_plain (words xs) s))) → last ≡ joined found one
    → ((s : names.Sight) → Sees now s → Sees next (known_inside d ∷ s)) → Defining ts ds old now found i → Defining ts ds old next last (i + 1)
defining_step ts ds old now next found one last i d xs e l p f g q h =
    defining_next ts ds old now next found one last i d e l (λ s a. f s a ∙ ap (λ (ys : List Name). first (in_whole (at ts d.body) (seeing_plain (words ys) s))) p) g q h

pub defining_told : (ts : List Tree) (ds : List code_definition.Definition) (old now : Sight) (found : Option Refusal) (i : ℕ) → length ds ≤ i → Defining ts ds old now found i
    → (s : names.Sight) → Sees old s → found ≡ first (in_definitions (definitions_at ts ds) s)
defining_told ts ds old now found i l h s a =
    sym (joined_none found) ∙ ap (λ (cs : List code_definition.Definition). joined found (first (in_definitions (definitions_at ts cs) (latest known_inside (take i ds) s)))) (sym (drop_all i ds l)) ∙ h.told s a

pub inside_latest : (ts : List Tree) (ds : List code_definition.Definition) (s : names.Sight) → reverse (map known_inside ds) ++ s ≡ map defined_inside (reverse (definitions_at ts ds)) ++ s
inside_latest ts ds s = ap (λ (ks : names.Sight). ks ++ s) (ap reverse (each ds) ∙ turned defined_inside (definition_at ts) ds)
  where
    each : (cs : List code_definition.Definition) → map known_inside cs ≡ map (λ (d : code_definition.Definition). defined_inside (definition_at ts d)) cs
    each [] = refl
    each (d ∷ cs) = ap (λ (ks : names.Sight). known_inside d ∷ ks) (each cs)

-- ---- one routine after another

module _ {X Y : Type 0} (g : Y → List Refusal) (f : X → Y) (all : Option Refusal) where
  pub each_next : (xs : List X) (i : ℕ) (x : X) (found one last : Option Refusal) → x ≡ get_or xs i x → i < length xs → one ≡ first (g (f x)) → last ≡ joined found one
      → joined found (first (flat_map g (map f (drop i xs)))) ≡ all → joined last (first (flat_map g (map f (drop (i + 1) xs)))) ≡ all
  each_next xs i x found one last e l h q inv =
      (λ z. joined ((q ∙ ap (joined found) h) z) (first (flat_map g (map f (drop (i + 1) xs)))))
      ∙ joined_assoc found (first (g (f x))) (first (flat_map g (map f (drop (i + 1) xs))))
      ∙ ap (joined found) (sym (first_append (g (f x)) (flat_map g (map f (drop (i + 1) xs))))
      ∙ ap (λ (ys : List X). first (flat_map g (map f ys))) (ap (λ (z : X). z ∷ drop (i + 1) xs) e ∙ sym (drop_more xs i x l)))
      ∙ inv

  pub each_done : (xs : List X) (i : ℕ) (found : Option Refusal) → length xs ≤ i → joined found (first (flat_map g (map f (drop i xs)))) ≡ all → found ≡ all
  each_done xs i found l inv = sym (joined_none found) ∙ ap (λ (ys : List X). joined found (first (flat_map g (map f ys)))) (sym (drop_all i xs l)) ∙ inv

-- ---- all

pub in_order : (a b p m : List Refusal) (w x y z : Option Refusal) → w ≡ first a → x ≡ first b → y ≡ first p → z ≡ first m → joined w (joined x (joined y z)) ≡ first (a ++ (b ++ (p ++ m)))
in_order a b p m w x y z e f g h =
    (λ i. joined (e i) (joined (f i) (joined (g i) (h i))))
    ∙ ap (λ (o : Option Refusal). joined (first a) (joined (first b) o)) (sym (first_append p m))
    ∙ ap (joined (first a)) (sym (first_append b (p ++ m)))
    ∙ sym (first_append a (b ++ (p ++ m)))
