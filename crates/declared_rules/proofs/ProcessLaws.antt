-- What a process offends.
use Rattle.std.proofs.Common.{◌≡◌, Bool, true, false, List, [], ◌∷◌, ◌++◌, length, take, refl, sym, ap, ◌∙◌, subst, cond, bytes_eq, codes}
use Rattle.std.specs.List.{flat_map}
use Rattle.tla_token.specs.declared.rule.Refusal.{Refusal}
use Rattle.tla_token.specs.Signs.{is_among}
use Rattle.tla_tree.specs.Tree.{Word, Name, Tree}
use Rattle.tla_tree.specs.Pool.{at}
use Rattle.module_outside.specs.declared.modules.Modules.{Modules}
use Rattle.module_outside.specs.ModulesIn.{AreModules}
use Rattle.pcal_tree.specs.declared.algorithm.Process as memory
use Rattle.pcal_tree.specs.Algorithm.{Statements, Declaration, Procedure}
use Rattle.pcal_tree.specs.InMemory.{statements_at, declarations_at, process_at}
use Rattle.pcal_tree.specs.Offences.{first}
use Rattle.pcal_tree.specs.Variables.{declared}
use Rattle.pcal_tree.specs.OffencesRebind.{Standings, stands_for, naming, brought, any_name, self_alone, Piece, binds, frees, pieces, piece_names, bound_by, whole_rebinds, tree_rebinds, body_rebinds, Calls, locals_rebind, in_process_body, process_rebinds}
use Rattle.declared_rules.specs.declared.sight.Sight.{Sight}
use Rattle.declared_rules.specs.declared.bind_walk.Walk.{Walk}
use Rattle.declared_rules.specs.Telling.{told, Lets, Seen, Adds, AddsNaming}
use Rattle.declared_rules.specs.Keeping.{Tells}
use Rattle.declared_rules.specs.Processes.{body_scope, Singles}
use Rattle.declared_rules.proofs.TellLaws.{adds_then, adds_within}
use Rattle.declared_rules.proofs.PutLaws.{lets_here}
use Rattle.declared_rules.proofs.MacroLaws.{adds_first}
use Rattle.declared_rules.proofs.UnitLaws.{LocalWords, local_words}

-- near, nothing is put in
nothing_near : (near : Sight) (w : Walk) (ms : List Word) (s r : Standings) → near.stands ≡ [] → Seen near any_name w ms s r → (x : Word) → brought r x ≡ []
nothing_near near w ms s r e q x = lets_here near w ms [] s r (λ y h. sym (ap (λ (xs : List Word). is_among xs y) e) ∙ h) q x

lets_single : (near own : Sight) (ns : List Name) (r : Standings) → Singles near own → ((x : Word) → brought r x ≡ []) → Lets any_name own.stands (stands_for (codes "self") ns ∷ r)
lets_single near own ns r h e x =
    by (self_alone x) (e x) ∙ ap (λ (c : Bool). cond c (brought (stands_for (codes "self") ns ∷ r) x) []) (sym (h.stands x))
  where
    by : (b : Bool) → brought r x ≡ [] → cond b ns (brought r x) ≡ cond b (cond b ns (brought r x)) []
    by true k = refl
    by false k = k

pub single_adds : (near own : Sight) (j k : Walk) (found : Walk) (t : Tree) (x : Word) (f : List Word → Standings → List Refusal) → x ≡ codes "self" → Singles near own → Tells own any_name found f
    → Adds near any_name j k (λ ms r. told ms found (stands_for x (bound_by t r) ∷ r)) → Adds near any_name j k (λ ms r. f ms (body_scope false t r))
single_adds near own j k found t x f e h tells a =
    adds_first near any_name j k _ (λ ms r. f ms (body_scope false t r)) a (λ ms s r q.
    ap (λ (w : Word). first (told ms found (stands_for w (bound_by t r) ∷ r))) e
    ∙ tells ms (stands_for (codes "self") (bound_by t r) ∷ r) (subst (λ (m : Modules). AreModules m ms) h.modules q.modules) (lets_single near own (bound_by t r) r h (nothing_near near j ms s r h.alone q)))

-- text that is put in is the same where names are bound as well
naming_nothing : (xs : List Word) (r : Standings) → ((x : Word) → brought r x ≡ []) → (x : Word) → brought (naming xs r) x ≡ []
naming_nothing [] r e x = e x
naming_nothing (y ∷ ys) r e x = by (bytes_eq y x) (naming_nothing ys r e x)
  where
    by : (b : Bool) → brought (naming ys r) x ≡ [] → cond b [] (brought (naming ys r) x) ≡ []
    by true h = refl
    by false h = h

bound_same : (t : Tree) (r z : Standings) → ((x : Word) → brought r x ≡ brought z x) → bound_by t r ≡ bound_by t z
bound_same t r z e = λ i. flat_map (λ p. each p i) (pieces t [])
  where
    each : (p : Piece) → piece_names r p ≡ piece_names z p
    each (binds n) = refl
    each (frees x) = e x

abbrev pub Inside : List Word → (List Word → Calls) → List Procedure → List Tree → memory.Process → Standings → List Refusal
Inside ms C ps ts p r = body_rebinds ms ps (C ms) (statements_at ts p.body.items) r

pub process_adds : (near : Sight) (C : List Word → Calls) (ps : List Procedure) (ts : List Tree) (p : memory.Process) (i j k l m : Walk) → near.stands ≡ []
    → Adds near any_name i j (λ ms r. tree_rebinds ms any_name (at ts p.identity) r)
    → AddsNaming near any_name j k (LocalWords [] p.variables.items) (λ ms r. locals_rebind ms (declarations_at ts [] ++ declarations_at ts p.variables.items) r)
    → Adds near any_name k l (λ ms r. body_rebinds ms ps (C ms) (statements_at ts p.body.items) (body_scope p.several (at ts p.identity) r))
    → m.first ≡ l.first → m.free ≡ l.free → m.bound ≡ take (length j.bound) l.bound → Adds near any_name i m (λ ms r. process_rebinds ms ps (C ms) r (process_at ts p))
process_adds near C ps ts p i j k l m e u v w same free cut =
    adds_first near any_name i m _ (λ ms r. process_rebinds ms ps (C ms) r (process_at ts p))
    (adds_then near any_name i j m (λ ms r. whole_rebinds ms t r) (λ ms r. locals_rebind ms ds r ++ body_rebinds ms ps (C ms) b (body_scope p.several t (naming ws r))) u
    (adds_within near any_name j k l m ws (λ ms r. locals_rebind ms ds r) (λ ms r. body_rebinds ms ps (C ms) b (body_scope p.several t r)) v w same free cut))
    (λ ms s r q. ap (λ (z : Standings). first (whole_rebinds ms t r ++ (locals_rebind ms ds r ++ body_rebinds ms ps (C ms) b z))) (scope r (nothing_near near i ms s r e q)))
  where
    t : Tree
    t = at ts p.identity

    b : Statements
    b = statements_at ts p.body.items

    ds : List Declaration
    ds = declarations_at ts p.variables.items

    ws : List Word
    ws = LocalWords [] p.variables.items

    scope : (r : Standings) → ((x : Word) → brought r x ≡ []) → body_scope p.several t (naming ws r) ≡ in_process_body (process_at ts p) r
    scope r h =
        ap (λ (xs : List Word). body_scope p.several t (naming xs r)) (local_words ts [] p.variables.items)
        ∙ ap (λ (ns : List Name). cond p.several (naming (declared ds) r) (stands_for (codes "self") ns ∷ naming (declared ds) r)) (bound_same t (naming (declared ds) r) r (λ x. naming_nothing (declared ds) r h x ∙ sym (h x)))
