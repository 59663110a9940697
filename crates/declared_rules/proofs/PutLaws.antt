-- What is put in where something is called, and what is kept of what is called.
use Rattle.std.proofs.Common.{◌≡◌, ℕ, zero, suc, arith, ◌+◌, ◌<◌, ◌≤◌, Bool, true, false, ◌&&◌, ◌||◌, List, [], ◌∷◌, ◌++◌, length, drop, get_or, Vec, Global, Option, Some, None, IsTrue, ◌↔◌, refl, sym, ap, ◌∙◌, cond, bytes_eq, append-nil}
use Rattle.std.specs.List.{flat_map}
use Rattle.std.proofs.lemmas.List.{drop_more, drop_all}
use Rattle.std.proofs.lemmas.Grind.{flat_map-append}
use Rattle.std.proofs.lemmas.Slice.Eq.{bytes_eq-Decides}
use Rattle.tla_token.specs.declared.rule.Rule.TheVariants.{Rebind}
use Rattle.tla_token.specs.declared.rule.Refusal.{Refusal}
use Rattle.tla_token.specs.Signs.{is_among}
use Rattle.tla_tree.specs.Tree.{Word, Name, Trees, no_trees, tree}
use Rattle.module_outside.specs.ModulesIn.{AreModules}
use Rattle.pcal_tree.specs.Offences.{offence_if, first}
use Rattle.pcal_tree.specs.OffencesRebind.{Standings, naming, in_scope, brought, may_rebind, rebound, rebound_all, any_name, Piece, binds, frees, pieces, piece_names, bound_by, Calls, putting_in}
use Rattle.pcal_tree.proofs.RebindNames.{same_scope}
use Rattle.declared_rules.specs.declared.pieces.Piece as declared
use Rattle.declared_rules.specs.declared.sight.Sight.{Sight}
use Rattle.declared_rules.specs.declared.bind_walk.Walk.{Walk}
use Rattle.declared_rules.specs.declared.kept.Kept.{Kept}
use Rattle.declared_rules.specs.declared.kept.Keeps.{Keeps}
use Rattle.declared_rules.specs.Telling.{sure, told, Lets, Seen, Gains, Adds}
use Rattle.declared_rules.specs.Gathering.{piece_of, list_of, lists_of, each_pieces}
use Rattle.declared_rules.specs.Keeping.{argument_of, Within, kept_by, kept_tells, Knows}
use Rattle.algorithm_answer.specs.Joined.{joined}
use Rattle.declared_rules.proofs.TellLaws.{first_same_before, first_sure, adds_then, gains_adds}
use Rattle.declared_rules.proofs.LeafLaws.{put_seen, gains_first}

-- ---- where arguments are put in

scope_putting : (ps : List Name) (ts : Trees) (s r : Standings) (w : Word) → in_scope (putting_in ps ts s r) w ≡ in_scope r w
scope_putting [] ts s r w = refl
scope_putting (p ∷ ps) no_trees s r w = refl
scope_putting (p ∷ ps) (tree t ts) s r w = scope_putting ps ts s r w

abbrev pub names_from : Option (List Piece) → Standings → List Name → List Name
names_from (Some a) s ns = flat_map (piece_names s) a
names_from None s ns = ns

brought_put : (ps : List Name) (ts : Trees) (s r : Standings) (w : Word) → brought (putting_in ps ts s r) w ≡ names_from (argument_of ps (each_pieces ts) w) s (brought r w)
brought_put [] ts s r w = refl
brought_put (p ∷ ps) no_trees s r w = refl
brought_put (p ∷ ps) (tree t ts) s r w = by (bytes_eq p.word w) (brought_put ps ts s r w)
  where
    by : (b : Bool) → brought (putting_in ps ts s r) w ≡ names_from (argument_of ps (each_pieces ts) w) s (brought r w)
        → cond b (bound_by t s) (brought (putting_in ps ts s r) w) ≡ names_from (cond b (Some (pieces t [])) (argument_of ps (each_pieces ts) w)) s (brought r w)
    by true h = refl
    by false h = h

pub bound_put : (ms : List Word) (ps : List Name) (ts : Trees) (r : Standings) (n : Name) → rebound ms r n ≡ rebound ms (putting_in ps ts r r) n
bound_put ms ps ts r n = sym (λ i. offence_if (scope_putting ps ts r r n.word i && may_rebind ms n.word) Rebind n.place)

brought_is : (ps : List Name) (bs : List (List Piece)) (ts : Trees) (r : Standings) (x : Word) (o : Option (List Piece)) → bs ≡ each_pieces ts → argument_of ps bs x ≡ o
    → names_from o r (brought r x) ≡ brought (putting_in ps ts r r) x
brought_is ps bs ts r x o e h = sym (brought_put ps ts r r x ∙ ap (λ (u : Option (List Piece)). names_from u r (brought r x)) (ap (λ (cs : List (List Piece)). argument_of ps cs x) (sym e) ∙ h))

pub standing_put : (ms : List Word) (ps : List Name) (bs : List (List Piece)) (ts : Trees) (r : Standings) (x : Word) (o : Option (List Piece)) → bs ≡ each_pieces ts → argument_of ps bs x ≡ o
    → rebound_all ms r (names_from o r (brought r x)) ≡ rebound_all ms (putting_in ps ts r r) (brought (putting_in ps ts r r) x)
standing_put ms ps bs ts r x o e h =
    let inner = putting_in ps ts r r in
    ap (rebound_all ms r) (brought_is ps bs ts r x o e h) ∙ sym (same_scope ms inner r (scope_putting ps ts r r) (brought inner x))

pub beneath_put : (ms : List Word) (ps : List Name) (bs : List (List Piece)) (ts : Trees) (r : Standings) (x y : Word) (o : Option (List Piece)) → bs ≡ each_pieces ts → argument_of ps bs x ≡ o
    → rebound_all ms (naming (y ∷ []) []) (names_from o r (brought r x)) ≡ rebound_all ms (naming (y ∷ []) []) (brought (putting_in ps ts r r) x)
beneath_put ms ps bs ts r x y o e h = ap (rebound_all ms (naming (y ∷ []) [])) (brought_is ps bs ts r x o e h)

-- ---- the argument that is put in for a name

same_is : (b : Bool) (x y : Word) → (IsTrue b ↔ (x ≡ y)) → b ≡ bytes_eq x y
same_is true x y h = sym ((bytes_eq-Decides x y).1 (h.0 refl))
same_is false x y h = by (bytes_eq x y) refl
  where
    by : (c : Bool) → bytes_eq x y ≡ c → false ≡ c
    by true e = h.1 ((bytes_eq-Decides x y).0 e)
    by false e = refl

none_of : (ps : List Name) (x : Word) → argument_of ps [] x ≡ None
none_of [] x = refl
none_of (p ∷ ps) x = refl

pub no_arguments : (ps : List Name) (bs : List (Vec declared.Piece Global)) (i : ℕ) (x : Word) → length bs ≤ i → argument_of (drop i ps) (lists_of (drop i bs)) x ≡ None
no_arguments ps bs i x l = ap (λ (cs : List (Vec declared.Piece Global)). argument_of (drop i ps) (lists_of cs) x) (drop_all i bs l) ∙ none_of (drop i ps) x

pub no_params : (ps : List Name) (bs : List (Vec declared.Piece Global)) (i : ℕ) (x : Word) → length ps ≤ i → argument_of (drop i ps) (lists_of (drop i bs)) x ≡ None
no_params ps bs i x l = ap (λ (qs : List Name). argument_of qs (lists_of (drop i bs)) x) (drop_all i ps l)

argument_at : (ps : List Name) (bs : List (Vec declared.Piece Global)) (i : ℕ) (x : Word) (p : Name) (a : Vec declared.Piece Global) → p ≡ get_or ps i p → i < length ps → a ≡ get_or bs i a → i < length bs
    → argument_of (drop i ps) (lists_of (drop i bs)) x ≡ cond (bytes_eq p.word x) (Some (list_of a.items)) (argument_of (drop (i + 1) ps) (lists_of (drop (i + 1) bs)) x)
argument_at ps bs i x p a e l f m =
    λ j. argument_of ((drop_more ps i p l ∙ ap (λ (q : Name). q ∷ drop (i + 1) ps) (sym e)) j) (lists_of ((drop_more bs i a m ∙ ap (λ (b : Vec declared.Piece Global). b ∷ drop (i + 1) bs) (sym f)) j)) x

pub argument_here : (ps : List Name) (bs : List (Vec declared.Piece Global)) (i : ℕ) (x : Word) (p : Name) (a : Vec declared.Piece Global) (b : Bool) → p ≡ get_or ps i p → i < length ps → a ≡ get_or bs i a → i < length bs
    → (IsTrue b ↔ (p.word ≡ x)) → b ≡ true → argument_of (drop i ps) (lists_of (drop i bs)) x ≡ Some (list_of a.items)
argument_here ps bs i x p a b e l f m h t =
    argument_at ps bs i x p a e l f m ∙ ap (λ (c : Bool). cond c (Some (list_of a.items)) (argument_of (drop (i + 1) ps) (lists_of (drop (i + 1) bs)) x)) (sym (same_is b p.word x h) ∙ t)

abbrev others : List (Vec declared.Piece Global) → List (Vec declared.Piece Global)
others [] = []
others (b ∷ bs) = bs

others_dropped : (bs : List (Vec declared.Piece Global)) (i : ℕ) → others (drop i bs) ≡ drop (suc i) bs
others_dropped [] zero = refl
others_dropped [] (suc i) = refl
others_dropped (b ∷ bs) zero = refl
others_dropped (b ∷ bs) (suc i) = others_dropped bs i

pub argument_further : (ps : List Name) (bs : List (Vec declared.Piece Global)) (i : ℕ) (x : Word) (p : Name) (b : Bool) → p ≡ get_or ps i p → i < length ps → (IsTrue b ↔ (p.word ≡ x)) → b ≡ false
    → argument_of (drop i ps) (lists_of (drop i bs)) x ≡ argument_of (drop (i + 1) ps) (lists_of (drop (i + 1) bs)) x
argument_further ps bs i x p b e l h t =
    ap (λ (qs : List Name). argument_of qs (lists_of (drop i bs)) x) (drop_more ps i p l ∙ ap (λ (q : Name). q ∷ drop (i + 1) ps) (sym e))
    ∙ skip (drop (i + 1) ps) (drop i bs)
    ∙ ap (λ (cs : List (Vec declared.Piece Global)). argument_of (drop (i + 1) ps) (lists_of cs) x) (others_dropped bs i ∙ ap (λ (n : ℕ). drop n bs) (next i))
  where
    next : (i : ℕ) → suc i ≡ i + 1
    next i = omega arith

    skip : (qs : List Name) (cs : List (Vec declared.Piece Global)) → argument_of (p ∷ qs) (lists_of cs) x ≡ argument_of qs (lists_of (others cs)) x
    skip qs [] = sym (none_of qs x)
    skip qs (c ∷ cs) = ap (λ (d : Bool). cond d (Some (list_of c.items)) (argument_of qs (lists_of cs) x)) (sym (same_is b p.word x h) ∙ t)

-- ---- pieces

pub each_piece : (ms : List Word) (z r : Standings) (ps : List declared.Piece) → flat_map (λ p. rebound_all ms z (flat_map (piece_names r) (list_of (p ∷ [])))) ps ≡ rebound_all ms z (flat_map (piece_names r) (list_of ps))
each_piece ms z r [] = refl
each_piece ms z r (p ∷ ps) =
    (λ i. rebound_all ms z (append-nil (piece_names r (piece_of p)) i) ++ each_piece ms z r ps i) ∙ sym (flat_map-append (rebound ms z) (piece_names r (piece_of p)) (flat_map (piece_names r) (list_of ps)))

pub one_bound : (ms : List Word) (r : Standings) (n : Name) → rebound ms r n ≡ rebound_all ms r (flat_map (piece_names r) (binds n ∷ []))
one_bound ms r n = sym (append-nil (rebound ms r n))

pub one_free : (ms : List Word) (z r : Standings) (x : Word) → rebound_all ms z (brought r x) ≡ rebound_all ms z (flat_map (piece_names r) (frees x ∷ []))
one_free ms z r x = ap (rebound_all ms z) (sym (append-nil (brought r x)))

pub under_adds : (g : Sight) (K : Word → Bool) (j k : Walk) (y : Word) (n : Name) (a b : Bool) → (IsTrue a ↔ (y ≡ n.word)) → ((ms : List Word) → AreModules g.modules ms → b ≡ (a && may_rebind ms n.word))
    → Gains j k (λ ms s. offence_if b Rebind n.place) → Adds g K j k (λ ms r. rebound_all ms (naming (y ∷ []) []) (flat_map (piece_names r) (binds n ∷ [])))
under_adds g K j k y n a b h e u =
    gains_adds g K j k (λ ms s. offence_if b Rebind n.place) (λ ms r. rebound_all ms (naming (y ∷ []) []) (flat_map (piece_names r) (binds n ∷ []))) u (λ ms s r q.
    ap first
    (ap (λ (c : Bool). offence_if c Rebind n.place) (e ms q.modules ∙ ap (λ (c : Bool). c && may_rebind ms n.word) (same_is a y n.word h ∙ or_none (bytes_eq y n.word)))
    ∙ sym (append-nil (rebound ms (naming (y ∷ []) []) n))))
  where
    or_none : (c : Bool) → c ≡ (c || false)
    or_none true = refl
    or_none false = refl

-- ---- what is kept of what is called

pub lets_here : (g : Sight) (w : Walk) (ms P : List Word) (s r : Standings) → Within P g.stands → Seen g any_name w ms s r → Lets any_name P r
lets_here g w ms P s r h q x = by (is_among P x) refl
  where
    none : (a b : Bool) → a ≡ false → cond b [] (cond a (brought s x) []) ≡ []
    none true b e = cc
    none false true e = refl
    none false false e = refl

    out : is_among P x ≡ false → (a : Bool) → is_among g.stands x ≡ a → a ≡ false
    out e true k = sym (h x k) ∙ e
    out e false k = refl

    by : (b : Bool) → is_among P x ≡ b → brought r x ≡ cond b (brought r x) []
    by true e = refl
    by false e = put_seen g any_name w ms s r x q ∙ none (is_among g.stands x) (is_among w.bound x) (out e (is_among g.stands x) refl)

pub called_adds : (g : Sight) (ks : Keeps) (C : List Word → Calls) (j k : Walk) (o : Option Kept) (x : Word) (ts : Trees) → Knows g ks C → kept_by ks x ≡ o → Adds g any_name j k (λ ms r. kept_tells ms o r ts)
    → Adds g any_name j k (λ ms r. C ms r x ts)
called_adds g ks C j k o x ts h e a = record {
  bound = a.bound;
  tells = λ ms s r q.
      a.tells ms s r q
      ∙ first_same_before (told ms j s) (kept_tells ms o r ts) (C ms r x ts)
      (ap (λ (u : Option Kept). first (kept_tells ms u r ts)) (sym e) ∙ h.means ms q.modules r (lets_here g j ms h.names s r h.within q) x ts);
}

-- all that is kept: the first offence, and then what may offend
pub kept_adds : (g : Sight) (K : Word → Bool) (i j k : Walk) (o : Option Refusal) (h : List Word → Standings → List Refusal) → j.bound ≡ i.bound → j.free ≡ i.free → j.first ≡ joined i.first o → Adds g K j k h
    → Adds g K i k (λ ms r. sure o ++ h ms r)
kept_adds g K i j k o h e f u a =
    adds_then g K i j k (λ ms r. sure o) h (gains_adds g K i j (λ ms s. sure o) (λ ms r. sure o) (gains_first i j (sure o) e f (u ∙ ap (joined i.first) (sym (first_sure o)))) (λ ms s r q. refl)) a
