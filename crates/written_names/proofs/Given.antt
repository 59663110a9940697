-- Words that get names after others.
use Rattle.std.proofs.Common.{◌≡◌, List, [], ◌∷◌, ◌++◌, Bool, true, false, cond, bytes_eq, Option, Some, None, refl, sym, ◌∙◌, ap, subst}
use Rattle.tla_token.specs.Signs.{is_among}
use Rattle.tla_tree.specs.Tree.{Word}
use Rattle.pcal_tree.specs.Names.{first_free}
use Rattle.written_names.specs.Giving.{taken_after, first_named, Known, Knows, Pairs, found, first_of, Gives}

pub taken_later : (extended taken ws vs : List Word) → taken_after extended taken (ws ++ vs) ≡ taken_after extended (taken_after extended taken ws) vs
taken_later extended taken [] vs = refl
taken_later extended taken (w ∷ ws) vs = taken_later extended (first_free extended taken w ∷ taken) ws vs

pub named_later : (extended taken ws vs : List Word) (x : Word)
    → first_named extended taken (ws ++ vs) x ≡ first_of (first_named extended taken ws x) (first_named extended (taken_after extended taken ws) vs x)
named_later extended taken [] vs x = refl
named_later extended taken (w ∷ ws) vs x = by (bytes_eq w x) (named_later extended (first_free extended taken w ∷ taken) ws vs x)
  where
    name : Word
    name = first_free extended taken w

    by : (b : Bool) → first_named extended (name ∷ taken) (ws ++ vs) x
        ≡ first_of (first_named extended (name ∷ taken) ws x) (first_named extended (taken_after extended (name ∷ taken) ws) vs x)
        → cond b (Some name) (first_named extended (name ∷ taken) (ws ++ vs) x)
        ≡ first_of (cond b (Some name) (first_named extended (name ∷ taken) ws x)) (first_named extended (taken_after extended (name ∷ taken) ws) vs x)
    by true ih = refl
    by false ih = ih

pub first_none : (a : Option Word) → first_of a None ≡ a
first_none None = refl
first_none (Some w) = refl

first_three : (a b c : Option Word) → first_of (first_of a b) c ≡ first_of a (first_of b c)
first_three None b c = refl
first_three (Some w) b c = refl

-- ---- words get names

pub gives_none : (k : Known) (ps : Pairs) → Gives k k ps ps []
gives_none k ps = record { names = λ extended taken h. h; pairs = λ extended taken h x. sym (first_none (found ps x)) }

pub gives_then : (j k l : Known) (ps qs rs : Pairs) (ws vs : List Word) → Gives j k ps qs ws → Gives k l qs rs vs → Gives j l ps rs (ws ++ vs)
gives_then j k l ps qs rs ws vs g h =
    record {
      names = λ extended taken a. subst_names extended taken (h.names extended (taken_after extended taken ws) (g.names extended taken a));
      pairs = λ extended taken a x.
          h.pairs extended (taken_after extended taken ws) (g.names extended taken a) x
          ∙ ap (λ o. first_of o (first_named extended (taken_after extended taken ws) vs x)) (g.pairs extended taken a x)
          ∙ first_three (found ps x) (first_named extended taken ws x) (first_named extended (taken_after extended taken ws) vs x)
          ∙ ap (first_of (found ps x)) (sym (named_later extended taken ws vs x));
    }
  where
    subst_names : (extended taken : List Word) → Knows l extended (taken_after extended (taken_after extended taken ws) vs) → Knows l extended (taken_after extended taken (ws ++ vs))
    subst_names extended taken a = record { sequences = a.sequences; tlc = a.tlc; names = λ w. a.names w ∙ sym (ap (λ l. is_among l w) (taken_later extended taken ws vs)); tried = a.tried }

pub gives_as : (j k : Known) (ps qs : Pairs) (ws vs : List Word) → ws ≡ vs → Gives j k ps qs ws → Gives j k ps qs vs
gives_as j k ps qs ws vs e g = subst (λ l. Gives j k ps qs l) e g

pub gives_one : (old new : Known) (ps qs : Pairs) (x w : Word) → ((extended taken : List Word) → Knows old extended taken → w ≡ first_free extended taken x)
    → ((extended taken : List Word) → Knows old extended taken → Knows new extended (first_free extended taken x ∷ taken))
    → ((y : Word) → found qs y ≡ first_of (found ps y) (cond (bytes_eq x y) (Some w) None)) → Gives old new ps qs (x ∷ [])
gives_one old new ps qs x w name known kept = record {
  names = known;
  pairs = λ extended taken k y. kept y ∙ ap (λ v. first_of (found ps y) (cond (bytes_eq x y) (Some v) None)) (name extended taken k);
}
