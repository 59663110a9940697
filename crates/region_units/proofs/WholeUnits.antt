-- That tokens are no unit, by what was read behind the first of them.
use Rattle.std.proofs.Common.{◌≡◌, ℕ, zero, suc, ◌<◌, false, drop, List, [], ◌∷◌, length, Option, None, Ok, Err, inl, inr, refl, sym, ap, ◌∙◌, subst, arith}
use Rattle.std.specs.Option.{option_map}
use Rattle.tla_token.specs.declared.place.Place.{Place}
use Rattle.tla_token.specs.declared.rule.Rule.{Rule}
use Rattle.tla_token.specs.declared.rule.Rule.TheVariants.{Syntax}
use Rattle.tla_token.specs.declared.token.Token as code_token
use Rattle.tla_token.specs.declared.token.Tokens.{Tokens}
use Rattle.tla_tree.specs.Lexical.{TokenView, Token, token}
use Rattle.tla_tree.specs.Nesting.{nesting_in}
use Rattle.tla_tree.specs.Reader.{Out}
use Rattle.tla_tree.specs.Whole.{read_bounded}
use Rattle.expr_nodes.specs.declared.cursor.Halt.{Halt}
use Rattle.expr_nodes.specs.declared.cursor.Halt.TheVariants as halt
use Rattle.expr_nodes.specs.ReadIn.{seen, Reads, Fails}
use Rattle.expr_nodes.specs.Ahead.{ahead}
use Rattle.module_tree.specs.Module.{RegionUnit}
use Rattle.module_tree.specs.Units.{UnitForm, unit_of}
use Rattle.region_reading.specs.Bound.{unbounded, OnlyRefuses}
use Rattle.region_reading.specs.Opens.{unit_opens}
use Rattle.region_reading.specs.NameReader.{whole}
use Rattle.region_reading.specs.UnitReader.{unit_by, unit_in}
use Rattle.region_reading.proofs.BoundIsRead.{bound_is_read}
use Rattle.region_reading.proofs.BoundedUnits.{unit_refuses}
use Rattle.region_items.specs.Begins.{bound}
use Rattle.region_units.specs.NoUnit.{NoUnit}

abbrev means : Out UnitForm → Option RegionUnit
means o = option_map unit_of (whole o)

not_whole : (o : Out UnitForm) → ((f : UnitForm) → o ≡ Ok (f, []) → ⊥) → means o ≡ None
not_whole (Ok (f, [])) h = absurd (h f refl)
not_whole (Ok (f, t ∷ ts)) h = refl
not_whole (Err s) h = refl

not_all : (o : Out UnitForm) (f : UnitForm) (us : List Token) → 0 < length us → o ≡ Ok (f, us) → means o ≡ None
not_all o f [] l h = absurd (omega (arith, l))
not_all o f (u ∷ us) l h = ap means h

module _ (l : ℕ) (p : Place) (k : TokenView) (ts : List Token) where
  only : OnlyRefuses l (unit_opens (nesting_in false)) (unit_by (bound l) p k ts) (unit_by unbounded p k ts)
  only = unit_refuses read_bounded (nesting_in false) bound_is_read l p k ts

  refused_by : (r : Rule) (us : List Token) (n : ℕ) → unit_by (bound l) p k ts ≡ Err (r, us) → NoUnit l (token p k ∷ ts) (halt.Refused r n)
  refused_by r us n h = elim (only.rule r us h) [
    | inl e ↦ subst (λ (r : Rule). NoUnit l (token p k ∷ ts) (halt.Refused r n)) (sym e)
        (not_whole (unit_by unbounded p k ts) (λ f i. only.none us (subst (λ (r : Rule). unit_by (bound l) p k ts ≡ Err (r, us)) e h) f [] i))
    | inr e ↦ subst (λ (r : Rule). NoUnit l (token p k ∷ ts) (halt.Refused r n)) (sym e) (ap means h)
  ]

  fails_by : (w : Halt) (o : Out UnitForm) → unit_by (bound l) p k ts ≡ o → Fails w o → NoUnit l (token p k ∷ ts) w
  fails_by halt.Memory o i h = tt
  fails_by (halt.Refused r n) (Ok x) i h = absurd h
  fails_by (halt.Refused r n) (Err (q, us)) i h = subst (λ (r : Rule). NoUnit l (token p k ∷ ts) (halt.Refused r n)) h.0 (refused_by q us n i)

  module _ (all : List Token) (here : all ≡ token p k ∷ ts) where
    pub more_is_none : {P : UnitForm → Type 0} (us : List Token) (w : Halt) → w ≡ halt.Refused Syntax (length us) → 0 < length us → Reads P us (unit_by (bound l) p k ts) → NoUnit l all w
    more_is_none us w e m r =
        subst (NoUnit l all) (sym e) (ap unit_in here ∙ not_all (unit_by unbounded p k ts) r.what us m (only.same r.what us r.is).0)

    pub fails_is_none : (w : Halt) → Fails w (unit_by (bound l) p k ts) → NoUnit l all w
    fails_is_none w h = subst (λ (us : List Token). NoUnit l us w) (sym here) (fails_by w (unit_by (bound l) p k ts) refl h)

pub some_ahead : (v : Tokens) (i : ℕ) → i < length v.items.items → 0 < length (ahead v i)
some_ahead v i h = some (v.items.items) i h
  where
    some : (ts : List code_token.Token) (i : ℕ) → i < length ts → 0 < length (seen v.bytes.items (drop i ts))
    some [] i h = absurd (omega (arith, h))
    some (t ∷ ts) zero h = omega arith
    some (t ∷ ts) (suc i) h = some ts i (omega (arith, h))
