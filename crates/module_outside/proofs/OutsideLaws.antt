-- What is found is all that a module has outside.
use Rattle.std.proofs.Common.{◌≡◌, ℕ, true, false, List, [], ◌∷◌, ◌++◌, map, refl, sym, ap, ◌∙◌, subst}
use Rattle.std.specs.Prelude.{unwrap_or}
use Rattle.std.specs.List.{flat_map}
use Rattle.std.proofs.lemmas.Grind.{flat_map-append}
use Rattle.tla_token.specs.declared.token.Token as code
use Rattle.tla_token.specs.declared.token.Tokens.{Tokens}
use Rattle.tla_token.specs.TokensSeen.{token_seen, tokens_seen}
use Rattle.tla_tree.specs.Tree.{Name, words}
use Rattle.tla_tree.specs.Lexical.{Token}
use Rattle.tla_tree.specs.TokenViews.{view, views}
use Rattle.tla_value.specs.Outside.{Opaque, ReadDefinition, Outside}
use Rattle.module_tree.specs.Module.{definitions_of, unread_of}
use Rattle.module_tree.specs.Walk.{Located}
use Rattle.module_tree.specs.FileParts.{before_spot, after_spot}
use Rattle.module_tree.specs.FileUnits.{cut, tokens_in}
use Rattle.module_tree.specs.Outside.{Sight}
use Rattle.module_tree.specs.laws.Outsides.{HasOutside}
use Rattle.expr_nodes.specs.ReadIn.{seen}
use Rattle.expr_nodes.specs.Ahead.{ahead}
use Rattle.outside_reading.specs.PlainUnits.{modules_in, constants_in, constants_of_unit, all_modules, all_constants, units_in, sight_of_units, outside_in}
use Rattle.outside_reading.proofs.OutsideFound.{found_outside}

abbrev pub sight_by : List Name → List Name → Sight
sight_by ms xs = record { modules = words ms; constants = words xs; earlier = [] }

pub outside_is : (front back : List (List Token)) (ms xs : List Name) (ds : List ReadDefinition) (os : List Opaque) → ms ≡ all_modules front ++ all_modules back → xs ≡ all_constants front ++ all_constants back
    → ds ≡ flat_map definitions_of (units_in true (sight_by ms xs) front) → os ≡ flat_map unread_of (units_in true (sight_by ms xs) front) ++ flat_map unread_of (units_in false (sight_by ms xs) back)
    → record { extended = words ms; constants = xs; definitions = ds; opaque = os } ≡ outside_in front back
outside_is front back ms xs ds os m x d o =
    let modules : ms ≡ all_modules (front ++ back) = m ∙ sym (flat_map-append (λ (ts : List Token). unwrap_or (modules_in ts) []) front back) in
    let constants : xs ≡ all_constants (front ++ back) = x ∙ sym (flat_map-append (λ (ts : List Token). constants_of_unit (modules_in ts) (constants_in ts)) front back) in
    let sight : sight_by ms xs ≡ sight_of_units (front ++ back) = λ i. sight_by (modules i) (constants i) in
    let defined = d ∙ ap (λ (v : Sight). flat_map definitions_of (units_in true v front)) sight in
    let passed = o ∙ ap (λ (v : Sight). flat_map unread_of (units_in true v front) ++ flat_map unread_of (units_in false v back)) sight in
    λ i. record { extended = words (modules i); constants = constants i; definitions = defined i; opaque = passed i }

-- tokens in memory are those that are seen
seen_views : (bytes : List ℕ) (ts : List code.Token) → seen bytes ts ≡ views (map (token_seen bytes) ts)
seen_views bytes [] = refl
seen_views bytes (t ∷ ts) = ap (λ (us : List Token). view (token_seen bytes t) ∷ us) (seen_views bytes ts)

ahead_is : (v : Tokens) → ahead v 0 ≡ views (tokens_seen v)
ahead_is v = seen_views v.bytes.items v.items.items

pub outside_of_file : (before after : Tokens) (o : Outside) → o ≡ outside_in (cut (ahead before 0)).units (cut (ahead after 0)).units
    → (ds : List Located) → tokens_seen before ≡ tokens_in (before_spot ds) → tokens_seen after ≡ tokens_in (after_spot ds) → HasOutside ds o
outside_of_file before after o h ds b a =
    subst (λ (q : Outside). HasOutside ds q)
    (sym (h ∙ (λ i. outside_in (cut ((ahead_is before ∙ ap views b) i)).units (cut ((ahead_is after ∙ ap views a) i)).units))) (found_outside ds)
