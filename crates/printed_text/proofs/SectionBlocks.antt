-- The lines of variables and of definitions: their tokens are those of a section and of a `define` block, places aside.
use Rattle.std.proofs.Common.{◌≡◌, ℕ, ◌+◌, Bool, true, List, [], ◌∷◌, ◌++◌, Option, Some, None, refl, sym, ap, ◌∙◌, codes}
use Rattle.std.specs.List.{AllByRecursion}
use Rattle.tla_token.specs.declared.place.Place.{Place}
use Rattle.tla_tree.specs.Tree.{Name}
use Rattle.tla_tree.specs.Lexical as tk
use Rattle.tla_tree.specs.Spelling.{Phrase, Right, IsGood, tree_of}
use Rattle.tla_tree.specs.Written.{written}
use Rattle.tla_tree.specs.laws.InText.{ends_word}
use Rattle.tla_tree.specs.laws.Placeless.{name_placeless, names_placeless}
use Rattle.pcal_tree.specs.Algorithm.{Declaration, Definition}
use Rattle.pcal_tree.specs.Placeless.{declarations_placeless, definitions_placeless}
use Rattle.pcal_tree.specs.GrammarParts.{Section, no_section, section, section_tokens, declared, GoodSection, Separator, by_semicolon, Heading, plain, applied, heading, definition_of, Definitions, last_definition, more_definitions, definitions, definitions_of, GoodDefinitions, mark, expression}
use Rattle.pcal_tree.specs.GrammarParts as grammar
use Rattle.pcal_tree.specs.Grammar.{Syntax, p_syntax, c_syntax, Define, no_define, define_end, define_braces, defined, GoodDefine}
use Rattle.pcal_tree.specs.Grammar as g
use Rattle.pcal_tree.specs.Printed.{Text, parameters_text}
use Rattle.pcal_tree.specs.Printed as printed
use Rattle.printed_text.specs.laws.Printable.{IsName, AreDeclarations, AreNames, IsDefinition}
use Rattle.printed_text.proofs.Chunks.{Chunk, put, in_line, join, nothing}
use Rattle.printed_text.proofs.TokenChunks.{narrowed, name_at, key_at, key_space, semicolon_at, spaced_defines, close_curly}
use Rattle.printed_text.proofs.ExprChunks.{expr_at}
use Rattle.printed_text.proofs.ListChunks.{named, variables_at, some_names_at}
use Rattle.printed_text.proofs.Blocks.{Block, line_of, no_lines, follow, told}
use Rattle.printed_text.proofs.StatementsP as p
use Rattle.printed_text.proofs.StatementsC as c

-- ---- variables

pub record SectionAt (n : ℕ) (b : Bool) (ds : List Declaration) : Type 0 where
  pub form : Section
  pub good : GoodSection b form
  pub same : declarations_placeless (declared form) ≡ declarations_placeless ds
  pub block : Block n (λ ls. printed.variables ds ls) (section_tokens form)

pub section_at : (n : ℕ) (b : Bool) (ds : List Declaration) → AreDeclarations b ds → SectionAt n b ds
section_at n b [] h = record { form = no_section; good = tt; same = refl; block = no_lines n }
section_at n b (d ∷ ds) h =
    let k = key_space (put n (1 + 0)) (in_line n 0) (codes "variables") refl (refl, refl) in
    let v = variables_at b d ds h k.end k.right in
    let s = semicolon_at v.chunk.end v.chunk.right in
    let all = join (join k v.chunk (λ y q. refl)) s (λ y q. refl) in
    let last : Option Separator = Some (by_semicolon v.chunk.end) in
    record {
      form = section (put n (1 + 0)) true (v.form last);
      good = v.good last;
      same = v.same last;
      block = told (λ ts. ap (grammar.key (put n (1 + 0)) (codes "variables")) (sym (v.last last ts))) (line_of n 0 all (λ z. refl));
    }

-- ---- definitions

-- N or N(a, b)
record HeadingAt (x : Name) (params : List Name) (p : Place) : Type 0 where
  form : Heading
  list : List Name
  is : (e : Phrase) → definition_of form e ≡ record { name = named p x; params = list; body = tree_of e }
  same : names_placeless list ≡ names_placeless params
  chunk : Chunk ends_word p (x.word ++ parameters_text params) (heading form)

heading_at : (x : Name) (params : List Name) → IsName x → AreNames params → (p : Place) → Right 0 p → HeadingAt x params p
heading_at x [] h v p r =
    let n = name_at p r x.word h in
    record { form = plain (named p x); list = []; is = λ e. refl; same = refl; chunk = join n (narrowed ends_word (nothing n.end n.right)) (λ y q. q) }
heading_at x (y ∷ ys) h v p r =
    let n = name_at p r x.word h in
    let a = some_names_at y ys v n.end n.right in
    record { form = applied (named p x) n.end a.form a.close; list = grammar.names_of a.form; is = λ e. refl; same = a.same; chunk = join n (narrowed ends_word a.chunk) (λ z q. refl) }

record DefinitionAt (n : ℕ) (d : Definition) : Type 0 where
  form : Heading
  sign : Place
  phrase : Phrase
  good : IsGood phrase
  same : definitions_placeless (definition_of form phrase ∷ []) ≡ definitions_placeless (d ∷ [])
  block : Block n (printed.line 2 (d.name.word ++ parameters_text d.params ++ codes " == " ++ written d.body)) (λ ts. heading form (mark sign tk.defines (expression phrase ts)))

definition_at : (n : ℕ) (d : Definition) → IsDefinition d → DefinitionAt n d
definition_at n d h =
    let x = heading_at d.name d.params h.0 h.1 (put n (1 + 2)) (in_line n 2) in
    let s = spaced_defines x.chunk.end x.chunk.right in
    let a = expr_at d.body h.2 s.chunk.end s.chunk.right in
    record {
      form = x.form;
      sign = s.place;
      phrase = a.phrase;
      good = a.good;
      same = ap (λ (e : Definition). definitions_placeless (e ∷ [])) (x.is a.phrase) ∙ (λ j. record { name = name_placeless d.name; params = x.same j; body = a.tree j } ∷ []);
      block = line_of n 2 (join (join x.chunk s.chunk (λ z q. refl)) a.chunk (λ z q. refl)) (λ z. refl);
    }

record DefinitionsAt (n : ℕ) (ds : List Definition) : Type 0 where
  form : Definitions
  good : GoodDefinitions form
  same : definitions_placeless (definitions_of form) ≡ definitions_placeless ds
  block : Block n (λ ls. printed.definitions ds ls) (definitions form)

same_first : (e d : Definition) (es ds : List Definition) → definitions_placeless (e ∷ []) ≡ definitions_placeless (d ∷ []) → definitions_placeless es ≡ definitions_placeless ds → definitions_placeless (e ∷ es) ≡ definitions_placeless (d ∷ ds)
same_first e d es ds h k = λ j. h j ++ k j

definitions_at : (n : ℕ) (d : Definition) (ds : List Definition) → AllByRecursion IsDefinition (d ∷ ds) → DefinitionsAt n (d ∷ ds)
definitions_at n d [] h = (let x = definition_at n d h.0 in record { form = last_definition x.form x.sign x.phrase; good = x.good; same = x.same; block = x.block })
definitions_at n d (e ∷ ds) h =
    let x = definition_at n d h.0 in
    let m = definitions_at x.block.next e ds h.1 in
    record {
      form = more_definitions x.form x.sign x.phrase m.form;
      good = (x.good, m.good);
      same = same_first (definition_of x.form x.phrase) d (definitions_of m.form) (e ∷ ds) x.same m.same;
      block = follow x.block m.block;
    }

pub record DefineAt (s : Syntax) (n : ℕ) (ds : List Definition) : Type 0 where
  pub form : Define
  pub good : GoodDefine s form
  pub same : definitions_placeless (defined form) ≡ definitions_placeless ds
  pub block : Block n (λ ls. printed.define s ds ls) (g.define form)

pub define_at : (s : Syntax) (n : ℕ) (ds : List Definition) → AllByRecursion IsDefinition ds → DefineAt s n ds
define_at p_syntax n [] h = record { form = no_define; good = tt; same = refl; block = no_lines n }
define_at c_syntax n [] h = record { form = no_define; good = tt; same = refl; block = no_lines n }
define_at p_syntax n (d ∷ ds) h =
    let l = line_of n 0 (key_at (put n (1 + 0)) (in_line n 0) (codes "define") refl (refl, refl)) (λ z. refl) in
    let m = definitions_at l.next d ds h in
    let e = p.closing_at m.block.next 0 (codes "define") refl (refl, refl) in
    record { form = define_end (put n (1 + 0)) m.form e.first e.second (Some e.end); good = m.good; same = m.same; block = follow (follow l m.block) e.block }
define_at c_syntax n (d ∷ ds) h =
    let k = key_at (put n (1 + 0)) (in_line n 0) (codes "define") refl (refl, refl) in
    let o = c.curly_at k.end k.right in
    let l = line_of n 0 (join k o.chunk (λ z q. refl)) (λ z. refl) in
    let m = definitions_at l.next d ds h in
    let e = line_of m.block.next 0 (close_curly (put m.block.next (1 + 0)) (in_line m.block.next 0)) (λ z. refl) in
    record { form = define_braces (put n (1 + 0)) o.place m.form (put m.block.next (1 + 0)) None; good = m.good; same = m.same; block = follow (follow l m.block) e }
