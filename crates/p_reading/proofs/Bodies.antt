-- Bodies and `define`, part by part: what their readers give once the first parts were read.
use Rattle.std.proofs.Common.{◌≡◌, ℕ, List, Option, Ok, ap, ◌∙◌, codes}
use Rattle.tla_token.specs.declared.place.Place.{Place}
use Rattle.tla_tree.specs.Tree.{Word}
use Rattle.tla_tree.specs.Lexical.{Token}
use Rattle.tla_tree.specs.Reader.{Out, Reader, ◌>>=◌, then_read, gives}
use Rattle.pcal_tree.specs.GrammarParts.{Definitions}
use Rattle.pcal_tree.specs.GrammarP.{Sequence}
use Rattle.pcal_tree.specs.Grammar.{Body, begin_end, Define, define_end}
use Rattle.syntax_reading.specs.TokenReaders.{a_key, Parts}
use Rattle.syntax_reading.specs.ReadParts.{read_semicolon, read_definitions}
use Rattle.p_reading.specs.ReadStatements.{read_sequence}
use Rattle.p_reading.specs.ReadAlgorithm.{read_body, define_from}

module _ (m : Parts) (n : ℕ) (w : Word) where
  -- what comes behind each part of a body
  abbrev pub behind_word : Place → Sequence → Place → Place → Reader Body
  behind_word a ss b d = read_semicolon >>= λ s. gives (begin_end a ss b d s)

  abbrev pub behind_end : Place → Sequence → Place → Reader Body
  behind_end a ss b = a_key w >>= behind_word a ss b

  abbrev pub behind_list : Place → Sequence → Reader Body
  behind_list a ss = a_key (codes "end") >>= behind_end a ss

  abbrev pub behind_begin : Place → Reader Body
  behind_begin a = read_sequence m n >>= behind_list a

  module _ (a : Place) (ts us : List Token) (e : a_key (codes "begin") ts ≡ Ok (a, us)) where
    pub body_at_list : read_body m n w ts ≡ then_read (read_sequence m n us) (behind_list a)
    body_at_list = ap (λ (o : Out Place). then_read o behind_begin) e

    module _ (ss : Sequence) (vs : List Token) (f : read_sequence m n us ≡ Ok (ss, vs)) where
      pub body_at_end : read_body m n w ts ≡ then_read (a_key (codes "end") vs) (behind_end a ss)
      body_at_end = body_at_list ∙ ap (λ (o : Out Sequence). then_read o (behind_list a)) f

      module _ (b : Place) (ws : List Token) (g : a_key (codes "end") vs ≡ Ok (b, ws)) where
        pub body_at_word : read_body m n w ts ≡ then_read (a_key w ws) (behind_word a ss b)
        body_at_word = body_at_end ∙ ap (λ (o : Out Place). then_read o (behind_end a ss)) g

        pub body_whole : (d : Place) (xs ys : List Token) (s : Option Place) → a_key w ws ≡ Ok (d, xs) → read_semicolon xs ≡ Ok (s, ys) → read_body m n w ts ≡ Ok (begin_end a ss b d s, ys)
        body_whole d xs ys s h i = body_at_word ∙ ap (λ (o : Out Place). then_read o (behind_word a ss b)) h ∙ ap (λ (o : Out (Option Place)). then_read o (λ s. gives (begin_end a ss b d s))) i

module _ (m : Parts) (n : ℕ) (p : Place) where
  abbrev pub behind_define : Definitions → Place → Place → Reader Define
  behind_define ds b d = read_semicolon >>= λ s. gives (define_end p ds b d s)

  abbrev pub behind_its_end : Definitions → Place → Reader Define
  behind_its_end ds b = a_key (codes "define") >>= behind_define ds b

  abbrev pub behind_definitions : Definitions → Reader Define
  behind_definitions ds = a_key (codes "end") >>= behind_its_end ds

  module _ (ds : Definitions) (ts us : List Token) (e : read_definitions m n ts ≡ Ok (ds, us)) where
    pub define_at_end : define_from m n p ts ≡ then_read (a_key (codes "end") us) (behind_its_end ds)
    define_at_end = ap (λ (o : Out Definitions). then_read o behind_definitions) e

    module _ (b : Place) (vs : List Token) (f : a_key (codes "end") us ≡ Ok (b, vs)) where
      pub define_at_word : define_from m n p ts ≡ then_read (a_key (codes "define") vs) (behind_define ds b)
      define_at_word = define_at_end ∙ ap (λ (o : Out Place). then_read o (behind_its_end ds)) f

      pub define_whole : (d : Place) (ws xs : List Token) (s : Option Place) → a_key (codes "define") vs ≡ Ok (d, ws) → read_semicolon ws ≡ Ok (s, xs) → define_from m n p ts ≡ Ok (define_end p ds b d s, xs)
      define_whole d ws xs s g h = define_at_word ∙ ap (λ (o : Out Place). then_read o (behind_define ds b)) g ∙ ap (λ (o : Out (Option Place)). then_read o (λ s. gives (define_end p ds b d s))) h
