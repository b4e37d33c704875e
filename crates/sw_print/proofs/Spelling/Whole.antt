-- The text of a tree that `parse` gives spells it, and is parsed to it.
use Rattle.std.proofs.Common.{◌≡◌, ◌≤◌, ℕ, zero, suc, true, false, List, [], ◌∷◌, ◌++◌, map, length, None, Result, Ok, Err, IfOk, refl, sym, ap, ◌∙◌, subst}
use Rattle.sw_base.specs.Limits.{longest_source}
use Rattle.sw_lex.specs.declared.token.TokenKind.{TokenKind}
use Rattle.sw_lex.specs.declared.token.TokenKind.TheVariants as k
use Rattle.sw_lex.specs.declared.token.Token.{Token}
use Rattle.sw_lex.specs.Bytes.{Text}
use Rattle.sw_lex.specs.Rules.{BreaksNone}
use Rattle.sw_lex.specs.Lexing.{IntegersFit}
use Rattle.sw_lex.specs.Tokens.{CutsInto, EndsOnce}
use Rattle.sw_grammar.specs.Grammar.{Budget}
use Rattle.sw_layout.specs.Words.{Word, token_of, end_after, page_tokens, page_text, unplaced as without_place}
use Rattle.sw_layout.specs.Layouts.{IsLaidOut, AreIntegersFit}
use Rattle.sw_layout.specs.Lexed.{AreFit}
use Rattle.sw_layout.specs.Apart.{AreApart}
use Rattle.sw_places.specs.Places.{unplaced, Alike}
use Rattle.sw_tree.specs.declared.decl.Tree.{Tree}
use Rattle.sw_tree.specs.declared.decl.Decl.{Decl}
use Rattle.sw_syntax.specs.declared.class.Sight.{Sight}
use Rattle.sw_syntax.specs.Tokens.{same_kind, class_in, class_of_name, is_next, touches_next, Sighted, Face, seen, sighted}
use Rattle.sw_syntax.specs.Nonterminals.{Nonterminal, Sort, File, Decls}
use Rattle.sw_syntax.specs.Tests.{is, is_of}
use Rattle.sw_syntax.specs.Grammar.{production, list_of}
use Rattle.sw_syntax.specs.Meaning.{Spells, source_budget}
use Rattle.sw_print.specs.Seen.{seen_in}
use Rattle.sw_print.specs.Declarations.{decls_words, tree_words, tree_text}
use Rattle.sw_print.specs.Printed.{IsParsed, SpellsTree, IsParsedTo}
use Rattle.sw_print.proofs.Shape.{AllFit, laid_out}
use Rattle.sw_print.proofs.DeclShape.{tree_shape}
use Rattle.sw_print.proofs.Spelling.Built.{Every}
use Rattle.sw_print.proofs.Spelling.Higher.{derived}
use Rattle.sw_print.proofs.Spelling.Good.{IsOfKind, IsGoodWord, seen_good}
use Rattle.sw_print.proofs.Spelling.Making.{Made}
use Rattle.sw_print.proofs.Spelling.Marks.{BuiltOf}
use Rattle.sw_print.proofs.Spelling.Runs.{Ok as Fine, StandApart, apart_front, sighted_apart}
use Rattle.sw_print.proofs.Spelling.Again.{D, B, part}

map_append : {A B : Type 0} (f : A → B) (u v : List A) → map f (u ++ v) ≡ map f u ++ map f v
map_append f [] v = refl
map_append f (x ∷ u) v = ap (λ l. f x ∷ l) (map_append f u v)

-- ---- places of tokens

next_unplaced : (kind : TokenKind) (following : List Token) → is_next kind (map without_place following) ≡ is_next kind following
next_unplaced kind [] = refl
next_unplaced kind (token ∷ following) = refl

touches_unplaced : (following : List Token) → touches_next (map without_place following) ≡ touches_next following
touches_unplaced [] = refl
touches_unplaced (token ∷ following) = refl

name_unplaced : (text : Text) (following : List Token) → class_of_name text (map without_place following) ≡ class_of_name text following
name_unplaced text [] = refl
name_unplaced text (token ∷ following) = refl

class_unplaced : (kind : TokenKind) (token : Token) (following : List Token) → class_in kind (without_place token) (map without_place following) ≡ class_in kind token following
class_unplaced k.Name token following = name_unplaced token.text following
class_unplaced k.Else token [] = refl
class_unplaced k.Else token (next ∷ following) = refl
class_unplaced k.Minus token [] = refl
class_unplaced k.Minus token (next ∷ following) = refl
class_unplaced kind token following = refl

seen_unplaced : (token : Token) (following : List Token) → unplaced (seen (without_place token) (map without_place following)) ≡ unplaced (seen token following)
seen_unplaced token following = cc (class_unplaced token.kind token following, next_unplaced k.Colon following)

sighted_unplaced : (tokens : List Token) → map unplaced (sighted (map without_place tokens)) ≡ map unplaced (sighted tokens)
sighted_unplaced [] = refl
sighted_unplaced (token ∷ tokens) = let head = seen_unplaced token tokens in let tail = sighted_unplaced tokens in cc

-- ---- what is seen of a whole layout

seen_whole : (words : List Word) (last : Token) → sighted (map token_of words ++ last ∷ []) ≡ seen_in words (last ∷ []) ++ sighted (last ∷ [])
seen_whole [] last = refl
seen_whole (word ∷ words) last = ap (λ l. seen (token_of word) (map token_of words ++ last ∷ []) ∷ l) (seen_whole words last)

token_same : (words : List Word) → map without_place (map token_of words) ≡ map token_of words
token_same [] = refl
token_same (word ∷ words) = ap (λ l. token_of word ∷ l) (token_same words)

end_same : (words : List Word) → without_place (end_after words) ≡ end_after words
end_same [] = refl
end_same (word ∷ words) = refl

page_same : (words : List Word) → map without_place (page_tokens words) ≡ page_tokens words
page_same words = map_append without_place (map token_of words) (end_after words ∷ []) ∙ ap (λ l. l ++ without_place (end_after words) ∷ []) (token_same words) ∙ ap (λ t. map token_of words ++ t ∷ []) (end_same words)

end_kind : (words : List Word) → (end_after words).kind ≡ k.End
end_kind [] = refl
end_kind (word ∷ words) = refl

-- ---- the tokens of a source

-- all but the last are good, and the last is the end
fronted : (tokens : List Token) → EndsOnce tokens → AreFit tokens → IntegersFit tokens → (front : List Token) × (last : Token) × (tokens ≡ front ++ last ∷ []) × Every (λ token. IsOfKind token.kind token.text) front
fronted [] ended fit few = elim ended [ ]
fronted (token ∷ []) ended fit few = ([], token, refl, tt)
fronted (token ∷ next ∷ tokens) ended fit few =
    let (front, last, e, all) = fronted (next ∷ tokens) ended.1 fit.1 few.1 in
    (token ∷ front, last, ap (λ l. token ∷ l) e, ((fit.0 ended.0, few.0), all))

-- the last of two equal runs is the same, and so are those before it
same_front : {T : Type 0} (u v : List T) (a b : T) → (u ++ a ∷ []) ≡ (v ++ b ∷ []) → u ≡ v
same_front [] [] a b h = refl
same_front [] (y ∷ []) a b h = absurd (cc)
same_front [] (y ∷ z ∷ v) a b h = absurd (cc)
same_front (x ∷ []) [] a b h = absurd (cc)
same_front (x ∷ w ∷ u) [] a b h = absurd (cc)
same_front (x ∷ u) (y ∷ v) a b h = let tail = same_front u v a b (cc) in let head : x ≡ y = cc in cc

-- ---- the text

-- what is written for the declarations of a source spells them again
abbrev pub ListAgain : Type 0
ListAgain = (n d l c e : ℕ) (xs : List Decl) → BuiltOf (B n) (list_of Decls) d l c e xs → (following : List Token) → Made D (list_of Decls) d l c e xs (decls_words xs) following

all_fit : (words : List Word) → Every IsGoodWord words → AllFit words
all_fit [] h = tt
all_fit (word ∷ words) h = (h.0.0, all_fit words h.1)

all_few : (words : List Word) → Every IsGoodWord words → AreIntegersFit words
all_few [] h = tt
all_few (word ∷ words) h = (h.0.1, all_few words h.1)

-- the words of the tree are of their kinds, and tokens alike to them but for places spell it
abbrev Respelt : Tree → Type 0
Respelt tree = Every IsGoodWord (tree_words tree) × ((run : List Sighted) × (map unplaced run ≡ map unplaced (sighted (page_tokens (tree_words tree)))) × Spells false File source_budget run tree)

respelt : ListAgain → (tree : Tree) (front : List Token) (last : Token) → Every (λ token. IsOfKind token.kind token.text) front → StandApart (sighted (front ++ last ∷ [])) → Spells false File source_budget (sighted (front ++ last ∷ [])) tree → Respelt tree
unfolding same_kind
respelt list tree front last all near (zero, e, p) = elim p [ ]
respelt list tree front last all near (suc n, e, ((decls, face), (v, w, m, eu, p, (t, ew, passed, ex, ec)), h)) =
    let (good, same, fine) = seen_good front (last ∷ []) all in
    let here : v ≡ good = same_front v good t (seen last []) (ap (λ l. v ++ l) (sym ew) ∙ sym eu ∙ same) in
    let ok : Fine v = subst Fine (sym here) (fine, apart_front good (seen last [] ∷ []) (subst StandApart same near)) in
    let words : List Word = decls_words decls in
    let end : Token = end_after words in
    let made = list n source_budget.brackets source_budget.limit source_budget.left m decls (part n (list_of Decls) source_budget.brackets source_budget.limit source_budget.left m v decls ok p) (end ∷ []) in
    let ended : is k.End (seen end []).sight ≡ true = subst (λ (kind : TokenKind). is_of k.End (class_in kind end []) ≡ true) (sym (end_kind words)) refl in
    let (k, q) = derived Sight Face Nonterminal Sort (production false) File source_budget.brackets source_budget.limit source_budget.left m (made.run ++ seen end [] ∷ []) (record { decls = decls })
    ((decls, (seen end []).face), (made.run, seen end [] ∷ [], m, refl, made.derives, (seen end [], refl, ended, refl, refl)), refl) in
    subst Respelt (sym h) (
      made.good,
      (
        made.run ++ seen end [] ∷ [],
        map_append unplaced made.run (seen end [] ∷ []) ∙ ap (λ l. l ++ unplaced (seen end []) ∷ []) made.alike ∙ sym (map_append unplaced (seen_in words (end ∷ [])) (seen end [] ∷ []))
            ∙ ap (map unplaced) (sym (seen_whole words end)),
        (k, m, q),
      ),
    )

-- What the laws below say: the text of a layout is cut into its words again, and breaks no rule; places stand apart.
abbrev pub CutAgain : Type 0
CutAgain = (words : List Word) → IsLaidOut words → (tokens : List Token) × CutsInto (page_text words) tokens × (map without_place tokens ≡ page_tokens words)

abbrev pub Unbroken : Type 0
Unbroken = (words : List Word) → IsLaidOut words → AreIntegersFit words → length (page_text words) ≤ longest_source → BreaksNone (page_text words)

abbrev pub PlacesApart : Type 0
PlacesApart = (s : Nonterminal) (budget : Budget) (run other : List Sighted) (x : Sort s) → map unplaced run ≡ map unplaced other → Spells false s budget run x → (y : Sort s) × Spells false s budget other y × Alike s x y

tree_laid_out : (tree : Tree) → Every IsGoodWord (tree_words tree) → IsLaidOut (tree_words tree)
tree_laid_out tree good = laid_out [] None (tree_words tree) (all_fit (tree_words tree) good) (tree_shape tree)

spelt : CutAgain → PlacesApart → (tree : Tree) → Respelt tree → SpellsTree (tree_text tree) tree
spelt cut places tree (good, (run, alike, spells)) =
    let (tokens, cuts, same) = cut (tree_words tree) (tree_laid_out tree good) in
    let seen_same : map unplaced run ≡ map unplaced (sighted tokens) = alike ∙ ap (λ l. map unplaced (sighted l)) (sym same) ∙ sighted_unplaced tokens in
    let (other, its, like) = places File source_budget run (sighted tokens) tree seen_same spells in
    (tokens, cuts, (other, its, sym like))

-- of a tree that `parse` gives
module _ (list : ListAgain) (fit : (source : Text) (tokens : List Token) → CutsInto source tokens → BreaksNone source → AreFit tokens)
    (few : (source : Text) (tokens : List Token) → CutsInto source tokens → BreaksNone source → IntegersFit tokens)
    (apart : (source : Text) (tokens : List Token) → CutsInto source tokens → AreApart tokens) where
  parsed_respelt : (tree : Tree) → IsParsed tree → Respelt tree
  parsed_respelt tree (source, tokens, (cut, ended, none), spells) =
      let (front, last, e, all) = fronted tokens ended (fit source tokens cut none) (few source tokens cut none) in
      respelt list tree front last all (subst (λ tokens. StandApart (sighted tokens)) e (sighted_apart tokens (apart source tokens cut))) (subst (λ tokens. Spells false File source_budget (sighted tokens) tree) e spells)

  pub spells_tree : CutAgain → PlacesApart → (tree : Tree) → IsParsed tree → SpellsTree (tree_text tree) tree
  spells_tree cut places tree is = spelt cut places tree (parsed_respelt tree is)

  pub parsed_to : CutAgain → Unbroken → PlacesApart → (tree : Tree) → IsParsed tree → length (tree_text tree) ≤ longest_source → IsParsedTo (tree_text tree) tree
  parsed_to cut unbroken places tree is short =
      let its = parsed_respelt tree is in
      (unbroken (tree_words tree) (tree_laid_out tree its.0) (all_few (tree_words tree) its.0) short, spelt cut places tree its)

-- ---- of what `print` gives

abbrev pub IsSentence : {E : Type 0} → Tree → Result Text E → Type 0
IsSentence tree r = IfOk r (λ text. text ≡ tree_text tree)

pub printed_spells : {E : Type 0} (r : Result Text E) (tree : Tree) → (IsParsed tree → SpellsTree (tree_text tree) tree) → IsSentence tree r → IfOk r (λ text. IsParsed tree → SpellsTree text tree)
printed_spells (Ok text) tree h is = λ parsed. subst (λ (text : Text). SpellsTree text tree) (sym is) (h parsed)
printed_spells (Err e) tree h is = tt

pub printed_parsed : {E : Type 0} (r : Result Text E) (tree : Tree) → (IsParsed tree → length (tree_text tree) ≤ longest_source → IsParsedTo (tree_text tree) tree) → IsSentence tree r
    → IfOk r (λ text. IsParsed tree → length text ≤ longest_source → IsParsedTo text tree)
printed_parsed (Ok text) tree h is = λ parsed short. subst (λ (text : Text). IsParsedTo text tree) (sym is) (h parsed (subst (λ (text : Text). length text ≤ longest_source) is short))
printed_parsed (Err e) tree h is = tt
