-- The text of a whole tree.
use Rattle.std.proofs.Common.{◌≡◌, ℕ, ◌-◌, ◌≤◌, arith, List, [], ◌∷◌, ◌++◌, map, take, drop, length, get_or, refl, sym, ap, ◌∙◌}
use Rattle.std.proofs.lemmas.List.{take_all}
use Rattle.sw_lex.specs.Bytes.{Text, line_feed}
use Rattle.sw_layout.specs.declared.gap.Gap.{Gap}
use Rattle.sw_layout.specs.declared.gap.Gap.TheVariants as gap
use Rattle.sw_layout.specs.Words.{Word, words_text, page_text}
use Rattle.sw_tree.specs.declared.decl.Modifier.{Modifier}
use Rattle.sw_tree.specs.declared.decl.Decl.{Decl}
use Rattle.sw_tree.specs.declared.decl.Decl.TheVariants as d
use Rattle.sw_tree.specs.declared.decl.Tree.{Tree}
use Rattle.sw_print.specs.Statements.{each_line}
use Rattle.sw_print.specs.Declarations.{modified, decl_words, decls_words, tree_text}
use Rattle.sw_print.proofs.TextLemmas.{text_append}

-- a layout with a word in it ends its last line
abbrev Ended : List Word → Type 0
Ended words = page_text words ≡ words_text words ++ line_feed ∷ []

modified_ended : (ms : List Modifier) (w : Gap → Word) (us : Gap → List Word) (v : List Word) (g : Gap) → Ended (modified ms (λ g. w g ∷ us g) g ++ v)
modified_ended [] w us v g = refl
modified_ended (m ∷ ms) w us v g = refl

func_ended : (ms : List Modifier) (w : Gap → Word) (us : Gap → List Word) (u v : List Word) (g : Gap) → Ended ((modified ms (λ g. w g ∷ us g) g ++ u) ++ v)
func_ended [] w us u v g = refl
func_ended (m ∷ ms) w us u v g = refl

decl_ended : (x : Decl) (v : List Word) (g : Gap) → Ended (decl_words x g ++ v)
decl_ended (d.Import span name) v g = refl
decl_ended (d.Typealias x) v g = refl
decl_ended (d.Struct heading members) v g = modified_ended heading.modifiers _ _ v g
decl_ended (d.Enum heading items) v g = modified_ended heading.modifiers _ _ v g
decl_ended (d.Protocol heading requirements) v g = modified_ended heading.modifiers _ _ v g
decl_ended (d.Actor heading members) v g = modified_ended heading.modifiers _ _ v g
decl_ended (d.Func x) v g = func_ended x.signature.modifiers _ _ _ v g

-- the first declaration, the others, and the end of the last line
pub tree_rest : (tree : Tree) (decls : List Decl) (first : Decl) (p0 p1 p2 p3 : Text) → decls ≡ tree.decls → 1 ≤ length decls → first ≡ get_or decls 0 first
    → p0 ≡ [] → p1 ≡ p0 ++ words_text (decl_words first gap.Start) → p2 ≡ p1 ++ words_text (each_line (map decl_words (take (length decls - 1) (drop 1 decls))))
    → p3 ≡ p2 ++ line_feed ∷ [] → p3 ≡ tree_text tree
tree_rest tree [] first p0 p1 p2 p3 e h is p q r l = absurd (omega arith)
tree_rest tree (x ∷ xs) first p0 p1 p2 p3 e h is p q r l =
    let n : ℕ = length (x ∷ xs) - 1 in
    let s : take n xs ≡ xs = take_all n xs (omega arith) in
    let others : List Word = each_line (map decl_words xs) in
    l ∙ ap (λ t. t ++ line_feed ∷ [])
    (r ∙ ap (λ ys. p1 ++ words_text (each_line (map decl_words ys))) s
    ∙ ap (λ t. t ++ words_text others) (q ∙ ap (λ t. t ++ words_text (decl_words first gap.Start)) p ∙ ap (λ y. words_text (decl_words y gap.Start)) is)
    ∙ sym (text_append (decl_words x gap.Start) others))
    ∙ sym (decl_ended x others gap.Start) ∙ ap (λ ys. page_text (decls_words ys)) e
