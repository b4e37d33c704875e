-- Tokens that are alike but for their places spell trees that are alike but for their places.
use Rattle.std.proofs.Common.{◌≡◌, zero, suc, false, List, map, ap}
use Rattle.sw_grammar.specs.Grammar.{Budget}
use Rattle.sw_grammar.proofs.Near.{Steady, spelt_near}
use Rattle.sw_syntax.specs.declared.class.Sight.{Sight}
use Rattle.sw_syntax.specs.Tokens.{Sighted, Face}
use Rattle.sw_syntax.specs.Meaning.{Spells}
use Rattle.sw_syntax.specs.Nonterminals.{Decls, Members, EnumItems, Requirements, InBlock, InArm, Open, Closed, Nonterminal, File, ItemList, AfterItem, Item, Param, Case, Payload, TypeExpr, BaseType, Block, Statements, SomeStatements, AfterStatement, AfterReturn, Statement, If, Arms, Condition, Pattern, Caught, Expr, Ternary, Binary, Prefix, Postfix, PostfixForm, Argument, Primary, Elements, Sort}
use Rattle.sw_syntax.specs.Grammar.{production}
use Rattle.sw_places.specs.Places.{unplaced, Alike}
use Rattle.sw_places.proofs.ErasedExpr.{is_place_same}
use Rattle.sw_places.proofs.NearParts.{NearFace, Near}
use Rattle.sw_places.proofs.NearExpr as expressions
use Rattle.sw_places.proofs.NearPattern as patterns
use Rattle.sw_places.proofs.NearStmt as statements
use Rattle.sw_places.proofs.NearDecl as declarations

tokens_near : (t u : Sighted) → unplaced t ≡ unplaced u → (t.sight ≡ u.sight) × NearFace t.face u.face
tokens_near t u h = (ap (λ (t : Sighted). t.sight) h, (ap (λ (t : Sighted). t.face.kind) h, ap (λ (t : Sighted). t.face.text) h))

near_rule : (s : Nonterminal) (x y : Sort s) → Near (production false s) x y → Alike s x y
near_rule File = declarations.near_file
near_rule (ItemList l) = declarations.near_some l
near_rule (AfterItem l) = declarations.near_rest l
near_rule (Item l) = declarations.near_item l
near_rule Param = declarations.near_parameter
near_rule Case = declarations.near_case
near_rule Payload = declarations.near_payload
near_rule TypeExpr = expressions.near_type
near_rule BaseType = expressions.near_base
near_rule Block = statements.near_block
near_rule (Statements at) = statements.near_sbody at
near_rule (SomeStatements at) = statements.near_stmts at
near_rule (AfterStatement at ending) = statements.near_after_stmt at ending
near_rule (AfterReturn at) = statements.near_after_return at
near_rule (Statement Open) = statements.near_open
near_rule (Statement Closed) = statements.near_closed
near_rule If = statements.near_if
near_rule Arms = statements.near_arms
near_rule Condition = patterns.near_cond
near_rule Pattern = patterns.near_pattern
near_rule Caught = patterns.near_catch_pattern
near_rule Expr = expressions.near_expr
near_rule Ternary = expressions.near_tern
near_rule (Binary n) = expressions.near_bin n
near_rule Prefix = expressions.near_prefix
near_rule Postfix = expressions.near_post
near_rule PostfixForm = expressions.near_form
near_rule Argument = expressions.near_arg
near_rule Primary = expressions.near_prim
near_rule Elements = expressions.near_elements

-- what ends in a name, a member or an index is told without its places
steady : (s : Nonterminal) → Steady Sight Face Nonterminal Sort (production false) unplaced NearFace Alike (production false s)
steady File = search parts 64
steady (ItemList l) = search parts 64
steady (AfterItem l) = search parts 64
steady (Item Decls) = search parts 64
steady (Item Members) = search parts 64
steady (Item EnumItems) = search parts 64
steady (Item Requirements) = search parts 64
steady Param = search parts 64
steady Case = search parts 64
steady Payload = search parts 64
steady TypeExpr = search parts 64
steady BaseType = search parts 64
steady Block = search parts 64
steady (Statements InBlock) = search parts 64
steady (Statements InArm) = search parts 64
steady (SomeStatements at) = search parts 64
steady (AfterStatement InBlock Open) = search parts 64
steady (AfterStatement InBlock Closed) = search parts 64
steady (AfterStatement InArm Open) = search parts 64
steady (AfterStatement InArm Closed) = search parts 64
steady (AfterReturn InBlock) = search parts 64
steady (AfterReturn InArm) = search parts 64
steady (Statement Open) = search is_place_same parts 64
steady (Statement Closed) = search parts 64
steady If = search parts 64
steady Arms = search parts 64
steady Condition = search parts 64
steady Pattern = search parts 64
steady Caught = search parts 64
steady Expr = search parts 64
steady Ternary = search parts 64
steady (Binary zero) = search parts 64
steady (Binary (suc zero)) = search parts 64
steady (Binary (suc (suc zero))) = search parts 64
steady (Binary (suc (suc (suc zero)))) = search parts 64
steady (Binary (suc (suc (suc (suc zero))))) = search parts 64
steady (Binary (suc (suc (suc (suc (suc zero)))))) = search parts 64
steady (Binary (suc (suc (suc (suc (suc (suc n))))))) = search parts 64
steady Prefix = search parts 64
steady Postfix = search parts 64
steady PostfixForm = search parts 64
steady Argument = search parts 64
steady Primary = search parts 64
steady Elements = search parts 64

pub apart : (s : Nonterminal) (budget : Budget) (run other : List Sighted) (x : Sort s) → map unplaced run ≡ map unplaced other → Spells false s budget run x → (y : Sort s) × Spells false s budget other y × Alike s x y
apart s budget run other x h p =
    let (y, like, q) = spelt_near Sight Face Nonterminal Sort (production false) unplaced NearFace Alike tokens_near steady near_rule s budget run other x h p in (y, q, like)
