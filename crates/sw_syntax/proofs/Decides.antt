-- One token ahead decides the grammar: the tables are those of the productions, and no nonterminal calls itself before it takes a token.
use Rattle.std.proofs.Common.{◌≡◌, refl, zero, suc, ◌<◌, Bool, true, false, arith, lit<}
use Rattle.sw_grammar.specs.Deciding.{IsTable, Leads, IsDecided}
use Rattle.sw_syntax.specs.declared.class.Sight.{Sight}
use Rattle.sw_lex.specs.Tables.{same_kind, is_reserved_kind}
use Rattle.sw_syntax.specs.Tokens.{Face}
use Rattle.sw_syntax.specs.Nonterminals.{Decls, Members, EnumItems, Requirements, InBlock, InArm, Open, Closed, Nonterminal, File, ItemList, AfterItem, Item, Param, Case, Payload, TypeExpr, BaseType, Block, Statements, SomeStatements, AfterStatement, AfterReturn, Statement, If, Arms, Condition, Pattern, Caught, Expr, Ternary, Binary, Prefix, Postfix, PostfixForm, Argument, Primary, Elements, Sort}
use Rattle.sw_syntax.specs.Grammar.{production}
use Rattle.sw_grammar.specs.Checking.{is_table}
use Rattle.sw_grammar.proofs.Checked.{table_checked}
use Rattle.sw_syntax.proofs.Classes.{each_sight, at_each_sight}
use Rattle.sw_syntax.specs.Tables.{first_table, follow_last_table, nullable_table, rank, width}

abbrev Fits : Bool → Nonterminal → Type 0
Fits lenient x = IsTable Sight Face Nonterminal Sort (production lenient) first_table nullable_table follow_last_table x

abbrev fits : Bool → Nonterminal → Bool
fits lenient x = is_table Sight Face Nonterminal Sort (production lenient) first_table nullable_table follow_last_table each_sight x

found : (lenient : Bool) (x : Nonterminal) → fits lenient x ≡ true → Fits lenient x
found lenient = table_checked Sight Face Nonterminal Sort (production lenient) first_table nullable_table follow_last_table each_sight at_each_sight

-- what the tables say of a nonterminal is found by computing
table : (lenient : Bool) (x : Nonterminal) → Fits lenient x
unfolding same_kind is_reserved_kind
table lenient File = found lenient File refl
table lenient (ItemList Decls) = found lenient (ItemList Decls) refl
table lenient (ItemList Members) = found lenient (ItemList Members) refl
table lenient (ItemList EnumItems) = found lenient (ItemList EnumItems) refl
table lenient (ItemList Requirements) = found lenient (ItemList Requirements) refl
table lenient (AfterItem Decls) = found lenient (AfterItem Decls) refl
table lenient (AfterItem Members) = found lenient (AfterItem Members) refl
table lenient (AfterItem EnumItems) = found lenient (AfterItem EnumItems) refl
table lenient (AfterItem Requirements) = found lenient (AfterItem Requirements) refl
table lenient (Item Decls) = found lenient (Item Decls) refl
table lenient (Item Members) = found lenient (Item Members) refl
table lenient (Item EnumItems) = found lenient (Item EnumItems) refl
table lenient (Item Requirements) = found lenient (Item Requirements) refl
table lenient Param = found lenient Param refl
table lenient Case = found lenient Case refl
table lenient Payload = found lenient Payload refl
table lenient TypeExpr = found lenient TypeExpr refl
table lenient BaseType = found lenient BaseType refl
table lenient Block = found lenient Block refl
table lenient (Statements InBlock) = found lenient (Statements InBlock) refl
table lenient (SomeStatements InBlock) = found lenient (SomeStatements InBlock) refl
table lenient (AfterStatement InBlock Open) = found lenient (AfterStatement InBlock Open) refl
table lenient (AfterStatement InBlock Closed) = found lenient (AfterStatement InBlock Closed) refl
table lenient (AfterReturn InBlock) = found lenient (AfterReturn InBlock) refl
table lenient (Statements InArm) = found lenient (Statements InArm) refl
table lenient (SomeStatements InArm) = found lenient (SomeStatements InArm) refl
table lenient (AfterStatement InArm Open) = found lenient (AfterStatement InArm Open) refl
table lenient (AfterStatement InArm Closed) = found lenient (AfterStatement InArm Closed) refl
table lenient (AfterReturn InArm) = found lenient (AfterReturn InArm) refl
table lenient (Statement Open) = found lenient (Statement Open) refl
table lenient (Statement Closed) = found lenient (Statement Closed) refl
table lenient If = found lenient If refl
table lenient Arms = found lenient Arms refl
table lenient Condition = found lenient Condition refl
table lenient Pattern = found lenient Pattern refl
table lenient Caught = found lenient Caught refl
table lenient Expr = found lenient Expr refl
table lenient Ternary = found lenient Ternary refl
table lenient Prefix = found lenient Prefix refl
table lenient Postfix = found lenient Postfix refl
table lenient PostfixForm = found lenient PostfixForm refl
table lenient Argument = found lenient Argument refl
table lenient Primary = found lenient Primary refl
table lenient Elements = found lenient Elements refl
table false (Binary zero) = found false (Binary zero) refl
table true (Binary zero) = found true (Binary zero) refl
table false (Binary (suc zero)) = found false (Binary (suc zero)) refl
table true (Binary (suc zero)) = found true (Binary (suc zero)) refl
table false (Binary (suc (suc zero))) = found false (Binary (suc (suc zero))) refl
table true (Binary (suc (suc zero))) = found true (Binary (suc (suc zero))) refl
table false (Binary (suc (suc (suc zero)))) = found false (Binary (suc (suc (suc zero)))) refl
table true (Binary (suc (suc (suc zero)))) = found true (Binary (suc (suc (suc zero)))) refl
table false (Binary (suc (suc (suc (suc zero))))) = found false (Binary (suc (suc (suc (suc zero))))) refl
table true (Binary (suc (suc (suc (suc zero))))) = found true (Binary (suc (suc (suc (suc zero))))) refl
table false (Binary (suc (suc (suc (suc (suc zero)))))) = found false (Binary (suc (suc (suc (suc (suc zero)))))) refl
table true (Binary (suc (suc (suc (suc (suc zero)))))) = found true (Binary (suc (suc (suc (suc (suc zero)))))) refl
table lenient (Binary (suc (suc (suc (suc (suc (suc n))))))) = found lenient (Binary (suc (suc (suc (suc (suc (suc n))))))) refl

never : {A : Type 0} → false ≡ true → A
never e = absurd (cc)

low : (x : Nonterminal) → rank x < width
low File = lit< tt
low (ItemList Decls) = lit< tt
low (ItemList Members) = lit< tt
low (ItemList EnumItems) = lit< tt
low (ItemList Requirements) = lit< tt
low (AfterItem Decls) = lit< tt
low (AfterItem Members) = lit< tt
low (AfterItem EnumItems) = lit< tt
low (AfterItem Requirements) = lit< tt
low (Item Decls) = lit< tt
low (Item Members) = lit< tt
low (Item EnumItems) = lit< tt
low (Item Requirements) = lit< tt
low Param = lit< tt
low Case = lit< tt
low Payload = lit< tt
low TypeExpr = lit< tt
low BaseType = lit< tt
low Block = lit< tt
low (Statements InBlock) = lit< tt
low (SomeStatements InBlock) = lit< tt
low (AfterStatement InBlock Open) = lit< tt
low (AfterStatement InBlock Closed) = lit< tt
low (AfterReturn InBlock) = lit< tt
low (Statements InArm) = lit< tt
low (SomeStatements InArm) = lit< tt
low (AfterStatement InArm Open) = lit< tt
low (AfterStatement InArm Closed) = lit< tt
low (AfterReturn InArm) = lit< tt
low (Statement Open) = lit< tt
low (Statement Closed) = lit< tt
low If = lit< tt
low Arms = lit< tt
low Condition = lit< tt
low Pattern = lit< tt
low Caught = lit< tt
low Expr = lit< tt
low Ternary = lit< tt
low Prefix = lit< tt
low Postfix = lit< tt
low PostfixForm = lit< tt
low Argument = lit< tt
low Primary = lit< tt
low Elements = lit< tt
low (Binary n) = omega arith

leads : (lenient : Bool) (x : Nonterminal) → Leads Sight Face Nonterminal Sort (production lenient) first_table nullable_table follow_last_table rank (production lenient x) (rank x)
leads lenient File = (lit< tt, (λ _. tt))
leads lenient (ItemList Decls) = (lit< tt, never)
leads lenient (ItemList Members) = (lit< tt, never)
leads lenient (ItemList EnumItems) = (lit< tt, never)
leads lenient (ItemList Requirements) = (lit< tt, never)
leads lenient (AfterItem Decls) = ((tt, never), lit< tt)
leads lenient (AfterItem Members) = ((tt, never), lit< tt)
leads lenient (AfterItem EnumItems) = ((tt, never), lit< tt)
leads lenient (AfterItem Requirements) = ((tt, never), lit< tt)
leads lenient (Item Decls) = ((tt, never), ((tt, never), (tt, (λ _. ((tt, never), ((tt, never), ((tt, never), ((tt, never), ((tt, never), never)))))))))
leads lenient (Item Members) = ((tt, never), (tt, (λ _. ((tt, never), ((tt, never), (((tt, never), never), (tt, never)))))))
leads lenient (Item EnumItems) = ((tt, never), lit< tt)
leads lenient (Item Requirements) = ((tt, never), (tt, (λ _. (tt, never))))
leads lenient Param = (((tt, never), (tt, never)), never)
leads lenient Case = (tt, never)
leads lenient Payload = ((tt, never), lit< tt)
leads lenient TypeExpr = (lit< tt, never)
leads lenient BaseType = ((tt, never), ((tt, never), ((tt, never), (tt, never))))
leads lenient Block = (tt, never)
leads lenient (Statements InBlock) = lit< tt
leads lenient (SomeStatements InBlock) = ((lit< tt, never), ((lit< tt, never), (tt, never)))
leads lenient (AfterStatement InBlock Open) = ((tt, never), lit< tt)
leads lenient (AfterStatement InBlock Closed) = ((tt, never), lit< tt)
leads lenient (AfterReturn InBlock) = ((lit< tt, never), ((tt, never), lit< tt))
leads lenient (Statements InArm) = (lit< tt, lit< tt)
leads lenient (SomeStatements InArm) = ((lit< tt, never), ((lit< tt, never), (tt, never)))
leads lenient (AfterStatement InArm Open) = ((tt, never), (lit< tt, lit< tt))
leads lenient (AfterStatement InArm Closed) = ((tt, never), (lit< tt, lit< tt))
leads lenient (AfterReturn InArm) = ((lit< tt, never), ((tt, never), (lit< tt, lit< tt)))
leads lenient (Statement Open) = ((tt, never), (lit< tt, ((tt, never), (tt, never))))
leads lenient (Statement Closed) = (lit< tt, ((tt, never), ((tt, never), ((tt, never), ((tt, never), ((tt, never), (tt, tt)))))))
leads lenient If = ((tt, never), never)
leads lenient Arms = (((tt, never), tt), never)
leads lenient Condition = (lit< tt, (tt, never))
leads lenient Pattern = (tt, ((tt, (tt, (tt, (tt, never)))), (tt, (tt, (λ _. (tt, never))))))
leads lenient Caught = ((tt, never), (tt, never))
leads lenient Expr = ((tt, never), (λ _. (tt, (λ _. lit< tt))))
leads lenient Ternary = (lit< tt, never)
leads lenient Prefix = ((tt, never), lit< tt)
leads lenient Postfix = (lit< tt, never)
leads lenient PostfixForm = ((tt, never), ((tt, never), ((tt, never), tt)))
leads lenient Argument = ((tt, never), lit< tt)
leads lenient Primary = ((tt, (tt, (tt, (tt, never)))), (tt, (tt, (tt, ((tt, never), ((tt, never), (tt, never)))))))
leads lenient Elements = (lit< tt, never)
leads lenient (Binary zero) = (lit< tt, never)
leads lenient (Binary (suc zero)) = (lit< tt, never)
leads false (Binary (suc (suc zero))) = (lit< tt, never)
leads true (Binary (suc (suc zero))) = (lit< tt, never)
leads lenient (Binary (suc (suc (suc zero)))) = (lit< tt, never)
leads lenient (Binary (suc (suc (suc (suc zero))))) = (lit< tt, never)
leads lenient (Binary (suc (suc (suc (suc (suc zero)))))) = (lit< tt, never)
leads lenient (Binary (suc (suc (suc (suc (suc (suc n))))))) = omega arith

pub is_decided : (lenient : Bool) → IsDecided Sight Face Nonterminal Sort (production lenient) first_table nullable_table follow_last_table rank width
is_decided lenient = record { table = table lenient; low = low; leads = leads lenient }
