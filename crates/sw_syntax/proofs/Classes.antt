-- What holds of each class of token is found by computing.
use Rattle.std.proofs.Common.{◌≡◌, ℕ, zero, suc, ◌<◌, Bool, true, false, not, ◌&&◌, List, [], ◌∷◌, length, get_or, refl, subst, arith}
use Rattle.sw_lex.specs.declared.token.TokenKind.TheVariants as k
use Rattle.sw_syntax.specs.declared.class.Sight.{Sight}
use Rattle.sw_grammar.specs.Deciding.{Apart}
use Rattle.sw_syntax.specs.declared.class.Class.{Class}
use Rattle.sw_syntax.specs.declared.class.Class.TheVariants.{Is, Actor, Distributed, Nonisolated, Mutating, Final, Get, GetBlock, ElseIf, TouchingBang, TouchingQuestion, SpacedQuestion, LooseMinus}

-- ---- each class

abbrev pub classes : List Class
classes =
    Is k.Name ∷ Is k.Underscore ∷ Is k.Integer ∷ Is k.StringWhole ∷ Is k.StringStart ∷ Is k.StringMiddle ∷
    Is k.StringLast ∷ Is k.Any ∷ Is k.As ∷ Is k.Async ∷ Is k.Await ∷ Is k.Break ∷
    Is k.Case ∷ Is k.Catch ∷ Is k.Continue ∷ Is k.Default ∷ Is k.Defer ∷ Is k.Do ∷
    Is k.Else ∷ Is k.Enum ∷ Is k.Extension ∷ Is k.False ∷ Is k.Fileprivate ∷ Is k.For ∷
    Is k.Func ∷ Is k.Guard ∷ Is k.If ∷ Is k.Import ∷ Is k.In ∷ Is k.Init ∷
    Is k.Inout ∷ Is k.Internal ∷ Is k.Is ∷ Is k.Let ∷ Is k.Nil ∷ Is k.Private ∷
    Is k.Protocol ∷ Is k.Public ∷ Is k.Repeat ∷ Is k.Return ∷ Is k.Self_ ∷ Is k.Static ∷
    Is k.Struct ∷ Is k.Super ∷ Is k.Switch ∷ Is k.Throw ∷ Is k.Throws ∷ Is k.True ∷
    Is k.Try ∷ Is k.Typealias ∷ Is k.Var ∷ Is k.Where ∷ Is k.While ∷ Is k.HalfOpenRange ∷
    Is k.Ellipsis ∷ Is k.Arrow ∷ Is k.EqualEqual ∷ Is k.NotEqual ∷ Is k.LessEqual ∷ Is k.GreaterEqual ∷
    Is k.And ∷ Is k.Or ∷ Is k.Coalesce ∷ Is k.PlusAssign ∷ Is k.MinusAssign ∷ Is k.StarAssign ∷
    Is k.SlashAssign ∷ Is k.PercentAssign ∷ Is k.LeftParen ∷ Is k.RightParen ∷ Is k.LeftBracket ∷ Is k.RightBracket ∷
    Is k.LeftBrace ∷ Is k.RightBrace ∷ Is k.Comma ∷ Is k.Colon ∷ Is k.Semicolon ∷ Is k.Dot ∷
    Is k.Assign ∷ Is k.Plus ∷ Is k.Minus ∷ Is k.Star ∷ Is k.Slash ∷ Is k.Percent ∷
    Is k.Less ∷ Is k.Greater ∷ Is k.Bang ∷ Is k.Question ∷ Is k.End ∷ Actor ∷
    Distributed ∷ Nonisolated ∷ Mutating ∷ Final ∷ Get ∷ GetBlock ∷
    ElseIf ∷ TouchingBang ∷ TouchingQuestion ∷ SpacedQuestion ∷ LooseMinus ∷
    []

place : (x : Class) → (i : ℕ) × (i < 101) × (get_or classes i LooseMinus ≡ x)
place (Is k.Name) = (0, omega arith, refl)
place (Is k.Underscore) = (1, omega arith, refl)
place (Is k.Integer) = (2, omega arith, refl)
place (Is k.StringWhole) = (3, omega arith, refl)
place (Is k.StringStart) = (4, omega arith, refl)
place (Is k.StringMiddle) = (5, omega arith, refl)
place (Is k.StringLast) = (6, omega arith, refl)
place (Is k.Any) = (7, omega arith, refl)
place (Is k.As) = (8, omega arith, refl)
place (Is k.Async) = (9, omega arith, refl)
place (Is k.Await) = (10, omega arith, refl)
place (Is k.Break) = (11, omega arith, refl)
place (Is k.Case) = (12, omega arith, refl)
place (Is k.Catch) = (13, omega arith, refl)
place (Is k.Continue) = (14, omega arith, refl)
place (Is k.Default) = (15, omega arith, refl)
place (Is k.Defer) = (16, omega arith, refl)
place (Is k.Do) = (17, omega arith, refl)
place (Is k.Else) = (18, omega arith, refl)
place (Is k.Enum) = (19, omega arith, refl)
place (Is k.Extension) = (20, omega arith, refl)
place (Is k.False) = (21, omega arith, refl)
place (Is k.Fileprivate) = (22, omega arith, refl)
place (Is k.For) = (23, omega arith, refl)
place (Is k.Func) = (24, omega arith, refl)
place (Is k.Guard) = (25, omega arith, refl)
place (Is k.If) = (26, omega arith, refl)
place (Is k.Import) = (27, omega arith, refl)
place (Is k.In) = (28, omega arith, refl)
place (Is k.Init) = (29, omega arith, refl)
place (Is k.Inout) = (30, omega arith, refl)
place (Is k.Internal) = (31, omega arith, refl)
place (Is k.Is) = (32, omega arith, refl)
place (Is k.Let) = (33, omega arith, refl)
place (Is k.Nil) = (34, omega arith, refl)
place (Is k.Private) = (35, omega arith, refl)
place (Is k.Protocol) = (36, omega arith, refl)
place (Is k.Public) = (37, omega arith, refl)
place (Is k.Repeat) = (38, omega arith, refl)
place (Is k.Return) = (39, omega arith, refl)
place (Is k.Self_) = (40, omega arith, refl)
place (Is k.Static) = (41, omega arith, refl)
place (Is k.Struct) = (42, omega arith, refl)
place (Is k.Super) = (43, omega arith, refl)
place (Is k.Switch) = (44, omega arith, refl)
place (Is k.Throw) = (45, omega arith, refl)
place (Is k.Throws) = (46, omega arith, refl)
place (Is k.True) = (47, omega arith, refl)
place (Is k.Try) = (48, omega arith, refl)
place (Is k.Typealias) = (49, omega arith, refl)
place (Is k.Var) = (50, omega arith, refl)
place (Is k.Where) = (51, omega arith, refl)
place (Is k.While) = (52, omega arith, refl)
place (Is k.HalfOpenRange) = (53, omega arith, refl)
place (Is k.Ellipsis) = (54, omega arith, refl)
place (Is k.Arrow) = (55, omega arith, refl)
place (Is k.EqualEqual) = (56, omega arith, refl)
place (Is k.NotEqual) = (57, omega arith, refl)
place (Is k.LessEqual) = (58, omega arith, refl)
place (Is k.GreaterEqual) = (59, omega arith, refl)
place (Is k.And) = (60, omega arith, refl)
place (Is k.Or) = (61, omega arith, refl)
place (Is k.Coalesce) = (62, omega arith, refl)
place (Is k.PlusAssign) = (63, omega arith, refl)
place (Is k.MinusAssign) = (64, omega arith, refl)
place (Is k.StarAssign) = (65, omega arith, refl)
place (Is k.SlashAssign) = (66, omega arith, refl)
place (Is k.PercentAssign) = (67, omega arith, refl)
place (Is k.LeftParen) = (68, omega arith, refl)
place (Is k.RightParen) = (69, omega arith, refl)
place (Is k.LeftBracket) = (70, omega arith, refl)
place (Is k.RightBracket) = (71, omega arith, refl)
place (Is k.LeftBrace) = (72, omega arith, refl)
place (Is k.RightBrace) = (73, omega arith, refl)
place (Is k.Comma) = (74, omega arith, refl)
place (Is k.Colon) = (75, omega arith, refl)
place (Is k.Semicolon) = (76, omega arith, refl)
place (Is k.Dot) = (77, omega arith, refl)
place (Is k.Assign) = (78, omega arith, refl)
place (Is k.Plus) = (79, omega arith, refl)
place (Is k.Minus) = (80, omega arith, refl)
place (Is k.Star) = (81, omega arith, refl)
place (Is k.Slash) = (82, omega arith, refl)
place (Is k.Percent) = (83, omega arith, refl)
place (Is k.Less) = (84, omega arith, refl)
place (Is k.Greater) = (85, omega arith, refl)
place (Is k.Bang) = (86, omega arith, refl)
place (Is k.Question) = (87, omega arith, refl)
place (Is k.End) = (88, omega arith, refl)
place Actor = (89, omega arith, refl)
place Distributed = (90, omega arith, refl)
place Nonisolated = (91, omega arith, refl)
place Mutating = (92, omega arith, refl)
place Final = (93, omega arith, refl)
place Get = (94, omega arith, refl)
place GetBlock = (95, omega arith, refl)
place ElseIf = (96, omega arith, refl)
place TouchingBang = (97, omega arith, refl)
place TouchingQuestion = (98, omega arith, refl)
place SpacedQuestion = (99, omega arith, refl)
place LooseMinus = (100, omega arith, refl)

abbrev pub at_each : (Class → Bool) → List Class → Bool
at_each p [] = true
at_each p (x ∷ xs) = p x && at_each p xs

halves : (a b : Bool) → (a && b) ≡ true → (a ≡ true) × (b ≡ true)
halves true b e = (refl, e)
halves false b e = cc

each_holds : (p : Class → Bool) (xs : List Class) → at_each p xs ≡ true → (i : ℕ) → i < length xs → p (get_or xs i LooseMinus) ≡ true
each_holds p [] e i l = absurd (omega arith)
each_holds p (x ∷ xs) e zero l = (halves _ _ e).0
each_holds p (x ∷ xs) e (suc i) l = each_holds p xs (halves _ _ e).1 i (omega arith)

each_class : (p : Class → Bool) → at_each p classes ≡ true → (x : Class) → p x ≡ true
each_class p e x = let (i, l, same) = place x in subst (λ x. p x ≡ true) same (each_holds p classes e i l)

-- ---- each class with each flag

abbrev pub at_flags : (Bool → Bool → Bool) → Bool
at_flags p = (p false false && p false true) && (p true false && p true true)

flags_hold : (p : Bool → Bool → Bool) → at_flags p ≡ true → (a b : Bool) → p a b ≡ true
flags_hold p e a b = go (halves _ _ e) a b
  where
    go : (((p false false && p false true) ≡ true) × ((p true false && p true true) ≡ true)) → (a b : Bool) → p a b ≡ true
    go h false false = (halves _ _ h.0).0
    go h false true = (halves _ _ h.0).1
    go h true false = (halves _ _ h.1).0
    go h true true = (halves _ _ h.1).1

-- a test of all sights
abbrev pub each_sight : (Sight → Bool) → Bool
each_sight p = at_each (λ x. at_flags (λ a b. p (record { class = x; is_first = a; before_colon = b }))) classes

pub at_each_sight : (p : Sight → Bool) → each_sight p ≡ true → (s : Sight) → p s ≡ true
at_each_sight p e s =
    flags_hold (λ a b. p (record { class = s.class; is_first = a; before_colon = b })) (each_class (λ x. at_flags (λ a b. p (record { class = x; is_first = a; before_colon = b }))) e s.class) s.is_first s.before_colon

not_both : (f h : Bool) → not (f && h) ≡ true → f ≡ true → h ≡ true → ⊥
not_both true h e p q = cc
not_both false h e p q = cc

-- no sight passes both tests
pub apart : (f h : Sight → Bool) → each_sight (λ s. not (f s && h s)) ≡ true → Apart f h
apart f h e s = not_both (f s) (h s) (at_each_sight (λ s. not (f s && h s)) e s)
