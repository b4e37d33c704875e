-- How variables are found while a func is lowered, and how its code grows statement by statement.
use Rattle.std.proofs.Common.{◌≡◌, ℕ, zero, suc, ◌+◌, ◌<◌, ◌≤◌, List, [], ◌∷◌, ◌++◌, length, drop, Some, Bool, true, false, refl, sym, ap, ◌∙◌, arith, add-one}
use Rattle.std.specs.Prelude.{nat_eq, map, slice_get, if◌then◌else◌}
use Rattle.std.specs.Cmp.Lexicographic.{pointwise}
use Rattle.std.specs.Option.{option_map}
use Rattle.sw_job.specs.declared.value.Ty.{Ty}
use Rattle.std.proofs.Common.{get_or, drop-cons}
use Rattle.std.proofs.lemmas.List.{append_assoc}
use Rattle.sw_thin.specs.Program as t
use Rattle.sw_thin.specs.Program.{Let as LetStmt, Print as PrintStmt}
use Rattle.sw_thin.specs.ProgramView.{stmt_of, body_of, func_of}
use Rattle.sw_thin.specs.declared.program.Stmt.{Stmt}
use Rattle.sw_thin.specs.declared.program.Func.{Func}
use Rattle.sw_job.specs.declared.value.Ty.TheVariants.{Void as VoidTy}
use Rattle.sw_job.specs.declared.instr.Instr.{Instr}
use Rattle.sw_job.specs.declared.code.Shape.{Shape}
use Rattle.sw_job.specs.declared.code.FuncCode.{FuncCode}
use Rattle.sw_thin.specs.Lowering.{Vars, var_type, depth_of, type_of, expr_in, declares, declared_types, stmt_code, scope_after, body_code, stmt_shapes, vars_after, body_shapes, func_code}
use Rattle.sw_thin.specs.Drafts.{is_named_at, scope_of}

-- how many variables are newer than the newest of a name
abbrev pub newer : List ℕ → Vars → ℕ
newer x vars = depth_of x (scope_of [] vars)

pub found : (x : List ℕ) (vars : Vars) (i : ℕ) → is_named_at x vars i ≡ true → newer x (drop i vars) ≡ 0
found x [] zero h = refl
found x [] (suc i) h = refl
found x (v ∷ vars) zero h = ap (λ b. if b then 0 else newer x vars + 1) h
found x (v ∷ vars) (suc i) h = found x vars i h

pub passed : (x : List ℕ) (vars : Vars) (i : ℕ) → i < length vars → is_named_at x vars i ≡ false → newer x (drop i vars) ≡ 1 + newer x (drop (suc i) vars)
passed x [] i lt h = absurd (omega arith)
passed x (v ∷ vars) zero lt h = ap (λ b. if b then 0 else newer x vars + 1) h ∙ (let e : newer x vars + 1 ≡ 1 + newer x vars = omega arith in e)
passed x (v ∷ vars) (suc i) lt h = passed x vars i (omega arith) h

pub none_left : (x : List ℕ) (vars : Vars) (i : ℕ) → length vars ≤ i → newer x (drop i vars) ≡ 0
none_left x [] zero h = refl
none_left x [] (suc i) h = refl
none_left x (v ∷ vars) zero h = absurd (omega arith)
none_left x (v ∷ vars) (suc i) h = none_left x vars i (omega arith)

pub type_found : (x : List ℕ) (vars : Vars) → var_type x vars ≡ option_map (λ v. v.1) (slice_get vars (newer x vars))
type_found x [] = refl
type_found x (v ∷ vars) = go (pointwise nat_eq x v.0) (type_found x vars)
  where
    go : (b : Bool) → var_type x vars ≡ option_map (λ w. w.1) (slice_get vars (newer x vars)) → (if b then Some v.1 else var_type x vars) ≡ option_map (λ w. w.1) (slice_get (v ∷ vars) (if b then 0 else newer x vars + 1))
    go true h = refl
    go false h = rw add-one h

pub depth_found : (x : List ℕ) (parts : List Ty) (vars : Vars) → depth_of x (scope_of parts vars) ≡ length parts + newer x vars
depth_found x [] vars = omega arith
depth_found x (t ∷ parts) vars = omega (arith, depth_found x parts vars)

-- the statements that are left, from the next one on
pub next_left : (body : List Stmt) (i : ℕ) (s : Stmt) → i < length body → s ≡ get_or body i s → body_of (drop i body) ≡ stmt_of s ∷ body_of (drop (suc i) body)
next_left body i s lt e = ap body_of (drop-cons body i s lt) ∙ ap (λ x. stmt_of x ∷ body_of (drop (suc i) body)) (sym e)

pub none_to_do : (body : List Stmt) (i : ℕ) → length body ≤ i → body_of (drop i body) ≡ []
none_to_do [] zero h = refl
none_to_do [] (suc i) h = refl
none_to_do (x ∷ body) zero h = absurd (omega arith)
none_to_do (x ∷ body) (suc i) h = none_to_do body i (omega arith)

scope_more : (vars : Vars) (s : t.Stmt) → scope_after (scope_of [] vars) s ≡ scope_of [] (vars_after vars s)
scope_more vars (LetStmt x e) = refl
scope_more vars (PrintStmt e) = refl

pub variables_more : (vars : Vars) (s : t.Stmt) (left rest : List t.Stmt) (old new whole : List Ty) → left ≡ s ∷ rest → old ++ declared_types vars left ≡ whole → new ≡ old ++ declares vars s → new ++ declared_types (vars_after vars s) rest ≡ whole
variables_more vars (LetStmt x e) left rest old new whole is h n =
    ap (λ l. l ++ declared_types ((x, type_of vars e) ∷ vars) rest) n ∙ append_assoc old (type_of vars e ∷ []) (declared_types ((x, type_of vars e) ∷ vars) rest) ∙ ap (λ l. old ++ declared_types vars l) (sym is) ∙ h
variables_more vars (PrintStmt e) left rest old new whole is h n =
    ap (λ l. l ++ declared_types vars rest) n ∙ append_assoc old [] (declared_types vars rest) ∙ ap (λ l. old ++ declared_types vars l) (sym is) ∙ h

pub instrs_more : (vars : Vars) (s : t.Stmt) (left rest : List t.Stmt) (old new whole : List Instr) → left ≡ s ∷ rest → old ++ body_code (scope_of [] vars) left ≡ whole → new ≡ old ++ stmt_code (scope_of [] vars) s → new ++ body_code (scope_of [] (vars_after vars s)) rest ≡ whole
instrs_more vars s left rest old new whole is h n =
    ap (λ l. l ++ body_code (scope_of [] (vars_after vars s)) rest) n ∙ append_assoc old (stmt_code (scope_of [] vars) s) (body_code (scope_of [] (vars_after vars s)) rest)
    ∙ ap (λ scope. old ++ (stmt_code (scope_of [] vars) s ++ body_code scope rest)) (sym (scope_more vars s)) ∙ ap (λ l. old ++ body_code (scope_of [] vars) l) (sym is) ∙ h

pub shapes_more : (vars : Vars) (s : t.Stmt) (left rest : List t.Stmt) (old new whole : List Shape) → left ≡ s ∷ rest → old ++ body_shapes vars left ≡ whole → new ≡ old ++ stmt_shapes (length vars) (type_of vars (expr_in s)) s → new ++ body_shapes (vars_after vars s) rest ≡ whole
shapes_more vars s left rest old new whole is h n =
    ap (λ l. l ++ body_shapes (vars_after vars s) rest) n ∙ append_assoc old (stmt_shapes (length vars) (type_of vars (expr_in s)) s) (body_shapes (vars_after vars s) rest)
    ∙ ap (λ l. old ++ body_shapes vars l) (sym is) ∙ h

pub lowered : (f : Func) (variables : List Ty) (instrs : List Instr) (shapes : List Shape) → variables ≡ declared_types [] (body_of f.body) → instrs ≡ body_code [] (body_of f.body) → shapes ≡ body_shapes [] (body_of f.body) → (let c : FuncCode = record { result = VoidTy; variables = variables; instrs = instrs; shapes = shapes } in c) ≡ func_code (func_of f)
lowered f variables instrs shapes v i s = λ j. record { result = VoidTy; variables = v j; instrs = i j; shapes = s j }

-- lowering each func of a tree is lowering each func of what the tree says
pub all_lowered : (funcs : List Func) → map (λ f. func_code (func_of f)) funcs ≡ map func_code (map func_of funcs)
all_lowered [] = refl
all_lowered (f ∷ funcs) = ap (λ l. func_code (func_of f) ∷ l) (all_lowered funcs)
