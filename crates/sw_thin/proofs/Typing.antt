-- The code of typed funcs is typed: the operand types before each of its instructions agree.
use Rattle.std.proofs.Common.{◌≡◌, ℕ, zero, suc, ◌+◌, List, [], ◌∷◌, ◌++◌, length, Option, Some, None, refl, sym, ap, ◌∙◌, subst, arith, append_assoc, length-append, map, Bool, true, false}
use Rattle.std.specs.Prelude.{slice_get, reverse, take, unwrap_or, nat_eq, if◌then◌else◌}
use Rattle.std.specs.Cmp.Lexicographic.{pointwise}
use Rattle.std.specs.List.{AllByRecursion}
use Rattle.std.specs.Option.{option_map}
use Rattle.std.proofs.lemmas.Option.{slice_get-map}
use Rattle.std.proofs.lemmas.List.{map-append, reverse-append, reverse-reverse, length-reverse}
use Rattle.std.proofs.Math.Seq.{take-append_seam}
use Rattle.sw_thin.specs.Program.{Expr, Stmt, Func, Let as LetStmt, Print as PrintStmt, Int as IntExpr, Str as StrExpr, Var as VarExpr, Add as AddExpr}
use Rattle.sw_job.specs.declared.value.Ty.{Ty}
use Rattle.sw_job.specs.declared.value.Ty.TheVariants.{Int as IntTy, Void as VoidTy}
use Rattle.sw_job.specs.declared.instr.Instr.{Instr}
use Rattle.sw_job.specs.declared.instr.Instr.TheVariants.{Add, Print, Take, Discard}
use Rattle.sw_job.specs.declared.code.Shape.{Shape}
use Rattle.sw_job.specs.declared.code.FuncCode.{FuncCode}
use Rattle.sw_job.specs.Machine.{instr_in, fetch, is_take}
use Rattle.sw_job.specs.Typed.{types_in, shape_in, shape_at, result_in, result_of, Goes, Waits, Agrees, IsTyped}
use Rattle.sw_thin.specs.Lowering.{Scope, depth_of, scope_after, expr_code, stmt_code, body_code, Vars, var_type, type_of, expr_shapes, stmt_shapes, body_shapes, expr_in, vars_after, declared_types, func_code, IsTypedExpr, IsTypedStmt, IsTypedBody}

-- these instructions stand at an address, with these operand types before them
abbrev pub Stand : List FuncCode → ℕ → ℕ → List Instr → List (List Ty) → Type 0
Stand code f p [] [] = Unit {0}
Stand code f p (i ∷ is) (types ∷ shapes) = (fetch code f p ≡ Some i) × (shape_at code f p ≡ Some types) × Stand code f (p + 1) is shapes
Stand code f p [] (types ∷ shapes) = ⊥
Stand code f p (i ∷ is) [] = ⊥

-- and each of them agrees with the types before it
abbrev pub AllAgree : List FuncCode → ℕ → ℕ → List Instr → List (List Ty) → Type 0
AllAgree code f p [] [] = Unit {0}
AllAgree code f p (i ∷ is) (types ∷ shapes) = Agrees code f p i types × AllAgree code f (p + 1) is shapes
AllAgree code f p [] (types ∷ shapes) = ⊥
AllAgree code f p (i ∷ is) [] = ⊥

-- the operand types before each instruction, where before the first they are these
abbrev pub expr_types : List Ty → Expr → List (List Ty)
expr_types types (IntExpr m) = types ∷ []
expr_types types (StrExpr text) = types ∷ []
expr_types types (VarExpr x) = types ∷ []
expr_types types (AddExpr a b) = expr_types types a ++ (expr_types (IntTy ∷ types) b ++ (IntTy ∷ IntTy ∷ types) ∷ [])

abbrev pub stmt_types : List Ty → Ty → Stmt → List (List Ty)
stmt_types types t (LetStmt x e) = types ∷ expr_types types e
stmt_types types t (PrintStmt e) = types ∷ (expr_types types e ++ (t ∷ types) ∷ types ∷ (VoidTy ∷ types) ∷ [])

-- the types of the variables in sight, the newest first
abbrev pub seen : Vars → List Ty
seen [] = []
seen (v ∷ vars) = v.1 ∷ seen vars

abbrev pub body_types : Vars → List Stmt → List (List Ty)
body_types vars [] = seen vars ∷ []
body_types vars (s ∷ body) = stmt_types (seen vars) (type_of vars (expr_in s)) s ++ body_types (vars_after vars s) body

-- the shapes are of these types
expr_told : (all : List Ty) (n : ℕ) (parts : List Ty) (e : Expr) → map (types_in all) (expr_shapes n parts e) ≡ expr_types (parts ++ reverse (take n all)) e
expr_told all n parts (IntExpr m) = refl
expr_told all n parts (StrExpr text) = refl
expr_told all n parts (VarExpr x) = refl
expr_told all n parts (AddExpr a b) =
    let last : Shape = record { variables = n; parts = IntTy ∷ IntTy ∷ parts } in
    let types = parts ++ reverse (take n all) in
    let sb = expr_shapes n (IntTy ∷ parts) b in
    let suffix : map (types_in all) (sb ++ last ∷ []) ≡ expr_types (IntTy ∷ types) b ++ (IntTy ∷ IntTy ∷ types) ∷ [] = map-append (types_in all) sb (last ∷ []) ∙ ap (λ z. z ++ (IntTy ∷ IntTy ∷ types) ∷ []) (expr_told all n (IntTy ∷ parts) b) in
    map-append (types_in all) (expr_shapes n parts a) (sb ++ last ∷ []) ∙ ap (λ z. z ++ map (types_in all) (sb ++ last ∷ [])) (expr_told all n parts a) ∙ ap (λ z. expr_types types a ++ z) suffix

stmt_told : (all : List Ty) (n : ℕ) (t : Ty) (s : Stmt) → map (types_in all) (stmt_shapes n t s) ≡ stmt_types (reverse (take n all)) t s
stmt_told all n t (LetStmt x e) = ap (λ z. reverse (take n all) ∷ z) (expr_told all n [] e)
stmt_told all n t (PrintStmt e) =
    let types = reverse (take n all) in
    let after : List Shape = record { variables = n; parts = t ∷ [] } ∷ record { variables = n; parts = [] } ∷ record { variables = n; parts = VoidTy ∷ [] } ∷ [] in
    ap (λ z. types ∷ z) (map-append (types_in all) (expr_shapes n [] e) after ∙ ap (λ z. z ++ (t ∷ types) ∷ types ∷ (VoidTy ∷ types) ∷ []) (expr_told all n [] e))

length_seen : (vars : Vars) → length (seen vars) ≡ length vars
length_seen [] = refl
length_seen (v ∷ vars) = ap (λ n. suc n) (length_seen vars)

-- the first of all variables are those in sight
seen_first : (all : List Ty) (vars : Vars) (rest : List Ty) → all ≡ reverse (seen vars) ++ rest → reverse (take (length vars) all) ≡ seen vars
seen_first all vars rest e =
    let n : length vars ≡ length (reverse (seen vars)) = sym (length-reverse (seen vars) ∙ length_seen vars) in
    ap (λ z. reverse (take (length vars) z)) e ∙ ap (λ k. reverse (take k (reverse (seen vars) ++ rest))) n ∙ ap (λ z. reverse z) (take-append_seam (reverse (seen vars)) rest) ∙ reverse-reverse (seen vars)

body_told : (all : List Ty) (vars : Vars) (body : List Stmt) → all ≡ reverse (seen vars) ++ declared_types vars body → map (types_in all) (body_shapes vars body) ≡ body_types vars body
body_told all vars [] e = ap (λ z. z ∷ []) (seen_first all vars [] e)
body_told all vars (s ∷ body) e =
    let t = type_of vars (expr_in s) in
    map-append (types_in all) (stmt_shapes (length vars) t s) (body_shapes (vars_after vars s) body) ∙ ap (λ z. z ++ map (types_in all) (body_shapes (vars_after vars s) body)) (stmt_told all (length vars) t s ∙ ap (λ z. stmt_types z t s) (seen_first all vars (declared_types vars (s ∷ body)) e)) ∙ ap (λ z. stmt_types (seen vars) t s ++ z) (body_told all (vars_after vars s) body (onward s e))
  where
    onward : (s : Stmt) → all ≡ reverse (seen vars) ++ declared_types vars (s ∷ body) → all ≡ reverse (seen (vars_after vars s)) ++ declared_types (vars_after vars s) body
    onward (PrintStmt x) e = e
    onward (LetStmt x y) e =
        let t = type_of vars y in
        let rest = declared_types ((x, t) ∷ vars) body in
        e ∙ sym (append_assoc (reverse (seen vars)) (t ∷ []) rest) ∙ ap (λ z. z ++ rest) (sym (reverse-append (t ∷ []) (seen vars)))

-- operand types for each instruction
expr_length : (sc : Scope) (types : List Ty) (e : Expr) → length (expr_code sc e) ≡ length (expr_types types e)
expr_length sc types (IntExpr m) = refl
expr_length sc types (StrExpr text) = refl
expr_length sc types (VarExpr x) = refl
expr_length sc types (AddExpr a b) = omega (arith, expr_length sc types a, expr_length (None ∷ sc) (IntTy ∷ types) b, length-append (expr_code sc a) (expr_code (None ∷ sc) b ++ Add ∷ []), length-append (expr_code (None ∷ sc) b) (Add ∷ []), length-append (expr_types types a) (expr_types (IntTy ∷ types) b ++ (IntTy ∷ IntTy ∷ types) ∷ []), length-append (expr_types (IntTy ∷ types) b) ((IntTy ∷ IntTy ∷ types) ∷ []))

stmt_length : (sc : Scope) (types : List Ty) (t : Ty) (s : Stmt) → length (stmt_code sc s) ≡ length (stmt_types types t s)
stmt_length sc types t (LetStmt x e) = omega (arith, expr_length sc types e)
stmt_length sc types t (PrintStmt e) = omega (arith, expr_length sc types e, length-append (expr_code sc e) (Print ∷ Take ∷ Discard 1 ∷ []), length-append (expr_types types e) ((t ∷ types) ∷ types ∷ (VoidTy ∷ types) ∷ []))

body_length : (sc : Scope) (vars : Vars) (body : List Stmt) → length (body_code sc body) ≡ length (body_types vars body)
body_length sc vars [] = refl
body_length sc vars (s ∷ body) =
    let t = type_of vars (expr_in s) in
    omega (arith, stmt_length sc (seen vars) t s, body_length (scope_after sc s) (vars_after vars s) body, length-append (stmt_code sc s) (body_code (scope_after sc s) body), length-append (stmt_types (seen vars) t s) (body_types (vars_after vars s) body))

-- where a variable is in sight, the operand at its depth has its type
pub record Sees (vars : Vars) (sc : Scope) (types : List Ty) : Type 0 where
  pub at : (x : List ℕ) (t : Ty) → var_type x vars ≡ Some t → slice_get types (depth_of x sc) ≡ Some t

get_next : (t : Ty) (types : List Ty) (n : ℕ) → slice_get (t ∷ types) (n + 1) ≡ slice_get types n
get_next t types n = let e : n + 1 ≡ suc n = omega arith in ap (λ m. slice_get (t ∷ types) m) e

sees_part : (vars : Vars) (sc : Scope) (types : List Ty) (t : Ty) → Sees vars sc types → Sees vars (None ∷ sc) (t ∷ types)
sees_part vars sc types t s = record { at = λ x u e. get_next t types (depth_of x sc) ∙ s.at x u e }

sees_stmt : (vars : Vars) (sc : Scope) (s : Stmt) → Sees vars sc (seen vars) → Sees (vars_after vars s) (scope_after sc s) (seen (vars_after vars s))
sees_stmt vars sc (PrintStmt e) s = s
sees_stmt vars sc (LetStmt y e) s = record { at = λ x u f. go x u (pointwise nat_eq x y) f }
  where
    go : (x : List ℕ) (u : Ty) (b : Bool) → (if b then Some (type_of vars e) else var_type x vars) ≡ Some u → slice_get (type_of vars e ∷ seen vars) (if b then 0 else depth_of x sc + 1) ≡ Some u
    go x u true f = f
    go x u false f = get_next (type_of vars e) (seen vars) (depth_of x sc) ∙ s.at x u f

module _ (code : List FuncCode) (f : ℕ) where
  stand_prefix : (p : ℕ) (is more : List Instr) (shapes rest : List (List Ty)) → length is ≡ length shapes → Stand code f p (is ++ more) (shapes ++ rest) → Stand code f p is shapes
  stand_prefix p [] more [] rest e s = tt
  stand_prefix p [] more (types ∷ shapes) rest e s = absurd (omega arith)
  stand_prefix p (i ∷ is) more [] rest e s = absurd (omega arith)
  stand_prefix p (i ∷ is) more (types ∷ shapes) rest e s = (s.0, s.1, stand_prefix (p + 1) is more shapes rest (omega arith) s.2)

  stand_suffix : (p : ℕ) (is more : List Instr) (shapes rest : List (List Ty)) → length is ≡ length shapes → Stand code f p (is ++ more) (shapes ++ rest) → Stand code f (p + length is) more rest
  stand_suffix p [] more [] rest e s = let z : p ≡ p + 0 = omega arith in subst (λ n. Stand code f n more rest) z s
  stand_suffix p [] more (types ∷ shapes) rest e s = absurd (omega arith)
  stand_suffix p (i ∷ is) more [] rest e s = absurd (omega arith)
  stand_suffix p (i ∷ is) more (types ∷ shapes) rest e s =
      let z : p + 1 + length is ≡ p + length (i ∷ is) = omega arith in
      subst (λ n. Stand code f n more rest) z (stand_suffix (p + 1) is more shapes rest (omega arith) s.2)

  agree_append : (p : ℕ) (is more : List Instr) (shapes rest : List (List Ty)) → AllAgree code f p is shapes → AllAgree code f (p + length is) more rest → AllAgree code f p (is ++ more) (shapes ++ rest)
  agree_append p [] more [] rest a b = let z : p + 0 ≡ p = omega arith in subst (λ n. AllAgree code f n more rest) z b
  agree_append p [] more (types ∷ shapes) rest a b = absurd a
  agree_append p (i ∷ is) more [] rest a b = absurd a
  agree_append p (i ∷ is) more (types ∷ shapes) rest a b =
      let z : p + length (i ∷ is) ≡ p + 1 + length is = omega arith in
      (a.0, agree_append (p + 1) is more shapes rest a.1 (subst (λ n. AllAgree code f n more rest) z b))

  -- an expression begins on its operands, and not with Take
  expr_starts : (p : ℕ) (sc : Scope) (types : List Ty) (e : Expr) (more : List Instr) (rest : List (List Ty)) → Stand code f p (expr_code sc e ++ more) (expr_types types e ++ rest) → Goes code f p types
  expr_starts p sc types (IntExpr m) more rest s = (s.1, ap is_take s.0)
  expr_starts p sc types (StrExpr text) more rest s = (s.1, ap is_take s.0)
  expr_starts p sc types (VarExpr x) more rest s = (s.1, ap is_take s.0)
  expr_starts p sc types (AddExpr a b) more rest s =
      let cb = expr_code (None ∷ sc) b ++ Add ∷ [] in
      let tb = expr_types (IntTy ∷ types) b ++ (IntTy ∷ IntTy ∷ types) ∷ [] in
      expr_starts p sc types a (cb ++ more) (tb ++ rest) (subst (λ z. Stand code f p z (expr_types types a ++ (tb ++ rest))) (append_assoc (expr_code sc a) cb more) (subst (λ z. Stand code f p ((expr_code sc a ++ cb) ++ more) z) (append_assoc (expr_types types a) tb rest) s))

  -- the same where nothing follows it
  expr_starts_alone : (p : ℕ) (sc : Scope) (types : List Ty) (e : Expr) → Stand code f p (expr_code sc e) (expr_types types e) → Goes code f p types
  expr_starts_alone p sc types (IntExpr m) s = (s.1, ap is_take s.0)
  expr_starts_alone p sc types (StrExpr text) s = (s.1, ap is_take s.0)
  expr_starts_alone p sc types (VarExpr x) s = (s.1, ap is_take s.0)
  expr_starts_alone p sc types (AddExpr a b) s = expr_starts p sc types a (expr_code (None ∷ sc) b ++ Add ∷ []) (expr_types (IntTy ∷ types) b ++ (IntTy ∷ IntTy ∷ types) ∷ []) s

  stmt_starts : (p : ℕ) (sc : Scope) (types : List Ty) (t : Ty) (s : Stmt) (more : List Instr) (rest : List (List Ty)) → Stand code f p (stmt_code sc s ++ more) (stmt_types types t s ++ rest) → Goes code f p types
  stmt_starts p sc types t (LetStmt x e) more rest s = (s.1, ap is_take s.0)
  stmt_starts p sc types t (PrintStmt e) more rest s = (s.1, ap is_take s.0)

  body_starts : (p : ℕ) (sc : Scope) (vars : Vars) (body : List Stmt) → Stand code f p (body_code sc body) (body_types vars body) → Goes code f p (seen vars)
  body_starts p sc vars [] s = (s.1, ap is_take s.0)
  body_starts p sc vars (t ∷ body) s = stmt_starts p sc (seen vars) (type_of vars (expr_in t)) t (body_code (scope_after sc t) body) (body_types (vars_after vars t) body) s

  pub expr_agrees : (p : ℕ) (vars : Vars) (sc : Scope) (types : List Ty) (e : Expr) → Sees vars sc types → IsTypedExpr vars e → Stand code f p (expr_code sc e) (expr_types types e) → Goes code f (p + length (expr_code sc e)) (type_of vars e ∷ types) → AllAgree code f p (expr_code sc e) (expr_types types e)
  expr_agrees p vars sc types (IntExpr m) see typed s g = (g, tt)
  expr_agrees p vars sc types (StrExpr text) see typed s g = (g, tt)
  expr_agrees p vars sc types (VarExpr x) see typed s g =
      let e : type_of vars (VarExpr x) ≡ typed.0 = ap (λ o. unwrap_or o VoidTy) typed.1 in
      ((typed.0, see.at x typed.0 typed.1, subst (λ z. Goes code f (p + 1) (z ∷ types)) e g), tt)
  expr_agrees p vars sc types (AddExpr a b) see typed s g =
      let ca = expr_code sc a in
      let cb = expr_code (None ∷ sc) b in
      let ta = expr_types types a in
      let tb = expr_types (IntTy ∷ types) b in
      let sum = (IntTy ∷ IntTy ∷ types) ∷ [] in
      let prefix = stand_prefix p ca (cb ++ Add ∷ []) ta (tb ++ sum) (expr_length sc types a) s in
      let suffix = stand_suffix p ca (cb ++ Add ∷ []) ta (tb ++ sum) (expr_length sc types a) s in
      let middle = stand_prefix (p + length ca) cb (Add ∷ []) tb sum (expr_length (None ∷ sc) (IntTy ∷ types) b) suffix in
      let last = stand_suffix (p + length ca) cb (Add ∷ []) tb sum (expr_length (None ∷ sc) (IntTy ∷ types) b) suffix in
      let len : p + length (ca ++ (cb ++ Add ∷ [])) ≡ p + length ca + length cb + 1 = omega (arith, length-append ca (cb ++ Add ∷ []), length-append cb (Add ∷ [])) in
      let after_a : Goes code f (p + length ca) (type_of vars a ∷ types) = subst (λ z. Goes code f (p + length ca) (z ∷ types)) (sym typed.1) (expr_starts (p + length ca) (None ∷ sc) (IntTy ∷ types) b (Add ∷ []) sum suffix) in
      let after_b : Goes code f (p + length ca + length cb) (type_of vars b ∷ IntTy ∷ types) = subst (λ z. Goes code f (p + length ca + length cb) (z ∷ IntTy ∷ types)) (sym typed.3) (last.1, ap is_take last.0) in
      let agrees_a = expr_agrees p vars sc types a see typed.0 prefix after_a in
      let agrees_b = expr_agrees (p + length ca) vars (None ∷ sc) (IntTy ∷ types) b (sees_part vars sc types IntTy see) typed.2 middle after_b in
      agree_append p ca (cb ++ Add ∷ []) ta (tb ++ sum) agrees_a (agree_append (p + length ca) cb (Add ∷ []) tb sum agrees_b ((types, refl, subst (λ n. Goes code f n (IntTy ∷ types)) len g), tt))

  pub stmt_agrees : (p : ℕ) (vars : Vars) (sc : Scope) (t : Stmt) → Sees vars sc (seen vars) → IsTypedStmt vars t → Stand code f p (stmt_code sc t) (stmt_types (seen vars) (type_of vars (expr_in t)) t) → Goes code f (p + length (stmt_code sc t)) (seen (vars_after vars t)) → AllAgree code f p (stmt_code sc t) (stmt_types (seen vars) (type_of vars (expr_in t)) t)
  stmt_agrees p vars sc (LetStmt x e) see typed s g =
      let types = seen vars in
      let len : p + length (stmt_code sc (LetStmt x e)) ≡ p + 1 + length (expr_code sc e) = omega arith in
      (expr_starts_alone (p + 1) sc types e s.2, expr_agrees (p + 1) vars sc types e see typed s.2 (subst (λ n. Goes code f n (type_of vars e ∷ types)) len g))
  stmt_agrees p vars sc (PrintStmt e) see typed s g =
      let types = seen vars in
      let ce = expr_code sc e in
      let te = expr_types types e in
      let is = Print ∷ Take ∷ Discard 1 ∷ [] in
      let shapes = (type_of vars e ∷ types) ∷ types ∷ (VoidTy ∷ types) ∷ [] in
      let suffix = stand_suffix (p + 1) ce is te shapes (expr_length sc types e) s.2 in
      let len : p + length (stmt_code sc (PrintStmt e)) ≡ p + 1 + length ce + 1 + 1 + 1 = omega (arith, length-append ce is) in
      let expr = expr_agrees (p + 1) vars sc types e see typed.0 (stand_prefix (p + 1) ce is te shapes (expr_length sc types e) s.2) (suffix.1, ap is_take suffix.0) in
      let waits : Waits code f (p + 1 + length ce + 1) VoidTy types = (suffix.2.0, suffix.2.1, (suffix.2.2.1, ap is_take suffix.2.2.0)) in
      let last : Agrees code f (p + 1 + length ce + 1 + 1) (Discard 1) (VoidTy ∷ types) = (omega arith, subst (λ n. Goes code f n types) len g) in
      (expr_starts (p + 1) sc types e is shapes s.2, agree_append (p + 1) ce is te shapes expr ((type_of vars e, types, refl, typed.1, waits), (tt, (last, tt))))

  pub body_agrees : (p : ℕ) (vars : Vars) (sc : Scope) (body : List Stmt) → Sees vars sc (seen vars) → IsTypedBody vars body → result_of code f ≡ VoidTy → Stand code f p (body_code sc body) (body_types vars body) → AllAgree code f p (body_code sc body) (body_types vars body)
  body_agrees p vars sc [] see typed r s = (r, tt)
  body_agrees p vars sc (t ∷ body) see typed r s =
      let ct = stmt_code sc t in
      let tys = stmt_types (seen vars) (type_of vars (expr_in t)) t in
      let cb = body_code (scope_after sc t) body in
      let tb = body_types (vars_after vars t) body in
      let len = stmt_length sc (seen vars) (type_of vars (expr_in t)) t in
      let prefix = stand_prefix p ct cb tys tb len s in
      let suffix = stand_suffix p ct cb tys tb len s in
      agree_append p ct cb tys tb (stmt_agrees p vars sc t see typed.0 prefix (body_starts (p + length ct) (scope_after sc t) (vars_after vars t) body suffix)) (body_agrees (p + length ct) (vars_after vars t) (scope_after sc t) body (sees_stmt vars sc t see) typed.1 r suffix)

  -- what stands, by its places
  agree_at : (p : ℕ) (is : List Instr) (shapes : List (List Ty)) → AllAgree code f p is shapes → (q : ℕ) (i : Instr) (types : List Ty) → slice_get is q ≡ Some i → slice_get shapes q ≡ Some types → Agrees code f (p + q) i types
  agree_at p [] shapes a q i types x y = absurd (cc)
  agree_at p (j ∷ is) [] a q i types x y = absurd (cc)
  agree_at p (j ∷ is) (ts ∷ shapes) a zero i types x y =
      let z : p ≡ p + 0 = omega arith in
      let ej : j ≡ i = cc in
      let et : ts ≡ types = cc in
      subst (λ n. Agrees code f n i types) z (subst (λ w. Agrees code f p i w) et (subst (λ w. Agrees code f p w ts) ej a.0))
  agree_at p (j ∷ is) (ts ∷ shapes) a (suc q) i types x y =
      let z : p + 1 + q ≡ p + suc q = omega arith in
      subst (λ n. Agrees code f n i types) z (agree_at (p + 1) is shapes a.1 q i types x y)

  -- code that stands from an address of a func to its end, with the types that its shapes are of
  stand_all : (instrs is pre : List Instr) (all types pre_types : List (List Ty)) → length is ≡ length types → length pre ≡ length pre_types → ((p : ℕ) → fetch code f p ≡ slice_get instrs p) → ((p : ℕ) → shape_at code f p ≡ slice_get all p) → instrs ≡ pre ++ is → all ≡ pre_types ++ types → Stand code f (length pre) is types
  stand_all instrs [] pre all [] pre_types e l c d x y = tt
  stand_all instrs [] pre all (ts ∷ types) pre_types e l c d x y = absurd (omega arith)
  stand_all instrs (i ∷ is) pre all [] pre_types e l c d x y = absurd (omega arith)
  stand_all instrs (i ∷ is) pre all (ts ∷ types) pre_types e l c d x y =
      let n : length (pre ++ i ∷ []) ≡ length pre + 1 = omega (arith, length-append pre (i ∷ [])) in
      let m : length (pre ++ i ∷ []) ≡ length (pre_types ++ ts ∷ []) = omega (arith, length-append pre (i ∷ []), length-append pre_types (ts ∷ [])) in
      let rest = stand_all instrs is (pre ++ i ∷ []) all types (pre_types ++ ts ∷ []) (omega arith) m c d (x ∙ sym (append_assoc pre (i ∷ []) is)) (y ∙ sym (append_assoc pre_types (ts ∷ []) types)) in
      let at_i = c (length pre) ∙ ap (λ l. slice_get l (length pre)) x ∙ seam pre i is in
      let at_types = d (length pre) ∙ ap (λ l. slice_get l (length pre)) y ∙ ap (λ n. slice_get (pre_types ++ ts ∷ types) n) l ∙ seam pre_types ts types in
      (at_i, at_types, subst (λ k. Stand code f k is types) n rest)
    where
      seam : {A : Type 0} (pre : List A) (x : A) (rest : List A) → slice_get (pre ++ x ∷ rest) (length pre) ≡ Some x
      seam [] x rest = refl
      seam (y ∷ pre) x rest = seam pre x rest

  -- where there are operand types, there is an instruction
  within : (is : List Instr) (shapes : List (List Ty)) → length is ≡ length shapes → (q : ℕ) (types : List Ty) → slice_get shapes q ≡ Some types → (i : Instr) × (slice_get is q ≡ Some i)
  within [] [] e q types x = absurd (cc)
  within [] (ts ∷ shapes) e q types x = absurd (omega arith)
  within (i ∷ is) [] e q types x = absurd (cc)
  within (i ∷ is) (ts ∷ shapes) e zero types x = (i, refl)
  within (i ∷ is) (ts ∷ shapes) e (suc q) types x = within is shapes (omega arith) q types x

  -- the code of a func is typed
  pub record FuncTyped : Type 0 where
    pub entry : Goes code f 0 []
    pub within_func : (p : ℕ) (types : List Ty) → shape_at code f p ≡ Some types → (i : Instr) × (fetch code f p ≡ Some i)
    pub each : (p : ℕ) (i : Instr) (types : List Ty) → fetch code f p ≡ Some i → shape_at code f p ≡ Some types → Agrees code f p i types

  pub func_typed : (func : Func) → IsTypedBody [] func.body → slice_get code f ≡ Some (func_code func) → FuncTyped
  func_typed func typed e =
      let is = body_code [] func.body in
      let types = body_types [] func.body in
      let all = declared_types [] func.body in
      let at_i : (p : ℕ) → fetch code f p ≡ slice_get is p = λ p. ap (λ o. instr_in o p) e in
      let at_types : (p : ℕ) → shape_at code f p ≡ slice_get types p = λ p. ap (λ o. shape_in o p) e ∙ sym (slice_get-map (types_in all) (body_shapes [] func.body) p) ∙ ap (λ l. slice_get l p) (body_told all [] func.body refl) in
      let len = body_length [] [] func.body in
      let stand = stand_all is is [] types types [] len refl at_i at_types refl refl in
      let agree = body_agrees 0 [] [] func.body (record { at = λ x t y. absurd (cc) }) typed (ap result_in e) stand in
      record {
        entry = body_starts 0 [] [] func.body stand;
        within_func = λ p ts x. let i = within is types len p ts (sym (at_types p) ∙ x) in (i.0, at_i p ∙ i.1);
        each = λ p i ts x y. let z : 0 + p ≡ p = omega arith in subst (λ n. Agrees code f n i ts) z (agree_at 0 is types agree p i ts (sym (at_i p) ∙ x) (sym (at_types p) ∙ y));
      }

  -- a func that is none has no operand types
  no_shape : slice_get code f ≡ None → (p : ℕ) (types : List Ty) → shape_at code f p ≡ Some types → ⊥
  no_shape e p types x = let y = sym (ap (λ o. shape_in o p) e) ∙ x in cc

-- code of which each func is lowered from a typed one is typed
pub typed_code : (funcs : List Func) (code : List FuncCode) → ((f : ℕ) → slice_get code f ≡ option_map func_code (slice_get funcs f)) → ((f : ℕ) (func : Func) → slice_get funcs f ≡ Some func → IsTypedBody [] func.body) → IsTyped code
typed_code funcs code knows typed = record {
  entries = λ f func e. entries f func (slice_get funcs f) (knows f) (typed f) e;
  within = λ f p types x. inside f p types (slice_get funcs f) (knows f) (typed f) x;
  each = λ f p i types x y. agrees f p i types (slice_get funcs f) (knows f) (typed f) x y;
}
  where
    entries : (f : ℕ) (func : FuncCode) (o : Option Func) → slice_get code f ≡ option_map func_code o → ((fn : Func) → o ≡ Some fn → IsTypedBody [] fn.body) → slice_get code f ≡ Some func → Goes code f 0 []
    entries f func None e t x = absurd (cc)
    entries f func (Some fn) e t x = (func_typed code f fn (t fn refl) e).entry

    inside : (f p : ℕ) (types : List Ty) (o : Option Func) → slice_get code f ≡ option_map func_code o → ((fn : Func) → o ≡ Some fn → IsTypedBody [] fn.body) → shape_at code f p ≡ Some types → (i : Instr) × (fetch code f p ≡ Some i)
    inside f p types None e t x = absurd (no_shape code f e p types x)
    inside f p types (Some fn) e t x = (func_typed code f fn (t fn refl) e).within_func p types x

    agrees : (f p : ℕ) (i : Instr) (types : List Ty) (o : Option Func) → slice_get code f ≡ option_map func_code o → ((fn : Func) → o ≡ Some fn → IsTypedBody [] fn.body) → fetch code f p ≡ Some i → shape_at code f p ≡ Some types → Agrees code f p i types
    agrees f p i types None e t x y = absurd (no_shape code f e p types y)
    agrees f p i types (Some fn) e t x y = (func_typed code f fn (t fn refl) e).each p i types x y

all_at : (funcs : List Func) → AllByRecursion (λ d. IsTypedBody [] d.body) funcs → (f : ℕ) (func : Func) → slice_get funcs f ≡ Some func → IsTypedBody [] func.body
all_at [] all f func e = absurd (cc)
all_at (d ∷ funcs) all zero func e = let same : d ≡ func = cc in subst (λ z. IsTypedBody [] z.body) same all.0
all_at (d ∷ funcs) all (suc f) func e = all_at funcs all.1 f func e

-- the code of typed funcs is typed
pub typed_map : (funcs : List Func) → AllByRecursion (λ d. IsTypedBody [] d.body) funcs → IsTyped (map func_code funcs)
typed_map funcs all = typed_code funcs (map func_code funcs) (λ f. slice_get-map func_code funcs f) (all_at funcs all)
