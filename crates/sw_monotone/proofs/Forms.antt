-- An expression has a type only if its parts have one; and where they are the same, it is the same when more is known.
use Rattle.std.proofs.Common.{◌≡◌, refl, sym, ap, ◌∙◌, subst, ℕ, Bool, true, false, not, cond, ◌&&◌, Option, Some, None, is_some, List, [], ◌∷◌}
use Rattle.std.specs.Option.{option_and_then, option_map}
use Rattle.sw_base.specs.declared.ids.Span.{Span}
use Rattle.sw_value.specs.declared.ty.Ty.{Ty}
use Rattle.sw_tree.specs.declared.expr.Name.{Name}
use Rattle.sw_tree.specs.declared.expr.TryForm.{TryForm}
use Rattle.sw_tree.specs.declared.expr.TryForm.TheVariants as tries
use Rattle.sw_tree.specs.declared.expr.PrefixOperator.{PrefixOperator}
use Rattle.sw_tree.specs.declared.expr.BinaryOperator.{BinaryOperator}
use Rattle.sw_typed.specs.Syntax as x
use Rattle.sw_typed.specs.declared.entity.Entity.{Entity}
use Rattle.sw_typed.specs.declared.entity.Entity.TheVariants as entity
use Rattle.sw_typed.specs.declared.entity.BuiltIn.TheVariants as built_in
use Rattle.sw_typed.specs.declared.expr.Typed.{Typed}
use Rattle.sw_typed.specs.declared.expr.TypedPiece.{TypedPiece}
use Rattle.sw_typed.specs.declared.expr.Form.TheVariants as form
use Rattle.sw_declared.specs.Members.{Label}
use Rattle.sw_locals.specs.InBody.{local_named}
use Rattle.sw_typing.specs.declared.facts.Facts.{Facts}
use Rattle.sw_typing.specs.declared.need.Need.{Need}
use Rattle.sw_typing.specs.Conversions.{fitted, typed}
use Rattle.sw_typing.specs.Operators.{is_incomparable, operation_type, signed_type, string, type_of_both}
use Rattle.sw_typing.specs.Types.{array, element, optional, wrapped}
use Rattle.sw_resolve.specs.declared.scope.Scope.{Scope}
use Rattle.sw_resolve.specs.declared.standing.Standing.{Standing}
use Rattle.sw_resolve.specs.declared.standing.Standing.TheVariants.{Value, «Type»}
use Rattle.sw_resolve.specs.declared.callee.Callee.{Callee}
use Rattle.sw_resolve.specs.declared.callee.Called.{Called}
use Rattle.sw_resolve.specs.declared.callee.Called.TheVariants as called
use Rattle.sw_resolve.specs.Scopes.{names_type}
use Rattle.sw_resolve.specs.Standings.{member}
use Rattle.sw_resolve.specs.Callees.{called_there, value_called}
use Rattle.sw_check_expr.specs.Forms.{Told, all_printed, all_typed, array_type, call_type, indexed_type, is_printed, is_unprintable, of_branches, of_call, of_elements, of_index, of_operands, of_self, of_string, of_waited, piece, prints_unprintable, string_type, ternary_type, try_type, type_before, type_by_name, type_standing}
use Rattle.sw_check_expr.specs.Typing.{type_or_value}
use Rattle.sw_monotone.specs.Growth.{AreFactsBelow, GrowsTo, all_values_typed}
use Rattle.sw_monotone.proofs.Declarations.{IsThere}
use Rattle.sw_monotone.proofs.Known.{fitted_same, fitted_there, is_printable_same, operation_type_same}
use Rattle.sw_monotone.proofs.Seen.{IsKept, local_same, member_kept, member_there, names_type_same, own_type_same, type_named_same}
use Rattle.sw_monotone.proofs.Called.{Gives, IsCalledKept, called_there_gives, called_there_kept}

-- ---- types of forms

map_there : {A B : Type 0} (f : A → B) (o : Option A) → IsThere (option_map f o) → IsThere o
map_there f None h = absurd h
map_there f (Some x) h = tt

then_there : {A B : Type 0} (f : A → Option B) (o : Option A) → IsThere (option_and_then f o) → IsThere o
then_there f None h = absurd h
then_there f (Some x) h = tt

pub try_there : (f : TryForm) (o : Option Ty) → IsThere (try_type f o) → IsThere o
unfolding try_type
try_there tries.Plain o h = h
try_there tries.Optional o h = map_there (λ u. optional u) o h

pub sign_there : (operator : PrefixOperator) (o : Option Ty) → IsThere (signed_type operator o) → IsThere o
unfolding signed_type
sign_there operator None h = absurd h
sign_there operator (Some t) h = tt

pub force_there : (o : Option Ty) → IsThere (option_and_then (λ t. wrapped t) o) → IsThere o
force_there o h = then_there (λ t. wrapped t) o h

both_there : (operator : BinaryOperator) (a b : Option Ty) → IsThere (type_of_both operator a b) → IsThere a × IsThere b
unfolding type_of_both
both_there operator None b h = absurd h
both_there operator (Some a) None h = absurd h
both_there operator (Some a) (Some b) h = (tt, tt)

unless_there : (t : Bool) (o : Option Ty) → IsThere (cond t None o) → IsThere o
unless_there true o h = absurd h
unless_there false o h = h

operation_there : (k : Facts) (operator : BinaryOperator) (a b : Option Ty) → IsThere (operation_type k operator a b) → IsThere a × IsThere b
unfolding operation_type
operation_there k operator a b h = both_there operator a b (unless_there (is_incomparable k operator a b) _ h)

pub ternary_there : (c a b : Option Ty) → IsThere (ternary_type c a b) → IsThere c × IsThere a × IsThere b
unfolding ternary_type
ternary_there c a None h = absurd h
ternary_there None a (Some u) h = absurd h
ternary_there (Some t) None (Some u) h = absurd h
ternary_there (Some t) (Some v) (Some u) h = (tt, tt, tt)

pub indexed_there : (a i : Option Ty) → IsThere (indexed_type a i) → IsThere a × IsThere i
unfolding indexed_type
indexed_there a None h = absurd h
indexed_there a (Some t) h = (then_there (λ u. element u) a h, tt)

-- ---- lists

abbrev pub AllThere : List Typed → Type 0
AllThere [] = Unit {0}
AllThere (e ∷ es) = IsThere e.ty × AllThere es

abbrev pub AllPiecesThere : List TypedPiece → Type 0
AllPiecesThere [] = Unit {0}
AllPiecesThere (p ∷ ps) = IsThere p.value.ty × AllPiecesThere ps

some_there : (o : Option Ty) → is_some o ≡ true → IsThere o
some_there None h = absurd (cc)
some_there (Some t) h = tt

both_true : (a b : Bool) → (a && b) ≡ true → (a ≡ true) × (b ≡ true)
both_true true b h = (refl, h)
both_true false b h = absurd (cc)

pub all_there : (es : List Typed) → all_typed es ≡ true → AllThere es
all_there [] h = tt
all_there (e ∷ es) h = let hs = both_true (is_some e.ty) (all_typed es) h in (some_there e.ty hs.0, all_there es hs.1)

pub all_pieces_there : (ps : List TypedPiece) → all_values_typed ps ≡ true → AllPiecesThere ps
all_pieces_there [] h = tt
all_pieces_there (p ∷ ps) h = let hs = both_true (is_some p.value.ty) (all_values_typed ps) h in (some_there p.value.ty hs.0, all_pieces_there ps hs.1)

if_there : (t : Bool) (o : Option Ty) → IsThere (cond t o None) → (t ≡ true) × IsThere o
if_there true o h = (refl, h)
if_there false o h = absurd h

pub array_there : (e : Typed) (es : List Typed) → IsThere (array_type (e ∷ es)) → IsThere e.ty × AllThere es
unfolding array_type
array_there e es h =
    let hs = if_there (all_typed es) (option_map (λ t. array t) e.ty) h in (map_there (λ t. array t) e.ty hs.1, all_there es hs.0)

printed_there : (k : Facts) (o : Option Ty) → is_printed k o ≡ true → IsThere o
unfolding is_printed
printed_there k None h = absurd (cc)
printed_there k (Some t) h = tt

all_printed_there : (k : Facts) (ps : List TypedPiece) → all_printed k ps ≡ true → AllPiecesThere ps
all_printed_there k [] h = tt
all_printed_there k (p ∷ ps) h = let hs = both_true (is_printed k p.value.ty) (all_printed k ps) h in (printed_there k p.value.ty hs.0, all_printed_there k ps hs.1)

string_there : (k : Facts) (ps : List TypedPiece) → IsThere (string_type k ps) → AllPiecesThere ps
unfolding string_type
string_there k ps h = all_printed_there k ps (if_there (all_printed k ps) (Some string) h).0

call_there : (k : Facts) (callee : Callee) (es : List Typed) → IsThere (call_type k callee es) → IsThere callee.gives × AllThere es
unfolding call_type
call_there k callee es h =
    let hs = if_there (all_typed es && not (prints_unprintable k callee.entity es)) callee.gives h in
    (hs.1, all_there es (both_true (all_typed es) (not (prints_unprintable k callee.entity es)) hs.0).0)

of_call_there : (s : Scope) (c : Called) (es : List Typed) → IsThere (of_call s c es).ty → Gives c × AllThere es
unfolding of_call
of_call_there s (called.Callee callee) es h = call_there s.known.now callee es h
of_call_there s (called.Nothing at parts) es h = absurd h

-- ---- what reads of what is known whether values can be printed

module _ (k k' : Facts) (below : AreFactsBelow k k') where
  printed_same : (o : Option Ty) → is_printed k' o ≡ is_printed k o
  unfolding is_printed
  printed_same None = refl
  printed_same (Some t) = is_printable_same k k' below t

  all_printed_same : (ps : List TypedPiece) → all_printed k' ps ≡ all_printed k ps
  all_printed_same [] = refl
  all_printed_same (p ∷ ps) = ap (λ t. t && all_printed k' ps) (printed_same p.value.ty) ∙ ap (λ t. is_printed k p.value.ty && t) (all_printed_same ps)

  pub string_type_same : (ps : List TypedPiece) → string_type k' ps ≡ string_type k ps
  unfolding string_type
  string_type_same ps = ap (λ t. cond t (Some string) None) (all_printed_same ps)

  unprintable_same : (o : Option Ty) → is_unprintable k' o ≡ is_unprintable k o
  unfolding is_unprintable
  unprintable_same None = refl
  unprintable_same (Some t) = ap (λ b. not b) (is_printable_same k k' below t)

  prints_same : (e : Entity) (es : List Typed) → prints_unprintable k' e es ≡ prints_unprintable k e es
  unfolding prints_unprintable
  prints_same (entity.BuiltIn built_in.Print) (e ∷ []) = unprintable_same e.ty
  prints_same entity es = refl

  call_type_same : (callee : Callee) (es : List Typed) → call_type k' callee es ≡ call_type k callee es
  unfolding call_type
  call_type_same callee es = ap (λ t. cond (all_typed es && not t) callee.gives None) (prints_same callee.entity es)

-- ---- each form, from its parts

abbrev pub AllKept : List Typed → List Typed → Type 0
AllKept es es' = AllThere es → es' ≡ es

abbrev pub AllPiecesKept : List TypedPiece → List TypedPiece → Type 0
AllPiecesKept ps ps' = AllPiecesThere ps → ps' ≡ ps

-- a form of one part, whose type is there only if that of the part is
pub round_kept : (f : Typed → Typed) → ((e : Typed) → IsThere (f e).ty → IsThere e.ty) → (e e' : Typed) → IsKept e e' → IsKept (f e) (f e')
round_kept f strict e e' kept there = ap f (kept (strict e there))

-- a part that is told behind another, whose type it takes
pub behind_kept : (f f' : Option Ty → Typed) (e e' : Typed) → IsKept e e' → ((t : Option Ty) → IsKept (f t) (f' t)) → IsThere e.ty → IsKept (f e.ty) (f' e'.ty)
behind_kept f f' e e' kept kept_behind here there = ap (λ (e : Typed). f' e.ty) (kept here) ∙ kept_behind e.ty there

pub all_behind_kept : (f f' : Option Ty → List Typed) (e e' : Typed) → IsKept e e' → ((t : Option Ty) → AllKept (f t) (f' t)) → IsThere e.ty → AllKept (f e.ty) (f' e'.ty)
all_behind_kept f f' e e' kept kept_behind here there = ap (λ (e : Typed). f' e.ty) (kept here) ∙ kept_behind e.ty there

pub chosen_kept : (t : Bool) (a a' b b' : Told) → IsKept a.typed a'.typed → IsKept b.typed b'.typed → IsKept (cond t a b).typed (cond t a' b').typed
chosen_kept true a a' b b' h k = h
chosen_kept false a a' b b' h k = k

pub branches_kept : (c c' a a' b b' : Typed) → IsKept c c' → IsKept a a' → (IsThere a.ty → IsKept b b') → IsKept (of_branches c a b) (of_branches c' a' b')
branches_kept c c' a a' b b' kc ka kb there =
    let h = ternary_there c.ty a.ty b.ty there in
    ap (λ e. of_branches e a' b') (kc h.0) ∙ ap (λ e. of_branches c e b') (ka h.1) ∙ ap (λ e. of_branches c a e) (kb h.1 h.2)

pub index_kept : (here : Span) (a a' i i' : Typed) → IsKept a a' → (IsThere a.ty → IsKept i i') → IsKept (of_index here a i) (of_index here a' i')
index_kept here a a' i i' ka ki there =
    let h = indexed_there a.ty i.ty there in ap (λ e. of_index here e i') (ka h.0) ∙ ap (λ e. of_index here a e) (ki h.0 h.1)

pub elements_kept : (here : Span) (e e' : Typed) (es es' : List Typed) → IsKept e e' → (IsThere e.ty → AllKept es es') → IsKept (of_elements here (e ∷ es)) (of_elements here (e' ∷ es'))
elements_kept here e e' es es' kept kept_behind there =
    let h = array_there e es there in ap (λ e. of_elements here (e ∷ es')) (kept h.0) ∙ ap (λ es. of_elements here (e ∷ es)) (kept_behind h.0 h.1)

pub pieces_kept : (e e' : Typed) (text : List ℕ) (ps ps' : List TypedPiece) → IsKept e e' → AllPiecesKept ps ps' → AllPiecesKept (piece e text ∷ ps) (piece e' text ∷ ps')
pieces_kept e e' text ps ps' k ks there = ap (λ e. piece e text ∷ ps') (k there.0) ∙ ap (λ ps. piece e text ∷ ps) (ks there.1)

pub value_called_kept : (e e' : Typed) → IsCalledKept (value_called e) (value_called e')
unfolding value_called
value_called_kept e e' = λ gives. absurd gives

pub list_kept : (e e' : Typed) (es es' : List Typed) → IsKept e e' → AllKept es es' → AllKept (e ∷ es) (e' ∷ es')
list_kept e e' es es' k ks there = ap (λ e. e ∷ es') (k there.0) ∙ ap (λ es. e ∷ es) (ks there.1)

module _ (s s' : Scope) (grows : GrowsTo s s') where
  pub fitted_kept : (n : Need) (e e' : Typed) → IsKept e e' → IsKept (fitted s.known.now n e) (fitted s'.known.now n e')
  fitted_kept n e e' kept there =
      ap (fitted s'.known.now n) (kept (fitted_there s.known.now n e there)) ∙ fitted_same s.known.now s'.known.now grows.known n e

  pub operands_kept : (operator : BinaryOperator) (here : Span) (a a' b b' : Typed) → (IsThere b.ty → IsKept a a') → (IsThere a.ty → IsKept b b')
      → IsKept (of_operands s operator here a b) (of_operands s' operator here a' b')
  operands_kept operator here a a' b b' ka kb there =
      let h = operation_there s.known.now operator a.ty b.ty there in
      ap (λ e. of_operands s' operator here e b') (ka h.1 h.0)
      ∙ ap (λ e. of_operands s' operator here a e) (kb h.0 h.1)
      ∙ ap (λ t. typed t a.first (of_operands s operator here a b).form) (operation_type_same s.known.now s'.known.now grows.known operator a.ty b.ty)

  pub string_kept : (here : Span) (text : List ℕ) (ps ps' : List TypedPiece) → AllPiecesKept ps ps' → IsKept (of_string s here text ps) (of_string s' here text ps')
  string_kept here text ps ps' kept there =
      ap (of_string s' here text) (kept (string_there s.known.now ps there))
      ∙ ap (λ t. typed t here (form.Text text ps)) (string_type_same s.known.now s'.known.now grows.known ps)

  pub self_kept : (here : Span) → of_self s' here ≡ of_self s here
  self_kept here = ap (λ t. typed t here form.SelfValue) (own_type_same s s' grows)

  pub waited_kept : (here : Span) (name : List ℕ) → of_waited here (local_named name s'.locals.now) ≡ of_waited here (local_named name s.locals.now)
  waited_kept here name = ap (of_waited here) (local_same s s' grows name)

  -- ---- calls

  of_call_same : (c : Called) (es : List Typed) → of_call s' c es ≡ of_call s c es
  unfolding of_call
  of_call_same (called.Callee callee) es =
      ap (λ t. typed t callee.first (form.Call callee.entity callee.receiver callee.at es)) (call_type_same s.known.now s'.known.now grows.known callee es)
  of_call_same (called.Nothing at parts) es = refl

  pub call_kept : (args args' : Called → List Typed) → ((c : Called) → AllKept (args c) (args' c)) → (c c' : Called) → IsCalledKept c c' → IsKept (of_call s c (args c)) (of_call s' c' (args' c'))
  call_kept args args' kept_args c c' kept there =
      let h = of_call_there s c (args c) there in
      ap (λ c. of_call s' c (args' c)) (kept h.0) ∙ ap (of_call s' c) (kept_args c h.1) ∙ of_call_same c (args c)

  -- ---- what stands before a `.`

  standing_same : (name : Name) → type_standing s' name ≡ type_standing s name
  standing_same name = ap (λ b. «Type» b name.span) (type_named_same s s' grows name.text)

  by_name_same : (name : Name) → type_by_name s' name ≡ type_by_name s name
  unfolding type_by_name
  by_name_same name = ap (λ t. cond t (Some (type_standing s' name)) None) (names_type_same s s' grows name.text) ∙ ap (λ st. cond (names_type s name.text) (Some st) None) (standing_same name)

  type_before_same : (e : x.Expr) → type_before s' e ≡ type_before s e
  type_before_same (x.Named name) = by_name_same name
  type_before_same e = refl

  member_on_kept : (o : Option Standing) (t t' : Told) → IsKept t.typed t'.typed → (name : Name) → IsKept (member s (type_or_value o t).standing name) (member s' (type_or_value o t').standing name)
  unfolding type_or_value
  member_on_kept None t t' kept name = λ there. ap (λ e. member s' (Value e) name) (kept (member_there s t.typed name there)) ∙ member_kept s s' grows (Value t.typed) name there
  member_on_kept (Some st) t t' kept name = member_kept s s' grows st name

  pub member_of_kept : (e : x.Expr) (t t' : Told) → IsKept t.typed t'.typed → (name : Name)
      → IsKept (member s (type_or_value (type_before s e) t).standing name) (member s' (type_or_value (type_before s' e) t').standing name)
  member_of_kept e t t' kept name =
      subst (λ o. IsKept (member s (type_or_value (type_before s e) t).standing name) (member s' (type_or_value o t').standing name)) (sym (type_before_same e))
      (member_on_kept (type_before s e) t t' kept name)

  called_on_kept : (o : Option Standing) (t t' : Told) → IsKept t.typed t'.typed → (name : Name) (labels : List Label)
      → IsCalledKept (called_there s (type_or_value o t).standing name labels) (called_there s' (type_or_value o t').standing name labels)
  unfolding type_or_value
  called_on_kept None t t' kept name labels = λ gives.
      ap (λ e. called_there s' (Value e) name labels) (kept (called_there_gives s t.typed name labels gives)) ∙ called_there_kept s s' grows (Value t.typed) name labels gives
  called_on_kept (Some st) t t' kept name labels = called_there_kept s s' grows st name labels

  pub called_of_kept : (e : x.Expr) (t t' : Told) → IsKept t.typed t'.typed → (name : Name) (labels : List Label)
      → IsCalledKept (called_there s (type_or_value (type_before s e) t).standing name labels) (called_there s' (type_or_value (type_before s' e) t').standing name labels)
  called_of_kept e t t' kept name labels =
      subst (λ o. IsCalledKept (called_there s (type_or_value (type_before s e) t).standing name labels) (called_there s' (type_or_value o t').standing name labels)) (sym (type_before_same e))
      (called_on_kept (type_before s e) t t' kept name labels)
